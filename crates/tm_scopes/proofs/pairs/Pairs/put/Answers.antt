use Rattle.std.proofs.Common.{◌≡◌, ◌∙◌, ◌++◌, ◌∷◌, [], ap, subst, sym, Some, None}
use Rattle.tm_syntax.specs.Named.{find, put}
use Rattle.tm_scopes.specs.Pairs.{IsPlace, in_order}
use Rattle.tm_scopes.proofs.Ordered.{find-in_order, put_after, put_at, the_name}
use Rattle.tm_scopes.proofs.pairs.Pairs.put.Goals as goal

pub returns-in-Some : goal.returns-in-Some
returns-in-Some c =
    let x = c.args.name.now in
    let all = c.self.inside.all.items in
    let place = subst (λ ps. IsPlace x ps (Some c.in-Some.place)) c.deref.ensures.value c.in-Some.ensures in
    put_at x c.args.value c.index_mut.result.now.0 all c.in-Some.place
    (the_name x all c.in-Some.place c.index_mut.result.now place c.index_mut.ensures.value) place
    ∙ ap (put x c.args.value) c.self.view_is

pub push-requires : goal.push-requires
push-requires c =
    let x = c.args.name.now in
    ap (λ y. find y c.args.self.now) c.in-Ok.ensures ∙ ap (find x) (sym c.self.view_is) ∙ find-in_order x c.self.inside.all.items
    ∙ subst (λ ps. find x ps ≡ None) c.deref.ensures.value c.in-None.ensures

pub returns-else-len-capacity : goal.returns-else-len-capacity
returns-else-len-capacity c =
    let x = c.args.name.now in
    let all = c.self.inside.all.items in
    ap in_order c.push_reserved.ensures.items ∙ ap (λ y. in_order (all ++ (y, c.args.value) ∷ [])) c.in-Ok.ensures
    ∙ put_after x c.args.value all (subst (λ ps. find x ps ≡ None) c.deref.ensures.value c.in-None.ensures)
    ∙ ap (put x c.args.value) c.self.view_is
