use Rattle.std.proofs.Common.{◌∙◌, sym, ap}
use Rattle.tm_syntax.specs.Named.{find, put}
use Rattle.tm_scopes.specs.Pairs.{in_order}
use Rattle.tm_scopes.proofs.Ordered.{find-in_order, put_after}
use Rattle.tm_scopes.proofs.pairs.Pairs.push.Goals as goal

pub returns : goal.returns
returns c =
    let x = c.args.name in
    let all = c.self.inside.all.items in
    ap in_order c.in-Ok.ensures.items
    ∙ put_after x c.args.value all (sym (find-in_order x all) ∙ ap (find x) c.self.view_is ∙ c.requires)
    ∙ ap (put x c.args.value) c.self.view_is
