use Rattle.std.proofs.Common.{◌∙◌, sym, subst, Some}
use Rattle.std.specs.Prelude.{drop}
use Rattle.tm_scopes.specs.Pairs.{IsPlace}
use Rattle.tm_scopes.proofs.Marks.{get-drop, kept_set, rest-of, stored_set}
use Rattle.tm_scopes.proofs.Ordered.{the_name}
use Rattle.tm_scopes.proofs.mark.ScopeMark.insert.Goals as goal

pub returns-in-Some-clause-kept : goal.returns-in-Some-clause-kept
returns-in-Some-clause-kept c =
    let m = c.args.self.now in
    let all = c.args.all.now.items in
    let n = c.in-Some.place in
    let pair = c.index_mut.result.now in
    let place = subst (λ ps. IsPlace c.args.name ps (Some n)) (rest-of m.first c.deref.result.now all c.deref.ensures.value)
    c.in-Some.ensures in
    kept_set m all c.args.name c.args.value n pair.0 c.requires
    (the_name c.args.name (drop m.first all) n pair place (c.index_mut.ensures.value ∙ sym (get-drop m.first n pair all))) place

pub returns-in-Some-clause-ok : goal.returns-in-Some-clause-ok
returns-in-Some-clause-ok c =
    let m = c.args.self.now in
    let all = c.args.all.now.items in
    let n = c.in-Some.place in
    let pair = c.index_mut.result.now in
    let place = subst (λ ps. IsPlace c.args.name ps (Some n)) (rest-of m.first c.deref.result.now all c.deref.ensures.value)
    c.in-Some.ensures in
    stored_set m all c.args.name c.args.value n pair.0
    (the_name c.args.name (drop m.first all) n pair place (c.index_mut.ensures.value ∙ sym (get-drop m.first n pair all))) place
