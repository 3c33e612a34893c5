use Rattle.std.proofs.Common.{◌≡◌, List, subst, None, Some, ◌∙◌}
use Rattle.tm_values.proofs.Maps.{find-read, find-gap}
use Rattle.tm_values.specs.Map.{find, IsThere}
use Rattle.tm_values.specs.Val.{Val}
use Rattle.tm_values.proofs.map.ValueMap.get.Goals as goal

pub returns-in-Ok : goal.returns-in-Ok
returns-in-Ok c =
    let k = c.args.key.now in
    let x = c.index.result.now in
    let there = subst (λ (l : List (Val × Val)). IsThere k l c.in-Ok.at) c.deref.ensures.value c.in-Ok.ensures in
    let found = find-read k c.self.inside.pairs.items c.in-Ok.at x c.self.invariant there c.index.ensures in
    subst (λ (l : List (Val × Val)). find k l ≡ Some x.1) c.self.view_is found

pub returns-in-Err : goal.returns-in-Err
returns-in-Err c =
    let k = c.args.key.now in
    subst (λ (l : List (Val × Val)). find k l ≡ None) (c.deref.ensures.value
    ∙ c.self.view_is) (find-gap k c.deref.result.now c.in-Err.field-0 c.in-Err.ensures)
