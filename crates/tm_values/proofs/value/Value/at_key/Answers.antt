use Rattle.std.proofs.Common.{◌≡◌, List, subst, ap, None, Some, ◌∙◌}
use Rattle.tm_values.proofs.Maps.{find-read, find-gap}
use Rattle.tm_values.specs.Map.{find}
use Rattle.tm_values.specs.Val.{Val}
use Rattle.tm_values.proofs.value.Value.at_key.Goals as goal

pub returns-in-Ok : goal.returns-in-Ok
returns-in-Ok c =
    let k = c.args.key.now in
    let x = c.index-pairs-at.result in
    let found = find-read k c.pairs-pairs.result.now c.in-Ok.at x c.pairs-pairs.ensures.ordered c.in-Ok.ensures c.index-pairs-at.is in
    subst (λ (l : List (Val × Val)). find k l ≡ Some x.1) c.pairs-pairs.ensures.pairs found
    ∙ ap (λ (p : Val × Val). Some p.1) c.index-pairs-at.is

pub returns-in-Err : goal.returns-in-Err
returns-in-Err c =
    let k = c.args.key.now in
    subst (λ (l : List (Val × Val)). find k l
    ≡ None) c.pairs-pairs.ensures.pairs (find-gap k c.pairs-pairs.result.now c.in-Err.field-0 c.in-Err.ensures)
