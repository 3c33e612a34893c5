use Rattle.std.proofs.Common.{List, subst, sym, ◌∙◌}
use Rattle.tm_values.proofs.Maps.{map-put, put-read, put-gap}
use Rattle.tm_values.specs.Map.{IsMap, IsThere, IsGapFor}
use Rattle.tm_values.specs.Val.{Val}
use Rattle.tm_values.proofs.map.put_pair.Goals as goal

-- what is written there is what `put` gives, and `put` keeps the order
pub returns-in-Ok : goal.returns-in-Ok
returns-in-Ok c =
    let there = subst (λ (l : List (Val × Val)). IsThere c.args.key l c.in-Ok.at) c.deref.ensures.value c.in-Ok.ensures in
    let written = put-read c.args.key c.args.value c.args.pairs.now.items c.in-Ok.at c.index_mut.result.now c.requires there
    c.index_mut.ensures.value in
    record {
      outcome = sym written;
      unchanged = tt;
      ordered = subst IsMap written (map-put c.args.key c.args.value c.args.pairs.now.items c.requires);
    }

pub returns-in_ok-insert-in-Err : goal.returns-in_ok-insert-in-Err
returns-in_ok-insert-in-Err c =
    let gap = subst (λ (l : List (Val × Val)). IsGapFor c.args.key l c.in-Err.at) c.deref.ensures.value c.in-Err.ensures in
    let added = put-gap c.args.key c.args.value c.args.pairs.now.items c.in-Err.at gap ∙ sym c.in_ok-insert-in-Err.ensures.items in
    record {
      outcome = sym added;
      unchanged = tt;
      ordered = subst IsMap added (map-put c.args.key c.args.value c.args.pairs.now.items c.requires);
    }
