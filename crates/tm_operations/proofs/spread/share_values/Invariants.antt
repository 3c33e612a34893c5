use Rattle.std.proofs.Common.{◌≡◌, ◌++◌, take}
use Rattle.tm_operations.proofs.spread.share_values.Given as goal

-- what was shared so far stands after what was there
abbrev pub invariant-loop-value : goal.invariant-loop-value
invariant-loop-value l = l.all.items ≡ l.initial.all.items ++ take l.value-index l.values
