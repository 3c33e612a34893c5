use Rattle.std.proofs.Common.{◌≡◌, ◌++◌, take}
use Rattle.tm_values.proofs.sharing.share_each.Given as goal

-- what was shared so far stands after what was there
abbrev pub invariant-loop-value : goal.invariant-loop-value
invariant-loop-value l = l.out.items ≡ l.initial.out.items ++ take l.value-index l.values
