use Rattle.tm_printing.specs.Unchecked.{Stands, nothing, to_check}
use Rattle.tm_printing.proofs.check.check.Given as goal

abbrev pub decreases-loop-last : goal.decreases-loop-last
decreases-loop-last g l = to_check (g.R.Records.records l.records) l.left.items l.marks.items

-- what is left is left of the whole value
abbrev pub invariant-loop-last : goal.invariant-loop-last
invariant-loop-last g l = Stands l.form (g.R.Records.records l.records) l.value nothing l.left.items l.marks.items
