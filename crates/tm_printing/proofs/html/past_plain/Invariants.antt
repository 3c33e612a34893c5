use Rattle.std.proofs.Common.{◌≤◌, ◌-◌, length}
use Rattle.tm_definitions.specs.Texts.{in_html}
use Rattle.tm_printing.specs.Plain.{PlainBetween}
use Rattle.tm_printing.proofs.html.past_plain.Given as goal

abbrev pub invariant-loop-place : goal.invariant-loop-place
invariant-loop-place l = record {
  ahead : l.from ≤ l.place;
  inside : l.place ≤ length l.bytes;
  plain : PlainBetween in_html l.bytes l.from l.place;
}

abbrev pub decreases-loop-place : goal.decreases-loop-place
decreases-loop-place l = length l.bytes - l.place
