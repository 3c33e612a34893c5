use Rattle.std.proofs.Common.{◌≤◌, ◌-◌, length, flat_map}
use Rattle.std.specs.Str.{IsCharBoundary}
use Rattle.tm_definitions.specs.Texts.{in_html}
use Rattle.tm_output.proofs.Written.{Ahead}
use Rattle.tm_printing.proofs.Runs.{left}
use Rattle.tm_printing.proofs.html.write_long_text.Given as goal

abbrev pub invariant-loop-place : goal.invariant-loop-place
invariant-loop-place g l = record {
  in_order : l.start ≤ l.place;
  inside : l.place ≤ length l.text;
  boundary : IsCharBoundary l.text l.start;
  ahead : Ahead g.T.Target.took g.T.Target.stopped l.initial.target (flat_map in_html l.text) l.target (left in_html l.text l.start l.place);
}

abbrev pub decreases-loop-place : goal.decreases-loop-place
decreases-loop-place g l = length l.text - l.place
