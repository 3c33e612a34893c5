use Rattle.std.proofs.Common.{◌≤◌, flat_map}
use Rattle.std.specs.Str.{IsCharBoundary}
use Rattle.tm_output.proofs.Written.{Ahead}
use Rattle.tm_printing.proofs.Runs.{left}
use Rattle.tm_printing.proofs.text.write_spelled.Given as goal

abbrev pub invariant-loop-i : goal.invariant-loop-i
invariant-loop-i g l = record {
  in_order : l.start ≤ l.i;
  boundary : IsCharBoundary l.text l.start;
  ahead : Ahead g.T.Target.took g.T.Target.stopped l.initial.target (flat_map g.S.Spelling.spelled l.text) l.target
      (left g.S.Spelling.spelled l.text l.start l.i);
}
