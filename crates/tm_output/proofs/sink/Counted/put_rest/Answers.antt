use Rattle.std.proofs.Common.{arith, ℕ, length-take, length-drop}
use Rattle.tm_output.specs.Pieces.{appends_piece}
use Rattle.tm_output.proofs.sink.Counted.put_rest.Goals as goal

pub loop-done-preserved : goal.loop-done-preserved
loop-done-preserved g c = (
  omega (arith, c.in-Ok.ensures.bound, length-take {A = ℕ}, length-drop {A = ℕ}),
  appends_piece _ _ _ _ _ _ c.loop-done.invariant.1 c.in-Ok.ensures.bytes,
  c.loop-done.invariant.2,
)
