use Rattle.std.proofs.Common.{arith, ℕ, ◌∙◌, length-take, length-drop}
use Rattle.tm_output.specs.Pieces.{appends_piece, taken_no_fault}
use Rattle.tm_output.proofs.sink.Sink.put.Goals as goal

pub loop-done-preserved : goal.loop-done-preserved
loop-done-preserved g c = (
  omega (arith, c.in-Ok.ensures.bound, length-take {A = ℕ}, length-drop {A = ℕ}),
  appends_piece _ _ _ _ _ _ c.loop-done.invariant.1 c.in-Ok.ensures.bytes,
  c.write.ensures.failures ∙ (taken_no_fault c.write.result _ _ c.in-Ok.is (omega arith) ∙ c.loop-done.invariant.2),
)
