use Rattle.std.proofs.Common.{sym, subst}
use Rattle.tm_meaning.specs.declared.stream.StreamId.{StreamId}
use Rattle.tm_safety.specs.Fits.{AllEnter, ids_of}
use Rattle.tm_shapes.specs.Shapes.{Shapes}
use Rattle.tm_accepted.proofs.Accepted.{shaped}
use Rattle.tm_safety.proofs.Never.{never_stuck}
use Rattle.tm_safety.proofs.accepted_streams_are_never_stuck.Goals as goal

pub returns : goal.returns
returns c = λ p form k heard ks told got w left accepted stream none run.
    let shapes : StreamId → Shapes = λ s. (shaped (form s) (p.code s) (accepted s)).0 in
    never_stuck p shapes (λ s. (shaped (form s) (p.code s) (accepted s)).1) k heard ks told got w left stream
    (subst (λ ls. AllEnter p.code shapes (ids_of ls)) (sym none) tt) run
