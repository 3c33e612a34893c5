use Rattle.std.proofs.Common.{◌≡◌, suc, List, arith, refl}
use Rattle.tm_shapes.specs.declared.kind.Kind.{Kind}
use Rattle.tm_shapes.specs.Flows.{next}
use Rattle.tm_shapes.specs.Flows.{with_escapes, with_operands}
use Rattle.tm_shapes.specs.Shapes.{Shape}
use Rattle.tm_shapes.proofs.Levels.{at-level}
use Rattle.tm_shapes.proofs.Levels.{tells-on}
use Rattle.tm_shapes.proofs.Levels.{tells-refused}
use Rattle.tm_shapes.proofs.flow.push_escape.Goals as goal

pub returns-in-Some-without : goal.returns-in-Some-without
returns-in-Some-without c = λ site s h.
    let w = c.in-Some-without.ensures s h in
    let n : c.in-Some.escapes ≡ suc s.part.escapes = omega (arith, c.in-Some.ensures.1, h.level.escapes) in
    let t : Shape = with_operands w.0 s in
    tells-on _ _ _ _ c.at_level.result (with_escapes (suc s.part.escapes) t) c.plain.ensures
    (w.1 (λ (ks : List Kind). next site ks (with_escapes (suc s.part.escapes) s)))
    (rw c.at_level.ensures (at-level _ _ t _ s.part.frames s.part.captures (suc s.part.escapes) refl
    (record { frames = w.2.level.frames; captures = w.2.level.captures; count = w.2.level.count; escapes = n }) w.2))

pub returns-in-None-without : goal.returns-in-None-without
returns-in-None-without c = λ site s h. tells-refused _ _ _ _ c.plain-in-None-without.ensures
    (c.in-None-without.ensures s h (λ (ks : List Kind). next site ks (with_escapes (suc s.part.escapes) s)))
