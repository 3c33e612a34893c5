use Rattle.std.proofs.Common.{◌∙◌, ◌∷◌, List, refl}
use Rattle.tm_shapes.specs.declared.kind.Frame.TheVariants.{Loop as loop}
use Rattle.tm_shapes.specs.declared.kind.Kind.{Kind}
use Rattle.tm_shapes.specs.Flows.{loop_begun, on, push_loop}
use Rattle.tm_shapes.specs.Flows.{with_frames, with_operands}
use Rattle.tm_shapes.specs.Shapes.{Shape, no_part}
use Rattle.tm_shapes.proofs.Levels.{loop-pushed}
use Rattle.tm_shapes.proofs.Levels.{tells-on}
use Rattle.tm_shapes.proofs.Levels.{tells-refused, told}
use Rattle.tm_shapes.proofs.flow.push_loop.Goals as goal

pub returns-in_ok-in_part-in-Some-clause-told : goal.returns-in_ok-in_part-in-Some-clause-told
returns-in_ok-in_part-in-Some-clause-told c = λ site s h.
    let w = c.in-Some.ensures s h in
    tells-on _ _ _ _ c.in_ok-in_part-in-Some.field-0 (record { part = no_part; below = record s.part { operands = w.0 } ∷ s.below })
    c.plain.ensures
    (w.1 (λ (ks : List Kind). on site (loop_begun c.args.flags.now.recursive (with_operands ks s)))
    ∙ rw c.if-flags.true refl)
    (c.in_ok-in_part-in-Some.ensures.shown (with_operands w.0 s) w.2)

pub returns-in-Some-2-clause-told : goal.returns-in-Some-2-clause-told
returns-in-Some-2-clause-told c =
    told c.args.cells.now c.args.cells.now c.push_frame.new.cells c.args.shape c.in-Some.left (λ site s. push_loop site c.args.flags.now s)
    (λ site s. on site (with_frames (loop c.operands.result c.in-Some.left.level.open c.in-Some.left.level.escapes ∷ s.part.frames) s)) _
    (λ site s h. let w = c.in-Some.ensures s h in
    let t : Shape = with_operands w.0 s in (
      t,
      w.1 (λ (ks : List Kind). on site (loop_begun c.args.flags.now.recursive (with_operands ks s)))
          ∙ loop-pushed site t _ _ _ _ c.if-flags.false (c.operands.ensures.counted c.args.cells.now t w.2) w.2.level.count w.2.level.escapes,
      w.2,
    ))
    c.push_frame.ensures.told

pub returns-in-None-clause-told : goal.returns-in-None-clause-told
returns-in-None-clause-told c = λ site s h. tells-refused _ _ _ _ c.plain-in-None.ensures
    (c.in-None.ensures s h (λ (ks : List Kind). on site (loop_begun c.args.flags.now.recursive (with_operands ks s))))
