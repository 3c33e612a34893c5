use Rattle.std.proofs.Common.{List}
use Rattle.tm_shapes.specs.declared.kind.Kind.{Kind}
use Rattle.tm_shapes.specs.Flows.{both, leads, next}
use Rattle.tm_shapes.specs.Flows.{with_operands}
use Rattle.tm_shapes.proofs.Levels.{tells-either}
use Rattle.tm_shapes.proofs.Levels.{tells-refused}
use Rattle.tm_shapes.proofs.flow.jump_if.Goals as goal

pub returns-in-Some : goal.returns-in-Some
returns-in-Some c = λ site s h.
    let w = c.in-Some.ensures s h in
    tells-either _ _ _ _ c.in-Some.left c.in-Some.left c.args.place (with_operands w.0 s) (with_operands w.0 s) c.plain.ensures
    (w.1 (λ (ks : List Kind). both (next site ks s) (leads c.args.place (with_operands ks s)))) w.2 w.2

pub returns-in-None : goal.returns-in-None
returns-in-None c = λ site s h. tells-refused _ _ _ _ c.plain-in-None.ensures
    (c.in-None.ensures s h (λ (ks : List Kind). both (next site ks s) (leads c.args.place (with_operands ks s))))
