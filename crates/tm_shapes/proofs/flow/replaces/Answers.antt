use Rattle.std.proofs.Common.{List}
use Rattle.tm_shapes.specs.declared.kind.Kind.{Kind}
use Rattle.tm_shapes.specs.Flows.{next}
use Rattle.tm_shapes.specs.Flows.{with_operands}
use Rattle.tm_shapes.specs.Shapes.{pushed}
use Rattle.tm_shapes.proofs.Levels.{tells-on}
use Rattle.tm_shapes.proofs.flow.replaces.Goals as goal

pub returns-in_ok-pushed-in-Some : goal.returns-in_ok-pushed-in-Some
returns-in_ok-pushed-in-Some c = λ site s h.
    let w = c.in-Some.ensures s h in
    tells-on _ _ _ _ c.in_ok-pushed-in-Some.field-0 (with_operands (pushed c.args.given w.0) s) c.plain.ensures
    (w.1 (λ (ks : List Kind). next site (pushed c.args.given ks) s))
    (c.in_ok-pushed-in-Some.ensures c.args.cells.now (with_operands w.0 s) w.2)
