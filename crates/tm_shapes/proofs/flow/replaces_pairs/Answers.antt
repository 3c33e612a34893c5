use Rattle.std.proofs.Common.{◌∙◌, ◌+◌, List}
use Rattle.tm_shapes.specs.declared.kind.Kind.{Kind}
use Rattle.tm_shapes.specs.Flows.{next, pops, replaces}
use Rattle.tm_shapes.specs.Flows.{with_operands}
use Rattle.tm_shapes.specs.Shapes.{pushed}
use Rattle.tm_shapes.proofs.Levels.{pops-add}
use Rattle.tm_shapes.proofs.Levels.{tells-refused, told}
use Rattle.tm_shapes.proofs.flow.replaces_pairs.Goals as goal

pub returns-in-Some : goal.returns-in-Some
returns-in-Some c =
    told c.args.cells.now c.args.cells.now c.args.cells.now c.args.shape c.in-Some.left (λ site s. replaces site (c.args.count + c.args.count) 1 s)
    (λ site s. replaces site c.args.count 1 s) _
    (λ site s h. let w = c.in-Some.ensures s h in (
      with_operands w.0 s,
      pops-add _ _ s.part.operands (λ (ks : List Kind). next site (pushed 1 ks) s)
          ∙ w.1 (λ (ks1 : List Kind). pops c.args.count ks1 (λ (ks : List Kind). next site (pushed 1 ks) s)),
      w.2,
    ))
    c.replaces.ensures

pub returns-in-None : goal.returns-in-None
returns-in-None c = λ site s h. tells-refused _ _ _ _ c.plain.ensures
    (pops-add _ _ s.part.operands (λ (ks : List Kind). next site (pushed 1 ks) s)
    ∙ c.in-None.ensures s h (λ (ks1 : List Kind). pops c.args.count ks1 (λ (ks : List Kind). next site (pushed 1 ks) s)))
