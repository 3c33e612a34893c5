use Rattle.tm_shapes.specs.Flows.{replaces}
use Rattle.tm_shapes.specs.Flows.{swap_group, swap_over, swap_zero, with_operands}
use Rattle.tm_shapes.proofs.Levels.{over_group, over_value, over_zero}
use Rattle.tm_shapes.proofs.Levels.{told, told-from, told-there}
use Rattle.tm_shapes.proofs.flow.swap_over.Goals as goal

pub returns-in-Group-clause-told : goal.returns-in-Group-clause-told
returns-in-Group-clause-told c =
    told-there c.args.cells.now c.args.cells.now c.swap_group.new.cells c.args.shape c.in-Some.left (λ site s. swap_over site s s.part.operands)
    (λ site s. swap_group site s c.in-Group.origin s.part.operands) c.args.at.now _
    (λ site s is h. let w = c.in-Some.ensures.popped s h in
    (with_operands w.0 s, over_group site s _ _ w.1 _ c.in-Group.is, w.2))
    c.swap_group.ensures.told

pub returns-in-Zero-clause-told : goal.returns-in-Zero-clause-told
returns-in-Zero-clause-told c =
    told-there c.args.cells.now c.args.cells.now c.swap_zero.new.cells c.args.shape c.in-Some.left (λ site s. swap_over site s s.part.operands)
    (λ site s. swap_zero site s c.in-Zero.place s.part.operands) c.args.at.now _
    (λ site s is h. let w = c.in-Some.ensures.popped s h in
    (with_operands w.0 s, over_zero site s _ _ w.1 _ c.in-Zero.is, w.2))
    c.swap_zero.ensures.told

pub returns-in_default-kind : goal.returns-in_default-kind
returns-in_default-kind c = record {
  told = told-from c.args.cells.now c.args.cells.now c.args.cells.now c.args.shape c.args.shape (λ site s. swap_over site s s.part.operands)
      (λ site s. replaces site 1 2 s) c.args.at.now _
      (λ site s is h. let w = c.in-Some.ensures.popped s h in
      (s, over_value site s _ _ w.1 c.in_default-kind.not-Group c.in_default-kind.not-Zero, h))
      c.replaces.ensures;
  grown = λ n q e. e;
}
