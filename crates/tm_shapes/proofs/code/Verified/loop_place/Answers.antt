use Rattle.std.proofs.Common.{◌≡◌, List, Some, slice_get, sym, ◌∙◌, arith, subst}
use Rattle.tm_syntax.specs.Loops.{loop_places}
use Rattle.tm_trees.specs.Instructions.{Instruction}
use Rattle.tm_shapes.proofs.Places.{within, read_at}
use Rattle.tm_shapes.proofs.code.Verified.loop_place.Goals as goal

pub prove-unreachable-requires : goal.prove-unreachable-requires
prove-unreachable-requires c =
    let found =
    read_at c.deref.result.now (loop_places 0 c.self.inside.instructions) c.args.number c.in_ok-found.field-0.now _
    (c.deref.ensures.value ∙ c.self.invariant.0) c.in_ok-found.ensures.lookup.0 c.in_ok-found.ensures.lookup.1 in
    let inside = within 0 c.self.inside.instructions c.args.number c.in_ok-found.field-0.now found in
    omega (arith, inside, c.if-prove.true, c.len-count.ensures)

pub returns-clause-found : goal.returns-clause-found
returns-clause-found c =
    let found =
    read_at c.deref.result.now (loop_places 0 c.self.inside.instructions) c.args.number c.in_ok-found.field-0.now _
    (c.deref.ensures.value ∙ c.self.invariant.0) c.in_ok-found.ensures.lookup.0 c.in_ok-found.ensures.lookup.1 in
    subst (λ (is : List Instruction). Some c.in_ok-found.field-0.now ≡ slice_get (loop_places 0 is) c.args.number) c.self.view_is
    (sym found)
