use Rattle.std.proofs.Common.{rules, of_calls, ◌≡◌, ltb, subst, ◌∙◌, List}
use Rattle.std.proofs.lemmas.Fn.{always_returns_same}
use Rattle.std.proofs.lemmas.List.Sorted.{IsPartitionedBy-ltb}
use Rattle.tm_syntax.specs.Loops.{loops_before}
use Rattle.tm_trees.specs.Instructions.{LoopPlace, Instruction}
use Rattle.tm_shapes.proofs.Places.{made_in_order, numbered}
use Rattle.tm_shapes.proofs.code.Verified.loop_number.Goals as goal

pub returns : goal.returns
returns c =
    let same = c.as_slice.ensures.value ∙ c.self.invariant.0 in
    let point = c.partition_point.ensures.partitioned (λ (l : LoopPlace). ltb l.place c.args.place)
    (always_returns_same _ _ _ (λ a r f k. search (rules, of_calls)))
    (IsPartitionedBy-ltb (λ (l : LoopPlace). l.place) c.as_slice.result.now c.args.place
    (made_in_order c.self.inside.instructions c.as_slice.result.now same)) in
    subst (λ (is : List Instruction). c.partition_point.result ≡ loops_before c.args.place is) c.self.view_is
    (numbered c.self.inside.instructions c.as_slice.result.now c.args.place c.partition_point.result same c.partition_point.ensures.bound
    point)
