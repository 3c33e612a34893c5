use Rattle.std.proofs.Common.{rules, of_calls, ◌≡◌, ℕ, ltb, sym, ap, subst, ◌∙◌, List, arith}
use Rattle.std.proofs.lemmas.Fn.{always_returns_same}
use Rattle.std.proofs.lemmas.List.Sorted.{IsPartitionedBy-ltb}
use Rattle.std.proofs.lemmas.List.Sums.{prefix_len_is}
use Rattle.std.specs.List.{prefix_len}
use Rattle.std.specs.List.Sorted.{IsNonDecreasingBy}
use Rattle.tm_syntax.specs.Entries.{Entries, entry_number}
use Rattle.tm_trees.specs.Instructions.{Instruction}
use Rattle.tm_shapes.proofs.code.Verified.entry_number.Goals as goal

pub returns : goal.returns
returns c =
    let same = c.as_slice.ensures.value in
    let found = c.as_slice.result.now in
    let i = c.partition_point.result in
    let rising : IsNonDecreasingBy (λ (e : ℕ × ℕ). e.0) found =
    subst (λ (es : Entries). IsNonDecreasingBy (λ (e : ℕ × ℕ). e.0) es) (sym same) c.self.invariant.2 in
    let point = c.partition_point.ensures.partitioned (λ (e : ℕ × ℕ). ltb e.0 c.args.place)
    (always_returns_same _ _ _ (λ a r f k. search (rules, of_calls)))
    (IsPartitionedBy-ltb (λ (e : ℕ × ℕ). e.0) found c.args.place rising) in
    let first = prefix_len_is (λ (e : ℕ × ℕ). ltb e.0 c.args.place) found i (0, 0) c.partition_point.ensures.bound
    (λ k h. point.0 k (0, 0) (omega arith) h) (λ h. point.1 i (0, 0) (omega arith) h) in
    subst (λ (is : List Instruction). i ≡ entry_number c.args.place is) c.self.view_is
    (sym first ∙ ap (prefix_len (λ (e : ℕ × ℕ). ltb e.0 c.args.place)) (same ∙ c.self.invariant.1))
