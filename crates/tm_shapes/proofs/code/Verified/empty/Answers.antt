use Rattle.std.proofs.Common.{◌≡◌, ℕ, List, [], refl, subst, sym, true, arith}
use Rattle.std.specs.List.Sorted.{IsNonDecreasingBy}
use Rattle.tm_shapes.specs.Accepts.{accepts}
use Rattle.tm_shapes.specs.declared.kind.Form.TheVariants.{Template}
use Rattle.tm_syntax.specs.Entries.{Entries, entries}
use Rattle.tm_syntax.specs.Loops.{loop_places}
use Rattle.tm_trees.specs.Instructions.{LoopPlace, Instruction}
use Rattle.tm_shapes.proofs.code.Verified.empty.Goals as goal

abbrev Indexed : List LoopPlace → Entries → List Instruction → Type 0
Indexed loops macros code = (loops ≡ loop_places 0 code) × (macros ≡ entries code)
    × IsNonDecreasingBy (λ (e : ℕ × ℕ). e.0) macros × (accepts Template code ≡ true)

pub invariant_of-result : goal.invariant_of-result
invariant_of-result c =
    subst (λ code. Indexed c.new-2.result.items c.new-3.result.items code) (sym c.new.ensures)
    (subst (λ loops. Indexed loops c.new-3.result.items []) (sym c.new-2.ensures.items)
    (subst (λ macros. Indexed [] macros []) (sym c.new-3.ensures.items)
    (refl, refl, (λ i j d le within. absurd (omega (arith, within))), refl)))
