use Rattle.std.proofs.lemmas.Grind.{common_steps}
use Rattle.std.proofs.Common.{◌≡◌, ◌++◌, ◌∷◌, ◌+◌, [], ap, sym, ◌∙◌, refl, arith, length, rules, map as each}
use Rattle.std.proofs.lemmas.Int.{to_z-of_z}
use Rattle.std.proofs.lemmas.List.{map-append}
use Rattle.std.proofs.lemmas.List.FromFn.{map-range_with_len_more}
use Rattle.std.specs.Int.{w64}
use Rattle.std.specs.Int.RustNames.{FitsSigned}
use Rattle.tm_definitions.specs.Ranges.{numbers_from}
use Rattle.tm_primitives.specs.Places.{step_to}
use Rattle.tm_operations.proofs.Counted.{length_is, parts_of_numbers}
use Rattle.tm_values.specs.Parts.{parts_of_vals}
use Rattle.tm_values.specs.Val.{number, vals_of}
use Rattle.tm_operations.proofs.ranges.list_from.Goals as goal

-- the next number stands after those that are there
pub loop-place-preserved : goal.loop-place-preserved
loop-place-preserved c =
    let x = c.args.start in
    let z = c.args.step in
    let k = c.loop-place.place in
    let start : FitsSigned w64 x = c.ranges.start in
    let step : FitsSigned w64 z = c.ranges.step in
    let more : numbers_from x z (k + 1)
    ≡ numbers_from x z k ++ step_to x z k ∷ [] = map-range_with_len_more (step_to x z) 0 k k (omega arith) in
    let listed : each number (numbers_from x z (k + 1))
    ≡ each number (numbers_from x z k) ++ number (step_to x z k) ∷ [] = ap (each number) more
    ∙ map-append number (numbers_from x z k) (step_to x z k ∷ []) in
    let made : c.number.result ≡ number (step_to x z k) = search (arith, to_z-of_z, c.number.ensures, c.number_at.ensures) in
    let done = simp to_z-of_z at c.loop-place.invariant.0 in
    let items = c.push_reserved.ensures.items in
    let room = c.push_reserved.ensures.capacity in
    (simp to_z-of_z (cc), omega (arith, room, c.loop-place.invariant.1))

-- there is room for it
pub push_reserved-requires : goal.push_reserved-requires
push_reserved-requires c =
    let x = c.args.start in
    let z = c.args.step in
    let start : FitsSigned w64 x = c.ranges.start in
    let step : FitsSigned w64 z = c.ranges.step in
    let held = length_is x z c.loop-place.place in
    let done = simp to_z-of_z at c.loop-place.invariant.0 in
    let count : length c.loop-place.items.items ≡ c.loop-place.place = ap length done ∙ held in
    omega (arith, count, c.loop-place.invariant.1)

-- JSON has them all
pub invariant_of-result : goal.invariant_of-result
invariant_of-result c =
    let zs = numbers_from c.args.start c.args.step c.args.count in
    let listed : c.in_ok-new.field-0.value.items ≡ each number zs = grind (arith, common_steps) in
    parts_of_numbers c.args.start c.args.step c.args.count _ c.requires.in_range refl (omega arith) ∙ ap (λ vs. parts_of_vals (vals_of vs)) (sym listed)

pub returns-in_err-items : goal.returns-in_err-items
returns-in_err-items c = search rules fits 100

pub returns : goal.returns
returns c = grind (arith, common_steps)
