-- What is left of a list or a map, as printed text.
use Rattle.std.specs.Prelude.{◌≡◌, ℕ, ◌≤◌, ◌*◌, true, List, [], ◌++◌, Some, None, Ok, codes}
use Rattle.tm_values.specs.Records.{RecordData}
use Rattle.tm_values.specs.Val.{Val, list, map, keywords}
use Rattle.tm_values.specs.Val.{val_size, vals_of, pairs_of}
use Rattle.tm_definitions.specs.Printed.{inner, inner_items, inner_pairs, namespace_text}
use Rattle.tm_printing.specs.Left.{weight, power, rest_weight, IsLighter}
use Rattle.tm_printing.specs.declared.rest.Rest.{Rest}
use Rattle.tm_printing.specs.declared.rest.Rest.TheVariants as rest
use Rattle.tm_printing.specs.declared.printing.TextPart.{TextPart}
use Rattle.tm_printing.specs.declared.printing.TextPart.TheVariants as next

-- up to the closing bracket
abbrev pub printed_rest : RecordData → Rest → List ℕ
printed_rest r (rest.Items left later levels) =
    inner_items r (namespace_text r levels) later (vals_of left.now)
printed_rest r (rest.Pairs left later levels) =
    inner_pairs r (namespace_text r levels) later (pairs_of left.now)
printed_rest r (rest.Member value left levels) =
    codes ": " ++ (inner r (namespace_text r levels) value.now
    ++ inner_pairs r (namespace_text r levels) true (pairs_of left.now))

-- the text before the next value, the value, and what is left after it
abbrev pub IsNext : Rest → TextPart → Type 0
IsNext x (next.Value before step) = (r : RecordData)
    → printed_rest r x
    ≡ before.now ++ (inner r (namespace_text r step.levels) step.value.now ++ printed_rest r step.after)
IsNext x (next.End closing) = (r : RecordData) → printed_rest r x ≡ closing.now

-- for a value without parts; other values are opened, if they have a record
abbrev pub leaf_text : RecordData → Val → List ℕ
leaf_text r (list vs) = []
leaf_text r (map ps) = []
leaf_text r (keywords ps) = []
leaf_text r v = inner r (λ s n. []) v

-- an opening bracket, and what is left after it
abbrev pub IsOpened : RecordData → ℕ → Val → List ℕ → Rest → Type 0
IsOpened r levels v opening x =
    (inner r (namespace_text r levels) v ≡ opening ++ printed_rest r x)
    × (rest_weight (weight r) x ≤ val_size v * power (weight r) levels)

abbrev pub IsLeaf : RecordData → ℕ → Val → Type 0
IsLeaf r levels v = inner r (namespace_text r levels) v ≡ leaf_text r v

-- the next value and what is left after it weigh less than what was left before
abbrev pub IsNextRestLighter : Rest → TextPart → Type 0
IsNextRestLighter x (next.Value before step) = IsLighter (Ok (Some step)) x
IsNextRestLighter x (next.End closing) = IsLighter (Ok None) x
