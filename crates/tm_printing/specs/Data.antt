-- What is left of a list or a map, written as JSON.
use Rattle.std.specs.Prelude.{◌≡◌, ℕ, ◌≤◌, ◌*◌, true, List, [], ◌∷◌, ◌++◌, Some, None, Ok}
use Rattle.serde_json.specs.Data as json
use Rattle.serde_json.specs.Written.{compact_text, items_text, members_text}
use Rattle.tm_values.specs.Records.{RecordData}
use Rattle.tm_values.specs.Val.{Val, list, map, keywords, exports}
use Rattle.tm_values.specs.Val.{val_size, vals_of, pairs_of}
use Rattle.tm_definitions.specs.Json.{json_within, data_of, items_of, members_of, namespace_data, key_text}
use Rattle.tm_printing.specs.Left.{weight, power, rest_weight, IsLighter}
use Rattle.tm_printing.specs.declared.rest.Rest.{Rest}
use Rattle.tm_printing.specs.declared.rest.Rest.TheVariants as rest
use Rattle.tm_printing.specs.declared.compact.JsonPart.{JsonPart}
use Rattle.tm_printing.specs.declared.compact.JsonPart.TheVariants as next

-- up to the closing bracket
abbrev pub json_rest : RecordData → Rest → List ℕ
json_rest r (rest.Items left later levels) =
    items_text later (items_of (namespace_data r levels) (vals_of left.now))
json_rest r (rest.Pairs left later levels) =
    members_text later (members_of (namespace_data r levels) (pairs_of left.now))
json_rest r (rest.Member value left levels) =
    58 ∷ (json_within r levels value.now
    ++ members_text true (members_of (namespace_data r levels) (pairs_of left.now)))

-- the text before the next value, the value, and what is left after it
abbrev pub IsNextJson : Rest → JsonPart → Type 0
IsNextJson x (next.Value before step) = (r : RecordData)
    → json_rest r x
    ≡ before.now ++ (json_within r step.levels step.value.now ++ json_rest r step.after)
IsNextJson x (next.Keyed before key step) = (r : RecordData)
    → json_rest r x
    ≡ (before.now ++ (key_text key.now ++ 58 ∷ []))
    ++ (json_within r step.levels step.value.now ++ json_rest r step.after)
IsNextJson x (next.End closing) = (r : RecordData) → json_rest r x ≡ closing.now

-- the next value and what is left after it weigh less than what was left before
abbrev pub IsNextJsonLighter : Rest → JsonPart → Type 0
IsNextJsonLighter x (next.Value before step) = IsLighter (Ok (Some step)) x
IsNextJsonLighter x (next.Keyed before key step) = IsLighter (Ok (Some step)) x
IsNextJsonLighter x (next.End closing) = IsLighter (Ok None) x

-- for a value without parts; other values are opened, if they have a record
abbrev pub leaf_json : Val → List ℕ
leaf_json (list vs) = []
leaf_json (map ps) = []
leaf_json (keywords ps) = []
leaf_json (exports ps s) = []
leaf_json v = compact_text (data_of (λ s n. json.null) v)

-- an opening bracket, and what is left after it
abbrev pub IsJsonOpened : RecordData → ℕ → Val → List ℕ → Rest → Type 0
IsJsonOpened r levels v opening x =
    (json_within r levels v ≡ opening ++ json_rest r x)
    × (rest_weight (weight r) x ≤ val_size v * power (weight r) levels)

abbrev pub IsJsonLeaf : RecordData → ℕ → Val → Type 0
IsJsonLeaf r levels v = json_within r levels v ≡ leaf_json v
