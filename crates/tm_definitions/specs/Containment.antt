-- The operator `in`.
use Rattle.std.specs.Prelude.{ℕ, Bool, true, false, eqb, ◌||◌, ◌&&◌, List, [], ◌∷◌, Option, None, Some, Ok, is_some}
use Rattle.std.specs.List.{list_any}
use Rattle.tm_values.specs.Defined.{refusal_of, unless}
use Rattle.tm_values.specs.Answer.{Answer, invalid}
use Rattle.tm_values.specs.Equality.{same_value}
use Rattle.tm_values.specs.Map.{find}
use Rattle.tm_values.specs.Records.{RecordData, namespace_at}
use Rattle.tm_values.specs.Val.{Val, undefined, text, list, map, keywords, exports, namespace, list_of, entries_of, text_in}
use Rattle.tm_values.specs.declared.undefined.UndefinedBehavior.{UndefinedBehavior}
use Rattle.tm_values.specs.declared.undefined.UndefinedUse.TheVariants as use_of

-- whether the bytes begin with the part
abbrev pub begins : List ℕ → List ℕ → Bool
begins [] s = true
begins (x ∷ n) [] = false
begins (x ∷ n) (y ∷ s) = eqb x y && begins n s

-- whether the part occurs anywhere in the bytes
abbrev pub has_part : List ℕ → List ℕ → Bool
has_part n [] = begins n []
has_part n (y ∷ s) = begins n (y ∷ s) || has_part n s

abbrev pub text_contains : List ℕ → Option (List ℕ) → Answer Bool
text_contains s None = invalid
text_contains s (Some n) = Ok (has_part n s)

abbrev pub has_key : Val → List (Val × Val) → Bool
has_key k ps = is_some (find k ps)

abbrev pub namespace_contains : Option (List (Val × Val)) → Val → Answer Bool
namespace_contains None k = invalid
namespace_contains (Some ps) k = Ok (has_key k ps)

-- a part of a text, an item equal to the value in a list, or a key of a map, keyword map, module or
-- namespace
abbrev pub found_in : RecordData → Val → Val → Answer Bool
found_in r (undefined silent) v = Ok false
found_in r (text s safe) v = text_contains s (text_in v)
found_in r (list vs) v = Ok (list_any (λ x. same_value x v) (list_of vs))
found_in r (map ps) v = Ok (has_key v (entries_of ps))
found_in r (keywords ps) v = Ok (has_key v (entries_of ps))
found_in r (exports ps s) v = Ok (has_key v (entries_of ps))
found_in r (namespace state i) v = namespace_contains (namespace_at r state i) v
found_in r _ v = invalid

-- undefined operands are checked first, the right one before the left
abbrev pub contained : UndefinedBehavior → RecordData → Val → Val → Answer Bool
contained b r container v =
    unless (refusal_of b use_of.Containment container)
    (unless (refusal_of b use_of.Comparison v) (found_in r container v))
