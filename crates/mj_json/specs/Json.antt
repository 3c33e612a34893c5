-- Converting JSON to template values.
use Rattle.std.specs.Prelude.{◌≡◌, ◌⊎◌, ℕ, List, [], ◌∷◌, Bool, true, false, ◌==◌, ◌||◌, ◌&&◌, if◌then◌else◌, Option, None, Some, option_map, option_and_then, Result, MatchResult}
use Rattle.std.specs.Char.{is_ascii_digit}
use Rattle.serde_json.specs.Data as json
use Rattle.serde_json.specs.Find.{as_integer, as_object}
use Rattle.serde_json.specs.Read.{read}
use Rattle.tm_values.specs.Val.{Val, none, boolean, number, text, list, map, vals_of, pairs_of}
use Rattle.tm_values.specs.Map.{put_all}
use Rattle.mj_words.specs.declared.arguments.Refusal.{Refusal}
use Rattle.mj_words.specs.declared.arguments.Refusal.TheVariants.{Usage, OutOfMemory}

-- The value of JSON data. None if it contains a float. Texts aren't marked safe; null becomes none.
abbrev mutual
  pub value_of : json.Data → Option Val
  value_of json.null = Some none
  value_of (json.boolean b) = Some (boolean b)
  value_of (json.number n) = option_map number (as_integer n)
  value_of (json.string s) = Some (text s false)
  value_of (json.array ds) = option_map (λ vs. list (vals_of vs)) (values_of ds)
  value_of (json.object ms) = option_map (λ ps. map (pairs_of (put_all ps))) (members_of ms)

  -- the values of the items of an array
  pub values_of : json.Items → Option (List Val)
  values_of json.no_items = Some []
  values_of (json.item d ds) = option_and_then (λ v. option_map (λ vs. v ∷ vs) (values_of ds)) (value_of d)

  -- the members of an object, as keys and values
  pub members_of : json.Members → Option (List (Val × Val))
  members_of json.no_members = Some []
  members_of (json.member k d ms) = option_and_then (λ v. option_map (λ ps. (text k false, v) ∷ ps) (members_of ms)) (value_of d)

-- a point, an e or an E: after a digit it begins a fraction or an exponent
abbrev pub begins_decimal : ℕ → Bool
begins_decimal b = b == 46 || b == 101 || b == 69

abbrev mutual
  -- whether a fraction or an exponent comes outside of strings, where `after_digit` says whether a
  -- digit precedes; 34 is a quote, 92 a backslash
  pub decimal_outside : Bool → List ℕ → Bool
  decimal_outside after_digit [] = false
  decimal_outside after_digit (b ∷ bs) =
      if b == 34 then decimal_inside false bs
      else if after_digit && begins_decimal b then true
      else decimal_outside (is_ascii_digit b) bs

  -- the same inside a string, where `escaped` says whether an escaping backslash precedes
  pub decimal_inside : Bool → List ℕ → Bool
  decimal_inside escaped [] = false
  decimal_inside true (b ∷ bs) = decimal_inside false bs
  decimal_inside false (b ∷ bs) = if b == 34 then decimal_outside false bs else decimal_inside (b == 92) bs

-- whether JSON text contains a number with a fraction or an exponent, even one that `read` drops
-- because its key is repeated
abbrev pub has_decimal : List ℕ → Bool
has_decimal bytes = decimal_outside false bytes

-- the members of the JSON object in a text; None if the text isn't an object, or contains a number
-- with a fraction or an exponent
abbrev pub members_read : List ℕ → Option (List (Val × Val))
members_read bytes = if has_decimal bytes then None else option_and_then members_of (option_and_then as_object (read bytes))

-- Memory ran out; or it is Usage, and None is stated.
abbrev pub IsRefusal : {A : Type 0} → Refusal → Option A → Type 0
IsRefusal refusal stated = (refusal ≡ OutOfMemory) ⊎ ((refusal ≡ Usage) × (stated ≡ None))

-- The result is the stated one, or a refusal.
abbrev pub IsConverted : {A : Type 0} → Result A Refusal → Option A → Type 0
IsConverted result stated = MatchResult result (λ v. stated ≡ Some v) (λ e. IsRefusal e stated)
