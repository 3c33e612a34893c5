-- The meaning of the command line.
use Rattle.std.specs.Prelude.{ℕ, ◌^◌, List, codes, [], ◌∷◌, ◌++◌, length, map, drop, slice_index, Option, None, Some, option_map, Bool, true, false}
use Rattle.std.specs.Prelude.{◌&&◌, ◌==◌, nat_lt, if◌then◌else◌, string_bytes}
use Rattle.std.specs.Borrow.{Bor}
use Rattle.std.specs.List.{before_first, after_first, position_or_len}
use Rattle.std.specs.Str.{all_ascii_digits, bytes_eq}
use Rattle.std.specs.Str.Parse.{digits_value}
use Rattle.mj_words.specs.declared.arguments.Arguments.{Arguments}

abbrev pub Text : Type 0
Text = List ℕ

-- the texts by name, in order; the JSON file of the context; the fuel; the recursion limit; the
-- file of the rendered template; and the other files, in order
pub record ArgumentsValue : Type 0 where
  pub texts : List (Text × Text)
  pub json : Option Text
  pub fuel : Option ℕ
  pub limit : Option ℕ
  pub file : Text
  pub others : List Text

-- before the first file: a word that begins with `-`, but isn't `-`
abbrev pub is_option : Text → Bool
is_option word = nat_lt 1 (length word) && (slice_index word 0 == 45)

-- standard input as a file
abbrev pub is_input : Text → Bool
is_input word = bytes_eq word (codes "-")

-- the files name standard input at most once; `named` says whether it was named before them
abbrev pub are_files : Bool → List Text → Bool
are_files named [] = true
are_files named (word ∷ words) =
    if is_input word then (if named then false else are_files true words)
    else are_files named words

-- a word that begins with `-D`
abbrev pub begins_definition : Text → Bool
begins_definition word = nat_lt 1 (length word) && ((slice_index word 0 == 45) && (slice_index word 1 == 68))

-- the number, if the word consists of decimal digits and the number fits 64 bits
abbrev pub number : Text → Option ℕ
number word =
    if nat_lt 0 (length word) && (all_ascii_digits word && nat_lt (digits_value 10 word) (2 ^ 64))
    then Some (digits_value 10 word) else None

-- the parts before and after the first `=` of a word
abbrev pub definition : Text → Option (Text × Text)
definition word =
    if nat_lt (position_or_len (λ b. b == 61) word) (length word)
    then Some (before_first (λ b. b == 61) word, after_first (λ b. b == 61) word) else None

abbrev pub with_number : Option ℕ → (ℕ → Option ArgumentsValue) → Option ArgumentsValue
with_number None go_on = None
with_number (Some n) go_on = go_on n

abbrev pub with_text : Option (Text × Text) → (Text × Text → Option ArgumentsValue) → Option ArgumentsValue
with_text None go_on = None
with_text (Some p) go_on = go_on p

-- the parsed words, after others with these texts, this JSON file, this fuel and this limit:
-- options, and then files; each word from the first non-option on is a file
abbrev mutual
  pub asked : List (Text × Text) → Option Text → Option ℕ → Option ℕ → List Text → Option ArgumentsValue
  asked texts json fuel limit [] = None
  asked texts json fuel limit (word ∷ words) =
      if is_option word then
      (if bytes_eq word (codes "--json") then asked_json texts fuel limit words
      else if bytes_eq word (codes "--fuel") then asked_fuel texts json limit words
      else if bytes_eq word (codes "--limit") then asked_limit texts json fuel words
      else if bytes_eq word (codes "-D") then asked_text texts json fuel limit words
      else if begins_definition word then with_text (definition (drop 2 word)) (λ p. asked (texts ++ (p ∷ [])) json fuel limit words)
      else None)
      else if are_files false (word ∷ words)
      then Some (record { texts = texts; json = json; fuel = fuel; limit = limit; file = word; others = words })
      else None

  -- the same after `--json`; the file replaces an earlier one, whatever its name
  pub asked_json : List (Text × Text) → Option ℕ → Option ℕ → List Text → Option ArgumentsValue
  asked_json texts fuel limit [] = None
  asked_json texts fuel limit (word ∷ words) = asked texts (Some word) fuel limit words

  -- the same after `--fuel`; the number replaces an earlier one
  pub asked_fuel : List (Text × Text) → Option Text → Option ℕ → List Text → Option ArgumentsValue
  asked_fuel texts json limit [] = None
  asked_fuel texts json limit (word ∷ words) = with_number (number word) (λ n. asked texts json (Some n) limit words)

  -- the same after `--limit`
  pub asked_limit : List (Text × Text) → Option Text → Option ℕ → List Text → Option ArgumentsValue
  asked_limit texts json fuel [] = None
  asked_limit texts json fuel (word ∷ words) = with_number (number word) (λ n. asked texts json fuel (Some n) words)

  -- the same after `-D`
  pub asked_text : List (Text × Text) → Option Text → Option ℕ → Option ℕ → List Text → Option ArgumentsValue
  asked_text texts json fuel limit [] = None
  asked_text texts json fuel limit (word ∷ words) = with_text (definition word) (λ p. asked (texts ++ (p ∷ [])) json fuel limit words)

-- the texts as plain data
abbrev pub plain : Bor Text × Bor Text → Text × Text
plain p = (p.0.now, p.1.now)

-- the parsed arguments as plain data
abbrev pub asked_of : Arguments → ArgumentsValue
asked_of a = record {
  texts = map plain a.texts.items;
  json = option_map (λ p. p.now) a.json;
  fuel = a.fuel;
  limit = a.limit;
  file = a.file.now;
  others = map string_bytes a.others.now;
}

-- the files, in order
abbrev pub files_of : Arguments → List Text
files_of a = a.file.now ∷ map string_bytes a.others.now

-- the parsed words after these arguments
abbrev pub asked_after : Arguments → List Text → Option ArgumentsValue
asked_after a words = asked (map plain a.texts.items) (option_map (λ p. p.now) a.json) a.fuel a.limit words
