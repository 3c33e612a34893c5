-- The printed text of a value.
use Rattle.std.specs.Prelude.{ℕ, zero, suc, Bool, true, false, List, [], ◌∷◌, ◌++◌, Option, None, Some, codes, length, unwrap_or}
use Rattle.std.specs.Fmt.{signed_decimal}
use Rattle.tm_values.specs.Records.{RecordData, namespace_at}
use Rattle.tm_values.specs.Val.{Val, undefined, none, boolean, number, text, list, map, keywords, exports, function, macro, loop, namespace}
use Rattle.tm_values.specs.Val.{MacroData, Vals, no_vals, val, Pairs, no_pairs, pair, pairs_of}
use Rattle.tm_definitions.specs.Texts.{quoted}
use Rattle.tm_definitions.specs.Loops.{loop_text}

abbrev pub truth_text : Bool → List ℕ
truth_text false = codes "false"
truth_text true = codes "true"

abbrev pub macro_text : MacroData → List ℕ
macro_text m = codes "<macro " ++ (m.name ++ codes ">")

-- a comma and a space after an earlier item or pair
abbrev pub comma_after : Bool → List ℕ
comma_after false = []
comma_after true = codes ", "

-- the printed texts of namespaces, by state and number
abbrev pub NamespaceTexts : Type 0
NamespaceTexts = ℕ → ℕ → List ℕ

abbrev mutual
  -- the text of a value inside a list or a map
  pub inner : RecordData → NamespaceTexts → Val → List ℕ
  inner r inside (undefined silent) = codes "undefined"
  inner r inside none = codes "none"
  inner r inside (boolean truth) = truth_text truth
  inner r inside (number z) = signed_decimal z
  inner r inside (text s safe) = quoted s
  inner r inside (list vs) = codes "[" ++ inner_items r inside false vs
  inner r inside (map ps) = codes "{" ++ inner_pairs r inside false ps
  inner r inside (keywords ps) = codes "{" ++ inner_pairs r inside false ps
  inner r inside (exports ps s) = s
  inner r inside (function n) = codes "<function>"
  inner r inside (macro m) = macro_text m
  inner r inside (loop s n) = loop_text r s n
  inner r inside (namespace s n) = inside s n

  -- the items and the closing bracket, with a comma between items
  pub inner_items : RecordData → NamespaceTexts → Bool → Vals → List ℕ
  inner_items r inside later no_vals = codes "]"
  inner_items r inside later (val v vs) =
      (comma_after later ++ inner r inside v) ++ inner_items r inside true vs

  -- the pairs and the closing brace
  pub inner_pairs : RecordData → NamespaceTexts → Bool → Pairs → List ℕ
  inner_pairs r inside later no_pairs = codes "}"
  inner_pairs r inside later (pair k v ps) =
      (comma_after later ++ (inner r inside k ++ (codes ": " ++ inner r inside v)))
      ++ inner_pairs r inside true ps

abbrev pub map_text : RecordData → NamespaceTexts → Pairs → List ℕ
map_text r inside ps = codes "{" ++ inner_pairs r inside false ps

-- continues with the content of a namespace, if it has a record
abbrev pub entered : {A : Type 0} → Option (List (Val × Val)) → A → (Pairs → A) → A
entered None missing there = missing
entered (Some ps) missing there = there (pairs_of ps)

-- A namespace is printed as the map of its content. `levels` limits the nesting of namespaces. What
-- is deeper, or has no record, is refused, and its text is empty.
abbrev pub namespace_text : RecordData → ℕ → NamespaceTexts
namespace_text r zero s n = []
namespace_text r (suc levels) s n =
    entered (namespace_at r s n) [] (map_text r (namespace_text r levels))

-- the text of a value on its own: undefined prints nothing, and a text has no quotes
abbrev pub bare_text : Val → Option (List ℕ)
bare_text (undefined silent) = Some []
bare_text (text s safe) = Some s
bare_text v = None

-- The number of levels is that of the namespaces.
abbrev pub printed : RecordData → Val → List ℕ
printed r v = unwrap_or (bare_text v) (inner r (namespace_text r (length r.namespaces)) v)
