-- Whether a value can be printed or written as JSON, or the error of the leftmost bad part.
use Rattle.std.specs.Prelude.{ℕ, zero, suc, Bool, true, false, cond, ◌==◌, length, Ok, Err, is_some}
use Rattle.tm_values.specs.Answer.{Answer, refused, invalid}
use Rattle.tm_values.specs.Writable.{fits_json}
use Rattle.tm_values.specs.Records.{RecordData, namespace_at, loop_at}
use Rattle.tm_values.specs.Val.{Val, undefined, none, boolean, number, text, list, map, keywords, exports, function, macro, loop, namespace}
use Rattle.tm_values.specs.Val.{Vals, no_vals, val, Pairs, no_pairs, pair}
use Rattle.tm_values.specs.declared.error.ErrorKind.TheVariants.{BadSerialization}
use Rattle.tm_definitions.specs.Printed.{entered}
use Rattle.tm_definitions.specs.declared.output_format.OutputFormat.{OutputFormat}
use Rattle.tm_definitions.specs.declared.output_format.OutputFormat.TheVariants.{Printed, Json}

abbrev pub Verdict : Type 0
Verdict = Answer (Unit {0})

abbrev pub fine : Verdict
fine = Ok tt

-- the first verdict that is an error
abbrev pub and_then : Verdict → Verdict → Verdict
and_then (Ok u) later = later
and_then (Err chain) later = Err chain

abbrev pub if_holds : Bool → Verdict → Verdict
if_holds true otherwise = fine
if_holds false otherwise = otherwise

-- a condition for JSON only
abbrev pub in_json : OutputFormat → Verdict → Verdict
in_json Printed verdict = fine
in_json Json verdict = verdict

abbrev pub no_json : Verdict
no_json = refused BadSerialization

-- a loop can be printed if it has a record, and has no JSON
abbrev pub loop_verdict : OutputFormat → RecordData → ℕ → ℕ → Verdict
loop_verdict Printed r s n = if_holds (is_some (loop_at r s n)) invalid
loop_verdict Json r s n = no_json

-- a key in JSON must be a text
abbrev pub key_verdict : Val → Verdict
key_verdict (text s safe) = fine
key_verdict k = no_json

-- for a pair: its key as a key, and then the key and the value
abbrev pub member_verdict : OutputFormat → Val → Verdict → Verdict → Verdict
member_verdict form k key value = and_then (in_json form (key_verdict k)) (and_then key value)

-- for namespaces, by state and number
abbrev pub NamespaceVerdicts : Type 0
NamespaceVerdicts = ℕ → ℕ → Verdict

abbrev mutual
  pub verdict : OutputFormat → RecordData → NamespaceVerdicts → Val → Verdict
  verdict form r inside (undefined silent) = fine
  verdict form r inside none = fine
  verdict form r inside (boolean truth) = fine
  verdict form r inside (number z) = in_json form (if_holds (fits_json z) no_json)
  verdict form r inside (text s safe) = fine
  verdict form r inside (list vs) = items_verdict form r inside vs
  verdict form r inside (map ps) = pairs_verdict form r inside ps
  verdict form r inside (keywords ps) = pairs_verdict form r inside ps
  -- a module is printed as its text, and is an object in JSON
  verdict form r inside (exports ps s) = in_json form (pairs_verdict form r inside ps)
  verdict form r inside (function n) = in_json form no_json
  verdict form r inside (macro m) = in_json form no_json
  verdict form r inside (loop s n) = loop_verdict form r s n
  verdict form r inside (namespace s n) = inside s n

  pub items_verdict : OutputFormat → RecordData → NamespaceVerdicts → Vals → Verdict
  items_verdict form r inside no_vals = fine
  items_verdict form r inside (val v vs) =
      and_then (verdict form r inside v) (items_verdict form r inside vs)

  -- in each pair the key comes first
  pub pairs_verdict : OutputFormat → RecordData → NamespaceVerdicts → Pairs → Verdict
  pairs_verdict form r inside no_pairs = fine
  pairs_verdict form r inside (pair k v ps) =
      and_then
      (member_verdict form k (verdict form r inside k) (verdict form r inside v))
      (pairs_verdict form r inside ps)

-- the namespaces that are being checked
abbrev pub Way : Type 0
Way = ℕ → Bool

abbrev pub nowhere : Way
nowhere n = false

abbrev pub through : ℕ → Way → Way
through n way k = cond (n == k) true (way k)

-- A namespace that has no record is refused. So is one that is being checked already: it contains
-- itself. As many levels suffice as there are namespaces that aren't being checked.
abbrev pub namespace_verdict : OutputFormat → RecordData → ℕ → Way → NamespaceVerdicts
namespace_verdict form r zero way s n = invalid
namespace_verdict form r (suc levels) way s n =
    entered (namespace_at r s n) invalid
    (λ ps. cond (way n) invalid
    (pairs_verdict form r (namespace_verdict form r levels (through n way)) ps))

abbrev pub verdict_within : OutputFormat → RecordData → ℕ → Way → Val → Verdict
verdict_within form r levels way v = verdict form r (namespace_verdict form r levels way) v

abbrev pub print_verdict : RecordData → Val → Verdict
print_verdict r v = verdict_within Printed r (length r.namespaces) nowhere v

abbrev pub json_verdict : RecordData → Val → Verdict
json_verdict r v = verdict_within Json r (length r.namespaces) nowhere v
