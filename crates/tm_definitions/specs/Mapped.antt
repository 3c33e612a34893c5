-- Values with their namespaces replaced by maps, at any depth outside of keys.
use Rattle.std.specs.Prelude.{ℕ, zero, suc, length, Ok, Err}
use Rattle.tm_values.specs.Answer.{Answer, invalid}
use Rattle.tm_values.specs.Records.{RecordData, namespace_at}
use Rattle.tm_values.specs.Val.{Val, undefined, none, boolean, number, text, list, map, keywords, exports, function, macro, loop, namespace}
use Rattle.tm_values.specs.Val.{Vals, no_vals, val, Pairs, no_pairs, pair}
use Rattle.tm_definitions.specs.Emitted.{map_ok}
use Rattle.tm_definitions.specs.Printed.{entered}

-- the maps of namespaces, by state and number
abbrev pub NamespaceValues : Type 0
NamespaceValues = ℕ → ℕ → Answer Val

-- continues with a value that is Ok
abbrev pub with_ok : {A B : Type 0} → Answer A → (A → Answer B) → Answer B
with_ok (Ok x) f = f x
with_ok (Err chain) f = Err chain

abbrev mutual
  pub mapped : NamespaceValues → Val → Answer Val
  mapped inside (undefined silent) = Ok (undefined silent)
  mapped inside none = Ok none
  mapped inside (boolean truth) = Ok (boolean truth)
  mapped inside (number z) = Ok (number z)
  mapped inside (text s safe) = Ok (text s safe)
  mapped inside (list vs) = map_ok list (mapped_items inside vs)
  mapped inside (map ps) = map_ok map (mapped_pairs inside ps)
  mapped inside (keywords ps) = map_ok keywords (mapped_pairs inside ps)
  mapped inside (exports ps s) = map_ok (λ qs. exports qs s) (mapped_pairs inside ps)
  mapped inside (function n) = Ok (function n)
  mapped inside (macro m) = Ok (macro m)
  mapped inside (loop s n) = Ok (loop s n)
  mapped inside (namespace s n) = inside s n

  pub mapped_items : NamespaceValues → Vals → Answer Vals
  mapped_items inside no_vals = Ok no_vals
  mapped_items inside (val v vs) = with_ok (mapped inside v) (λ x. map_ok (val x) (mapped_items inside vs))

  -- keys stay unchanged
  pub mapped_pairs : NamespaceValues → Pairs → Answer Pairs
  mapped_pairs inside no_pairs = Ok no_pairs
  mapped_pairs inside (pair k v ps) = with_ok (mapped inside v) (λ x. map_ok (pair k x) (mapped_pairs inside ps))

-- `levels` limits the nesting of namespaces. A namespace that has no record, or is deeper, is
-- refused. If `levels` is the number of namespaces, a deeper one contains itself.
abbrev pub namespace_mapped : RecordData → ℕ → NamespaceValues
namespace_mapped r zero s n = invalid
namespace_mapped r (suc levels) s n =
    entered (namespace_at r s n) invalid (λ ps. map_ok map (mapped_pairs (namespace_mapped r levels) ps))

abbrev pub mapped_within : RecordData → ℕ → Val → Answer Val
mapped_within r levels v = mapped (namespace_mapped r levels) v

-- a value with its namespaces replaced by maps
abbrev pub with_maps : RecordData → Val → Answer Val
with_maps r v = mapped_within r (length r.namespaces) v
