-- The order of values: by kind, then within the kind. Truth values are ordered among the numbers,
-- as 0 and 1.
use Rattle.std.specs.Prelude.{ℕ, ℤ, pos, List, []}
use Rattle.std.specs.Cmp.Lexicographic.{slice_cmp}
use Rattle.std.specs.Option.{option_cmp}
use Rattle.std.specs.Ordering.{nat_cmp, int_cmp, bool_cmp, ordering_then}
use Rattle.std.specs.declared.cmp.Ordering.{Ordering}
use Rattle.std.specs.declared.cmp.Ordering.TheVariants.{Less, Equal, Greater}
use Rattle.tm_values.specs.Val.{MacroData, Val, undefined, none, boolean, number, text, list, map, keywords, exports, function, macro, loop}
use Rattle.tm_values.specs.Val.{namespace, Vals, no_vals, val, Pairs, no_pairs, pair, vals_in, pairs_in, whole_of}

-- the rank of a kind
abbrev pub rank : Val → ℕ
rank (undefined s) = 0
rank none = 1
rank (boolean b) = 2
rank (number z) = 2
rank (text s m) = 3
rank (list vs) = 4
rank (map ps) = 5
rank (keywords ps) = 6
rank (exports ps s) = 7
rank (function n) = 8
rank (macro m) = 9
rank (loop i n) = 10
rank (namespace i n) = 11

-- what two values of one kind are compared by, apart from items and pairs
abbrev pub whole_or_zero : Val → ℤ
whole_or_zero (boolean b) = whole_of b
whole_or_zero (number z) = z
whole_or_zero _ = pos 0

abbrev pub bytes_in : Val → List ℕ
bytes_in (text s m) = s
bytes_in (exports ps s) = s
bytes_in _ = []

-- a function's number
abbrev pub function_in : Val → ℕ
function_in (function n) = n
function_in _ = 0

-- the state and the number of a record
abbrev pub state_in : Val → ℕ
state_in (loop i n) = i
state_in (namespace i n) = i
state_in _ = 0

abbrev pub record_in : Val → ℕ
record_in (loop i n) = n
record_in (namespace i n) = n
record_in _ = 0

-- by state, stream, entry, closure (None first), name, arguments, and then `takes_caller`
abbrev pub macro_cmp : MacroData → MacroData → Ordering
macro_cmp a b =
    ordering_then (nat_cmp a.state b.state)
    (ordering_then (nat_cmp a.stream b.stream)
    (ordering_then (nat_cmp a.entry b.entry)
    (ordering_then (option_cmp nat_cmp a.closure b.closure)
    (ordering_then (slice_cmp nat_cmp a.name b.name)
    (ordering_then (slice_cmp (slice_cmp nat_cmp) a.arguments b.arguments)
    (bool_cmp a.caller b.caller))))))

-- a macro against another macro
abbrev pub macro_against : MacroData → Val → Ordering
macro_against m (macro n) = macro_cmp m n
macro_against m _ = Equal

-- by state, then by number
abbrev pub record_cmp : Val → Val → Ordering
record_cmp a b =
    ordering_then (nat_cmp (state_in a) (state_in b)) (nat_cmp (record_in a) (record_in b))

abbrev mutual
  -- within one kind: numbers by size, texts by bytes, lists by items, maps by pairs, modules by map
  -- and then text
  pub within : Val → Val → Ordering
  within (undefined s) b = Equal
  within none b = Equal
  within (boolean c) b = int_cmp (whole_of c) (whole_or_zero b)
  within (number z) b = int_cmp z (whole_or_zero b)
  within (text s m) b = slice_cmp nat_cmp s (bytes_in b)
  within (list vs) b = vals_cmp vs (vals_in b)
  within (map ps) b = pairs_cmp ps (pairs_in b)
  within (keywords ps) b = pairs_cmp ps (pairs_in b)
  within (exports ps s) b =
      ordering_then (pairs_cmp ps (pairs_in b)) (slice_cmp nat_cmp s (bytes_in b))
  within (function n) b = nat_cmp n (function_in b)
  within (macro m) b = macro_against m b
  within (loop i n) b = record_cmp (loop i n) b
  within (namespace i n) b = record_cmp (namespace i n) b

  -- item by item; a prefix comes first
  pub vals_cmp : Vals → Vals → Ordering
  vals_cmp no_vals no_vals = Equal
  vals_cmp no_vals (val y ys) = Less
  vals_cmp (val x xs) no_vals = Greater
  vals_cmp (val x xs) (val y ys) =
      ordering_then (ordering_then (nat_cmp (rank x) (rank y)) (within x y)) (vals_cmp xs ys)

  -- by the first key, then its value, then the pairs after it; a prefix comes first
  pub pairs_cmp : Pairs → Pairs → Ordering
  pairs_cmp no_pairs no_pairs = Equal
  pairs_cmp no_pairs (pair l y qs) = Less
  pairs_cmp (pair k x ps) no_pairs = Greater
  pairs_cmp (pair k x ps) (pair l y qs) =
      ordering_then (ordering_then (nat_cmp (rank k) (rank l)) (within k l))
      (ordering_then (ordering_then (nat_cmp (rank x) (rank y)) (within x y)) (pairs_cmp ps qs))

-- by kind, then within the kind
abbrev pub val_cmp : Val → Val → Ordering
val_cmp a b = ordering_then (nat_cmp (rank a) (rank b)) (within a b)
