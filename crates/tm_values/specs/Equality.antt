-- When values are equal. The definition doesn't use the order; `Agreement` proves that the two
-- agree.
use Rattle.std.specs.Prelude.{Bool, true, false, ◌&&◌, nat_eq, bytes_eq}
use Rattle.std.specs.Bool.{beq}
use Rattle.std.specs.Cmp.Lexicographic.{pointwise}
use Rattle.std.specs.Option.{option_eq}
use Rattle.std.specs.Ordering.{int_eq}
use Rattle.tm_values.specs.Val.{MacroData, Val, undefined, none, boolean, number, text, list, map, keywords, exports, function, macro, loop}
use Rattle.tm_values.specs.Val.{namespace, Vals, no_vals, val, Pairs, no_pairs, pair, whole_of}

-- the same state, stream, entry, closure, name, arguments and `takes_caller`
abbrev pub same_macro : MacroData → MacroData → Bool
same_macro m n =
    nat_eq m.state n.state && (nat_eq m.stream n.stream && (nat_eq m.entry n.entry
    && (option_eq nat_eq m.closure n.closure && (bytes_eq m.name n.name
    && (pointwise bytes_eq m.arguments n.arguments && beq m.caller n.caller)))))

-- Undefined values are all equal, silent or not, and `none` equals itself. A truth value counts as
-- 0 or 1, also against a number. Texts are compared by their bytes; the safe mark is ignored.
-- Values of different kinds are never equal.
abbrev mutual
  pub same_value : Val → Val → Bool
  same_value (undefined s) (undefined t) = true
  same_value none none = true
  same_value (boolean b) (boolean c) = int_eq (whole_of b) (whole_of c)
  same_value (boolean b) (number z) = int_eq (whole_of b) z
  same_value (number y) (boolean c) = int_eq y (whole_of c)
  same_value (number y) (number z) = int_eq y z
  same_value (text s safe) (text t marked) = bytes_eq s t
  same_value (list vs) (list ws) = same_values vs ws
  same_value (map ps) (map qs) = same_pairs ps qs
  same_value (keywords ps) (keywords qs) = same_pairs ps qs
  same_value (exports ps s) (exports qs t) = same_pairs ps qs && bytes_eq s t
  same_value (function i) (function j) = nat_eq i j
  same_value (macro m) (macro n) = same_macro m n
  same_value (loop s i) (loop t j) = nat_eq s t && nat_eq i j
  same_value (namespace s i) (namespace t j) = nat_eq s t && nat_eq i j
  same_value v w = false

  -- the same length, and equal items
  pub same_values : Vals → Vals → Bool
  same_values no_vals no_vals = true
  same_values (val v vs) (val w ws) = same_value v w && same_values vs ws
  same_values vs ws = false

  -- the same length, and equal keys and values
  pub same_pairs : Pairs → Pairs → Bool
  same_pairs no_pairs no_pairs = true
  same_pairs (pair k v ps) (pair l w qs) = same_value k l && (same_value v w && same_pairs ps qs)
  same_pairs ps qs = false
