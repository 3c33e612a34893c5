-- Equality and the order agree: two values are equal exactly if the order doesn't tell them apart.
-- So equality is an equivalence.
use Rattle.std.proofs.Common.{◌≡◌, Bool, true, false, Option, Some, None, ℕ, refl, sym, subst}
use Rattle.std.specs.Bool.{beq}
use Rattle.std.specs.Cmp.{IsEquivalence, IsPartialEquivalence, IsPartialOrder, both_tied, eq_by_cmp_equiv, partial_equiv_from_equiv}
use Rattle.std.specs.Cmp.{partial_order_from_agreeing_total, unsigned_ties}
use Rattle.std.specs.Cmp.Lexicographic.{lists_ties, slice_cmp, texts_ties}
use Rattle.std.specs.Option.{option_cmp, option_eq}
use Rattle.std.specs.Ordering.{as_partial_cmp, bool_cmp, is_eq, nat_cmp, ordering_then}
use Rattle.std.specs.Prelude.{◌&&◌, nat_eq}
use Rattle.tm_values.specs.Equality.{same_macro, same_value, same_values, same_pairs}
use Rattle.tm_values.specs.Order.{macro_cmp, pairs_cmp, val_cmp, vals_cmp}
use Rattle.tm_values.specs.Total.{val_cmp_total}
use Rattle.tm_values.specs.Val.{MacroData, Val, undefined, none, boolean, number, text, list, map, keywords, exports, function, macro, loop}
use Rattle.tm_values.specs.Val.{namespace, Vals, no_vals, val, Pairs, no_pairs, pair}

options_agree : (i j : Option ℕ) → option_eq nat_eq i j ≡ is_eq (option_cmp nat_cmp i j)
options_agree None None = refl
options_agree None (Some j) = refl
options_agree (Some i) None = refl
options_agree (Some i) (Some j) = unsigned_ties i j

flags_agree : (b c : Bool) → beq b c ≡ is_eq (bool_cmp b c)
flags_agree false false = refl
flags_agree false true = refl
flags_agree true false = refl
flags_agree true true = refl

numbers_agree : (s i t j : ℕ) → (nat_eq s t && nat_eq i j) ≡ is_eq (ordering_then (nat_cmp s t) (nat_cmp i j))
numbers_agree s i t j = both_tied _ _ (nat_cmp s t) (nat_cmp i j) (unsigned_ties s t) (unsigned_ties i j)

macros_agree : (m n : MacroData) → same_macro m n ≡ is_eq (macro_cmp m n)
macros_agree m n =
    both_tied _ _ (nat_cmp m.state n.state) _ (unsigned_ties m.state n.state)
    (both_tied _ _ (nat_cmp m.stream n.stream) _ (unsigned_ties m.stream n.stream)
    (both_tied _ _ (nat_cmp m.entry n.entry) _ (unsigned_ties m.entry n.entry)
    (both_tied _ _ (option_cmp nat_cmp m.closure n.closure) _ (options_agree m.closure n.closure)
    (both_tied _ _ (slice_cmp nat_cmp m.name n.name) _ (texts_ties m.name n.name)
    (both_tied _ _ (slice_cmp (slice_cmp nat_cmp) m.arguments n.arguments) (bool_cmp m.caller n.caller)
    (lists_ties (slice_cmp nat_cmp) texts_ties m.arguments n.arguments) (flags_agree m.caller n.caller))))))

mutual
  pub values_agree : (a b : Val) → same_value a b ≡ is_eq (val_cmp a b)
  values_agree (undefined s) (undefined t) = refl
  values_agree none none = refl
  values_agree (boolean b) (boolean c) = refl
  values_agree (boolean b) (number z) = refl
  values_agree (number y) (boolean c) = refl
  values_agree (number y) (number z) = refl
  values_agree (text s safe) (text t marked) = texts_ties s t
  values_agree (list vs) (list ws) = items_agree vs ws
  values_agree (map ps) (map qs) = pairs_agree ps qs
  values_agree (keywords ps) (keywords qs) = pairs_agree ps qs
  values_agree (exports ps s) (exports qs t) = both_tied _ _ (pairs_cmp ps qs) (slice_cmp nat_cmp s t) (pairs_agree ps qs) (texts_ties s t)
  values_agree (function i) (function j) = unsigned_ties i j
  values_agree (macro m) (macro n) = macros_agree m n
  values_agree (loop s i) (loop t j) = numbers_agree s i t j
  values_agree (namespace s i) (namespace t j) = numbers_agree s i t j
  values_agree a b = refl

  pub items_agree : (vs ws : Vals) → same_values vs ws ≡ is_eq (vals_cmp vs ws)
  items_agree no_vals no_vals = refl
  items_agree no_vals (val w ws) = refl
  items_agree (val v vs) no_vals = refl
  items_agree (val v vs) (val w ws) = both_tied _ _ (val_cmp v w) (vals_cmp vs ws) (values_agree v w) (items_agree vs ws)

  pairs_agree : (ps qs : Pairs) → same_pairs ps qs ≡ is_eq (pairs_cmp ps qs)
  pairs_agree no_pairs no_pairs = refl
  pairs_agree no_pairs (pair l w qs) = refl
  pairs_agree (pair k v ps) no_pairs = refl
  pairs_agree (pair k v ps) (pair l w qs) =
      both_tied _ _ (val_cmp k l) (ordering_then (val_cmp v w) (pairs_cmp ps qs)) (values_agree k l)
      (both_tied _ _ (val_cmp v w) (pairs_cmp ps qs) (values_agree v w) (pairs_agree ps qs))

pub same_value_equiv : IsEquivalence same_value
same_value_equiv = subst IsEquivalence (λ i a b. sym (values_agree a b) i) (eq_by_cmp_equiv val_cmp_total)

pub same_value_partial : IsPartialEquivalence same_value
same_value_partial = partial_equiv_from_equiv same_value_equiv

pub val_cmp_partial : IsPartialOrder same_value (as_partial_cmp val_cmp)
val_cmp_partial = partial_order_from_agreeing_total val_cmp val_cmp_total (λ a b. refl) values_agree
