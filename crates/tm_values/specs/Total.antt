-- The order of values is total: each value has a key, a list of whole numbers, and the keys are
-- ordered as the values are.
use Rattle.std.proofs.Common.{◌≡◌, ℕ, ℤ, pos, Bool, true, false, List, [], ◌∷◌, Option, Some, None, Ordering, Less, Equal}
use Rattle.std.proofs.Common.{Greater, nat_cmp, refl, sym, ap, ◌∙◌, arith}
use Rattle.std.proofs.lemmas.Bool.Decides.{nat_tests}
use Rattle.std.proofs.lemmas.Cmp.{lists_total, int_cmp_total}
use Rattle.std.specs.Cmp.{IsTotalOrder}
use Rattle.std.specs.Cmp.Lexicographic.{slice_cmp}
use Rattle.std.specs.Option.{option_cmp}
use Rattle.std.specs.Ordering.{int_cmp, bool_cmp, ordering_then, ordering_reverse}
use Rattle.tm_values.specs.Order.{rank, within, val_cmp, vals_cmp, pairs_cmp, macro_cmp, bytes_in, whole_or_zero, function_in}
use Rattle.tm_values.specs.Order.{state_in, record_in, macro_against}
use Rattle.tm_values.specs.Val.{MacroData, Val, undefined, none, boolean, number, text, list, map, keywords, exports, function, macro, loop}
use Rattle.tm_values.specs.Val.{namespace, Vals, no_vals, val, Pairs, no_pairs, pair, vals_in, pairs_in, whole_of}

-- 0 ends a text, items and pairs; the marks before a byte and at the start of a value are larger
abbrev text_key : List ℕ → List ℤ → List ℤ
text_key [] rest = pos 0 ∷ rest
text_key (b ∷ bs) rest = pos 1 ∷ pos b ∷ text_key bs rest

abbrev texts_key : List (List ℕ) → List ℤ → List ℤ
texts_key [] rest = pos 0 ∷ rest
texts_key (s ∷ ss) rest = pos 1 ∷ text_key s (texts_key ss rest)

abbrev option_key : Option ℕ → List ℤ → List ℤ
option_key None rest = pos 0 ∷ rest
option_key (Some n) rest = pos 1 ∷ pos n ∷ rest

abbrev flag_key : Bool → List ℤ → List ℤ
flag_key false rest = pos 0 ∷ rest
flag_key true rest = pos 1 ∷ rest

abbrev macro_key : MacroData → List ℤ → List ℤ
macro_key m rest =
    pos m.state ∷ pos m.stream ∷ pos m.entry ∷ option_key m.closure (text_key m.name (texts_key m.arguments (flag_key m.caller rest)))

abbrev mutual
  -- after the rank
  body : Val → List ℤ → List ℤ
  body (undefined s) rest = rest
  body none rest = rest
  body (boolean b) rest = whole_of b ∷ rest
  body (number z) rest = z ∷ rest
  body (text s m) rest = text_key s rest
  body (list vs) rest = vals_key vs rest
  body (map ps) rest = pairs_key ps rest
  body (keywords ps) rest = pairs_key ps rest
  body (exports ps s) rest = pairs_key ps (text_key s rest)
  body (function n) rest = pos n ∷ rest
  body (macro m) rest = macro_key m rest
  body (loop i n) rest = pos i ∷ pos n ∷ rest
  body (namespace i n) rest = pos i ∷ pos n ∷ rest

  vals_key : Vals → List ℤ → List ℤ
  vals_key no_vals rest = pos 0 ∷ rest
  vals_key (val v vs) rest = pos 1 ∷ pos (rank v) ∷ body v (vals_key vs rest)

  pairs_key : Pairs → List ℤ → List ℤ
  pairs_key no_pairs rest = pos 0 ∷ rest
  pairs_key (pair k v ps) rest = pos 1 ∷ pos (rank k) ∷ body k (pos (rank v) ∷ body v (pairs_key ps rest))

abbrev key : Val → List ℤ → List ℤ
key v rest = pos (rank v) ∷ body v rest

abbrev keys_cmp : List ℤ → List ℤ → Ordering
keys_cmp = slice_cmp int_cmp

then-assoc : (a b c : Ordering) → ordering_then (ordering_then a b) c ≡ ordering_then a (ordering_then b c)
then-assoc Less b c = refl
then-assoc Equal b c = refl
then-assoc Greater b c = refl

then-equal : (a : Ordering) → ordering_then a Equal ≡ a
then-equal Less = refl
then-equal Equal = refl
then-equal Greater = refl

-- what follows two equal prefixes of keys
after : (a b c d : Ordering) → b ≡ ordering_then c d → ordering_then a b ≡ ordering_then (ordering_then a c) d
after a b c d h = ap (ordering_then a) h ∙ sym (then-assoc a c d)

same_order : (x y : ℕ) → int_cmp (pos x) (pos y) ≡ nat_cmp x y
same_order x y = grind (arith, nat_tests)

-- two keys that begin with numbers
step : (x y : ℕ) (r s : List ℤ) (c d : Ordering) → keys_cmp r s ≡ ordering_then c d →
    keys_cmp (pos x ∷ r) (pos y ∷ s) ≡ ordering_then (ordering_then (nat_cmp x y) c) d
step x y r s c d h = ap (λ o. ordering_then o (keys_cmp r s)) (same_order x y) ∙ after (nat_cmp x y) (keys_cmp r s) c d h

last : (x y : ℕ) (r s : List ℤ) → keys_cmp (pos x ∷ r) (pos y ∷ s) ≡ ordering_then (nat_cmp x y) (keys_cmp r s)
last x y r s = ap (λ o. ordering_then o (keys_cmp r s)) (same_order x y)

text-holds : (x y : List ℕ) (r s : List ℤ) → keys_cmp (text_key x r) (text_key y s) ≡ ordering_then (slice_cmp nat_cmp x y) (keys_cmp r s)
text-holds [] [] r s = refl
text-holds [] (y ∷ ys) r s = refl
text-holds (x ∷ xs) [] r s = refl
text-holds (x ∷ xs) (y ∷ ys) r s = step x y (text_key xs r) (text_key ys s) (slice_cmp nat_cmp xs ys) (keys_cmp r s) (text-holds xs ys r s)

texts-hold : (x y : List (List ℕ)) (r s : List ℤ) →
    keys_cmp (texts_key x r) (texts_key y s) ≡ ordering_then (slice_cmp (slice_cmp nat_cmp) x y) (keys_cmp r s)
texts-hold [] [] r s = refl
texts-hold [] (y ∷ ys) r s = refl
texts-hold (x ∷ xs) [] r s = refl
texts-hold (x ∷ xs) (y ∷ ys) r s =
    text-holds x y (texts_key xs r) (texts_key ys s)
    ∙ after (slice_cmp nat_cmp x y) (keys_cmp (texts_key xs r) (texts_key ys s)) (slice_cmp (slice_cmp nat_cmp) xs ys) (keys_cmp r s)
    (texts-hold xs ys r s)

option-holds : (x y : Option ℕ) (r s : List ℤ) →
    keys_cmp (option_key x r) (option_key y s) ≡ ordering_then (option_cmp nat_cmp x y) (keys_cmp r s)
option-holds None None r s = refl
option-holds None (Some y) r s = refl
option-holds (Some x) None r s = refl
option-holds (Some x) (Some y) r s = last x y r s

flag-holds : (x y : Bool) (r s : List ℤ) → keys_cmp (flag_key x r) (flag_key y s) ≡ ordering_then (bool_cmp x y) (keys_cmp r s)
flag-holds false false r s = refl
flag-holds false true r s = refl
flag-holds true false r s = refl
flag-holds true true r s = refl

macro-holds : (x y : MacroData) (r s : List ℤ) → keys_cmp (macro_key x r) (macro_key y s) ≡ ordering_then (macro_cmp x y) (keys_cmp r s)
macro-holds x y r s =
    let z : Ordering = keys_cmp r s in
    let flag_x : List ℤ = flag_key x.caller r in
    let flag_y : List ℤ = flag_key y.caller s in
    let names_x : List ℤ = texts_key x.arguments flag_x in
    let names_y : List ℤ = texts_key y.arguments flag_y in
    let name_x : List ℤ = text_key x.name names_x in
    let name_y : List ℤ = text_key y.name names_y in
    let closure_x : List ℤ = option_key x.closure name_x in
    let closure_y : List ℤ = option_key y.closure name_y in
    let flags : Ordering = bool_cmp x.caller y.caller in
    let names : Ordering = ordering_then (slice_cmp (slice_cmp nat_cmp) x.arguments y.arguments) flags in
    let name : Ordering = ordering_then (slice_cmp nat_cmp x.name y.name) names in
    let closure : Ordering = ordering_then (option_cmp nat_cmp x.closure y.closure) name in
    let entry : Ordering = ordering_then (nat_cmp x.entry y.entry) closure in
    let by_flag : keys_cmp flag_x flag_y ≡ ordering_then flags z = flag-holds x.caller y.caller r s in
    let by_names : keys_cmp names_x names_y ≡ ordering_then names z = texts-hold x.arguments y.arguments flag_x flag_y
    ∙ after (slice_cmp (slice_cmp nat_cmp) x.arguments y.arguments) (keys_cmp flag_x flag_y) flags z by_flag in
    let by_name : keys_cmp name_x name_y ≡ ordering_then name z = text-holds x.name y.name names_x names_y
    ∙ after (slice_cmp nat_cmp x.name y.name) (keys_cmp names_x names_y) names z by_names in
    let by_closure : keys_cmp closure_x closure_y ≡ ordering_then closure z = option-holds x.closure y.closure name_x name_y
    ∙ after (option_cmp nat_cmp x.closure y.closure) (keys_cmp name_x name_y) name z by_name in
    step x.state y.state (pos x.stream ∷ pos x.entry ∷ closure_x) (pos y.stream ∷ pos y.entry ∷ closure_y)
    (ordering_then (nat_cmp x.stream y.stream) entry) z
    (step x.stream y.stream (pos x.entry ∷ closure_x) (pos y.entry ∷ closure_y) entry z
    (step x.entry y.entry closure_x closure_y closure z by_closure))

-- another value of the same kind, by its parts
body-text : (b : Val) (s : List ℤ) → rank b ≡ 3 → body b s ≡ text_key (bytes_in b) s
body-text (text t m) s h = refl
body-text _ s h = absurd (omega arith)

body-whole : (b : Val) (s : List ℤ) → rank b ≡ 2 → body b s ≡ whole_or_zero b ∷ s
body-whole (boolean c) s h = refl
body-whole (number z) s h = refl
body-whole _ s h = absurd (omega arith)

body-list : (b : Val) (s : List ℤ) → rank b ≡ 4 → body b s ≡ vals_key (vals_in b) s
body-list (list vs) s h = refl
body-list _ s h = absurd (omega arith)

body-map : (b : Val) (s : List ℤ) → rank b ≡ 5 → body b s ≡ pairs_key (pairs_in b) s
body-map (map ps) s h = refl
body-map _ s h = absurd (omega arith)

body-keywords : (b : Val) (s : List ℤ) → rank b ≡ 6 → body b s ≡ pairs_key (pairs_in b) s
body-keywords (keywords ps) s h = refl
body-keywords _ s h = absurd (omega arith)

body-exports : (b : Val) (s : List ℤ) → rank b ≡ 7 → body b s ≡ pairs_key (pairs_in b) (text_key (bytes_in b) s)
body-exports (exports ps t) s h = refl
body-exports _ s h = absurd (omega arith)

body-function : (b : Val) (s : List ℤ) → rank b ≡ 8 → body b s ≡ pos (function_in b) ∷ s
body-function (function n) s h = refl
body-function _ s h = absurd (omega arith)

same-macro : (m : MacroData) (b : Val) (r s : List ℤ) → rank b ≡ 9 →
    keys_cmp (macro_key m r) (body b s) ≡ ordering_then (macro_against m b) (keys_cmp r s)
same-macro m (macro n) r s h = macro-holds m n r s
same-macro m _ r s h = absurd (omega arith)

body-loop : (b : Val) (s : List ℤ) → rank b ≡ 10 → body b s ≡ pos (state_in b) ∷ pos (record_in b) ∷ s
body-loop (loop i n) s h = refl
body-loop _ s h = absurd (omega arith)

body-namespace : (b : Val) (s : List ℤ) → rank b ≡ 11 → body b s ≡ pos (state_in b) ∷ pos (record_in b) ∷ s
body-namespace (namespace i n) s h = refl
body-namespace _ s h = absurd (omega arith)

body-undefined : (b : Val) (s : List ℤ) → rank b ≡ 0 → body b s ≡ s
body-undefined (undefined t) s h = refl
body-undefined _ s h = absurd (omega arith)

body-none : (b : Val) (s : List ℤ) → rank b ≡ 1 → body b s ≡ s
body-none none s h = refl
body-none _ s h = absurd (omega arith)

-- if the ranks differ, nothing else counts
where_equal : (o x y z : Ordering) → (o ≡ Equal → x ≡ ordering_then y z) → ordering_then o x ≡ ordering_then (ordering_then o y) z
where_equal Less x y z h = refl
where_equal Equal x y z h = h refl
where_equal Greater x y z h = refl

same_rank : (m n : ℕ) → nat_cmp m n ≡ Equal → n ≡ m
same_rank m n h = grind (arith, nat_tests)

by_rank : (m n : ℕ) (r s : List ℤ) (y z : Ordering) → (n ≡ m → keys_cmp r s ≡ ordering_then y z) →
    keys_cmp (pos m ∷ r) (pos n ∷ s) ≡ ordering_then (ordering_then (nat_cmp m n) y) z
by_rank m n r s y z h = last m n r s ∙ where_equal (nat_cmp m n) (keys_cmp r s) y z (λ e. h (same_rank m n e))

mutual
  same : (a b : Val) (r s : List ℤ) → rank b ≡ rank a → keys_cmp (body a r) (body b s) ≡ ordering_then (within a b) (keys_cmp r s)
  same (undefined t) b r s e = rw (body-undefined b s e)
  same none b r s e = rw (body-none b s e)
  same (boolean c) b r s e = rw (body-whole b s e)
  same (number z) b r s e = rw (body-whole b s e)
  same (text t m) b r s e = rw (body-text b s e) (text-holds t (bytes_in b) r s)
  same (list vs) b r s e = rw (body-list b s e) (vals-hold vs (vals_in b) r s)
  same (map ps) b r s e = rw (body-map b s e) (pairs-hold ps (pairs_in b) r s)
  same (keywords ps) b r s e = rw (body-keywords b s e) (pairs-hold ps (pairs_in b) r s)
  same (exports ps t) b r s e =
      rw (body-exports b s e)
      (pairs-hold ps (pairs_in b) (text_key t r) (text_key (bytes_in b) s)
      ∙ after (pairs_cmp ps (pairs_in b)) (keys_cmp (text_key t r) (text_key (bytes_in b) s)) (slice_cmp nat_cmp t (bytes_in b))
      (keys_cmp r s) (text-holds t (bytes_in b) r s))
  same (function n) b r s e = rw (body-function b s e) (last n (function_in b) r s)
  same (macro m) b r s e = same-macro m b r s e
  same (loop i n) b r s e = rw (body-loop b s e)
      (step i (state_in b) (pos n ∷ r) (pos (record_in b) ∷ s) (nat_cmp n (record_in b)) (keys_cmp r s) (last n (record_in b) r s))
  same (namespace i n) b r s e = rw (body-namespace b s e)
      (step i (state_in b) (pos n ∷ r) (pos (record_in b) ∷ s) (nat_cmp n (record_in b)) (keys_cmp r s) (last n (record_in b) r s))

  vals-hold : (x y : Vals) (r s : List ℤ) → keys_cmp (vals_key x r) (vals_key y s) ≡ ordering_then (vals_cmp x y) (keys_cmp r s)
  vals-hold no_vals no_vals r s = refl
  vals-hold no_vals (val y ys) r s = refl
  vals-hold (val x xs) no_vals r s = refl
  vals-hold (val x xs) (val y ys) r s =
      let rx : List ℤ = vals_key xs r in
      let ry : List ℤ = vals_key ys s in
      by_rank (rank x) (rank y) (body x rx) (body y ry) (within x y) (keys_cmp rx ry) (same x y rx ry)
      ∙ after (val_cmp x y) (keys_cmp rx ry) (vals_cmp xs ys) (keys_cmp r s) (vals-hold xs ys r s)

  pairs-hold : (x y : Pairs) (r s : List ℤ) → keys_cmp (pairs_key x r) (pairs_key y s) ≡ ordering_then (pairs_cmp x y) (keys_cmp r s)
  pairs-hold no_pairs no_pairs r s = refl
  pairs-hold no_pairs (pair l y qs) r s = refl
  pairs-hold (pair k x ps) no_pairs r s = refl
  pairs-hold (pair k x ps) (pair l y qs) r s =
      let rx : List ℤ = pairs_key ps r in
      let ry : List ℤ = pairs_key qs s in
      let vx : List ℤ = pos (rank x) ∷ body x rx in
      let vy : List ℤ = pos (rank y) ∷ body y ry in
      let keys = by_rank (rank k) (rank l) (body k vx) (body l vy) (within k l) (keys_cmp vx vy) (same k l vx vy) in
      let values = by_rank (rank x) (rank y) (body x rx) (body y ry) (within x y) (keys_cmp rx ry) (same x y rx ry) in
      let rest = after (val_cmp x y) (keys_cmp rx ry) (pairs_cmp ps qs) (keys_cmp r s) (pairs-hold ps qs r s) in
      keys ∙ after (val_cmp k l) (keys_cmp vx vy) (ordering_then (val_cmp x y) (pairs_cmp ps qs)) (keys_cmp r s) (values ∙ rest)

holds : (a b : Val) (r s : List ℤ) → keys_cmp (key a r) (key b s) ≡ ordering_then (val_cmp a b) (keys_cmp r s)
holds a b r s = by_rank (rank a) (rank b) (body a r) (body b s) (within a b) (keys_cmp r s) (same a b r s)

by_keys : (a b : Val) → val_cmp a b ≡ keys_cmp (key a []) (key b [])
by_keys a b = sym (holds a b [] [] ∙ then-equal (val_cmp a b))

keys_total : IsTotalOrder keys_cmp
keys_total = lists_total int_cmp_total

pub val_cmp_total : IsTotalOrder val_cmp
val_cmp_total = record {
  antisymm = λ x y. by_keys x y ∙ (keys_total.antisymm (key x []) (key y []) ∙ ap ordering_reverse (sym (by_keys y x)));
  trans = λ x y z p q. by_keys x z ∙ keys_total.trans (key x []) (key y []) (key z []) (sym (by_keys x y) ∙ p) (sym (by_keys y z) ∙ q);
  congr = λ x y z p. by_keys x z ∙ (keys_total.congr (key x []) (key y []) (key z []) (sym (by_keys x y) ∙ p) ∙ sym (by_keys y z));
}
