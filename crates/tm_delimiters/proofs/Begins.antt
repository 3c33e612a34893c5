-- A search for start delimiters by their first bytes.
use Rattle.std.proofs.Common.{◌≡◌, ◌≢◌, ◌⊎◌, inl, inr, ℕ, zero, suc, ◌+◌, ◌-◌, ◌<◌, ◌≤◌, List, [], ◌∷◌, Bool, true, false, nat_eq, Option}
use Rattle.std.proofs.Common.{Some, None, length, drop, take, get_or, refl, sym, ◌∙◌, ap, arith, length-drop}
use Rattle.std.specs.Prelude.{◌||◌, ◌&&◌, ◌==◌, slice_index, option_map, is_some, if◌then◌else◌}
use Rattle.std.specs.List.{starts_with}
use Rattle.std.specs.Cmp.Lexicographic.{pointwise}
use Rattle.std.proofs.lemmas.List.{get_or-drop, get_or-take, length-take, take_all}
use Rattle.std.proofs.lemmas.Bool.{eqb-true, eq-eqb}
use Rattle.std.proofs.lemmas.Str.{IsCharBoundary-start}
use Rattle.std.specs.Str.{IsUtf8, IsCharBoundary}
use Rattle.memchr.specs.Find.{Nowhere, NoneBefore, Passes, is_byte3}
use Rattle.tm_delimiters.specs.declared.syntax.Kind.{Kind}
use Rattle.tm_delimiters.specs.declared.syntax.Kind.TheVariants as kind
use Rattle.tm_delimiters.specs.Front.{after, first_of}
use Rattle.tm_delimiters.specs.declared.trimming.Side.{Side}
use Rattle.tm_delimiters.specs.Syntax.{Syntax, HasAll}
use Rattle.tm_delimiters.specs.Starts.{start_delimiter, opens, second_if, longer, opening, begins, BeginsAt, side_at, tag_start}
use Rattle.tm_delimiters.proofs.Places.{not_true, first_of-at, first_of-nowhere}

some_bytes : (ws : List ℕ) → ws ≢ [] → 0 < length ws
some_bytes [] h = absurd (h refl)
some_bytes (w ∷ ws) h = omega arith

-- what begins with a word begins with its first byte
first_byte : (bs ws : List ℕ) → ws ≢ [] → starts_with nat_eq bs ws ≡ true → (0 < length bs) × (slice_index bs 0 ≡ slice_index ws 0)
first_byte bs [] some h = absurd (some refl)
first_byte [] (w ∷ ws) some h = cc
first_byte (c ∷ cs) (w ∷ ws) some h = (omega arith, by_test (nat_eq w c) refl h)
  where
    by_test : (same : Bool) → nat_eq w c ≡ same → (same && pointwise nat_eq ws (take (length ws) cs)) ≡ true → c ≡ w
    by_test true e h = sym (eqb-true w c e)
    by_test false e h = cc

either : (x y z : Bool) → (x || y || z) ≡ true → (x ≡ true) ⊎ ((y ≡ true) ⊎ (z ≡ true))
either true y z h = inl refl
either false true z h = inr (inl refl)
either false false z h = inr (inr h)

right_or : (x : Bool) → (x || true) ≡ true
right_or true = refl
right_or false = refl

middle_or : (x z : Bool) → (x || true || z) ≡ true
middle_or true z = refl
middle_or false z = refl

last_or : (x y : Bool) → (x || y || true) ≡ true
last_or true y = refl
last_or false y = right_or y

abbrev one_of : Syntax → ℕ → Bool
one_of s c = is_byte3 (slice_index s.block_start 0) (slice_index s.variable_start 0) (slice_index s.comment_start 0) c

-- where a start delimiter stands, the first byte of one stands
begins_by : (s : Syntax) (bs : List ℕ) → HasAll s → begins s bs ≡ true → (0 < length bs) × (one_of s (slice_index bs 0) ≡ true)
begins_by s bs u h = by_word (either (starts_with nat_eq bs s.block_start) (starts_with nat_eq bs s.variable_start)
    (starts_with nat_eq bs s.comment_start) h)
  where
    by_word : (starts_with nat_eq bs s.block_start
        ≡ true) ⊎ ((starts_with nat_eq bs s.variable_start ≡ true) ⊎ (starts_with nat_eq bs s.comment_start ≡ true)) →
        (0 < length bs) × (one_of s (slice_index bs 0) ≡ true)
    by_word (inl k) =
        let f = first_byte bs s.block_start u.block_start k in (
          f.0,
          ap (λ t. t || (slice_index bs 0 == slice_index s.variable_start 0) || (slice_index bs 0 == slice_index s.comment_start 0))
              (eq-eqb _ _ f.1),
        )
    by_word (inr (inl k)) =
        let f = first_byte bs s.variable_start u.variable_start k in (
          f.0,
          ap (λ t. (slice_index bs 0 == slice_index s.block_start 0) || t || (slice_index bs 0 == slice_index s.comment_start 0))
              (eq-eqb _ _ f.1) ∙ middle_or (slice_index bs 0 == slice_index s.block_start 0)
              (slice_index bs 0 == slice_index s.comment_start 0),
        )
    by_word (inr (inr k)) =
        let f = first_byte bs s.comment_start u.comment_start k in (
          f.0,
          ap (λ t. (slice_index bs 0 == slice_index s.block_start 0) || (slice_index bs 0 == slice_index s.variable_start 0) || t)
              (eq-eqb _ _ f.1) ∙ last_or (slice_index bs 0 == slice_index s.block_start 0)
              (slice_index bs 0 == slice_index s.variable_start 0),
        )

-- none stands before the first such byte
none_before : (s : Syntax) (bs rest : List ℕ) (from n : ℕ) → HasAll s → rest ≡ take (length bs - from) (drop from bs) →
    Nowhere (BeginsAt s bs) 0 from → Nowhere (Passes (one_of s) rest) 0 n → n ≤ length bs - from → Nowhere (BeginsAt s bs) 0 (from + n)
none_before s bs rest from n u e old h fits k low high p = by_place (suc k - from) refl
  where
    by_place : (j : ℕ) → suc k - from ≡ j → ⊥
    by_place zero f = old k low (omega (arith, f)) p
    by_place (suc j) f =
        let small : j < n = omega (arith, f, high) in
        let same : get_or rest j 0 ≡ get_or (drop k bs) 0 0 =
        ap (λ w. get_or w j 0) e ∙ get_or-take (length bs - from) (drop from bs) j 0 (omega (arith, small, fits)) ∙ get_or-drop from bs j 0
        ∙ ap (λ i. get_or bs i 0) (omega (arith, f)) ∙ sym (get_or-drop k bs 0 0) in
        let b = begins_by s (drop k bs) u p in
        h j (omega arith) small (ap (one_of s) same ∙ b.1)

-- the length of what is left at a place
left : (bs rest : List ℕ) (from : ℕ) → rest ≡ take (length bs - from) (drop from bs) → length rest ≡ length bs - from
left bs rest from e = omega (arith, ap length e, length-take (length bs - from) (drop from bs), length-drop from bs)

-- the search found no such byte
ended : (s : Syntax) (bs rest : List ℕ) (from : ℕ) → HasAll s → rest ≡ take (length bs - from) (drop from bs) →
    Nowhere (BeginsAt s bs) 0 from → Nowhere (Passes (one_of s) rest) 0 (length rest) → Nowhere (BeginsAt s bs) 0 (length bs)
ended s bs rest from u e old h k low high p =
    let n = left bs rest from e in
    none_before s bs rest from (length bs - from) u e old (λ j a b. h j a (omega (arith, n, b))) (omega arith) k low (omega (arith, high)) p

-- the search found one
later : (s : Syntax) (bs rest : List ℕ) (from at : ℕ) → HasAll s → rest ≡ take (length bs - from) (drop from bs) →
    Nowhere (BeginsAt s bs) 0 from → NoneBefore (Passes (one_of s) rest) 0 (length rest) at →
    (from + at < length bs) × Nowhere (BeginsAt s bs) 0 (from + at)
later s bs rest from at u e old h =
    let n = left bs rest from e in
    let small : at < length bs - from = omega (arith, n, h.high) in
    (omega (arith, small), none_before s bs rest from at u e old h.before (omega (arith, small)))

-- and none stands there
pub past_it : (s : Syntax) (bs : List ℕ) (k : ℕ) → Nowhere (BeginsAt s bs) 0 k → begins s (drop k bs) ≡ false →
    Nowhere (BeginsAt s bs) 0 (k + 1)
past_it s bs k old none j low high p = by_place (k - j) refl
  where
    by_place : (d : ℕ) → k - j ≡ d → ⊥
    by_place (suc d) e = old j low (omega (arith, e)) p
    by_place zero e =
        let same : j ≡ k = omega (arith, e, high) in
        cc (sym p ∙ ap (λ i. begins s (drop i bs)) same ∙ none)

-- the slice from a place on is what is left there
pub rest_is : (bs rest : List ℕ) (k : ℕ) → rest ≡ take (length bs - k) (drop k bs) → rest ≡ drop k bs
rest_is bs rest k e = e ∙ take_all (length bs - k) (drop k bs) (omega (arith, length-drop k bs))

-- a place where a start delimiter stands is between characters, since it begins with one
pub boundary_at : (s : Syntax) (bs : List ℕ) (k : ℕ) → HasAll s → IsUtf8 s.block_start → IsUtf8 s.variable_start → IsUtf8 s.comment_start →
    k ≤ length bs → BeginsAt s bs k → IsCharBoundary bs k
boundary_at s bs k u ub uv uc fits h = (
  fits,
  λ inside high. by_word inside high
      (either (starts_with nat_eq (drop k bs) s.block_start) (starts_with nat_eq (drop k bs) s.variable_start)
      (starts_with nat_eq (drop k bs) s.comment_start) h),
)
  where
    by : (w : List ℕ) → w ≢ [] → IsUtf8 w → starts_with nat_eq (drop k bs) w ≡ true → 128 ≤ slice_index bs k → 192 ≤ slice_index bs k
    by w some utf8 starts high =
        let same : slice_index w 0 ≡ slice_index bs k = sym (first_byte (drop k bs) w some starts).1 ∙ get_or-drop k bs 0 0
        ∙ ap (λ i. get_or bs i 0) (omega arith) in
        rw (← same) ((IsCharBoundary-start w utf8).1 (some_bytes w some) (rw same high))

    by_word : k < length bs → 128 ≤ slice_index bs k →
        (starts_with nat_eq (drop k bs) s.block_start
        ≡ true) ⊎ ((starts_with nat_eq (drop k bs) s.variable_start ≡ true) ⊎ (starts_with nat_eq (drop k bs) s.comment_start ≡ true)) →
        192 ≤ slice_index bs k
    by_word inside high (inl w) = by s.block_start u.block_start ub w high
    by_word inside high (inr (inl w)) = by s.variable_start u.variable_start uv w high
    by_word inside high (inr (inr w)) = by s.comment_start u.comment_start uc w high

-- the test of first bytes, by delimiters that are held elsewhere
by_bytes : (s : Syntax) (x y z rest : List ℕ) (n at : ℕ) → s.block_start ≡ x → s.variable_start ≡ y → s.comment_start ≡ z →
    NoneBefore (Passes (is_byte3 (slice_index x 0) (slice_index y 0) (slice_index z 0)) rest) 0 n at →
    NoneBefore (Passes (one_of s) rest) 0 n at
by_bytes s x y z rest n at ex ey ez h = rw (ex, ey, ez) h

no_bytes : (s : Syntax) (x y z rest : List ℕ) (n : ℕ) → s.block_start ≡ x → s.variable_start ≡ y → s.comment_start ≡ z →
    Nowhere (Passes (is_byte3 (slice_index x 0) (slice_index y 0) (slice_index z 0)) rest) 0 n → Nowhere (Passes (one_of s) rest) 0 n
no_bytes s x y z rest n ex ey ez h = rw (ex, ey, ez) h

-- what the search found
pub found_at : (s : Syntax) (bs x y z : List ℕ) (from at : ℕ) → HasAll s → s.block_start ≡ x → s.variable_start ≡ y → s.comment_start ≡ z →
    Nowhere (BeginsAt s bs) 0 from →
    NoneBefore (Passes (is_byte3 (slice_index x 0) (slice_index y 0) (slice_index z 0)) (take (length bs - from) (drop from bs))) 0
    (length (take (length bs - from) (drop from bs))) at → (from + at < length bs) × Nowhere (BeginsAt s bs) 0 (from + at)
found_at s bs x y z from at u ex ey ez old h =
    let rest = take (length bs - from) (drop from bs) in
    later s bs rest from at u refl old (by_bytes s x y z rest (length rest) at ex ey ez h)

-- where the search stops: within the bytes and between characters, and no start delimiter stands before
pub record Stop (s : Syntax) (bs : List ℕ) (k : ℕ) : Type 0 where
  pub inside : k < length bs
  pub before : Nowhere (BeginsAt s bs) 0 k
  pub boundary : IsCharBoundary bs k

first_of_word : (bs w : List ℕ) (k : ℕ) → w ≢ [] → IsUtf8 w → slice_index bs k ≡ slice_index w 0 → 128 ≤ slice_index bs k →
    192 ≤ slice_index bs k
first_of_word bs w k some utf8 same high = rw same ((IsCharBoundary-start w utf8).1 (some_bytes w some) (rw (← same) high))

pub stops_at : (s : Syntax) (bs x y z : List ℕ) (from at : ℕ) → HasAll s → s.block_start ≡ x → s.variable_start ≡ y → s.comment_start ≡ z →
    IsUtf8 x → IsUtf8 y → IsUtf8 z → Nowhere (BeginsAt s bs) 0 from →
    NoneBefore (Passes (is_byte3 (slice_index x 0) (slice_index y 0) (slice_index z 0)) (take (length bs - from) (drop from bs))) 0
    (length (take (length bs - from) (drop from bs))) at
    × Passes (is_byte3 (slice_index x 0) (slice_index y 0) (slice_index z 0)) (take (length bs - from) (drop from bs)) at →
    Stop s bs (from + at)
stops_at s bs x y z from at u ex ey ez ux uy uz old h =
    let here = found_at s bs x y z from at u ex ey ez old h.0 in
    let byte : slice_index (take (length bs - from) (drop from bs)) at ≡ slice_index bs (from + at) =
    get_or-take (length bs - from) (drop from bs) at 0 (omega (arith, here.0)) ∙ get_or-drop from bs at 0
    ∙ ap (λ i. get_or bs i 0) (omega arith) in
    let passes = ap (is_byte3 (slice_index x 0) (slice_index y 0) (slice_index z 0)) (sym byte) ∙ h.1 in record {
      inside = here.0;
      before = here.1;
      boundary = (
        omega (arith, here.0),
        λ inside high. by_word high
            (either (slice_index bs (from + at) == slice_index x 0) (slice_index bs (from + at) == slice_index y 0)
            (slice_index bs (from + at) == slice_index z 0) passes),
      );
    }
  where
    by_word : 128 ≤ slice_index bs (from + at) →
        ((slice_index bs (from + at) == slice_index x 0) ≡ true)
        ⊎ (((slice_index bs (from + at) == slice_index y 0) ≡ true) ⊎ ((slice_index bs (from + at) == slice_index z 0) ≡ true)) →
        192 ≤ slice_index bs (from + at)
    by_word high (inl e) = first_of_word bs x (from + at) (λ none. u.block_start (ex ∙ none)) ux (eqb-true _ _ e) high
    by_word high (inr (inl e)) = first_of_word bs y (from + at) (λ none. u.variable_start (ey ∙ none)) uy (eqb-true _ _ e) high
    by_word high (inr (inr e)) = first_of_word bs z (from + at) (λ none. u.comment_start (ez ∙ none)) uz (eqb-true _ _ e) high

pub found_none : (s : Syntax) (bs x y z : List ℕ) (from : ℕ) → HasAll s → s.block_start ≡ x → s.variable_start ≡ y → s.comment_start ≡ z →
    Nowhere (BeginsAt s bs) 0 from →
    Nowhere (Passes (is_byte3 (slice_index x 0) (slice_index y 0) (slice_index z 0)) (take (length bs - from) (drop from bs))) 0
    (length (take (length bs - from) (drop from bs))) → Nowhere (BeginsAt s bs) 0 (length bs)
found_none s bs x y z from u ex ey ez old h =
    let rest = take (length bs - from) (drop from bs) in
    ended s bs rest from u refl old (no_bytes s x y z rest (length rest) ex ey ez h)

pub begins_there : (s : Syntax) (bs : List ℕ) (k : ℕ) → begins s (take (length bs - k) (drop k bs)) ≡ begins s (drop k bs)
begins_there s bs k = ap (begins s) (rest_is bs (take (length bs - k) (drop k bs)) k refl)

-- where no tag opens, no start delimiter stands
starts_is : (cs ws : List ℕ) → pointwise nat_eq ws (take (length ws) cs) ≡ is_some (after ws cs)
starts_is cs [] = refl
starts_is [] (w ∷ ws) = refl
starts_is (c ∷ cs) (w ∷ ws) = by_test (starts_is cs ws) (nat_eq w c)
  where
    by_test : pointwise nat_eq ws (take (length ws) cs) ≡ is_some (after ws cs) → (same : Bool) →
        (same && pointwise nat_eq ws (take (length ws) cs)) ≡ is_some {T = List ℕ} (if same then after ws cs else None)
    by_test ih true = ih
    by_test ih false = refl

not_there : (s : Syntax) (k : Kind) (cs : List ℕ) → opens s k cs ≡ None → starts_with nat_eq cs (start_delimiter s k) ≡ false
not_there s k cs h = starts_is cs (start_delimiter s k) ∙ by_rest (after (start_delimiter s k) cs) h
  where
    by_rest : (r : Option (List ℕ)) → option_map {U = Kind × List ℕ} (λ (rest : List ℕ). (k, rest)) r ≡ None → is_some r ≡ false
    by_rest None h = refl
    by_rest (Some x) h = cc

longer_none : (s : Syntax) (x y : Option (Kind × List ℕ)) → longer s x y ≡ None → (x ≡ None) × (y ≡ None)
longer_none s None y h = (refl, h)
longer_none s (Some x) None h = (h, refl)
longer_none s (Some x) (Some y) h = by_second (after (start_delimiter s x.0) (start_delimiter s y.0)) h
  where
    by_second : (r : Option (List ℕ)) → second_if r x y ≡ None → (Some x ≡ None) × (Some y ≡ None)
    by_second None h = absurd (cc h)
    by_second (Some w) h = absurd (cc h)

pub no_start : (s : Syntax) (cs : List ℕ) → opening s cs ≡ None → begins s cs ≡ false
no_start s cs h =
    let outer = longer_none s (longer s (opens s kind.Block cs) (opens s kind.Variable cs)) (opens s kind.Comment cs) h in
    let inner = longer_none s (opens s kind.Block cs) (opens s kind.Variable cs) outer.0 in
    rw (not_there s kind.Block cs inner.0, not_there s kind.Variable cs inner.1, not_there s kind.Comment cs outer.1) refl

-- where no start delimiter stands, no tag opens
pub nothing_after : (w cs : List ℕ) → starts_with nat_eq cs w ≡ false → after w cs ≡ None
nothing_after w cs h = by_rest (after w cs) (sym (starts_is cs w) ∙ h)
  where
    by_rest : (r : Option (List ℕ)) → is_some r ≡ false → r ≡ None
    by_rest None h = refl
    by_rest (Some x) h = cc

neither : (x y z : Bool) → (x || y || z) ≡ false → (x ≡ false) × ((y ≡ false) × (z ≡ false))
neither false false false h = (refl, (refl, refl))
neither false false true h = cc
neither false true z h = cc
neither true y z h = cc

pub no_block_start : (s : Syntax) (cs : List ℕ) → begins s cs ≡ false → after s.block_start cs ≡ None
no_block_start s cs h =
    nothing_after s.block_start cs
    (neither (starts_with nat_eq cs s.block_start) (starts_with nat_eq cs s.variable_start) (starts_with nat_eq cs s.comment_start) h).0

no_opening : (s : Syntax) (cs : List ℕ) → begins s cs ≡ false → opening s cs ≡ None
no_opening s cs h =
    let no = neither (starts_with nat_eq cs s.block_start) (starts_with nat_eq cs s.variable_start)
    (starts_with nat_eq cs s.comment_start) h in
    rw (nothing_after s.block_start cs no.0, nothing_after s.variable_start cs no.1.0, nothing_after s.comment_start cs no.1.1) refl

-- what is found stands where a start delimiter does
abbrev pub AtStart : {A : Type 0} → Syntax → (List ℕ → Option A) → Type 0
AtStart s find = (cs : List ℕ) → begins s cs ≡ false → find cs ≡ None

pub tags_start : (s : Syntax) → AtStart s (tag_start s)
tags_start s cs h = ap (λ (r : Option (Kind × List ℕ)). option_map side_at r) (no_opening s cs h)

pub never_at_end : (s : Syntax) (cs : List ℕ) → HasAll s → length cs ≡ 0 → begins s cs ≡ false
never_at_end s cs u e = not_true (begins s cs) (λ h. omega (arith, e, (begins_by s cs u h).0))

-- where no start delimiter stands from here on, nothing is found there
pub none_found : {A : Type 0} (s : Syntax) (find : List ℕ → Option A) (bs : List ℕ) (k : ℕ) → HasAll s → AtStart s find →
    Nowhere (BeginsAt s bs) 0 (length bs) → k ≤ length bs → find (drop k bs) ≡ None
none_found s find bs k u at none fits = by_place (length bs - k) refl
  where
    by_place : (left : ℕ) → length bs - k ≡ left → find (drop k bs) ≡ None
    by_place zero e = at (drop k bs) (never_at_end s (drop k bs) u (omega (arith, e, length-drop k bs)))
    by_place (suc left) e = at (drop k bs) (not_true (begins s (drop k bs)) (none k (omega arith) (omega (arith, e))))

-- the next start of a tag
pub next_none : (s : Syntax) (bs : List ℕ) → HasAll s → Nowhere (BeginsAt s bs) 0 (length bs) → first_of (tag_start s) bs ≡ None
next_none s bs u none = first_of-nowhere (tag_start s) bs (λ k fits. none_found s (tag_start s) bs k u (tags_start s) none fits)

pub next_some : (s : Syntax) (bs : List ℕ) (k : ℕ) (x : Side × List ℕ) → NoneBefore (BeginsAt s bs) 0 (length bs) k →
    tag_start s (drop k bs) ≡ Some x → first_of (tag_start s) bs ≡ Some (take k bs, x)
next_some s bs k x first here =
    first_of-at (tag_start s) bs k x
    (λ j less. tags_start s (drop j bs) (not_true (begins s (drop j bs)) (first.before j (omega arith) less)))
    (omega (arith, first.high)) here

-- where no tag starts, no start delimiter stands
pub no_tag : (s : Syntax) (cs : List ℕ) → None ≡ tag_start s cs → begins s cs ≡ false
no_tag s cs none = no_start s cs (by_opening (opening s cs) (sym none))
  where
    by_opening : (r : Option (Kind × List ℕ)) → option_map side_at r ≡ None → r ≡ None
    by_opening None h = refl
    by_opening (Some x) h = cc
