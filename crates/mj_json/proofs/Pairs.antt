-- Where no digit comes before what begins a fraction or an exponent, no text has one. A vector test finds that there is none.
use Rattle.std.proofs.Common.{◌≡◌, ℕ, zero, suc, ◌+◌, ◌-◌, ◌%◌, ◌^◌, ◌<◌, ◌≤◌, ltb, eqb, nat_eq, Bool, true, false, not, ◌&&◌, ◌||◌, ◌==◌, if◌then◌else◌, cond, ◌⊎◌, inl, inr, List, [], ◌∷◌, map, length, get_or, replicate, bit_and, bit_or, Fits, w8, refl, sym, ap, ap₂, ◌∙◌, arith}
use Rattle.std.specs.Bool.{OnFalse}
use Rattle.std.specs.Char.{is_ascii_digit}
use Rattle.std.proofs.lemmas.Bool.{agree_below_at, and_right, cases_lt, eqb-true, not-false, OnFalse_from}
use Rattle.std.proofs.lemmas.Simd.{zip2_splat, zip2_of_maps, splat_is_map, mask_l-mod, length-zip2, length-chunk, chunk-fits, get_or-zip2, get_or-chunk}
use Rattle.std.proofs.lemmas.List.{get_or_past}
use lib.Lanes.{chunk, mask_l, zip2, top, Each1}
use Rattle.mj_json.specs.Json.{begins_decimal, decimal_outside, decimal_inside, has_decimal}

-- a digit, and the byte that comes after it
abbrev pub pair : ℕ → ℕ → Bool
pair x y = is_ascii_digit x && begins_decimal y

-- none of the bytes from i to j on is one
abbrev pub NoPairs : List ℕ → ℕ → ℕ → Type 0
NoPairs bs i j = (k : ℕ) → i ≤ k → k < j → pair (get_or bs k 0) (get_or bs (k + 1) 0) ≡ false

-- ---- no pair, no decimal
abbrev NonePaired : List ℕ → Type 0
NonePaired bs = (k : ℕ) → pair (get_or bs k 0) (get_or bs (suc k) 0) ≡ false

either_way : (t : Bool) {x y : Bool} → x ≡ false → y ≡ false → (if t then x else y) ≡ false
either_way true p q = p
either_way false p q = q

unless_it_begins : (t : Bool) {x : Bool} → t ≡ false → x ≡ false → (if t then true else x) ≡ false
unless_it_begins t e p = rw e p

mutual
  none_outside : (after : Bool) (bs : List ℕ) → (after && begins_decimal (get_or bs 0 0)) ≡ false → NonePaired bs → decimal_outside after bs ≡ false
  none_outside after [] first none = refl
  none_outside after (b ∷ bs) first none =
      either_way (b == 34) (none_inside false bs (λ k. none (suc k)))
      (unless_it_begins (after && begins_decimal b) first (none_outside (is_ascii_digit b) bs (none 0) (λ k. none (suc k))))

  none_inside : (escaped : Bool) (bs : List ℕ) → NonePaired bs → decimal_inside escaped bs ≡ false
  none_inside escaped [] none = refl
  none_inside true (b ∷ bs) none = none_inside false bs (λ k. none (suc k))
  none_inside false (b ∷ bs) none =
      either_way (b == 34) (none_outside false bs refl (λ k. none (suc k))) (none_inside (b == 92) bs (λ k. none (suc k)))

-- ---- the lanes of the test, of a byte each
abbrev mark : Bool → ℕ
mark b = cond b 255 0

abbrev below : ℕ → ℕ → ℕ
below a b = cond (ltb a b) 255 0

abbrev hit : ℕ → ℕ → ℕ
hit a b = cond (eqb a b) 255 0

abbrev less : ℕ → ℕ → ℕ
less a b = (a + (256 - b)) % 256

abbrev digit_lane : ℕ → ℕ
digit_lane x = below (less x 48) 10

abbrev decimal_lane : ℕ → ℕ
decimal_lane y = bit_or (hit y 46) (hit (bit_or y 32) 101)

digit_tops : (x : ℕ) → x < 256 → ltb (less x 48) 10 ≡ is_ascii_digit x
digit_tops x h = agree_below_at (λ n. ltb (less n 48) 10) is_ascii_digit 256 x refl h

either_mark : (a b : Bool) → bit_or (mark a) (mark b) ≡ mark (a || b)
either_mark true true = refl
either_mark true false = refl
either_mark false true = refl
either_mark false false = refl

both_marks : (a b : Bool) → top 7 (bit_and (mark a) (mark b)) ≡ (a && b)
both_marks true true = refl
both_marks true false = refl
both_marks false true = refl
both_marks false false = refl

decimal_tops : (y : ℕ) → y < 256 → (eqb y 46 || eqb (bit_or y 32) 101) ≡ begins_decimal y
decimal_tops y h = agree_below_at (λ n. eqb n 46 || eqb (bit_or n 32) 101) begins_decimal 256 y refl h

lane : (x y : ℕ) → x < 256 → y < 256 → top 7 (bit_and (digit_lane x) (decimal_lane y)) ≡ pair x y
lane x y p q =
    ap₂ (λ a b. top 7 (bit_and a b)) (ap mark (digit_tops x p)) (either_mark (eqb y 46) (eqb (bit_or y 32) 101) ∙ ap mark (decimal_tops y q))
    ∙ both_marks (is_ascii_digit x) (begins_decimal y)

lanes : (v w : List ℕ) → Each1 (Fits w8) v → Each1 (Fits w8) w → map (top 7) (zip2 bit_and (map digit_lane v) (map decimal_lane w)) ≡ zip2 pair v w
lanes [] w p q = refl
lanes (x ∷ v) [] p q = refl
lanes (x ∷ v) (y ∷ w) p q = ap₂ (λ b l. b ∷ l) (lane x y p.0.fits q.0.fits) (lanes v w p.1 q.1)

-- the test as the code makes it, of n lanes
masked : (v w : List ℕ) (n : ℕ) → length v ≡ n → length w ≡ n → n ≤ 64 → Each1 (Fits w8) v → Each1 (Fits w8) w
    → mask_l (map (top 7) (zip2 bit_and (zip2 below (zip2 less v (replicate n 48)) (replicate n 10)) (zip2 bit_or (zip2 hit w (replicate n 46)) (zip2 hit (zip2 bit_or w (replicate n 32)) (replicate n 101))))) % 2 ^ 64
    ≡ mask_l (zip2 pair v w)
masked v w n long longw few p q =
    let digits = zip2_of_maps below _ _ v (zip2_splat less v n 48 long) (splat_is_map v n 10 long) in
    let exponents = zip2_of_maps hit _ _ w (zip2_splat bit_or w n 32 longw) (splat_is_map w n 101 longw) in
    let decimals = zip2_of_maps bit_or _ _ w (zip2_splat hit w n 46 longw) exponents in
    ap (λ l. mask_l l % 2 ^ 64) (ap₂ (λ a b. map (top 7) (zip2 bit_and a b)) digits decimals ∙ lanes v w p q)
    ∙ mask_l-mod (zip2 pair v w) 64 (omega (arith, length-zip2 pair v w (long ∙ sym longw)))

pub mask_is : (bs : List ℕ) (i : ℕ) → i + 33 ≤ length bs → ((k : ℕ) → Fits w8 (get_or bs k 0))
    → mask_l (map (top 7) (zip2 bit_and (zip2 below (zip2 less (chunk i 32 bs) (replicate 32 48)) (replicate 32 10)) (zip2 bit_or (zip2 hit (chunk (i + 1) 32 bs) (replicate 32 46)) (zip2 hit (zip2 bit_or (chunk (i + 1) 32 bs) (replicate 32 32)) (replicate 32 101))))) % 2 ^ 64
    ≡ mask_l (zip2 pair (chunk i 32 bs) (chunk (i + 1) 32 bs))
mask_is bs i room fits =
    masked (chunk i 32 bs) (chunk (i + 1) 32 bs) 32 (length-chunk i 32 bs (omega arith)) (length-chunk (i + 1) 32 bs (omega arith)) (omega arith)
    (chunk-fits w8 i 32 bs fits) (chunk-fits w8 (i + 1) 32 bs fits)

-- ---- an empty mask
empty : (ms : List Bool) → mask_l ms ≡ 0 → (j : ℕ) → get_or ms j false ≡ false
empty [] e j = refl
empty (true ∷ ms) e j = absurd (omega arith)
empty (false ∷ ms) e zero = refl
empty (false ∷ ms) e (suc j) = empty ms (omega arith) j

pub none_in_block : (bs : List ℕ) (i : ℕ) → i + 33 ≤ length bs → mask_l (zip2 pair (chunk i 32 bs) (chunk (i + 1) 32 bs)) ≡ 0 → NoPairs bs i (i + 32)
none_in_block bs i room none k p q =
    let j = k - i in
    let back : i + j ≡ k = omega arith in
    let next : i + 1 + j ≡ k + 1 = omega arith in
    let within : j < 32 = omega arith in
    let here = get_or-chunk i 32 bs j 0 within ∙ ap (λ n. get_or bs n 0) back in
    let after = get_or-chunk (i + 1) 32 bs j 0 within ∙ ap (λ n. get_or bs n 0) next in
    let long = length-chunk i 32 bs (omega arith) in
    let longw = length-chunk (i + 1) 32 bs (omega arith) in
    ap₂ pair (sym here) (sym after)
    ∙ sym (get_or-zip2 pair (chunk i 32 bs) (chunk (i + 1) 32 bs) j 0 0 false (omega arith) (omega arith))
    ∙ empty (zip2 pair (chunk i 32 bs) (chunk (i + 1) 32 bs)) none j

-- ---- the loop's steps
-- the second run may begin within the first
pub joined : (bs : List ℕ) (h i m j : ℕ) → m ≤ i → NoPairs bs h i → NoPairs bs m j → NoPairs bs h j
joined bs h i m j within p q k from to = by_side (cases_lt k i)
  where
    by_side : (k < i) ⊎ (i ≤ k) → pair (get_or bs k 0) (get_or bs (k + 1) 0) ≡ false
    by_side (inl l) = p k from l
    by_side (inr g) = q k (omega arith) to

-- no byte comes after the last
pub none : (bs : List ℕ) (n : ℕ) → length bs ≤ n + 1 → NoPairs bs 0 n → has_decimal bs ≡ false
none bs n whole h = none_outside false bs refl (λ k. at_next k (by_side k (cases_lt k n)))
  where
    by_side : (k : ℕ) → (k < n) ⊎ (n ≤ k) → pair (get_or bs k 0) (get_or bs (k + 1) 0) ≡ false
    by_side k (inl l) = h k (omega arith) l
    by_side k (inr g) = and_right _ _ (ap begins_decimal (get_or_past bs (k + 1) 0 (omega arith)))

    at_next : (k : ℕ) → pair (get_or bs k 0) (get_or bs (k + 1) 0) ≡ false → pair (get_or bs k 0) (get_or bs (suc k) 0) ≡ false
    at_next k e = let next : suc k ≡ k + 1 = omega arith in rw next e

-- the test of the last block says it of the whole text
pub none_left : (bs : List ℕ) (at last mask : ℕ) → 33 ≤ length bs → last ≡ length bs - 33 → last ≤ at → NoPairs bs 0 at
    → mask ≡ mask_l (zip2 pair (chunk last 32 bs) (chunk (last + 1) 32 bs)) → OnFalse (not (nat_eq mask 0)) (has_decimal bs ≡ false)
none_left bs at last mask room is le before masked =
    OnFalse_from (not (nat_eq mask 0)) _ (λ e.
    none bs (last + 32) (omega arith) (joined bs 0 at last (last + 32) le before
    (none_in_block bs last (omega arith) (sym masked ∙ eqb-true mask 0 (not-false _ e)))))
