-- From the marks of a few lanes to bytes that HTML spells as themselves.
use Rattle.std.proofs.Common.{◌≡◌, ◌≤◌, ◌+◌, ◌%◌, ◌^◌, ℕ, Bool, true, false, cond, eqb, not, ◌≢◌, List, [], ◌∷◌, map, length, Fits, w8, refl, sym, ap, ap₂, ◌∙◌, arith}
use Rattle.std.proofs.lemmas.Bool.{agree_below, agree_below_at, or_parts}
use Rattle.std.proofs.lemmas.List.{length-map}
use Rattle.std.proofs.lemmas.Simd.{mask_l-mod, length-chunk, run_in_chunk_fails, run_in_chunk_le, trailing_mask_l, none_from_empty_mask}
use Rattle.std.specs.Prelude.{◌==◌}
use Rattle.std.specs.List.{prefix_len}
use lib.Count.{count_trailing_zeros}
use Rattle.std.specs.Simd.Lanes.{chunk, mask_l, top, Each1}
use Rattle.tm_definitions.specs.Texts.{in_html}
use Rattle.tm_printing.specs.Plain.{is_special, PlainBetween}

-- a lane of an equal byte has all its bits
abbrev pub hit : ℕ → ℕ → ℕ
hit a b = cond (eqb a b) 255 0

each_byte : (f : ℕ → ℕ) (p : ℕ → Bool) → agree_below (λ x. top 7 (f x)) p 256 ≡ true → (v : List ℕ) → Each1 (Fits w8) v →
    map (top 7) (map f v) ≡ map p v
each_byte f p all [] fits = refl
each_byte f p all (x ∷ xs) fits =
    ap₂ (λ (b : Bool) (bs : List Bool). b ∷ bs) (agree_below_at (λ y. top 7 (f y)) p 256 x all fits.0.fits) (each_byte f p all xs fits.1)

-- the mask of lanes that a test marks, where it agrees with p at each byte
pub masked : (f : ℕ → ℕ) (p : ℕ → Bool) (v z : List ℕ) → length v ≤ 64 → Each1 (Fits w8) v → z ≡ map f v →
    agree_below (λ x. top 7 (f x)) p 256 ≡ true → mask_l (map (top 7) z) % 2 ^ 64 ≡ mask_l (map p v)
masked f p v z short fits lanes all =
    ap (λ (bs : List Bool). mask_l bs % 2 ^ 64) (ap (map (top 7)) lanes ∙ each_byte f p all v fits)
    ∙ mask_l-mod (map p v) 64 (omega (arith, length-map v p))

plain : (b : ℕ) → is_special b ≡ false → in_html b ≡ b ∷ []
plain b none =
    let slash = or_parts _ (b == 47) none in
    let apostrophe = or_parts _ (b == 39) slash.0 in
    let quote = or_parts _ (b == 34) apostrophe.0 in
    let ampersand = or_parts _ (b == 38) quote.0 in
    let angles = or_parts (b == 60) (b == 62) ampersand.0 in
    rw (angles.0, angles.1, ampersand.1, quote.1, apostrophe.1, slash.1) refl

-- the marks of the n bytes from i on
module _ (bs : List ℕ) (i n marks : ℕ) (room : i + n ≤ length bs) (is : marks ≡ mask_l (map is_special (chunk i n bs))) where
  -- without a mark all are plain
  pub all_plain : marks ≡ 0 → PlainBetween in_html bs i (i + n)
  all_plain none k from to = plain _ (none_from_empty_mask is_special bs i n 0 room (sym is ∙ none) k from to)

  -- and else those before the first mark
  module _ (few : n ≤ 64) (some : marks ≢ 0) where
    counted : count_trailing_zeros 64 marks ≡ prefix_len (λ x. not (is_special x)) (chunk i n bs)
    counted =
        ap (count_trailing_zeros 64) is
        ∙ trailing_mask_l is_special 64 (chunk i n bs) (omega (arith, length-chunk i n bs room)) (omega (arith, is, some))

    pub first_within : count_trailing_zeros 64 marks ≤ n
    first_within = run_in_chunk_le is_special bs i n (count_trailing_zeros 64 marks) 0 room counted

    pub plain_before : PlainBetween in_html bs i (i + count_trailing_zeros 64 marks)
    plain_before k from to =
        plain _ (run_in_chunk_fails is_special bs i n (count_trailing_zeros 64 marks) 0 room counted k from to)
