-- Texts by their characters: where they may be cut, what the parts are, and how many characters they have.
use Rattle.std.proofs.Common.{◌≡◌, ◌<◌, ◌≤◌, ◌+◌, ◌-◌, ◌/◌, ◌%◌, ℕ, Bool, true, false, cond, nat_lt, List, [], ◌∷◌, ◌++◌, length, take}
use Rattle.std.proofs.Common.{drop, Option, Some, None, is_some, MatchOption, refl, sym, ap, ◌∙◌, arith, suc, subst, length-append}
use Rattle.std.proofs.Math.Seq.{take-append_seam, drop-append_seam}
use Rattle.std.proofs.lemmas.Bool.{false≢true}
use Rattle.std.proofs.lemmas.Bool.Decides.{nat_tests}
use Rattle.std.proofs.lemmas.List.{take-append-drop, length-take-le}
use Rattle.std.proofs.lemmas.List.Sums.{sum_by-append}
use Rattle.std.proofs.lemmas.Nat.{mod_below}
use Rattle.std.proofs.lemmas.Str.{chars-IsAscii, chars-append, chars_past_char, encodes-chars, encodes-append, encodes_same}
use Rattle.std.proofs.lemmas.Str.{IsUtf8-from_ascii, IsCharBoundary-at_seam, IsCharBoundary-from_take, IsUtf8-past_char, length-encode}
use Rattle.std.specs.Char.{encode_utf8, len_utf8}
use Rattle.std.specs.List.{count_by}
use Rattle.std.specs.Str.{chars, IsUtf8, IsAscii, IsCharBoundary, encode_utf8_all}
use Rattle.tm_primitives.specs.Characters.{starts_character}

-- ---- parts

-- the text is its first n characters, and then the rest
seam : (bs r : List ℕ) (n : ℕ) → IsUtf8 bs → IsUtf8 r → chars r ≡ drop n (chars bs) → bs ≡ encode_utf8_all (take n (chars bs)) ++ r
seam bs r n u v e =
    sym (encodes-chars bs u) ∙ (ap encode_utf8_all (sym (take-append-drop n (chars bs)))
    ∙ (encodes-append (take n (chars bs)) (drop n (chars bs))
    ∙ ap (λ (s : List ℕ). encode_utf8_all (take n (chars bs)) ++ s) (ap encode_utf8_all (sym e) ∙ encodes-chars r v)))

cut_at : (bs xs r : List ℕ) → bs ≡ xs ++ r → length bs ≡ length xs + length r
cut_at bs xs r s = ap length s ∙ length-append xs r

pub rest_short : (bs r : List ℕ) (n : ℕ) → IsUtf8 bs → IsUtf8 r → chars r ≡ drop n (chars bs) → length r ≤ length bs
rest_short bs r n u v e =
    let s = cut_at bs (encode_utf8_all (take n (chars bs))) r (seam bs r n u v e) in
    omega (arith, s)

pub cut_boundary : (bs r : List ℕ) (n : ℕ) → IsUtf8 bs → IsUtf8 r → chars r ≡ drop n (chars bs) → IsCharBoundary bs (length bs - length r)
cut_boundary bs r n u v e =
    let front = encode_utf8_all (take n (chars bs)) in
    let s = cut_at bs front r (seam bs r n u v e) in
    let at : length front ≡ length bs - length r = omega (arith, s) in
    subst (IsCharBoundary bs) at (IsCharBoundary-at_seam bs front r (seam bs r n u v e) v)

pub first_is : (bs r p : List ℕ) (n : ℕ) → IsUtf8 bs → IsUtf8 r → IsUtf8 p → chars r ≡ drop n (chars bs) →
    p ≡ take (length bs - length r) bs → chars p ≡ take n (chars bs)
first_is bs r p n u v w e f =
    let front = encode_utf8_all (take n (chars bs)) in
    let whole : bs ≡ front ++ r = seam bs r n u v e in
    let s = cut_at bs front r whole in
    let at : length bs - length r ≡ length front = omega (arith, s) in
    let g : p ≡ front = f ∙ (ap (λ (k : ℕ). take k bs) at ∙ (ap (take (length front)) whole ∙ take-append_seam front r)) in
    encodes_same (chars p) (take n (chars bs)) (encodes-chars p w ∙ g)

-- after n bytes of ASCII
pub ascii_boundary : (bs : List ℕ) (n : ℕ) → IsUtf8 bs → n ≤ length bs → IsAscii (take n bs) → IsCharBoundary bs n
ascii_boundary bs n u h a = IsCharBoundary-from_take bs n u h (IsUtf8-from_ascii (take n bs) a)

pub after_ascii : (bs r : List ℕ) (n : ℕ) → n ≤ length bs → IsAscii (take n bs) → r ≡ drop n bs → chars r ≡ drop n (chars bs)
after_ascii bs r n h a e =
    let front = take n bs in
    let whole : chars bs ≡ front ++ chars r =
    ap chars (sym (take-append-drop n bs)) ∙ (chars-append front (drop n bs) (IsUtf8-from_ascii front a)
    ∙ (ap (λ (s : List ℕ). s ++ chars (drop n bs)) (chars-IsAscii front a) ∙ ap (λ (s : List ℕ). front ++ chars s) (sym e))) in
    sym (ap (drop n) whole ∙ (ap (λ (k : ℕ). drop k (front ++ chars r)) (sym (length-take-le n bs h)) ∙ drop-append_seam front (chars r)))

-- ---- steps over one character

pub some_from : (r : Option ℕ) (P : Type 0) (Q : ℕ → Type 0) → is_some r ≡ true → MatchOption r P Q → (c : ℕ) × Q c
some_from None P Q e m = absurd (false≢true e)
some_from (Some c) P Q e m = (c, m)

pub drop_more : (bs rest cs : List ℕ) (c left : ℕ) → IsUtf8 bs → bs ≡ encode_utf8 c ++ rest → 0 < left → drop left (chars bs) ≡ cs →
    drop (left - 1) (chars rest) ≡ cs
drop_more bs rest cs c left u e h k =
    let one : left ≡ suc (left - 1) = omega arith in
    let more : drop (suc (left - 1)) (chars bs) ≡ cs = subst (λ (n : ℕ). drop n (chars bs) ≡ cs) one k in
    rw (chars_past_char bs rest c u e) at more

pub char_boundary : (bs rest : List ℕ) (c n : ℕ) → IsUtf8 bs → bs ≡ encode_utf8 c ++ rest → n ≡ len_utf8 c → IsCharBoundary bs n
char_boundary bs rest c n u e f =
    subst (IsCharBoundary bs) (length-encode c ∙ sym f) (IsCharBoundary-at_seam bs (encode_utf8 c) rest e (IsUtf8-past_char bs rest c u e))

-- ---- how many

leads : (b : ℕ) → 192 ≤ b → starts_character b ≡ true
leads b h = grind (arith, nat_tests)

ascii_leads : (b : ℕ) → b < 128 → starts_character b ≡ true
ascii_leads b h = grind (arith, nat_tests)

follows : (n : ℕ) → starts_character (128 + n % 64) ≡ false
follows n = let h = mod_below n 64 (omega arith) in grind (arith, nat_tests, h)

one_of : (x y z : Bool) (c : ℕ) → (x ≡ true → c < 128) →
    count_by starts_character (cond x (c ∷ [])
    (cond y ((192 + c / 64) ∷ (128 + c % 64) ∷ [])
    (cond z ((224 + c / 4096) ∷ (128 + c / 64 % 64) ∷ (128 + c % 64) ∷ [])
    ((240 + c / 262144) ∷ (128 + c / 4096 % 64) ∷ (128 + c / 64 % 64) ∷ (128 + c % 64) ∷ [])))) ≡ 1
one_of true y z c h = rw (ascii_leads c (h refl))
one_of false true z c h = rw (leads (192 + c / 64) (omega arith), follows c)
one_of false false true c h = rw (leads (224 + c / 4096) (omega arith), follows (c / 64), follows c)
one_of false false false c h = rw (leads (240 + c / 262144) (omega arith), follows (c / 4096), follows (c / 64), follows c)

one_lead : (c : ℕ) → count_by starts_character (encode_utf8 c) ≡ 1
unfolding encode_utf8
one_lead c = one_of (nat_lt c 128) (nat_lt c 2048) (nat_lt c 65536) c (λ e. grind (arith, nat_tests, e))

pub count_encodes : (cs : List ℕ) → count_by starts_character (encode_utf8_all cs) ≡ length cs
count_encodes [] = refl
count_encodes (c ∷ cs) =
    let s = sum_by-append (λ b. cond (starts_character b) 1 0) (encode_utf8 c) (encode_utf8_all cs) in
    let i = count_encodes cs in
    let o = one_lead c in
    omega (arith, s, i, o)

pub count_is : (bs : List ℕ) → IsUtf8 bs → count_by starts_character bs ≡ length (chars bs)
count_is bs u = ap (count_by starts_character) (sym (encodes-chars bs u)) ∙ count_encodes (chars bs)
