-- Words at the front of bytes, and places in them.
use Rattle.std.proofs.Common.{◌≡◌, ◌≢◌, ℕ, zero, suc, ◌<◌, ◌≤◌, ◌++◌, List, [], ◌∷◌, Bool, true, false, nat_eq, Option, Some, None, length}
use Rattle.std.proofs.Common.{drop, take, get_or, refl, sym, ◌∙◌, ap, arith, MatchOption, Bor, length-append}
use Rattle.std.proofs.Math.Seq.{drop-append_seam, take-append_seam}
use Rattle.std.specs.Prelude.{if◌then◌else◌, option_map, is_some, slice_index, nat_lt, encode_utf8 as encode}
use Rattle.std.specs.Str.{IsUtf8}
use Rattle.std.proofs.lemmas.Str.{chars_past_char, encode_ascii}
use Rattle.std.proofs.lemmas.Bool.Decides.{nat_tests}
use Rattle.std.specs.Option.{option_or}
use Rattle.std.specs.Str.Pattern.{FindsText, SplitsAroundMatch}
use Rattle.std.proofs.lemmas.Bool.{eqb-true, eq-eqb}
use Rattle.memchr.specs.Find.{IsFirstByte}
use Rattle.tm_delimiters.specs.Front.{after, ascii, first_of, until, first_is}
use Rattle.tm_delimiters.specs.Views.{IsFirst, cut_of, step_of}

pub not_true : (b : Bool) → (b ≡ true → ⊥) → b ≡ false
not_true true h = absurd (h refl)
not_true false h = refl

pub after-append : (ws cs : List ℕ) → after ws (ws ++ cs) ≡ Some cs
after-append [] cs = refl
after-append (w ∷ ws) cs = ap (λ same. if same then after ws (ws ++ cs) else None) (eq-eqb w w refl) ∙ after-append ws cs

pub after-split : (ws cs rest : List ℕ) → after ws cs ≡ Some rest → cs ≡ ws ++ rest
after-split [] cs rest h = cc
after-split (w ∷ ws) [] rest h = cc
after-split (w ∷ ws) (c ∷ cs) rest h = by_test (after-split ws cs rest) (nat_eq w c) refl h
  where
    by_test : (after ws cs ≡ Some rest → cs ≡ ws ++ rest) → (same : Bool) → nat_eq w c ≡ same →
        (if same then after ws cs else None) ≡ Some rest → c ∷ cs ≡ w ∷ (ws ++ rest)
    by_test others true e found =
        let head = eqb-true w c e in
        let tail = others found in
        cc
    by_test others false e found = cc

lacks_by : (text word : List ℕ) → ((rest : List ℕ) → text ≢ word ++ rest) → (r : Option (List ℕ)) → after word text ≡ r →
    after word text ≡ None
lacks_by text word h None e = e
lacks_by text word h (Some rest) e = absurd (h rest (after-split word text rest e))

pub lacks : (text word : List ℕ) → ((rest : List ℕ) → text ≢ word ++ rest) → after word text ≡ None
lacks text word h = lacks_by text word h (after word text) refl

-- the first place where something is found
pub first_of-at : {A : Type 0} (find : List ℕ → Option A) (cs : List ℕ) (i : ℕ) (x : A) → ((k : ℕ) → k < i → find (drop k cs) ≡ None) →
    i ≤ length cs → find (drop i cs) ≡ Some x → first_of find cs ≡ Some (take i cs, x)
first_of-at {A = A} find [] zero x none fits here = ap (λ (r : Option A). option_map {U = List ℕ × A} (λ y. ([], y)) r) here
first_of-at find [] (suc i) x none fits here = absurd (omega (arith, fits))
first_of-at {A = A} find (c ∷ cs) zero x none fits here =
    ap (λ (r : Option A). option_or (option_map {U = List ℕ × A} (λ y. ([], y)) r)
    (option_map (λ (w : List ℕ × A). (c ∷ w.0, w.1)) (first_of find cs))) here
first_of-at {A = A} find (c ∷ cs) (suc i) x none fits here =
    ap (λ (r : Option A). option_or (option_map {U = List ℕ × A} (λ y. ([], y)) r)
    (option_map (λ (w : List ℕ × A). (c ∷ w.0, w.1)) (first_of find cs))) (none 0 (omega arith))
    ∙ ap (λ (r : Option (List ℕ × A)). option_map (λ (w : List ℕ × A). (c ∷ w.0, w.1)) r)
    (first_of-at find cs i x (λ k less. none (suc k) (omega (arith, less))) (omega (arith, fits)) here)

pub first_of-nowhere : {A : Type 0} (find : List ℕ → Option A) (cs : List ℕ) → ((k : ℕ) → k ≤ length cs → find (drop k cs) ≡ None) →
    first_of find cs ≡ None
first_of-nowhere {A = A} find [] none = ap (λ (r : Option A). option_map {U = List ℕ × A} (λ y. ([], y)) r) (none 0 (omega arith))
first_of-nowhere {A = A} find (c ∷ cs) none =
    ap (λ (r : Option A). option_or (option_map {U = List ℕ × A} (λ y. ([], y)) r)
    (option_map (λ (w : List ℕ × A). (c ∷ w.0, w.1)) (first_of find cs))) (none 0 (omega arith))
    ∙ ap (λ (r : Option (List ℕ × A)). option_map (λ (w : List ℕ × A). (c ∷ w.0, w.1)) r)
    (first_of-nowhere find cs (λ k less. none (suc k) (omega (arith, less))))

-- the same of a word
pub cuts : (word text : List ℕ) (r : Option (Bor (List ℕ) × Bor (List ℕ))) →
    MatchOption r (FindsText word text None) (λ x. SplitsAroundMatch (FindsText word) text x.0.now x.1.now) →
    cut_of r ≡ first_of (after word) text
cuts word text None h = sym (first_of-nowhere (after word) text (λ k less. lacks (drop k text) word (h k less)))
cuts word text (Some x) h =
    let here : after word (drop h.0 text) ≡ Some x.1.now = ap (after word) (h.2.1.split ∙ ap (λ b. word ++ b) (sym h.4))
    ∙ after-append word x.1.now in
    let first = first_of-at (after word) text h.0 x.1.now (λ k less. lacks (drop k text) word (h.2.0 k less))
    (omega (arith, h.5, h.7)) here in
    ap (λ (front : List ℕ). Some (front, x.1.now)) h.3 ∙ sym first

-- cuts where p first holds
pub until_none : (p : List ℕ → Bool) (cs : List ℕ) → p cs ≡ true → until p cs ≡ ([], cs)
until_none p [] h = refl
until_none p (c ∷ cs) h = ap (λ b. if b then ([], c ∷ cs) else (c ∷ (until p cs).0, (until p cs).1)) h

pub until_some : (p : List ℕ → Bool) (c : ℕ) (cs : List ℕ) → p (c ∷ cs) ≡ false → until p (c ∷ cs) ≡ (c ∷ (until p cs).0, (until p cs).1)
until_some p c cs h = ap (λ b. if b then ([], c ∷ cs) else (c ∷ (until p cs).0, (until p cs).1)) h

pub until_at : (p : List ℕ → Bool) (cs : List ℕ) (k : ℕ) → ((j : ℕ) → j < k → p (drop j cs) ≡ true → ⊥) → k < length cs →
    p (drop k cs) ≡ true → until p cs ≡ (take k cs, drop k cs)
until_at p [] k none small here = absurd (omega (arith, small))
until_at p (c ∷ cs) zero none small here = until_none p (c ∷ cs) here
until_at p (c ∷ cs) (suc k) none small here =
    until_some p c cs (not_true (p (c ∷ cs)) (none 0 (omega arith)))
    ∙ ap (λ r. (c ∷ r.0, r.1)) (until_at p cs k (λ j less. none (suc j) (omega (arith, less))) (omega (arith, small)) here)

pub until_end : (p : List ℕ → Bool) (cs : List ℕ) → ((j : ℕ) → j < length cs → p (drop j cs) ≡ true → ⊥) → until p cs ≡ (cs, [])
until_end p [] none = refl
until_end p (c ∷ cs) none =
    until_some p c cs (not_true (p (c ∷ cs)) (none 0 (omega arith)))
    ∙ ap (λ r. (c ∷ r.0, r.1)) (until_end p cs (λ j less. none (suc j) (omega (arith, less))))

-- the byte at a place is the first one of what is left there
pub byte_there : (test : ℕ → Bool) (cs : List ℕ) (k : ℕ) → k < length cs → first_is test (drop k cs) ≡ test (get_or cs k 0)
byte_there test [] k small = absurd (omega (arith, small))
byte_there test (c ∷ cs) zero small = refl
byte_there test (c ∷ cs) (suc k) small = byte_there test cs k (omega (arith, small))

pub cut_at : (test : ℕ → Bool) (cs : List ℕ) (k : ℕ) → IsFirstByte test cs (Some k) → until (first_is test) cs ≡ (take k cs, drop k cs)
cut_at test cs k h = until_at (first_is test) cs k
    (λ j less here. h.0.before j (omega arith) less (sym (byte_there test cs j (omega (arith, less, h.0.high))) ∙ here)) h.0.high
    (byte_there test cs k h.0.high ∙ h.1)

pub cut_nowhere : (test : ℕ → Bool) (cs : List ℕ) → IsFirstByte test cs None → until (first_is test) cs ≡ (cs, [])
cut_nowhere test cs h = until_end (first_is test) cs (λ j less here. h j (omega arith) less (sym (byte_there test cs j less) ∙ here))

joined : Option (ℕ × List ℕ) → List ℕ
joined None = []
joined (Some x) = x.0 ∷ x.1

-- the first byte, where it is ASCII, is the first character
pub ascii_first : (text : List ℕ) (r : ℕ × Bor (List ℕ)) → IsUtf8 text → step_of (Some r) ≡ ascii text → IsFirst (Some r) text
unfolding joined
ascii_first [] r utf8 h = cc
ascii_first (c ∷ cs) r utf8 h = by_test (nat_lt c 128) refl h
  where
    by_test : (small : Bool) → nat_lt c 128 ≡ small → step_of (Some r) ≡ (if small then Some (c, cs) else None) →
        IsFirst (Some r) (c ∷ cs)
    by_test true e h =
        let whole : c ∷ cs ≡ r.0 ∷ r.1.now = sym (ap joined h) in
        let same : c ≡ r.0 = cc in
        let small : r.0 < 128 = grind (arith, nat_tests) in
        let split : c ∷ cs ≡ encode r.0 ++ r.1.now = whole ∙ sym (ap (λ front. front ++ r.1.now) (encode_ascii r.0 small)) in
        (chars_past_char (c ∷ cs) r.1.now r.0 utf8 split, split)
    by_test false e h = cc

-- whether bytes begin with a word, place by place
pub all_same : (ws cs : List ℕ) → length ws ≤ length cs → ((k : ℕ) → k < length ws → slice_index cs k ≡ slice_index ws k) →
    is_some (after ws cs) ≡ true
all_same [] cs fits same = refl
all_same (w ∷ ws) [] fits same = absurd (omega (arith, fits))
all_same (w ∷ ws) (c ∷ cs) fits same =
    ap (λ b. is_some {T = List ℕ} (if b then after ws cs else None)) (eq-eqb w c (sym (same 0 (omega arith))))
    ∙ all_same ws cs (omega (arith, fits)) (λ k less. same (suc k) (omega (arith, less)))

pub one_differs : (ws cs : List ℕ) (k : ℕ) → k < length ws → slice_index cs k ≢ slice_index ws k → is_some (after ws cs) ≡ false
one_differs [] cs k less differs = absurd (omega (arith, less))
one_differs (w ∷ ws) [] k less differs = refl
one_differs (w ∷ ws) (c ∷ cs) zero less differs = by_test (nat_eq w c) refl
  where
    by_test : (same : Bool) → nat_eq w c ≡ same → is_some {T = List ℕ} (if same then after ws cs else None) ≡ false
    by_test true e = absurd (differs (sym (eqb-true w c e)))
    by_test false e = refl
one_differs (w ∷ ws) (c ∷ cs) (suc k) less differs = by_test (one_differs ws cs k (omega (arith, less)) differs) (nat_eq w c)
  where
    by_test : is_some (after ws cs) ≡ false → (same : Bool) → is_some {T = List ℕ} (if same then after ws cs else None) ≡ false
    by_test others true = others
    by_test others false = refl

pub too_short : (ws cs : List ℕ) → length cs < length ws → is_some (after ws cs) ≡ false
too_short [] cs less = absurd (omega (arith, less))
too_short (w ∷ ws) [] less = refl
too_short (w ∷ ws) (c ∷ cs) less = by_test (too_short ws cs (omega (arith, less))) (nat_eq w c)
  where
    by_test : is_some (after ws cs) ≡ false → (same : Bool) → is_some {T = List ℕ} (if same then after ws cs else None) ≡ false
    by_test others true = others
    by_test others false = refl

-- what is left after the word, where the bytes begin with it
pub record Stripped (ws cs : List ℕ) : Type 0 where
  pub left : after ws cs ≡ Some (drop (length ws) cs)
  pub front : take (length ws) cs ≡ ws
  pub fits : length ws ≤ length cs

pub stripped : (ws cs : List ℕ) → is_some (after ws cs) ≡ true → Stripped ws cs
stripped ws cs h = by_rest (after ws cs) refl h
  where
    by_rest : (r : Option (List ℕ)) → after ws cs ≡ r → is_some r ≡ true → Stripped ws cs
    by_rest None e some = cc
    by_rest (Some rest) e some =
        let split : cs ≡ ws ++ rest = after-split ws cs rest e in
        record {
          left = e ∙ ap Some (sym (ap (drop (length ws)) split ∙ drop-append_seam ws rest));
          front = ap (take (length ws)) split ∙ take-append_seam ws rest;
          fits = omega (arith, ap length split, length-append ws rest);
        }

pub unlike : (ws cs : List ℕ) → is_some (after ws cs) ≡ false → after ws cs ≡ None
unlike ws cs h = by_rest (after ws cs) h
  where
    by_rest : (r : Option (List ℕ)) → is_some r ≡ false → r ≡ None
    by_rest None h = refl
    by_rest (Some rest) h = cc
