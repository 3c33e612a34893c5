-- The first place of an end delimiter.
use Rattle.std.proofs.Common.{◌≡◌, ◌≢◌, ◌⊎◌, inl, inr, ℕ, zero, suc, ◌+◌, ◌-◌, ◌<◌, ◌≤◌, List, [], ◌∷◌, ◌++◌, Bool, true, false, nat_eq, Option, Some, None}
use Rattle.std.proofs.Common.{length, drop, take, refl, sym, ◌∙◌, ap, subst, arith, MatchOption, length-append, append_assoc}
use Rattle.std.proofs.lemmas.Bool.{eqb-true, eq-eqb}
use Rattle.std.proofs.lemmas.List.{drop-drop, take-append-drop}
use Rattle.std.proofs.lemmas.Str.{IsCharBoundary-at_seam, IsCharBoundary-from_take}
use Rattle.std.proofs.Math.Seq.{drop-append_seam, take-append_seam}
use Rattle.std.specs.Prelude.{if◌then◌else◌, is_some, option_map}
use Rattle.std.specs.Option.{option_or}
use Rattle.std.specs.Str.{IsUtf8, IsCharBoundary}
use Rattle.std.specs.Str.Pattern.{FindsText, SplitsAroundMatch}
use Rattle.tm_delimiters.specs.declared.whitespace.Whitespace.{Whitespace}
use Rattle.tm_delimiters.specs.declared.whitespace.Whitespace.TheVariants as whitespace
use Rattle.tm_delimiters.specs.Front.{after, until}
use Rattle.tm_delimiters.specs.Views.{IsRest, EndsIn, IsBeforeMark, IsKnown}
use Rattle.tm_delimiters.specs.Whitespace.{ending, ended_by, ends_here, to_end}
use Rattle.tm_delimiters.proofs.Places.{not_true, lacks, after-append, until_none, until_some, until_end}

-- What an end is: nothing, a delimiter, or a mark and a delimiter.
abbrev End : Type 0
End = Option (Whitespace × List ℕ)

all_none : (a b c : End) → a ≡ None → b ≡ None → c ≡ None → is_some (option_or a (option_or b c)) ≡ false
all_none a b c e f g = rw (e, f, g) refl

first_some : (a b : End) → is_some a ≡ true → is_some (option_or a b) ≡ true
first_some None b h = cc
first_some (Some x) b h = refl

second_some : (a b : End) → is_some b ≡ true → is_some (option_or a b) ≡ true
second_some None b h = h
second_some (Some x) b h = refl

ended : (w : Whitespace) (word cs rest : List ℕ) → after word cs ≡ Some rest → is_some (ended_by w word cs) ≡ true
ended w word cs rest e = rw e refl

unended : (w : Whitespace) (word cs : List ℕ) → after word cs ≡ None → ended_by w word cs ≡ None
unended w word cs e = rw e refl

after_byte : (c : ℕ) (end cs rest : List ℕ) → after end cs ≡ Some rest → after (c ∷ end) (c ∷ cs) ≡ Some rest
after_byte c end cs rest e = ap (λ same. if same then after end cs else None) (eq-eqb c c refl) ∙ e

lacks_byte : (c : ℕ) (end cs : List ℕ) → ((rest : List ℕ) → cs ≡ c ∷ rest → after end rest ≡ None) → after (c ∷ end) cs ≡ None
lacks_byte c end [] h = refl
lacks_byte c end (d ∷ cs) h = by_test (nat_eq c d) refl
  where
    by_test : (same : Bool) → nat_eq c d ≡ same → (if same then after end cs else None) ≡ None
    by_test true e = h cs (ap (λ x. x ∷ cs) (sym (eqb-true c d e)))
    by_test false e = refl

not_here : (end cs : List ℕ) → after end cs ≡ None → ((rest : List ℕ) → cs ≡ 45 ∷ rest → after end rest ≡ None) →
    ((rest : List ℕ) → cs ≡ 43 ∷ rest → after end rest ≡ None) → ends_here end cs ≡ false
not_here end cs none minus plus =
    all_none (ended_by whitespace.Default end cs) (ended_by whitespace.Remove (45 ∷ end) cs) (ended_by whitespace.Preserve (43 ∷ end) cs)
    (unended whitespace.Default end cs none) (unended whitespace.Remove (45 ∷ end) cs (lacks_byte 45 end cs minus))
    (unended whitespace.Preserve (43 ∷ end) cs (lacks_byte 43 end cs plus))

here : (end cs rest : List ℕ) → after end cs ≡ Some rest → ends_here end cs ≡ true
here end cs rest e =
    first_some (ended_by whitespace.Default end cs) (option_or (ended_by whitespace.Remove (45 ∷ end) cs)
    (ended_by whitespace.Preserve (43 ∷ end) cs)) (ended whitespace.Default end cs rest e)

here_minus : (end cs rest : List ℕ) → after end cs ≡ Some rest → ends_here end (45 ∷ cs) ≡ true
here_minus end cs rest e =
    let others = option_or (ended_by whitespace.Remove (45 ∷ end) (45 ∷ cs)) (ended_by whitespace.Preserve (43 ∷ end) (45 ∷ cs)) in
    second_some (ended_by whitespace.Default end (45 ∷ cs)) others
    (first_some (ended_by whitespace.Remove (45 ∷ end) (45 ∷ cs)) (ended_by whitespace.Preserve (43 ∷ end) (45 ∷ cs))
    (ended whitespace.Remove (45 ∷ end) (45 ∷ cs) rest (after_byte 45 end cs rest e)))

here_plus : (end cs rest : List ℕ) → after end cs ≡ Some rest → ends_here end (43 ∷ cs) ≡ true
here_plus end cs rest e =
    let others = option_or (ended_by whitespace.Remove (45 ∷ end) (43 ∷ cs)) (ended_by whitespace.Preserve (43 ∷ end) (43 ∷ cs)) in
    second_some (ended_by whitespace.Default end (43 ∷ cs)) others
    (second_some (ended_by whitespace.Remove (45 ∷ end) (43 ∷ cs)) (ended_by whitespace.Preserve (43 ∷ end) (43 ∷ cs))
    (ended whitespace.Preserve (43 ∷ end) (43 ∷ cs) rest (after_byte 43 end cs rest e)))

-- one byte on
drop_one : (j : ℕ) (cs rest : List ℕ) (c : ℕ) → drop j cs ≡ c ∷ rest → rest ≡ drop (suc j) cs
drop_one zero [] rest c e = cc
drop_one zero (d ∷ cs) rest c e = cc
drop_one (suc j) [] rest c e = cc
drop_one (suc j) (d ∷ cs) rest c e = drop_one j cs rest c e

take_one : (j : ℕ) (cs rest : List ℕ) (c : ℕ) → drop j cs ≡ c ∷ rest → take (suc j) cs ≡ take j cs ++ c ∷ []
take_one zero [] rest c e = cc
take_one zero (d ∷ cs) rest c e = cc
take_one (suc j) [] rest c e = cc
take_one (suc j) (d ∷ cs) rest c e = ap (λ w. d ∷ w) (take_one j cs rest c e)

-- no delimiter stands at a place before this one
abbrev pub NoneUpTo : List ℕ → List ℕ → ℕ → Type 0
NoneUpTo end text k = (j : ℕ) → j < k → after end (drop j text) ≡ None

-- nor does one with a mark, where its mark is none at the end of what stands before the place
unmarked_before : (end text : List ℕ) (k j : ℕ) → NoneUpTo end text k → j < k →
    ((f : List ℕ) → take k text ≢ f ++ 45 ∷ []) → ((f : List ℕ) → take k text ≢ f ++ 43 ∷ []) → ends_here end (drop j text) ≡ false
unmarked_before end text k j none less minus plus =
    not_here end (drop j text) (none j less) (by_mark 45 minus) (by_mark 43 plus)
  where
    by_mark : (mark : ℕ) → ((f : List ℕ) → take k text ≢ f ++ mark ∷ []) → (rest : List ℕ) → drop j text ≡ mark ∷ rest → after end rest ≡ None
    by_mark mark lacking rest e = by_place (k - suc j) refl
      where
        by_place : (d : ℕ) → k - suc j ≡ d → after end rest ≡ None
        by_place zero f =
            let last : k ≡ suc j = omega (arith, f, less) in
            absurd (lacking (take j text) (ap (λ n. take n text) last ∙ take_one j text rest mark e))
        by_place (suc d) f = ap (after end) (drop_one j text rest mark e) ∙ none (suc j) (omega (arith, f))

marked_before : (end text : List ℕ) (k j : ℕ) → NoneUpTo end text (suc k) → j < k → ends_here end (drop j text) ≡ false
marked_before end text k j none less = not_here end (drop j text) (none j (omega (arith, less))) (by_mark 45) (by_mark 43)
  where
    by_mark : (mark : ℕ) (rest : List ℕ) → drop j text ≡ mark ∷ rest → after end rest ≡ None
    by_mark mark rest e = ap (after end) (drop_one j text rest mark e) ∙ none (suc j) (omega (arith, less))

-- the cut at the first place where p holds, also at the end
cut_there : (p : List ℕ → Bool) (cs : List ℕ) (k : ℕ) → ((j : ℕ) → j < k → p (drop j cs) ≡ false) → k ≤ length cs →
    p (drop k cs) ≡ true → until p cs ≡ (take k cs, drop k cs)
cut_there p [] zero none fits here = refl
cut_there p [] (suc k) none fits here = absurd (omega (arith, fits))
cut_there p (c ∷ cs) zero none fits here = until_none p (c ∷ cs) here
cut_there p (c ∷ cs) (suc k) none fits here =
    until_some p c cs (none 0 (omega arith))
    ∙ ap (λ r. (c ∷ r.0, r.1)) (cut_there p cs k (λ j less. none (suc j) (omega (arith, less))) (omega (arith, fits)) here)

-- where a text is cut before the end
pub record CutAt (end text front : List ℕ) : Type 0 where
  pub fits : length front ≤ length text
  pub whole : take (length front) text ≡ front
  pub value : to_end end text ≡ (take (length front) text, drop (length front) text)

-- after a mark the delimiter stands
marked : (end text rest front : List ℕ) (mark k : ℕ) → NoneUpTo end text k → length (take k text) ≡ k → k ≤ length text →
    after end (drop k text) ≡ Some rest → EndsIn mark (take k text) front →
    ((cs : List ℕ) → after end cs ≡ Some rest → ends_here end (mark ∷ cs) ≡ true) → CutAt end text front
marked end text rest front mark k none size fits found ends_in ends =
    let whole : text ≡ front ++ mark ∷ drop k text = sym (take-append-drop k text) ∙ ap (λ w. w ++ drop k text) ends_in
    ∙ append_assoc front (mark ∷ []) (drop k text) in
    let place : k ≡ suc (length front) = omega (arith, size, ap length ends_in, length-append front (mark ∷ [])) in
    let left : drop (length front) text ≡ mark ∷ drop k text = ap (drop (length front)) whole ∙ drop-append_seam front (mark ∷ drop k text) in
    record {
      fits = omega (arith, fits, place);
      whole = ap (take (length front)) whole ∙ take-append_seam front (mark ∷ drop k text);
      value = cut_there (ends_here end) text (length front)
          (λ j less. marked_before end text (length front) j (subst (NoneUpTo end text) place none) less) (omega (arith, fits, place))
          (ap (ends_here end) left ∙ ends (drop k text) found);
    }

unmarked : (end text rest front : List ℕ) (k : ℕ) → NoneUpTo end text k → length (take k text) ≡ k → k ≤ length text →
    after end (drop k text) ≡ Some rest → take k text ≡ front → ((f : List ℕ) → take k text ≢ f ++ 45 ∷ []) →
    ((f : List ℕ) → take k text ≢ f ++ 43 ∷ []) → CutAt end text front
unmarked end text rest front k none size fits found same minus plus =
    let place : k ≡ length front = sym size ∙ ap length same in
    record {
      fits = omega (arith, fits, place);
      whole = ap (λ n. take n text) (sym place) ∙ same;
      value = cut_there (ends_here end) text k (λ j less. unmarked_before end text k j none less minus plus) fits
          (here end (drop k text) rest found)
          ∙ ap (λ n. (take n text, drop n text)) place;
    }

pub cuts_at : (end text inside back front : List ℕ) → SplitsAroundMatch (FindsText end) text inside back → IsBeforeMark inside front →
    CutAt end text front
cuts_at end text inside back front h before = by_mark before
  where
    found : after end (drop h.0 text) ≡ Some (drop h.1 text)
    found = ap (after end) h.2.1.split ∙ after-append end (drop h.1 text)

    none : NoneUpTo end text h.0
    none = λ j less. lacks (drop j text) end (h.2.0 j less)

    size : length (take h.0 text) ≡ h.0
    size = ap length (sym h.3) ∙ h.6

    fits : h.0 ≤ length text
    fits = omega (arith, h.5, h.7)

    by_mark : IsBeforeMark inside front → CutAt end text front
    by_mark (inl minus) = marked end text (drop h.1 text) front 45 h.0 none size fits found (sym h.3 ∙ minus)
        (λ cs e. here_minus end cs (drop h.1 text) e)
    by_mark (inr (inl plus)) = marked end text (drop h.1 text) front 43 h.0 none size fits found (sym h.3 ∙ plus)
        (λ cs e. here_plus end cs (drop h.1 text) e)
    by_mark (inr (inr bare)) = unmarked end text (drop h.1 text) front h.0 none size fits found (sym h.3 ∙ bare.0)
        (λ f e. bare.1 f (h.3 ∙ e)) (λ f e. bare.2 f (h.3 ∙ e))

pub cuts_nowhere : (end text : List ℕ) → FindsText end text None → to_end end text ≡ (text, [])
cuts_nowhere end text h = until_end (ends_here end) text
    (λ j less true_there. cc (sym (not_here end (drop j text) (none j (omega (arith, less))) (by_mark 45 j less) (by_mark 43 j less)) ∙ true_there))
  where
    none : (j : ℕ) → j ≤ length text → after end (drop j text) ≡ None
    none j fits = lacks (drop j text) end (h j fits)

    by_mark : (mark j : ℕ) → j < length text → (rest : List ℕ) → drop j text ≡ mark ∷ rest → after end rest ≡ None
    by_mark mark j less rest e = ap (after end) (drop_one j text rest mark e) ∙ none (suc j) (omega (arith, less))

-- the two parts of a cut
pub until_parts : (p : List ℕ → Bool) (cs : List ℕ) → cs ≡ (until p cs).0 ++ (until p cs).1
until_parts p [] = refl
until_parts p (c ∷ cs) = by_test (until_parts p cs) (p (c ∷ cs)) refl
  where
    by_test : cs ≡ (until p cs).0 ++ (until p cs).1 → (b : Bool) → p (c ∷ cs) ≡ b →
        c ∷ cs ≡ (until p (c ∷ cs)).0 ++ (until p (c ∷ cs)).1
    by_test others true e = sym (ap (λ (r : List ℕ × List ℕ). r.0 ++ r.1) (until_none p (c ∷ cs) e))
    by_test others false e = ap (λ w. c ∷ w) others ∙ sym (ap (λ (r : List ℕ × List ℕ). r.0 ++ r.1) (until_some p c cs e))

-- a search that begins further on, before the first place, finds the same
until_on : (p : List ℕ → Bool) (gone rest : List ℕ) → length (until p (gone ++ rest)).1 ≤ length rest → (until p rest).1 ≡ (until p (gone ++ rest)).1
until_on p [] rest fits = refl
until_on p (c ∷ gone) rest fits = by_test (λ less. until_on p gone rest less) (p (c ∷ (gone ++ rest))) refl
  where
    by_test : (length (until p (gone ++ rest)).1 ≤ length rest → (until p rest).1 ≡ (until p (gone ++ rest)).1) →
        (b : Bool) → p (c ∷ (gone ++ rest)) ≡ b → (until p rest).1 ≡ (until p (c ∷ (gone ++ rest))).1
    by_test others true e =
        absurd (omega (arith, fits, ap (λ (r : List ℕ × List ℕ). length r.1) (until_none p (c ∷ (gone ++ rest)) e), length-append gone rest))
    by_test others false e =
        let same = ap (λ (r : List ℕ × List ℕ). r.1) (until_some p c (gone ++ rest) e) in
        others (omega (arith, fits, ap length same)) ∙ sym same

pub rest_fits : (rest cs : List ℕ) → IsRest rest cs → length rest ≤ length cs
rest_fits rest cs h = omega (arith, ap length h.1, length-append h.0 rest)

pub known_on : (end cs rest known : List ℕ) → IsRest rest cs → IsKnown end cs known → IsKnown end rest known
known_on end cs rest known h (inl less) = inl (omega (arith, less, rest_fits rest cs h))
known_on end cs rest known h (inr e) = by_place (length known - length rest) refl
  where
    same : known ≡ (to_end end (h.0 ++ rest)).1
    same = e ∙ ap (λ w. (to_end end w).1) h.1

    by_place : (d : ℕ) → length known - length rest ≡ d → IsKnown end rest known
    by_place (suc d) f = inl (omega (arith, f))
    by_place zero f = inr (same ∙ sym (until_on (ends_here end) h.0 rest (omega (arith, f, ap length same))))

-- where a text is cut by what is known to be left
pub record CutBy (end text known : List ℕ) : Type 0 where
  pub seam : length text - length known ≡ length (to_end end text).0
  pub parts : text ≡ (to_end end text).0 ++ known
  pub value : to_end end text ≡ (take (length text - length known) text, drop (length text - length known) text)

pub cuts_by : (end text known : List ℕ) → IsKnown end text known → length known ≤ length text → CutBy end text known
cuts_by end text known (inl less) fits = absurd (omega (arith, less, fits))
cuts_by end text known (inr e) fits =
    let front = (to_end end text).0 in
    let parts : text ≡ front ++ known = until_parts (ends_here end) text ∙ ap (λ w. front ++ w) (sym e) in
    let seam : length text - length known ≡ length front = omega (arith, ap length parts, length-append front known) in
    let before : take (length text - length known) text ≡ front = ap (λ n. take n text) seam ∙ ap (take (length front)) parts
    ∙ take-append_seam front known in
    let behind : drop (length text - length known) text ≡ (to_end end text).1 = ap (λ n. drop n text) seam ∙ ap (drop (length front)) parts
    ∙ drop-append_seam front known ∙ e in
    record { seam = seam; parts = parts; value = rw (before, behind) refl }

pub known_boundary : (end text known : List ℕ) → CutBy end text known → IsUtf8 known → IsCharBoundary text (length text - length known)
known_boundary end text known h u = subst (IsCharBoundary text) (sym h.seam) (IsCharBoundary-at_seam text (to_end end text).0 known h.parts u)
