-- A source's final newline.
use Rattle.std.proofs.Common.{◌≡◌, ◌≢◌, ℕ, List, [], ◌∷◌, ◌++◌, Bool, true, false, nat_eq, ◌&&◌, refl, sym, ◌∙◌, ap}
use Rattle.std.specs.Prelude.{if◌then◌else◌}
use Rattle.std.specs.Str.Pattern.{FindsTextSuffix, StripsSuffix}
use Rattle.std.proofs.lemmas.Bool.{eqb-true}
use Rattle.tm_scanner.specs.Spells.{is_newline, without_final_newline}

-- a byte that no newline begins with stays
stays : (c : ℕ) (cs : List ℕ) → is_newline (c ∷ cs) ≡ false → without_final_newline (c ∷ cs) ≡ c ∷ without_final_newline cs
stays c cs h = ap (λ b. if b then [] else (c ∷ without_final_newline cs)) h

three : (c d e : ℕ) (front back : List ℕ) → is_newline (c ∷ d ∷ (front ++ e ∷ back)) ≡ false
three c d e [] back = refl
three c d e (f ∷ front) back = refl

pub without_two : (cs : List ℕ) → without_final_newline (cs ++ 13 ∷ 10 ∷ []) ≡ cs
without_two [] = refl
without_two (c ∷ []) = refl
without_two (c ∷ d ∷ cs) = stays c (d ∷ (cs ++ 13 ∷ 10 ∷ [])) (three c d 13 cs (10 ∷ [])) ∙ ap (λ w. c ∷ w) (without_two (d ∷ cs))

pub without_one : (cs : List ℕ) → ((front : List ℕ) → cs ++ 10 ∷ [] ≢ front ++ 13 ∷ 10 ∷ []) → without_final_newline (cs ++ 10 ∷ []) ≡ cs
without_one [] h = refl
without_one (c ∷ []) h = by_test (nat_eq c 13) refl
  where
    by_test : (b : Bool) → nat_eq c 13 ≡ b → without_final_newline (c ∷ 10 ∷ []) ≡ c ∷ []
    by_test true e = absurd (h [] (ap (λ w. w ∷ 10 ∷ []) (eqb-true c 13 e)))
    by_test false e = stays c (10 ∷ []) (ap (λ b. b && true) e)
without_one (c ∷ d ∷ cs) h = stays c (d ∷ (cs ++ 10 ∷ [])) (three c d 10 cs [])
    ∙ ap (λ w. c ∷ w) (without_one (d ∷ cs) (λ front e. h (c ∷ front) (ap (λ w. c ∷ w) e)))

pub without_none : (cs : List ℕ) → ((front : List ℕ) → cs ≢ front ++ 10 ∷ []) → without_final_newline cs ≡ cs
without_none [] h = refl
without_none (c ∷ []) h = by_test (nat_eq c 10) refl
  where
    by_test : (b : Bool) → nat_eq c 10 ≡ b → without_final_newline (c ∷ []) ≡ c ∷ []
    by_test true e = absurd (h [] (ap (λ w. w ∷ []) (eqb-true c 10 e)))
    by_test false e = stays c [] e
without_none (c ∷ d ∷ []) h = by_test (nat_eq d 10) refl
  where
    unequal : (b : Bool) → (b && false) ≡ false
    unequal true = refl
    unequal false = refl

    by_test : (b : Bool) → nat_eq d 10 ≡ b → without_final_newline (c ∷ d ∷ []) ≡ c ∷ d ∷ []
    by_test true e = absurd (h (c ∷ []) (ap (λ w. c ∷ w ∷ []) (eqb-true d 10 e)))
    by_test false e = stays c (d ∷ []) (ap (λ b. nat_eq c 13 && b) e ∙ unequal (nat_eq c 13)) ∙ ap (λ w. c ∷ w) (stays d [] e)
without_none (c ∷ d ∷ e ∷ cs) h = ap (λ w. c ∷ w) (without_none (d ∷ e ∷ cs) (λ front same. h (c ∷ front) (ap (λ w. c ∷ w) same)))

-- what is left of a source when a word is stripped off its end
pub before_word : (source word text : List ℕ) → StripsSuffix (FindsTextSuffix word) source text → source ≡ text ++ word
before_word source word text h = h.1.1 ∙ ap (λ w. w ++ word) (sym h.2)
