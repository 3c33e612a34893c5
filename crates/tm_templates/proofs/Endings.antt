-- Words at the end of bytes.
use Rattle.std.proofs.Common.{◌≡◌, ◌≢◌, ℕ, ◌++◌, List, Option, Some, None, reverse, refl, sym, ◌∙◌, ap, MatchOption, Bor}
use Rattle.std.specs.Prelude.{option_map}
use Rattle.std.specs.Str.Pattern.{FindsTextSuffix, StripsSuffix}
use Rattle.std.proofs.lemmas.List.{reverse-append, reverse-reverse}
use Rattle.tm_delimiters.specs.Front.{after}
use Rattle.tm_delimiters.specs.Views.{place_of}
use Rattle.tm_delimiters.proofs.Places.{after-append, after-split}
use Rattle.tm_templates.specs.Defaults.{before}

there : (front word : List ℕ) → before word (front ++ word) ≡ Some front
there front word =
    ap (λ cs. option_map reverse (after (reverse word) cs)) (reverse-append front word)
    ∙ ap (option_map reverse) (after-append (reverse word) (reverse front)) ∙ ap Some (reverse-reverse front)

-- read from its end
turned : (text word rest : List ℕ) → after (reverse word) (reverse text) ≡ Some rest → text ≡ reverse rest ++ word
turned text word rest e =
    sym (reverse-reverse text) ∙ ap reverse (after-split (reverse word) (reverse text) rest e) ∙ reverse-append (reverse word) rest
    ∙ ap (λ w. reverse rest ++ w) (reverse-reverse word)

not_there_by : (text word : List ℕ) → ((front : List ℕ) → text ≢ front ++ word) → (r : Option (List ℕ)) →
    after (reverse word) (reverse text) ≡ r → before word text ≡ None
not_there_by text word h None e = ap (option_map reverse) e
not_there_by text word h (Some rest) e = absurd (h (reverse rest) (turned text word rest e))

-- what is left of a text whose end is stripped off
pub stripped : (text word : List ℕ) (r : Option (Bor (List ℕ))) →
    MatchOption r (FindsTextSuffix word text None) (λ x. StripsSuffix (FindsTextSuffix word) text x.now)
    → place_of r ≡ before word text
stripped text word None h = sym (not_there_by text word h (after (reverse word) (reverse text)) refl)
stripped text word (Some x) h = sym (ap (before word) (h.1.1 ∙ ap (λ w. w ++ word) (sym h.2)) ∙ there x.now word)
