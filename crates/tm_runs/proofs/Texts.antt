-- The texts that values are, one by one.
use Rattle.std.specs.Prelude.{get_or}
use Rattle.std.proofs.Common.{◌≡◌, ◌<◌, ◌+◌, ℕ, zero, suc, List, [], ◌∷◌, ◌++◌, length, drop, Option, Some, None, refl, sym, ap, ◌∙◌, arith}
use Rattle.std.proofs.Common.{append_assoc}
use Rattle.tm_values.specs.Val.{Val}
use Rattle.tm_meaning.specs.Instructions.{and_text}

-- texts before others, where there are such
abbrev pub after_texts : List (List ℕ) → Option (List (List ℕ)) → Option (List (List ℕ))
after_texts ts None = None
after_texts ts (Some us) = Some (ts ++ us)

pub none_before : (found : Option (List (List ℕ))) → found ≡ after_texts [] found
none_before None = refl
none_before (Some us) = refl

pub one_more : (ts : List (List ℕ)) (t : List ℕ) (found : Option (List (List ℕ))) →
    after_texts ts (and_text (Some t) found) ≡ after_texts (ts ++ t ∷ []) found
one_more ts t None = refl
one_more ts t (Some us) = ap (λ xs. Some xs) (sym (append_assoc ts (t ∷ []) us))

-- what is left at a place of a list
pub left_at : (vs : List Val) (i : ℕ) (v : Val) → i < length vs → ((d : Val) → v ≡ get_or vs i d) → drop i vs ≡ v ∷ drop (i + 1) vs
left_at [] i v within read = absurd (omega (arith, within))
left_at (x ∷ vs) zero v within read = ap (λ y. y ∷ vs) (sym (read x))
left_at (x ∷ vs) (suc i) v within read =
    let next : suc i + 1 ≡ suc (i + 1) = omega arith in
    left_at vs i v (omega (arith, within)) read ∙ ap (λ us. v ∷ us) (ap (λ n. drop n (x ∷ vs)) (sym next))
