-- The tokens of an expression's source, as far as they are read.
use Rattle.std.proofs.Common.{◌≡◌, ℕ, List, [], ◌∷◌, ◌++◌, Bool, false, length, refl, sym, ◌∙◌, ap, subst}
use Rattle.std.specs.Prelude.{◌==◌}
use Rattle.tm_syntax.specs.declared.token.Token.{Token}
use Rattle.tm_delimiters.specs.Front.{past_blanks}
use Rattle.tm_scanner.specs.Spells.{Reads, SpellsParts}
use Rattle.tm_scanner.specs.Steps.{Steps}
use Rattle.tm_scanner.specs.Tokens.{IsToken}
use Rattle.tm_scanner.proofs.Contents.{one_token}
use Rattle.tm_scanner.proofs.Steps.{OneStep, NoStep, steps_last, one_end}

one_read : OneStep Reads
one_read = λ s t w u v h k.
    let same = one_token (s, []) t w h.next k.next h.token k.token in
    (same.0, h.blanks ∙ ap past_blanks same.1 ∙ sym k.blanks)

nothing_left : NoStep Reads []
nothing_left = λ t left h. h.goes_on refl

pub not_empty : (rest : List ℕ) (b : Bool) → b ≡ (length rest == 0) → b ≡ false → rest ≡ [] → ⊥
not_empty rest b e f z = cc (sym f ∙ e ∙ ap (λ (r : List ℕ). length r == 0) z)

pub goes_on : (source : List ℕ) (old more : List Token) (rest next left : List ℕ) (t : Token) → Steps Reads (past_blanks source) old rest →
    (rest ≡ [] → ⊥) → IsToken (rest, []) t next → left ≡ past_blanks next → more ≡ old ++ t ∷ [] → Steps Reads (past_blanks source) more left
goes_on source old more rest next left t here some token blanks grown =
    subst (λ (ts : List Token). Steps Reads (past_blanks source) ts left) (sym grown)
    (steps_last Reads (past_blanks source) old rest t left here (record { goes_on = some; next = next; token = token; blanks = blanks }))

pub ends : (source : List ℕ) (ts : List Token) (rest : List ℕ) → Steps Reads (past_blanks source) ts rest → rest ≡ [] → SpellsParts source ts
ends source ts rest here e = subst (λ (r : List ℕ). Steps Reads (past_blanks source) ts r) e here

-- where something is left that no token begins, the source spells none
pub no_parts : (source : List ℕ) (old : List Token) (rest : List ℕ) → Steps Reads (past_blanks source) old rest →
    ((t : Token) (next : List ℕ) → IsToken (rest, []) t next → ⊥) → (rest ≡ [] → ⊥) → (ts : List Token) → SpellsParts source ts → ⊥
no_parts source old rest here none some ts h =
    some (one_end Reads (past_blanks source) old rest ts [] one_read here (λ t left k. none t k.next k.token) h nothing_left).1

pub one_parts_of : (source : List ℕ) (ts us : List Token) → SpellsParts source ts → SpellsParts source us → ts ≡ us
one_parts_of source ts us h k = (one_end Reads (past_blanks source) ts [] us [] one_read h nothing_left k nothing_left).0
