use Rattle.std.proofs.Common.{◌≡◌, ℕ, zero, suc, ◌<◌, List, [], ◌∷◌, None, length, drop, arith, refl, sym, ◌∙◌, ap}
use Rattle.tm_delimiters.specs.Front.{ascii}
use Rattle.tm_delimiters.specs.Views.{place_of}
use Rattle.tm_scanner.specs.Pieces.{past_letters}
use Rattle.tm_scanner.proofs.raw.past_letters.Goals as goal

no_letter : (by ws rest : List ℕ) (i : ℕ) → i < length ws → ascii rest ≡ None → past_letters by (drop i ws) rest ≡ None
no_letter by [] rest i less e = absurd (omega (arith, less))
no_letter by (w ∷ ws) rest zero less e = rw e refl
no_letter by (w ∷ ws) rest (suc i) less e = no_letter by ws rest i (omega (arith, less)) e

pub returns-in_err-byte-clause-value : goal.returns-in_err-byte-clause-value
returns-in_err-byte-clause-value c =
    ap place_of c.from_residual.ensures
    ∙ sym (no_letter c.args.by.now c.args.letters.now c.loop-letter.rest.now c.loop-letter.letter-index c.loop-letter-test.true
    (sym c.in_err-byte.ensures.value))
    ∙ c.loop-letter.invariant.1
