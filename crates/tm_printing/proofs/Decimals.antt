-- A decimal number is spelled as itself where its digits and its sign are.
use Rattle.std.proofs.Common.{◌≡◌, ◌<◌, ◌≤◌, ◌+◌, ◌^◌, ◌%◌, ◌++◌, ℕ, zero, suc, List, [], ◌∷◌, flat_map, ℤ, pos, negsuc, FitsSigned, ap, subst, ◌∙◌, arith}
use Rattle.std.proofs.lemmas.Fmt.{decimal_by_steps_wide}
use Rattle.std.proofs.lemmas.Grind.{flat_map-append}
use Rattle.std.specs.Fmt.{decimal, signed_decimal}
use Rattle.std.specs.Int.{w128}
use Rattle.std.specs.List.{AllByRecursion}
use Rattle.tm_printing.specs.Decimals.{KeepsDecimals}

-- n bytes, each one more than the last
abbrev rising : ℕ → ℕ → List ℕ
rising first zero = []
rising first (suc n) = first ∷ rising (first + 1) n

-- what holds of them all holds of each
at : (P : ℕ → Type 0) (first n d : ℕ) → AllByRecursion P (rising first n) → d < n → P (first + d)
at P first zero d all h = absurd (omega arith)
at P first (suc n) zero all h = subst P (omega arith) all.0
at P first (suc n) (suc d) all h = subst P (omega arith) (at P (first + 1) n d all.1 (omega arith))

module _ (spelled : ℕ → List ℕ) (kept : KeepsDecimals spelled) where
  -- one digit, alone and after others
  one : (d : ℕ) → d < 10 → flat_map spelled ((48 + d) ∷ []) ≡ (48 + d) ∷ []
  one d h = ap (λ (l : List ℕ). l ++ []) (at (λ b. spelled b ≡ b ∷ []) 48 10 d kept.1 h)

  more : (n : ℕ) (ds : List ℕ) → 10 ≤ n → flat_map spelled ds ≡ ds →
      flat_map spelled (ds ++ (48 + n % 10) ∷ []) ≡ ds ++ (48 + n % 10) ∷ []
  more n ds h so_far =
      let last = (48 + n % 10) ∷ [] in
      flat_map-append spelled ds last
      ∙ (ap (λ (l : List ℕ). l ++ flat_map spelled last) so_far ∙ ap (λ (l : List ℕ). ds ++ l) (one (n % 10) (omega arith)))

  pub decimal_kept : (n : ℕ) → n < 10 ^ 64 → flat_map spelled (decimal n) ≡ decimal n
  decimal_kept n h = decimal_by_steps_wide (λ _ ds. flat_map spelled ds ≡ ds) one more n h

  pub signed_kept : (z : ℤ) → FitsSigned w128 z → flat_map spelled (signed_decimal z) ≡ signed_decimal z
  signed_kept (pos n) h = let fits = h.sfits in decimal_kept n (omega arith)
  signed_kept (negsuc n) h =
      let fits = h.sfits in
      ap (λ (l : List ℕ). l ++ flat_map spelled (decimal (suc n))) kept.0
      ∙ ap (λ (l : List ℕ). 45 ∷ l) (decimal_kept (suc n) (omega arith))
