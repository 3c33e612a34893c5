-- Spellings that leave decimal numbers as they are.
use Rattle.std.specs.Prelude.{◌≡◌, ℕ, List, [], ◌∷◌, codes}
use Rattle.std.specs.List.{AllByRecursion}
use Rattle.std.proofs.Common.{rules}
use Rattle.tm_definitions.specs.Texts.{as_is, in_html}

-- the minus sign and each digit are spelled as themselves
abbrev pub KeepsDecimals : (ℕ → List ℕ) → Type 0
KeepsDecimals spelled = AllByRecursion (λ b. spelled b ≡ b ∷ []) (codes "-0123456789")

-- so it is in every escape
pub as_is_keeps_decimals : KeepsDecimals as_is
as_is_keeps_decimals = search rules

pub html_keeps_decimals : KeepsDecimals in_html
html_keeps_decimals = search rules
