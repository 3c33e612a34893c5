-- The law of every rule.
use Rattle.std.specs.Prelude.{◌≡◌, List}
use Rattle.tm_grammar.specs.Rule.{Rule}

-- Tokens spell at most one value, and leave one rest.
abbrev pub IsOne : {T A : Type 0} → Rule T A → Type 0
IsOne {T = T} {A = A} r = (ts : List T) (a b : A) (x y : List T) → r.spells ts a x → r.spells ts b y → (a ≡ b) × (x ≡ y)
