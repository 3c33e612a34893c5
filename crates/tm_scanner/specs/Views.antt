-- The results of functions, as bytes.
use Rattle.std.specs.Prelude.{◌≡◌, ℕ, List, ◌++◌, ◌≤◌, length, Option, Some, None, Result, IfOk}
use Rattle.std.specs.Borrow.{Bor}
use Rattle.tm_delimiters.specs.declared.trimming.Part.{Part}

-- the marks of a tag, and the rest after it
abbrev pub closing_of : {A B : Type 0} → Option (A × (B × Bor (List ℕ))) → Option (A × (B × List ℕ))
closing_of None = None
closing_of (Some x) = Some (x.0, (x.1.0, x.1.1.now))

-- the same after a text
abbrev pub closed_of : {A B : Type 0} → Option (Bor (List ℕ) × (A × (B × Bor (List ℕ)))) → Option (List ℕ × (A × (B × List ℕ)))
closed_of None = None
closed_of (Some x) = Some (x.0.now, (x.1.0, (x.1.1.0, x.1.1.1.now)))

-- a part of the source, and the rest
abbrev pub block_of : {A : Type 0} → Option (Part × A × Bor (List ℕ)) → Option (List ℕ × (A × List ℕ))
block_of None = None
block_of (Some x) = Some (x.0.text.now, (x.1, x.2.now))

-- The new items are the old ones and then some that satisfy P, together with the rest.
abbrev pub Adds : {A B E : Type 0} → Result (B × Bor (List ℕ)) E → List A → List A → (List A → B × List ℕ → Type 0) → Type 0
Adds {A = A} r old new P = IfOk r (λ x. (xs : List A) × P xs (x.0, x.1.now) × (new ≡ old ++ xs))

-- The rest is no longer than the bytes.
abbrev pub IsNoLonger : {B E : Type 0} → Result (B × Bor (List ℕ)) E → List ℕ → Type 0
IsNoLonger r cs = IfOk r (λ x. length x.1.now ≤ length cs)
