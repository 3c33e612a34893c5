-- What the combinators of a grammar mean. Each has two readings: `spells` relates tokens, a value and the tokens
-- that are left after it; `reads` is the function that finds the value.
use Rattle.std.specs.Prelude.{◌≡◌, ℕ, zero, suc, List, [], ◌∷◌, length, Option, Some, None, option_and_then}

-- a value and the tokens that are left, or none
abbrev pub Read : Type 0 → Type 0 → Type 0
Read T A = Option (A × List T)

abbrev pub got : {T A : Type 0} → A → List T → Read T A
got a rest = Some (a, rest)

abbrev pub Derives : Type 0 → Type 0 → Type 1
Derives T A = List T → A → List T → Type 0

abbrev pub Reads : Type 0 → Type 0 → Type 0
Reads T A = List T → Read T A

-- No token spells this value.
abbrev pub pure_spells : {T A : Type 0} → A → Derives T A
pure_spells x ts a rest = (x ≡ a) × (ts ≡ rest)

-- One part, and after it another, which the value of the first one chooses.
abbrev pub bind_spells : {T A B : Type 0} → Derives T A → (A → Derives T B) → Derives T B
bind_spells {T = T} {A = A} first then ts b rest = (a : A) × (between : List T) × first ts a between × then a between b rest

abbrev pub bind_reads : {T A B : Type 0} → Reads T A → (A → Reads T B) → Reads T B
bind_reads first then ts = option_and_then (λ x. then x.0 x.1) (first ts)

-- What the first token is known as, and the tokens after it.
abbrev pub known : {T A : Type 0} → List T → Option A → Read T A
known ts None = None
known ts (Some a) = got a ts

abbrev pub first_sees : {T A : Type 0} → (T → Option A) → Reads T A
first_sees p [] = None
first_sees p (t ∷ ts) = known ts (p t)

-- The same, where after it stands no token that q knows.
abbrev pub unless_seen : {T A B : Type 0} → Read T A → Read T B → Read T A
unless_seen seen None = seen
unless_seen seen (Some b) = None

abbrev pub not_before_sees : {T A B : Type 0} → (T → Option B) → Read T A → Read T A
not_before_sees q None = None
not_before_sees q (Some x) = unless_seen (got x.0 x.1) (first_sees q x.1)

-- One rule after what stands first, where it was seen, and another where it was not.
abbrev pub branch_spells : {T A B : Type 0} → (A → Derives T B) → Derives T B → Read T A → Derives T B
branch_spells then other None ts b rest = other ts b rest
branch_spells then other (Some x) ts b rest = then x.0 x.1 b rest

abbrev pub branch_reads : {T A B : Type 0} → (A → Reads T B) → Reads T B → Read T A → Reads T B
branch_reads then other None ts = other ts
branch_reads then other (Some x) ts = then x.0 x.1

-- A value grows by one part after another, for as long as what begins a part stands first.
pub data Grows {T A B : Type 0} (sees : Reads T A) (part : A → B → Derives T B) : List T → B → B → List T → Type 0 where
  stops : {ts rest : List T} {x z : B} → sees ts ≡ None → x ≡ z → ts ≡ rest → Grows sees part ts x z rest
  grows : {ts after between rest : List T} {a : A} {x y z : B} →
      sees ts ≡ got a after → part a x after y between → Grows sees part between y z rest → Grows sees part ts x z rest

abbrev pub grow_spells : {T A B : Type 0} → Reads T A → (A → B → Derives T B) → B → Derives T B
grow_spells sees part x ts z rest = Grows sees part ts x z rest

-- one part where something was seen, and then what `more` reads
abbrev pub turn : {T A B : Type 0} → (A → B → Reads T B) → (B → Reads T B) → B → List T → Read T A → Read T B
turn part more x ts None = got x ts
turn part more x ts (Some s) = option_and_then (λ y. more y.0 y.1) (part s.0 x s.1)

-- in fewer than n turns
unfoldable pub grow_reads_by : {T A B : Type 0} → Reads T A → (A → B → Reads T B) → ℕ → B → Reads T B
grow_reads_by sees part zero x ts = None
grow_reads_by sees part (suc n) x ts = turn part (grow_reads_by sees part n) x ts (sees ts)

-- Each turn takes a token, so that there are no more turns than tokens.
unfoldable pub grow_reads : {T A B : Type 0} → Reads T A → (A → B → Reads T B) → B → Reads T B
grow_reads sees part x ts = grow_reads_by sees part (suc (length ts)) x ts
