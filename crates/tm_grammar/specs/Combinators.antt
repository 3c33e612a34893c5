-- The rules that a grammar is made of.
use Rattle.std.specs.Prelude.{Bool, true, false, List, [], ◌∷◌, ◌++◌, Option, None, refl}
use Rattle.tm_grammar.specs.Meanings.{got, pure_spells, bind_spells, bind_reads, first_sees, not_before_sees, branch_spells, branch_reads}
use Rattle.tm_grammar.specs.Meanings.{grow_spells, grow_reads}
use Rattle.tm_grammar.specs.Rule.{Rule, Look}
use Rattle.tm_grammar.specs.Laws.{not_got, same_got, pure_only, pure_shorter, bind_found, bind_only, bind_shorter, first_nearer}
use Rattle.tm_grammar.specs.Laws.{not_before_nearer, branch_found, branch_only, branch_shorter}
use Rattle.tm_grammar.specs.Growth.{grow_found, grow_only, grow_shorter}

-- No tokens spell anything.
abbrev pub nothing : {T A : Type 0} → Rule T A
nothing = record {
  spells = λ ts a rest. ⊥;
  reads = λ ts. None;
  sound = λ ts a rest h. not_got a rest h;
  complete = λ ts a rest h. absurd h;
  shorter = λ ts a rest h. absurd h;
}

-- No token spells this value.
abbrev pub pure : {T A : Type 0} → A → Rule T A
pure x = record {
  spells = pure_spells x;
  reads = λ ts. got x ts;
  sound = λ ts a rest h. same_got x a ts rest h;
  complete = pure_only x;
  shorter = pure_shorter x;
}

-- One part, and after it another, which the value of the first one chooses.
infixl 10 ◌>>=◌
abbrev pub ◌>>=◌ : {T A B : Type 0} → Rule T A → (A → Rule T B) → Rule T B
r >>= f = record {
  spells = bind_spells r.spells (λ a. (f a).spells);
  reads = bind_reads r.reads (λ a. (f a).reads);
  sound = bind_found r f;
  complete = bind_only r f;
  shorter = bind_shorter r f;
}

-- a first token that p knows
abbrev pub first : {T A : Type 0} → (T → Option A) → Look T A
first p = record { sees = first_sees p; nearer = first_nearer p }

-- the same, where after it stands no token that q knows
abbrev pub not_before : {T A B : Type 0} → (T → Option A) → (T → Option B) → Look T A
not_before p q = record { sees = λ ts. not_before_sees q (first_sees p ts); nearer = not_before_nearer (first p) q }

-- a rule where something holds
abbrev pub provided : {T A : Type 0} → Bool → Rule T A → Rule T A
provided true r = r
provided false r = nothing

-- One rule after what stands first, and another where it does not stand there.
abbrev pub branch : {T A B : Type 0} → Look T A → (A → Rule T B) → Rule T B → Rule T B
branch p f other = record {
  spells = λ ts. branch_spells (λ a. (f a).spells) other.spells (p.sees ts) ts;
  reads = λ ts. branch_reads (λ a. (f a).reads) other.reads (p.sees ts) ts;
  sound = λ ts. branch_found f other (p.sees ts) ts;
  complete = λ ts. branch_only f other (p.sees ts) ts;
  shorter = λ ts. branch_shorter f other p ts (p.sees ts) refl;
}

-- one token that p knows
abbrev pub token : {T A : Type 0} → (T → Option A) → Rule T A
token p = branch (first p) pure nothing

-- A value that grows by one part after another, for as long as what begins a part stands first.
abbrev pub grow : {T A B : Type 0} → Look T A → (A → B → Rule T B) → B → Rule T B
grow p part x = record {
  spells = grow_spells p.sees (λ a y. (part a y).spells) x;
  reads = grow_reads p.sees (λ a y. (part a y).reads) x;
  sound = grow_found p part x;
  complete = grow_only p part x;
  shorter = grow_shorter p part x;
}

-- one more item at the end of others
abbrev pub one_more : {T A : Type 0} → Rule T A → List A → Rule T (List A)
one_more item xs = item >>= (λ x. pure (xs ++ x ∷ []))

-- items after these ones, as many as there are, each after what p sees
abbrev pub many_from : {T A B : Type 0} → Look T A → (A → Rule T B) → List B → Rule T (List B)
many_from p item xs = grow p (λ a ys. one_more (item a) ys) xs

abbrev pub many : {T A B : Type 0} → Look T A → (A → Rule T B) → Rule T (List B)
many p item = many_from p item []
