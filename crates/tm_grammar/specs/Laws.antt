-- The laws of the combinators that take one part after another.
use Rattle.std.specs.Prelude.{◌≡◌, ◌<◌, ◌≤◌, List, [], ◌∷◌, length, Option, Some, None, option_and_then, refl}
use Rattle.std.proofs.Common.{arith, ◌∙◌, ap}
use Rattle.tm_grammar.specs.Meanings.{Read, got, pure_spells, bind_spells, bind_reads, known, first_sees, unless_seen, not_before_sees}
use Rattle.tm_grammar.specs.Meanings.{branch_spells, branch_reads}
use Rattle.tm_grammar.specs.Rule.{Sound, Complete, Shorter, Nearer, Rule, Look}

pub not_got : {T A : Type 0} (a : A) (rest : List T) → ◌≡◌ {A = Read T A} None (got a rest) → ⊥
not_got a rest h = cc

pub same_got : {T A : Type 0} (a b : A) (ts rest : List T) → got a ts ≡ got b rest → (a ≡ b) × (ts ≡ rest)
same_got {T = T} {A = A} a b ts rest h =
    let pair : ◌≡◌ {A = A × List T} (a, ts) (b, rest) = cc in
    (ap (λ (w : A × List T). w.0) pair, ap (λ (w : A × List T). w.1) pair)

pub pure_only : {T A : Type 0} (x : A) → Complete (pure_spells x) (λ (ts : List T). got x ts)
pure_only x ts a rest h = cc

pub pure_shorter : {T A : Type 0} (x : A) → Shorter (pure_spells {T = T} x)
pure_shorter x ts a rest h = omega (arith, ap length h.1)

module _ {T A B : Type 0} (r : Rule T A) (f : A → Rule T B) where
  found_after : (ts : List T) (b : B) (rest : List T) (read : Read T A) → r.reads ts ≡ read →
      option_and_then (λ x. (f x.0).reads x.1) read ≡ got b rest →
      bind_spells r.spells (λ a. (f a).spells) ts b rest
  found_after ts b rest None e h = absurd (not_got b rest h)
  found_after ts b rest (Some x) e h = (x.0, x.1, r.sound ts x.0 x.1 e, (f x.0).sound x.1 b rest h)

  pub bind_found : Sound (bind_spells r.spells (λ a. (f a).spells)) (bind_reads r.reads (λ a. (f a).reads))
  bind_found ts b rest h = found_after ts b rest (r.reads ts) refl h

  pub bind_only : Complete (bind_spells r.spells (λ a. (f a).spells)) (bind_reads r.reads (λ a. (f a).reads))
  bind_only ts b rest h = ap (option_and_then (λ x. (f x.0).reads x.1)) (r.complete ts h.0 h.1 h.2) ∙ (f h.0).complete h.1 b rest h.3

  pub bind_shorter : Shorter (bind_spells r.spells (λ a. (f a).spells))
  bind_shorter ts b rest h = omega (arith, r.shorter ts h.0 h.1 h.2, (f h.0).shorter h.1 b rest h.3)

known_nearer : {T A : Type 0} (t : T) (ts : List T) (seen : Option A) (a : A) (rest : List T) → known ts seen ≡ got a rest →
    length rest < length (t ∷ ts)
known_nearer t ts None a rest h = absurd (not_got a rest h)
known_nearer t ts (Some x) a rest h = omega (arith, ap length (same_got x a ts rest h).1)

pub first_nearer : {T A : Type 0} (p : T → Option A) → Nearer (first_sees p)
first_nearer p [] a rest h = absurd (not_got a rest h)
first_nearer p (t ∷ ts) a rest h = known_nearer t ts (p t) a rest h

unless_got : {T A B : Type 0} (seen : Read T A) (after : Read T B) (a : A) (rest : List T) → unless_seen seen after ≡ got a rest →
    seen ≡ got a rest
unless_got seen None a rest h = h
unless_got seen (Some b) a rest h = absurd (not_got a rest h)

not_before_got : {T A B : Type 0} (q : T → Option B) (seen : Read T A) (a : A) (rest : List T) → not_before_sees q seen ≡ got a rest →
    seen ≡ got a rest
not_before_got q None a rest h = absurd (not_got a rest h)
not_before_got q (Some x) a rest h = unless_got (got x.0 x.1) (first_sees q x.1) a rest h

pub not_before_nearer : {T A B : Type 0} (p : Look T A) (q : T → Option B) → Nearer (λ ts. not_before_sees q (p.sees ts))
not_before_nearer p q ts a rest h = p.nearer ts a rest (not_before_got q (p.sees ts) a rest h)

module _ {T A B : Type 0} (f : A → Rule T B) (other : Rule T B) where
  pub branch_found : (seen : Read T A) → Sound (branch_spells (λ a. (f a).spells) other.spells seen)
      (branch_reads (λ a. (f a).reads) other.reads seen)
  branch_found None ts b rest h = other.sound ts b rest h
  branch_found (Some x) ts b rest h = (f x.0).sound x.1 b rest h

  pub branch_only : (seen : Read T A) → Complete (branch_spells (λ a. (f a).spells) other.spells seen)
      (branch_reads (λ a. (f a).reads) other.reads seen)
  branch_only None ts b rest h = other.complete ts b rest h
  branch_only (Some x) ts b rest h = (f x.0).complete x.1 b rest h

  pub branch_shorter : (p : Look T A) (ts : List T) (seen : Read T A) → p.sees ts ≡ seen → (b : B) (rest : List T) →
      branch_spells (λ a. (f a).spells) other.spells seen ts b rest → length rest ≤ length ts
  branch_shorter p ts None e b rest h = other.shorter ts b rest h
  branch_shorter p ts (Some x) e b rest h = omega (arith, p.nearer ts x.0 x.1 e, (f x.0).shorter x.1 b rest h)
