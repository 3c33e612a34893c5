-- Rules of a grammar over tokens of any type, with the laws that make their two readings one.
use Rattle.std.specs.Prelude.{◌≡◌, ◌<◌, ◌≤◌, List, length}
use Rattle.tm_grammar.specs.Meanings.{got, Derives, Reads}

-- What is read is spelled so.
abbrev pub Sound : {T A : Type 0} → Derives T A → Reads T A → Type 0
Sound {T = T} {A = A} spells reads = (ts : List T) (a : A) (rest : List T) → reads ts ≡ got a rest → spells ts a rest

-- What is spelled so is read.
abbrev pub Complete : {T A : Type 0} → Derives T A → Reads T A → Type 0
Complete {T = T} {A = A} spells reads = (ts : List T) (a : A) (rest : List T) → spells ts a rest → reads ts ≡ got a rest

-- No token is made.
abbrev pub Shorter : {T A : Type 0} → Derives T A → Type 0
Shorter {T = T} {A = A} spells = (ts : List T) (a : A) (rest : List T) → spells ts a rest → length rest ≤ length ts

-- A token is taken.
abbrev pub Nearer : {T A : Type 0} → Reads T A → Type 0
Nearer {T = T} {A = A} sees = (ts : List T) (a : A) (rest : List T) → sees ts ≡ got a rest → length rest < length ts

pub record Rule (T A : Type 0) : Type 1 where
  -- the tokens, up to the rest, spell the value
  pub spells : Derives T A
  -- the one value that they spell, and the rest
  pub reads : Reads T A
  pub sound : Sound spells reads
  pub complete : Complete spells reads
  pub shorter : Shorter spells

-- What stands first, where it is known.
pub record Look (T A : Type 0) : Type 1 where
  pub sees : Reads T A
  pub nearer : Nearer sees
