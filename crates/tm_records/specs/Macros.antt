-- Definitions for the arguments of macros.
use Rattle.std.specs.Borrow.{Bor}
use Rattle.std.specs.declared.alloc.Global.{Global}
use Rattle.std.specs.BTreeSet.{BTreeSet, contains}
use Rattle.std.specs.Cmp.Lexicographic.{slice_cmp}
use Rattle.std.specs.Ordering.{nat_cmp}
use Rattle.std.specs.declared.cmp.Ordering.{Ordering}
use Rattle.std.specs.Prelude.{◌≡◌, ℕ, Vec, List, [], ◌∷◌, ◌++◌, Option, None, Some, Result, Ok, Err, false}
use Rattle.tm_definitions.specs.Members.{or_undefined}
use Rattle.tm_syntax.specs.Named.{put}
use Rattle.tm_values.specs.Val.{Val, entries_in, undefined}
use Rattle.tm_values.specs.declared.error.ErrorKind.{ErrorKind}
use Rattle.tm_values.specs.declared.error.ErrorKind.TheVariants.{TooManyArguments}
use Rattle.tm_meaning.specs.Memory.{is_want_of_memory}
use Rattle.tm_meaning.specs.Calls.{after_first, is_argument}
use Rattle.tm_meaning.specs.World.{Bindings, Scopes, plain_scope}

-- the pairs of a keyword map, if there is one
abbrev pub given_in : Option (Bor Val) → List (Val × Val)
given_in None = []
given_in (Some v) = entries_in v.now

-- the value of one argument, by position or by name; none if it has both
abbrev pub argument_of : Option Val → Option Val → Option Val
argument_of None named = Some (or_undefined named)
argument_of (Some v) None = Some v
argument_of (Some v) (Some w) = None

-- a value before others, if both are there
abbrev pub before_all : Option Val → Option (List Val) → Option (List Val)
before_all None vs = None
before_all (Some v) vs = after_first v vs

-- values before others, if there are others
abbrev pub after_all : List Val → Option (List Val) → Option (List Val)
after_all before None = None
after_all before (Some vs) = Some (before ++ vs)

-- The value is the stated one; an error other than OutOfMemory is TooManyArguments, and then none
-- is stated.
abbrev pub IsBound : {A : Type 0} → Result A (List ErrorKind) → Option A → Type 0
IsBound (Ok a) stated = stated ≡ Some a
IsBound (Err chain) stated = is_want_of_memory chain ≡ false → (chain ≡ TooManyArguments ∷ []) × (stated ≡ None)

-- The same for a list of values.
abbrev pub BindsTo : Result (Vec Val Global) (List ErrorKind) → Option (List Val) → Type 0
BindsTo (Ok vs) stated = stated ≡ Some vs.items
BindsTo (Err chain) stated = is_want_of_memory chain ≡ false → (chain ≡ TooManyArguments ∷ []) × (stated ≡ None)

-- ---------------------------------------------------------------- scopes of calls
abbrev pub no_scopes : Scopes
no_scopes = record { frames = []; outer = 0 }

-- the binding of `caller`, if there is one
abbrev pub called_locals : Option (List ℕ × Val) → Bindings
called_locals None = []
called_locals (Some p) = put p.0 p.1 []

-- the scopes of a macro call at a depth: one over a context value, and inside it one that may read
-- a closure
abbrev pub called_scopes : Val → Option ℕ → ℕ → Option (List ℕ × Val) → Scopes
called_scopes root reads outer caller = record {
  frames = record (plain_scope (undefined false)) { locals = called_locals caller; reads = reads } ∷ plain_scope root ∷ [];
  outer = outer;
}

-- ---------------------------------------------------------------- sets of names
-- the order of names behind references
abbrev pub order : Bor (List ℕ) → Bor (List ℕ) → Ordering
order x y = slice_cmp nat_cmp x.now y.now

-- The set has exactly these names.
abbrev pub HoldsNames : BTreeSet (Bor (List ℕ)) → List (List ℕ) → Type 0
HoldsNames set names = (x : Bor (List ℕ)) → contains order set x ≡ is_argument x.now names
