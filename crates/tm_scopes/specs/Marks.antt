-- Scopes whose names are in one list of pairs.
use Rattle.std.specs.BTreeMap.{BTreeMap, is_at}
use Rattle.std.specs.Map.{lookup}
use Rattle.std.specs.Prelude.{◌≡◌, ◌≤◌, ℕ, List, [], ◌∷◌, length, take, drop, Option, None, Some}
use Rattle.std.specs.declared.alloc.Global.{Global}
use Rattle.std.specs.declared.boxed.Box.{Box}
use Rattle.tm_syntax.specs.Hashed.{hashed_cmp}
use Rattle.tm_syntax.specs.Named.{Named, put}
use Rattle.tm_values.specs.Val.{Val}
use Rattle.tm_meaning.specs.World.{Bindings, Scope}
use Rattle.tm_scopes.specs.Pairs.{IsPlace, in_order}
use Rattle.tm_scopes.specs.declared.mark.ScopeMark.{ScopeMark}

-- how many names of a scope are searched one after the other
abbrev pub scanned : ℕ
scanned = 64

abbrev pub Index : Type 0
Index = Option (Box (BTreeMap (List ℕ) ℕ) Global)

-- the entries of an index, if there is one
abbrev pub entries_of : Index → Named ℕ
entries_of None = []
entries_of (Some index) = index.value.entries

abbrev pub index_of : ScopeMark → Named ℕ
index_of m = entries_of m.index

-- The index has the places of the names after the scanned ones, counted from the end of those.
abbrev pub IsIndex : Named ℕ → Bindings → Type 0
IsIndex index own = (x : List ℕ) → IsPlace x (drop scanned own) (lookup (is_at (hashed_cmp x)) index)

abbrev pub IsIndexed : ScopeMark → Bindings → Type 0
IsIndexed m own = IsIndex (index_of m) own

-- A scope's own pairs are those from its first place on; its frame has no names.
pub record IsMarked (m : ScopeMark) (all : Bindings) : Type 0 where
  pub within : m.first ≤ length all
  pub indexed : IsIndexed m (drop m.first all)
  pub bare : m.frame.locals ≡ []

-- a scope that has no pairs yet
pub record IsNew (first : ℕ) (frame : Scope) (m : ScopeMark) : Type 0 where
  pub from : m.first ≡ first
  pub with : m.frame ≡ frame
  pub empty : index_of m ≡ []
  pub bare : frame.locals ≡ []

-- Each scope is marked, innermost first: an outer one has the pairs before those of the scopes in
-- it, and no pair belongs to none.
abbrev pub AreMarked : List ScopeMark → Bindings → Type 0
AreMarked [] all = all ≡ []
AreMarked (m ∷ ms) all = IsMarked m all × AreMarked ms (take m.first all)

-- a scope with its names
abbrev pub scope_of : ScopeMark → Bindings → Scope
scope_of m all = record m.frame { locals = in_order (drop m.first all) }

-- the scopes, innermost first
abbrev pub framed : List ScopeMark → Bindings → List Scope
framed [] all = []
framed (m ∷ ms) all = scope_of m all ∷ framed ms (take m.first all)

-- The scope is still marked, only its index may differ, and the pairs before its own are the same.
pub record KeepsOthers (old new : ScopeMark) (before after : Bindings) : Type 0 where
  pub marked : IsMarked new after
  pub same : new ≡ record old { index = new.index }
  pub below : take new.first after ≡ take old.first before

-- The scope's own pairs bind the name to the value from here on.
abbrev pub Stores : List ℕ → Val → ScopeMark → Bindings → Bindings → Type 0
Stores x v m before after = in_order (drop m.first after) ≡ put x v (in_order (drop m.first before))

-- the place of the innermost scope's first pair
abbrev pub top_of : List ScopeMark → ℕ
top_of [] = 0
top_of (m ∷ ms) = m.first

-- The scopes own these pairs, and the innermost one's start at `top`.
pub record AreScopes (scopes : List ScopeMark) (all : Bindings) (top : ℕ) : Type 0 where
  pub marked : AreMarked scopes all
  pub at_top : top ≡ top_of scopes
