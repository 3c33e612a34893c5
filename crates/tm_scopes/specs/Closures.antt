-- Definitions for closures.
use Rattle.std.specs.Map.{keys_of}
use Rattle.std.specs.BTreeMap.{is_at}
use Rattle.std.specs.FinMap.Entries.{where_key}
use Rattle.std.specs.Prelude.{◌≡◌, ℕ, zero, suc, List, [], ◌∷◌, Option, None, Some, Bool, true, false, not, slice_get}
use Rattle.tm_syntax.specs.Named.{find, name_cmp, put}
use Rattle.tm_values.specs.Val.{Val}
use Rattle.tm_meaning.specs.World.{Bindings, put_at, read_closure}

abbrev pub names_of : Option Bindings → List (List ℕ)
names_of None = []
names_of (Some c) = keys_of c

-- the names bound in the closure of a number; none without a number or such a closure
abbrev pub names_read : List Bindings → Option ℕ → List (List ℕ)
names_read closures None = []
names_read closures (Some n) = names_of (slice_get closures n)

-- whether two names differ
abbrev pub is_other : List ℕ → List ℕ → Bool
is_other x y = not (is_at (name_cmp x) y)

-- the bindings of all other names
abbrev pub others_than : List ℕ → Bindings → Bindings
others_than x c = where_key name_cmp (is_other x) c

-- closures in which that of a number no longer binds the name
abbrev pub others_at : ℕ → List ℕ → List Bindings → List Bindings
others_at n x [] = []
others_at zero x (c ∷ cs) = others_than x c ∷ cs
others_at (suc n) x (c ∷ cs) = c ∷ others_at n x cs

-- The name was bound and now has this value, or nothing changed.
abbrev pub IsReplaced : Bool → List ℕ → Val → Bindings → Bindings → Type 0
IsReplaced true x v old new = new ≡ put x v old
IsReplaced false x v old new = (new ≡ old) × (find x old ≡ None)

-- The same for the closure of a number.
abbrev pub IsReplacedAt : Bool → ℕ → List ℕ → Val → List Bindings → List Bindings → Type 0
IsReplacedAt true n x v old new = new ≡ put_at n x v old
IsReplacedAt false n x v old new = (new ≡ old) × (read_closure old (Some n) x ≡ None)
