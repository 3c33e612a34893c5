-- Definitions for scopes.
use Rattle.std.specs.Map.{keys_of}
use Rattle.std.specs.Prelude.{◌≡◌, ℕ, List, [], ◌∷◌, filter, Bool, true, false}
use Rattle.tm_values.specs.declared.error.ErrorKind.{ErrorKind}
use Rattle.tm_values.specs.declared.error.ErrorKind.TheVariants.{InvalidOperation, OutOfMemory}
use Rattle.tm_meaning.specs.World.{Bindings, Scope, Scopes, is_exported}
use Rattle.tm_scopes.specs.Pairs.{in_order}

-- one scope, at the outermost depth
abbrev pub one_scope : Scope → Scopes
one_scope scope = record { frames = scope ∷ []; outer = 0 }

-- Why a scope wasn't pushed: it is over the limit, or it isn't and memory ran out.
abbrev pub PushFails : Bool → List ErrorKind → Type 0
PushFails false chain = chain ≡ InvalidOperation ∷ []
PushFails true chain = chain ≡ OutOfMemory ∷ []

-- the names that a scope exports, ordered as its locals are, by name
abbrev pub exported_by : Scope → List (List ℕ)
exported_by s = filter is_exported (keys_of s.locals)

-- the names that unordered pairs export
abbrev pub exported_among : Bindings → List (List ℕ)
exported_among ps = filter is_exported (keys_of (in_order ps))

-- the names that the outermost scope exports; none if there is no scope
abbrev pub exported_of : List Scope → List (List ℕ)
exported_of [] = []
exported_of (s ∷ []) = exported_by s
exported_of (s ∷ t ∷ ss) = exported_of (t ∷ ss)
