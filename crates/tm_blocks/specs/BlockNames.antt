-- The names of a template's blocks.
use Rattle.std.specs.Map.{keys_of}
use Rattle.std.specs.Prelude.{ℕ, List, map}
use Rattle.tm_syntax.specs.Named.{Named}
use Rattle.tm_scopes.specs.Pairs.{in_order}

-- the names as a table without values
abbrev pub names_alone : List (List ℕ) → Named (Unit {0})
names_alone names = map (λ (x : List ℕ). (x, tt)) names

-- the names in order, each once
abbrev pub by_text : List (List ℕ) → List (List ℕ)
by_text names = keys_of (in_order (names_alone names))
