-- The names of globals.
use Rattle.std.specs.Map.{keys_of}
use Rattle.std.specs.Prelude.{◌≡◌, ℕ, List}
use Rattle.tm_meaning.specs.World.{Bindings}
use Rattle.tm_scopes.specs.Places.{AreOrdered}

-- These are the names of the values, and they ascend.
pub record AreNamesOf (names : List (List ℕ)) (values : Bindings) : Type 0 where
  pub names_are : names ≡ keys_of values
  pub ordered : AreOrdered values
