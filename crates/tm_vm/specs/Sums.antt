-- Sums that are stored at once.
use Rattle.std.specs.Prelude.{◌≡◌, ◌+◌, ℕ, List, Ok, Some, slice_get}
use Rattle.tm_meaning.specs.Machine.{Config, Program}
use Rattle.tm_meaning.specs.World.{find_name, view_of}
use Rattle.tm_trees.specs.Instructions.instructions
use Rattle.tm_values.specs.Val.{Val}

-- The next instruction looks a name up, and it is bound to this value.
pub record IsFoundNext (p : Program) (c : Config) (v : Val) : Type 0 where
  pub name : List ℕ
  pub next : slice_get (p.code c.run.stream) (c.run.place + 1) ≡ Some (instructions.Lookup name)
  pub found : find_name (view_of p.host c.world) name ≡ Ok (Some v)
