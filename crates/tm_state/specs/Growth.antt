-- Values that grow where a name binds them.
use Rattle.std.specs.Prelude.{◌≡◌, ◌≤◌, ◌⊎◌, ℕ, List, Ok}
use Rattle.tm_definitions.specs.Arithmetic.{added}
use Rattle.tm_meaning.specs.World.{World, Good, set_member, store}
use Rattle.tm_values.specs.Val.{Val, val_size}

-- The name is bound to the sum, whose size is at most `most`.
pub record StoresSum (x : List ℕ) (left right : Val) (most : ℕ) (old new : World) : Type 0 where
  pub sum : Val
  pub added : added left right ≡ Ok sum
  pub within : val_size sum ≤ most
  pub stored : new ≡ store x sum old

-- The attribute of the namespace has become the sum, whose size is at most `most`.
pub record SetsSum (x : List ℕ) (object left right : Val) (most : ℕ) (old new : World) : Type 0 where
  pub sum : Val
  pub added : added left right ≡ Ok sum
  pub within : val_size sum ≤ most
  pub set : set_member x sum object old ≡ Good tt new

-- All is as it was, or the name is bound to a value.
abbrev pub MayBind : List ℕ → World → World → Type 0
MayBind x old new = (new ≡ old) ⊎ ((v : Val) × (new ≡ store x v old))
