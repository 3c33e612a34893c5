-- Where a number on top counts more operands than there are, or none, the run is stuck.
use Rattle.std.proofs.Common.{◌≡◌, ℕ, ◌<◌, List, [], length, Option, Some, None, refl}
use Rattle.std.proofs.Common.{ap}
use Rattle.tm_values.specs.Val.{Val}
use Rattle.tm_meaning.specs.World.{World}
use Rattle.tm_meaning.specs.Machine.{Next, stuck}
use Rattle.tm_meaning.specs.Machine.{on_taken, take_n}
use Rattle.tm_meaning.specs.Instructions.{on_count}
use Rattle.tm_parts.proofs.Operands.{taken_too_many}

pub no_count : (o : Option ℕ) (us : List Val) (w : World) (f : List Val → List Val → Next) →
    ((n : ℕ) → o ≡ Some n → length us < n) → on_count o w (λ n. take_n n us w f) ≡ stuck w
no_count None us w f few = refl
no_count (Some n) us w f few = ap (λ t. on_taken t w f) (taken_too_many n [] us (few n refl))
