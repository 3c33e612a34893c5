-- The surroundings of an instruction that a flow depends on.
use Rattle.std.specs.Prelude.{◌≡◌, ℕ, ℤ, List, Option, None, Some, Bool, true, false, not, ◌&&◌, ◌||◌, slice_get}
use Rattle.std.specs.Ordering.{int_eq}
use Rattle.tm_values.specs.Val.{Val, number}
use Rattle.tm_shapes.specs.declared.site.Site.{Site as Stood}
use Rattle.tm_shapes.specs.Accepts.{adds}
use Rattle.tm_shapes.specs.Flows.{Site, adds_one, in_row}

abbrev pub mark_of : Option Bool → Bool
mark_of (Some b) = b
mark_of None = false

-- whether a place is marked
abbrev pub is_marked : List Bool → ℕ → Bool
is_marked marks n = mark_of (slice_get marks n)

abbrev pub is_number : Val → ℤ → Bool
is_number (number z) n = int_eq z n
is_number v n = false

-- whether `LoadConst 1` and `Add` come next, and nothing jumps to them
abbrev pub is_row : Stood → Bool
is_row stood = adds_one stood.rest.now && not (is_marked stood.entered.now 1 || is_marked stood.entered.now 2)

-- whether it is between `Swap` and `Add`, and nothing jumps to it or to the `Add`
abbrev pub is_between : Stood → Bool
is_between stood =
    stood.is_after_swap && adds (slice_get stood.rest.now 0) && not (is_marked stood.entered.now 0 || is_marked stood.entered.now 1)

-- The program's site is this site.
pub record IsSite (stood : Stood) (at : Site) : Type 0 where
  pub place : stood.place ≡ at.place
  pub rest : stood.rest.now ≡ at.rest
  pub row : is_row stood ≡ in_row at
  pub between : is_between stood ≡ at.between
  pub reading : stood.reading ≡ at.reading
  pub returned : stood.returned ≡ at.returned
  pub enters : stood.enters ≡ at.enters
