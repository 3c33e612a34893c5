-- Slices.
use Rattle.std.specs.Prelude.{ℕ, ℤ, pos, false, cond, List, [], length, map as each, Option, None, Some, Ok, slice_index_or}
use Rattle.std.specs.Ordering.{int_eq}
use Rattle.std.specs.Str.{chars}
use Rattle.tm_values.specs.Defined.{refusal_of, unless}
use Rattle.tm_primitives.specs.Characters.{picked}
use Rattle.tm_primitives.specs.Places.{places_of}
use Rattle.tm_values.specs.Answer.{Answer, invalid}
use Rattle.tm_values.specs.Val.{Val, undefined, none, number, text, list, vals_of, list_of}
use Rattle.tm_values.specs.declared.undefined.UndefinedBehavior.{UndefinedBehavior}
use Rattle.tm_values.specs.declared.undefined.UndefinedUse.TheVariants as use_of

-- A bound is a whole number, or none if it is missing. A truth value doesn't count as a whole
-- number here.
abbrev pub bound_in : Val → Option (Option ℤ)
bound_in none = Some None
bound_in (number z) = Some (Some z)
bound_in _ = None

-- The step is 1 if it is missing, and never 0.
abbrev pub step_in : Val → Option ℤ
step_in none = Some (pos 1)
step_in (number z) = cond (int_eq z (pos 0)) None (Some z)
step_in _ = None

-- the start, the stop and the step of a slice
pub record Parts : Type 0 where
  pub start : Option ℤ
  pub stop : Option ℤ
  pub step : ℤ

abbrev pub parts_of : Option (Option ℤ) → Option (Option ℤ) → Option ℤ → Option Parts
parts_of (Some x) (Some y) (Some z) = Some (record { start = x; stop = y; step = z })
parts_of _ _ _ = None

-- the bounds and the step in three values, if they are valid
abbrev pub parts_in : Val → Val → Val → Option Parts
parts_in start stop step = parts_of (bound_in start) (bound_in stop) (step_in step)

-- the indices in a slice of n items
abbrev pub slice_places : ℕ → Parts → List ℕ
slice_places n p = places_of n p.start p.stop p.step

abbrev pub items_at : List Val → List ℕ → List Val
items_at xs places = each (λ p. slice_index_or xs p none) places

-- the list of the items at the indices
abbrev pub list_at : List Val → List ℕ → Answer Val
list_at xs places = Ok (list (vals_of (items_at xs places)))

-- The items of a list, or the characters of a text, not marked safe; the empty list for undefined
-- and none.
abbrev pub cut : Val → Parts → Answer Val
cut (list vs) p = list_at (list_of vs) (slice_places (length (list_of vs)) p)
cut (text s safe) p = Ok (text (picked (chars s) (slice_places (length (chars s)) p)) false)
cut (undefined silent) p = Ok (list (vals_of []))
cut none p = Ok (list (vals_of []))
cut _ p = invalid

abbrev pub cut_by : Val → Option Parts → Answer Val
cut_by v None = invalid
cut_by v (Some p) = cut v p

-- an undefined value is checked first, then the bounds and the step
abbrev pub sliced : UndefinedBehavior → Val → Val → Val → Val → Answer Val
sliced b v start stop step =
    unless (refusal_of b use_of.Slice v) (cut_by v (parts_in start stop step))
