-- `range`: numbers from a start to a stop by a step.
use Rattle.std.specs.Prelude.{◌≡◌, ◌≢◌, ℕ, ℤ, pos, negsuc, ◌^◌, ◌<◌, nat_lt, Bool, true, false, not, ◌&&◌, cond, List, length, map as each}
use Rattle.std.specs.Prelude.{Option, None, Some, Ok, Err, slice_get, slice_index_or}
use Rattle.std.specs.List.{All, range_with_len}
use Rattle.std.specs.Option.{unwrap_or}
use Rattle.std.specs.Ordering.{int_eq}
use Rattle.tm_primitives.specs.Places.{count_before, step_to, IsBefore}
use Rattle.tm_values.specs.Answer.{Answer, refused, invalid}
use Rattle.tm_values.specs.Val.{Val, undefined, none, number, list, vals_of}
use Rattle.tm_values.specs.declared.error.ErrorKind.TheVariants as kind

-- ---- arguments

-- continues with a value that is Ok
abbrev pub given : {A B : Type 0} → Answer A → (A → Answer B) → Answer B
given (Ok x) answer = answer x
given (Err chain) answer = Err chain

-- an answer, if there are at most n arguments
abbrev pub at_most_arguments : {A : Type 0} → ℕ → List Val → Answer A → Answer A
at_most_arguments n vs answer = cond (nat_lt n (length vs)) (refused kind.TooManyArguments) answer

-- -2^63 <= z <= 2^63 - 1
abbrev pub in_64_bits : ℤ → Bool
in_64_bits (pos n) = nat_lt n (2 ^ 63)
in_64_bits (negsuc n) = nat_lt n (2 ^ 63)

-- A whole number of 64 bits. A truth value doesn't count as one here.
abbrev pub bound_in : Val → Option ℤ
bound_in (number z) = cond (in_64_bits z) (Some z) None
bound_in _ = None

abbrev pub or_invalid : {A : Type 0} → Option A → Answer A
or_invalid None = invalid
or_invalid (Some x) = Ok x

abbrev pub required_in : Option Val → Answer ℤ
required_in None = refused kind.MissingArgument
required_in (Some v) = or_invalid (bound_in v)

abbrev pub some_of : Option ℤ → Option (Option ℤ)
some_of None = None
some_of (Some z) = Some (Some z)

-- a later argument: undefined and none count as absent
abbrev pub later_in : Option Val → Answer (Option ℤ)
later_in None = Ok None
later_in (Some (undefined silent)) = Ok None
later_in (Some none) = Ok None
later_in (Some v) = or_invalid (some_of (bound_in v))

-- ---- numbers

-- the start, the stop and the step of a range
pub record Span : Type 0 where
  pub start : ℤ
  pub stop : ℤ
  pub step : ℤ

-- from 0 to the first bound, or from the first to the second bound
abbrev pub span_of : ℤ → Option ℤ → Option ℤ → Span
span_of a None z = record { start = pos 0; stop = a; step = unwrap_or z (pos 1) }
span_of a (Some b) z = record { start = a; stop = b; step = unwrap_or z (pos 1) }

abbrev pub count_of : Span → ℕ
count_of s = count_before s.step s.start s.stop

-- n numbers from x on, each z more than the one before
abbrev pub numbers_from : ℤ → ℤ → ℕ → List ℤ
numbers_from x z n = each (step_to x z) (range_with_len 0 n)

-- the numbers from the start on that are before the stop
abbrev pub numbers_of : Span → List ℤ
numbers_of s = numbers_from s.start s.step (count_of s)

abbrev pub number_list : List ℤ → Val
number_list zs = list (vals_of (each number zs))

-- the step isn't 0, and there are at most 100000 numbers
abbrev pub is_served : Span → Bool
is_served s = not (int_eq s.step (pos 0)) && not (nat_lt 100000 (count_of s))

abbrev pub served : Bool → Span → Answer Val
served false s = invalid
served true s = Ok (number_list (numbers_of s))

abbrev pub ranged : Span → Answer Val
ranged s = served (is_served s) s

-- the arguments are checked from left to right, then their number, and then the size of the range
abbrev pub range_of : List Val → Answer Val
range_of vs =
    given (required_in (slice_get vs 0)) (λ a.
    given (later_in (slice_get vs 1)) (λ b.
    given (later_in (slice_get vs 2)) (λ z. at_most_arguments 3 vs (ranged (span_of a b z)))))

-- ---- the laws

-- number k is the start plus k steps
abbrev pub AreStepped : Type 0
AreStepped =
    (s : Span) (k : ℕ) (d : ℤ) → k < length (numbers_of s)
    → slice_index_or (numbers_of s) k d ≡ step_to s.start s.step k

-- each number is before the stop
abbrev pub StandBefore : Type 0
StandBefore = (s : Span) → s.step ≢ pos 0 → All (λ x. IsBefore s.step x s.stop) (numbers_of s)

-- and the number after the last one isn't
abbrev pub LeaveNoneOut : Type 0
LeaveNoneOut =
    (s : Span) → s.step ≢ pos 0
    → IsBefore s.step (step_to s.start s.step (length (numbers_of s))) s.stop → ⊥
