-- The content of the loops and namespaces of a state.
use Rattle.std.specs.Prelude.{ℕ, ◌-◌, ◌^◌, List, [], Option, None, cond, ◌==◌, slice_get, option_and_then}
use Rattle.tm_values.specs.Val.{Val}

-- a loop: the index of its item (None before the first), the number of items, its depth, and the
-- items before and after
pub record LoopData : Type 0 where
  pub place : Option ℕ
  pub count : ℕ
  pub depth : ℕ
  pub previous : Option Val
  pub following : Option Val

-- a state's id, its namespaces as maps, and its loops
pub record RecordData : Type 0 where
  pub state : ℕ
  pub namespaces : List (List (Val × Val))
  pub loops : List LoopData

-- the namespace with this number, if the record is of this state
abbrev pub namespace_at : RecordData → ℕ → ℕ → Option (List (Val × Val))
namespace_at r state n = cond (r.state == state) (slice_get r.namespaces n) None

abbrev pub loop_at : RecordData → ℕ → ℕ → Option LoopData
loop_at r state n = cond (r.state == state) (slice_get r.loops n) None

-- the items before and after that of the loop with this number
abbrev pub previous_at : RecordData → ℕ → Option Val
previous_at r n = option_and_then (λ l. l.previous) (slice_get r.loops n)

abbrev pub following_at : RecordData → ℕ → Option Val
following_at r n = option_and_then (λ l. l.following) (slice_get r.loops n)

-- the id is one that no state has
abbrev pub no_records : RecordData
no_records = record { state = 2 ^ 64 - 1; namespaces = []; loops = [] }
