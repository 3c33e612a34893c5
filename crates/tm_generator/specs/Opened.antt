-- The code of a call in two parts, between which a further argument is pushed: the arguments with
-- the last rows open, and the ends of these rows with the call.
use Rattle.std.specs.Prelude.{ℕ, ◌+◌, List, [], ◌∷◌, Bool, true, false, Option}
use Rattle.tm_trees.specs.Instructions.{Instruction}
use Rattle.tm_trees.specs.Instructions.instructions as i
use Rattle.tm_trees.specs.Trees.{Expr, Call', Row_of-Argument, no_argument, argument, Row_of-Keyword, no_keyword, keyword_and, Row_of-Step, no_step}
use Rattle.tm_trees.specs.Trees.{step, Step, Apply', Called}
use Rattle.tm_syntax.specs.Forms.{chained}
use Rattle.tm_syntax.specs.Fragments.{Fragment, straight, ◌⨾◌}
use Rattle.tm_syntax.specs.Code.{rows_of, list_of_row, has_spread, row_after, lists_at, has_spread_keyword, keywords_after, RowEnd}
use Rattle.tm_syntax.specs.Code.{count_maps, merged_code, merged_count, count_by, listed_code, keywords_code, expr_code, step_code}
use Rattle.tm_syntax.specs.Code.{application_code}
use Rattle.tm_generator.specs.declared.passing.Rows.{Rows}
pub use Rattle.tm_generator.specs.declared.passing.OpenCall.{OpenCall}

-- ---------------------------------------------------------------- rows
-- the code of positional arguments after a row of `before` values, without the end of the last row
abbrev pub listing_code : {n : _} → ℕ → Row_of-Argument n → Fragment
listing_code before no_argument = straight []
listing_code before (argument a rest) = listed_code before a ⨾ listing_code (row_after before a) rest

abbrev pub lists_ended : {n : _} → ℕ → Row_of-Argument n → ℕ
lists_ended before no_argument = 0
lists_ended before (argument a rest) = lists_at before a + lists_ended (row_after before a) rest

abbrev pub list_open : {n : _} → ℕ → Row_of-Argument n → ℕ
list_open before no_argument = before
list_open before (argument a rest) = list_open (row_after before a) rest

-- the same for keyword arguments
abbrev pub no_end : RowEnd
no_end = record { maps = λ n. 0; code = λ n. straight [] }

abbrev pub map_open : {n : _} → ℕ → Row_of-Keyword n → ℕ
map_open before no_keyword = before
map_open before (keyword_and k rest) = map_open (keywords_after before k) rest

abbrev pub lists_of : {n : _} → ℕ → Row_of-Argument n → Rows
lists_of before given = record { ended = lists_ended before given; pending = list_open before given }

abbrev pub maps_of : {n : _} → ℕ → Row_of-Keyword n → Rows
maps_of before named = record { ended = count_maps no_end before named; pending = map_open before named }

-- ---------------------------------------------------------------- calls
-- a call with `before` values under its arguments
abbrev pub opened_call : {n m : _} → ℕ → Row_of-Argument n → Row_of-Keyword m → OpenCall
opened_call before given named = record {
  lists = lists_of before given;
  maps = maps_of 0 named;
  spreads = has_spread given;
  merges = has_spread_keyword named;
}

abbrev pub open_code : {n m : _} → ℕ → Row_of-Argument n → Row_of-Keyword m → Fragment
open_code before given named = listing_code before given ⨾ keywords_code no_end 0 named

-- a call of the topmost value without further arguments
abbrev pub called_with_none : OpenCall
called_with_none = record {
  lists = record { ended = 0; pending = 1 };
  maps = record { ended = 0; pending = 0 };
  spreads = false;
  merges = false;
}

-- with one more keyword argument
abbrev pub with_name : OpenCall → OpenCall
with_name call = record call { maps = record { ended = call.maps.ended; pending = call.maps.pending + 1 } }

-- the numbers of maps and of values, if the last row of keyword arguments has this end
abbrev pub maps_in : RowEnd → OpenCall → ℕ
maps_in end call = call.maps.ended + end.maps call.maps.pending

abbrev pub values_in : RowEnd → OpenCall → ℕ
values_in end call = call.lists.pending + merged_count call.merges (maps_in end call)

-- if an argument is spread, the code that unpacks the lists that ended, and the `n` values of the
-- last row
abbrev pub unpacked_code : Bool → ℕ → ℕ → Fragment
unpacked_code false ended n = straight []
unpacked_code true ended n = straight (list_of_row n) ⨾ straight (i.UnpackLists (ended + rows_of n) ∷ [])

abbrev pub ending : RowEnd → OpenCall → Fragment
ending end call = end.code call.maps.pending ⨾ straight (merged_code call.merges (maps_in end call))
    ⨾ unpacked_code call.spreads call.lists.ended (values_in end call)

-- the number of values passed; none if it is on top of the stack
abbrev pub ending_count : RowEnd → OpenCall → Option ℕ
ending_count end call = count_by call.spreads (values_in end call)

-- ---------------------------------------------------------------- expressions that are calls
abbrev pub step_open : Step → Fragment
step_open (Apply' k x _ given _ named) = open_code 1 given named
step_open (Called _ given _ named) = open_code 1 given named
step_open s = step_code s

abbrev pub step_call : Step → OpenCall
step_call (Apply' k x _ given _ named) = opened_call 1 given named
step_call (Called _ given _ named) = opened_call 1 given named
step_call s = called_with_none

abbrev pub step_end : Step → Option ℕ → List Instruction
step_end (Apply' k x _ given _ named) n = application_code k x n
step_end s n = i.CallObject n ∷ []

-- steps, the last of which is the call
abbrev pub steps_open : {n : _} → Row_of-Step n → Fragment
steps_open no_step = straight []
steps_open (step s no_step) = step_open s
steps_open (step s (step t more)) = step_code s ⨾ steps_open (step t more)

abbrev pub steps_call : {n : _} → Row_of-Step n → OpenCall
steps_call no_step = called_with_none
steps_call (step s no_step) = step_call s
steps_call (step s (step t more)) = steps_call (step t more)

abbrev pub steps_end : {n : _} → Row_of-Step n → Option ℕ → List Instruction
steps_end no_step n = i.CallObject n ∷ []
steps_end (step s no_step) n = step_end s n
steps_end (step s (step t more)) n = steps_end (step t more) n

abbrev pub call_open : Expr → Fragment
call_open (Call' f _ given _ named) = open_code 0 given named
call_open (chained a _ ss) = expr_code a ⨾ steps_open ss
call_open e = expr_code e

abbrev pub call_of : Expr → OpenCall
call_of (Call' f _ given _ named) = opened_call 0 given named
call_of (chained a _ ss) = steps_call ss
call_of e = called_with_none

abbrev pub call_end : Expr → Option ℕ → List Instruction
call_end (Call' f _ given _ named) n = i.CallFunction f n ∷ []
call_end (chained a _ ss) n = steps_end ss n
call_end e n = i.CallObject n ∷ []
