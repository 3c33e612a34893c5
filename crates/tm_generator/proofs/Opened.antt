-- The two parts of a call make its code.
use Rattle.std.proofs.Common.{◌≡◌, ℕ, suc, ◌+◌, List, [], ◌∷◌, ◌++◌, Bool, Option, Some, length, refl, sym, ap, ◌∙◌, arith}
use Rattle.std.specs.Prelude.{true, false, codes}
use denote.Hole.Carrier.{hidden}
use Rattle.tm_values.specs.Val.{text}
use Rattle.tm_trees.specs.Trees.{Argument, Expr, Var, Const, List', Tuple', Map', Call', SelfBlock, Row_of-Argument, no_argument, argument}
use Rattle.tm_trees.specs.Trees.{hidden_expr, steps, steps_shape}
use Rattle.tm_trees.specs.Trees.{Row_of-Keyword, no_keyword, keyword_and, Row_of-Step, no_step, step, Step, Attribute, Apply', Called, Keyword}
use Rattle.tm_trees.specs.Trees.{arguments, keywords}
use Rattle.tm_trees.specs.Trees.expr_forms as e
use Rattle.tm_trees.specs.Instructions.{Instruction}
use Rattle.tm_trees.specs.Instructions.instructions as i
use Rattle.tm_syntax.specs.Forms.{chained, unary, conditional, plain, spread, item, slice, binary, compare, and_then, or_else}
use Rattle.tm_syntax.specs.Fragments.{Fragment, straight, ◌⨾◌}
use Rattle.tm_syntax.specs.Code.{rows_of, list_of_row, map_of_row, count, has_spread, row_after, count_lists}
use Rattle.tm_syntax.specs.Code.{keywords_after, count_maps, merged_code, merged_count, together, count_by, passed_count}
use Rattle.tm_syntax.specs.Code.{RowEnd, row_end, caller_end, has_spread_keyword, passing_by, merging, arguments_code, listed_code, lists_code}
use Rattle.tm_syntax.specs.Code.{keyword_code, keywords_code, passing_code, step_code, expr_code, steps_code, application_code, step_call_code, steps_call_code, call_code}
use Rattle.tm_generator.specs.Building.{Builder, put, with_one}
use Rattle.tm_generator.specs.Opened.{OpenCall, no_end, listing_code, lists_ended, list_open, map_open, open_code, opened_call, with_name}
use Rattle.tm_generator.specs.Opened.{called_with_none, maps_in, values_in, unpacked_code, ending, ending_count, step_open, step_call, step_end}
use Rattle.tm_generator.specs.Opened.{steps_open, steps_call, steps_end, call_open, call_of, call_end}

-- ---------------------------------------------------------------- keywords
keywords-open : {n : _} (end : RowEnd) (before : ℕ) (ks : Row_of-Keyword n) (b : Builder) →
    put (keywords_code end before ks) b ≡ put (end.code (map_open before ks)) (put (keywords_code no_end before ks) b)
keywords-open end before no_keyword b = refl
keywords-open end before (keyword_and k rest) b = keywords-open end (keywords_after before k) rest (put (keyword_code before k) b)

maps-open : {n : _} (end : RowEnd) (before : ℕ) (ks : Row_of-Keyword n) →
    count_maps end before ks ≡ count_maps no_end before ks + end.maps (map_open before ks)
maps-open end before no_keyword = omega (arith)
maps-open end before (keyword_and k rest) = omega (arith, maps-open end (keywords_after before k) rest)

-- ---------------------------------------------------------------- arguments
lists-open : {n : _} (before : ℕ) (xs : Row_of-Argument n) (m : ℕ) (c : Fragment) (b : Builder) →
    put (lists_code before xs m c) b ≡ put (straight (list_of_row (list_open before xs + m))) (put c (put (listing_code before xs) b))
lists-open before no_argument m c b = refl
lists-open before (argument a rest) m c b = lists-open (row_after before a) rest m c (put (listed_code before a) b)

lists-ended : {n : _} (before : ℕ) (xs : Row_of-Argument n) (m : ℕ) →
    count_lists before xs m ≡ lists_ended before xs + rows_of (list_open before xs + m)
lists-ended before no_argument m = omega (arith)
lists-ended before (argument a rest) m = omega (arith, lists-ended (row_after before a) rest m)

-- if no argument is spread, there is one row
one_row : {n : _} (before : ℕ) (xs : Row_of-Argument n) → has_spread xs ≡ false → list_open before xs ≡ count xs + before
one_row before no_argument h = omega (arith)
one_row before (argument (plain x) rest) h = omega (arith, one_row (before + 1) rest h)
one_row before (argument (spread x) rest) h = absurd (cc h)

one_by_one : {n : _} (before : ℕ) (xs : Row_of-Argument n) (b : Builder) → has_spread xs ≡ false →
    put (arguments_code xs) b ≡ put (listing_code before xs) b
one_by_one before no_argument b h = refl
one_by_one before (argument (plain x) rest) b h = one_by_one (before + 1) rest (put (listed_code before (plain x)) b) h
one_by_one before (argument (spread x) rest) b h = absurd (cc h)

-- ---------------------------------------------------------------- what a call is passed
module _ {n m : _} (end : RowEnd) (before : ℕ) (given : Row_of-Argument n) (named : Row_of-Keyword m) where
  abbrev call : OpenCall
  call = opened_call before given named

  same_maps : count_maps end 0 named ≡ maps_in end call
  same_maps = maps-open end 0 named

  same_values : list_open before given + together end named ≡ values_in end call
  same_values = ap (λ j. list_open before given + merged_count (has_spread_keyword named) j) same_maps

  named_put : (b : Builder) → put (merging end named (keywords_code end 0 named)) b
      ≡ put (straight (merged_code (has_spread_keyword named) (maps_in end call))) (put (end.code (map_open 0 named)) (put (keywords_code no_end 0 named) b))
  named_put b = ap {B = Builder} (λ d. put (straight (merged_code (has_spread_keyword named) (count_maps end 0 named))) d) (keywords-open end 0 named b)
      ∙ ap {B = Builder} (λ j. put (straight (merged_code (has_spread_keyword named) j)) (put (end.code (map_open 0 named)) (put (keywords_code no_end 0 named) b))) same_maps

  -- the arguments, with the end of the last row of keyword arguments and the merged maps
  abbrev rows_put : Builder → Builder
  rows_put b = put (straight (merged_code (has_spread_keyword named) (maps_in end call))) (put (end.code (map_open 0 named))
      (put (keywords_code no_end 0 named) (put (listing_code before given) b)))

  abbrev passed : Bool → Fragment
  passed s = passing_by end s before given named (arguments_code given) (merging end named (keywords_code end 0 named))
      (λ by_name. lists_code before given (together end named) by_name)

  put-passed : (b : Builder) (s : Bool) → has_spread given ≡ s →
      put (passed s) b ≡ put (unpacked_code s (lists_ended before given) (values_in end call)) (rows_put b)
  put-passed b false h = named_put (put (arguments_code given) b)
      ∙ ap {B = Builder} (λ d. put (straight (merged_code (has_spread_keyword named) (maps_in end call)))
      (put (end.code (map_open 0 named)) (put (keywords_code no_end 0 named) d))) (one_by_one before given b h)
  put-passed b true h =
      let by_name = merging end named (keywords_code end 0 named) in
      let values = list_open before given + together end named in
      ap {B = Builder} (λ j. with_one (i.UnpackLists j) (put (lists_code before given (together end named) by_name) b))
      (lists-ended before given (together end named))
      ∙ ap {B = Builder} (λ d. with_one (i.UnpackLists (lists_ended before given + rows_of values)) d)
      (lists-open before given (together end named) by_name b)
      ∙ ap {B = Builder} (λ d. put (unpacked_code true (lists_ended before given) values) d) (named_put (put (listing_code before given) b))
      ∙ ap {B = Builder} (λ j. put (unpacked_code true (lists_ended before given) j) (rows_put b)) same_values

  pub passing-open : (b : Builder) →
      put (passing_code end before given named) b ≡ put (ending end call) (put (open_code before given named) b)
  passing-open b = put-passed b (has_spread given) refl

  counted : (s : Bool) → has_spread given ≡ s → count_by s (count given + together end named + before) ≡ count_by s (values_in end call)
  counted true h = refl
  counted false h = ap Some (omega (arith, one_row before given h, same_values))

  pub count-open : passed_count end before given named ≡ ending_count end call
  count-open = counted (has_spread given) refl

-- `caller` as the last keyword argument
one_more : (n : ℕ) → suc n ≡ n + 1
one_more n = omega (arith)

pub caller-end : (c : Fragment) (call : OpenCall) (b : Builder) → put (ending (caller_end c) call) b
    ≡ put (ending row_end (with_name call)) (put c (with_one (i.LoadConst (text (codes "caller") false)) b))
caller-end c call b =
    let name = with_one (i.LoadConst (text (codes "caller") false)) b in
    ap {A = ℕ} {B = Builder} (λ j. put (unpacked_code call.spreads call.lists.ended (call.lists.pending
    + merged_count call.merges (call.maps.ended + rows_of j)))
    (put (straight (merged_code call.merges (call.maps.ended + rows_of j))) (put (straight (map_of_row j)) (put c name))))
    (one_more call.maps.pending)

pub caller-count : (c : Fragment) (call : OpenCall) → ending_count (caller_end c) call ≡ ending_count row_end (with_name call)
caller-count c call =
    ap {A = ℕ} (λ j. count_by call.spreads (call.lists.pending + merged_count call.merges (call.maps.ended + rows_of j)))
    (one_more call.maps.pending)

-- ---------------------------------------------------------------- expressions that are calls
module _ (end : RowEnd) where
  -- The two parts make the whole code of a call.
  abbrev pub Parts : Fragment → (Option ℕ → List Instruction) → OpenCall → Fragment → Type 0
  Parts whole last call first = (b : Builder) →
      put whole b ≡ put (straight (last (ending_count end call))) (put (ending end call) (put first b))

  alone : (before : Fragment) → Parts (before ⨾ (end.code 0 ⨾ straight (i.CallObject (Some (end.maps 0 + 1)) ∷ [])))
      (λ n. i.CallObject n ∷ []) called_with_none before
  alone before b = ap {B = Builder} (λ j. with_one (i.CallObject (Some j)) (put (end.code 0) (put before b))) (omega (arith))

  passes : {n m : _} (before : ℕ) (given : Row_of-Argument n) (named : Row_of-Keyword m) (last : Option ℕ → List Instruction) →
      Parts (passing_code end before given named ⨾ straight (last (passed_count end before given named))) last
      (opened_call before given named) (open_code before given named)
  passes before given named last b =
      ap {B = Builder} (λ d. put (straight (last (passed_count end before given named))) d) (passing-open end before given named b)
      ∙ ap {B = Builder} (λ j. put (straight (last j)) (put (ending end (opened_call before given named)) (put (open_code before given named) b)))
      (count-open end before given named)

  step-parts : (s : Step) → Parts (step_call_code end s) (step_end s) (step_call s) (step_open s)
  step-parts (Attribute x) b1 = alone (step_code (Attribute x)) b1
  step-parts (item a) b1 = alone (step_code (item a)) b1
  step-parts (Apply' k x _ given _ named) b1 = passes 1 given named (application_code k x) b1
  step-parts (Called _ given _ named) b1 = passes 1 given named (λ n. i.CallObject n ∷ []) b1
  step-parts (slice a b c) b1 = alone (step_code (slice a b c)) b1
  step-parts (binary op a) b1 = alone (step_code (binary op a)) b1
  step-parts (compare op a _ cs) b1 = alone (step_code (compare op a _ cs)) b1
  step-parts (and_then a) b1 = alone (step_code (and_then a)) b1
  step-parts (or_else a) b1 = alone (step_code (or_else a)) b1

  steps-parts : {n : _} (ss : Row_of-Step n) → Parts (steps_call_code end ss) (steps_end ss) (steps_call ss) (steps_open ss)
  steps-parts no_step b = alone (straight []) b
  steps-parts (step s no_step) b = step-parts s b
  steps-parts (step s (step t more)) b = steps-parts (step t more) (put (step_code s) b)

  pub call-parts : (x : Expr) → Parts (call_code end x) (call_end x) (call_of x) (call_open x)
  call-parts (Var x) b = alone (expr_code (Var x)) b
  call-parts (Const v) b = alone (expr_code (Const v)) b
  call-parts (List' _ es) b = alone (expr_code (List' _ es)) b
  call-parts (Tuple' _ es) b = alone (expr_code (Tuple' _ es)) b
  call-parts (Map' _ ps) b = alone (expr_code (Map' _ ps)) b
  call-parts (Call' f _ given _ named) b = passes 0 given named (λ n. i.CallFunction f n ∷ []) b
  call-parts (SelfBlock x) b = alone (expr_code (SelfBlock x)) b
  call-parts (unary op a) b = alone (expr_code (unary op a)) b
  call-parts (chained a _ ss) b = steps-parts ss (put (expr_code a) b)
  call-parts (conditional a _ cs) b = alone (expr_code (conditional a _ cs)) b

-- ---------------------------------------------------------------- in the program's representation
module _ (n : ℕ) (xs : List Argument) (ks : List Keyword) (call : OpenCall) (is : call ≡ opened_call n (arguments xs) (keywords ks)) where
  pub made-passed : (b m1 m2 : Builder) → m1 ≡ put (open_code n (arguments xs) (keywords ks)) b → m2 ≡ put (ending row_end call) m1 →
      m2 ≡ put (passing_code row_end n (arguments xs) (keywords ks)) b
  made-passed b m1 m2 p q =
      q ∙ ap {A = OpenCall} {B = Builder} (λ j. put (ending row_end j) m1) is
      ∙ ap {B = Builder} (λ m. put (ending row_end (opened_call n (arguments xs) (keywords ks))) m) p
      ∙ sym (passing-open row_end n (arguments xs) (keywords ks) b)

  pub made-passed_count : (r : Option ℕ) → r ≡ ending_count row_end call → r ≡ passed_count row_end n (arguments xs) (keywords ks)
  made-passed_count r e = e ∙ ap {A = OpenCall} (λ j. ending_count row_end j) is ∙ sym (count-open row_end n (arguments xs) (keywords ks))

put-no_steps : (b : Builder) → put (steps_open (steps [])) b ≡ b
unfolding hidden steps steps_shape
put-no_steps b = refl

call-no_steps : steps_call (steps []) ≡ called_with_none
unfolding hidden steps steps_shape
call-no_steps = refl

end-no_steps : (n : Option ℕ) → steps_end (steps []) n ≡ i.CallObject n ∷ []
unfolding hidden steps steps_shape
end-no_steps n = refl

put-last_step : (before : List Step) (last : Step) (b : Builder) →
    put (steps_open (steps (before ++ last ∷ []))) b ≡ put (step_open last) (put (steps_code (steps before)) b)
unfolding hidden steps steps_shape
put-last_step [] last b = refl
put-last_step (s ∷ []) last b = refl
put-last_step (s ∷ t ∷ more) last b = put-last_step (t ∷ more) last (put (step_code s) b)

call-last_step : (before : List Step) (last : Step) → steps_call (steps (before ++ last ∷ [])) ≡ step_call last
unfolding hidden steps steps_shape
call-last_step [] last = refl
call-last_step (s ∷ []) last = refl
call-last_step (s ∷ t ∷ more) last = call-last_step (t ∷ more) last

end-last_step : (before : List Step) (last : Step) (n : Option ℕ) → steps_end (steps (before ++ last ∷ [])) n ≡ step_end last n
unfolding hidden steps steps_shape
end-last_step [] last n = refl
end-last_step (s ∷ []) last n = refl
end-last_step (s ∷ t ∷ more) last n = end-last_step (t ∷ more) last n

-- no steps, or steps with a last one
no_steps : (ss : List Step) → length ss ≡ 0 → ss ≡ []
no_steps [] e = refl
no_steps (s ∷ ss) e = absurd (omega (arith, e))

module _ (ss : List Step) (empty : length ss ≡ 0) where
  none : ss ≡ []
  none = no_steps ss empty

  pub none-put : (b : Builder) → b ≡ put (steps_open (steps ss)) b
  none-put b = sym (ap {B = Builder} (λ l. put (steps_open (steps l)) b) none ∙ put-no_steps b)

  pub none-call : called_with_none ≡ steps_call (steps ss)
  none-call = sym (ap {B = OpenCall} (λ l. steps_call (steps l)) none ∙ call-no_steps)

  pub none-end : (n : Option ℕ) → i.CallObject n ∷ [] ≡ steps_end (steps ss) n
  none-end n = sym (ap (λ l. steps_end (steps l) n) none ∙ end-no_steps n)

module _ (ss before : List Step) (last : Step) (whole : ss ≡ before ++ last ∷ []) where
  pub last-put : (b m1 m2 : Builder) → m1 ≡ put (steps_code (steps before)) b → m2 ≡ put (step_open last) m1 →
      m2 ≡ put (steps_open (steps ss)) b
  last-put b m1 m2 p q = q ∙ ap {B = Builder} (λ m. put (step_open last) m) p
      ∙ sym (ap {B = Builder} (λ l. put (steps_open (steps l)) b) whole ∙ put-last_step before last b)

  pub last-call : step_call last ≡ steps_call (steps ss)
  last-call = sym (ap {B = OpenCall} (λ l. steps_call (steps l)) whole ∙ call-last_step before last)

  pub last-end : (n : Option ℕ) → step_end last n ≡ steps_end (steps ss) n
  last-end n = sym (ap (λ l. steps_end (steps l) n) whole ∙ end-last_step before last n)

-- a value and the steps after it
chain-open : (b : Builder) (x : Expr) (ss : List Step) →
    put (call_open (e.Chain x ss)) b ≡ put (steps_open (steps ss)) (put (expr_code x) b)
unfolding hidden hidden_expr
chain-open b x ss = refl

pub chain-put : (b m1 m2 : Builder) (x : Expr) (ss : List Step) → m1 ≡ put (expr_code x) b → m2 ≡ put (steps_open (steps ss)) m1 →
    m2 ≡ put (call_open (e.Chain x ss)) b
chain-put b m1 m2 x ss p q = q ∙ ap {B = Builder} (λ m. put (steps_open (steps ss)) m) p ∙ sym (chain-open b x ss)

pub chain-call : (x : Expr) (ss : List Step) → call_of (e.Chain x ss) ≡ steps_call (steps ss)
unfolding hidden hidden_expr
chain-call x ss = refl

pub chain-end : (x : Expr) (ss : List Step) (n : Option ℕ) → call_end (e.Chain x ss) n ≡ steps_end (steps ss) n
unfolding hidden hidden_expr
chain-end x ss n = refl
