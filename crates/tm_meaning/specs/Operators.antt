-- The results of operators, member look-ups and the arguments of calls.
use Rattle.std.specs.Prelude.{ℕ, List, [], ◌∷◌, ◌++◌, Bool, true, false, not}
use Rattle.std.specs.Result.{result_map_both}
use Rattle.tm_values.specs.Answer.{Answer}
use Rattle.tm_values.specs.Map.{put_all}
use Rattle.tm_values.specs.Records.{RecordData}
use Rattle.tm_values.specs.Val.{Val, boolean, list, map, keywords, vals_of, pairs_of}
use Rattle.tm_values.specs.declared.undefined.UndefinedBehavior.{UndefinedBehavior}
use Rattle.tm_definitions.specs.Arithmetic as arithmetic
use Rattle.tm_definitions.specs.Truth.{truth_of}
use Rattle.tm_definitions.specs.Comparison.{compared}
use Rattle.tm_definitions.specs.Concatenation.{concatenated}
use Rattle.tm_definitions.specs.Containment.{contained}
use Rattle.tm_definitions.specs.Spread.{items_of_all, merged}
use Rattle.tm_definitions.specs.Members.{attribute_of, item_of}
use Rattle.tm_definitions.specs.Slices.{sliced}
use Rattle.tm_definitions.specs.declared.comparison.ComparisonOperator.TheVariants as comparison
use Rattle.tm_trees.specs.Trees.{UnaryOperator, BinaryOperator, Row_of-Argument, Row_of-Keyword, Application}
use Rattle.tm_trees.specs.Trees.unaries
use Rattle.tm_trees.specs.Trees.binaries
use Rattle.tm_trees.specs.Trees.applications
use Rattle.tm_syntax.specs.Code.{has_spread, has_spread_keyword}
use Rattle.tm_meaning.specs.World.{World, HostValue, Res, Good, bind, answered, ticked}
use Rattle.tm_meaning.specs.World.{records_of}

-- ---------------------------------------------------------------- operators
abbrev pub truth : HostValue → Val → World → Res Bool
truth host v w = answered (truth_of host.undefined v) w

abbrev pub as_value : Answer Bool → Answer Val
as_value answer = result_map_both boolean (λ e. e) answer

abbrev pub negated : Answer Bool → Answer Val
negated answer = result_map_both (λ b. boolean (not b)) (λ e. e) answer

-- the result of a prefix operator
abbrev pub result_of_unary : UnaryOperator → UndefinedBehavior → Val → Answer Val
result_of_unary unaries.Not b v = negated (truth_of b v)
result_of_unary unaries.Negate b v = arithmetic.negated v

abbrev pub applied_unary : HostValue → UnaryOperator → Val → World → Res Val
applied_unary host op v w = answered (result_of_unary op host.undefined v) w

-- the result of a binary operator
abbrev pub result_of : BinaryOperator → UndefinedBehavior → RecordData → Val → Val → Answer Val
result_of binaries.Equal b r x y = as_value (compared comparison.Equal b x y)
result_of binaries.NotEqual b r x y = as_value (compared comparison.NotEqual b x y)
result_of binaries.Less b r x y = as_value (compared comparison.Less b x y)
result_of binaries.LessOrEqual b r x y = as_value (compared comparison.LessOrEqual b x y)
result_of binaries.Greater b r x y = as_value (compared comparison.Greater b x y)
result_of binaries.GreaterOrEqual b r x y = as_value (compared comparison.GreaterOrEqual b x y)
result_of binaries.In b r x y = as_value (contained b r y x)
result_of binaries.NotIn b r x y = negated (contained b r y x)
result_of binaries.Add b r x y = arithmetic.added x y
result_of binaries.Subtract b r x y = arithmetic.subtracted x y
result_of binaries.Concatenate b r x y = concatenated b r x y
result_of binaries.Multiply b r x y = arithmetic.multiplied x y
result_of binaries.Divide b r x y = arithmetic.divided x y
result_of binaries.FloorDivide b r x y = arithmetic.floor_divided x y
result_of binaries.Remainder b r x y = arithmetic.remaining x y
result_of binaries.Power b r x y = arithmetic.raised x y

abbrev pub operated : HostValue → BinaryOperator → Val → Val → World → Res Val
operated host op x y w = answered (result_of op host.undefined (records_of w) x y) w

-- the same in an expression, where `not in` is `in` and then `not`, which is charged too
abbrev pub applied_binary : HostValue → BinaryOperator → Val → Val → World → Res Val
applied_binary host binaries.NotIn x y w =
    bind (operated host binaries.In x y w) (λ v world1. ticked world1 (λ world2. applied_unary host unaries.Not v world2))
applied_binary host op x y w = operated host op x y w

abbrev pub attribute : HostValue → Val → List ℕ → World → Res Val
attribute host v x w = answered (attribute_of host.undefined (records_of w) v x) w

abbrev pub item_at : HostValue → Val → Val → World → Res Val
item_at host v k w = answered (item_of host.undefined (records_of w) v k) w

-- from a start to a stop by a step
abbrev pub slice_of : HostValue → Val → Val → Val → Val → World → Res Val
slice_of host v start stop by w = answered (sliced host.undefined v start stop by) w

abbrev pub list_of_values : List Val → Val
list_of_values vs = list (vals_of vs)

-- of equal keys, the first spelling and the last value
abbrev pub map_of_pairs : List (Val × Val) → Val
map_of_pairs ps = map (pairs_of (put_all ps))

-- the same for keyword arguments
abbrev pub keyword_map : List (Val × Val) → Val
keyword_map ps = keywords (pairs_of (put_all ps))

-- ---------------------------------------------------------------- arguments
-- the keyword map of the pairs of all spread maps
abbrev pub merged_values : HostValue → List Val → World → Res Val
merged_values host vs w =
    bind (answered (merged host.undefined (records_of w) vs) w) (λ ps world1. Good (keywords (pairs_of ps)) world1)

-- the items of all lists
abbrev pub items_of_lists : HostValue → List Val → World → Res (List Val)
items_of_lists host vs w = answered (items_of_all host.undefined (records_of w) vs) w

-- A row of values becomes a list, and a row of names with their values becomes a keyword map. That
-- is charged, unless the row is empty.
abbrev pub listed : List Val → World → Res (List Val)
listed [] w = Good [] w
listed (v ∷ vs) w = ticked w (λ world1. Good (list_of_values (v ∷ vs) ∷ []) world1)

abbrev pub mapped : List (Val × Val) → World → Res (List Val)
mapped [] w = Good [] w
mapped (p ∷ ps) w = ticked w (λ world1. Good (keyword_map (p ∷ ps) ∷ []) world1)

-- if one was spread, maps become one, which is charged
abbrev pub merged_by : Bool → HostValue → List Val → World → Res (List Val)
merged_by false host ms w = Good ms w
merged_by true host ms w = ticked w (λ world1. bind (merged_values host ms world1) (λ v world2. Good (v ∷ []) world2))

-- Evaluates positional arguments before keyword arguments.
abbrev pub both_passed : List Val → (World → Res (List Val)) → (World → Res (List Val)) → World → Res (List Val)
both_passed before by_place by_name w =
    bind (by_place w) (λ vs world1. bind (by_name world1) (λ ks world2. Good (before ++ (vs ++ ks)) world2))

-- The arguments of a call, above the values `before`: one by one, or, if some are spread, the items
-- of lists, which is charged.
abbrev pub passed_by : Bool → HostValue → List Val → (World → Res (List Val)) → (World → Res (List Val)) →
    ((World → Res (List Val)) → World → Res (List Val)) → World → Res (List Val)
passed_by false host before by_place by_name lists w = both_passed before by_place by_name w
passed_by true host before by_place by_name lists w =
    bind (lists by_name w) (λ ls world1. ticked world1 (λ world2. items_of_lists host ls world2))

abbrev pub named_by : {n : _} → HostValue → Row_of-Keyword n → (World → Res (List Val)) → World → Res (List Val)
named_by host named maps w = bind (maps w) (λ ms world1. merged_by (has_spread_keyword named) host ms world1)

abbrev pub passed : {n m : _} → HostValue → List Val → Row_of-Argument n → Row_of-Keyword m → (World → Res (List Val)) →
    (World → Res (List Val)) → ((World → Res (List Val)) → World → Res (List Val)) → World → Res (List Val)
passed host before given named by_place maps lists w =
    passed_by (has_spread given) host before by_place (named_by host named maps) lists w

-- negates the result of a negated test, which is charged
abbrev pub turned : HostValue → Application → Val → World → Res Val
turned host applications.Method v w = Good v w
turned host applications.Filter v w = Good v w
turned host applications.Test v w = Good v w
turned host applications.NegatedTest v w = ticked w (λ world1. applied_unary host unaries.Not v world1)
