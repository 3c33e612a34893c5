-- Pages that spread arguments, and that call the values of expressions.
use Rattle.std.specs.Prelude.{ℕ, ◌+◌, List, [], ◌∷◌, codes, pos}
use Rattle.tm_values.specs.Val.{Val, number, function}
use Rattle.tm_trees.specs.Trees.{Expr, Map', Call', no_argument, argument, no_keyword, keyword_and, no_pair, no_step, step, Apply', Called, EmitExpr}
use Rattle.tm_trees.specs.Trees.applications
use Rattle.tm_syntax.specs.Forms.{chained, plain, spread, keyword, spread_keywords, with_pair, item}
use Rattle.tm_meaning.specs.World.{Object, callers, languages}
use Rattle.tm_meaning.specs.declared.reply.Reply.TheVariants.{Value as gives}
use Rattle.tm_meaning.specs.declared.function.GlobalFunction.TheVariants as own
use Rattle.tm_rows.specs.Rows.{Page, page, nothing, one, named, literal, literal_number, and_one}
use Rattle.tm_rows.specs.LoopRows.{numbers, alone_in_list}
use Rattle.tm_rows.specs.CallRows.{answers, one_named}
use Rattle.tm_rows.specs.FilterRows.{filtering}

abbrev pub sum_of : List Val → ℕ
sum_of (number (pos n) ∷ vs) = n + sum_of vs
sum_of _ = 0

-- the sum of all arguments
abbrev pub sum : Object
sum vs view = answers (gives (number (pos (sum_of vs))))

abbrev pub summing : Expr → Page
summing e = record (page (one (EmitExpr e)) nothing) {
  globals = (codes "dict", function 1) ∷ (codes "namespace", function 2) ∷ (codes "range", function 3) ∷ (codes "sum", function 0) ∷ [];
  functions = callers sum ∷ languages own.Dict ∷ languages own.Namespace ∷ languages own.Range ∷ [];
}

abbrev pub just : ℕ → Expr
just n = alone_in_list (literal_number n)

-- {{ sum(*[1], 2, *[3, 4]) }}
abbrev pub sum_of_lists : Page
sum_of_lists = summing (Call' (codes "sum") (tt ∷ tt ∷ tt ∷ []) (argument (spread (just 1))
    (argument (plain (literal_number 2)) (argument (spread (numbers 3 4)) no_argument))) [] no_keyword)

-- {{ sum(1, *[2]) }}
abbrev pub sum_of_both : Page
sum_of_both = summing (Call' (codes "sum") (tt ∷ tt ∷ []) (argument (plain (literal_number 1))
    (argument (spread (just 2)) no_argument)) [] no_keyword)

-- {{ sum(*e) }}
abbrev pub sum_of_items : Expr → Page
sum_of_items e = summing (Call' (codes "sum") (tt ∷ []) (argument (spread e) no_argument) [] no_keyword)

-- {{ 1|second(*["b"]) }}
abbrev pub spread_to_filter : Page
spread_to_filter = filtering (and_one (literal_number 1) (Apply' applications.Filter (codes "second") (tt ∷ [])
    (argument (spread (alone_in_list (literal (codes "b")))) no_argument) [] no_keyword))

-- {"a": n}, with this key
abbrev pub map_of : List ℕ → ℕ → Expr
map_of k n = Map' (tt ∷ []) (with_pair (literal k) (literal_number n) no_pair)

-- {{ dict(**{"a": 1}, **{"a": 2}, b=3) }}
abbrev pub dict_of_maps : Page
dict_of_maps = summing (Call' (codes "dict") [] no_argument (tt ∷ tt ∷ tt ∷ []) (keyword_and (spread_keywords (map_of (codes "a") 1))
    (keyword_and (spread_keywords (map_of (codes "a") 2)) (keyword_and (keyword (codes "b") (literal_number 3)) no_keyword))))

-- {{ dict(a=1, **{"b": 2}, c=3) }}
abbrev pub dict_between : Page
dict_between = summing (Call' (codes "dict") [] no_argument (tt ∷ tt ∷ tt ∷ []) (keyword_and (keyword (codes "a") (literal_number 1))
    (keyword_and (spread_keywords (map_of (codes "b") 2)) (keyword_and (keyword (codes "c") (literal_number 3)) no_keyword))))

-- {{ dict(**e) }}
abbrev pub dict_of_pairs : Expr → Page
dict_of_pairs e = summing (Call' (codes "dict") [] no_argument (tt ∷ []) (keyword_and (spread_keywords e) no_keyword))

-- {{ range(*[1], **{}) }}
abbrev pub range_of_both : Page
range_of_both = summing (Call' (codes "range") (tt ∷ []) (argument (spread (just 1)) no_argument)
    (tt ∷ []) (keyword_and (spread_keywords (Map' [] no_pair)) no_keyword))

-- namespace(z=1)
abbrev pub namespace_of_one : Expr
namespace_of_one = one_named (codes "namespace") (codes "z") (literal_number 1)

-- {{ [sum][0](1, 2) }}
abbrev pub called_item : Page
called_item = summing (chained (alone_in_list (named (codes "sum"))) (tt ∷ tt ∷ []) (step (item (literal_number 0))
    (step (Called (tt ∷ tt ∷ []) (argument (plain (literal_number 1)) (argument (plain (literal_number 2)) no_argument)) [] no_keyword)
    no_step)))

-- {{ sum(1)(2) }}
abbrev pub called_number : Page
called_number = summing (and_one (Call' (codes "sum") (tt ∷ []) (argument (plain (literal_number 1)) no_argument) [] no_keyword)
    (Called (tt ∷ []) (argument (plain (literal_number 2)) no_argument) [] no_keyword))

-- {{ "x"() }}
abbrev pub called_text : Page
called_text = summing (and_one (literal (codes "x")) (Called [] no_argument [] no_keyword))
