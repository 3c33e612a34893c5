-- Pages that show the results of operators, items and slices.
use Rattle.std.specs.Prelude.{ℕ}
use Rattle.tm_trees.specs.Trees.{BinaryOperator, Expr}
use Rattle.tm_trees.specs.Trees.unaries.{Negate}
use Rattle.tm_syntax.specs.Forms.{unary, binary, item, slice}
use Rattle.tm_rows.specs.Rows.{Page, nothing, shown, and_one, literal_number}
use Rattle.tm_rows.specs.LoopRows.{numbers}

-- {{ m op n }}
abbrev pub of_two : ℕ → BinaryOperator → ℕ → Page
of_two m op n = shown (and_one (literal_number m) (binary op (literal_number n))) nothing

-- {{ m op [1, 2] }}
abbrev pub of_list : ℕ → BinaryOperator → Page
of_list m op = shown (and_one (literal_number m) (binary op (numbers 1 2))) nothing

abbrev pub minus : ℕ → Expr
minus n = unary Negate (literal_number n)

-- {{ -n }}
abbrev pub negated : ℕ → Page
negated n = shown (minus n) nothing

-- {{ [m, n][k] }}
abbrev pub item_of_two : ℕ → ℕ → Expr → Page
item_of_two m n k = shown (and_one (numbers m n) (item k)) nothing

-- {{ [m, n][start:stop:by] }}
abbrev pub part_of_two : ℕ → ℕ → ℕ → ℕ → ℕ → Page
part_of_two m n start stop by =
    shown (and_one (numbers m n) (slice (literal_number start) (literal_number stop) (literal_number by))) nothing
