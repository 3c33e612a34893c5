-- Pages with loops.
use Rattle.std.specs.Prelude.{ℕ, [], ◌∷◌, Some, None, false, codes}
use Rattle.tm_trees.specs.Trees.binaries
use Rattle.tm_trees.specs.Trees.{Expr, List', no_expr, expr, Attribute, To, Stmt, EmitExpr, For', Break, Continue, Set, CaptureBlock', With'}
use Rattle.tm_trees.specs.Trees.{no_statement, statement, Otherwise, no_else}
use Rattle.tm_trees.specs.Trees.uses
use Rattle.tm_syntax.specs.Forms.{binary}
use Rattle.tm_meaning.specs.Tree.{body_of}
use Rattle.tm_rows.specs.Rows.{page, nothing, raw, named, one, else_one, and_one, literal_number, x, Page}

abbrev pub numbers : ℕ → ℕ → Expr
numbers m n = List' (tt ∷ tt ∷ []) (expr (literal_number m) (expr (literal_number n) no_expr))

abbrev pub alone_in_list : Expr → Expr
alone_in_list e = List' (tt ∷ []) (expr e no_expr)

abbrev pub for_x : Expr → Stmt → Otherwise → Stmt
for_x e s other = For' (To (codes "x")) e None false (tt ∷ []) (statement s no_statement) other

-- {% for x in [1,2] %}{{ x }}{% endfor %}
abbrev pub each_number : Page
each_number = page (one (for_x (numbers 1 2) (EmitExpr x) no_else)) nothing

-- {% for x in [] %}{% else %}E{% endfor %}
abbrev pub no_round : Page
no_round = page (one (For' (To (codes "x")) (List' [] no_expr) None false [] no_statement (else_one (raw (codes "E"))))) nothing

-- {% for x in [1] %}{% break %}{% else %}E{% endfor %}
abbrev pub broken_round : Page
broken_round = page (one (for_x (alone_in_list (literal_number 1)) Break (else_one (raw (codes "E"))))) nothing

-- {% for x in [1] %}{% set y %}a{% break %}{% endset %}{% endfor %}[{{ y }}]
abbrev pub break_in_capture : Page
break_in_capture =
    page (body_of
    (statement (for_x (alone_in_list (literal_number 1)) (CaptureBlock' (uses.Assign (To (codes "y"))) [] (tt ∷ tt ∷ [])
    (statement (raw (codes "a")) (statement Break no_statement))) no_else)
    (statement (raw (codes "[")) (statement (EmitExpr (named (codes "y"))) (statement (raw (codes "]")) no_statement))))) nothing

-- {% for x in [1,2] %}{% with %}{{ x }}{% continue %}{% endwith %}{% endfor %}
abbrev pub continue_in_scope : Page
continue_in_scope = page (one (for_x (numbers 1 2) (With' [] (tt ∷ tt ∷ []) (statement (EmitExpr x) (statement Continue no_statement)))
    no_else)) nothing

-- {% for x in [1,2] %}{{ loop.revindex }}{{ loop.previtem }}{% endfor %}
abbrev pub loop_members : Page
loop_members =
    page (one (For' (To (codes "x")) (numbers 1 2) None false (tt ∷ tt ∷ [])
    (statement (EmitExpr (and_one (named (codes "loop")) (Attribute (codes "revindex"))))
    (statement (EmitExpr (and_one (named (codes "loop")) (Attribute (codes "previtem")))) no_statement)) no_else)) nothing

-- {% for x in [1,2] %}{{ y }}{% set y = x %}{% endfor %}
abbrev pub set_in_round : Page
set_in_round =
    page (one (For' (To (codes "x")) (numbers 1 2) None false (tt ∷ tt ∷ [])
    (statement (EmitExpr (named (codes "y"))) (statement (Set (To (codes "y")) x) no_statement)) no_else)) nothing

-- {% for x in [1,2] if x > n %}{{ x }}{% endfor %}
abbrev pub above : ℕ → Expr
above n = and_one x (binary binaries.Greater (literal_number n))

abbrev pub chosen : ℕ → Page
chosen n = page (one (For' (To (codes "x")) (numbers 1 2) (Some (above n)) false (tt ∷ []) (statement (EmitExpr x) no_statement)
    (else_one (raw (codes "E"))))) nothing

abbrev pub chosen_alone : Page
chosen_alone = page (one (For' (To (codes "x")) (numbers 1 2) (Some (above 1)) false (tt ∷ []) (statement (EmitExpr x) no_statement)
    no_else)) nothing

-- {% for x in [1,2] if x > 1 %}{{ loop.index }}{% endfor %}
abbrev pub chosen_index : Page
chosen_index = page (one (For' (To (codes "x")) (numbers 1 2) (Some (above 1)) false (tt ∷ [])
    (statement (EmitExpr (and_one (named (codes "loop")) (Attribute (codes "index")))) no_statement) no_else)) nothing

-- {% for x in [1,2] if loop %}{{ x }}{% else %}E{% endfor %}
abbrev pub chosen_by_loop : Page
chosen_by_loop = page (one (For' (To (codes "x")) (numbers 1 2) (Some (named (codes "loop"))) false (tt ∷ [])
    (statement (EmitExpr x) no_statement) (else_one (raw (codes "E"))))) nothing

-- {% for x in 1 %}{% endfor %}
abbrev pub over_a_number : Page
over_a_number = page (one (For' (To (codes "x")) (literal_number 1) None false [] no_statement no_else)) nothing
