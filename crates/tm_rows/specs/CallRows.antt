-- Pages that call functions, methods and loops.
use Rattle.std.specs.Prelude.{ℕ, zero, suc, List, [], ◌∷◌, Option, Some, None, true, false, codes, pos}
use Rattle.tm_values.specs.Val.{Val, number, text, list, map, function, vals_of, pairs_of}
use Rattle.tm_values.specs.declared.error.ErrorKind.{ErrorKind}
use Rattle.tm_trees.specs.Trees.binaries
use Rattle.tm_trees.specs.Trees.{Expr, Const, List', Call', no_expr, expr, no_argument, argument, no_keyword, keyword_and, no_step, step, Attribute}
use Rattle.tm_trees.specs.Trees.{Apply', To, Member, Stmt, EmitExpr, EmitLoop, For', Set, Do, no_statement, statement, no_else}
use Rattle.tm_trees.specs.Trees.applications
use Rattle.tm_syntax.specs.Forms.{chained, plain, keyword, binary}
use Rattle.tm_meaning.specs.World.{find, Stated, Function, callers, languages}
use Rattle.tm_meaning.specs.declared.reply.Reply.{Reply}
use Rattle.tm_meaning.specs.declared.reply.Reply.TheVariants.{Value as gives, Fault as faults}
use Rattle.tm_meaning.specs.declared.function.GlobalFunction.TheVariants as own
use Rattle.tm_meaning.specs.Tree.{body_of}
use Rattle.tm_rows.specs.Rows.{page, nothing, with_value, raw, named, one, two, literal, a, b, else_one, and_one, literal_number, x}
use Rattle.tm_rows.specs.Rows.{Page}
use Rattle.tm_rows.specs.LoopRows.{numbers, alone_in_list, for_x}

-- ---------------------------------------------------------------- functions
abbrev pub answers : Reply → Stated
answers reply = record { temps = []; reply = reply }

-- the last argument
abbrev pub last_of : List Val → Val
last_of [] = nothing
last_of (v ∷ []) = v
last_of (v ∷ x ∷ vs) = last_of (x ∷ vs)

abbrev pub last_function : Function
last_function = callers (λ vs view. answers (gives (last_of vs)))

abbrev pub faulty : List ErrorKind → Function
faulty chain = callers (λ vs view. answers (faults chain))

-- keeps k, and returns 2
abbrev pub keeping : Function
keeping = callers (λ vs view. record { temps = (codes "k", number (pos 1)) ∷ []; reply = gives (number (pos 2)) })

abbrev pub or_nothing : Option Val → Val
or_nothing None = nothing
or_nothing (Some v) = v

-- the value kept as k
abbrev pub reading : Function
reading = callers (λ vs view. answers (gives (or_nothing (find (codes "k") view.temps))))

abbrev pub call_none : List ℕ → Expr
call_none f = Call' f [] no_argument [] no_keyword

abbrev pub with_functions : Function → Function → Page → Page
with_functions f g p = record p {
  globals = (codes "f", function 0) ∷ (codes "g", function 1) ∷ [];
  functions = f ∷ g ∷ [];
}

-- {{ f("a", 1) }}
abbrev pub called_with_two : Expr
called_with_two = Call' (codes "f") (tt ∷ tt ∷ []) (argument (plain (literal (codes "a")))
    (argument (plain (Const (number (pos 1)))) no_argument)) [] no_keyword

abbrev pub calling : Function → Page
calling f = with_functions f f (page (one (EmitExpr called_with_two)) nothing)

-- {{ f() }}{{ g() }}
abbrev pub keep_and_read : Page
keep_and_read = with_functions keeping reading (page (two (EmitExpr (call_none (codes "f"))) (EmitExpr (call_none (codes "g")))) nothing)

-- the built-in functions
abbrev pub with_languages : Page → Page
with_languages p = record p {
  globals = (codes "dict", function 1) ∷ (codes "namespace", function 2) ∷ (codes "range", function 0) ∷ [];
  functions = languages own.Range ∷ languages own.Dict ∷ languages own.Namespace ∷ [];
}

abbrev pub called : List ℕ → Expr → Expr
called f a = Call' f (tt ∷ []) (argument (plain a) no_argument) [] no_keyword

abbrev pub one_named : List ℕ → List ℕ → Expr → Expr
one_named f k a = Call' f [] no_argument (tt ∷ []) (keyword_and (keyword k a) no_keyword)

-- {{ range(3) }}
abbrev pub range_of_three : Page
range_of_three = with_languages (page (one (EmitExpr (called (codes "range") (literal_number 3)))) nothing)

-- {{ range(a=3) }}
abbrev pub range_by_name : Page
range_by_name = with_languages (page (one (EmitExpr (one_named (codes "range") (codes "a") (literal_number 3)))) nothing)

abbrev pub map_of_a : ℕ → Expr
map_of_a n = Const (map (pairs_of ((text (codes "a") false, number (pos n)) ∷ [])))

-- {{ dict(m, a=2, b=3) }}, where m is the constant {"a": 1}
abbrev pub dict_by_names : Page
dict_by_names =
    with_languages (page (one (EmitExpr (Call' (codes "dict") (tt ∷ []) (argument (plain (map_of_a 1)) no_argument)
    (tt ∷ tt ∷ []) (keyword_and (keyword (codes "a") (literal_number 2))
    (keyword_and (keyword (codes "b") (literal_number 3)) no_keyword))))) nothing)

abbrev pub ns : Expr
ns = named (codes "ns")

abbrev pub ns_n : Expr
ns_n = and_one ns (Attribute (codes "n"))

-- {% set ns = namespace(n=0) %}{% for x in [1,2] %}{% set ns.n = ns.n + x %}{% endfor %}{{ ns.n }}
abbrev pub summed : Page
summed =
    with_languages (page (body_of
    (statement (Set (To (codes "ns")) (one_named (codes "namespace") (codes "n") (literal_number 0)))
    (statement (for_x (numbers 1 2) (Set (Member ns (codes "n")) (chained ns (tt ∷ tt ∷ [])
    (step (Attribute (codes "n")) (step (binary binaries.Add x) no_step)))) no_else)
    (statement (EmitExpr ns_n) no_statement)))) nothing)

-- {% do f() %}x
abbrev pub do_call : Page
do_call = with_functions last_function last_function (page (two (Do (call_none (codes "f"))) (raw (codes "x"))) nothing)

-- a{{ nope(f()) }}
abbrev pub unknown_after : Function → Page
unknown_after f = with_functions f f (page (two (raw (codes "a")) (EmitExpr
    (Call' (codes "nope") (tt ∷ []) (argument (plain (call_none (codes "f"))) no_argument) [] no_keyword))) nothing)

-- a method without arguments, and one with these
abbrev pub method_none : Expr → List ℕ → Expr
method_none e m = and_one e (Apply' applications.Method m [] no_argument [] no_keyword)

abbrev pub method_one : Expr → List ℕ → Expr → Expr
method_one e m a = and_one e (Apply' applications.Method m (tt ∷ []) (argument (plain a) no_argument) [] no_keyword)

abbrev pub method_two : Expr → List ℕ → Expr → Expr → Expr
method_two e m a b =
    and_one e (Apply' applications.Method m (tt ∷ tt ∷ []) (argument (plain a) (argument (plain b) no_argument)) [] no_keyword)

-- {% for x in [1,1,2] %}{{ loop.changed(x) }} {% endfor %}
abbrev pub changed_or_not : Page
changed_or_not =
    page (one (For' (To (codes "x")) (List' (tt ∷ tt ∷ tt ∷ []) (expr (literal_number 1)
    (expr (literal_number 1) (expr (literal_number 2) no_expr)))) None false (tt ∷ tt ∷ [])
    (statement (EmitExpr (method_one (named (codes "loop")) (codes "changed") x)) (statement (raw (codes " ")) no_statement)) no_else))
    nothing

-- {% for x in [1,1,2] %}{{ loop.cycle("x", "y") }}{% endfor %}
abbrev pub by_turns : Page
by_turns =
    page (one (For' (To (codes "x")) (List' (tt ∷ tt ∷ tt ∷ []) (expr (literal_number 1)
    (expr (literal_number 1) (expr (literal_number 2) no_expr)))) None false (tt ∷ [])
    (statement (EmitExpr (method_two (named (codes "loop")) (codes "cycle") (literal (codes "x")) (literal (codes "y")))) no_statement)
    no_else)) nothing

-- {% for x in [1,2] %}{{ loop.cycle() }}{% endfor %}
abbrev pub by_no_turns : Page
by_no_turns = page (one (for_x (numbers 1 2) (EmitExpr (method_none (named (codes "loop")) (codes "cycle"))) no_else)) nothing

-- {% for x in [1,2] %}{{ loop.index() }}{% endfor %}
abbrev pub no_method_of_loops : Page
no_method_of_loops = page (one (for_x (numbers 1 2) (EmitExpr (method_none (named (codes "loop")) (codes "index"))) no_else)) nothing

-- {{ m.f("a") }}, where m has this value at f
abbrev pub method_of_map : Val → Page
method_of_map f =
    with_functions last_function last_function
    (page (one (EmitExpr (method_one (named (codes "m")) (codes "f") (literal (codes "a")))))
    (with_value (codes "m") (map (pairs_of ((text (codes "f") false, f) ∷ [])))))

-- {{ nope.m() }}
abbrev pub method_of_undefined : Page
method_of_undefined = page (one (EmitExpr (method_none (named (codes "nope")) (codes "m")))) nothing

-- ---------------------------------------------------------------- calls of loops
abbrev pub recursive_one : Expr → Stmt → Stmt
recursive_one e s = For' (To (codes "x")) e None true (tt ∷ []) (statement s no_statement) no_else

abbrev pub recursive_two : Expr → Stmt → Stmt → Stmt
recursive_two e s t = For' (To (codes "x")) e None true (tt ∷ tt ∷ []) (statement s (statement t no_statement)) no_else

abbrev pub nothing_in_list : Expr
nothing_in_list = alone_in_list (List' [] no_expr)

-- {% for x in [[]] recursive %}a{{ loop(x) }}{% endfor %}
abbrev pub called_in_place : Page
called_in_place = page (one (recursive_two nothing_in_list (raw (codes "a")) (EmitLoop x))) nothing

-- {% for x in [1] recursive %}{{ loop(x) }}{% endfor %}
abbrev pub called_over_a_number : Page
called_over_a_number = page (one (recursive_one (alone_in_list (literal_number 1)) (EmitLoop x))) nothing

-- {% for x in [[]] %}{{ loop(x) }}{% endfor %}
abbrev pub not_recursive : Page
not_recursive = page (one (for_x nothing_in_list (EmitLoop x) no_else)) nothing

-- {{ loop([]) }}
abbrev pub no_loop_to_call : Page
no_loop_to_call = page (one (EmitLoop (List' [] no_expr))) nothing

-- {% for x in [[]] recursive %}{{ loop(x, 1) }}{% endfor %}
abbrev pub called_with_too_many : Page
called_with_too_many =
    page (one (recursive_one nothing_in_list (EmitExpr (Call' (codes "loop") (tt ∷ tt ∷ [])
    (argument (plain x) (argument (plain (literal_number 1)) no_argument)) [] no_keyword)))) nothing

-- {% for x in [1] recursive %}{% for y in [2] %}{{ loop.depth }}{% endfor %}{% endfor %}
abbrev pub depth_inside_recursive : Page
depth_inside_recursive =
    page (one (recursive_one (alone_in_list (literal_number 1))
    (For' (To (codes "y")) (alone_in_list (literal_number 2)) None false (tt ∷ [])
    (statement (EmitExpr (and_one (named (codes "loop")) (Attribute (codes "depth")))) no_statement) no_else))) nothing

-- a node: its label, and the nodes below it
abbrev pub node : List ℕ → List Val → Val
node v below = map (pairs_of ((text (codes "c") false, list (vals_of below)) ∷ (text (codes "v") false, text v false) ∷ []))

abbrev pub tree : Val
tree = list (vals_of (node (codes "1") (node (codes "2") [] ∷ []) ∷ node (codes "3") [] ∷ []))

abbrev pub x_v : Expr
x_v = and_one x (Attribute (codes "v"))

abbrev pub x_c : Expr
x_c = and_one x (Attribute (codes "c"))

-- {% for x in tree recursive %}{{ x.v }}({{ loop(x.c) }}){% else %}E{% endfor %}
abbrev pub tree_in_place : Page
tree_in_place =
    page (one (For' (To (codes "x")) (named (codes "tree")) None true (tt ∷ tt ∷ tt ∷ tt ∷ [])
    (statement (EmitExpr x_v) (statement (raw (codes "(")) (statement (EmitLoop x_c) (statement (raw (codes ")")) no_statement))))
    (else_one (raw (codes "E"))))) (with_value (codes "tree") tree)

-- {% for x in tree recursive %}{{ x.v ~ "[" ~ loop(x.c) ~ "]" }}{% endfor %}
abbrev pub tree_as_value : Page
tree_as_value =
    page (one (recursive_one (named (codes "tree")) (EmitExpr (chained x (tt ∷ tt ∷ tt ∷ tt ∷ [])
    (step (Attribute (codes "v")) (step (binary binaries.Concatenate (literal (codes "[")))
    (step (binary binaries.Concatenate (called (codes "loop") x_c))
    (step (binary binaries.Concatenate (literal (codes "]"))) no_step)))))))) (with_value (codes "tree") tree)

-- {% for x in tree recursive %}{{ x.v ~ loop(x.c) }}{% endfor %}, where node 1 has node 2 below it
abbrev pub line_as_value : Page
line_as_value =
    page (one (recursive_one (named (codes "tree")) (EmitExpr (chained x (tt ∷ tt ∷ [])
    (step (Attribute (codes "v")) (step (binary binaries.Concatenate (called (codes "loop") x_c)) no_step))))))
    (with_value (codes "tree") (list (vals_of (node (codes "1") (node (codes "2") [] ∷ []) ∷ []))))

-- the numbers below one, in descending order
abbrev pub below : ℕ → List ℕ
below zero = []
below (suc n) = n ∷ below n

-- {% set ns = namespace() %}{% for x in ["1"] recursive %}{{ x }}{% set ns.l = loop %}{% endfor %}{% set l = ns.l %}{{ l(["2", "3"]) }}
abbrev pub called_after_its_end : Page
called_after_its_end =
    with_languages (page (body_of
    (statement (Set (To (codes "ns")) (call_none (codes "namespace")))
    (statement (recursive_two (alone_in_list (literal (codes "1"))) (EmitExpr x) (Set (Member ns (codes "l")) (named (codes "loop"))))
    (statement (Set (To (codes "l")) (and_one ns (Attribute (codes "l"))))
    (statement (EmitExpr (called (codes "l") (List' (tt ∷ tt ∷ []) (expr (literal (codes "2")) (expr (literal (codes "3")) no_expr)))))
    no_statement))))) nothing)
