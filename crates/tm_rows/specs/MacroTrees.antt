-- Pages with macros and call tags.
use Rattle.std.specs.Prelude.{ℕ, List, [], ◌∷◌, None, Some, true, false, codes}
use Rattle.tm_values.specs.Val.{Val}
use Rattle.tm_values.specs.Val.{none as no_value}
use Rattle.tm_trees.specs.Trees.binaries
use Rattle.tm_trees.specs.Trees.applications
use Rattle.tm_trees.specs.Trees.{Expr, Const, Call', Map', no_argument, argument, no_keyword, keyword_and, no_pair, no_step, step, Attribute, Apply'}
use Rattle.tm_trees.specs.Trees.{Called, To, Parameter, Stmt, EmitExpr, For', Set, CaptureBlock', With', Macro', CallBlock', no_statement, statement}
use Rattle.tm_trees.specs.Trees.{no_else}
use Rattle.tm_trees.specs.Trees.uses
use Rattle.tm_syntax.specs.Forms.{chained, plain, spread, keyword, spread_keywords, with_pair, item, binary}
use Rattle.tm_meaning.specs.Tree.{Body, body_of}
use Rattle.tm_meaning.specs.World.{languages}
use Rattle.tm_meaning.specs.declared.function.GlobalFunction.TheVariants as own
use Rattle.tm_rows.specs.Rows.{Page, page, nothing, raw, named, one, two, literal, literal_number, and_one, if_one}
use Rattle.tm_rows.specs.LoopRows.{numbers, alone_in_list, for_x}
use Rattle.tm_rows.specs.CallRows.{call_none, one_named}

-- ---------------------------------------------------------------- parts
abbrev pub parameter : List ℕ → Parameter
parameter x = record { name = x; default = None }

abbrev pub defaulting : List ℕ → Expr → Parameter
defaulting x e = record { name = x; default = Some e }

-- macros of one and of two statements
abbrev pub macro_one : List ℕ → List Parameter → Stmt → Stmt
macro_one x ps s = Macro' x ps (tt ∷ []) (statement s no_statement)

abbrev pub macro_two : List ℕ → List Parameter → Stmt → Stmt → Stmt
macro_two x ps s t = Macro' x ps (tt ∷ tt ∷ []) (statement s (statement t no_statement))

abbrev pub macro_three : List ℕ → List Parameter → Stmt → Stmt → Stmt → Stmt
macro_three x ps s t r = Macro' x ps (tt ∷ tt ∷ tt ∷ []) (statement s (statement t (statement r no_statement)))

abbrev pub call_one : Expr → List Parameter → Stmt → Stmt
call_one e ps s = CallBlock' e ps (tt ∷ []) (statement s no_statement)

abbrev pub writes : List ℕ → Stmt
writes x = EmitExpr (named x)

abbrev pub called : List ℕ → Stmt
called f = EmitExpr (call_none f)

abbrev pub with_one : List ℕ → Expr → Expr
with_one f e = Call' f (tt ∷ []) (argument (plain e) no_argument) [] no_keyword

abbrev pub with_two : List ℕ → Expr → Expr → Expr
with_two f e d = Call' f (tt ∷ tt ∷ []) (argument (plain e) (argument (plain d) no_argument)) [] no_keyword

abbrev pub sets : List ℕ → Expr → Stmt
sets x e = Set (To x) e

abbrev pub m : List ℕ
m = codes "m"

abbrev pub three : Stmt → Stmt → Stmt → Body
three s t r = body_of (statement s (statement t (statement r no_statement)))

abbrev pub four : Stmt → Stmt → Stmt → Stmt → Body
four s t r q = body_of (statement s (statement t (statement r (statement q no_statement))))

abbrev pub paged : Body → Page
paged body = page body nothing

-- ---------------------------------------------------------------- arguments
-- {% macro m() %}x{% endmacro %}{{ m() }}
abbrev pub one_text : Page
one_text = paged (two (macro_one m [] (raw (codes "x"))) (called m))

-- {% macro m(a, b=2) %}{{ a }}{{ b }}{% endmacro %}, and an emission
abbrev pub two_parameters : Expr → Page
two_parameters e =
    paged (two (macro_two m (parameter (codes "a") ∷ defaulting (codes "b") (literal_number 2) ∷ []) (writes (codes "a"))
    (writes (codes "b"))) (EmitExpr e))

-- m(1, a=3)
abbrev pub given_twice : Expr
given_twice = Call' m (tt ∷ []) (argument (plain (literal_number 1)) no_argument) (tt ∷ [])
    (keyword_and (keyword (codes "a") (literal_number 3)) no_keyword)

-- m(*[7], b=8)
abbrev pub list_and_name : Expr
list_and_name = Call' m (tt ∷ []) (argument (spread (alone_in_list (literal_number 7))) no_argument) (tt ∷ [])
    (keyword_and (keyword (codes "b") (literal_number 8)) no_keyword)

-- m(**{key: value})
abbrev pub from_map : Expr → Expr → Expr
from_map key value = Call' m [] no_argument (tt ∷ [])
    (keyword_and (spread_keywords (Map' (tt ∷ []) (with_pair key value no_pair))) no_keyword)

-- {% macro m(a, b=a) %}{{ b }}{% endmacro %}{{ m(1) }}, and {% macro m(a=b, b=1) %}{{ a }}{% endmacro %}{{ m() }}
abbrev pub default_before : Page
default_before =
    paged (two (macro_one m (parameter (codes "a") ∷ defaulting (codes "b") (named (codes "a")) ∷ []) (writes (codes "b")))
    (EmitExpr (with_one m (literal_number 1))))

abbrev pub default_after : Page
default_after =
    paged (two (macro_one m (defaulting (codes "a") (named (codes "b")) ∷ defaulting (codes "b") (literal_number 1) ∷ [])
    (writes (codes "a"))) (called m))

-- {% macro m(a=1) %}{{ a }}{% endmacro %}{{ m(x) }}{{ m(none) }}
abbrev pub default_for_undefined : Page
default_for_undefined =
    paged (three (macro_one m (defaulting (codes "a") (literal_number 1) ∷ []) (writes (codes "a")))
    (EmitExpr (with_one m (named (codes "x")))) (EmitExpr (with_one m (Const no_value))))

-- {% macro m(caller) %}{{ caller }}{% endmacro %}{{ m(caller=1) }}
abbrev pub parameter_caller : Page
parameter_caller =
    paged (two (macro_one m (parameter (codes "caller") ∷ []) (writes (codes "caller")))
    (EmitExpr (one_named m (codes "caller") (literal_number 1))))

-- {% macro m() %}{{ caller() }}{% endmacro %}{{ m() }}
abbrev pub no_caller : Page
no_caller = paged (two (macro_one m [] (called (codes "caller"))) (called m))

-- ---------------------------------------------------------------- call tags
-- {% macro m() %}[{{ caller() }}]{% endmacro %}
abbrev pub brackets : Stmt
brackets = macro_three m [] (raw (codes "[")) (called (codes "caller")) (raw (codes "]"))

-- {% macro m() %}[{{ caller(2) }}]{% endmacro %}{% call(n) m() %}{{ n + 1 }}{% endcall %}
abbrev pub caller_with_argument : Page
caller_with_argument =
    paged (two (macro_three m [] (raw (codes "[")) (EmitExpr (with_one (codes "caller") (literal_number 2))) (raw (codes "]")))
    (call_one (call_none m) (parameter (codes "n") ∷ [])
    (EmitExpr (and_one (named (codes "n")) (binary binaries.Add (literal_number 1))))))

-- {% for x in [1,2] %}{% call m() %}{{ x }}{% endcall %}{% endfor %} after the brackets
abbrev pub called_in_loop : Page
called_in_loop = paged (two brackets (for_x (numbers 1 2) (call_one (call_none m) [] (writes (codes "x"))) no_else))

-- {% set x %}{% call m() %}a{% endcall %}{% endset %}{{ x }} after the brackets
abbrev pub called_in_capture : Page
called_in_capture =
    paged (three brackets (CaptureBlock' (uses.Assign (To (codes "x"))) [] (tt ∷ [])
    (statement (call_one (call_none m) [] (raw (codes "a"))) no_statement)) (writes (codes "x")))

-- {% call m() %}x{% endcall %}, alone and after {% macro m() %}{% endmacro %}
abbrev pub called_unknown : Page
called_unknown = paged (one (call_one (call_none m) [] (raw (codes "x"))))

abbrev pub called_without_caller : Page
called_without_caller = paged (two (Macro' m [] [] no_statement) (call_one (call_none m) [] (raw (codes "x"))))

-- {% call(a) dict(b=1) %}{{ a }}{% endcall %}
abbrev pub called_function : Page
called_function = record (paged (one (call_one (one_named (codes "dict") (codes "b") (literal_number 1)) (parameter (codes "a") ∷ [])
    (writes (codes "a"))))) {
      globals = (codes "dict", Val.function 0) ∷ [];
      functions = languages own.Dict ∷ [];
    }

-- {% set n = {"f": m} %}{% call n.f() %}a{% endcall %}{% call n["f"]() %}b{% endcall %} after the brackets
abbrev pub map_of_macro : Expr
map_of_macro = Map' (tt ∷ []) (with_pair (literal (codes "f")) (named m) no_pair)

abbrev pub member_called : Expr
member_called = and_one (named (codes "n")) (Apply' applications.Method (codes "f") [] no_argument [] no_keyword)

abbrev pub item_called : Expr
item_called = chained (named (codes "n")) (tt ∷ tt ∷ []) (step (item (literal (codes "f"))) (step (Called [] no_argument [] no_keyword) no_step))

abbrev pub called_by_value : Page
called_by_value =
    paged (four brackets (sets (codes "n") map_of_macro) (call_one member_called [] (raw (codes "a"))) (call_one item_called [] (raw (codes "b"))))

-- {% macro m() %}x{% endmacro %}{% set n = {"f": m} %}{{ n.f() }}{{ n["f"]() }}
abbrev pub macro_in_map : Page
macro_in_map =
    paged (four (macro_one m [] (raw (codes "x"))) (sets (codes "n") map_of_macro) (EmitExpr member_called) (EmitExpr item_called))

-- ---------------------------------------------------------------- closures
-- {% for i in [1,2] %}{% macro m() %}{{ j }}{% endmacro %}{{ m() }}{% set j = i %}{{ m() }}{% endfor %}
abbrev pub stored_later : Page
stored_later =
    paged (one (For' (To (codes "i")) (numbers 1 2) None false (tt ∷ tt ∷ tt ∷ tt ∷ []) (statement (macro_one m [] (writes (codes "j")))
    (statement (called m) (statement (sets (codes "j") (named (codes "i"))) (statement (called m) no_statement)))) no_else))

-- {% set x = 1 %}{% macro m() %}{{ x }}{% endmacro %}{% set x = 2 %}{{ m() }}, and with {% with x = 3 %}{{ m() }}{% endwith %} at its end
abbrev pub set_again : Page
set_again =
    paged (four (sets (codes "x") (literal_number 1)) (macro_one m [] (writes (codes "x"))) (sets (codes "x") (literal_number 2)) (called m))

abbrev pub set_within : Page
set_within =
    paged (three (sets (codes "x") (literal_number 1)) (macro_one m [] (writes (codes "x")))
    (With' (record { target = To (codes "x"); value = literal_number 3 } ∷ []) (tt ∷ []) (statement (called m) no_statement)))

-- {% macro m(n) %}{{ n }}{% if n > 0 %}{{ m(n - 1) }}{% endif %}{% endmacro %}{{ m(3) }}
abbrev pub calls_itself : Page
calls_itself =
    paged (two (macro_two m (parameter (codes "n") ∷ []) (writes (codes "n"))
    (if_one (and_one (named (codes "n")) (binary binaries.Greater (literal_number 0)))
    (EmitExpr (with_one m (and_one (named (codes "n")) (binary binaries.Subtract (literal_number 1))))) no_else))
    (EmitExpr (with_one m (literal_number 3))))

-- {% macro a() %}{{ b() }}{% endmacro %}{% macro b() %}B{% endmacro %}{{ a() }}
abbrev pub one_calls_other : Page
one_calls_other =
    paged (three (macro_one (codes "a") [] (called (codes "b"))) (macro_one (codes "b") [] (raw (codes "B"))) (called (codes "a")))

-- {% macro o() %}{% macro i() %}{{ z }}{% endmacro %}{% set z = 5 %}{{ i() }}{% endmacro %}{{ o() }}
abbrev pub one_in_another : Page
one_in_another =
    paged (two (macro_three (codes "o") [] (macro_one (codes "i") [] (writes (codes "z"))) (sets (codes "z") (literal_number 5))
    (called (codes "i"))) (called (codes "o")))

-- {% for x in [1,2] %}{% macro m() %}{{ loop.index }}{% endmacro %}{{ m() }}{% endfor %}
abbrev pub index_of_loop : Page
index_of_loop =
    paged (one (For' (To (codes "x")) (numbers 1 2) None false (tt ∷ tt ∷ [])
    (statement (macro_one m [] (EmitExpr (and_one (named (codes "loop")) (Attribute (codes "index"))))) (statement (called m) no_statement))
    no_else))

-- {% for x in [7] recursive %}{{ x }}{% macro m(a) %}{{ "" ~ loop(a) }}{% endmacro %}{% if x == 7 %}{{ m([8]) }}{% endif %}{% endfor %}
abbrev pub loop_of_macro : Page
loop_of_macro =
    paged (one (For' (To (codes "x")) (alone_in_list (literal_number 7)) None true (tt ∷ tt ∷ tt ∷ []) (statement (writes (codes "x"))
    (statement (macro_one m (parameter (codes "a") ∷ [])
    (EmitExpr (and_one (literal []) (binary binaries.Concatenate (with_one (codes "loop") (named (codes "a")))))))
    (statement (if_one (and_one (named (codes "x")) (binary binaries.Equal (literal_number 7)))
    (EmitExpr (with_one m (alone_in_list (literal_number 8)))) no_else) no_statement))) no_else))

-- a{% macro m() %}b{{ y.z }}{% endmacro %}{{ m() }}
abbrev pub fault_within : Page
fault_within =
    paged (three (raw (codes "a")) (macro_two m [] (raw (codes "b"))
    (EmitExpr (and_one (named (codes "y")) (Attribute (codes "z"))))) (called m))

-- {% macro m(a) %}{% endmacro %}{{ m }} {{ m.arguments }} {{ m.caller }} {{ m.name }} {{ m.x }}
abbrev pub of_m : List ℕ → Stmt
of_m x = EmitExpr (and_one (named m) (Attribute x))

abbrev pub members : Page
members =
    paged (body_of (statement (Macro' m (parameter (codes "a") ∷ []) [] no_statement) (statement (writes m) (statement (raw (codes " "))
    (statement (of_m (codes "arguments")) (statement (raw (codes " ")) (statement (of_m (codes "caller")) (statement (raw (codes " "))
    (statement (of_m (codes "name")) (statement (raw (codes " ")) (statement (of_m (codes "x")) no_statement)))))))))))

-- {% macro m() %}{% endmacro %}{{ m.name() }}, and {{ m.zz() }}
abbrev pub method_of_macro : List ℕ → Page
method_of_macro x =
    paged (two (Macro' m [] [] no_statement) (EmitExpr (and_one (named m) (Apply' applications.Method x [] no_argument [] no_keyword))))
