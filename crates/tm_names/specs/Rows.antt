-- Worked examples: trees and the names that they read.
use Rattle.std.specs.Prelude.{◌≡◌, ℕ, List, [], ◌∷◌, Some, None, true, false, codes, refl}
use Rattle.tm_syntax.specs.Forms.{chained, plain}
use Rattle.tm_trees.specs.Trees.applications
use Rattle.tm_trees.specs.Trees.{Expr, Var, Call', SelfBlock, no_argument, argument, no_keyword, no_step, step, Attribute, Apply', To, Stmt}
use Rattle.tm_trees.specs.Trees.{EmitExpr, EmitBlock, EmitSuper, For', Block', Extends, Set, With', Macro', CallBlock', Include, Import, FromImport}
use Rattle.tm_trees.specs.Trees.{Row_of-Stmt, no_statement, statement, otherwise, Parameter, Imported}
use Rattle.tm_syntax.specs.Names.{free_names, takes_caller, undeclared}

-- ---------------------------------------------------------------- trees
abbrev name : List ℕ → Expr
name x = Var x

-- {{ x }}
abbrev writes : List ℕ → Stmt
writes x = EmitExpr (name x)

-- {% set x = x %}
abbrev sets : List ℕ → Stmt
sets x = Set (To x) (name x)

-- {% with x = x %}{{ x }}{% endwith %}
abbrev with_itself : Stmt
with_itself = With' (record { target = To (codes "x"); value = name (codes "x") } ∷ []) (tt ∷ []) (statement (writes (codes "x")) no_statement)

-- x.a
abbrev attribute : List ℕ → Expr
attribute x = chained (name x) (tt ∷ []) (step (Attribute (codes "a")) no_step)

-- x.b()
abbrev method : List ℕ → Expr
method x = chained (name x) (tt ∷ []) (step (Apply' applications.Method (codes "b") [] no_argument [] no_keyword) no_step)

-- {% for x in xs if loop %}{{ loop }}{{ x }}{% else %}{{ x }}{% endfor %}
abbrev loop : Stmt
loop = For' (To (codes "x")) (name (codes "xs")) (Some (name (codes "loop"))) false (tt ∷ tt ∷ [])
    (statement (writes (codes "loop")) (statement (writes (codes "x")) no_statement))
    (otherwise (tt ∷ []) (statement (writes (codes "x")) no_statement))

-- {{ x }}, alone
abbrev alone : List ℕ → Row_of-Stmt 1
alone x = statement (writes x) no_statement

-- a parameter, alone and with a name as its default
abbrev plain_parameter : List ℕ → Parameter
plain_parameter x = record { name = x; default = None }

abbrev with_default : List ℕ → List ℕ → Parameter
with_default x y = record { name = x; default = Some (name y) }

-- {% macro m() %}{{ x }}{% endmacro %}
abbrev macro_writes : List ℕ → Stmt
macro_writes x = Macro' (codes "m") [] (tt ∷ []) (alone x)

-- x as y
abbrev renamed : List ℕ → List ℕ → List Imported
renamed x y = record { name = x; target = y } ∷ []

-- {% call(p) m(x) %}{{ y }}{% endcall %}
abbrev calls_with : List ℕ → List ℕ → Stmt
calls_with p y = CallBlock' (Call' (codes "m") (tt ∷ []) (argument (plain (name (codes "x"))) no_argument) [] no_keyword)
    (plain_parameter p ∷ []) (tt ∷ []) (alone y)

-- parameters a and b, where the default of one is the other
abbrev reads_later : List Parameter
reads_later = with_default (codes "a") (codes "b") ∷ plain_parameter (codes "b") ∷ []

abbrev reads_earlier : List Parameter
reads_earlier = plain_parameter (codes "a") ∷ with_default (codes "b") (codes "a") ∷ []

-- ---------------------------------------------------------------- rows
-- {{ b }}{{ a }}{{ b }}
each_once : undeclared false (statement (writes (codes "b")) (statement (writes (codes "a")) (statement (writes (codes "b")) no_statement)))
    ≡ codes "a" ∷ codes "b" ∷ []
each_once = refl

-- {{ x }}{% set x = x %}{{ x }}, and without the first
read_before : undeclared false (statement (writes (codes "x")) (statement (sets (codes "x")) (statement (writes (codes "x")) no_statement)))
    ≡ codes "x" ∷ []
read_before = refl

set_first : undeclared false (statement (sets (codes "x")) (statement (writes (codes "x")) no_statement)) ≡ []
set_first = refl

-- {% for x in xs if loop %}{{ loop }}{{ x }}{% else %}{{ x }}{% endfor %}
loop_closes : undeclared false (statement loop no_statement) ≡ codes "loop" ∷ codes "x" ∷ codes "xs" ∷ []
loop_closes = refl

-- {% block b %}{% set x = x %}{% endblock %}{{ x }}
block_closes : undeclared false (statement (Block' (codes "b") false (tt ∷ []) (statement (sets (codes "x")) no_statement))
    (statement (writes (codes "x")) no_statement)) ≡ codes "x" ∷ []
block_closes = refl

-- {% with x = x %}{{ x }}{% endwith %}{{ x }}, and without the last
with_closes : undeclared false (statement with_itself (statement (writes (codes "x")) no_statement)) ≡ codes "x" ∷ []
with_closes = refl

with_assigns : undeclared false (statement with_itself no_statement) ≡ []
with_assigns = refl

-- {{ super(a) }}
no_super : undeclared false (statement (EmitExpr (Call' (codes "super") (tt ∷ []) (argument (plain (name (codes "a"))) no_argument) []
    no_keyword)) no_statement) ≡ codes "a" ∷ []
no_super = refl

-- {{ super() }}{{ self.b() }}, and the text of a block as a value
own_blocks : undeclared true (statement EmitSuper (statement (EmitBlock (codes "b")) (statement (EmitExpr (SelfBlock (codes "b")))
    no_statement))) ≡ []
own_blocks = refl

-- {% extends x %}
parent_reads : undeclared false (statement (Extends (name (codes "x"))) no_statement) ≡ codes "x" ∷ []
parent_reads = refl

-- a method `b` of the names `self` and `x`
method_of_self : undeclared true (statement (EmitExpr (method (codes "self"))) no_statement) ≡ codes "self.b" ∷ []
method_of_self = refl

nested_method : undeclared true (statement (EmitExpr (method (codes "x"))) no_statement) ≡ codes "x.b" ∷ []
nested_method = refl

-- {{ x.a }}, alone and nested
attribute_alone : undeclared false (statement (EmitExpr (attribute (codes "self"))) no_statement) ≡ codes "self" ∷ []
attribute_alone = refl

attribute_nested : undeclared true (statement (EmitExpr (attribute (codes "self"))) no_statement) ≡ codes "self.a" ∷ []
attribute_nested = refl

-- {% include x %}
include_reads : undeclared false (statement (Include (name (codes "x")) true) no_statement) ≡ codes "x" ∷ []
include_reads = refl

-- {% import x as x %}{{ x }}
import_reads : undeclared false (statement (Import (name (codes "x")) (To (codes "x"))) (alone (codes "x"))) ≡ codes "x" ∷ []
import_reads = refl

-- {% import a as x %}{{ x }}
import_assigns : undeclared false (statement (Import (name (codes "a")) (To (codes "x"))) (alone (codes "x"))) ≡ codes "a" ∷ []
import_assigns = refl

-- {% from a import x as y %}{{ y }}, and with {{ x }} instead of {{ y }}
from_assigns : undeclared false (statement (FromImport (name (codes "a")) (renamed (codes "x") (codes "y"))) (alone (codes "y")))
    ≡ codes "a" ∷ []
from_assigns = refl

from_renames : undeclared false (statement (FromImport (name (codes "a")) (renamed (codes "x") (codes "y"))) (alone (codes "x")))
    ≡ codes "a" ∷ codes "x" ∷ []
from_renames = refl

-- ---------------------------------------------------------------- macros
-- {% macro m() %}{{ x }}{% endmacro %}
macro_reads : undeclared false (statement (macro_writes (codes "x")) no_statement) ≡ codes "x" ∷ []
macro_reads = refl

-- the same with `m` and with `caller` instead of `x`, and with {{ m }} after it
own_name : undeclared false (statement (macro_writes (codes "m")) (alone (codes "m"))) ≡ []
own_name = refl

own_caller : undeclared false (statement (macro_writes (codes "caller")) no_statement) ≡ []
own_caller = refl

-- {% macro m(a=b, b) %}{{ b }}{% endmacro %} and {% macro m(a, b=a) %}{{ b }}{% endmacro %}
default_before : undeclared false (statement (Macro' (codes "m") reads_later (tt ∷ []) (alone (codes "b"))) no_statement)
    ≡ codes "b" ∷ []
default_before = refl

default_after : undeclared false (statement (Macro' (codes "m") reads_earlier (tt ∷ []) (alone (codes "b"))) no_statement) ≡ []
default_after = refl

-- {% macro m(a, b=a) %}{{ b }}{% endmacro %}{{ b }}
parameters_close : undeclared false (statement (Macro' (codes "m") reads_earlier (tt ∷ []) (alone (codes "b"))) (alone (codes "b")))
    ≡ codes "b" ∷ []
parameters_close = refl

-- the closures of {% macro m() %}{{ m }}{% endmacro %} and of {% macro m(a=b, b) %}{{ x }}{% endmacro %}
encloses_itself : free_names [] (alone (codes "m")) ≡ codes "m" ∷ []
encloses_itself = refl

encloses_defaults : free_names reads_later (alone (codes "x")) ≡ codes "b" ∷ codes "x" ∷ []
encloses_defaults = refl

-- {% macro n() %}{{ caller }}{% endmacro %}, inside another macro and on its own
caller_within : takes_caller [] (statement (macro_writes (codes "caller")) no_statement) ≡ false
caller_within = refl

caller_there : takes_caller [] (alone (codes "caller")) ≡ true
caller_there = refl

caller_enclosed : free_names [] (alone (codes "caller")) ≡ []
caller_enclosed = refl

-- {% call(a) m(x) %}{{ caller }}{% endcall %}, {% call(x) m(x) %}{{ x }}{% endcall %} and {% call(a) m(x) %}{{ z }}{% endcall %}
call_reads : undeclared false (statement (calls_with (codes "a") (codes "caller")) no_statement) ≡ codes "m" ∷ codes "x" ∷ []
call_reads = refl

call_parameter : undeclared false (statement (calls_with (codes "x") (codes "x")) no_statement) ≡ codes "m" ∷ codes "x" ∷ []
call_parameter = refl

body_reads : undeclared false (statement (calls_with (codes "a") (codes "z")) no_statement)
    ≡ codes "m" ∷ codes "x" ∷ codes "z" ∷ []
body_reads = refl

-- {% macro m(caller) %}{{ x }}{% endmacro %}
caller_parameter : takes_caller (plain_parameter (codes "caller") ∷ []) (alone (codes "x")) ≡ true
caller_parameter = refl
