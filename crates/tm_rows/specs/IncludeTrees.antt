-- Pages that include and import templates.
use Rattle.std.specs.Prelude.{◌≡◌, ℕ, zero, suc, ◌-◌, List, [], ◌∷◌, ◌++◌, Some, None, Ok, Err, Bool, true, false, codes}
use Rattle.tm_values.specs.Answer.{Answer}
use Rattle.tm_values.specs.Val.{text}
use Rattle.tm_values.specs.declared.error.ErrorKind.{ErrorKind}
use Rattle.tm_values.specs.declared.error.ErrorKind.TheVariants.{BadInclude}
use Rattle.tm_values.specs.declared.escape.AutoEscape.TheVariants as escapes
use Rattle.tm_trees.specs.Trees.binaries
use Rattle.tm_trees.specs.Trees.applications
use Rattle.tm_trees.specs.Trees.{Expr, List', Map', no_argument, argument, no_expr, no_keyword, no_pair, no_step, expr, step, Attribute, Apply', To}
use Rattle.tm_trees.specs.Trees.{Member, Imported, Stmt, EmitExpr, EmitBlock, EmitLoop, EmitSuper, AutoEscape', For', With', Include, Import}
use Rattle.tm_trees.specs.Trees.{FromImport, no_statement, statement, If', Otherwise, no_else}
use Rattle.tm_syntax.specs.Forms.{chained, plain, binary, item, with_pair}
use Rattle.tm_meaning.specs.Tree.{Body, TemplateTree, body_of}
use Rattle.tm_meaning.specs.declared.stream.TemplateId.TheVariants.{Entry as entry}
use Rattle.tm_meaning.specs.World.{Named, World}
use Rattle.tm_meaning.specs.Runs.{first_world}
use Rattle.tm_rows.specs.Rows.{Page, host_of, meant_from, ended_from, said, said_by, raw, named, one, two, literal, literal_number}
use Rattle.tm_rows.specs.Rows.{literal_truth, and_one, else_one, if_one, with_value, x}
use Rattle.tm_rows.specs.LoopRows.{numbers, alone_in_list, for_x}
use Rattle.tm_rows.specs.CallRows.{call_none, with_languages}
use Rattle.tm_rows.specs.MacroTrees.{called, macro_one, macro_three, parameter, sets, three, four, with_one, writes}
use Rattle.tm_rows.specs.BlockTrees.{a, among, block_one, extends, fault, template, template_under}

-- ---------------------------------------------------------------- parts
abbrev pub includes : Expr → Stmt
includes e = Include e false

abbrev pub includes_template : List ℕ → Stmt
includes_template name = includes (literal name)

abbrev pub imports_as_m : Expr → Stmt
imports_as_m e = Import e (To (codes "m"))

-- an imported name, bound to itself or to another name
abbrev pub name_for : List ℕ → List ℕ → Imported
name_for name target = record { name = name; target = target }

abbrev pub name_alone : List ℕ → Imported
name_alone name = name_for name name

abbrev pub imports_from : List ℕ → List Imported → Stmt
imports_from name xs = FromImport (literal name) xs

abbrev pub m : Expr
m = named (codes "m")

abbrev pub member_of_m : List ℕ → Stmt
member_of_m x = EmitExpr (and_one m (Attribute x))

-- a method of a value, called without arguments
abbrev pub method_of_m : List ℕ → Stmt
method_of_m x = EmitExpr (and_one m (Apply' applications.Method x [] no_argument [] no_keyword))

-- {% set q = 1 %}
abbrev pub sets_q : ℕ → Stmt
sets_q n = sets (codes "q") (literal_number n)

abbrev pub writes_q : Stmt
writes_q = writes (codes "q")

-- [{{ x }}]
abbrev pub in_brackets : List ℕ → Stmt → Body
in_brackets x s = four s (raw (codes "[")) (writes x) (raw (codes "]"))

abbrev pub if_two : Expr → Stmt → Stmt → Stmt
if_two c s t = If' c (tt ∷ tt ∷ []) (statement s (statement t no_statement)) no_else

abbrev pub if_three : Expr → Stmt → Stmt → Stmt → Otherwise → Stmt
if_three c s t r other = If' c (tt ∷ tt ∷ tt ∷ []) (statement s (statement t (statement r no_statement))) other

abbrev pub five : Stmt → Stmt → Stmt → Stmt → Stmt → Body
five s t r q p = body_of (statement s (statement t (statement r (statement q (statement p no_statement)))))

-- ---------------------------------------------------------------- templates
-- bad: a{{ y.z }}
-- base: B{% block a %}x{% endblock %}
-- child: {% extends "base" %}{% block a %}c{% endblock %}
-- e has nothing in it
-- f: {% macro f(x) %}<{{ x }}>{% endmacro %}{% set _p = 1 %}{% set q = 2 %}text
-- i: ab{{ 1 }}
-- i2: {% set q = 7 %}
-- u: {{ x }}
abbrev pub files : Named TemplateTree
files =
    template (codes "bad") (two (raw (codes "a")) fault)
    ∷ template (codes "base") (two (raw (codes "B")) (block_one a (raw (codes "x"))))
    ∷ template (codes "child") (two (extends (codes "base")) (block_one a (raw (codes "c"))))
    ∷ template (codes "e") (body_of no_statement)
    ∷ template (codes "f")
    (four (macro_three (codes "f") (parameter (codes "x") ∷ []) (raw (codes "<")) (writes (codes "x")) (raw (codes ">")))
    (sets (codes "_p") (literal_number 1)) (sets_q 2) (raw (codes "text")))
    ∷ template (codes "i") (two (raw (codes "ab")) (EmitExpr (literal_number 1)))
    ∷ template (codes "i2") (one (sets_q 7))
    ∷ template (codes "u") (one (EmitExpr x)) ∷ []

abbrev pub with_files : Body → Page
with_files body = among files body

abbrev pub only : Stmt → Page
only s = with_files (one s)

-- a page with this template as the only other one
abbrev pub beside : List ℕ → Body → Body → Page
beside name of_other body = among (template name of_other ∷ []) body

-- ---------------------------------------------------------------- includes
-- {% include "name" %}
abbrev pub including : List ℕ → Page
including name = only (includes_template name)

-- {% include e %}, with `ignore missing` or without
abbrev pub including_by : Bool → Expr → Page
including_by missing e = only (Include e missing)

-- ["no", e]
abbrev pub no_or : Expr → Expr
no_or e = List' (tt ∷ tt ∷ []) (expr (literal (codes "no")) (expr e no_expr))

-- []
abbrev pub no_choices : Expr
no_choices = List' [] no_expr

-- {"i": 1}
abbrev pub map_of_i : Expr
map_of_i = Map' (tt ∷ []) (with_pair (literal (codes "i")) (literal_number 1) no_pair)

-- {% include "i2" %}{{ q }}, and {% with %}{% include "i2" %}{{ q }}{% endwith %}[{{ q }}]
abbrev pub stores_in_scope : Page
stores_in_scope = with_files (two (includes_template (codes "i2")) writes_q)

abbrev pub stores_within : Page
stores_within =
    with_files (in_brackets (codes "q")
    (With' [] (tt ∷ tt ∷ []) (statement (includes_template (codes "i2")) (statement writes_q no_statement))))

-- {% for x in [1,2] %}{% include "u" %}{% endfor %}
abbrev pub sees_round : Page
sees_round = only (for_x (numbers 1 2) (includes_template (codes "u")) no_else)

-- n is {% include "i" %}: {% include "n" %}
abbrev pub includes_within : Page
includes_within =
    among
    (template (codes "i") (two (raw (codes "ab")) (EmitExpr (literal_number 1)))
    ∷ template (codes "n") (one (includes_template (codes "i"))) ∷ [])
    (one (includes_template (codes "n")))

-- r is {{ x }}{% set x = 2 %}{{ x }}: {% set x = 1 %}{% include "r" %}{{ x }}
abbrev pub sets_apart : Page
sets_apart =
    beside (codes "r") (three (EmitExpr x) (sets (codes "x") (literal_number 2)) (EmitExpr x))
    (three (sets (codes "x") (literal_number 1)) (includes_template (codes "r")) (EmitExpr x))

-- s is {% set j = 2 %}{% macro k() %}{{ j }}{% endmacro %}{{ k() }}: {% macro m() %}{{ j }}{% endmacro %}{% set j = 1 %}{% include "s" %}{{ m() }}
abbrev pub encloses_apart : Page
encloses_apart =
    beside (codes "s")
    (three (sets (codes "j") (literal_number 2)) (macro_one (codes "k") [] (writes (codes "j"))) (called (codes "k")))
    (four (macro_one (codes "m") [] (writes (codes "j"))) (sets (codes "j") (literal_number 1)) (includes_template (codes "s"))
    (called (codes "m")))

-- l is {{ loop.index }}{{ x }}: {% for x in [1] %}{% include "l" %}{% endfor %}
abbrev pub sees_loop : Page
sees_loop =
    beside (codes "l") (two (EmitExpr (and_one (named (codes "loop")) (Attribute (codes "index")))) (EmitExpr x))
    (one (for_x (alone_in_list (literal_number 1)) (includes_template (codes "l")) no_else))

-- {% macro m(x) %}{% include "u" %}{% endmacro %}{{ m(4) }}
abbrev pub sees_argument : Page
sees_argument =
    with_files (two (macro_one (codes "m") (parameter (codes "x") ∷ []) (includes_template (codes "u")))
    (EmitExpr (with_one (codes "m") (literal_number 4))))

-- {% macro m() %}{% include "u" %}{% endmacro %}{% set x = 1 %}{{ m() }}
abbrev pub sees_no_caller : Page
sees_no_caller =
    with_files (three (macro_one (codes "m") [] (includes_template (codes "u"))) (sets (codes "x") (literal_number 1)) (called (codes "m")))

-- {% include "child" %}{% include "child" %}
abbrev pub child_twice : Page
child_twice = with_files (two (includes_template (codes "child")) (includes_template (codes "child")))

-- {% block a %}mine{% endblock %}{% include "child" %}{{ self.a() }}
abbrev pub blocks_apart : Page
blocks_apart = with_files (three (block_one a (raw (codes "mine"))) (includes_template (codes "child")) (EmitBlock a))

-- p.html is {{ "<" }}: {% include "p.html" %}{{ "<" }}
abbrev pub emits_tag : Stmt
emits_tag = EmitExpr (literal (codes "<"))

abbrev pub escapes_apart : Page
escapes_apart =
    among (template_under escapes.Html (codes "p.html") (one emits_tag) ∷ []) (two (includes_template (codes "p.html")) emits_tag)

-- {% autoescape true %}{% include "u" %}{{ x }}{% endautoescape %} with x = `<`
abbrev pub escaped_around : Page
escaped_around =
    record (only (AutoEscape' (literal_truth true) (tt ∷ tt ∷ [])
    (statement (includes_template (codes "u")) (statement (EmitExpr x) no_statement))))
    { context = with_value (codes "x") (text (codes "<") false) }

-- t, which is also in the environment: {% include "t" %}
abbrev pub includes_itself : Page
includes_itself =
    let body = one (includes_template (codes "t")) in record (beside (codes "t") body body) { name = codes "t" }

-- n times BadInclude before a chain
abbrev pub bad_includes : ℕ → List ErrorKind → List ErrorKind
bad_includes zero chain = chain
bad_includes (suc n) chain = BadInclude ∷ bad_includes n chain

-- b2 is B{% include "k" %}, k is {% extends "b2" %}: {% extends "b2" %}
abbrev pub extends_what_includes : Page
extends_what_includes =
    among
    (template (codes "b2") (two (raw (codes "B")) (includes_template (codes "k")))
    ∷ template (codes "k") (one (extends (codes "b2"))) ∷ [])
    (one (extends (codes "b2")))

-- s is {{ super() }}: {% block a %}{% include "s" %}{% endblock %}
abbrev pub super_of_another : Page
super_of_another = beside (codes "s") (one EmitSuper) (one (block_one a (includes_template (codes "s"))))

-- l is {{ loop([]) }}: {% for x in [1] recursive %}{% include "l" %}{% endfor %}
abbrev pub loop_of_another : Page
loop_of_another =
    beside (codes "l") (one (EmitLoop no_choices))
    (one (For' (To (codes "x")) (alone_in_list (literal_number 1)) None true (tt ∷ [])
    (statement (includes_template (codes "l")) no_statement) no_else))

-- w is {% with z = 1 %}{{ y.z }}{% endwith %}: {% include "w" %}
abbrev pub fault_in_scope : Page
fault_in_scope =
    beside (codes "w")
    (one (With' (record { target = To (codes "z"); value = literal_number 1 } ∷ []) (tt ∷ []) (statement fault no_statement)))
    (one (includes_template (codes "w")))

-- {% set q = 1 %}{% macro m() %}{{ q }}{% endmacro %}{% include "i2" %}{{ m() }}, and {% set q = 3 %}{{ m() }} before its end
abbrev pub closure_apart : Page
closure_apart =
    with_files (four (sets_q 1) (macro_one (codes "m") [] writes_q) (includes_template (codes "i2")) (called (codes "m")))

abbrev pub closure_again : Page
closure_again =
    with_files (five (sets_q 1) (macro_one (codes "m") [] writes_q) (includes_template (codes "i2")) (sets_q 3) (called (codes "m")))

-- t is {% if l %}<{{ l([5]) }}>{% else %}{% for x in [1] recursive %}({{ x }}){% if x == 1 %}{% set l = loop %}{% include "t" %}{% endif %}
-- {% endfor %}{% endif %}
abbrev pub loop_of_itself : Body
loop_of_itself =
    let calls = EmitExpr (with_one (codes "l") (alone_in_list (literal_number 5))) in
    let hands_on = if_two (and_one x (binary binaries.Equal (literal_number 1))) (sets (codes "l") (named (codes "loop")))
    (includes_template (codes "t")) in
    let rounds = For' (To (codes "x")) (alone_in_list (literal_number 1)) None true (tt ∷ tt ∷ tt ∷ tt ∷ [])
    (statement (raw (codes "(")) (statement (EmitExpr x) (statement (raw (codes ")")) (statement hands_on no_statement)))) no_else in
    one (if_three (named (codes "l")) (raw (codes "<")) calls (raw (codes ">")) (else_one rounds))

abbrev pub beside_itself : Page
beside_itself = record (beside (codes "t") loop_of_itself loop_of_itself) { name = codes "t" }

-- The page writes this text with this many charges, if the environment's template of this name is
-- rendered.
abbrev pub entry_world : Page → List ℕ → World
entry_world p name = first_world (host_of p) (entry name) 0 (Some 1000) p.context

abbrev pub ChargesOf : Page → List ℕ → List ℕ → ℕ → Type 0
ChargesOf p name t charges =
    let w = entry_world p name in
    (meant_from p w ≡ said t (1000 - charges) []) × (said_by (ended_from p w) ≡ said t (1000 - charges) [])

-- base3 is {{ y.z }}, k3 is {% extends "base3" %}:
-- {% if false %}{% block b %}{% include "k3" %}{% endblock %}{% endif %}ok
abbrev pub fault_in_parent : Page
fault_in_parent =
    among (template (codes "base3") (one fault) ∷ template (codes "k3") (one (extends (codes "base3"))) ∷ [])
    (two (if_one (literal_truth false) (block_one (codes "b") (includes_template (codes "k3"))) no_else) (raw (codes "ok")))

-- ---------------------------------------------------------------- imports
-- {% import "name" as m %}{{ m }}
abbrev pub importing : List ℕ → Page
importing name = with_files (two (imports_as_m (literal name)) (EmitExpr m))

-- {% import "f" as m %}{{ m.f(5) }}{{ m.q }}{{ m._p }}
abbrev pub module_members : Page
module_members =
    with_files (four (imports_as_m (literal (codes "f")))
    (EmitExpr (and_one m
    (Apply' applications.Method (codes "f") (tt ∷ []) (argument (plain (literal_number 5)) no_argument) [] no_keyword)))
    (member_of_m (codes "q")) (member_of_m (codes "_p")))

-- c.json: {% import "f" as m %}{{ m }}
abbrev pub module_in_json : Page
module_in_json = record (importing (codes "f")) { name = codes "c.json"; escape = escapes.Json }

-- {% import "f" as m %}{% for k in m %}{{ k }} {% endfor %}{{ m == m }}{{ "q" in m }}{{ m["q"] }}
abbrev pub module_as_map : Page
module_as_map =
    with_files (five (imports_as_m (literal (codes "f")))
    (For' (To (codes "k")) m None false (tt ∷ tt ∷ []) (statement (writes (codes "k")) (statement (raw (codes " ")) no_statement)) no_else)
    (EmitExpr (and_one m (binary binaries.Equal m))) (EmitExpr (and_one (literal (codes "q")) (binary binaries.In m)))
    (EmitExpr (and_one m (item (literal (codes "q"))))))

-- {% import "e" as m %}
abbrev pub nothing_imported : Page
nothing_imported = only (imports_as_m (literal (codes "e")))

-- {% import ["no", "f"] as m %}{{ m.q }}
abbrev pub second_imported : Page
second_imported = with_files (two (imports_as_m (no_or (literal (codes "f")))) (member_of_m (codes "q")))

-- {% import "f" as n.m %}, and with {% set n = namespace() %} before it and {{ n.m.q }} after it
abbrev pub imports_as_member : Stmt
imports_as_member = Import (literal (codes "f")) (Member (named (codes "n")) (codes "m"))

abbrev pub member_of_none : Page
member_of_none = only imports_as_member

abbrev pub member_of_namespace : Page
member_of_namespace =
    with_languages (with_files (three (sets (codes "n") (call_none (codes "namespace"))) imports_as_member
    (EmitExpr (chained (named (codes "n")) (tt ∷ tt ∷ []) (step (Attribute (codes "m")) (step (Attribute (codes "q")) no_step))))))

-- c is {% macro f() %}{{ z }}{% endmacro %}: {% set z = 1 %}{% import "c" as m %}{% set z = 2 %}{{ m.f() }}
abbrev pub closure_of_module : Page
closure_of_module =
    beside (codes "c") (one (macro_one (codes "f") [] (writes (codes "z"))))
    (four (sets (codes "z") (literal_number 1)) (imports_as_m (literal (codes "c"))) (sets (codes "z") (literal_number 2))
    (method_of_m (codes "f")))

-- {% from "f" import f as g, q %}{{ g(1) }}{{ q }}
abbrev pub names_imported : Page
names_imported =
    with_files (three (imports_from (codes "f") (name_for (codes "f") (codes "g") ∷ name_alone (codes "q") ∷ []))
    (EmitExpr (with_one (codes "g") (literal_number 1))) writes_q)

-- {% from "name" import x %}[{{ x }}]
abbrev pub name_imported : List ℕ → List ℕ → Page
name_imported name x = with_files (in_brackets x (imports_from name (name_alone x ∷ [])))

-- {% from "f" import q as a, q as b %}{{ a }}{{ b }}
abbrev pub imported_twice : Page
imported_twice =
    with_files (three (imports_from (codes "f") (name_for (codes "q") (codes "a") ∷ name_for (codes "q") (codes "b") ∷ []))
    (writes (codes "a")) (writes (codes "b")))

-- {% from "f" import q as a, _p as a %}{{ a }}
abbrev pub imported_over : Page
imported_over =
    with_files (two (imports_from (codes "f") (name_for (codes "q") (codes "a") ∷ name_for (codes "_p") (codes "a") ∷ []))
    (writes (codes "a")))

-- d is {% set q = 1 %}{% block a %}{{ x.y }}{% endblock %}: {% from "d" import q %}[{{ q }}], and {% import "d" as m %}
abbrev pub beside_d : Body → Page
beside_d body = beside (codes "d") (two (sets_q 1) (block_one a (EmitExpr (and_one x (Attribute (codes "y")))))) body

abbrev pub block_unheard : Page
block_unheard = beside_d (in_brackets (codes "q") (imports_from (codes "d") (name_alone (codes "q") ∷ [])))

abbrev pub block_heard : Page
block_heard = beside_d (one (imports_as_m (literal (codes "d"))))

-- ---------------------------------------------------------------- joined names
-- lib/i is ok: {% include "i" %}, with this function that joins names
abbrev pub joined_by : (List ℕ → List ℕ → Answer (List ℕ)) → Page
joined_by join = record (beside (codes "lib/i") (one (raw (codes "ok"))) (one (includes_template (codes "i")))) { join = join }

abbrev pub in_library : List ℕ → List ℕ → Answer (List ℕ)
in_library name parent = Ok (codes "lib/" ++ name)

abbrev pub joins_fail : List ErrorKind → List ℕ → List ℕ → Answer (List ℕ)
joins_fail chain name parent = Err chain
