-- Pages with several templates, and streams, for the definitions that the meaning and the machine
-- share: no proof would notice an error there, but a worked example does.
use Rattle.std.specs.Prelude.{ℕ, List, [], ◌∷◌, ◌++◌, Some, None, Ok, true, false, codes, pos}
use Rattle.tm_values.specs.Answer.{Answer}
use Rattle.tm_values.specs.Val.{none, number, text, list, vals_of}
use Rattle.tm_values.specs.declared.escape.AutoEscape.TheVariants as escapes
use Rattle.tm_trees.specs.Instructions.{Instruction}
use Rattle.tm_trees.specs.Instructions.instructions as i
use Rattle.tm_trees.specs.Trees.{Expr, Const, List', no_expr, To, Stmt, EmitExpr, EmitLoop, EmitSuper, AutoEscape', Block', For', Import, Include}
use Rattle.tm_trees.specs.Trees.{With', no_statement, statement, no_else}
use Rattle.tm_syntax.specs.Code.{for_flags}
use Rattle.tm_meaning.specs.Tree.{Body, TemplateTree}
use Rattle.tm_meaning.specs.World.{Named}
use Rattle.tm_rows.specs.Rows.{Page, Said, nothing, raw, named, one, two, literal, literal_number, literal_truth, given, set_text}
use Rattle.tm_rows.specs.Rows.{with_value, x}
use Rattle.tm_rows.specs.LoopRows.{numbers, alone_in_list}
use Rattle.tm_rows.specs.CallRows.{method_two, recursive_one}
use Rattle.tm_rows.specs.MacroTrees.{called, m, macro_one, macro_two, paged, parameter, sets, three, four, with_one, writes}
use Rattle.tm_rows.specs.BlockTrees.{a, among, block_none, block_one, block_two, emits_tag, extends, laid_out, template}
use Rattle.tm_rows.specs.BlockRows.{run_before}
use Rattle.tm_rows.specs.IncludeTrees.{beside, includes_template, imports_from, name_alone}

-- ---------------------------------------------------------------- includes around `super()`
abbrev block_three : List ℕ → Stmt → Stmt → Stmt → Stmt
block_three b s t r = Block' b false (tt ∷ tt ∷ tt ∷ []) (statement s (statement t (statement r no_statement)))

-- i: {% block a %}i{% endblock %}
abbrev with_own_block : List ℕ × TemplateTree
with_own_block = template (codes "i") (one (block_one a (raw (codes "i"))))

-- base: {% block a %}x{% endblock %}
abbrev plain_base : List ℕ × TemplateTree
plain_base = template (codes "base") (one (block_one a (raw (codes "x"))))

-- {% extends "mid" %}{% block a %}c{{ super() }}{% endblock %}
abbrev extends_mid : Body
extends_mid = two (extends (codes "mid")) (block_two a (raw (codes "c")) EmitSuper)

-- base is {% block a %}[{% include "i" %}]{% endblock %}: {% extends "base" %}{% block a %}x{{ super() }}{% endblock %}
abbrev pub included_by_super : Page
included_by_super =
    among
    (template (codes "base") (one (block_three a (raw (codes "[")) (includes_template (codes "i")) (raw (codes "]"))))
    ∷ with_own_block ∷ [])
    (two (extends (codes "base")) (block_two a (raw (codes "x")) EmitSuper))

-- mid is {% extends "base" %}{% block a %}m{% include "i" %}{{ super() }}{% endblock %}:
-- {% extends "mid" %}{% block a %}c{{ super() }}{% endblock %}
abbrev pub super_after_include : Page
super_after_include =
    among
    (plain_base ∷ with_own_block
    ∷ template (codes "mid") (two (extends (codes "base")) (block_three a (raw (codes "m")) (includes_template (codes "i")) EmitSuper))
    ∷ [])
    extends_mid

-- k is {% extends "kb" %}{% block a %}1{% endblock %}, kb is {% block a %}2{% endblock %}{{ super() }}:
-- {% block a %}{% include "k" %}{% endblock %}
abbrev pub super_by_included : Page
super_by_included =
    among
    (template (codes "k") (two (extends (codes "kb")) (block_one a (raw (codes "1"))))
    ∷ template (codes "kb") (two (block_one a (raw (codes "2"))) EmitSuper) ∷ [])
    (one (block_one a (includes_template (codes "k"))))

-- {% extends "base" %}{% block a %}{% include "no" ignore missing %}{{ super() }}{% endblock %}
abbrev pub super_after_missing : Page
super_after_missing = laid_out (two (extends (codes "base")) (block_two a (Include (literal (codes "no")) true) EmitSuper))

-- ---------------------------------------------------------------- `super()` and macros
-- {% macro m() %}{{ super() }}{% endmacro %}
abbrev m_calls_super : Stmt
m_calls_super = macro_one m [] EmitSuper

-- {% extends "base" %}{% macro m() %}{{ super() }}{% endmacro %}{% block a %}{{ m() }}{% endblock %}
abbrev pub super_in_macro : Page
super_in_macro = laid_out (three (extends (codes "base")) m_calls_super (block_one a (called m)))

-- mid is {% extends "base" %}{% macro m() %}{{ super() }}{% endmacro %}{% block a %}m{{ m() }}{% endblock %}:
-- {% extends "mid" %}{% block a %}c{{ super() }}{% endblock %}
abbrev pub super_in_macro_below : Page
super_in_macro_below =
    among
    (plain_base
    ∷ template (codes "mid") (three (extends (codes "base")) m_calls_super (block_two a (raw (codes "m")) (called m))) ∷ [])
    extends_mid

-- {% extends "base" %}{% macro m() %}M{% endmacro %}{% block a %}{{ m() }}{{ super() }}{% endblock %}
abbrev pub super_after_macro : Page
super_after_macro =
    laid_out (three (extends (codes "base")) (macro_one m [] (raw (codes "M"))) (block_two a (called m) EmitSuper))

-- ---------------------------------------------------------------- joined names
-- a name is in the directory that the other name denotes
abbrev in_parent : List ℕ → List ℕ → Answer (List ℕ)
in_parent name parent = Ok (parent ++ (codes "/" ++ name))

-- t/base: [{% block a %}{% endblock %}{% include "j" %}]
-- t/base/j: J
-- t/e: {% extends "b" %}
-- t/e/b: E
-- t/i: ({% include "j" %})
-- t/i/j: I
-- t/j: T
-- t/m: {% macro m() %}{% include "j" %}{% endmacro %}
-- t/m/j: M
-- t/n: {% import "o" as o %}{{ o }}
-- t/n/o: N
abbrev folders : Named TemplateTree
folders =
    let includes_j = includes_template (codes "j") in
    template (codes "t/base") (four (raw (codes "[")) (block_none a) includes_j (raw (codes "]")))
    ∷ template (codes "t/base/j") (one (raw (codes "J")))
    ∷ template (codes "t/e") (one (extends (codes "b")))
    ∷ template (codes "t/e/b") (one (raw (codes "E")))
    ∷ template (codes "t/i") (three (raw (codes "(")) includes_j (raw (codes ")")))
    ∷ template (codes "t/i/j") (one (raw (codes "I")))
    ∷ template (codes "t/j") (one (raw (codes "T")))
    ∷ template (codes "t/m") (one (macro_one m [] includes_j))
    ∷ template (codes "t/m/j") (one (raw (codes "M")))
    ∷ template (codes "t/n") (two (Import (literal (codes "o")) (To (codes "o"))) (writes (codes "o")))
    ∷ template (codes "t/n/o") (one (raw (codes "N"))) ∷ []

-- a page t with these templates
abbrev in_folder : Body → Page
in_folder body = record (among folders body) { name = codes "t"; join = in_parent }

-- {% include "i" %}{% include "j" %}
abbrev pub joined_in_included : Page
joined_in_included = in_folder (two (includes_template (codes "i")) (includes_template (codes "j")))

-- {% extends "base" %}{% block a %}{% include "j" %}{% endblock %}
abbrev pub joined_in_block : Page
joined_in_block = in_folder (two (extends (codes "base")) (block_one a (includes_template (codes "j"))))

-- {% include "e" %}, {% include "n" %}
abbrev pub joined_by_included : List ℕ → Page
joined_by_included name = in_folder (one (includes_template name))

-- {% from "m" import m %}{{ m() }}{% include "j" %}
abbrev pub joined_in_macro : Page
joined_in_macro = in_folder (three (imports_from (codes "m") (name_alone m ∷ [])) (called m) (includes_template (codes "j")))

-- ---------------------------------------------------------------- escapes
-- a page under Json
abbrev in_json : Body → Page
in_json body = record (paged body) { name = codes "page.json"; escape = escapes.Json }

abbrev under : Expr → Stmt → Stmt
under e s = AutoEscape' e (tt ∷ []) (statement s no_statement)

-- {% autoescape true %}..{% endautoescape %}
abbrev switched_on : Stmt → Stmt
switched_on s = under (literal_truth true) s

-- {% autoescape true %}{{ "<" }}{% endautoescape %}
abbrev tag_under_true : Stmt
tag_under_true = switched_on emits_tag

-- {% set x %}"{% endset %}{{ x }}
abbrev pub captured_in_json : Page
captured_in_json = in_json (two (set_text (codes "\"")) (EmitExpr x))

-- {% macro m() %}"{% endmacro %}{{ m() }}
abbrev pub macro_in_json : Page
macro_in_json = in_json (two (macro_one m [] (raw (codes "\""))) (called m))

-- {% autoescape "html" %}{% autoescape true %}{{ none }}{% endautoescape %}{% endautoescape %}:
-- only Json writes none as null
abbrev pub true_in_json : Page
true_in_json = in_json (one (under (literal (codes "html")) (switched_on (EmitExpr (Const none)))))

-- {% autoescape "json" %}{% autoescape true %}{{ "<" }}{% endautoescape %}{% endautoescape %}, without an escape
abbrev pub true_in_plain : Page
true_in_plain = paged (one (under (literal (codes "json")) tag_under_true))

-- i, without an escape, is {% autoescape true %}{{ "<" }}{% endautoescape %}: {% include "i" %}
abbrev pub true_in_included : Page
true_in_included =
    record (beside (codes "i") (one tag_under_true) (one (includes_template (codes "i"))))
    { name = codes "page.json"; escape = escapes.Json }

-- {% autoescape "html" %}{% block b %}{% autoescape true %}{{ "<" }}{% endautoescape %}{% endblock %}{% endautoescape %}, and under "none"
abbrev pub true_in_block : List ℕ → Page
true_in_block name = in_json (one (under (literal name) (block_one (codes "b") tag_under_true)))

-- {% macro m() %}{% autoescape true %}{{ "<" }}{% endautoescape %}{% endmacro %}{% autoescape "html" %}{{ m() }}{% endautoescape %}
abbrev pub true_in_macro : Page
true_in_macro = in_json (two (macro_one m [] tag_under_true) (under (literal (codes "html")) (called m)))

-- ---------------------------------------------------------------- scopes of macros
-- a page with one other template, u: {{ x }}, and with x = 5 in the context
abbrev with_five : Body → Page
with_five body =
    record (among (template (codes "u") (one (EmitExpr x)) ∷ []) body) { context = with_value (codes "x") (number (pos 5)) }

-- {% macro m() %}{% include "u" %}{% endmacro %}
abbrev m_shows_x : Stmt
m_shows_x = macro_one m [] (includes_template (codes "u"))

-- {% macro m() %}{% include "u" %}{% endmacro %}{% with x = 1 %}{{ m() }}{% endwith %}
abbrev called_beside_one : Body
called_beside_one = two m_shows_x (With' (given (To (codes "x")) (literal_number 1) ∷ []) (tt ∷ []) (statement (called m) no_statement))

abbrev pub sees_context : Page
sees_context = with_five called_beside_one

-- the same without a context, and with x = 3 in the globals
abbrev pub sees_globals : Page
sees_globals = record sees_context { context = nothing; globals = (codes "x", number (pos 3)) ∷ [] }

-- {% macro m() %}{% include "u" %}{% endmacro %}{% macro n(x) %}{{ m() }}{% endmacro %}{{ n(1) }}
abbrev pub sees_context_below : Page
sees_context_below =
    with_five (three m_shows_x (macro_one (codes "n") (parameter (codes "x") ∷ []) (called m))
    (EmitExpr (with_one (codes "n") (literal_number 1))))

-- {% set x = 1 %}{% macro m() %}{{ x }}{% include "u" %}{% endmacro %}{{ m() }}
abbrev pub sees_closure : Page
sees_closure =
    with_five (three (sets (codes "x") (literal_number 1)) (macro_two m [] (EmitExpr x) (includes_template (codes "u"))) (called m))

-- {% macro m() %}{{ loop([]) }}{% endmacro %}{% for x in [1] recursive %}{{ m() }}{% endfor %}
abbrev pub calls_loop_around : Page
calls_loop_around = paged (two (macro_one m [] (EmitLoop (List' [] no_expr))) (recursive_one (alone_in_list (literal_number 1)) (called m)))

-- ---------------------------------------------------------------- loops before their first item
-- {% for y in [1,2] %}{% for x in [7] if loop.cycle(true, false) %}{{ x }}{% endfor %};{% endfor %}
abbrev pub cycle_in_condition : Page
cycle_in_condition =
    let is_turn = method_two (named (codes "loop")) (codes "cycle") (literal_truth true) (literal_truth false) in
    let inner = For' (To (codes "x")) (alone_in_list (literal_number 7)) (Some is_turn) false (tt ∷ [])
    (statement (EmitExpr x) no_statement) no_else in
    paged (one (For' (To (codes "y")) (numbers 1 2) None false (tt ∷ tt ∷ []) (statement inner (statement (raw (codes ";")) no_statement))
    no_else))

-- Before its first item, a loop over [1] is asked this, and the answer is written; the item is
-- never taken. No source has such code.
abbrev pub asked_before_first : List Instruction → Said
asked_before_first asking =
    run_before (i.LoadConst (list (vals_of (number (pos 1) ∷ []))) ∷ i.PushLoop (for_flags false) ∷ i.Lookup (codes "loop")
    ∷ (asking ++ i.Emit ∷ i.PopLoopFrame ∷ [])) []

-- whether loop.cycle("a") is undefined
abbrev pub is_no_turn : List Instruction
is_no_turn = i.LoadConst (text (codes "a") false) ∷ i.CallMethod (codes "cycle") (Some 2) ∷ i.IsUndefined ∷ []

-- loop.changed("a")
abbrev pub is_changed_first : List Instruction
is_changed_first = i.LoadConst (text (codes "a") false) ∷ i.CallMethod (codes "changed") (Some 2) ∷ []

-- whether an attribute of the loop is undefined
abbrev pub is_no_attribute : List ℕ → List Instruction
is_no_attribute attribute = i.GetAttr attribute ∷ i.IsUndefined ∷ []
