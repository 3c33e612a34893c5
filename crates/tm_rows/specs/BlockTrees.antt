-- Pages with blocks that extend templates.
use Rattle.std.specs.Prelude.{◌≡◌, ℕ, zero, suc, ◌-◌, List, [], ◌∷◌, ◌++◌, map as each, None, true, false, codes}
use Rattle.tm_values.specs.Val.{function, text}
use Rattle.tm_values.specs.declared.error.ErrorKind.{ErrorKind}
use Rattle.tm_values.specs.declared.escape.AutoEscape.{AutoEscape}
use Rattle.tm_values.specs.declared.escape.AutoEscape.TheVariants as escapes
use Rattle.tm_trees.specs.Trees.binaries
use Rattle.tm_trees.specs.Trees.applications
use Rattle.tm_trees.specs.Trees.{Expr, SelfBlock, no_argument, argument, no_keyword, Attribute, Apply', To, Stmt, EmitExpr, EmitBlock, EmitSuper}
use Rattle.tm_trees.specs.Trees.{Block', Extends, CaptureBlock', For', With', no_statement, statement, no_else}
use Rattle.tm_trees.specs.Trees.uses
use Rattle.tm_syntax.specs.Forms.{plain, binary}
use Rattle.tm_meaning.specs.Tree.{Body, TemplateTree, statements}
use Rattle.tm_meaning.specs.World.{Named, Object, World, callers, depth, name_of}
use Rattle.tm_meaning.specs.Inheritance.{place_in}
use Rattle.tm_meaning.specs.declared.reply.Reply.TheVariants.{Further as asks_for, Value as gives}
use Rattle.tm_meaning.specs.declared.reply.Call.TheVariants as further
use Rattle.tm_rows.specs.Rows.{Page, Says, After, host_of, trees, world_of, nothing, raw, named, one, two, literal, literal_number}
use Rattle.tm_rows.specs.Rows.{literal_truth, and_one, if_one, else_one, x}
use Rattle.tm_meaning.specs.Meaning.{Outcome}
use Rattle.tm_meaning.specs.Runs.{rendered, rendered_block, chain_of}
use Rattle.tm_rows.specs.LoopRows.{numbers, alone_in_list}
use Rattle.tm_rows.specs.CallRows.{answers, call_none}
use Rattle.tm_rows.specs.MacroTrees.{called, macro_one, macro_two, paged, sets, three, four, with_one, writes}

-- ---------------------------------------------------------------- parts
abbrev pub block_none : List ℕ → Stmt
block_none b = Block' b false [] no_statement

abbrev pub block_one : List ℕ → Stmt → Stmt
block_one b s = Block' b false (tt ∷ []) (statement s no_statement)

abbrev pub block_two : List ℕ → Stmt → Stmt → Stmt
block_two b s t = Block' b false (tt ∷ tt ∷ []) (statement s (statement t no_statement))

abbrev pub block_four : List ℕ → Stmt → Stmt → Stmt → Stmt → Stmt
block_four b s t r q =
    Block' b false (tt ∷ tt ∷ tt ∷ tt ∷ []) (statement s (statement t (statement r (statement q no_statement))))

abbrev pub extends : List ℕ → Stmt
extends parent = Extends (literal parent)

-- the block name a, used in most pages, and calls of it
abbrev pub a : List ℕ
a = codes "a"

abbrev pub super : Expr
super = call_none (codes "super")

abbrev pub self_a : Expr
self_a = SelfBlock a

abbrev pub joined : Expr → List ℕ → Expr
joined e t = and_one e (binary binaries.Concatenate (literal t))

-- y.z, with an undefined y
abbrev pub fault : Stmt
fault = EmitExpr (and_one (named (codes "y")) (Attribute (codes "z")))

-- ---------------------------------------------------------------- pages with other templates
abbrev pub template_under : AutoEscape → List ℕ → Body → List ℕ × TemplateTree
template_under escape name body = (name, record { name = name; escape = escape; root = statements body })

abbrev pub template : List ℕ → Body → List ℕ × TemplateTree
template name body = template_under escapes.None name body

-- a page of these statements, with these templates in the environment
abbrev pub among : Named TemplateTree → Body → Page
among templates body = record (paged body) { templates = templates }

-- base: B:{% block a %}x{% endblock %}
-- base2: P
-- mid: {% extends "base" %}{% block a %}m{{ super() }}{% endblock %}
-- req: {% block a required %}{% endblock %}
abbrev pub layouts : Named TemplateTree
layouts =
    template (codes "base") (two (raw (codes "B:")) (block_one a (raw (codes "x"))))
    ∷ template (codes "base2") (one (raw (codes "P")))
    ∷ template (codes "mid") (two (extends (codes "base")) (block_two a (raw (codes "m")) EmitSuper))
    ∷ template (codes "req") (one (Block' a true [] no_statement)) ∷ []

abbrev pub laid_out : Body → Page
laid_out body = among layouts body

-- a page whose only other template is q
abbrev pub with_q : Body → Body → Page
with_q q body = among (template (codes "q") q ∷ []) body

-- the name of the template after the page, and the places in its lists of blocks
abbrev pub PageEndsIn : Page → List ℕ → Type 0
PageEndsIn p name = After (λ w. name_of (host_of p) w ≡ name) p

abbrev pub places : World → List ℕ
places w = each (λ b. place_in b.0 w.places) w.blocks

-- every list of blocks is at its child's place; one zero for each list
abbrev pub AtChildren : Page → List ℕ → Type 0
AtChildren p zeros = After (λ w. places w ≡ zeros) p

-- The outcome has this text and chain, and leaves one scope, the template with this name, no block,
-- and every list of blocks at its child's place.
abbrev pub GivesIn : Page → Outcome → List ℕ → List ErrorKind → List ℕ → List ℕ → Type 0
GivesIn p o t chain name zeros =
    (o.text ≡ t) × (chain_of o ≡ chain) × (depth o.world.scopes ≡ 1) × (name_of (host_of p) o.world ≡ name) × (o.world.block ≡ None)
    × (places o.world ≡ zeros)

-- ---------------------------------------------------------------- layouts
-- {% extends "base" %}{% set y = 1 %}ignored{% block a %}[{{ super() }}{{ y }}]{% endblock %}
abbrev pub of_base : Page
of_base =
    laid_out (four (extends (codes "base")) (sets (codes "y") (literal_number 1)) (raw (codes "ignored"))
    (block_four a (raw (codes "[")) EmitSuper (writes (codes "y")) (raw (codes "]"))))

-- {% extends "mid" %}{% block a %}..{% endblock %}
abbrev pub of_mid : Stmt → Stmt → Page
of_mid s t = laid_out (two (extends (codes "mid")) (block_two a s t))

-- c{{ super() }}, and c{{ super() ~ "!" }}
abbrev pub over_mid : Page
over_mid = of_mid (raw (codes "c")) EmitSuper

abbrev pub over_mid_joined : Page
over_mid_joined = of_mid (raw (codes "c")) (EmitExpr (joined super (codes "!")))

-- {% extends "mid" %}
abbrev pub mid_alone : Page
mid_alone = laid_out (one (extends (codes "mid")))

-- ---------------------------------------------------------------- places of `extends`
-- {% if x %}{% extends "base" %}{% else %}{% extends "base2" %}{% endif %}t
abbrev pub of_either : Page
of_either = laid_out (two (if_one x (extends (codes "base")) (else_one (extends (codes "base2")))) (raw (codes "t")))

-- {% for n in [1,2] %}{{ n }}{% if n == 2 %}{% extends "base2" %}{% endif %}{% endfor %}z
abbrev pub in_round : Page
in_round =
    laid_out (two (For' (To (codes "n")) (numbers 1 2) None false (tt ∷ tt ∷ []) (statement (writes (codes "n"))
    (statement (if_one (and_one (named (codes "n")) (binary binaries.Equal (literal_number 2))) (extends (codes "base2")) no_else)
    no_statement)) no_else) (raw (codes "z")))

-- {% block a %}{% extends "base2" %}q{% endblock %}, and a statement after it
abbrev pub in_block_before : Stmt → Page
in_block_before s = laid_out (two (block_two a (extends (codes "base2")) (raw (codes "q"))) s)

-- {% macro m() %}{% extends "base2" %}q{% endmacro %}[{{ m() }}]
abbrev pub in_macro : Page
in_macro =
    laid_out (four (macro_two (codes "m") [] (extends (codes "base2")) (raw (codes "q"))) (raw (codes "[")) (called (codes "m"))
    (raw (codes "]")))

-- {% macro m() %}{% extends "base" %}{% endmacro %}{{ m() }}, and a statement after it
abbrev pub after_macro : Stmt → Page
after_macro s = laid_out (three (macro_one (codes "m") [] (extends (codes "base"))) (called (codes "m")) s)

-- ---------------------------------------------------------------- what `extends` refuses
abbrev pub extends_only : Expr → Page
extends_only e = laid_out (one (Extends e))

-- {% extends "base2" %} twice
abbrev pub two_parents : Page
two_parents = laid_out (two (extends (codes "base2")) (extends (codes "base2")))

-- {% set x %}{% extends .. %}{% endset %}
abbrev pub in_capture : List ℕ → Page
in_capture parent =
    laid_out (one (CaptureBlock' (uses.Assign (To (codes "x"))) [] (tt ∷ []) (statement (extends parent) no_statement)))

-- t, which is also in the environment: {% extends "t" %}x
abbrev pub extends_itself : Page
extends_itself =
    let body = two (extends (codes "t")) (raw (codes "x")) in
    record (among (template (codes "t") body ∷ []) body) { name = codes "t" }

-- a chain of templates, each of which extends the one before it; the first extends a template that
-- doesn't exist
abbrev pub numbered : ℕ → List ℕ
numbered n = codes "t" ++ n ∷ []

abbrev pub chained_from : ℕ → Named TemplateTree
chained_from zero = template (numbered 0) (one (raw (codes "x"))) ∷ []
chained_from (suc n) = template (numbered (suc n)) (one (extends (numbered n))) ∷ chained_from n

abbrev pub of_chain : ℕ → Page
of_chain n = among (chained_from n) (one (extends (numbered n)))

-- the same, with a block in each that calls `super()`
abbrev pub supers_from : ℕ → Named TemplateTree
supers_from zero = template (numbered 0) (one (block_one a (raw (codes "x")))) ∷ []
supers_from (suc n) = template (numbered (suc n)) (two (extends (numbered n)) (block_one a EmitSuper)) ∷ supers_from n

abbrev pub of_supers : ℕ → Page
of_supers n = among (supers_from n) (one (extends (numbered n)))

-- ---------------------------------------------------------------- blocks that call blocks
-- {% block a %}x{% endblock %}{{ self.a() }}
abbrev pub self_after : Page
self_after = paged (two (block_one a (raw (codes "x"))) (EmitBlock a))

-- {% block a %}{{ e }}{% endblock %}
abbrev pub only_block : Stmt → Page
only_block s = paged (one (block_one a s))

-- {{ super(1) }}
abbrev pub super_of_one : Stmt
super_of_one = EmitExpr (with_one (codes "super") (literal_number 1))

-- {{ super().x }}
abbrev pub super_member : Stmt
super_member = EmitExpr (and_one super (Attribute (codes "x")))

-- {{ self.a(1) }}
abbrev pub self_of_one : Stmt
self_of_one =
    EmitExpr (and_one (named (codes "self"))
    (Apply' applications.Method a (tt ∷ []) (argument (plain (literal_number 1)) no_argument) [] no_keyword))

-- p.html: {% block a %}<b>{% endblock %}{% set s = self.a() %}{{ s }}{{ self.a() ~ "" }}
abbrev pub self_as_value : Page
self_as_value = record
    (paged (four (block_one a (raw (codes "<b>"))) (sets (codes "s") self_a) (writes (codes "s")) (EmitExpr (joined self_a []))))
    { name = codes "p.html"; escape = escapes.Html }

-- {% extends "base" %}{% set s = self.a() %}{% block a %}c{% endblock %}
abbrev pub self_while_waiting : Page
self_while_waiting = laid_out (three (extends (codes "base")) (sets (codes "s") self_a) (block_one a (raw (codes "c"))))

-- {% extends "base" %}{% block a %}{% set s = super() %}[{{ s }}]{% endblock %}
abbrev pub super_as_value : Page
super_as_value =
    laid_out (two (extends (codes "base"))
    (block_four a (sets (codes "s") super) (raw (codes "[")) (writes (codes "s")) (raw (codes "]"))))

-- {% extends "q" %}{% block a %}1{{ super() }}{% endblock %}, where q is {% block a %}2{{ y.z }}{% endblock %}
abbrev pub fault_in_super : Page
fault_in_super =
    with_q (one (block_two a (raw (codes "2")) fault)) (two (extends (codes "q")) (block_two a (raw (codes "1")) EmitSuper))

-- {% extends "base" %}{{ nope() }}, and {% set s = 1 // 0 %} there
abbrev pub while_waiting : Stmt → Page
while_waiting s = laid_out (two (extends (codes "base")) s)

abbrev pub divides_by_zero : Stmt
divides_by_zero = sets (codes "s") (and_one (literal_number 1) (binary binaries.FloorDivide (literal_number 0)))

-- ---------------------------------------------------------------- required blocks
-- {% block a required %}{% endblock %}
abbrev pub required_itself : Page
required_itself = paged (one (Block' a true [] no_statement))

-- {% extends "req" %}, and {% block a %}ok{% endblock %} after it
abbrev pub required_by_parent : Page
required_by_parent = laid_out (one (extends (codes "req")))

abbrev pub required_given : Page
required_given = laid_out (two (extends (codes "req")) (block_one a (raw (codes "ok"))))

-- ---------------------------------------------------------------- scopes and escapes of a parent
-- {% set x = 1 %}{% extends "q" %}{% set x = 2 %}, where q is {{ x }}
abbrev pub set_before_parent : Page
set_before_parent =
    with_q (one (EmitExpr x)) (three (sets (codes "x") (literal_number 1)) (extends (codes "q")) (sets (codes "x") (literal_number 2)))

-- {% extends "q" %}{% block a %}{{ x }}{% endblock %}, where q is
-- {% set x = 4 %}{% block a %}{% endblock %}{% with x = 5 %}{% block b %}{% endblock %}{{ self.a() }}{% endwith %}
abbrev pub in_scope_of_parent : Page
in_scope_of_parent =
    with_q (three (sets (codes "x") (literal_number 4)) (block_none a)
    (With' (record { target = To (codes "x"); value = literal_number 5 } ∷ []) (tt ∷ tt ∷ [])
    (statement (block_none (codes "b")) (statement (EmitBlock a) no_statement))))
    (two (extends (codes "q")) (block_one a (EmitExpr x)))

-- {% extends "q" %}{% block a %}{{ n }}{% endblock %}, where q is {% for n in [1,2] %}{% block a %}{% endblock %}{% endfor %}
abbrev pub in_loop_of_parent : Page
in_loop_of_parent =
    with_q (one (For' (To (codes "n")) (numbers 1 2) None false (tt ∷ []) (statement (block_none a) no_statement) no_else))
    (two (extends (codes "q")) (block_one a (writes (codes "n"))))

-- {% extends "q" %}{% macro f() %}M{% endmacro %}{% block a %}{{ f() }}{% endblock %}, where q is {% block a %}{% endblock %}{{ f() }}
abbrev pub macro_of_child : Page
macro_of_child =
    with_q (two (block_none a) (called (codes "f")))
    (three (extends (codes "q")) (macro_one (codes "f") [] (raw (codes "M"))) (block_one a (called (codes "f"))))

-- {% extends "p" %}{% block a %}{{ "<" }}{% endblock %}, where p is {{ "<" }}{% block a %}{% endblock %}, under these escapes
abbrev pub emits_tag : Stmt
emits_tag = EmitExpr (literal (codes "<"))

abbrev pub escaped_by_child : AutoEscape → AutoEscape → Page
escaped_by_child of_parent of_child =
    record (among (template_under of_parent (codes "p") (two emits_tag (block_none a)) ∷ [])
    (two (extends (codes "p")) (block_one a emits_tag))) { escape = of_child }

-- ---------------------------------------------------------------- blocks rendered by a state
-- {% if false %}{% block b %}{% for x in [1] %}{{ y.z }}{% endfor %}{% endblock %}{% endif %}ok
abbrev pub fault_in_hidden : Page
fault_in_hidden =
    let rounds = For' (To (codes "x")) (alone_in_list (literal_number 1)) None false (tt ∷ []) (statement fault no_statement) no_else in
    paged (two (if_one (literal_truth false) (block_one (codes "b") rounds) no_else) (raw (codes "ok")))

-- Asked twice for a block, the state after the page gives this result each time, and stays in the
-- same template.
abbrev pub GivesTwice : Page → List ℕ → List ℕ → List ErrorKind → List ℕ → List ℕ → Type 0
GivesTwice p b t chain name zeros =
    let w = (rendered (host_of p) (trees p) (world_of p None)).world in
    let first = rendered_block (host_of p) (trees p) b w in
    let last = rendered_block (host_of p) (trees p) b first.world in
    GivesIn p first t chain name zeros × GivesIn p last t chain name zeros

-- ---------------------------------------------------------------- blocks by further calls
-- asks for the block that its argument names
abbrev pub asks_for_block : Object
asks_for_block (text b safe ∷ []) view = answers (asks_for (further.Block b))
asks_for_block vs view = answers (gives nothing)

-- {{ f(name) }}{% block a %}<{% endblock %}, where f asks for the block with this name
abbrev pub calls_block : AutoEscape → List ℕ → Page
calls_block escape b = record
    (paged (two (EmitExpr (with_one (codes "f") (literal b))) (block_one a (raw (codes "<")))))
    { escape = escape; functions = callers asks_for_block ∷ []; globals = (codes "f", function 0) ∷ [] }
