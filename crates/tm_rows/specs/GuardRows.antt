-- Pages for the definitions that the meaning and the machine share: no proof would notice an error
-- there, but a worked example does.
use Rattle.std.specs.Prelude.{ℕ, List, [], ◌∷◌, Some, None, Ok, true, false, codes, pos, length}
use Rattle.tm_values.specs.Val.{Val, number, text, namespace, loop}
use Rattle.tm_values.specs.declared.escape.AutoEscape.{AutoEscape}
use Rattle.tm_values.specs.declared.escape.AutoEscape.TheVariants as escapes
use Rattle.tm_values.specs.declared.undefined.UndefinedBehavior.{UndefinedBehavior}
use Rattle.tm_trees.specs.Trees.{Expr, List', no_expr, Attribute, To, Stmt, EmitExpr, EmitLoop, For', Set, With', Block', AutoEscape', no_statement}
use Rattle.tm_trees.specs.Trees.{statement, no_else}
use Rattle.tm_meaning.specs.World.{Function, View, callers}
use Rattle.tm_meaning.specs.declared.reply.Reply.TheVariants.{Value as gives}
use Rattle.tm_meaning.specs.Tree.{body_of}
use Rattle.tm_rows.specs.Rows.{Page, page, nothing, with_value, named, one, two, literal, and_one, literal_number, x, raw}
use Rattle.tm_rows.specs.LoopRows.{numbers, alone_in_list, for_x}
use Rattle.tm_rows.specs.CallRows.{method_none, call_none, with_functions, answers, recursive_one}

abbrev of_loop : List ℕ → Expr
of_loop attribute = and_one (named (codes "loop")) (Attribute attribute)

abbrev for_y : Expr → Stmt → Stmt
for_y e s = For' (To (codes "y")) e None false (tt ∷ []) (statement s no_statement) no_else

-- {% for x in [1] %}{% for y in [2] %}{{ loop.depth }}{% endfor %}{% endfor %}
abbrev pub depth_inside_plain : Page
depth_inside_plain = page (one (for_x (alone_in_list (literal_number 1)) (for_y (alone_in_list (literal_number 2))
    (EmitExpr (of_loop (codes "depth")))) no_else)) nothing

-- {% for x in [1,2] %}{{ loop.changed() }}{% endfor %}
abbrev pub changed_without : Page
changed_without = page (one (for_x (numbers 1 2) (EmitExpr (method_none (named (codes "loop")) (codes "changed"))) no_else)) nothing

-- {% for loop in [1] %}{{ loop }}{% endfor %}
abbrev pub named_loop : Page
named_loop =
    page (one (For' (To (codes "loop")) (alone_in_list (literal_number 1)) None false (tt ∷ [])
    (statement (EmitExpr (named (codes "loop"))) no_statement) no_else)) nothing

-- {% for x in [1,2] %}{{ loop.attribute }};{% endfor %}
abbrev pub each_of_loop : List ℕ → Page
each_of_loop attribute =
    page (one (For' (To (codes "x")) (numbers 1 2) None false (tt ∷ tt ∷ [])
    (statement (EmitExpr (of_loop attribute)) (statement (raw (codes ";")) no_statement)) no_else)) nothing

-- {% with %}{% set a = 1 %}{{ a }}{% endwith %}{{ a }}, with a = 2 in the context
abbrev pub inner_before_outer : Page
inner_before_outer =
    page (two (With' [] (tt ∷ tt ∷ []) (statement (Set (To (codes "a")) (literal_number 1))
    (statement (EmitExpr (named (codes "a"))) no_statement)))
    (EmitExpr (named (codes "a")))) (with_value (codes "a") (number (pos 2)))

-- {{ a }}, with a = 2 in the context and a = 3 in the globals
abbrev pub context_before_globals : Page
context_before_globals = record (page (one (EmitExpr (named (codes "a")))) (with_value (codes "a") (number (pos 2))))
    { globals = (codes "a", number (pos 3)) ∷ [] }

-- {{ a }}, with a = 3 in the globals
abbrev pub of_globals : Page
of_globals = record (page (one (EmitExpr (named (codes "a")))) nothing) { globals = (codes "a", number (pos 3)) ∷ [] }

-- f returns something that it sees
abbrev seeing : (View → Val) → Function
seeing f = callers (λ vs view. answers (gives (f view)))

-- {% with %}{{ f() }}{% endwith %}, where f returns the number of scopes, the names of the globals
-- that it sees, or the template's name
abbrev pub in_scope : (View → Val) → Page
in_scope f =
    with_functions (seeing f) (seeing f)
    (page (one (With' [] (tt ∷ []) (statement (EmitExpr (call_none (codes "f"))) no_statement))) nothing)

abbrev pub scopes_seen : View → Val
scopes_seen view = number (pos (length view.frames))

abbrev pub globals_seen : View → Val
globals_seen view = number (pos (length view.globals))

abbrev pub name_seen : View → Val
name_seen view = text view.name false

abbrev shown_escape : AutoEscape → List ℕ
shown_escape escapes.None = codes "none"
shown_escape escapes.Html = codes "html"
shown_escape escapes.Json = codes "json"
shown_escape (escapes.Custom x) = codes "custom"

abbrev pub escape_seen : View → Val
escape_seen view = text (shown_escape view.escape) true

-- {% autoescape e %}{{ f() }}{% endautoescape %}, where f returns the escape that it sees
abbrev pub escape_seen_under : Expr → Page
escape_seen_under e =
    with_functions (seeing escape_seen) (seeing escape_seen)
    (page (one (AutoEscape' e (tt ∷ []) (statement (EmitExpr (call_none (codes "f"))) no_statement))) nothing)

-- {% for x in [1] %}{{ l.changed() }}{% endfor %}, where l is a loop of another state
abbrev pub foreign_changed : Page
foreign_changed =
    page (one (for_x (alone_in_list (literal_number 1)) (EmitExpr (method_none (named (codes "l")) (codes "changed"))) no_else))
    (with_value (codes "l") (loop 5 0))

-- {% for x in [[]] recursive %}{% for y in [1] %}{{ loop(x) }}{% endfor %}{% endfor %}
abbrev pub plain_inside_called : Page
plain_inside_called =
    page (one (recursive_one (alone_in_list (List' [] no_expr)) (for_y (alone_in_list (literal_number 1)) (EmitLoop x)))) nothing

-- {{ a }}, with a namespace without a record as the context
abbrev pub lost_context : Page
lost_context = page (one (EmitExpr (named (codes "a")))) (namespace 0 0)

-- {{ a }} under this behaviour, with a formatter that writes F
abbrev pub undefined_under : UndefinedBehavior → Page
undefined_under behavior = record (page (one (EmitExpr (named (codes "a")))) nothing) { undefined = behavior }

abbrev pub formatted_under : UndefinedBehavior → Expr → Page
formatted_under behavior e =
    record (page (one (EmitExpr e)) nothing) { undefined = behavior; formatter = Some (λ v view. Ok (codes "F")) }

-- {% for x in [[]] recursive %}{% block b %}{{ loop(x) }}{% endblock %}{% endfor %}: a block is another stream
abbrev pub called_in_block : Page
called_in_block =
    page (one (recursive_one (alone_in_list (List' [] no_expr)) (Block' (codes "b") false (tt ∷ []) (statement (EmitLoop x) no_statement))))
    nothing

-- {% autoescape "html" %}{% block b %}{{ "<" }}{% endblock %}{% endautoescape %}{{ "<" }}
abbrev pub block_under_escape : Page
block_under_escape =
    page (two (AutoEscape' (literal (codes "html")) (tt ∷ []) (statement (Block' (codes "b") false (tt ∷ [])
    (statement (EmitExpr (literal (codes "<"))) no_statement)) no_statement))
    (EmitExpr (literal (codes "<")))) nothing

-- {% set a = 1 %}{% block b %}{% set a = 2 %}{{ a }}{% endblock %}{{ a }}
abbrev pub stored_in_block : Page
stored_in_block =
    page (body_of (statement (Set (To (codes "a")) (literal_number 1))
    (statement (Block' (codes "b") false (tt ∷ tt ∷ []) (statement (Set (To (codes "a")) (literal_number 2))
    (statement (EmitExpr (named (codes "a"))) no_statement)))
    (statement (EmitExpr (named (codes "a"))) no_statement)))) nothing
