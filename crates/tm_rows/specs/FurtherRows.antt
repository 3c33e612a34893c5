-- Pages whose objects ask for further calls of macros and blocks.
use Rattle.std.specs.Prelude.{ℕ, List, [], ◌∷◌, codes, pos, true, false}
use Rattle.tm_values.specs.Val.{Val, function, number, text}
use Rattle.tm_trees.specs.Trees.applications
use Rattle.tm_trees.specs.Trees.{Stmt, AutoEscape', Block', EmitExpr, With', no_statement, statement, no_else, To}
use Rattle.tm_meaning.specs.World.{Object, callers, languages}
use Rattle.tm_meaning.specs.declared.function.GlobalFunction.TheVariants as own
use Rattle.tm_meaning.specs.declared.reply.Reply.TheVariants.{Value as gives, Further as asks_for}
use Rattle.tm_meaning.specs.declared.reply.Call.TheVariants as further
use Rattle.tm_meaning.specs.Tree.{Body}
use Rattle.tm_rows.specs.Rows.{Page, page, one, two, nothing, literal, literal_number, raw, a, if_one, given}
use Rattle.tm_rows.specs.CallRows.{answers, call_none}
use Rattle.tm_rows.specs.FilterRows.{passed_alone}
use Rattle.tm_rows.specs.LoopRows.{alone_in_list, for_x}

-- asks for a call of this name, with these values
abbrev pub macro_of : List ℕ → List Val → Object
macro_of x given vs view = answers (asks_for (further.Macro x given))

-- asks for the block with this name
abbrev pub block_of_name : List ℕ → Object
block_of_name x vs view = answers (asks_for (further.Block x))

-- a text that is marked safe
abbrev pub safe_tag : Object
safe_tag vs view = answers (gives (text (codes "<") true))

-- A page with the functions `by_macro` and `by_range`, which ask for `tag` and for `range` of 2;
-- `by_both`, which asks for `by_macro`; `by_none`, for a name that doesn't exist; `by_loop`, for
-- `loop`; `by_block`, for the block `b`; and `by_two`, for `by_block`. A test asks for that block
-- too.
abbrev pub calling_page : Body → Page
calling_page body = record (page body nothing) {
  functions = callers (macro_of (codes "tag") []) ∷ callers safe_tag ∷ callers (macro_of (codes "range") (number (pos 2) ∷ []))
      ∷ languages own.Range ∷ callers (macro_of (codes "by_macro") []) ∷ callers (macro_of (codes "nope") [])
      ∷ callers (macro_of (codes "loop") []) ∷ callers (block_of_name (codes "b")) ∷ callers (macro_of (codes "by_block") []) ∷ [];
  globals = (codes "by_block", function 7) ∷ (codes "by_both", function 4) ∷ (codes "by_loop", function 6) ∷ (codes "by_macro", function 0)
      ∷ (codes "by_none", function 5) ∷ (codes "by_range", function 2) ∷ (codes "by_two", function 8) ∷ (codes "range", function 3)
      ∷ (codes "tag", function 1) ∷ [];
  tests = (codes "block", block_of_name (codes "b")) ∷ [];
}

abbrev pub emitted_call : List ℕ → Stmt
emitted_call x = EmitExpr (call_none x)

-- {{ x() }}
abbrev pub further_by : List ℕ → Page
further_by x = calling_page (one (emitted_call x))

abbrev pub escaped : Stmt → Stmt
escaped s = AutoEscape' (literal (codes "html")) (tt ∷ []) (statement s no_statement)

-- {% autoescape "html" %}{{ x() }}{% endautoescape %}
abbrev pub calling_escaped : List ℕ → Page
calling_escaped x = calling_page (one (escaped (emitted_call x)))

-- {% with tag = 1 %}{{ by_macro() }}{% endwith %}
abbrev pub calling_in_scope : Page
calling_in_scope =
    calling_page (one (With' (given (To (codes "tag")) (literal_number 1) ∷ []) (tt ∷ [])
    (statement (emitted_call (codes "by_macro")) no_statement)))

-- {% for x in [1] %}{{ by_loop() }}{% endfor %}
abbrev pub calling_loop : Page
calling_loop = calling_page (one (for_x (alone_in_list (literal_number 1)) (emitted_call (codes "by_loop")) no_else))

-- {% if a %}{% block b %}..{% endblock %}{% endif %}, which isn't reached
abbrev pub hidden_block : Stmt → Stmt
hidden_block s = if_one a (Block' (codes "b") false (tt ∷ []) (statement s no_statement)) no_else

-- an unreachable block with this content, and after it {% autoescape "html" %}{{ x() }}{%
-- endautoescape %}
abbrev pub calling_block : Stmt → List ℕ → Page
calling_block s x = calling_page (two (hidden_block s) (escaped (emitted_call x)))

-- the same with {{ x() }} after it
abbrev pub calling_block_plain : Stmt → List ℕ → Page
calling_block_plain s x = calling_page (two (hidden_block s) (emitted_call x))

-- the same with {{ 1 is block }} after it
abbrev pub testing_block : Stmt → Page
testing_block s = calling_page (two (hidden_block s) (EmitExpr (passed_alone applications.Test (literal_number 1) (codes "block"))))

-- {{ nope() }}
abbrev pub fails : Stmt
fails = emitted_call (codes "nope")

-- {% block b %}x{% endblock %}{{ by_block() }}
abbrev pub block_again : Page
block_again =
    calling_page (two (Block' (codes "b") false (tt ∷ []) (statement (raw (codes "x")) no_statement)) (emitted_call (codes "by_block")))
