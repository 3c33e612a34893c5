-- Pages with filters and tests.
use Rattle.std.specs.Prelude.{◌≡◌, ℕ, ◌-◌, ◌%◌, List, [], ◌∷◌, ◌++◌, None, Some, true, false, codes, drop, take, pos, nat_lt}
use Rattle.std.specs.Prelude.{nat_eq, ◌&&◌, map as each}
use Rattle.std.specs.Prelude.{if◌then◌else◌}
use Rattle.tm_values.specs.Val.{Val, undefined, boolean, number, text, function}
use Rattle.tm_values.specs.Order.{bytes_in}
use Rattle.tm_values.specs.declared.error.ErrorKind.{ErrorKind}
use Rattle.tm_values.specs.declared.error.ErrorKind.TheVariants.{MissingArgument}
use Rattle.tm_trees.specs.Instructions.{Instruction}
use Rattle.tm_trees.specs.Instructions.instructions as i
use Rattle.tm_values.specs.declared.undefined.UndefinedBehavior.{UndefinedBehavior}
use Rattle.tm_trees.specs.Trees.{Application, Expr, no_argument, argument, no_keyword, no_step, step, Step, Apply', Stmt, EmitExpr, Break}
use Rattle.tm_trees.specs.Trees.{CaptureBlock', With', AutoEscape', no_statement, statement, no_else}
use Rattle.tm_trees.specs.Trees.applications
use Rattle.tm_trees.specs.Trees.unaries
use Rattle.tm_trees.specs.Trees.uses
use Rattle.tm_syntax.specs.Forms.{chained, plain, unary}
use Rattle.tm_definitions.specs.Members.{or_undefined}
use Rattle.tm_meaning.specs.World.{Object, callers, find}
use Rattle.tm_rows.specs.CallRows.{answers, call_none}
use Rattle.tm_meaning.specs.declared.reply.Reply.{Reply}
use Rattle.tm_meaning.specs.declared.reply.Reply.TheVariants.{Value as gives, Fault as faults, Further as asks_for}
use Rattle.tm_meaning.specs.declared.reply.Call.TheVariants as further
use Rattle.tm_meaning.specs.Tree.{Body}
use Rattle.tm_meaning.specs.Calls.{whole}
use Rattle.tm_meaning.specs.Machine.{Program, base_of}
use Rattle.tm_meaning.specs.Steps.{run_for, begins}
use Rattle.tm_rows.specs.Rows.{Page, page, one, two, nothing, literal, literal_number, and_one, raw, to_x, x, Said, said_by}
use Rattle.tm_rows.specs.Rows.{host_of, world_of}
use Rattle.tm_rows.specs.LoopRows.{for_x, numbers}

-- ---------------------------------------------------------------- objects
abbrev pub first_of : List Val → Val
first_of [] = nothing
first_of (v ∷ vs) = v

abbrev pub whole_of : Val → ℕ
whole_of (number (pos n)) = n
whole_of v = 0

abbrev pub capital : ℕ → ℕ
capital c = if nat_lt 96 c && nat_lt c 123 then c - 32 else c

-- the first argument in upper case
abbrev pub upper : Object
upper vs view = answers (gives (text (each capital (bytes_in (first_of vs))) false))

-- the second argument
abbrev pub second : Object
second (v ∷ x ∷ vs) view = answers (gives x)
second vs view = answers (gives nothing)

-- the part of the first argument from the index in the second argument on, up to that in the third
-- argument, if there is one
abbrev pub substr : Object
substr (v ∷ from ∷ []) view = answers (gives (text (drop (whole_of from) (bytes_in v)) false))
substr (v ∷ from ∷ to ∷ vs) view =
    answers (gives (text (take (whole_of to - whole_of from) (drop (whole_of from) (bytes_in v))) false))
substr vs view = answers (gives nothing)

-- the first argument, marked safe
abbrev pub safe : Object
safe vs view = answers (gives (text (bytes_in (first_of vs)) true))

-- whether the first argument is odd
abbrev pub odd : Object
odd vs view = answers (gives (boolean (nat_eq (whole_of (first_of vs) % 2) 1)))

-- whether the first argument is divisible by the second
abbrev pub divisible : Object
divisible (v ∷ x ∷ vs) view = answers (gives (boolean (nat_eq (whole_of v % whole_of x) 0)))
divisible vs view = answers (gives nothing)

-- returns undefined
abbrev pub unsure : Object
unsure vs view = answers (gives (undefined false))

-- ---------------------------------------------------------------- pages
abbrev pub filter_page : Body → Page
filter_page body = record (page body nothing) {
  filters = (codes "safe", safe) ∷ (codes "second", second) ∷ (codes "substr", substr) ∷ (codes "upper", upper) ∷ [];
  tests = (codes "divisible", divisible) ∷ (codes "odd", odd) ∷ (codes "u", unsure) ∷ [];
}

abbrev pub filtering : Expr → Page
filtering e = filter_page (one (EmitExpr e))

abbrev pub under : UndefinedBehavior → Page → Page
under behavior p = record p { undefined = behavior }

-- a name applied to a value, alone, and with one more argument
abbrev pub passed_alone : Application → Expr → List ℕ → Expr
passed_alone k e x = and_one e (Apply' k x [] no_argument [] no_keyword)

abbrev pub passed_with : Application → Expr → List ℕ → Expr → Expr
passed_with k e x a = and_one e (Apply' k x (tt ∷ []) (argument (plain a) no_argument) [] no_keyword)

-- {{ "a"|upper }}
abbrev pub in_capitals : Page
in_capitals = filtering (passed_alone applications.Filter (literal (codes "a")) (codes "upper"))

-- {{ 1|second("b")|upper }}
abbrev pub one_after_the_other : Page
one_after_the_other =
    filtering (chained (literal_number 1) (tt ∷ tt ∷ [])
    (step (Apply' applications.Filter (codes "second") (tt ∷ []) (argument (plain (literal (codes "b"))) no_argument) [] no_keyword)
    (step (Apply' applications.Filter (codes "upper") [] no_argument [] no_keyword) no_step)))

-- {{ 1 is not odd }}
abbrev pub not_odd : Page
not_odd = filtering (passed_alone applications.NegatedTest (literal_number 1) (codes "odd"))

abbrev pub six_by_three : Expr
six_by_three = passed_with applications.Test (literal_number 6) (codes "divisible") (literal_number 3)

-- {{ 6 is divisible 3 }}
abbrev pub divided : Page
divided = filtering six_by_three

-- {{ not 6 is divisible 3 }}
abbrev pub not_divided : Page
not_divided = filtering (unary unaries.Not six_by_three)

-- {{ 1 is u }}
abbrev pub is_unsure : Page
is_unsure = filtering (passed_alone applications.Test (literal_number 1) (codes "u"))

-- an unknown name of this kind
abbrev pub unknown : Application → List ℕ → Page
unknown k x = filtering (passed_alone k (literal_number 1) x)

-- ---------------------------------------------------------------- filters of captures
abbrev pub to_capitals : Step
to_capitals = Apply' applications.Filter (codes "upper") [] no_argument [] no_keyword

abbrev pub to_safe : Step
to_safe = Apply' applications.Filter (codes "safe") [] no_argument [] no_keyword

-- from the second character on
abbrev pub rest_of_text : Step
rest_of_text = Apply' applications.Filter (codes "substr") (tt ∷ []) (argument (plain (literal_number 1)) no_argument) [] no_keyword

abbrev pub filter_text : List Step → List ℕ → Stmt
filter_text filters t = CaptureBlock' uses.Emit filters (tt ∷ []) (statement (raw t) no_statement)

-- {% filter upper %}a{{ "1" }}b{% endfilter %}
abbrev pub filter_block : Page
filter_block =
    filter_page (one (CaptureBlock' uses.Emit (to_capitals ∷ []) (tt ∷ tt ∷ tt ∷ []) (statement (raw (codes "a"))
    (statement (EmitExpr (literal (codes "1"))) (statement (raw (codes "b")) no_statement)))))

-- {% filter upper|substr(1) %}ab{% endfilter %}
abbrev pub two_filters : Page
two_filters = filter_page (one (filter_text (to_capitals ∷ rest_of_text ∷ []) (codes "ab")))

-- {% filter upper|second("b") %}a{% endfilter %}
abbrev pub last_counts : Page
last_counts =
    filter_page (one (filter_text (to_capitals ∷ Apply' applications.Filter (codes "second") (tt ∷ []) (argument
    (plain (literal (codes "b"))) no_argument) [] no_keyword ∷ []) (codes "a")))

abbrev pub in_html : Stmt → Page
in_html s = filter_page (one (AutoEscape' (literal (codes "html")) (tt ∷ []) (statement s no_statement)))

-- {% autoescape "html" %}{% filter upper %}<b>{% endfilter %}{% endautoescape %}
abbrev pub capitals_in_html : Page
capitals_in_html = in_html (filter_text (to_capitals ∷ []) (codes "<b>"))

-- {% autoescape "html" %}{% filter safe %}<b>{{ "<i>" }}{% endfilter %}{% endautoescape %}
abbrev pub safe_in_html : Page
safe_in_html =
    in_html (CaptureBlock' uses.Emit (to_safe ∷ []) (tt ∷ tt ∷ []) (statement (raw (codes "<b>"))
    (statement (EmitExpr (literal (codes "<i>"))) no_statement)))

-- {% set x | upper | substr(1) %}ab{% endset %}{{ x }}
abbrev pub set_filtered : Page
set_filtered =
    filter_page (two (CaptureBlock' to_x (to_capitals ∷ rest_of_text ∷ []) (tt ∷ []) (statement (raw (codes "ab")) no_statement))
    (EmitExpr x))

-- {% for x in [1,2] %}{% filter upper %}{% break %}{% endfilter %}{% endfor %}!
abbrev pub break_in_filter : Page
break_in_filter =
    filter_page (two (for_x (numbers 1 2) (CaptureBlock' uses.Emit (to_capitals ∷ []) (tt ∷ []) (statement Break no_statement)) no_else)
    (raw (codes "!")))

-- a{% filter upper %}b{{ 1|nope }}{% endfilter %}
abbrev pub fault_in_filter : Page
fault_in_filter =
    filter_page (two (raw (codes "a")) (CaptureBlock' uses.Emit (to_capitals ∷ []) (tt ∷ tt ∷ []) (statement (raw (codes "b"))
    (statement (EmitExpr (passed_alone applications.Filter (literal_number 1) (codes "nope"))) no_statement))))

-- ---------------------------------------------------------------- further calls
-- `upper` applied to this text
abbrev pub capitals_of : List ℕ → Reply
capitals_of t = asks_for (further.Filter (codes "upper") (text t false ∷ []))

-- asks for `upper` of a
abbrev pub capital_a : Object
capital_a vs view = answers (capitals_of (codes "a"))

-- asks for `upper` of its text doubled
abbrev pub twice : Object
twice vs view = answers (capitals_of (bytes_in (first_of vs) ++ bytes_in (first_of vs)))

-- asks for itself with the same arguments
abbrev pub again : Object
again vs view = answers (asks_for (further.Filter (codes "again") vs))

-- keeps 1 as k, and fails
abbrev pub kept : Object
kept vs view = record { temps = (codes "k", number (pos 1)) ∷ []; reply = faults (MissingArgument ∷ []) }

-- keeps 1 as k, and asks for the filter with this name
abbrev pub keeps_and_asks : List ℕ → Object
keeps_and_asks x vs view = record {
  temps = (codes "k", number (pos 1)) ∷ [];
  reply = asks_for (further.Filter x vs);
}

-- the value kept as k
abbrev pub kept_at_k : Object
kept_at_k vs view = answers (gives (or_undefined (find (codes "k") view.temps)))

-- a page with these filters, and a function that asks for a further call
abbrev pub further_page : Body → Page
further_page body = record (filter_page body) {
  functions = callers capital_a ∷ [];
  globals = (codes "f", function 0) ∷ [];
  filters = (codes "again", again) ∷ (codes "kept", kept) ∷ (codes "read", kept_at_k) ∷ (codes "twice", twice)
      ∷ (codes "unknown", keeps_and_asks (codes "nope")) ∷ (codes "upper", upper) ∷ (codes "with_k", keeps_and_asks (codes "read")) ∷ [];
  tests = (codes "upper", capital_a) ∷ [];
}

abbrev pub with_limit : ℕ → Page → Page
with_limit n p = record p { limit = n }

-- {{ f() }}
abbrev pub further_of_function : Page
further_of_function = further_page (one (EmitExpr (call_none (codes "f"))))

-- {{ "a"|x }}
abbrev pub further_of : List ℕ → Page
further_of x = further_page (one (EmitExpr (passed_alone applications.Filter (literal (codes "a")) x)))

-- {{ "" is upper }}
abbrev pub further_of_test : Page
further_of_test = further_page (one (EmitExpr (passed_alone applications.Test (literal []) (codes "upper"))))

-- {% with %}{{ f() }}{% endwith %}
abbrev pub further_within : Page
further_within =
    further_page (one (With' [] (tt ∷ []) (statement (EmitExpr (call_none (codes "f"))) no_statement)))

-- ---------------------------------------------------------------- cache numbers
-- The result of running this code, with the filters and tests of a page.
abbrev pub ran_alone : List Instruction → Said
ran_alone code =
    let p : Program = record { host = host_of in_capitals; code = λ s. code } in
    let w = world_of in_capitals None in
    let f = base_of true [] w in
    said_by (run_for 20 p f [] (begins p f (whole w.stream) [] w))

-- a name and its cache number
abbrev pub upper_by : ℕ → List ℕ × ℕ
upper_by n = (codes "upper", n)

abbrev pub second_by : ℕ → List ℕ × ℕ
second_by n = (codes "second", n)

abbrev pub odd_by : ℕ → List ℕ × ℕ
odd_by n = (codes "odd", n)

abbrev pub unsure_by : ℕ → List ℕ × ℕ
unsure_by n = (codes "u", n)

abbrev pub filter_by : List ℕ × ℕ → Instruction
filter_by named = i.ApplyFilter named.0 (Some 1) named.1

-- "a" passed through filters with these names and cache numbers
abbrev pub filtered_by : List (List ℕ × ℕ) → Said
filtered_by uses = ran_alone (i.LoadConst (text (codes "a") false) ∷ (each filter_by uses ++ i.Emit ∷ []))

abbrev pub test_by : List ℕ × ℕ → Instruction
test_by named = i.PerformTest named.0 (Some 1) named.1

-- 1 passed to a test, and each result to the next test
abbrev pub tested_by : List (List ℕ × ℕ) → Said
tested_by uses = ran_alone (i.LoadConst (number (pos 1)) ∷ (each test_by uses ++ i.Emit ∷ []))

abbrev pub EndsIn : Said → List ℕ → List ErrorKind → Type 0
EndsIn s t chain = (s.text ≡ t) × (s.chain ≡ chain)
