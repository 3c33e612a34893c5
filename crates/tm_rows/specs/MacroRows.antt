-- Streams with macros, and how their runs end.
use Rattle.std.specs.Prelude.{◌≡◌, ℕ, ◌+◌, ◌-◌, pos, List, [], ◌∷◌, ◌++◌, length, map as each, Option, None, Some, Bool, true, false, codes}
use Rattle.tm_values.specs.Val.{MacroData, Val, number, text, list, keywords, function, macro, vals_of, pairs_of}
use Rattle.tm_values.specs.declared.error.ErrorKind.{ErrorKind}
use Rattle.tm_values.specs.declared.escape.AutoEscape.{AutoEscape}
use Rattle.tm_values.specs.declared.escape.AutoEscape.TheVariants as escapes
use Rattle.tm_trees.specs.Instructions.{Instruction}
use Rattle.tm_trees.specs.Instructions.instructions as i
use Rattle.tm_meaning.specs.World.{callers, with_escape}
use Rattle.tm_meaning.specs.Calls.{whole, bound_to}
use Rattle.tm_meaning.specs.Machine.{Program, base_of}
use Rattle.tm_meaning.specs.Steps.{Final, begins, run_for}
use Rattle.tm_rows.specs.Rows.{Page, Said, said, said_by, left_by, empty, host_of, world_of}
use Rattle.tm_rows.specs.FurtherRows.{macro_of}

-- A page without a tree, with this limit, and a function `f` that asks for the macro `m` with 5.
abbrev pub under_limit : ℕ → Page
under_limit limit = record empty {
  functions = callers (macro_of (codes "m") (number (pos 5) ∷ [])) ∷ [];
  globals = (codes "f", function 0) ∷ [];
  limit = limit;
}

-- the end of a run of this code
abbrev pub end_of : Page → AutoEscape → ℕ → List Instruction → Option Final
end_of page escape fuel code =
    let p : Program = record { host = host_of page; code = λ s. code } in
    let w = with_escape escape (world_of page (Some fuel)) in
    let f = base_of true [] w in
    run_for 400 p f [] (begins p f (whole w.stream) [] w)

abbrev pub run_under : ℕ → AutoEscape → List Instruction → Said
run_under limit escape code = said_by (end_of (under_limit limit) escape 1000 code)

-- The code writes this text with this many charges.
abbrev pub CodeWrites : List Instruction → List ℕ → ℕ → Type 0
CodeWrites code t charges = run_under 500 escapes.None code ≡ said t (1000 - charges) []

abbrev pub FailsWith : List Instruction → ErrorKind → ℕ → Type 0
FailsWith code kind charges = run_under 500 escapes.None code ≡ said [] (1000 - charges) (kind ∷ [])

abbrev pub names : List (List ℕ) → Val
names xs = list (vals_of (each (λ x. text x false) xs))

-- A macro with its code at this place, the names of its arguments, the names in its closure, and
-- whether it takes `caller`.
abbrev pub declared : ℕ → List ℕ → List (List ℕ) → List (List ℕ) → Bool → List Instruction → List Instruction
declared place x arguments free caller body =
    i.Jump (place + length body + 2) ∷ (body ++ i.Return ∷ (each i.Enclose free ++ i.GetClosure ∷ i.LoadConst (names arguments)
    ∷ i.BuildMacro x (place + 1) caller ∷ i.StoreLocal x ∷ []))

abbrev pub m : List ℕ
m = codes "m"

abbrev pub x : List ℕ
x = codes "x"

abbrev pub whole_number : ℕ → Val
whole_number n = number (pos n)

abbrev pub load : ℕ → Instruction
load n = i.LoadConst (whole_number n)

-- calls a name with these values, and emits the result
abbrev pub called : List ℕ → List Val → List Instruction
called f args = each i.LoadConst args ++ i.CallFunction f (Some (length args)) ∷ i.Emit ∷ []

abbrev pub emitted : List ℕ → List Instruction
emitted y = i.Lookup y ∷ i.Emit ∷ []

abbrev pub given : List (List ℕ × Val) → Val
given ps = keywords (pairs_of (each (λ (p : List ℕ × Val). (text p.0 false, p.1)) ps))

-- {% macro m() %}x{% endmacro %}{{ m() }}
abbrev pub one_text : List Instruction
one_text = declared 0 m [] [] false (i.EmitRaw x ∷ []) ++ called m []

-- {% macro m(a, b=2) %}{{ a }}{{ b }}{% endmacro %}, called with these values
abbrev pub two_arguments : List Val → List Instruction
two_arguments args =
    declared 0 m (codes "a" ∷ codes "b" ∷ []) [] false
    (i.DupTop ∷ i.IsUndefined ∷ i.JumpIfFalse 6 ∷ i.DiscardTop ∷ load 2 ∷ i.StoreLocal (codes "b") ∷ i.StoreLocal (codes "a")
    ∷ (emitted (codes "a") ++ emitted (codes "b"))) ++ called m args

-- {% macro m(caller) %}{{ caller }}{% endmacro %}{{ m(caller=1) }}
abbrev pub named_caller : List Instruction
named_caller =
    declared 0 m (codes "caller" ∷ []) [] true (i.StoreLocal (codes "caller") ∷ emitted (codes "caller"))
    ++ called m (given ((codes "caller", whole_number 1) ∷ []) ∷ [])

-- {% macro m() %}{{ caller }}{% endmacro %}, called with these values; and one that calls it
abbrev pub mentions_caller : List Val → List Instruction
mentions_caller args = declared 0 m [] [] true (emitted (codes "caller")) ++ called m args

abbrev pub calls_caller : List Instruction
calls_caller = declared 0 m [] [] true (called (codes "caller") []) ++ called m []

-- {% set x = 1 %}{% macro m() %}{{ x }}{% endmacro %}, with x in the closure or not, and what
-- follows
abbrev pub reads_x : List (List ℕ) → List Instruction → List Instruction
reads_x free after = load 1 ∷ i.StoreLocal x ∷ (declared 2 m [] free false (emitted x) ++ after)

-- {% set x = 2 %}{{ m() }}, and the same in a new scope
abbrev pub set_and_called : List Instruction
set_and_called = load 2 ∷ i.StoreLocal x ∷ called m []

abbrev pub called_within : List Instruction
called_within = i.PushWith ∷ (set_and_called ++ i.PopFrame ∷ [])

-- {% set x = 1 %}{% macro m() %}{{ x }}{% endmacro %}{% set x = 2 %}{% macro m() %}{{ x }}{%
-- endmacro %}{{ m() }}: names in the closure stay
abbrev pub enclosed_twice : List Instruction
enclosed_twice = reads_x (x ∷ []) (i.Enclose x ∷ i.Enclose x ∷ i.PushWith ∷ load 2 ∷ i.StoreLocal x ∷ i.PopFrame ∷ called m [])

-- {% macro o() %}{% macro m() %}{{ x }}{% endmacro %}{% set x = 5 %}{{ m() }}{% endmacro %}{{ o() }}
abbrev pub one_in_another : List Instruction
one_in_another =
    declared 0 (codes "o") [] (x ∷ []) false (declared 1 m [] (x ∷ []) false (emitted x) ++ load 5 ∷ i.StoreLocal x ∷ called m [])
    ++ called (codes "o") []

-- {% macro o() %}{% macro m() %}{{ x }}{% endmacro %}{{ o < m }}{% endmacro %}{{ o() }}: macros are in the order of their entries
abbrev pub in_order : List Instruction
in_order =
    declared 0 (codes "o") [] (codes "o" ∷ x ∷ []) false (declared 1 m [] (x ∷ []) false (emitted x)
    ++ i.Lookup (codes "o") ∷ i.Lookup m ∷ i.Lt ∷ i.Emit ∷ []) ++ called (codes "o") []

-- {% macro m() %}{{ m() }}{% endmacro %}{{ m() }}
abbrev pub endless : List Instruction
endless = declared 0 m [] (m ∷ []) false (called m []) ++ called m []

-- {% macro m() %}<{{ "<" }}{% endmacro %}{{ m() }}
abbrev pub escaped_text : List Instruction
escaped_text = declared 0 m [] [] false (i.EmitRaw (codes "<") ∷ i.LoadConst (text (codes "<") false) ∷ i.Emit ∷ []) ++ called m []

-- {% macro m(x) %}<{{ x }}>{% endmacro %}{{ f() }}
abbrev pub by_function : List Instruction
by_function =
    declared 0 m (x ∷ []) [] false (i.StoreLocal x ∷ i.EmitRaw (codes "<") ∷ (emitted x ++ i.EmitRaw (codes ">") ∷ [])) ++ called (codes "f") []

-- a macro of state 0 with this stream, entry and closure, and one argument
abbrev pub macro_at : ℕ → ℕ → Option ℕ → MacroData
macro_at stream entry closure =
    record { state = 0; stream = stream; entry = entry; closure = closure; name = m; arguments = x ∷ []; caller = false }

-- {% macro m(x) %}{{ x }}{% endmacro %}, and then this macro, called with these values
abbrev pub calls_macro : MacroData → List Val → List Instruction
calls_macro other args =
    declared 0 m (x ∷ []) [] false (i.StoreLocal x ∷ emitted x)
    ++ (i.LoadConst (macro other) ∷ each i.LoadConst args) ++ i.CallObject (Some (length args + 1)) ∷ i.Emit ∷ []

-- {% with a = 1 %}{% macro m() %}{{ a }}{% set b = 3 %}{{ q.z }}{% endmacro %}{{ m() }}{% endwith
-- %}: the state after a fault in a macro
abbrev pub faults_within : List Instruction
faults_within = declared 0 m [] [] false (i.PushWith ∷ i.Lookup (codes "q") ∷ i.GetAttr (codes "z") ∷ i.Emit ∷ []) ++ called m []

abbrev pub StaysAfter : List Instruction → Type 0
StaysAfter code =
    let page = under_limit 500 in
    let w = world_of page (Some 1000) in
    let left = left_by (end_of page escapes.None 1000 code) w in
    (length left.scopes.frames ≡ 1) × (left.scopes.outer ≡ 0) × (left.stream ≡ w.stream) × (left.block ≡ w.block)

abbrev pub a_macro : List (List ℕ) → Bool → MacroData
a_macro arguments caller = record (macro_at 0 0 None) { arguments = arguments; caller = caller }

-- the values that the arguments a and b are bound to
abbrev pub bound_in_order : List Val → Option (List Val)
bound_in_order args = bound_to (a_macro (codes "a" ∷ codes "b" ∷ []) false) args
