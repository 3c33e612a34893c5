-- Pages with a method object or a formatter of the caller.
use Rattle.std.specs.Prelude.{zero, [], ◌∷◌, Some, None, Ok, Err, false, codes, pos}
use Rattle.tm_values.specs.Val.{undefined, none, number, text, function}
use Rattle.tm_values.specs.declared.error.ErrorKind.TheVariants.{MissingArgument}
use Rattle.tm_trees.specs.Trees.{Const, EmitExpr, no_statement, statement}
use Rattle.tm_meaning.specs.declared.reply.Reply.TheVariants.{Value as gives, Fault as faults}
use Rattle.tm_meaning.specs.World.{Fallback, Format, formatted}
use Rattle.tm_meaning.specs.Tree.{body_of}
use Rattle.tm_rows.specs.Rows.{Page, page, one, nothing, raw, named, literal_number, with_value}
use Rattle.tm_rows.specs.CallRows.{answers, method_none}

-- ---------------------------------------------------------------- method objects
-- returns the name of the method
abbrev pub by_name : Fallback
by_name v x vs view = answers (gives (text x false))

-- keeps k, and fails
abbrev pub keeps_and_faults : Fallback
keeps_and_faults v x vs view = record { temps = (codes "k", number (pos 1)) ∷ []; reply = faults (MissingArgument ∷ []) }

abbrev pub with_methods : Fallback → Page → Page
with_methods f p = record p { unknown_method = Some f }

-- {{ sum.x() }}, where sum is a function
abbrev pub method_of_function : Page
method_of_function =
    page (one (EmitExpr (method_none (named (codes "sum")) (codes "x")))) (with_value (codes "sum") (function 0))

-- ---------------------------------------------------------------- formatters
-- fails for 0, and otherwise writes F
abbrev pub no_zero : Format
no_zero (number (pos zero)) view = Err (MissingArgument ∷ [])
no_zero v view = Ok (codes "F")

-- writes none like undefined, and other values by the escape
abbrev pub none_as_undefined : Format
none_as_undefined none view = formatted None (undefined false) view
none_as_undefined v view = formatted None v view

abbrev pub with_formatter : Format → Page → Page
with_formatter f p = record p { formatter = Some f }

-- a{{ 0 }}b
abbrev pub zero_between : Page
zero_between =
    page (body_of (statement (raw (codes "a")) (statement (EmitExpr (literal_number 0))
    (statement (raw (codes "b")) no_statement)))) nothing

-- {{ none }}
abbrev pub emitted_none : Page
emitted_none = page (one (EmitExpr (Const none))) nothing
