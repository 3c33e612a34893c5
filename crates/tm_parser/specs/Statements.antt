-- The grammar of statements.
use Rattle.std.specs.Prelude.{ℕ, zero, suc, List, [], ◌∷◌, Bool, true, false, Option, Some, None, is_none, if◌then◌else◌, ◌&&◌, nat_eq, codes}
use Rattle.std.specs.Cmp.Lexicographic.{pointwise}
use denote.Enum.Bare.{sameb}
use Rattle.tm_syntax.specs.contracts.token.Tag.{the_type}
use Rattle.tm_syntax.specs.declared.token.Tag.{Tag}
use Rattle.tm_syntax.specs.declared.token.Tag.TheVariants as tags
use Rattle.tm_syntax.specs.declared.token.Sign.TheVariants as sign
use Rattle.tm_syntax.specs.declared.token.Token.{Token}
use Rattle.tm_syntax.specs.declared.token.Token.TheVariants as tokens
use Rattle.tm_trees.specs.Trees.{Expr, Call', SelfBlock, Row_of-Argument, no_argument, argument, Row_of-Keyword, no_keyword, keyword_and}
use Rattle.tm_trees.specs.Trees.{Row_of-Step, no_step, step as more_steps, Step, Apply', Called, Argument, AssignmentTarget, Assignment, Parameter}
use Rattle.tm_trees.specs.Trees.{Imported, CaptureUse, Stmt}
use Rattle.tm_trees.specs.Trees.applications
use Rattle.tm_trees.specs.Trees.step_forms as steps
use Rattle.tm_syntax.specs.Forms.{plain, spread, chained as chained_steps}
use Rattle.tm_syntax.specs.Names.{parameter_names}
use Rattle.tm_trees.specs.Trees.expr_forms as exprs
use Rattle.tm_trees.specs.Trees.uses
use Rattle.tm_trees.specs.Trees.statement_forms as stmts
use Rattle.tm_parser.specs.declared.tags.Start.{Start}
use Rattle.tm_parser.specs.declared.tags.Start.TheVariants as starts
use Rattle.tm_parser.specs.declared.loop_heads.LoopHead.{LoopHead}
use Rattle.tm_grammar.specs.Combinators.{provided, first, nothing, pure, ◌>>=◌, branch, token, not_before, one_more, many_from}
use Rattle.tm_grammar.specs.Rule.{Look}
use Rattle.tm_parser.specs.Distinct.{are_distinct}
use Rattle.tm_expressions.specs.Looks.{ahead}
use Rattle.tm_expressions.specs.Grammar.{Rule, Inside, inside, items, more_items, whole, expr, target}
use Rattle.tm_expressions.specs.Tokens.{is, a_name, is_comma}

-- this tag
abbrev pub is_tag : Tag → Token → Option (Unit {0})
is_tag t (tokens.Tag u) = if sameb the_type u t then Some tt else None
is_tag t _ = None

-- the name that is this word
abbrev pub is_word : List ℕ → Token → Option (Unit {0})
is_word word (tokens.Name name) = if pointwise nat_eq name word then Some tt else None
is_word word _ = None

-- What is allowed inside one more tag, or one more part of it. The argument of a rule for
-- statements says whether they are inside a loop.
pub record Inner : Type 1 where
  pub body : Bool → Rule (List Stmt)
  -- the rest of an `if` after its body
  pub rest : Bool → Rule (Option (List Stmt))
  -- an optional else part, up to this end tag
  pub else_or_end : Tag → Bool → Rule (Option (List Stmt))
  -- the iterable of a loop, its condition, whether it can be called, and the end of its tag
  pub loop_head : Rule LoopHead
  -- the parameters of a macro or of a call's body after their opening bracket, and the closing
  -- bracket
  pub parameters : Rule (List Parameter)

-- Whether a tag begins a statement. The other tags continue or end one.
abbrev pub begins_statement : Tag → Bool
begins_statement tags.Elif = false
begins_statement tags.Else = false
begins_statement tags.Endif = false
begins_statement tags.Endfor = false
begins_statement tags.Endblock = false
begins_statement tags.Endset = false
begins_statement tags.Endfilter = false
begins_statement tags.Endwith = false
begins_statement tags.Endautoescape = false
begins_statement tags.Endmacro = false
begins_statement tags.Endcall = false
begins_statement _ = true

-- the start of a statement
abbrev pub a_start : Token → Option Start
a_start (tokens.Raw text) = Some (starts.Raw text)
a_start (tokens.Sign sign.VariableStart) = Some starts.Emit
a_start (tokens.Tag t) = if begins_statement t then Some (starts.Tag t) else None
a_start _ = None

abbrev pub block_end : Rule (Unit {0})
block_end = token (is sign.BlockEnd)

-- a tag of one word
abbrev pub lone : Tag → Rule (Unit {0})
lone t = do
  word ← token (is_tag t)
  block_end

-- the same name again, or nothing
abbrev pub same_name : List ℕ → Rule (Unit {0})
same_name name = branch (first a_name) (λ other. provided (pointwise nat_eq other name) (pure tt)) (pure tt)

abbrev pub is_plain : Argument → Bool
is_plain (plain x) = true
is_plain (spread x) = false

-- the value of the single positional argument, if there is exactly one
abbrev pub only_one : {n : _} → Row_of-Argument n → Option Expr
only_one no_argument = None
only_one (argument (plain x) no_argument) = Some x
only_one (argument (plain x) (argument a given)) = None
only_one (argument (spread x) given) = None

abbrev pub are_unnamed : {n : _} → Row_of-Keyword n → Bool
are_unnamed no_keyword = true
are_unnamed (keyword_and k named) = false

-- the argument of a call of the innermost loop: the single positional argument of a call of `loop`
unfoldable pub loop_argument : Expr → Option Expr
loop_argument (Call' f _ given _ named) = if pointwise nat_eq f (codes "loop") && are_unnamed named then only_one given else None
loop_argument _ = None

abbrev pub call_or_emit : Option Expr → Expr → Stmt
call_or_emit (Some called_with) x = stmts.EmitLoop called_with
call_or_emit None x = stmts.EmitExpr x

-- the statement that emits an expression, as a call of the innermost loop if it is one
abbrev pub emit_value : Expr → Stmt
emit_value x = call_or_emit (loop_argument x) x

abbrev pub are_none : {n : _} → Row_of-Argument n → Bool
are_none no_argument = true
are_none (argument a given) = false

abbrev pub is_nothing : {n m : _} → Row_of-Argument n → Row_of-Keyword m → Bool
is_nothing given named = are_none given && are_unnamed named

-- the call of `super` without arguments
unfoldable pub calls_super : Expr → Bool
calls_super (Call' f _ given _ named) = pointwise nat_eq f (codes "super") && is_nothing given named
calls_super _ = false

abbrev pub super_or_emit : Bool → Expr → Stmt
super_or_emit true x = stmts.EmitSuper
super_or_emit false x = emit_value x

-- The statement that emits an expression. A block writes in place.
abbrev pub emit_statement : Expr → Stmt
emit_statement (SelfBlock name) = stmts.EmitBlock name
emit_statement x = super_or_emit (calls_super x) x

unfoldable pub emission : Inside → Rule Stmt
emission i = do
  x ← expr i
  close ← token (is sign.VariableEnd)
  pure (emit_statement x)

unfoldable pub if_tag : Inside → Inner → Bool → Rule Stmt
if_tag i t looping = do
  condition ← i.expr
  close ← block_end
  body ← t.body looping
  other ← t.rest looping
  pure (stmts.If condition body other)

unfoldable pub elif_tag : Inside → Inner → Bool → Rule (Option (List Stmt))
elif_tag i t looping = do
  condition ← expr i
  close ← block_end
  body ← t.body looping
  other ← t.rest looping
  pure (Some (stmts.If condition body other ∷ []))

-- a body and this end tag
unfoldable pub ended_body : Inner → Tag → Bool → Rule (List Stmt)
ended_body t end looping = do
  body ← t.body looping
  last ← lone end
  pure body

-- the end of a tag, a body and this end tag
unfoldable pub body_after : Inner → Tag → Bool → Rule (List Stmt)
body_after t end looping = do
  close ← block_end
  ended_body t end looping

-- the rest after `else`, up to this end tag
unfoldable pub else_tag : Inner → Tag → Bool → Rule (Option (List Stmt))
else_tag t end looping = do
  body ← body_after t end looping
  pure (Some body)

-- an optional else part, up to this end tag
unfoldable pub else_or_end : Inner → Tag → Bool → Rule (Option (List Stmt))
else_or_end t end looping = branch (first (is_tag tags.Else)) (λ _. else_tag t end looping) (do
  last ← lone end
  pure None)

-- the rest of an `if` after its body, up to its end tag
unfoldable pub rest : Inside → Inner → Bool → Rule (Option (List Stmt))
rest i t looping = branch (first (is_tag tags.Elif)) (λ _. elif_tag i t looping) (else_or_end t tags.Endif looping)

-- A loop after its head. Its else part isn't inside the loop.
unfoldable pub for_body : Inner → Bool → AssignmentTarget → LoopHead → Rule Stmt
for_body t looping to over = do
  body ← t.body true
  other ← t.else_or_end tags.Endfor looping
  pure (stmts.For (record {
    target = to;
    iterable = over.iterable;
    condition = over.condition;
    recursive = over.recursive;
    body = body;
    other = other;
  }))

unfoldable pub for_tag : Inside → Inner → Bool → Rule Stmt
for_tag i t looping = do
  to ← i.target
  word ← token (is sign.In)
  over ← t.loop_head
  for_body t looping to over

-- a statement of one word that is allowed only inside a loop
unfoldable pub jump : Bool → Stmt → Rule Stmt
jump looping s = provided looping (do
  last ← block_end
  pure s)

-- this end tag, which may repeat the name
abbrev pub named_end : Tag → List ℕ → Rule (Unit {0})
named_end end name = do
  word ← token (is_tag end)
  again ← same_name name
  block_end

-- The body of a block or a macro with this name, up to its end tag. It isn't inside the loops
-- around it.
unfoldable pub named_body : Inner → Tag → List ℕ → Rule (List Stmt)
named_body t end name = do
  body ← t.body false
  last ← named_end end name
  pure body

-- the optional word of a block that another template has to replace
abbrev pub requirement : Rule Bool
requirement = branch (first (is_word (codes "required"))) (λ _. pure true) (pure false)

unfoldable pub block_tag : Inner → Rule Stmt
block_tag t = do
  name ← token a_name
  required ← requirement
  close ← block_end
  body ← named_body t tags.Endblock name
  pure (stmts.Block name required body)

unfoldable pub extends_tag : Inside → Rule Stmt
extends_tag i = do
  parent ← expr i
  last ← block_end
  pure (stmts.Extends parent)

-- a tuple without brackets after its first item, and the end of the tag
unfoldable pub bare_tuple : Inside → Expr → Rule Expr
bare_tuple i x = do
  comma ← token (is sign.Comma)
  xs ← items sign.BlockEnd (expr i) (x ∷ [])
  pure (exprs.Tuple xs)

-- an expression or a tuple without brackets, and the end of the tag
unfoldable pub bare : Inside → Rule Expr
bare i = do
  x ← expr i
  branch (first (is sign.BlockEnd)) (λ _. pure x) (bare_tuple i x)

-- what ends an iterable
abbrev pub ends_iterated : Token → Option (Unit {0})
ends_iterated (tokens.Sign sign.If) = Some tt
ends_iterated (tokens.Sign sign.BlockEnd) = Some tt
ends_iterated _ = None

-- a comma followed by another item
abbrev pub iterated_comma : Look Token (Unit {0})
iterated_comma = not_before (is sign.Comma) ends_iterated

unfoldable pub more_iterated : Inside → List Expr → Rule (List Expr)
more_iterated i xs = many_from iterated_comma (λ _. whole i) xs

-- a tuple without brackets after its first item, with an optional comma at the end
unfoldable pub iterated_tuple : Inside → Expr → Rule Expr
iterated_tuple i x = do
  xs ← more_iterated i (x ∷ [])
  comma ← branch (first (is sign.Comma)) pure (pure tt)
  pure (exprs.Tuple xs)

-- The iterable of a loop: a value or a tuple without brackets. An `if` after it belongs to the
-- loop.
unfoldable pub iterated : Inside → Rule Expr
iterated i = do
  x ← whole i
  ahead is_comma (iterated_tuple i x) (pure x)

-- the condition of a loop, which another condition can't follow
unfoldable pub loop_condition : Inside → Rule (Option Expr)
loop_condition i = branch (first (is sign.If))
    (λ _. do
      condition ← whole i
      pure (Some condition))
    (pure None)

-- the optional word of a loop that can be called
abbrev pub recursion : Rule Bool
recursion = branch (first (is_word (codes "recursive"))) (λ _. pure true) (pure false)

-- the iterable of a loop, its condition, whether it can be called, and the end of its tag
unfoldable pub loop_head : Inside → Rule LoopHead
loop_head i = do
  over ← iterated i
  condition ← loop_condition i
  recursive ← recursion
  close ← block_end
  pure (record { iterable = over; condition = condition; recursive = recursive })

-- the rest of a `set` after its `=`
unfoldable pub set_value : Inside → AssignmentTarget → Rule Stmt
set_value i to = do
  x ← bare i
  pure (stmts.Set to x)

-- the other filters, each after a bar
unfoldable pub more_filters : Inside → List Step → Rule (List Step)
more_filters i xs = many_from (first (is sign.Bar)) (λ _. i.filter) xs

-- a body whose text is filtered and used
unfoldable pub captured : Inner → Tag → Bool → CaptureUse → List Step → Rule Stmt
captured t end looping becomes filters = do
  body ← body_after t end looping
  pure (stmts.CaptureBlock becomes filters body)

-- the rest of a `set` without `=`, after its target
unfoldable pub set_block : Inside → Inner → Bool → AssignmentTarget → Rule Stmt
set_block i t looping to = do
  filters ← more_filters i []
  captured t tags.Endset looping (uses.Assign to) filters

unfoldable pub set_tag : Inside → Inner → Bool → Rule Stmt
set_tag i t looping = do
  to ← target i
  branch (first (is sign.Assign)) (λ _. set_value i to) (set_block i t looping to)

unfoldable pub filter_tag : Inside → Inner → Bool → Rule Stmt
filter_tag i t looping = do
  one ← one_more i.filter []
  filters ← more_filters i one
  captured t tags.Endfilter looping uses.Emit filters

unfoldable pub assignment : Inside → Rule Assignment
assignment i = do
  to ← i.target
  equals ← token (is sign.Assign)
  x ← i.expr
  pure (record { target = to; value = x })

unfoldable pub with_tag : Inside → Inner → Bool → Rule Stmt
with_tag i t looping = do
  given ← items sign.BlockEnd (assignment i) []
  body ← ended_body t tags.Endwith looping
  pure (stmts.With given body)

unfoldable pub autoescape_tag : Inside → Inner → Bool → Rule Stmt
autoescape_tag i t looping = do
  x ← i.expr
  body ← body_after t tags.Endautoescape looping
  pure (stmts.AutoEscape x body)

-- the default of a parameter, if there is one
unfoldable pub default_value : Inside → Rule (Option Expr)
default_value i = branch (first (is sign.Assign))
    (λ _. do
      x ← i.expr
      pure (Some x))
    (pure None)

unfoldable pub parameter : Inside → Rule Parameter
parameter i = do
  name ← token a_name
  default ← default_value i
  pure (record { name = name; default = default })

-- Parameters, separated by commas, with an optional comma at the end, and the closing bracket.
-- Their names must differ.
unfoldable pub parameters : Inside → Rule (List Parameter)
parameters i = do
  room ← i.room
  ps ← items sign.CloseRound (parameter i) []
  provided (are_distinct (parameter_names ps)) (pure ps)

unfoldable pub macro_tag : Inner → Rule Stmt
macro_tag t = do
  name ← token a_name
  bracket ← token (is sign.OpenRound)
  ps ← t.parameters
  close ← block_end
  body ← named_body t tags.Endmacro name
  pure (stmts.Macro (record { name = name; parameters = ps; body = body }))

-- the call of a method or of a value
abbrev pub calls : Step → Bool
calls (Apply' applications.Method name _ given _ named) = true
calls (Called _ given _ named) = true
calls _ = false

-- whether the last step is a call, or b if there are no steps
abbrev pub last_calls : {n : _} → Bool → Row_of-Step n → Bool
last_calls b no_step = b
last_calls b (more_steps s ss) = last_calls (calls s) ss

-- the call of a name, a block, a method or a value
abbrev pub is_call : Expr → Bool
is_call (Call' f _ given _ named) = true
is_call (SelfBlock name) = true
is_call (chained_steps x _ ss) = last_calls false ss
is_call _ = false

unfoldable pub do_tag : Inside → Rule Stmt
do_tag i = do
  x ← expr i
  provided (is_call x) (do
    last ← block_end
    pure (stmts.Do x))

abbrev pub have_no_default : List Parameter → Bool
have_no_default [] = true
have_no_default (p ∷ ps) = is_none p.default && have_no_default ps

-- the parameters of a call's body: none without an opening bracket, and otherwise like those of a
-- macro, but without defaults
unfoldable pub call_parameters : Inner → Rule (List Parameter)
call_parameters t = branch (first (is sign.OpenRound))
    (λ _. do
      ps ← t.parameters
      provided (have_no_default ps) (pure ps))
    (pure [])

-- a call of a method of `self` without arguments
abbrev pub method_of_self : List ℕ → Expr
method_of_self name = exprs.Chain (exprs.Var (codes "self")) (steps.Apply applications.Method name [] [] ∷ [])

-- The callee of a call with a body. A block becomes a method of `self`, since it gets `caller` as
-- an argument.
abbrev pub with_caller : Expr → Expr
with_caller (SelfBlock name) = method_of_self name
with_caller x = x

-- The rest of a call tag after its expression, which must be a call. The body isn't inside the
-- loops around the tag.
unfoldable pub call_block : Inner → List Parameter → Expr → Rule Stmt
call_block t ps x = provided (is_call x) (do
  body ← body_after t tags.Endcall false
  pure (stmts.CallBlock (record { call = with_caller x; parameters = ps; body = body })))

unfoldable pub call_tag : Inside → Inner → Rule Stmt
call_tag i t = do
  ps ← call_parameters t
  x ← i.expr
  call_block t ps x

-- the optional words `ignore missing`
abbrev pub may_be_missing : Rule Bool
may_be_missing = branch (first (is_word (codes "ignore")))
    (λ _. do
      word ← token (is_word (codes "missing"))
      pure true)
    (pure false)

unfoldable pub include_tag : Inside → Rule Stmt
include_tag i = do
  template ← expr i
  missing ← may_be_missing
  last ← block_end
  pure (stmts.Include template missing)

unfoldable pub import_tag : Inside → Rule Stmt
import_tag i = do
  template ← expr i
  word ← token (is_word (codes "as"))
  to ← target i
  last ← block_end
  pure (stmts.Import template to)

-- the name that an imported name is bound to: the one after `as`, or the same name
abbrev pub given_name : List ℕ → Rule (List ℕ)
given_name name = branch (first (is_word (codes "as"))) (λ _. token a_name) (pure name)

unfoldable pub imported : Rule Imported
imported = do
  name ← token a_name
  to ← given_name name
  pure (record { name = name; target = to })

-- one or more imported names, separated by commas, with an optional comma at the end, and the end
-- of the tag
unfoldable pub imports : Rule (List Imported)
imports = do
  one ← one_more imported []
  xs ← more_items sign.BlockEnd imported one
  comma ← branch (first (is sign.Comma)) pure (pure tt)
  last ← block_end
  pure xs

unfoldable pub from_tag : Inside → Rule Stmt
from_tag i = do
  template ← expr i
  word ← token (is_word (codes "import"))
  xs ← imports
  pure (stmts.FromImport template xs)

-- the rest of a statement after its tag; a tag that doesn't begin a statement has none
abbrev pub tag_statement : Inside → Inner → Bool → Tag → Rule Stmt
tag_statement i t looping tags.If = if_tag i t looping
tag_statement i t looping tags.For = for_tag i t looping
tag_statement i t looping tags.Break = jump looping stmts.Break
tag_statement i t looping tags.Continue = jump looping stmts.Continue
tag_statement i t looping tags.Block = block_tag t
tag_statement i t looping tags.Extends = extends_tag i
tag_statement i t looping tags.Set = set_tag i t looping
tag_statement i t looping tags.Filter = filter_tag i t looping
tag_statement i t looping tags.With = with_tag i t looping
tag_statement i t looping tags.Do = do_tag i
tag_statement i t looping tags.Autoescape = autoescape_tag i t looping
tag_statement i t looping tags.Macro = macro_tag t
tag_statement i t looping tags.Call = call_tag i t
tag_statement i t looping tags.Include = include_tag i
tag_statement i t looping tags.Import = import_tag i
tag_statement i t looping tags.From = from_tag i
tag_statement i t looping _ = nothing

-- the rest of a statement after its start
abbrev pub statement : Inside → Inner → Bool → Start → Rule Stmt
statement i t looping (starts.Raw text) = pure (stmts.EmitRaw text)
statement i t looping starts.Emit = emission i
statement i t looping (starts.Tag g) = tag_statement i t looping g

-- statements after these, as long as one begins
abbrev pub more_statements : Inside → Inner → Bool → List Stmt → Rule (List Stmt)
more_statements i t looping xs = many_from (first a_start) (statement i t looping) xs

unfoldable pub body : Inside → Inner → Bool → Rule (List Stmt)
body i t looping = more_statements i t looping []

-- what is allowed within n more levels of nesting
unfoldable pub inner : ℕ → Inner
inner zero = record {
  body = λ looping. nothing;
  rest = λ looping. nothing;
  else_or_end = λ end looping. nothing;
  loop_head = nothing;
  parameters = nothing;
}
inner (suc n) = record {
  body = body (inside n) (inner n);
  rest = rest (inside n) (inner n);
  else_or_end = else_or_end (inner n);
  loop_head = loop_head (inside n);
  parameters = parameters (inside n);
}
