-- The grammar of expressions and targets.
use Rattle.std.specs.Prelude.{ℕ, zero, suc, List, [], ◌∷◌, true, false, Bool, Option, Some, None, ◌++◌, option_map, codes, nat_eq}
use Rattle.std.specs.Cmp.Lexicographic.{pointwise}
use Rattle.tm_values.specs.Val as value
use Rattle.tm_syntax.specs.declared.token.Sign.{Sign}
use Rattle.tm_syntax.specs.declared.token.Sign.TheVariants as sign
use Rattle.tm_syntax.specs.declared.token.Token.{Token}
use Rattle.tm_trees.specs.Trees.{BinaryOperator, Application, Expr, Var, Argument, Keyword, Pair, Condition, Comparison, Step, Attribute}
use Rattle.tm_trees.specs.Trees.{AssignmentTarget}
use Rattle.tm_trees.specs.Trees.applications
use Rattle.tm_trees.specs.Trees.expr_forms as exprs
use Rattle.tm_trees.specs.Trees.argument_forms as arguments
use Rattle.tm_trees.specs.Trees.keyword_forms as keywords
use Rattle.tm_trees.specs.Trees.step_forms as steps
use Rattle.tm_trees.specs.Trees.target_forms as targets
use Rattle.tm_expressions.specs.declared.tables.Link.{Link}
use Rattle.tm_expressions.specs.declared.tables.Link.TheVariants as links
use Rattle.tm_expressions.specs.declared.primaries.Passed.{Passed}
use Rattle.tm_grammar.specs.Rule as rules
use Rattle.tm_grammar.specs.Rule.{Look}
use Rattle.tm_grammar.specs.Combinators.{first, not_before, nothing, pure, ◌>>=◌, provided, branch, token, grow, one_more, many_from}
use Rattle.tm_expressions.specs.Looks.{before, followed, either, ahead}
use Rattle.tm_expressions.specs.Tokens.{is, a_name, a_constant, a_test_word, bare, is_comma, ends_part, ends_target, link, prefix}
use Rattle.tm_expressions.specs.Tokens.{a_target_link, postfix_level, or_level}

abbrev pub Rule : Type 0 → Type 1
Rule A = rules.Rule Token A

-- What is allowed one bracket or one prefix deeper.
pub record Inside : Type 1 where
  -- takes no token; refused if no nesting level is left
  pub room : Rule (Unit {0})
  pub expr : Rule Expr
  -- an operand of a level
  pub operand : ℕ → Rule Expr
  pub filter : Rule Step
  pub target : Rule AssignmentTarget

-- a comma, unless the end of the list follows
abbrev pub comma : Sign → Look Token (Unit {0})
comma close = not_before (is sign.Comma) (is close)

unfoldable pub more_items : {A : Type 0} → Sign → Rule A → List A → Rule (List A)
more_items close item xs = many_from (comma close) (λ _. item) xs

-- After these items: the other items, separated by commas, with an optional comma at the end, up to
-- the closing sign.
unfoldable pub items : {A : Type 0} → Sign → Rule A → List A → Rule (List A)
items close item xs = branch (first (is close)) (λ _. pure xs) (do
  ys ← one_more item xs
  zs ← more_items close item ys
  comma ← branch (first (is sign.Comma)) pure (pure tt)
  end ← token (is close)
  pure zs)

-- a name followed by `=`
abbrev pub keyword_start : Look Token (List ℕ)
keyword_start = followed (first a_name) (first (is sign.Assign))

abbrev pub passed : List Argument → List Keyword → Passed
passed xs ks = record { by_place = xs; by_name = ks }

-- a keyword argument after its `=`
unfoldable pub keyword : Inside → Passed → List ℕ → Rule Passed
keyword i given name = do
  x ← i.expr
  pure (passed given.by_place (given.by_name ++ keywords.Named name x ∷ []))

-- a map of keyword arguments after its `**`
unfoldable pub spread_map : Inside → Passed → Rule Passed
spread_map i given = do
  x ← i.expr
  pure (passed given.by_place (given.by_name ++ keywords.Spread x ∷ []))

abbrev pub are_none : {A : Type 0} → List A → Bool
are_none [] = true
are_none (x ∷ xs) = false

-- a positional argument; no keyword argument may precede it
unfoldable pub argument : Inside → Passed → Rule Passed
argument i given = provided (are_none given.by_name) (do
  x ← i.expr
  pure (passed (given.by_place ++ arguments.Plain x ∷ []) given.by_name))

-- a list of positional arguments after its `*`; no keyword argument may precede it
unfoldable pub spread_list : Inside → Passed → Rule Passed
spread_list i given = provided (are_none given.by_name) (do
  x ← i.expr
  pure (passed (given.by_place ++ arguments.Spread x ∷ []) given.by_name))

-- one argument after these
unfoldable pub one_passed : Inside → Passed → Rule Passed
one_passed i given =
    branch keyword_start (keyword i given) (
    branch (first (is sign.DoubleStar)) (λ _. spread_map i given) (
    branch (first (is sign.Star)) (λ _. spread_list i given)
    (argument i given)))

unfoldable pub more_passed : Inside → Passed → Rule Passed
more_passed i given = grow (comma sign.CloseRound) (λ _ xs. one_passed i xs) given

-- the arguments of a call, separated by commas, with an optional comma at the end, and the closing
-- bracket
unfoldable pub all_passed : Inside → Rule Passed
all_passed i = branch (first (is sign.CloseRound)) (λ _. pure (passed [] [])) (do
  one ← one_passed i (passed [] [])
  given ← more_passed i one
  comma ← branch (first (is sign.Comma)) pure (pure tt)
  end ← token (is sign.CloseRound)
  pure given)

-- the same one nesting level deeper
unfoldable pub in_brackets : Inside → Rule Passed
in_brackets i = do
  room ← i.room
  all_passed i

-- the call of a name after its opening bracket
unfoldable pub called : Inside → List ℕ → Rule Expr
called i name = do
  given ← in_brackets i
  pure (exprs.Call name given.by_place given.by_name)

-- a dot and a call of a name without arguments
abbrev pub bare_call : Look Token (List ℕ)
bare_call = before (first (is sign.Dot)) (followed (first a_name) (before (first (is sign.OpenRound)) (first (is sign.CloseRound))))

-- the name `self`, or a call of a block of `self`
unfoldable pub of_self : Inside → List ℕ → Rule Expr
of_self i name = branch bare_call
    (λ block. do
      room ← i.room
      pure (exprs.SelfBlock block))
    (pure (exprs.Var name))

-- a name, a call of it, or a call of a block of `self`
unfoldable pub named : Inside → List ℕ → Rule Expr
named i name = branch (first (is sign.OpenRound)) (λ _. called i name)
    (either (pointwise nat_eq name (codes "self")) (of_self i name) (pure (exprs.Var name)))

-- a tuple after its first item
unfoldable pub tuple : Inside → Expr → Rule Expr
tuple i x = do
  comma ← token (is sign.Comma)
  xs ← items sign.CloseRound i.expr (x ∷ [])
  pure (exprs.Tuple xs)

-- a name in brackets can be called like one without
abbrev pub closed : Inside → Expr → Rule Expr
closed i (Var name) = named i name
closed i x = pure x

-- the empty tuple, an expression, or a tuple
unfoldable pub bracketed : Inside → Rule Expr
bracketed i = do
  room ← i.room
  branch (first (is sign.CloseRound)) (λ _. pure (exprs.Tuple [])) (do
    x ← i.expr
    branch (first (is sign.CloseRound)) (λ _. closed i x) (tuple i x))

unfoldable pub list_literal : Inside → Rule Expr
list_literal i = do
  room ← i.room
  xs ← items sign.CloseSquare i.expr []
  pure (exprs.List xs)

unfoldable pub pair : Inside → Rule Pair
pair i = do
  key ← i.expr
  colon ← token (is sign.Colon)
  x ← i.expr
  pure (record { key = key; value = x })

unfoldable pub map_literal : Inside → Rule Expr
map_literal i = do
  room ← i.room
  ps ← items sign.CloseCurly (pair i) []
  pure (exprs.Map ps)

unfoldable pub primary : Inside → Rule Expr
primary i =
    branch (first a_constant) (λ v. pure (exprs.Const v)) (
    branch (first a_name) (named i) (
    branch (first (is sign.OpenRound)) (λ _. bracketed i) (
    branch (first (is sign.OpenSquare)) (λ _. list_literal i) (
    branch (first (is sign.OpenCurly)) (λ _. map_literal i)
    nothing))))

-- an attribute or a method call
unfoldable pub named_step : Inside → Rule Step
named_step i = do
  name ← token a_name
  branch (first (is sign.OpenRound))
      (λ _. do
        given ← in_brackets i
        pure (steps.Apply applications.Method name given.by_place given.by_name))
      (pure (steps.Attribute name))

-- the expression for a missing part
abbrev pub missing : Expr
missing = exprs.Const value.none

-- a part of a slice, which may be missing
unfoldable pub part : Inside → Rule Expr
part i = ahead ends_part (pure missing) i.expr

-- the part after the second colon of a slice, if there is one
unfoldable pub last_part : Inside → Rule Expr
last_part i = branch (first (is sign.Colon)) (λ _. part i) (pure missing)

-- a slice after its first colon
unfoldable pub slice : Inside → Expr → Rule Step
slice i start = do
  stop ← part i
  by ← last_part i
  end ← token (is sign.CloseSquare)
  pure (steps.Slice start stop by)

-- an item or a slice
unfoldable pub subscript : Inside → Rule Step
subscript i = do
  room ← i.room
  branch (first (is sign.Colon)) (λ _. slice i missing) (do
    x ← i.expr
    branch (first (is sign.Colon)) (λ _. slice i x) (do
      end ← token (is sign.CloseSquare)
      pure (steps.Item x)))

-- a name after a dot, appended to the names before it
unfoldable pub one_part : List ℕ → Rule (List ℕ)
one_part before = do
  name ← token a_name
  pure (before ++ codes "." ++ name)

unfoldable pub more_parts : List ℕ → Rule (List ℕ)
more_parts before = grow (first (is sign.Dot)) (λ _ name. one_part name) before

-- names separated by dots, as one name
unfoldable pub dotted : Rule (List ℕ)
dotted = do
  name ← token a_name
  more_parts name

-- the arguments in brackets, if there are any
unfoldable pub given : Inside → Rule Passed
given i = branch (first (is sign.OpenRound)) (λ _. in_brackets i) (pure (passed [] []))

-- the call of a value after its opening bracket
unfoldable pub call_step : Inside → Rule Step
call_step i = do
  xs ← in_brackets i
  pure (steps.Call xs.by_place xs.by_name)

-- a filter and its arguments
unfoldable pub filter_step : Inside → Rule Step
filter_step i = do
  name ← dotted
  xs ← given i
  pure (steps.Apply applications.Filter name xs.by_place xs.by_name)

-- the name of a test: a reserved word, or names separated by dots
unfoldable pub test_name : Rule (List ℕ)
test_name = branch (first a_test_word) pure dotted

unfoldable pub passed_to_test : Inside → Rule Passed
passed_to_test i = branch (first bare) (λ x. pure (passed (arguments.Plain x ∷ []) [])) (given i)

-- a test and its arguments
unfoldable pub tested : Inside → Application → Rule Step
tested i k = do
  name ← test_name
  xs ← passed_to_test i
  pure (steps.Apply k name xs.by_place xs.by_name)

unfoldable pub test_step : Inside → Rule Step
test_step i = branch (first (is sign.Not)) (λ _. tested i applications.NegatedTest) (tested i applications.Test)

unfoldable pub operation : Rule Expr → BinaryOperator → Rule Step
operation right op = do
  y ← right
  pure (steps.Binary op y)

unfoldable pub another_comparison : Rule Expr → BinaryOperator → Rule Comparison
another_comparison right op = do
  y ← right
  pure (record { operator = op; right = y })

-- what follows the link of a chained comparison; no other link is allowed there
abbrev pub after_comparison : Rule Expr → Link → Rule Comparison
after_comparison right (links.Comparison op) = another_comparison right op
after_comparison right _ = nothing

-- as many chained comparisons as there are
abbrev pub comparisons_from : Rule Expr → ℕ → List Comparison → Rule (List Comparison)
comparisons_from right level xs = many_from (link level) (after_comparison right) xs

-- a comparison and the chained ones after it
abbrev pub compared : BinaryOperator → Expr → List Comparison → Step
compared op y [] = steps.Binary op y
compared op y (c ∷ cs) = steps.Compare op y (c ∷ cs)

unfoldable pub comparison : Rule Expr → ℕ → BinaryOperator → Rule Step
comparison right level op = do
  y ← right
  cs ← comparisons_from right level []
  pure (compared op y cs)

unfoldable pub conjunction : Rule Expr → Rule Step
conjunction right = do
  y ← right
  pure (steps.And y)

unfoldable pub disjunction : Rule Expr → Rule Step
disjunction right = do
  y ← right
  pure (steps.Or y)

-- what follows a link
abbrev pub step : Inside → Rule Expr → ℕ → Link → Rule Step
step i right level links.Member = named_step i
step i right level links.Item = subscript i
step i right level links.Call = call_step i
step i right level links.Filter = filter_step i
step i right level links.Test = test_step i
step i right level (links.Operator op) = operation right op
step i right level (links.Comparison op) = comparison right level op
step i right level links.And = conjunction right
step i right level links.Or = disjunction right

-- as many steps of a level as there are
abbrev pub steps_from : Inside → Rule Expr → ℕ → List Step → Rule (List Step)
steps_from i right level xs = many_from (link level) (step i right level) xs

-- a value and its steps
abbrev pub chained : Expr → List Step → Expr
chained x [] = x
chained x (s ∷ ss) = exprs.Chain x (s ∷ ss)

-- an operand, and the steps of the level after it
abbrev pub with_steps : Inside → Rule Expr → ℕ → Rule Expr
with_steps i right level = do
  x ← right
  xs ← steps_from i right level []
  pure (chained x xs)

-- an operand of a level: a prefix of that level and another operand, or else what binds tighter
unfoldable pub operand : Inside → ℕ → Rule Expr
operand i zero = primary i
operand i (suc level) = branch (prefix (suc level))
    (λ op. do
      x ← i.operand (suc level)
      pure (exprs.Unary op x))
    (with_steps i (operand i level) level)

unfoldable pub expr_at : Inside → ℕ → Rule Expr
expr_at i level = with_steps i (operand i level) level

-- a value or a condition, with all its operators
abbrev pub whole : Inside → Rule Expr
whole i = expr_at i or_level

-- the expression for a missing else part
abbrev pub no_else : Expr
no_else = exprs.Const (value.undefined true)

unfoldable pub else_part : Inside → Rule Expr
else_part i = branch (first (is sign.Else)) (λ _. i.expr) (pure no_else)

-- what follows `if`
unfoldable pub condition : Inside → Rule Condition
condition i = do
  test ← whole i
  other ← else_part i
  pure (record { test = test; otherwise = other })

-- as many conditions as there are
abbrev pub conditions_from : Inside → List Condition → Rule (List Condition)
conditions_from i xs = many_from (first (is sign.If)) (λ _. condition i) xs

-- a value and its conditions
abbrev pub conditional : Expr → List Condition → Expr
conditional x [] = x
conditional x (c ∷ cs) = exprs.Conditional x (c ∷ cs)

unfoldable pub expr : Inside → Rule Expr
expr i = do
  x ← whole i
  cs ← conditions_from i []
  pure (conditional x cs)

-- all items except the last one, and the last one
abbrev pub split_last : {A : Type 0} → A → List A → List A × A
split_last x [] = ([], x)
split_last x (y ∷ ys) = (x ∷ (split_last y ys).0, (split_last y ys).1)

-- a value as a target
abbrev pub lone_target : Expr → Option AssignmentTarget
lone_target (Var name) = Some (targets.Name name)
lone_target _ = None

-- the name of an attribute
abbrev pub attribute_name : Step → Option (List ℕ)
attribute_name (Attribute name) = Some name
attribute_name _ = None

-- a value with steps and a last step, as a target
abbrev pub last_target : Expr → List Step → Step → Option AssignmentTarget
last_target x before last = option_map (λ name. targets.Attribute (chained x before) name) (attribute_name last)

-- A value and its steps as a target: a name without steps, or an attribute of what precedes it.
abbrev pub target_of : Expr → List Step → Option AssignmentTarget
target_of x [] = lone_target x
target_of x (s ∷ ss) = last_target x (split_last s ss).0 (split_last s ss).1

-- a rule that takes no token
abbrev pub known : {A : Type 0} → Option A → Rule A
known None = nothing
known (Some x) = pure x

-- as many steps of a target as there are
abbrev pub target_steps_from : Inside → List Step → Rule (List Step)
target_steps_from i xs = many_from (first a_target_link) (step i (operand i postfix_level) postfix_level) xs

-- a name or an attribute
unfoldable pub member : Inside → Rule AssignmentTarget
member i = do
  x ← operand i postfix_level
  ss ← target_steps_from i []
  known (target_of x ss)

-- a target without commas outside of brackets
unfoldable pub single : Inside → Rule AssignmentTarget
single i = branch (first (is sign.OpenRound))
    (λ _. do
      x ← i.target
      close ← token (is sign.CloseRound)
      pure x)
    (member i)

-- a comma followed by another target
abbrev pub target_comma : Look Token (Unit {0})
target_comma = not_before (is sign.Comma) ends_target

unfoldable pub more_targets : Inside → List AssignmentTarget → Rule (List AssignmentTarget)
more_targets i xs = many_from target_comma (λ _. single i) xs

-- several targets after the first one, with an optional comma at the end
unfoldable pub several : Inside → AssignmentTarget → Rule AssignmentTarget
several i x = do
  xs ← more_targets i (x ∷ [])
  comma ← branch (first (is sign.Comma)) pure (pure tt)
  pure (targets.Unpack xs)

-- one target, or several separated by commas
unfoldable pub target : Inside → Rule AssignmentTarget
target i = do
  x ← single i
  ahead is_comma (several i x) (pure x)

-- what is allowed within n more levels of nesting
unfoldable pub inside : ℕ → Inside
inside zero = record { room = nothing; expr = nothing; operand = λ level. nothing; filter = nothing; target = nothing }
inside (suc n) = record {
  room = pure tt;
  expr = expr (inside n);
  operand = operand (inside n);
  filter = filter_step (inside n);
  target = target (inside n);
}
