-- Trees as definitions and proofs cite them: the types, their forms, and the rows that they hold.
pub use Rattle.tm_syntax.specs.declared.tree.Application.{Application}
pub use Rattle.tm_syntax.specs.declared.tree.Argument.{Argument}
unfoldable pub use Rattle.tm_syntax.specs.declared.tree.Argument.TheBlock.{hidden-the_row-Argument-3 as arguments, hidden-the_row-Comparison-7 as comparisons}
unfoldable pub use Rattle.tm_syntax.specs.declared.tree.Argument.TheBlock.{hidden-the_row-Condition-6 as conditions, hidden-the_row-Expr-0 as hidden_expr}
unfoldable pub use Rattle.tm_syntax.specs.declared.tree.Argument.TheBlock.{hidden-the_row-Expr-1 as exprs, hidden-the_row-Keyword-4 as keywords}
unfoldable pub use Rattle.tm_syntax.specs.declared.tree.Argument.TheBlock.{hidden-the_row-Pair-2 as pairs, hidden-the_row-Step-5 as steps}
unfoldable pub use Rattle.tm_syntax.specs.declared.tree.Argument.TheBlock.{shape-the_row-Argument-3 as arguments_shape}
unfoldable pub use Rattle.tm_syntax.specs.declared.tree.Argument.TheBlock.{shape-the_row-Comparison-7 as comparisons_shape}
unfoldable pub use Rattle.tm_syntax.specs.declared.tree.Argument.TheBlock.{shape-the_row-Condition-6 as conditions_shape, shape-the_row-Expr-1 as exprs_shape}
unfoldable pub use Rattle.tm_syntax.specs.declared.tree.Argument.TheBlock.{shape-the_row-Keyword-4 as keywords_shape, shape-the_row-Pair-2 as pairs_shape}
unfoldable pub use Rattle.tm_syntax.specs.declared.tree.Argument.TheBlock.{shape-the_row-Step-5 as steps_shape}
pub use Rattle.tm_syntax.specs.declared.tree.Assignment.{Assignment}
pub use Rattle.tm_syntax.specs.declared.tree.AssignmentTarget.{AssignmentTarget, Attribute as Member, Name as To, Row_of-AssignmentTarget}
pub use Rattle.tm_syntax.specs.declared.tree.AssignmentTarget.{Unpack' as Items, end_of-AssignmentTarget as no_target}
pub use Rattle.tm_syntax.specs.declared.tree.AssignmentTarget.{more_of-AssignmentTarget as target}
unfoldable pub use Rattle.tm_syntax.specs.declared.tree.AssignmentTarget.TheBlock.{hidden-the_row-AssignmentTarget-0 as targets}
unfoldable pub use Rattle.tm_syntax.specs.declared.tree.AssignmentTarget.TheBlock.{shape-the_row-AssignmentTarget-0 as targets_shape}
pub use Rattle.tm_syntax.specs.declared.tree.BinaryOperator.{BinaryOperator}
pub use Rattle.tm_syntax.specs.declared.tree.CallBlock.{CallBlock}
pub use Rattle.tm_syntax.specs.declared.tree.CaptureUse.{CaptureUse}
pub use Rattle.tm_syntax.specs.declared.tree.Comparison.{Comparison}
pub use Rattle.tm_syntax.specs.declared.tree.Condition.{Condition}
pub use Rattle.tm_syntax.specs.declared.tree.Expr.{Call', Const, Expr, List', Map', Row_of-Argument, Row_of-Condition, Row_of-Expr, Row_of-Keyword}
pub use Rattle.tm_syntax.specs.declared.tree.Expr.{Row_of-Pair, Row_of-Step, SelfBlock, Tuple', Var, end_of-Argument as no_argument}
pub use Rattle.tm_syntax.specs.declared.tree.Expr.{end_of-Condition as no_condition, end_of-Expr as no_expr, end_of-Keyword as no_keyword}
pub use Rattle.tm_syntax.specs.declared.tree.Expr.{end_of-Pair as no_pair, end_of-Step as no_step, more_of-Argument as argument}
pub use Rattle.tm_syntax.specs.declared.tree.Expr.{more_of-Expr as expr, more_of-Keyword as keyword_and, more_of-Step as step}
pub use Rattle.tm_syntax.specs.declared.tree.ForLoop.{ForLoop}
pub use Rattle.tm_syntax.specs.declared.tree.Imported.{Imported}
pub use Rattle.tm_syntax.specs.declared.tree.Keyword.{Keyword}
pub use Rattle.tm_syntax.specs.declared.tree.Macro.{Macro}
pub use Rattle.tm_syntax.specs.declared.tree.Pair.{Pair}
pub use Rattle.tm_syntax.specs.declared.tree.Parameter.{Parameter}
pub use Rattle.tm_syntax.specs.declared.tree.Step.{Apply', Attribute, Call' as Called, Row_of-Comparison, Step, end_of-Comparison as no_comparison}
pub use Rattle.tm_syntax.specs.declared.tree.Stmt.{AutoEscape', Block', Break, CallBlock', CaptureBlock', Continue, Do, EmitBlock, EmitExpr}
pub use Rattle.tm_syntax.specs.declared.tree.Stmt.{EmitLoop, EmitRaw, EmitSuper, Extends, For', FromImport, Held-Stmt-If-2 as Otherwise, If', Import}
pub use Rattle.tm_syntax.specs.declared.tree.Stmt.{Include, Macro', None' as no_else, Row_of-Stmt, Set, Some' as otherwise, Stmt, With'}
pub use Rattle.tm_syntax.specs.declared.tree.Stmt.{end_of-Stmt as no_statement, more_of-Stmt as statement}
unfoldable pub use Rattle.tm_syntax.specs.declared.tree.Stmt.TheBlock.{hidden-the_row-Stmt-0 as statements, shape-the_row-Stmt-0 as statements_shape}
pub use Rattle.tm_syntax.specs.declared.tree.Tree.{Tree}
pub use Rattle.tm_syntax.specs.declared.tree.UnaryOperator.{UnaryOperator}
pub use Rattle.tm_syntax.specs.declared.tree.Application.TheVariants as applications
pub use Rattle.tm_syntax.specs.declared.tree.Argument.TheVariants as argument_forms
pub use Rattle.tm_syntax.specs.declared.tree.AssignmentTarget.TheVariants as target_forms
pub use Rattle.tm_syntax.specs.declared.tree.BinaryOperator.TheVariants as binaries
pub use Rattle.tm_syntax.specs.declared.tree.CaptureUse.TheVariants as uses
pub use Rattle.tm_syntax.specs.declared.tree.Expr.TheVariants as expr_forms
pub use Rattle.tm_syntax.specs.declared.tree.Keyword.TheVariants as keyword_forms
pub use Rattle.tm_syntax.specs.declared.tree.Step.TheVariants as step_forms
pub use Rattle.tm_syntax.specs.declared.tree.Stmt.TheVariants as statement_forms
pub use Rattle.tm_syntax.specs.declared.tree.Tree.TheVariants as tree_forms
pub use Rattle.tm_syntax.specs.declared.tree.UnaryOperator.TheVariants as unaries
