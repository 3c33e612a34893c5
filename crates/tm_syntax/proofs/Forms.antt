-- Boxes as the program holds them are what they hold.
use Rattle.std.proofs.Common.{◌≡◌, refl}
use denote.Hole.Carrier.{hidden}
use Rattle.tm_syntax.specs.declared.tree.Expr.{Expr, end_of-Expr, more_of-Expr}
use Rattle.tm_syntax.specs.declared.tree.Argument.TheBlock.{hidden-the_row-Expr-0}

pub box-is : (a : Expr) → hidden-the_row-Expr-0 a ≡ more_of-Expr a end_of-Expr
unfolding hidden hidden-the_row-Expr-0
box-is a = refl

pub ruleset boxes = box-is
