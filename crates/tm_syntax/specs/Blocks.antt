-- The statements of a tree as one value, the blocks in them, and what a stream runs.
use Rattle.std.specs.Prelude.{List, [], ◌∷◌, ◌++◌, Bool}
use mathlib.Core.Former.{Count}
use Rattle.tm_syntax.specs.declared.tree.Stmt.{Stmt, If', For', Block', CaptureBlock', With', AutoEscape', Macro', CallBlock', Row_of-Stmt}
use Rattle.tm_syntax.specs.declared.tree.Stmt.{end_of-Stmt as no_statement, more_of-Stmt as statement, Held-Stmt-If-2 as Otherwise}
use Rattle.tm_syntax.specs.declared.tree.Stmt.{None' as no_else, Some' as otherwise}
use Rattle.tm_syntax.specs.declared.tree.Expr.{Expr}
use Rattle.tm_syntax.specs.declared.instruction.Instruction.{Instruction}
use Rattle.tm_syntax.specs.CacheNumbers.{numbered}
use Rattle.tm_syntax.specs.Code.{expr_code, statements_code}
use Rattle.tm_syntax.specs.Fragments.{Fragment, assembled}
use Rattle.tm_syntax.specs.Named.{Named}
use Rattle.tm_syntax.specs.declared.tree.Stmt.TheBlock.{hidden-the_row-Stmt-0 as row_of}
use Rattle.tm_syntax.specs.declared.tree.Tree.{Tree}
use Rattle.tm_syntax.specs.declared.tree.Tree.TheVariants as trees

pub record Body : Type 0 where
  pub size : Count
  pub row : Row_of-Stmt size

abbrev pub body_of : {n : Count} → Row_of-Stmt n → Body
body_of {n} ss = record { size = n; row = ss }

abbrev pub empty : Body
empty = body_of no_statement

-- A block of a tree: whether another template has to replace it, and its body.
pub record FoundBlock : Type 0 where
  pub required : Bool
  pub body : Body

abbrev pub found_block : Bool → Body → FoundBlock
found_block required body = record { required = required; body = body }

-- the blocks in statements at any depth; each comes after the blocks nested in it
abbrev mutual
  pub blocks_of : Stmt → Named FoundBlock
  blocks_of (If' c _ body other) = blocks_in body ++ blocks_else other
  blocks_of (For' t e c r _ body other) = blocks_in body ++ blocks_else other
  blocks_of (Block' x required _ body) = blocks_in body ++ (x, found_block required (body_of body)) ∷ []
  blocks_of (CaptureBlock' u filters _ body) = blocks_in body
  blocks_of (With' given _ body) = blocks_in body
  blocks_of (AutoEscape' e _ body) = blocks_in body
  blocks_of (Macro' x ps _ body) = blocks_in body
  blocks_of (CallBlock' e ps _ body) = blocks_in body
  blocks_of _ = []

  pub blocks_in : {n : _} → Row_of-Stmt n → Named FoundBlock
  blocks_in no_statement = []
  blocks_in (statement s ss) = blocks_of s ++ blocks_in ss

  pub blocks_else : Otherwise → Named FoundBlock
  blocks_else no_else = []
  blocks_else (otherwise _ body) = blocks_in body

-- ---------------------------------------------------------------- streams
-- What a stream runs: statements, or an expression, whose value is left on the stack.
pub data StreamTree : Type 0 where
  statements : Body → StreamTree
  expression : Expr → StreamTree

-- the blocks among its statements; an expression has none
abbrev pub stream_blocks : StreamTree → Named FoundBlock
stream_blocks (statements body) = blocks_in body.row
stream_blocks (expression e) = []

-- the code, before places are assigned
abbrev pub fragment_of : StreamTree → Fragment
fragment_of (statements body) = statements_code [] body.row
fragment_of (expression e) = expr_code e

-- its instructions
abbrev pub code_of : StreamTree → List Instruction
code_of tree = numbered (assembled (fragment_of tree))

-- the stream of a source's tree
abbrev pub stream_of : Tree → StreamTree
stream_of (trees.Statements ss) = statements (body_of (row_of ss))
stream_of (trees.Expression e) = expression e
