-- Loops and macros are numbered in the order of the source, for each stream. The loop that selects
-- the items of a condition counts before the loop itself, and a macro before those inside it.
use Rattle.std.specs.Prelude.{ℕ, zero, suc, ◌+◌, List, [], ◌∷◌, ◌++◌, Option, Some, None, Bool, false}
use Rattle.tm_syntax.specs.declared.instruction.Instruction.{Instruction}
use Rattle.tm_syntax.specs.declared.instruction.Instruction.TheVariants as i
use Rattle.tm_syntax.specs.declared.instruction.LoopFlags.{LoopFlags}
pub use Rattle.tm_syntax.specs.declared.instruction.LoopPlace.{LoopPlace}
use Rattle.tm_syntax.specs.declared.tree.Expr.{Expr}
use Rattle.tm_syntax.specs.declared.tree.AssignmentTarget.{AssignmentTarget}
use Rattle.tm_syntax.specs.declared.tree.Parameter.{Parameter}
use Rattle.tm_syntax.specs.declared.tree.Stmt.{Stmt, If', For', CaptureBlock', With', AutoEscape', Macro', CallBlock', Row_of-Stmt}
use Rattle.tm_syntax.specs.declared.tree.Stmt.{end_of-Stmt as no_statement}
use Rattle.tm_syntax.specs.declared.tree.Stmt.{more_of-Stmt as statement, Held-Stmt-If-2 as Otherwise, None' as no_else}
use Rattle.tm_syntax.specs.declared.tree.Stmt.{Some' as otherwise}
use Rattle.tm_syntax.specs.Blocks.{Body, body_of, StreamTree, statements, expression}

-- ---------------------------------------------------------------- trees
abbrev pub passes : Option Expr → ℕ
passes None = 0
passes (Some c) = 1

-- How many loops and macros come before: the numbers of the next ones.
pub record Numbers : Type 0 where
  pub loops : ℕ
  pub macros : ℕ

abbrev pub first_numbers : Numbers
first_numbers = record { loops = 0; macros = 0 }

-- the numbers before the body of a loop, and of a macro, given those before the statement
abbrev pub within_loop : Option Expr → Numbers → Numbers
within_loop c at = record at { loops = at.loops + passes c + 1 }

abbrev pub within_macro : Numbers → Numbers
within_macro at = record at { macros = at.macros + 1 }

-- the numbers after statements
abbrev mutual
  pub past : Numbers → Stmt → Numbers
  past at (If' c _ body other) = past_else (pasts at body) other
  past at (For' t e c r _ body other) = past_else (pasts (within_loop c at) body) other
  past at (CaptureBlock' u filters _ body) = pasts at body
  past at (With' given _ body) = pasts at body
  past at (AutoEscape' e _ body) = pasts at body
  past at (Macro' x ps _ body) = pasts (within_macro at) body
  past at (CallBlock' e ps _ body) = pasts (within_macro at) body
  past at _ = at

  pub pasts : {n : _} → Numbers → Row_of-Stmt n → Numbers
  pasts at no_statement = at
  pasts at (statement s ss) = pasts (past at s) ss

  pub past_else : Numbers → Otherwise → Numbers
  past_else at no_else = at
  past_else at (otherwise _ body) = pasts at body

-- A loop of a tree: whether it can be called, its target, its body, and the numbers before the
-- body.
pub record FoundLoop : Type 0 where
  pub recursive : Bool
  pub target : AssignmentTarget
  pub body : Body
  pub at : Numbers

-- the loop that selects items can't be called
abbrev pub with_pass : Option Expr → FoundLoop → List FoundLoop → List FoundLoop
with_pass None l ls = l ∷ ls
with_pass (Some c) l ls = record l { recursive = false } ∷ l ∷ ls

-- the loops, in the order of their numbers
abbrev mutual
  pub loops_of : Numbers → Stmt → List FoundLoop
  loops_of at (If' c _ body other) = loops_in at body ++ loops_else (pasts at body) other
  loops_of at (For' t e c r _ body other) =
      with_pass c (record { recursive = r; target = t; body = body_of body; at = within_loop c at })
      (loops_in (within_loop c at) body ++ loops_else (pasts (within_loop c at) body) other)
  loops_of at (CaptureBlock' u filters _ body) = loops_in at body
  loops_of at (With' given _ body) = loops_in at body
  loops_of at (AutoEscape' e _ body) = loops_in at body
  loops_of at (Macro' x ps _ body) = loops_in (within_macro at) body
  loops_of at (CallBlock' e ps _ body) = loops_in (within_macro at) body
  loops_of at _ = []

  pub loops_in : {n : _} → Numbers → Row_of-Stmt n → List FoundLoop
  loops_in at no_statement = []
  loops_in at (statement s ss) = loops_of at s ++ loops_in (past at s) ss

  pub loops_else : Numbers → Otherwise → List FoundLoop
  loops_else at no_else = []
  loops_else at (otherwise _ body) = loops_in at body

-- A macro of a tree: its parameters, its body, and the numbers before the body.
pub record FoundMacro : Type 0 where
  pub parameters : List Parameter
  pub body : Body
  pub at : Numbers

-- the macros, in the order of their numbers
abbrev mutual
  pub macros_of : Numbers → Stmt → List FoundMacro
  macros_of at (If' c _ body other) = macros_in at body ++ macros_else (pasts at body) other
  macros_of at (For' t e c r _ body other) = macros_in (within_loop c at) body ++ macros_else (pasts (within_loop c at) body) other
  macros_of at (CaptureBlock' u filters _ body) = macros_in at body
  macros_of at (With' given _ body) = macros_in at body
  macros_of at (AutoEscape' e _ body) = macros_in at body
  macros_of at (Macro' x ps _ body) =
      record { parameters = ps; body = body_of body; at = within_macro at } ∷ macros_in (within_macro at) body
  macros_of at (CallBlock' e ps _ body) =
      record { parameters = ps; body = body_of body; at = within_macro at } ∷ macros_in (within_macro at) body
  macros_of at _ = []

  pub macros_in : {n : _} → Numbers → Row_of-Stmt n → List FoundMacro
  macros_in at no_statement = []
  macros_in at (statement s ss) = macros_of at s ++ macros_in (past at s) ss

  pub macros_else : Numbers → Otherwise → List FoundMacro
  macros_else at no_else = []
  macros_else at (otherwise _ body) = macros_in at body

-- ---------------------------------------------------------------- streams
-- the loops of a stream's statements, in the order of their numbers; an expression has none
abbrev pub stream_loops : StreamTree → List FoundLoop
stream_loops (statements body) = loops_in first_numbers body.row
stream_loops (expression e) = []

abbrev pub stream_macros : StreamTree → List FoundMacro
stream_macros (statements body) = macros_in first_numbers body.row
stream_macros (expression e) = []

-- ---------------------------------------------------------------- code
-- the loop that an instruction begins
abbrev pub begins : Instruction → Option LoopFlags
begins (i.PushLoop flags) = Some flags
begins _ = None

abbrev pub with_place : Option LoopFlags → ℕ → List LoopPlace → List LoopPlace
with_place None pc ls = ls
with_place (Some flags) pc ls = record { place = pc; flags = flags } ∷ ls

-- the loops in code that begins at pc, in the order of their numbers
abbrev pub loop_places : ℕ → List Instruction → List LoopPlace
loop_places pc [] = []
loop_places pc (x ∷ is) = with_place (begins x) pc (loop_places (pc + 1) is)

abbrev pub one_more_loop : Option LoopFlags → ℕ → ℕ
one_more_loop None n = n
one_more_loop (Some flags) n = n + 1

-- how many loops begin before a place
abbrev pub loops_before : ℕ → List Instruction → ℕ
loops_before zero is = 0
loops_before (suc n) [] = 0
loops_before (suc n) (x ∷ is) = one_more_loop (begins x) (loops_before n is)
