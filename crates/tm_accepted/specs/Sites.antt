-- The surroundings of instructions in the code of a tree, as far as a flow depends on them.
use Rattle.std.specs.Prelude.{ℕ, pos, List, [], ◌∷◌, ◌++◌, Option, Bool, true, false}
use Rattle.tm_values.specs.Val.{number}
use Rattle.tm_trees.specs.Instructions.{Instruction}
use Rattle.tm_trees.specs.Instructions.instructions as i
use Rattle.tm_syntax.specs.Fragments.{Fragment, straight, ◌⨾◌, jump_out, bounded, fork, looped, break_loop, next_round, declares}
use Rattle.tm_shapes.specs.declared.kind.Reading.{Reading}
use Rattle.tm_shapes.specs.Flows.{Site}

-- The piece of code that an instruction belongs to: nothing in particular; the first or second of
-- the three that build a macro; or the first or second of the three that add a value to a group.
pub data Piece : Type 0 where
  ordinary : Piece
  closure_of_macro : Piece
  names_of_macro : Piece
  row_start : Piece
  one_of_row : Piece

-- the pieces of straight instructions
abbrev pub pieces_of : List Instruction → List Piece
pieces_of [] = []
pieces_of (i.Swap ∷ i.LoadConst v ∷ i.Add ∷ is) = row_start ∷ one_of_row ∷ ordinary ∷ pieces_of is
pieces_of (x ∷ is) = ordinary ∷ pieces_of is

-- the pieces of the instructions that build a macro
abbrev pub building_pieces : List (List ℕ) → List Piece
building_pieces [] = closure_of_macro ∷ names_of_macro ∷ ordinary ∷ []
building_pieces (x ∷ xs) = ordinary ∷ building_pieces xs

-- the pieces of code, one for each instruction
abbrev pub pieces : Fragment → List Piece
pieces (straight is) = pieces_of is
pieces (c ⨾ d) = pieces c ++ pieces d
pieces (jump_out j) = ordinary ∷ []
pieces (bounded c) = pieces c
pieces (fork c d) = pieces c ++ ordinary ∷ pieces d
pieces (looped g c d) = ordinary ∷ ordinary ∷ (pieces c ++ ordinary ∷ pieces d)
pieces break_loop = ordinary ∷ []
pieces next_round = ordinary ∷ []
pieces (declares m c) = ordinary ∷ (pieces c ++ ordinary ∷ building_pieces m.free)

-- what follows it, as far as a flow depends on it
abbrev pub rest_of : Piece → List Instruction
rest_of closure_of_macro = i.LoadConst (number (pos 0)) ∷ i.BuildMacro [] 0 false ∷ []
rest_of names_of_macro = i.BuildMacro [] 0 false ∷ []
rest_of row_start = i.LoadConst (number (pos 1)) ∷ i.Add ∷ []
rest_of p = []

abbrev pub is_one_of_row : Piece → Bool
is_one_of_row one_of_row = true
is_one_of_row p = false

abbrev pub site_by : Piece → Reading → Option ℕ → ℕ → Site
site_by p reading returned n = record {
  place = n;
  rest = rest_of p;
  entered = false;
  between = is_one_of_row p;
  reading = reading;
  returned = returned;
  enters = true;
}
