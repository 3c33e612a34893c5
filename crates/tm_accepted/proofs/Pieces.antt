-- Each instruction of code is of something: there are as many pieces.
use Rattle.std.proofs.Common.{◌≡◌, ℕ, ◌+◌, List, [], ◌∷◌, length, length-append, arith}
use Rattle.tm_trees.specs.Instructions.{Instruction}
use Rattle.tm_trees.specs.Instructions.instructions as i
use Rattle.tm_syntax.specs.Fragments.{Fragment, straight, ◌⨾◌, jump_out, bounded, fork, looped, break_loop, next_round, declares, MacroHead}
use Rattle.tm_syntax.specs.Fragments.{beyond_all, beyond, Labels, assemble, building}
use Rattle.tm_syntax.proofs.Standing.{beyond_is}
use Rattle.tm_accepted.specs.Sites.{ordinary, pieces_of, building_pieces, pieces}

straight_long : (pc : ℕ) (is : List Instruction) → beyond_all pc is ≡ pc + length (pieces_of is)
straight_long pc [] = omega arith
straight_long pc (i.Swap ∷ i.LoadConst v ∷ i.Add ∷ is) = omega (arith, straight_long (pc + 1 + 1 + 1) is)
straight_long pc (x ∷ is) = omega (arith, straight_long (pc + 1) is)

building_long : (pc : ℕ) (free : List (List ℕ)) (m : MacroHead) (place : ℕ) →
    beyond_all pc (building free m place) ≡ pc + length (building_pieces free)
building_long pc [] m place = omega arith
building_long pc (x ∷ xs) m place = omega (arith, building_long (pc + 1) xs m place)

pub beyond_pieces : (pc : ℕ) (c : Fragment) → beyond pc c ≡ pc + length (pieces c)
beyond_pieces pc (straight is) = straight_long pc is
beyond_pieces pc (c ⨾ d) = omega (arith, beyond_pieces pc c, beyond_pieces (beyond pc c) d, length-append (pieces c) (pieces d))
beyond_pieces pc (jump_out j) = omega arith
beyond_pieces pc (bounded c) = beyond_pieces pc c
beyond_pieces pc (fork c d) =
    omega (arith, beyond_pieces pc c, beyond_pieces (beyond pc c + 1) d, length-append (pieces c) (ordinary ∷ pieces d))
beyond_pieces pc (looped g c d) =
    omega (arith, beyond_pieces (pc + 1 + 1) c, beyond_pieces (beyond (pc + 1 + 1) c + 1) d, length-append (pieces c) (ordinary ∷ pieces d))
beyond_pieces pc break_loop = omega arith
beyond_pieces pc next_round = omega arith
beyond_pieces pc (declares m c) =
    omega (
      arith,
      beyond_pieces (pc + 1) c,
      building_long (beyond (pc + 1) c + 1) m.free m (pc + 1),
      length-append (pieces c) (ordinary ∷ building_pieces m.free),
    )

-- one for each instruction
pub as_many : (l : Labels) (pc : ℕ) (c : Fragment) → length (assemble l pc c) ≡ length (pieces c)
as_many l pc c = omega (arith, beyond_is l pc c, beyond_pieces pc c)
