-- Code without places, and its instructions once it has a place.
use Rattle.std.specs.Prelude.{ℕ, ◌+◌, List, [], ◌∷◌, ◌++◌, map as each, Bool, false}
use Rattle.tm_values.specs.Val.{Val, text, list, vals_of}
use Rattle.tm_syntax.specs.declared.instruction.LoopFlags.{LoopFlags}
use Rattle.tm_syntax.specs.declared.instruction.Instruction.{Instruction}
use Rattle.tm_syntax.specs.declared.instruction.Instruction.TheVariants as i
use Rattle.tm_syntax.specs.declared.jump.JumpKind.{JumpKind}
use Rattle.tm_syntax.specs.declared.jump.JumpKind.TheVariants as kinds

-- A macro's name, the names of its parameters, the names in its closure, and whether it takes
-- `caller`.
pub record MacroHead : Type 0 where
  pub name : List ℕ
  pub parameters : List (List ℕ)
  pub free : List (List ℕ)
  pub caller : Bool

infixr 60 ◌⨾◌
pub data Fragment : Type 0 where
  -- instructions that neither jump nor begin a loop
  straight : List Instruction → Fragment
  -- one after the other
  ◌⨾◌ : Fragment → Fragment → Fragment
  -- a jump out of the innermost `bounded` or `fork` around it
  jump_out : JumpKind → Fragment
  -- jumps out of it go to its end
  bounded : Fragment → Fragment
  -- Jumps out of the first fragment go to the second; the end of the first jumps over the second.
  fork : Fragment → Fragment → Fragment
  -- a loop: its round, and what follows the last round
  looped : LoopFlags → Fragment → Fragment → Fragment
  -- a jump to the end of the innermost loop's rounds, and one to its next round
  break_loop : Fragment
  next_round : Fragment
  -- A macro as a value. Code around it jumps over its body, and only calls enter it. Its body
  -- doesn't see the loops and jumps around it.
  declares : MacroHead → Fragment → Fragment

-- a jump over code, and a choice between two fragments
abbrev pub over : JumpKind → Fragment → Fragment
over j c = bounded (jump_out j ⨾ c)

abbrev pub either : Fragment → Fragment → Fragment
either c d = fork (jump_out kinds.IfFalse ⨾ c) d

-- ---------------------------------------------------------------- macros
-- names as a literal list of texts
abbrev pub name_list : List (List ℕ) → Val
name_list xs = list (vals_of (each (λ x. text x false) xs))

-- Builds a closure with these names, and the macro that is entered at the place.
abbrev pub building : List (List ℕ) → MacroHead → ℕ → List Instruction
building [] m place = i.GetClosure ∷ i.LoadConst (name_list m.parameters) ∷ i.BuildMacro m.name place m.caller ∷ []
building (x ∷ xs) m place = i.Enclose x ∷ building xs m place

-- what follows the body of a macro that is entered at the place
abbrev pub after_body : MacroHead → ℕ → List Instruction
after_body m place = i.Return ∷ building m.free m place

-- ---------------------------------------------------------------- places
abbrev pub beyond_all : ℕ → List Instruction → ℕ
beyond_all pc [] = pc
beyond_all pc (x ∷ is) = beyond_all (pc + 1) is

-- the place after the code, if it begins at pc
abbrev pub beyond : ℕ → Fragment → ℕ
beyond pc (straight is) = beyond_all pc is
beyond pc (c ⨾ d) = beyond (beyond pc c) d
beyond pc (jump_out j) = pc + 1
beyond pc (bounded c) = beyond pc c
beyond pc (fork c d) = beyond (beyond pc c + 1) d
beyond pc (looped g c d) = beyond (beyond (pc + 1 + 1) c + 1) d
beyond pc break_loop = pc + 1
beyond pc next_round = pc + 1
beyond pc (declares m c) = beyond_all (beyond (pc + 1) c) (after_body m (pc + 1))

-- the targets of jumps out, of the next round of the innermost loop, and of its end
pub record Labels : Type 0 where
  pub out : ℕ
  pub again : ℕ
  pub after : ℕ

abbrev pub outward : ℕ → Labels → Labels
outward out l = record l { out = out }

abbrev pub inward : ℕ → ℕ → Labels → Labels
inward again after l = record l { again = again; after = after }

-- labels for code on its own; a break or continue outside of a loop, which no source contains,
-- jumps to its end
abbrev pub ending_at : ℕ → Labels
ending_at end = record { out = end; again = end; after = end }

-- ---------------------------------------------------------------- instructions
abbrev pub jump : JumpKind → ℕ → Instruction
jump kinds.IfFalse to = i.JumpIfFalse to
jump kinds.IfFalseOrPop to = i.JumpIfFalseOrPop to
jump kinds.IfTrueOrPop to = i.JumpIfTrueOrPop to

abbrev pub assemble : Labels → ℕ → Fragment → List Instruction
assemble l pc (straight is) = is
assemble l pc (c ⨾ d) = assemble l pc c ++ assemble l (beyond pc c) d
assemble l pc (jump_out j) = jump j l.out ∷ []
assemble l pc (bounded c) = assemble (outward (beyond pc c) l) pc c
assemble l pc (fork c d) =
    let second = beyond pc c + 1 in
    assemble (outward second l) pc c ++ i.Jump (beyond second d) ∷ assemble l second d
assemble l pc (looped g c d) =
    let again = pc + 1 in
    let after = beyond (again + 1) c + 1 in
    i.PushLoop g ∷ i.Iterate after ∷ (assemble (inward again after l) (again + 1) c ++ i.Jump again ∷ assemble l after d)
assemble l pc break_loop = i.Jump l.after ∷ []
assemble l pc next_round = i.Jump l.again ∷ []
assemble l pc (declares m c) =
    let end = beyond (pc + 1) c in
    i.Jump (end + 1) ∷ (assemble (ending_at end) (pc + 1) c ++ after_body m (pc + 1))

-- code on its own
abbrev pub whole_labels : Fragment → Labels
whole_labels c = ending_at (beyond 0 c)

abbrev pub assembled : Fragment → List Instruction
assembled c = assemble (whole_labels c) 0 c
