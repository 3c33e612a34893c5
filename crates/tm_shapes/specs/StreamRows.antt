-- Streams for the worked examples.
use Rattle.std.specs.Prelude.{ℕ, pos, List, [], ◌∷◌, ◌++◌, Some, None, Bool, true, false, codes}
use Rattle.tm_values.specs.Val.{Val, boolean, number, list, text, vals_of}
use Rattle.tm_trees.specs.Instructions.{LoopFlags, Instruction}
use Rattle.tm_trees.specs.Instructions.instructions as i

abbrev pub looping : Bool → LoopFlags
looping recursive = record { variable = true; recursive = recursive }

-- a list with an empty list as its item
abbrev pub one_list : Val
one_list = list (vals_of (list (vals_of []) ∷ []))

abbrev pub nothing_in : Val
nothing_in = list (vals_of [])

abbrev pub one_value : Instruction
one_value = i.LoadConst (number (pos 1))

-- a filter or a test of one argument, with its cache number
abbrev pub filter : List ℕ → ℕ → Instruction
filter x k = i.ApplyFilter x (Some 1) k

abbrev pub test : List ℕ → ℕ → Instruction
test x k = i.PerformTest x (Some 1) k

-- a value passed through two filters or tests
abbrev pub through : Instruction → Instruction → List Instruction
through a b = one_value ∷ a ∷ b ∷ i.Emit ∷ []

-- a loop whose round pops an operand from below the loop
abbrev pub taking_from_under : Bool → List Instruction
taking_from_under recursive =
    i.LoadConst (text (codes "a") false) ∷ i.LoadConst one_list ∷ i.PushLoop (looping recursive) ∷ i.Iterate 6 ∷ i.StringConcat ∷ i.Jump 3
    ∷ i.PopLoopFrame ∷ i.Emit ∷ []

-- a macro that is jumped over; its entry lacks the operand that it emits
abbrev pub unreached_macro : List Instruction
unreached_macro = i.Jump 4 ∷ i.GetClosure ∷ i.LoadConst nothing_in ∷ i.BuildMacro (codes "m") 5 false ∷ i.Jump 6 ∷ i.Emit ∷ []

-- a macro that is jumped over, before an unreachable instruction
abbrev pub macro_before : Instruction → List Instruction
macro_before x = i.Jump 5 ∷ i.GetClosure ∷ i.LoadConst nothing_in ∷ i.BuildMacro (codes "m") 5 false ∷ x ∷ []

-- a macro whose parts aren't adjacent
abbrev pub parts_apart : List Instruction
parts_apart = i.GetClosure ∷ i.LoadConst nothing_in ∷ one_value ∷ i.Emit ∷ i.BuildMacro (codes "m") 0 false ∷ i.DiscardTop ∷ []

-- a loop that its own rounds call
abbrev pub called_again : List Instruction
called_again = i.LoadConst one_list ∷ i.PushLoop (looping true) ∷ i.Iterate 5 ∷ i.FastRecurse ∷ i.Jump 2 ∷ i.PopLoopFrame ∷ []

-- a loop that ends after an instruction
abbrev pub left_by_loop : Instruction → List Instruction
left_by_loop x = i.LoadConst one_list ∷ i.PushLoop (looping false) ∷ x ∷ i.PopLoopFrame ∷ []

-- ---------------------------------------------------------------- paths that meet
-- one of two instructions, and then the end of a capture
abbrev pub one_way_or : Instruction → Instruction → List Instruction
one_way_or a b = i.LoadConst (boolean true) ∷ i.JumpIfFalse 4 ∷ a ∷ i.Jump 5 ∷ b ∷ i.EndCapture ∷ i.Emit ∷ []

-- a loop that began with no operand below it, or with one; on both paths there is one operand then
abbrev pub loop_over_one_or_none : List Instruction
loop_over_one_or_none =
    i.LoadConst (boolean true) ∷ i.JumpIfFalse 6 ∷ i.LoadConst one_list ∷ i.PushLoop (looping false) ∷ one_value ∷ i.Jump 9
    ∷ one_value ∷ i.LoadConst one_list ∷ i.PushLoop (looping false) ∷ i.PopLoopFrame ∷ i.DiscardTop ∷ []

-- ---------------------------------------------------------------- groups
abbrev pub zero_value : Instruction
zero_value = i.LoadConst (number (pos 0))

-- a 1 above a 0, swapped, and a 1 added to a 0
abbrev pub added : List Instruction
added = zero_value ∷ one_value ∷ i.Swap ∷ one_value ∷ i.Add ∷ i.Emit ∷ i.Emit ∷ []

-- a value that goes into a group, if the last instruction of the row is `Add`
abbrev pub counted : Instruction → List Instruction
counted last = zero_value ∷ i.Lookup (codes "a") ∷ i.Swap ∷ one_value ∷ last ∷ i.BuildList None ∷ i.Emit ∷ []

-- the same, with an unreachable jump to one of its places
abbrev pub into_the_middle : ℕ → List Instruction
into_the_middle place = counted i.Add ++ i.Jump 9 ∷ i.Jump place ∷ []

-- the items of a list for which a name is true
abbrev pub filtered_loop : List Instruction
filtered_loop =
    zero_value ∷ i.LoadConst one_list ∷ i.PushLoop (record { variable = false; recursive = false }) ∷ i.Iterate 11 ∷ i.Lookup (codes "a")
    ∷ i.JumpIfFalse 10 ∷ i.Swap ∷ one_value ∷ i.Add ∷ i.Jump 3 ∷ i.DiscardTop ∷ i.PopLoopFrame ∷ i.BuildList None ∷ i.Emit ∷ []

-- a 0 or another value
abbrev pub zero_or_value : List Instruction
zero_or_value = i.LoadConst (boolean true) ∷ i.JumpIfFalse 4 ∷ zero_value ∷ i.Jump 5 ∷ one_value ∷ i.Emit ∷ []

-- ---------------------------------------------------------------- forms
-- a macro as a value, whose body is one instruction before its `Return`
abbrev pub macro_value : Instruction → List Instruction
macro_value x =
    i.Jump 3 ∷ x ∷ i.Return ∷ i.GetClosure ∷ i.LoadConst nothing_in ∷ i.BuildMacro (codes "m") 1 false ∷ i.Return ∷ []
