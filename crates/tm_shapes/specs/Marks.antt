-- The places that jumps and entries lead to, as marks.
use Rattle.std.specs.Prelude.{◌≡◌, ◌≤◌, ℕ, List, length, Option, None, Some, Bool, true, nat_lt, slice_set}
use Rattle.tm_trees.specs.Instructions.{Instruction}
use Rattle.tm_shapes.specs.Placed.{is_entered, targets_within}
use Rattle.tm_shapes.specs.Sites.{is_marked}

-- The marked places are those that are entered.
abbrev pub AreMarks : List Instruction → List Bool → Type 0
AreMarks code marks = (n : ℕ) → is_marked marks n ≡ is_entered code n

-- The places that are entered are marked, and all are within the code.
abbrev pub MarkEntered : List Instruction → List Bool → Type 0
MarkEntered code marks = (targets_within (length code) code ≡ true) × (length code ≤ length marks) × AreMarks code marks

-- whether a place, if there is one, is below `size`
abbrev pub is_among : ℕ → Option ℕ → Bool
is_among size None = true
is_among size (Some n) = nat_lt n size

-- marks a place, if there is one
abbrev pub with_mark : Option ℕ → List Bool → List Bool
with_mark None marks = marks
with_mark (Some n) marks = slice_set marks n true
