-- Accepted streams.
use Rattle.std.specs.Prelude.{◌≡◌, ◌⊎◌, List, [], ◌∷◌, false, true}
use Rattle.tm_values.specs.declared.error.ErrorKind.{ErrorKind}
use Rattle.tm_values.specs.declared.error.ErrorKind.TheVariants.{BadStream, OutOfMemory}
use Rattle.tm_trees.specs.Instructions.{Instruction}
use Rattle.tm_shapes.specs.Accepts.{accepts}
use Rattle.tm_shapes.specs.declared.kind.Form.{Form}

-- The stream isn't accepted, or memory ran out.
abbrev pub IsRefused : Form → List Instruction → List ErrorKind → Type 0
IsRefused form code chain = (chain ≡ OutOfMemory ∷ []) ⊎ ((chain ≡ BadStream ∷ []) × (accepts form code ≡ false))

-- The stream is accepted, in some form.
abbrev pub IsAccepted : List Instruction → Type 0
IsAccepted code = (form : Form) × (accepts form code ≡ true)
