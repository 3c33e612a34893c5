-- An error as its chain of kinds, outermost first.
use Rattle.std.specs.Prelude.{List, [], ◌∷◌, Bool, true, false}
use Rattle.tm_values.specs.declared.error.ErrorKind.{ErrorKind}
use Rattle.tm_values.specs.declared.error.ErrorKind.TheVariants.{InvalidOperation, OutOfMemory}

-- the first kind; the chain of an error is never empty
abbrev pub kind_of : List ErrorKind → ErrorKind
kind_of [] = InvalidOperation
kind_of (k ∷ ks) = k

-- the chain of the cause
abbrev pub causes_of : List ErrorKind → List ErrorKind
causes_of [] = []
causes_of (k ∷ ks) = ks

abbrev pub is_memory : ErrorKind → Bool
is_memory OutOfMemory = true
is_memory _ = false
