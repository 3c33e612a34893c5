-- Running out of memory, and the kinds that wrap a fault.
use Rattle.std.specs.Prelude.{Bool, true, false, List, [], ◌∷◌, ◌&&◌}
use Rattle.tm_values.specs.Chain.{is_memory}
use Rattle.tm_values.specs.declared.error.ErrorKind.{ErrorKind}
use Rattle.tm_values.specs.declared.error.ErrorKind.TheVariants as kinds
use Rattle.tm_meaning.specs.declared.wrapping.Wrapping.{Wrapping}
use Rattle.tm_meaning.specs.declared.wrapping.Wrapping.TheVariants as wrapping

abbrev pub kind_of_wrapping : Wrapping → ErrorKind
kind_of_wrapping wrapping.EvalBlock = kinds.EvalBlock
kind_of_wrapping wrapping.BadInclude = kinds.BadInclude

-- The kinds that may wrap another fault: those of nested runs, and InvalidOperation, which wraps
-- the fault of a loop call's argument.
abbrev pub is_wrapping : ErrorKind → Bool
is_wrapping kinds.EvalBlock = true
is_wrapping kinds.BadInclude = true
is_wrapping kinds.InvalidOperation = true
is_wrapping _ = false

-- The chain is OutOfMemory, wrapped only by these kinds.
abbrev pub is_want_of_memory : List ErrorKind → Bool
is_want_of_memory [] = false
is_want_of_memory (k ∷ []) = is_memory k
is_want_of_memory (k ∷ c ∷ cs) = is_wrapping k && is_want_of_memory (c ∷ cs)
