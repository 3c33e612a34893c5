-- The chain of a cause, if there is one.
use Rattle.std.specs.Prelude.{List, [], Option, None, Some}
use Rattle.std.specs.declared.boxed.Box.{Box}
use Rattle.std.specs.declared.alloc.Global.{Global}
use Rattle.tm_values.specs.declared.error.ErrorKind.{ErrorKind}
use Rattle.tm_values.specs.declared.error.More.{More}

abbrev pub cause_chain : Option (List ErrorKind) → List ErrorKind
cause_chain None = []
cause_chain (Some cause) = cause

abbrev pub chain_of : Option (Box More Global) → List ErrorKind
chain_of None = []
chain_of (Some more) = cause_chain more.value.cause
