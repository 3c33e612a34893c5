-- The names of error kinds.
use Rattle.std.specs.Prelude.{ℕ, List, codes}
use Rattle.tm_values.specs.declared.error.ErrorKind.{ErrorKind}
use Rattle.tm_values.specs.declared.error.ErrorKind.TheVariants as kind

abbrev pub kind_name : ErrorKind → List ℕ
kind_name kind.InvalidOperation = codes "InvalidOperation"
kind_name kind.SyntaxError = codes "SyntaxError"
kind_name kind.InvalidDelimiter = codes "InvalidDelimiter"
kind_name kind.TemplateNotFound = codes "TemplateNotFound"
kind_name kind.TooManyArguments = codes "TooManyArguments"
kind_name kind.MissingArgument = codes "MissingArgument"
kind_name kind.UnknownFilter = codes "UnknownFilter"
kind_name kind.UnknownTest = codes "UnknownTest"
kind_name kind.UnknownFunction = codes "UnknownFunction"
kind_name kind.UnknownMethod = codes "UnknownMethod"
kind_name kind.UnknownBlock = codes "UnknownBlock"
kind_name kind.UndefinedError = codes "UndefinedError"
kind_name kind.CannotUnpack = codes "CannotUnpack"
kind_name kind.BadSerialization = codes "BadSerialization"
kind_name kind.EvalBlock = codes "EvalBlock"
kind_name kind.BadInclude = codes "BadInclude"
kind_name kind.WriteFailure = codes "WriteFailure"
kind_name kind.OutOfFuel = codes "OutOfFuel"
kind_name kind.OutOfMemory = codes "OutOfMemory"
kind_name kind.BadStream = codes "BadStream"
