-- What the tests' method objects, formatters, escape rules and joins state.
use Rattle.std.specs.Prelude.{ℕ, List, [], ◌∷◌, ◌++◌, Ok, Err, None, false, codes, pos, if◌then◌else◌}
use Rattle.tm_values.specs.Equality.{same_value}
use Rattle.tm_values.specs.Val.{Val, undefined, none, number, text}
use Rattle.tm_values.specs.Answer.{Answer}
use Rattle.tm_values.specs.declared.error.ErrorKind.{ErrorKind}
use Rattle.tm_values.specs.declared.error.ErrorKind.TheVariants.{MissingArgument}
use Rattle.tm_values.specs.declared.escape.AutoEscape.{AutoEscape}
use Rattle.tm_values.specs.declared.escape.AutoEscape.TheVariants as escapes
use Rattle.tm_syntax.specs.Named.{same_name}
use Rattle.tm_meaning.specs.World.{Fallback, Format, formatted}
use Rattle.tm_meaning.specs.declared.reply.Reply.TheVariants.{Value as gives, Fault as faults}
use Rattle.tm_tables.specs.Stated.{Join, just, keeping}

-- the method's name
abbrev pub named : Fallback
named v x args view = just (gives (text x false))

-- keeps 1 under k and returns 2
abbrev pub keeps : Fallback
keeps v x args view = keeping (codes "k") (number (pos 1)) (just (gives (number (pos 2))))

-- a fault of this kind
abbrev pub faulty : ErrorKind → Fallback
faulty kind v x args view = just (faults (kind ∷ []))

-- F for each value
abbrev pub marked : Format
marked v view = Ok (codes "F")

-- a fault for 0
abbrev pub no_zero : Format
no_zero v view = if same_value v (number (pos 0)) then Err (MissingArgument ∷ []) else formatted None v view

-- none like an undefined value
abbrev pub swapped : Format
swapped v view = if same_value v none then formatted None (undefined false) view else formatted None v view

-- this escape, but only for the template t
abbrev pub escape_of_t : AutoEscape → List ℕ → AutoEscape
escape_of_t escape name = if same_name name (codes "t") then escape else escapes.None

-- the path of a name in a folder
abbrev pub in_folder : List ℕ → List ℕ → Answer (List ℕ)
in_folder folder name = Ok (folder ++ codes "/" ++ name)

-- in the folder lib
abbrev pub in_lib : Join
in_lib name parent = in_folder (codes "lib") name

-- in a folder named like the running template
abbrev pub in_parent : Join
in_parent name parent = in_folder parent name

-- a fault of this kind
abbrev pub nowhere : ErrorKind → Join
nowhere kind name parent = Err (kind ∷ [])
