-- The answers of the tests' objects.
use Rattle.std.specs.Prelude.{ℕ, List, [], ◌∷◌, ◌++◌, Option, Some, None, true, false, map, Ok, Err, codes}
use Rattle.std.specs.Char.{to_ascii_uppercase}
use Rattle.tm_values.specs.Answer.{Answer}
use Rattle.tm_values.specs.Val.{Val, none, text, text_in, undefined}
use Rattle.tm_values.specs.declared.undefined.UndefinedBehavior.TheVariants.{Lenient}
use Rattle.tm_definitions.specs.Members.{or_undefined}
use Rattle.tm_definitions.specs.Slices.{sliced}
use Rattle.tm_meaning.specs.declared.reply.Reply.{Reply}
use Rattle.tm_meaning.specs.declared.reply.Reply.TheVariants.{Value as gives, Fault as faults, Further as asks_for}
use Rattle.tm_meaning.specs.declared.reply.Call.TheVariants as further
use Rattle.tm_meaning.specs.World.{View, find_name}

-- the value that a lookup found, or its fault
abbrev pub reply_of_found : Answer (Option Val) → Reply
reply_of_found (Ok found) = gives (or_undefined found)
reply_of_found (Err chain) = faults chain

-- the value of an operation, or its fault
abbrev pub reply_of : Answer Val → Reply
reply_of (Ok v) = gives v
reply_of (Err chain) = faults chain

-- a value made of a text; undefined if there is none
abbrev pub of_text : (List ℕ → Val) → Option (List ℕ) → Val
of_text f None = undefined false
of_text f (Some t) = f t

-- in ASCII upper case, not marked safe
abbrev pub in_capitals : List ℕ → Val
in_capitals t = text (map to_ascii_uppercase t) false

abbrev pub as_safe : List ℕ → Val
as_safe t = text t true

-- made of the first argument's text
abbrev pub of_first : (List ℕ → Val) → List Val → Val
of_first f [] = undefined false
of_first f (v ∷ vs) = of_text f (text_in v)

-- the slice of the first argument from the second on, up to the third, if given
abbrev pub part_of : List Val → Reply
part_of (v ∷ from ∷ []) = reply_of (sliced Lenient v from none none)
part_of (v ∷ from ∷ to ∷ []) = reply_of (sliced Lenient v from to none)
part_of _ = gives (undefined false)

-- the text of the first argument
abbrev pub first_text : List Val → Option (List ℕ)
first_text [] = None
first_text (v ∷ vs) = text_in v

-- the value that the name in a text is bound to; undefined if there is no text
abbrev pub found_at : View → Option (List ℕ) → Reply
found_at view None = gives (undefined false)
found_at view (Some t) = reply_of_found (find_name view t)

-- a further call of the filter x with one value
abbrev pub further_with : List ℕ → Val → Reply
further_with x v = asks_for (further.Filter x (v ∷ []))

-- of `upper` with a text doubled; undefined if there is none
abbrev pub capitals_twice : Option (List ℕ) → Reply
capitals_twice None = gives (undefined false)
capitals_twice (Some t) = further_with (codes "upper") (text (t ++ t) false)

-- of `again` with the first argument
abbrev pub again_with : List Val → Reply
again_with [] = gives (undefined false)
again_with (v ∷ vs) = further_with (codes "again") v

-- only the second argument, if given
abbrev pub second_alone : List Val → List Val
second_alone (v ∷ given ∷ more) = given ∷ []
second_alone _ = []

-- a further call, with these arguments, of the name in a text; undefined if there is none
abbrev pub macro_named : Option (List ℕ) → List Val → Reply
macro_named None args = gives (undefined false)
macro_named (Some t) args = asks_for (further.Macro t args)

-- and of the block
abbrev pub block_named : Option (List ℕ) → Reply
block_named None = gives (undefined false)
block_named (Some t) = asks_for (further.Block t)
