-- The functions of the language.
use Rattle.std.specs.Prelude.{ℕ, suc, List, [], ◌∷◌, codes}
use Rattle.tm_meaning.specs.declared.function.GlobalFunction.{GlobalFunction}
use Rattle.tm_meaning.specs.declared.function.GlobalFunction.TheVariants as own
use Rattle.tm_meaning.specs.World.{Bindings}
use Rattle.tm_syntax.specs.Named.{put}
use Rattle.tm_values.specs.Val.{function}

-- Each function with its name, at the index of its number.
abbrev pub language : List (List ℕ × GlobalFunction)
language =
    (codes "range", own.Range)
    ∷ (codes "dict", own.Dict)
    ∷ (codes "namespace", own.Namespace)
    ∷ []

-- binds each function's name to its number, counted from n
abbrev pub named_from : ℕ → List (List ℕ × GlobalFunction) → Bindings → Bindings
named_from n [] names = names
named_from n (f ∷ fs) names = named_from (suc n) fs (put f.0 (function n) names)

-- the language's functions by name
abbrev pub language_globals : Bindings
language_globals = named_from 0 language []
