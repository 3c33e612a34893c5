-- The names of the attributes of loops and macros.
use Rattle.std.specs.Prelude.{ℕ, List, [], ◌∷◌, codes}

abbrev pub loop_names : List (List ℕ)
loop_names =
    codes "index0" ∷ codes "index" ∷ codes "length" ∷ codes "revindex" ∷ codes "revindex0"
    ∷ codes "first" ∷ codes "last" ∷ codes "depth" ∷ codes "depth0" ∷ codes "previtem"
    ∷ codes "nextitem" ∷ []

abbrev pub macro_names : List (List ℕ)
macro_names = codes "name" ∷ codes "arguments" ∷ codes "caller" ∷ []
