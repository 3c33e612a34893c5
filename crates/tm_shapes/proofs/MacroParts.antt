-- Names of parameters, by how many there are.
use Rattle.std.proofs.Common.{◌≡◌, ℕ, List, length, Option, None, Some}
use Rattle.std.proofs.Common.{refl}
use Rattle.std.specs.Prelude.{is_some, option_map}
use Rattle.tm_shapes.specs.Placed.{names_by}
use Rattle.tm_shapes.specs.declared.before.Before.TheVariants.{Names, Nothing}

pub some_names : (o : Option (List (List ℕ))) (n : ℕ) → Some n ≡ option_map length o → names_by (is_some o) ≡ Names
some_names None n e = absurd (cc e)
some_names (Some xs) n e = refl

pub no_names : (o : Option (List (List ℕ))) → None ≡ option_map length o → names_by (is_some o) ≡ Nothing
no_names None e = refl
no_names (Some xs) e = absurd (cc e)
