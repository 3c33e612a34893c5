-- Objects by name, and what they answer.
use Rattle.std.proofs.Common.{◌≡◌, ℕ, List, [], ◌∷◌, Option, Some, Bool, true, false, refl, ap, ◌∙◌}
use Rattle.std.specs.BTreeMap.{is_at}
use Rattle.std.specs.Prelude.{cond, option_map}
use Rattle.tm_meaning.specs.World.{Object}
use Rattle.tm_syntax.specs.Named.{Named, find, name_cmp}
use Rattle.tm_objects.specs.Stated.{named_objects}

chosen : {C : Type 0} (answers : C → Object) (b : Bool) (c : C) (found : Option Object) (rest : Option C) → found ≡ option_map answers rest →
    cond b (Some (answers c)) found ≡ option_map answers (cond b (Some c) rest)
chosen answers true c found rest h = refl
chosen answers false c found rest h = h

found_as : {C : Type 0} (answers : C → Object) (x : List ℕ) (cs : Named C) →
    find x (named_objects answers cs) ≡ option_map answers (find x cs)
found_as answers x [] = refl
found_as answers x (c ∷ cs) =
    chosen answers (is_at (name_cmp x) c.0) c.1 (find x (named_objects answers cs)) (find x cs) (found_as answers x cs)

-- what is there at a name states what its object does
pub stated : {C : Type 0} (answers : C → Object) (x : List ℕ) (cs : Named C) (found : Option C) → find x cs ≡ found →
    find x (named_objects answers cs) ≡ option_map answers found
stated answers x cs found e = found_as answers x cs ∙ ap (option_map answers) e
