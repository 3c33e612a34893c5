-- The names of the language's functions ascend.
use Rattle.std.proofs.Common.{◌≡◌, refl, subst, sym}
use Rattle.std.specs.List.Sorted.{IsStrictlySortedBy}
use Rattle.tm_meaning.specs.World.{Bindings}
use Rattle.tm_objects.specs.Language.{language_globals}
use Rattle.tm_scopes.specs.Places.{AreOrdered}

expected : AreOrdered language_globals
unfolding IsStrictlySortedBy
expected = ((refl, (refl, tt)), ((refl, tt), (tt, tt)))

pub expected_names : (globals : Bindings) → globals ≡ language_globals → AreOrdered globals
expected_names globals are = subst AreOrdered (sym are) expected
