-- The truth of what isn't undefined depends on nothing else.
use Rattle.std.proofs.Common.{◌≡◌, false, true≢false, Ok, refl}
use Rattle.tm_definitions.specs.Truth.{truth_of}
use Rattle.tm_values.specs.Truth.{is_true, is_undefined}
use Rattle.tm_values.specs.Val.{Val, undefined}
use Rattle.tm_values.specs.declared.undefined.UndefinedBehavior.{UndefinedBehavior}

pub truth_defined : (v : Val) → is_undefined v ≡ false → (u : UndefinedBehavior) → truth_of u v ≡ Ok (is_true v)
truth_defined (undefined silent) h u = absurd (true≢false h)
truth_defined _ h u = refl
