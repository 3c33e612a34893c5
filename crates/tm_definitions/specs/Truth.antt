-- The truth of conditions.
use Rattle.std.specs.Prelude.{Bool, Ok}
use Rattle.tm_values.specs.Defined.{refusal_of, unless}
use Rattle.tm_values.specs.Answer.{Answer}
use Rattle.tm_values.specs.Truth.{is_true}
use Rattle.tm_values.specs.Val.{Val}
use Rattle.tm_values.specs.declared.undefined.UndefinedBehavior.{UndefinedBehavior}
use Rattle.tm_values.specs.declared.undefined.UndefinedUse.TheVariants.{Truth}

-- the truth of a condition's value
abbrev pub truth_of : UndefinedBehavior → Val → Answer Bool
truth_of b v = unless (refusal_of b Truth v) (Ok (is_true v))
