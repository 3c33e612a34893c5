use Rattle.std.proofs.Common.{refl}
use Rattle.std.specs.Fmt.{digits}
use Rattle.tm_rows.proofs.rows.function_rows.Goals as goal

pub returns-clause-range : goal.returns-clause-range
unfolding digits
returns-clause-range c = (refl, refl)

pub returns-clause-dict : goal.returns-clause-dict
unfolding digits
returns-clause-dict c = (refl, refl)
