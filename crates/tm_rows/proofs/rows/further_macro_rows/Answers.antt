use Rattle.std.proofs.Common.{refl}
use Rattle.std.specs.Fmt.{digits}
use Rattle.tm_rows.proofs.rows.further_macro_rows.Goals as goal

pub returns-clause-language : goal.returns-clause-language
unfolding digits
returns-clause-language c = (refl, refl, refl, refl)
