use Rattle.std.proofs.Common.{refl}
use Rattle.std.specs.Fmt.{digits}
use Rattle.tm_rows.proofs.rows.spread_keyword_rows.Goals as goal

pub returns-clause-between : goal.returns-clause-between
unfolding digits
returns-clause-between c = (refl, refl)

pub returns-clause-maps : goal.returns-clause-maps
unfolding digits
returns-clause-maps c = (refl, refl)
