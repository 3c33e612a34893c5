use Rattle.std.proofs.Common.{refl}
use Rattle.std.specs.Fmt.{digits}
use Rattle.tm_rows.proofs.macros.macro_call_rows.Goals as goal

pub returns-clause-further_escaped : goal.returns-clause-further_escaped
unfolding digits
returns-clause-further_escaped c = refl
