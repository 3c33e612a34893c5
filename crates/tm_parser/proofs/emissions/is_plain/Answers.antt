use Rattle.std.proofs.Common.{sym}
use Rattle.tm_parser.proofs.Calls.{plain-is, spread-is}
use Rattle.tm_parser.proofs.emissions.is_plain.Goals as goal

pub returns-in-Plain : goal.returns-in-Plain
returns-in-Plain c = rw c.in-Plain.is (sym (plain-is c.in-Plain.field-0))

pub returns-in-Spread : goal.returns-in-Spread
returns-in-Spread c = rw c.in-Spread.is (sym (spread-is c.in-Spread.field-0))
