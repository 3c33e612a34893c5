use Rattle.std.proofs.Common.{rules}
use Rattle.tm_printing.proofs.Decimals.{signed_kept}
use Rattle.tm_printing.proofs.text.write_number.Goals as goal

pub returns : goal.returns
returns g c = rw (signed_kept g.E.Spelling.spelled g.met.E.Escape.decimals_kept c.args.number c.ranges.number) (search rules)
