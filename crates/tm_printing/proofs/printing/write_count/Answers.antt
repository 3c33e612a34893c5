use Rattle.std.proofs.Common.{arith, rules}
use Rattle.tm_printing.proofs.Decimals.{decimal_kept}
use Rattle.tm_printing.proofs.printing.write_count.Goals as goal

pub returns : goal.returns
returns g c = rw (decimal_kept g.E.Spelling.spelled g.met.E.Escape.decimals_kept c.args.count (omega (arith, c.ranges.count))) (search rules)
