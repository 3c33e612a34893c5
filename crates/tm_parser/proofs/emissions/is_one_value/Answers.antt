use Rattle.tm_parser.proofs.Calls.{not_one, one}
use Rattle.tm_parser.proofs.emissions.is_one_value.Goals as goal

pub returns-then-given-ne1 : goal.returns-then-given-ne1
returns-then-given-ne1 c = not_one c.args.given.now c.if-given-ne1.true

pub returns : goal.returns
returns c = one c.args.given.now c.index-given-0.result c.is_plain.result c.if-given-ne1.false c.index-given-0.is c.is_plain.ensures
