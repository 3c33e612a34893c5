use Rattle.std.proofs.Common.{rules, []}
use Rattle.tm_values.proofs.parts.Parts.of_values.Goals as goal

pub returns : goal.returns
returns c = c.extended.ensures [] (search rules)
