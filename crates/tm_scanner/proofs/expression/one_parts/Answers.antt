use Rattle.tm_scanner.proofs.Parts.{one_parts_of}
use Rattle.tm_scanner.proofs.expression.one_parts.Goals as goal

pub returns : goal.returns
returns c = one_parts_of
