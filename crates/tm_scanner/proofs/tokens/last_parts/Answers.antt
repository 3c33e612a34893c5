use Rattle.tm_scanner.proofs.Rests.{parts_boundary}
use Rattle.tm_scanner.proofs.tokens.last_parts.Goals as goal

pub range_from-requires : goal.range_from-requires
range_from-requires c = λ _. parts_boundary c.args.text.now c.args.left.now c.args.back.now c.requires c.utf8.left c.utf8.back
