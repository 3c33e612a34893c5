use Rattle.std.proofs.Common.{Some, None}
use Rattle.tm_scanner.proofs.Refusals.{refused_result}
use Rattle.tm_scanner.proofs.Sources.{no_block_after}
use Rattle.tm_scanner.proofs.pieces.block.Goals as goal

pub returns-in-Some-clause-refused : goal.returns-in-Some-clause-refused
returns-in-Some-clause-refused c =
    refused_result c.raw_text.result
    (no_block_after c.args.syntax.now c.args.text.now (Some c.in-Some.rest.now)
    (rw c.end-by.ensures at c.in-Some.ensures.value)) c.raw_text.ensures.refused

pub returns-in-None-clause-refused : goal.returns-in-None-clause-refused
returns-in-None-clause-refused c =
    refused_result c.block_tag.result (no_block_after c.args.syntax.now c.args.text.now None
    (rw c.end-by.ensures at c.in-None.ensures.value))
    (rw c.end-by.ensures at c.block_tag.ensures.refused)
