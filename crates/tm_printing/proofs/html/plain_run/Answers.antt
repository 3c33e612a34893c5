use Rattle.std.proofs.Common.{arith}
use Rattle.tm_printing.proofs.Plain.{all_plain, first_within, plain_before}
use Rattle.tm_printing.proofs.html.plain_run.Goals as goal

pub returns-then-marks-eq0-clause-plain : goal.returns-then-marks-eq0-clause-plain
returns-then-marks-eq0-clause-plain c =
    all_plain c.args.bytes.now c.args.at 16 _ c.requires c.special_lanes-marks.ensures c.if-marks-eq0.true

pub returns-else-marks-eq0-clause-short : goal.returns-else-marks-eq0-clause-short
returns-else-marks-eq0-clause-short c =
    first_within c.args.bytes.now c.args.at 16 _ c.requires c.special_lanes-marks.ensures (omega arith) c.if-marks-eq0.false

pub returns-else-marks-eq0-clause-plain : goal.returns-else-marks-eq0-clause-plain
returns-else-marks-eq0-clause-plain c =
    plain_before c.args.bytes.now c.args.at 16 _ c.requires c.special_lanes-marks.ensures (omega arith) c.if-marks-eq0.false
