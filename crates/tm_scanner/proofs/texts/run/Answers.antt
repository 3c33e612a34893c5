use Rattle.std.proofs.Common.{sym}
use Rattle.memchr.specs.Find.{is_byte2}
use Rattle.tm_scanner.specs.Texts.{byte_of}
use Rattle.tm_delimiters.proofs.Places.{cut_at, cut_nowhere}
use Rattle.tm_scanner.proofs.texts.run.Goals as goal

pub returns-in-Some-clause-value : goal.returns-in-Some-clause-value
returns-in-Some-clause-value c =
    let h = rw (c.as_bytes.ensures.value, c.byte.ensures.value) at c.in-Some.ensures in
    rw (c.split_at.ensures.front, c.split_at.ensures.back)
    (sym (cut_at (is_byte2 (byte_of c.args.quote) 92) c.args.text.now c.in-Some.place h))

pub returns-in-None-clause-value : goal.returns-in-None-clause-value
returns-in-None-clause-value c =
    let h = rw (c.as_bytes.ensures.value, c.byte.ensures.value) at c.in-None.ensures in
    sym (cut_nowhere (is_byte2 (byte_of c.args.quote) 92) c.args.text.now h)
