use Rattle.std.proofs.Common.{arith, ◌∙◌, ap, take}
use Rattle.tm_delimiters.proofs.Indents.{whole_gone, whole_stays, last_gone, last_stays}
use Rattle.tm_delimiters.proofs.trimming.without_indent.Goals as goal

pub returns-then-starts_line : goal.returns-then-starts_line
returns-then-starts_line c =
    whole_gone c.args.starts_line c.args.text.now c.indent_start-start.result c.if-start-eq0.true
    (rw c.as_bytes-bytes.ensures.value at c.indent_start-start.ensures.indent) c.if-starts_line.true

pub returns-else-starts_line : goal.returns-else-starts_line
returns-else-starts_line c =
    whole_stays c.args.starts_line c.args.text.now c.indent_start-start.result c.if-start-eq0.true
    (rw c.as_bytes-bytes.ensures.value at c.indent_start-start.ensures.indent) c.if-starts_line.false

pub returns-then-bytes-start-eq10 : goal.returns-then-bytes-start-eq10
returns-then-bytes-start-eq10 c =
    let h = rw c.as_bytes-bytes.ensures.value at c.indent_start-start.ensures in
    c.range.ensures.value ∙ ap (λ n. take n c.args.text.now) (omega arith)
    ∙ last_gone c.args.starts_line c.args.text.now c.indent_start-start.result c.if-start-eq0.false h.fits h.indent h.longest
    (rw c.as_bytes-bytes.ensures.value at c.if-bytes-start-eq10.true)

pub returns-else-bytes-start-eq10 : goal.returns-else-bytes-start-eq10
returns-else-bytes-start-eq10 c =
    let h = rw c.as_bytes-bytes.ensures.value at c.indent_start-start.ensures in
    last_stays c.args.starts_line c.args.text.now c.indent_start-start.result c.if-start-eq0.false h.fits h.indent h.longest
    (rw c.as_bytes-bytes.ensures.value at c.if-bytes-start-eq10.false)
