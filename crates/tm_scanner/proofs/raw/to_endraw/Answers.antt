use Rattle.std.proofs.Common.{sym}
use Rattle.tm_scanner.proofs.Raws.{found_at, past_this, found_none}
use Rattle.tm_scanner.proofs.raw.to_endraw.Goals as goal

pub returns-in-Some-endraw-clause-value : goal.returns-in-Some-endraw-clause-value
returns-in-Some-endraw-clause-value c =
    let end = c.in-Some-endraw.end in
    let loop = rw c.as_bytes-bytes.ensures.value at c.loop-at.invariant in
    let first = rw c.as_bytes-bytes.ensures.value at c.in-Some.ensures.first in
    let here = rw c.split_at.ensures.back at c.in-Some-endraw.ensures.value in
    rw c.split_at.ensures.front (sym
    (found_at c.args.syntax.now c.args.text.now c.loop-at.from c.in-Some.at (end.0, (end.1.0, end.1.1.now)) loop.0 loop.1 first.0
    (sym here)))

pub loop-at-preserved : goal.loop-at-preserved
loop-at-preserved c =
    let here = rw (c.split_at.ensures.back, ← c.as_bytes-bytes.ensures.value) at c.in_default-endraw.ensures.value in
    past_this c.args.syntax.now c.as_bytes-bytes.result.now c.loop-at.from c.in-Some.at c.loop-at.invariant.0 c.loop-at.invariant.1
    c.in-Some.ensures.first.0 (sym here)

pub returns-clause-value : goal.returns-clause-value
returns-clause-value c =
    let loop = rw c.as_bytes-bytes.ensures.value at c.loop-at.invariant in
    let none = rw c.as_bytes-bytes.ensures.value at c.in_default.ensures.first in
    sym (found_none c.args.syntax.now c.args.text.now c.loop-at.from c.requires.usable loop.0 loop.1 none)
