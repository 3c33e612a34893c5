use Rattle.std.proofs.Common.{arith, ◌+◌, sym, ◌∙◌, drop}
use Rattle.tm_delimiters.proofs.Begins.{found_none, stops_at, past_it, next_none, next_some, no_tag}
use Rattle.tm_delimiters.proofs.starts.next_tag.Goals as goal

pub split_at-requires : goal.split_at-requires
split_at-requires c =
    let stop =
    stops_at c.args.syntax.now c.args.text.now c.as_bytes.result.now c.as_bytes-2.result.now c.as_bytes-3.result.now c.loop-at.from
    c.in-Some.at c.requires.usable (sym (c.as_bytes.ensures.value ∙ c.start.ensures)) (sym (c.as_bytes-2.ensures.value ∙ c.start-2.ensures))
    (sym (c.as_bytes-3.ensures.value ∙ c.start-3.ensures)) c.as_bytes.ensures.utf8 c.as_bytes-2.ensures.utf8 c.as_bytes-3.ensures.utf8
    c.loop-at.invariant.1 (rw c.as_bytes-bytes.ensures.value at c.in-Some.ensures) in
    stop.boundary

pub returns-in-Some-tag_start-clause-value : goal.returns-in-Some-tag_start-clause-value
returns-in-Some-tag_start-clause-value c =
    let stop =
    stops_at c.args.syntax.now c.args.text.now c.as_bytes.result.now c.as_bytes-2.result.now c.as_bytes-3.result.now c.loop-at.from
    c.in-Some.at c.requires.usable (sym (c.as_bytes.ensures.value ∙ c.start.ensures)) (sym (c.as_bytes-2.ensures.value ∙ c.start-2.ensures))
    (sym (c.as_bytes-3.ensures.value ∙ c.start-3.ensures)) c.as_bytes.ensures.utf8 c.as_bytes-2.ensures.utf8 c.as_bytes-3.ensures.utf8
    c.loop-at.invariant.1 (rw c.as_bytes-bytes.ensures.value at c.in-Some.ensures) in
    let here = rw c.split_at.ensures.back at c.in-Some-tag_start.ensures.value in
    rw c.split_at.ensures.front (sym (next_some c.args.syntax.now c.args.text.now (c.loop-at.from + c.in-Some.at)
    (c.in-Some-tag_start.side, c.in-Some-tag_start.rest.now)
    record { low = omega arith; high = stop.inside; before = stop.before } (sym here)))

pub loop-at-preserved : goal.loop-at-preserved
loop-at-preserved c =
    let stop =
    stops_at c.args.syntax.now c.args.text.now c.as_bytes.result.now c.as_bytes-2.result.now c.as_bytes-3.result.now c.loop-at.from
    c.in-Some.at c.requires.usable (sym (c.as_bytes.ensures.value ∙ c.start.ensures)) (sym (c.as_bytes-2.ensures.value ∙ c.start-2.ensures))
    (sym (c.as_bytes-3.ensures.value ∙ c.start-3.ensures)) c.as_bytes.ensures.utf8 c.as_bytes-2.ensures.utf8 c.as_bytes-3.ensures.utf8
    c.loop-at.invariant.1 (rw c.as_bytes-bytes.ensures.value at c.in-Some.ensures) in
    let none = rw c.split_at.ensures.back at c.in_default-tag_start.ensures.value in (
      omega (arith, stop.inside),
      past_it c.args.syntax.now c.args.text.now (c.loop-at.from + c.in-Some.at) stop.before
          (no_tag c.args.syntax.now (drop (c.loop-at.from + c.in-Some.at) c.args.text.now) none),
    )

pub returns-clause-value : goal.returns-clause-value
returns-clause-value c =
    sym (next_none c.args.syntax.now c.args.text.now c.requires.usable
    (found_none c.args.syntax.now c.args.text.now c.as_bytes.result.now c.as_bytes-2.result.now c.as_bytes-3.result.now c.loop-at.from
    c.requires.usable (sym (c.as_bytes.ensures.value ∙ c.start.ensures)) (sym (c.as_bytes-2.ensures.value ∙ c.start-2.ensures))
    (sym (c.as_bytes-3.ensures.value ∙ c.start-3.ensures)) c.loop-at.invariant.1
    (rw c.as_bytes-bytes.ensures.value at c.in_default.ensures)))
