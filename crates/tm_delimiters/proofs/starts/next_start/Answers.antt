use Rattle.std.proofs.Common.{arith, ◌+◌, sym, ◌∙◌}
use Rattle.tm_delimiters.proofs.Begins.{found_at, found_none, begins_there, past_it, boundary_at}
use Rattle.tm_delimiters.proofs.starts.next_start.Goals as goal

pub returns-clause-first : goal.returns-clause-first
returns-clause-first c =
    found_none c.args.syntax.now c.args.bytes.now c.as_bytes.result.now c.as_bytes-2.result.now c.as_bytes-3.result.now c.loop-at.from
    c.requires.usable
    (sym (c.as_bytes.ensures.value ∙ c.start.ensures)) (sym (c.as_bytes-2.ensures.value ∙ c.start-2.ensures))
    (sym (c.as_bytes-3.ensures.value ∙ c.start-3.ensures))
    c.loop-at.invariant.1 c.in_default.ensures

pub returns-then-begins-clause-first : goal.returns-then-begins-clause-first
returns-then-begins-clause-first c =
    let here =
    found_at c.args.syntax.now c.args.bytes.now c.as_bytes.result.now c.as_bytes-2.result.now c.as_bytes-3.result.now c.loop-at.from
    c.in-Some.at c.requires.usable
    (sym (c.as_bytes.ensures.value ∙ c.start.ensures)) (sym (c.as_bytes-2.ensures.value ∙ c.start-2.ensures))
    (sym (c.as_bytes-3.ensures.value ∙ c.start-3.ensures))
    c.loop-at.invariant.1 c.in-Some.ensures.0 in (
      record { low = omega arith; high = here.0; before = here.1 },
      sym (begins_there c.args.syntax.now c.args.bytes.now (c.loop-at.from + c.in-Some.at)) ∙ sym c.if-begins.ensures,
    )

pub loop-at-preserved : goal.loop-at-preserved
loop-at-preserved c =
    let here =
    found_at c.args.syntax.now c.args.bytes.now c.as_bytes.result.now c.as_bytes-2.result.now c.as_bytes-3.result.now c.loop-at.from
    c.in-Some.at c.requires.usable
    (sym (c.as_bytes.ensures.value ∙ c.start.ensures)) (sym (c.as_bytes-2.ensures.value ∙ c.start-2.ensures))
    (sym (c.as_bytes-3.ensures.value ∙ c.start-3.ensures))
    c.loop-at.invariant.1 c.in-Some.ensures.0 in (
      omega (arith, here.0),
      past_it c.args.syntax.now c.args.bytes.now (c.loop-at.from + c.in-Some.at) here.1
          (sym (begins_there c.args.syntax.now c.args.bytes.now (c.loop-at.from + c.in-Some.at)) ∙ sym c.if-begins.ensures),
    )

pub returns-then-begins-clause-boundary : goal.returns-then-begins-clause-boundary
returns-then-begins-clause-boundary c =
    let block = c.as_bytes.ensures.value ∙ c.start.ensures in
    let variable = c.as_bytes-2.ensures.value ∙ c.start-2.ensures in
    let comment = c.as_bytes-3.ensures.value ∙ c.start-3.ensures in
    let here =
    found_at c.args.syntax.now c.args.bytes.now c.as_bytes.result.now c.as_bytes-2.result.now c.as_bytes-3.result.now c.loop-at.from
    c.in-Some.at c.requires.usable
    (sym block) (sym variable) (sym comment) c.loop-at.invariant.1 c.in-Some.ensures.0 in
    boundary_at c.args.syntax.now c.args.bytes.now (c.loop-at.from + c.in-Some.at) c.requires.usable (rw block at c.as_bytes.ensures.utf8)
    (rw variable at c.as_bytes-2.ensures.utf8) (rw comment at c.as_bytes-3.ensures.utf8) (omega (arith, here.0))
    (sym (begins_there c.args.syntax.now c.args.bytes.now (c.loop-at.from + c.in-Some.at)) ∙ sym c.if-begins.ensures)
