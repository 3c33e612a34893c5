use Rattle.std.proofs.Common.{rules, sym}
use Rattle.std.specs.Rc.{rc_str_bytes}
use Rattle.tm_scanner.proofs.Refusals.{refused_by, passed}
use Rattle.tm_scanner.proofs.Sources.{TagAhead, goes_on, no_tokens}
use Rattle.tm_scanner.proofs.source.scan.Goals as goal

pub loop-text-preserved : goal.loop-text-preserved
loop-text-preserved c =
    let next : TagAhead = (c.in-Some.text.now, (c.in-Some.start, c.in-Some.after.now)) in
    let found = c.in_ok-whitespace.ensures.found in (
      search rules,
      goes_on c.args.syntax.now _ _ _ _ c.loop-text.before c.loop-text.rest.now next found.0
          (c.in_ok-whitespace.whitespace, c.in_ok-whitespace.left.now)
          c.loop-text.invariant.1 (sym c.in-Some.ensures.value)
          (rw c.part.ensures at rw c.trimmed-part.ensures at c.in_ok-raw.ensures.added) found.1 found.2,
    )

pub returns-in_err-whitespace-clause-refused : goal.returns-in_err-whitespace-clause-refused
returns-in_err-whitespace-clause-refused c =
    let e = c.in_err-whitespace.field-0.0 in
    let next : TagAhead = (c.in-Some.text.now, (c.in-Some.start, c.in-Some.after.now)) in
    passed c.from_residual-in_err-whitespace.result _ e c.from_residual-in_err-whitespace.ensures.1
    (refused_by e (no_tokens c.args.syntax.now
    (rc_str_bytes c.args.source.now) _ c.loop-text.before c.loop-text.rest.now next c.loop-text.invariant.1
    (sym c.in-Some.ensures.value)) c.in_err-whitespace.ensures.refused)
