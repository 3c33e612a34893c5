use Rattle.std.proofs.Common.{rules, arith, inr, sym}
use Rattle.tm_delimiters.proofs.Ends.{known_on}
use Rattle.tm_scanner.proofs.Contents.{begins, goes_on, no_content, no_token, token_of, too_deep}
use Rattle.tm_scanner.proofs.Refusals.{refused_by, passed}
use Rattle.tm_scanner.proofs.Rests.{rest_through}
use Rattle.tm_scanner.proofs.tokens.content.Goals as goal

pub next-init : goal.next-init
next-init c = (
  search rules,
  search rules,
  begins c.args.by.now c.args.text.now _ _ c.past_blanks_at-rest.ensures.value,
  search rules,
  known_on c.args.by.now c.args.text.now _ c.args.known.now c.past_blanks_at-rest.ensures.rest c.requires,
)

pub next-preserved : goal.next-preserved
next-preserved c =
    let token = token_of _ _ c.in_ok-token.token c.in_ok-token.after.now c.split_at_end.ensures.value c.in_ok-token.ensures.found in
    let onward = c.past_blanks_at-rest-in-next.ensures in (
      search rules,
      search rules,
      goes_on c.args.by.now c.args.text.now _ _ _ c.next.rest.now c.in_ok-token.after.now _ c.next.depth _ c.in_ok-token.token
          c.next.invariant.2 (sym c.in_default.ensures.value) token
          (sym c.in-Some-depth_after.ensures) onward.value c.in_ok-push.ensures.items,
      omega (arith, c.next.invariant.3, c.in_ok-token.ensures.shorter, onward.no_longer),
      known_on c.args.by.now c.next.rest.now _ _
          (rest_through c.next.rest.now c.in_ok-token.after.now _ onward.rest c.in_ok-token.ensures.rest) c.split_at_end.ensures.known,
    )

pub returns-in_err-token-clause-refused : goal.returns-in_err-token-clause-refused
returns-in_err-token-clause-refused c =
    let e = c.in_err-token.field-0.0 in
    passed c.from_residual.result _ e c.from_residual.ensures.1
    (refused_by e (λ none. no_content c.args.by.now c.args.text.now _ _ c.next.rest.now c.next.depth c.next.invariant.2
    (sym c.in_default.ensures.value) (no_token _ c.args.by.now c.next.rest.now c.next.depth
    c.split_at_end.ensures.value none)) c.in_err-token.ensures.refused)

pub returns-in_default-depth_after-clause-refused : goal.returns-in_default-depth_after-clause-refused
returns-in_default-depth_after-clause-refused c =
    let token = token_of _ _ c.in_ok-token.token c.in_ok-token.after.now c.split_at_end.ensures.value c.in_ok-token.ensures.found in
    inr (
      c.from.ensures,
      no_content c.args.by.now c.args.text.now _ _ c.next.rest.now c.next.depth c.next.invariant.2 (sym c.in_default.ensures.value)
          (too_deep c.args.by.now c.next.rest.now c.in_ok-token.after.now c.next.depth c.in_ok-token.token token
          (sym c.in_default-depth_after.ensures)),
    )
