use Rattle.tm_scanner.proofs.Contents.{no_literal}
use Rattle.tm_scanner.proofs.Refusals.{refused_by, passed}
use Rattle.tm_scanner.proofs.Rests.{plain_rest, rest_joined, text_rest}
use Rattle.tm_scanner.proofs.tokens.token.Goals as goal

pub returns-in_err-value-in-Some-clause-refused : goal.returns-in_err-value-in-Some-clause-refused
returns-in_err-value-in-Some-clause-refused c =
    let e = c.in_err-value-in-Some.field-0.0 in
    passed c.from_residual.result _ e c.from_residual.ensures.1
    (refused_by e (no_literal (c.args.front.now, c.args.back.now) c.args.text.now c.in-Some.after.now c.in-Some.quote c.requires
    c.in-Some.ensures.value)
    c.in_err-value-in-Some.ensures.refused)

pub returns-in_ok-value-in-Some-clause-rest : goal.returns-in_ok-value-in-Some-clause-rest
returns-in_ok-value-in-Some-clause-rest c =
    text_rest c.args.text.now c.in-Some.after.now _ c.in-Some.quote _ c.in-Some.ensures.value c.in_ok-value-in-Some.ensures.found

pub last_parts-requires : goal.last_parts-requires
last_parts-requires c =
    rest_joined c.args.text.now c.args.front.now c.args.back.now c.in_ok-token-in-None.left.now c.requires
    (plain_rest c.args.front.now c.in_ok-token-in-None.left.now c.in_ok-token-in-None.token c.utf8.front c.in_ok-token-in-None.ensures.found)

pub returns-in_ok-token-in-None-clause-rest : goal.returns-in_ok-token-in-None-clause-rest
returns-in_ok-token-in-None-clause-rest c =
    rw c.last_parts.ensures
    (rest_joined c.args.text.now c.args.front.now c.args.back.now c.in_ok-token-in-None.left.now c.requires
    (plain_rest c.args.front.now c.in_ok-token-in-None.left.now c.in_ok-token-in-None.token c.utf8.front c.in_ok-token-in-None.ensures.found))
