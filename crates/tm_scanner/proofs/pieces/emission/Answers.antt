use Rattle.tm_scanner.proofs.Refusals.{refused_by, passed}
use Rattle.tm_scanner.proofs.pieces.emission.Goals as goal

pub returns-in_err-end-clause-refused : goal.returns-in_err-end-clause-refused
returns-in_err-end-clause-refused c =
    let e = c.in_err-end.field-0.0 in
    passed c.from_residual-in_err-end.result _ e c.from_residual-in_err-end.ensures.1
    (refused_by e (λ none ts rest h. none h.0 rest h.1) c.in_err-end.ensures.refused)
