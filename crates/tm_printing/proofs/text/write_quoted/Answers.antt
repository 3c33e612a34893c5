use Rattle.std.proofs.Common.{◌≡◌, List, ℕ, [], ◌∷◌, flat_map, subst}
use Rattle.tm_output.proofs.Written.{within, closed}
use Rattle.tm_definitions.specs.Texts.{within_quotes}
use Rattle.tm_printing.proofs.Spelled.{spelled_laws, in_two_steps}
use Rattle.tm_printing.proofs.text.write_quoted.Goals as goal

pub returns-in_err-write_spelled-2 : goal.returns-in_err-write_spelled-2
returns-in_err-write_spelled-2 g c =
    let spelled = g.E.Spelling.spelled in
    let s = c.args.text.now in
    let same : flat_map g.E.Within.Spelling.spelled s
    ≡ flat_map spelled (flat_map within_quotes s) = in_two_steps spelled within_quotes _ g.met.E.Escape.quoted_first s in
    within _ (34 ∷ []) (flat_map within_quotes s) (34 ∷ [])
    (spelled_laws spelled g.met.T.Target.laws) c.from_residual-in_err-write_spelled-2.ensures.0 c.in_ok-write_spelled.ensures
    (subst (λ (l : List ℕ). g.T.Target.stopped c.write_spelled.new.target l c.write_spelled-2.new.target) same
    c.in_err-write_spelled-2.ensures)

pub returns : goal.returns
returns g c =
    let spelled = g.E.Spelling.spelled in
    let s = c.args.text.now in
    let same : flat_map g.E.Within.Spelling.spelled s
    ≡ flat_map spelled (flat_map within_quotes s) = in_two_steps spelled within_quotes _ g.met.E.Escape.quoted_first s in
    closed _ _ (34 ∷ []) (flat_map within_quotes s) (34 ∷ []) (spelled_laws spelled g.met.T.Target.laws) c.in_ok-write_spelled.ensures
    (subst (λ (l : List ℕ). g.T.Target.took c.write_spelled.new.target l c.write_spelled-2.new.target) same c.in_ok-write_spelled-2.ensures)
    c.write_spelled-3.ensures
