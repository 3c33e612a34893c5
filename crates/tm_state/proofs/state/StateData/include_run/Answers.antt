use Rattle.std.proofs.Common.{◌∙◌, ◌||◌, subst}
use Rattle.tm_meaning.specs.Calls.{enter_include}
use Rattle.tm_state.specs.Answers.{IsChosen}
use Rattle.tm_state.proofs.Included.{chosen, refused_on}
use Rattle.tm_state.proofs.state.StateData.include_run.Goals as goal

pub returns-in_err-run-in-Some-clause-err : goal.returns-in_err-run-in-Some-clause-err
returns-in_err-run-in-Some-clause-err g c =
    let host = (g.H.Host.program c.args.host.now).host in
    let v = c.args.value.now in
    let w = c.args.self.now in
    let none = c.in_ok-found.names_none in
    let is = subst (λ e. IsChosen e none host v w) c.in-Some.is c.in_ok-found.ensures.ok in
    refused_on c.from_residual-in_err-run-in-Some.result c.in_err-run-in-Some.field-0.0 (enter_include host c.args.apart v c.args.missing w) w
    c.from_residual-in_err-run-in-Some.ensures
    (λ m. chosen host c.args.apart v c.args.missing w c.in-Some.entry none is ∙ c.in_err-run-in-Some.ensures.err m (c.args.missing || none))

pub returns-in_ok-run-in-Some-clause-ok : goal.returns-in_ok-run-in-Some-clause-ok
returns-in_ok-run-in-Some-clause-ok g c =
    let host = (g.H.Host.program c.args.host.now).host in
    let v = c.args.value.now in
    let w = c.args.self.now in
    let none = c.in_ok-found.names_none in
    let is = subst (λ e. IsChosen e none host v w) c.in-Some.is c.in_ok-found.ensures.ok in
    let needs = c.in_ok-run-in-Some.ensures.ok (c.args.missing || none) in
    (needs.0, needs.1, needs.2, chosen host c.args.apart v c.args.missing w c.in-Some.entry none is ∙ needs.3)
