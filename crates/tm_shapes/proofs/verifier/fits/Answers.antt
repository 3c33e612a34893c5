use Rattle.std.proofs.Common.{◌≡◌, ◌∙◌, ap, sym, true, false}
use Rattle.std.specs.Prelude.{is_some}
use Rattle.tm_shapes.specs.Accepts.{all_seeds, ask_all, found, returns_fit}
use Rattle.tm_shapes.proofs.Answering.{both_true, first_false, if_err, on_ok, passed, second_false}
use Rattle.tm_shapes.proofs.verifier.fits.Goals as goal

pub returns-in_err-search-clause-none : goal.returns-in_err-search-clause-none
returns-in_err-search-clause-none c =
    let code = c.args.stream.now.code.now in
    let form = c.args.form in
    passed c.from_residual.result c.in_err-search.field-0.0 _ c.from_residual.ensures.1 (λ is reads read seeds.
    first_false (is_some (found (ask_all reads form) code (all_seeds code))) (returns_fit reads form code)
    (ap (λ es. is_some (found (ask_all reads form) code es)) (sym seeds)
    ∙ c.in_err-search.ensures.none is (ask_all reads form) (c.ask_all.ensures reads read)))

pub returns-in-Template-clause-found : goal.returns-in-Template-clause-found
returns-in-Template-clause-found c = λ reads read seeds.
    let code = c.args.stream.now.code.now in
    let form = c.args.form in
    both_true (is_some (found (ask_all reads form) code (all_seeds code))) (returns_fit reads form code)
    (ap (λ es. is_some (found (ask_all reads form) code es)) (sym seeds)
    ∙ c.in_ok-search.ensures.found (ask_all reads form) (c.ask_all.ensures reads read))
    (ap (λ f. returns_fit reads f code) c.in-Template.is)

pub returns-in-Expression-clause-found : goal.returns-in-Expression-clause-found
returns-in-Expression-clause-found c =
    let code = c.args.stream.now.code.now in
    let form = c.args.form in
    on_ok c.returns_fit.result _ _ c.returns_fit.ensures.found (λ h reads read seeds.
    both_true (is_some (found (ask_all reads form) code (all_seeds code))) (returns_fit reads form code)
    (ap (λ es. is_some (found (ask_all reads form) code es)) (sym seeds)
    ∙ c.in_ok-search.ensures.found (ask_all reads form) (c.ask_all.ensures reads read))
    (ap (λ f. returns_fit reads f code) c.in-Expression.is ∙ h reads read seeds))

pub returns-in-Expression-clause-none : goal.returns-in-Expression-clause-none
returns-in-Expression-clause-none c =
    let code = c.args.stream.now.code.now in
    let form = c.args.form in
    if_err c.returns_fit.result _ _ c.returns_fit.ensures.none (λ e h is reads read seeds.
    second_false (is_some (found (ask_all reads form) code (all_seeds code))) (returns_fit reads form code)
    (ap (λ f. returns_fit reads f code) c.in-Expression.is ∙ h is reads read seeds))
