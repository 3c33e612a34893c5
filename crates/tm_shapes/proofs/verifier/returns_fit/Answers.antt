use Rattle.std.proofs.Common.{◌≡◌, ◌∙◌, ap, sym, true, false}
use Rattle.std.specs.Prelude.{is_some}
use Rattle.tm_shapes.specs.Accepts.{ask_some, entry_seeds, found, start_seed}
use Rattle.tm_shapes.proofs.Answering.{both_true, first_false, first_seed, if_err, on_ok, other_seeds, passed, second_false}
use Rattle.tm_shapes.proofs.verifier.returns_fit.Goals as goal

pub returns-in_err-search-in-len1-up-clause-none : goal.returns-in_err-search-in-len1-up-clause-none
returns-in_err-search-in-len1-up-clause-none c =
    let code = c.args.stream.now.code.now in
    passed c.from_residual.result c.in_err-search-in-len1-up.field-0.0 _ c.from_residual.ensures.1 (λ is reads read seeds.
    first_false (is_some (found (ask_some reads 1) code start_seed)) (is_some (found (ask_some reads 0) code (entry_seeds code)))
    (ap (λ es. is_some (found (ask_some reads 1) code es)) (sym (first_seed c.args.seeds.now code _ seeds))
    ∙ c.in_err-search-in-len1-up.ensures.none is (ask_some reads 1) (c.ask_some.ensures reads read)))

pub returns-in_ok-search-in-len1-up-clause-found : goal.returns-in_ok-search-in-len1-up-clause-found
returns-in_ok-search-in-len1-up-clause-found c =
    let code = c.args.stream.now.code.now in
    on_ok c.search-in-len1-up.result _ _ c.search-in-len1-up.ensures.found (λ h reads read seeds.
    both_true (is_some (found (ask_some reads 1) code start_seed)) (is_some (found (ask_some reads 0) code (entry_seeds code)))
    (ap (λ es. is_some (found (ask_some reads 1) code es)) (sym (first_seed c.args.seeds.now code _ seeds))
    ∙ c.in_ok-search-in-len1-up.ensures.found (ask_some reads 1) (c.ask_some.ensures reads read))
    (ap (λ es. is_some (found (ask_some reads 0) code es)) (sym (other_seeds c.args.seeds.now code seeds))
    ∙ h (ask_some reads 0) (c.ask_some-in-len1-up.ensures reads read)))

pub returns-in_ok-search-in-len1-up-clause-none : goal.returns-in_ok-search-in-len1-up-clause-none
returns-in_ok-search-in-len1-up-clause-none c =
    let code = c.args.stream.now.code.now in
    if_err c.search-in-len1-up.result _ _ c.search-in-len1-up.ensures.none (λ e h is reads read seeds.
    second_false (is_some (found (ask_some reads 1) code start_seed)) (is_some (found (ask_some reads 0) code (entry_seeds code)))
    (ap (λ es. is_some (found (ask_some reads 0) code es)) (sym (other_seeds c.args.seeds.now code seeds))
    ∙ h is (ask_some reads 0) (c.ask_some-in-len1-up.ensures reads read)))
