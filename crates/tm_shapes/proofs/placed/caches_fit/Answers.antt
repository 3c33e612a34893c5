use Rattle.std.proofs.Common.{◌≡◌, ◌⊎◌, inl, inr, ⊎_elim, ◌∙◌, ◌+◌, None, Some, drop, refl, sym, ap}
use Rattle.tm_shapes.specs.CacheNames.{all_taken, names_of, no_names}
use Rattle.tm_shapes.specs.Placed.{filter_of, filters_in, test_of, tests_in}
use Rattle.tm_shapes.proofs.CacheNames.{either_unfit, fit, goes_on, stops}
use Rattle.tm_shapes.proofs.Rests.{next, none_left}
use Rattle.tm_shapes.proofs.placed.caches_fit.Goals as goal

pub loop-instruction-init : goal.loop-instruction-init
loop-instruction-init c =
    let code = c.args.code.now in
    record {
      filters = ap (all_taken (filters_in code)) c.in_ok-new.ensures;
      tests = ap (all_taken (tests_in code)) c.in_ok-new-2.ensures;
    }

pub loop-instruction-preserved : goal.loop-instruction-preserved
loop-instruction-preserved c =
    let code = c.args.code.now in
    let x = c.instruction-item.result in
    let left = drop (c.loop-instruction.instruction-index + 1) code in
    let rest = next code c.loop-instruction.instruction-index x c.loop-instruction-test.true c.instruction-item.is in
    let filters = names_of c.loop-instruction.caches.filters.names.items in
    let tests = names_of c.loop-instruction.caches.tests.names.items in
    let took = c.if-not-take.ensures.taken refl in
    record {
      filters = sym (goes_on (filter_of x) (filters_in left) filters (names_of c.take.new.self.filters.names.items) took.0)
          ∙ sym (ap (λ is. all_taken (filters_in is) filters) rest) ∙ c.loop-instruction.invariant.filters;
      tests = sym (goes_on (test_of x) (tests_in left) tests (names_of c.take.new.self.tests.names.items) took.1)
          ∙ sym (ap (λ is. all_taken (tests_in is) tests) rest) ∙ c.loop-instruction.invariant.tests;
    }

pub returns-then-not-take : goal.returns-then-not-take
returns-then-not-take c =
    let code = c.args.code.now in
    let x = c.instruction-item.result in
    let left = drop (c.loop-instruction.instruction-index + 1) code in
    let rest = next code c.loop-instruction.instruction-index x c.loop-instruction-test.true c.instruction-item.is in
    let filters = names_of c.loop-instruction.caches.filters.names.items in
    let tests = names_of c.loop-instruction.caches.tests.names.items in
    let told : (all_taken (filter_of x) filters ≡ None) ⊎ (all_taken (test_of x) tests ≡ None) → (all_taken (filters_in code) no_names ≡ None)
    ⊎ (all_taken (tests_in code) no_names ≡ None) =
    ⊎_elim
    (λ e. inl (sym c.loop-instruction.invariant.filters ∙ ap (λ is. all_taken (filters_in is) filters) rest
    ∙ stops (filter_of x) (filters_in left) filters e))
    (λ e. inr (sym c.loop-instruction.invariant.tests ∙ ap (λ is. all_taken (tests_in is) tests) rest ∙ stops (test_of x) (tests_in left) tests e)) in
    either_unfit (filters_in code) (tests_in code) (told (c.if-not-take.ensures.refused refl))

pub returns : goal.returns
returns c =
    let code = c.args.code.now in
    let none = none_left code c.loop-instruction.instruction-index c.loop-instruction-test.false in
    let filters = names_of c.loop-instruction.caches.filters.names.items in
    let tests = names_of c.loop-instruction.caches.tests.names.items in
    let one = fit (filters_in code) filters (sym (ap (λ is. all_taken (filters_in is) filters) none) ∙ c.loop-instruction.invariant.filters) in
    let two = fit (tests_in code) tests (sym (ap (λ is. all_taken (tests_in is) tests) none) ∙ c.loop-instruction.invariant.tests) in
    rw (one, two) refl
