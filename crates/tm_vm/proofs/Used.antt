-- Filters and tests that are used by their cache numbers.
use Rattle.std.proofs.Common.{◌≡◌, ℕ, List, Option, Some}
use Rattle.std.proofs.Common.{Result, sym, subst}
use Rattle.tm_meaning.specs.Instructions.{apply_of, apply_filter_of, perform_test_of, on_used, used, with_filters, with_tests}
use Rattle.tm_meaning.specs.Machine.{Config, Program}
use Rattle.tm_parts.specs.declared.halt.Halt.{Halt}
use Rattle.tm_trees.specs.Trees.applications
use Rattle.tm_vm.specs.Answers.{Needs}
use Rattle.tm_vm.specs.declared.flow.Flow.{Flow}

pub filter_used : (p : Program) (x : List ℕ) (n : Option ℕ) (k : ℕ) (old mid new : Config) (result : Result Flow Halt) →
    used k x old.run.filters ≡ Some mid.run.filters → mid ≡ with_filters mid.run.filters old →
    Needs p (apply_of p applications.Filter x n mid) mid new result → Needs p (apply_filter_of p x n k old) old new result
filter_used p x n k old mid new result there is s =
    let held = mid.run.filters in
    subst (λ o. Needs p (on_used o old.world (λ held. apply_of p applications.Filter x n (with_filters held old))) old new result)
    (sym there)
    (let t = subst (λ c. Needs p (apply_of p applications.Filter x n c) c new result) is s in
    record { did = t.did; kept = t.kept; deepens = t.deepens; same_stream = t.same_stream })

pub test_used : (p : Program) (x : List ℕ) (n : Option ℕ) (k : ℕ) (old mid new : Config) (result : Result Flow Halt) →
    used k x old.run.tests ≡ Some mid.run.tests → mid ≡ with_tests mid.run.tests old →
    Needs p (apply_of p applications.Test x n mid) mid new result → Needs p (perform_test_of p x n k old) old new result
test_used p x n k old mid new result there is s =
    subst (λ o. Needs p (on_used o old.world (λ held. apply_of p applications.Test x n (with_tests held old))) old new result) (sym there)
    (let t = subst (λ c. Needs p (apply_of p applications.Test x n c) c new result) is s in
    record { did = t.did; kept = t.kept; deepens = t.deepens; same_stream = t.same_stream })
