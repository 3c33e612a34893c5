use Rattle.std.proofs.Common.{arith, rules, ◌≡◌, ◌≢◌, ◌<◌, ◌^◌, ℤ, pos, sym, ap, subst, ◌∙◌}
use Rattle.std.proofs.lemmas.Int.{ints, to_z-of_z}
use Rattle.std.specs.Int.RustNames.{FitsSigned}
use Rattle.std.specs.Int.{w128}
use Rattle.tm_primitives.proofs.Steps.{run_is, no_run}
use Rattle.tm_primitives.specs.Places.{places_from, Within, IsNoRun}
use Rattle.tm_primitives.proofs.places.Places.run.Goals as goal

pub returns-in_default-clause-some : goal.returns-in_default-clause-some
returns-in_default-clause-some c =
    let x = c.self.inside.next in
    let m = c.self.inside.left in
    let fits : FitsSigned w128 c.self.inside.next = search rules in
    let one : c.self.inside.step ≡ pos 1 = omega (arith, ints) in
    let some : 0 < c.self.inside.left = omega arith in
    let within = subst (λ (z : ℤ). Within (2 ^ 64) x z m) one c.self.invariant in
    simp to_z-of_z (sym c.self.view_is ∙ (ap (λ (z : ℤ). places_from x z m) one ∙ run_is x m within some))

pub returns-in_default-2-clause-none : goal.returns-in_default-2-clause-none
returns-in_default-2-clause-none c =
    let none : c.self.inside.left ≢ 0 = search rules in
    let one : c.self.inside.left ≢ 1 = search rules in
    let step : c.self.inside.step ≢ pos 1 = λ e. omega (arith, ints, e) in
    subst IsNoRun c.self.view_is (no_run c.self.inside.next c.self.inside.step c.self.inside.left c.self.invariant none one step)
