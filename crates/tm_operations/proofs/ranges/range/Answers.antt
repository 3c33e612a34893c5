use Rattle.std.proofs.lemmas.Grind.{common_steps}
use Rattle.std.proofs.Common.{◌≡◌, ◌≤◌, ap, Ok, Some, pos, arith, rules, slice_get, length}
use Rattle.std.proofs.lemmas.Int.{to_z-of_z}
use Rattle.std.specs.Int.{w64}
use Rattle.std.specs.Int.RustNames.{FitsSigned}
use Rattle.std.specs.Option.{unwrap_or}
use Rattle.tm_operations.proofs.Counted.{copied, asked_both, asked_one}
use Rattle.tm_definitions.specs.Ranges.{required_in, later_in}
use Rattle.tm_operations.proofs.ranges.range.Goals as goal

-- from the first argument to the second one
pub returns-in-Some : goal.returns-in-Some
returns-in-Some c =
    let vs = c.args.arguments.now in
    let first : required_in (slice_get vs 0) ≡ Ok c.in_ok-first.first = search rules in
    let second-is : c.later.result ≡ Ok c.in_ok-second.second = search rules in
    let second : later_in (slice_get vs 1)
    ≡ Ok c.in_ok-second.second = cc (ap later_in (copied vs 1 c.get.result c.get.ensures.lookup), c.later.ensures, second-is) in
    let step-is : c.later-2.result ≡ Ok c.in_ok-step.step = search rules in
    let third : later_in (slice_get vs 2)
    ≡ Ok c.in_ok-step.step = cc (ap later_in (copied vs 2 c.get-2.result c.get-2.ensures.lookup), c.later-2.ensures, step-is) in
    let few : length vs ≤ 3 = omega arith in
    let stop : c.in_ok-second.second ≡ Some c.in-Some.stop = c.in-Some.is in
    let step : c.unwrap_or-step.result ≡ unwrap_or c.in_ok-step.step (pos 1) = search rules in
    let a : FitsSigned w64 c.in_ok-first.first = search rules in
    let b : FitsSigned w64 c.in-Some.stop = search rules in
    let z : FitsSigned w64 c.unwrap_or-step.result = search rules in
    let answer = simp to_z-of_z at c.numbers.ensures in
    rw (asked_both vs c.in_ok-first.first c.in-Some.stop c.unwrap_or-step.result c.in_ok-second.second c.in_ok-step.step first second third
    few stop step) answer

-- from 0 to the first one
pub returns-in-None : goal.returns-in-None
returns-in-None c =
    let vs = c.args.arguments.now in
    let first : required_in (slice_get vs 0) ≡ Ok c.in_ok-first.first = search rules in
    let second-is : c.later.result ≡ Ok c.in_ok-second.second = search rules in
    let second : later_in (slice_get vs 1)
    ≡ Ok c.in_ok-second.second = cc (ap later_in (copied vs 1 c.get.result c.get.ensures.lookup), c.later.ensures, second-is) in
    let step-is : c.later-2.result ≡ Ok c.in_ok-step.step = search rules in
    let third : later_in (slice_get vs 2)
    ≡ Ok c.in_ok-step.step = cc (ap later_in (copied vs 2 c.get-2.result c.get-2.ensures.lookup), c.later-2.ensures, step-is) in
    let few : length vs ≤ 3 = omega arith in
    let step : c.unwrap_or-step.result ≡ unwrap_or c.in_ok-step.step (pos 1) = search rules in
    let a : FitsSigned w64 c.in_ok-first.first = search rules in
    let z : FitsSigned w64 c.unwrap_or-step.result = search rules in
    let answer = simp to_z-of_z at c.numbers-in-None.ensures in
    rw (asked_one vs c.in_ok-first.first c.unwrap_or-step.result c.in_ok-second.second c.in_ok-step.step first second third few c.in-None.is
    step) answer

pub returns-in_err-first : goal.returns-in_err-first
returns-in_err-first c = search rules fits 100

pub returns-in_err-second : goal.returns-in_err-second
returns-in_err-second c = grind (arith, common_steps)

pub returns-in_err-step : goal.returns-in_err-step
returns-in_err-step c = grind (arith, common_steps)

pub returns-then-arguments-gt3 : goal.returns-then-arguments-gt3
returns-then-arguments-gt3 c = grind (arith, common_steps)
