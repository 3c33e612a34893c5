use Rattle.std.proofs.Common.{◌≡◌, ◌+ℤ◌, ◌*ℤ◌, pos, arith, to_z}
use Rattle.std.proofs.lemmas.Int.{to_z-of_z, to_z_pos}
use Rattle.std.specs.Int.{w64, w128}
use Rattle.std.specs.Int.RustNames.{FitsSigned}
use Rattle.tm_operations.proofs.Counted.{wide, steps_fit, step_fits}
use Rattle.tm_operations.proofs.ranges.number_at.Goals as goal

pub overflow_mul-result : goal.overflow_mul-result
overflow_mul-result c =
    let z = c.args.step in
    let k = c.args.place in
    let step : FitsSigned w64 z = c.ranges.step in
    let size : FitsSigned w128 z = wide z step in
    let way : FitsSigned w128 (pos k *ℤ z) = steps_fit z k step c.requires in
    let place : to_z w128 k ≡ pos k = to_z_pos w128 k (omega arith) in
    simp (place, to_z-of_z) way

pub overflow_add-result : goal.overflow_add-result
overflow_add-result c =
    let x = c.args.start in
    let z = c.args.step in
    let k = c.args.place in
    let near : FitsSigned w64 x = c.ranges.start in
    let step : FitsSigned w64 z = c.ranges.step in
    let start : FitsSigned w128 x = wide x near in
    let size : FitsSigned w128 z = wide z step in
    let way : FitsSigned w128 (pos k *ℤ z) = steps_fit z k step c.requires in
    let there : FitsSigned w128 (x +ℤ pos k *ℤ z) = step_fits x z k near step c.requires in
    let place : to_z w128 k ≡ pos k = to_z_pos w128 k (omega arith) in
    simp (place, to_z-of_z) there

pub returns : goal.returns
returns c =
    let x = c.args.start in
    let z = c.args.step in
    let k = c.args.place in
    let near : FitsSigned w64 x = c.ranges.start in
    let step : FitsSigned w64 z = c.ranges.step in
    let start : FitsSigned w128 x = wide x near in
    let size : FitsSigned w128 z = wide z step in
    let way : FitsSigned w128 (pos k *ℤ z) = steps_fit z k step c.requires in
    let there : FitsSigned w128 (x +ℤ pos k *ℤ z) = step_fits x z k near step c.requires in
    let place : to_z w128 k ≡ pos k = to_z_pos w128 k (omega arith) in
    simp (place, to_z-of_z)
