use Rattle.std.proofs.Common.{arith, rules}
use Rattle.std.proofs.lemmas.Int.{to_z-of_z}
use Rattle.std.specs.Int.RustNames.{FitsSigned}
use Rattle.std.specs.Int.{w128}
use Rattle.tm_primitives.proofs.Laws.{below}
use Rattle.tm_primitives.proofs.Steps.{slice_inside, bounds_near}
use Rattle.tm_primitives.proofs.places.Places.of.Goals as goal

pub count_before-requires-clause-near : goal.count_before-requires-clause-near
count_before-requires-clause-near c =
    let near = bounds_near c.args.length c.args.start c.args.stop c.args.step c.ranges.length.fits in
    search (arith, to_z-of_z, near, c.first_bound-start.ensures, c.last_bound-stop.ensures)

pub invariant_of-result : goal.invariant_of-result
invariant_of-result c =
    let z : FitsSigned w128 c.args.step = c.ranges.step in
    let x : FitsSigned w128 c.first_bound-start.result = search rules in
    let y : FitsSigned w128 c.last_bound-stop.result = search rules in
    let start = simp to_z-of_z at c.first_bound-start.ensures in
    let stop = simp to_z-of_z at c.last_bound-stop.ensures in
    let count = simp to_z-of_z at c.count_before.ensures in
    simp to_z-of_z (slice_inside c.args.length c.args.start c.args.stop c.args.step c.first_bound-start.result c.last_bound-stop.result
    c.count_before.result c.requires.nonzero c.ranges.length.fits start stop count)

pub returns-clause-inside : goal.returns-clause-inside
returns-clause-inside c =
    let z : FitsSigned w128 c.args.step = c.ranges.step in
    let x : FitsSigned w128 c.first_bound-start.result = search rules in
    let y : FitsSigned w128 c.last_bound-stop.result = search rules in
    let start = simp to_z-of_z at c.first_bound-start.ensures in
    let stop = simp to_z-of_z at c.last_bound-stop.ensures in
    let count = simp to_z-of_z at c.count_before.ensures in
    simp to_z-of_z (below c.args.length c.args.start c.args.stop c.args.step c.first_bound-start.result c.last_bound-stop.result
    c.count_before.result c.requires.nonzero start stop count)
