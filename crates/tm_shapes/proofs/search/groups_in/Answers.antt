use Rattle.std.proofs.Common.{◌∙◌, ◌+◌, ap, refl, arith, drop, get_or}
use Rattle.tm_shapes.specs.Accepts.{ask_openly}
use Rattle.tm_shapes.specs.Searched.{seeds_of}
use Rattle.tm_shapes.specs.Shapes.{entry_shape}
use Rattle.tm_shapes.proofs.Rests.{none_left}
use Rattle.tm_shapes.proofs.Searching.{no_seed, seed_of, seeds_next}
use Rattle.tm_shapes.proofs.Seeing.{begins, begins_on, goes, goes_less, goes_on, no_groups_are, taken_off}
use Rattle.tm_shapes.proofs.search.groups_in.Goals as goal

pub loop-seed-init : goal.loop-seed-init
loop-seed-init c =
    begins c.args.stream.now.code.now (seeds_of c.args.seeds.now) _ c.in_ok-no_shapes.ensures c.new-2.ensures
    (c.in_ok-vec.ensures.items_if_clones_equal (λ y e. e) ∙ no_groups_are c.args.stream.now.code.now)

pub loop-seed-preserved : goal.loop-seed-preserved
loop-seed-preserved c =
    let code = c.args.stream.now.code.now in
    let seeds = c.args.seeds.now in
    let k = c.loop-seed.seed-index in
    let e = get_or seeds k no_seed in
    let b = c.loop-seed.invariant in
    begins_on code (seeds_of seeds) (seeds_of (drop k seeds)) (seeds_of (drop (k + 1) seeds)) (seed_of e) c.loop-seed.seen c.note.new.self
    (seeds_next seeds k c.loop-seed-test.true) b
    (c.in_ok-note.ensures.noted ask_openly code b.0 (entry_shape e.values) b.1 (c.over.ensures c.loop-seed.seen.cells))

pub loop-place-init : goal.loop-place-init
loop-place-init c =
    let seeds = c.args.seeds.now in
    let k = c.loop-seed.seed-index in
    goes c.args.stream.now.code.now (seeds_of seeds) (seeds_of (drop k seeds)) c.loop-seed.seen
    (ap seeds_of (none_left seeds k (omega (arith, c.loop-seed-test.false)))) c.loop-seed.invariant

pub loop-place-smaller : goal.loop-place-smaller
loop-place-smaller c =
    let b = c.loop-place.invariant in
    goes_less c.args.stream.now.code.now (seeds_of c.args.seeds.now) c.loop-place.seen c.glance.new.self
    c.in-Some.place c.pop.new.self c.in-Some.ensures b
    (c.in_ok-glance.ensures ask_openly (record b.0 { work = c.pop.new.self })
    (record { read = λ n. refl; returned = refl; left = refl; enters = refl })
    (taken_off c.loop-place.seen _ b.0 c.in-Some.place c.pop.new.self b.2 refl refl refl refl))

pub loop-place-preserved : goal.loop-place-preserved
loop-place-preserved c =
    let b = c.loop-place.invariant in
    goes_on c.args.stream.now.code.now (seeds_of c.args.seeds.now) c.loop-place.seen c.glance.new.self
    c.in-Some.place c.pop.new.self c.in-Some.ensures b
    (c.in_ok-glance.ensures ask_openly (record b.0 { work = c.pop.new.self })
    (record { read = λ n. refl; returned = refl; left = refl; enters = refl })
    (taken_off c.loop-place.seen _ b.0 c.in-Some.place c.pop.new.self b.2 refl refl refl refl))
