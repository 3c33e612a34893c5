use Rattle.std.proofs.Common.{◌+◌, ap, refl, arith, drop, get_or}
use Rattle.tm_shapes.specs.Searched.{seeds_of}
use Rattle.tm_shapes.specs.Shapes.{entry_shape}
use Rattle.tm_shapes.proofs.Rests.{none_left}
use Rattle.tm_shapes.proofs.Searching.{asked_is, asked_of, begins, begins_none, begins_on, goes, goes_home, goes_less, goes_none, goes_on}
use Rattle.tm_shapes.proofs.Searching.{no_seed, passed_fault, refused_when, seed_of, seeds_next, taken_off}
use Rattle.tm_shapes.proofs.search.search.Goals as goal

pub loop-seed-init : goal.loop-seed-init
loop-seed-init c = λ q asks. begins q c.args.stream.now.code.now (seeds_of c.args.seeds.now) _ c.in_ok-no_shapes.ensures c.new-2.ensures

pub returns-in_err-reach-clause-none : goal.returns-in_err-reach-clause-none
returns-in_err-reach-clause-none c =
    passed_fault c.from_residual-in_err-reach.result _ c.in_err-reach.field-0.0 c.from_residual-in_err-reach.ensures.1 (λ bad q asks.
    let code = c.args.stream.now.code.now in
    let seeds = c.args.seeds.now in
    let k = c.loop-seed.seed-index in
    let e = get_or seeds k no_seed in
    let b = c.loop-seed.invariant q asks in
    begins_none q code (seeds_of seeds) (seeds_of (drop k seeds)) (seeds_of (drop (k + 1) seeds)) (seed_of e) c.loop-seed.found
    (seeds_next seeds k c.loop-seed-test.true) b
    (refused_when c.reach.new.self _ c.in_err-reach.field-0.0
    (c.in_err-reach.ensures.reached q code b.0 (entry_shape e.values) b.1 (c.over.ensures c.loop-seed.found.cells)) bad))

pub loop-seed-preserved : goal.loop-seed-preserved
loop-seed-preserved c = λ q asks.
    let code = c.args.stream.now.code.now in
    let seeds = c.args.seeds.now in
    let k = c.loop-seed.seed-index in
    let e = get_or seeds k no_seed in
    let b = c.loop-seed.invariant q asks in
    begins_on q code (seeds_of seeds) (seeds_of (drop k seeds)) (seeds_of (drop (k + 1) seeds)) (seed_of e) c.loop-seed.found c.reach.new.self
    (seeds_next seeds k c.loop-seed-test.true) b
    (c.in_ok-reach.ensures.reached q code b.0 (entry_shape e.values) b.1 (c.over.ensures c.loop-seed.found.cells))

pub loop-place-init : goal.loop-place-init
loop-place-init c = λ q asks.
    let seeds = c.args.seeds.now in
    let k = c.loop-seed.seed-index in
    goes q c.args.stream.now.code.now (seeds_of seeds) (seeds_of (drop k seeds)) c.loop-seed.found
    (ap seeds_of (none_left seeds k (omega (arith, c.loop-seed-test.false)))) (c.loop-seed.invariant q asks)

pub loop-place-smaller : goal.loop-place-smaller
loop-place-smaller c =
    let q = asked_of c.args.asked.now in
    let asks = asked_is c.args.asked.now in
    let b = c.loop-place.invariant q asks in
    goes_less q c.args.stream.now.code.now (seeds_of c.args.seeds.now) c.loop-place.found c.look.new.self
    c.in-Some.place c.pop.new.self c.in-Some.ensures b
    (c.in_ok-look.ensures q (record { shapes = b.0.shapes; work = c.pop.new.self }) asks
    (taken_off c.loop-place.found _ b.0 c.in-Some.place c.pop.new.self b.2 c.in-Some.ensures refl refl refl))

pub loop-place-preserved : goal.loop-place-preserved
loop-place-preserved c = λ q asks.
    let b = c.loop-place.invariant q asks in
    goes_on q c.args.stream.now.code.now (seeds_of c.args.seeds.now) c.loop-place.found c.look.new.self
    c.in-Some.place c.pop.new.self c.in-Some.ensures b
    (c.in_ok-look.ensures q (record { shapes = b.0.shapes; work = c.pop.new.self }) asks
    (taken_off c.loop-place.found _ b.0 c.in-Some.place c.pop.new.self b.2 c.in-Some.ensures refl refl refl))

pub returns-in_err-look-clause-none : goal.returns-in_err-look-clause-none
returns-in_err-look-clause-none c =
    passed_fault c.from_residual-in_err-look.result _ c.in_err-look.field-0.0 c.from_residual-in_err-look.ensures.1 (λ bad q asks.
    let b = c.loop-place.invariant q asks in
    goes_none q c.args.stream.now.code.now (seeds_of c.args.seeds.now) c.loop-place.found c.in-Some.place c.pop.new.self c.in-Some.ensures b
    (refused_when c.look.new.self _ c.in_err-look.field-0.0
    (c.in_err-look.ensures q (record { shapes = b.0.shapes; work = c.pop.new.self }) asks
    (taken_off c.loop-place.found _ b.0 c.in-Some.place c.pop.new.self b.2 c.in-Some.ensures refl refl refl)) bad))

pub returns-clause-found : goal.returns-clause-found
returns-clause-found c = λ q asks.
    goes_home q c.args.stream.now.code.now (seeds_of c.args.seeds.now) c.loop-place.found c.in_default.ensures.0 (c.loop-place.invariant q asks)
