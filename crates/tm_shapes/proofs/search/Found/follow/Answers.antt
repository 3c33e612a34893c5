use Rattle.std.proofs.Common.{◌+◌, ap, subst, sym}
use Rattle.tm_shapes.specs.Searched.{follow_of, reach_of}
use Rattle.tm_shapes.specs.Shown.{Shows}
use Rattle.tm_shapes.proofs.Searching.{comes_as, first_done, first_fails, passed_on, way_either, way_on, way_to}
use Rattle.tm_shapes.proofs.search.Found.follow.Goals as goal

pub returns-in-On : goal.returns-in-On
returns-in-On c = λ q code f x h tells.
    let w = way_on q code c.args.self.now.cells c.args.place c.args.way x c.in-On.shape c.in-On.is tells in
    comes_as c.reach.new.self (reach_of q code (c.args.place + 1) w.0 f) (follow_of q code x f) c.reach.result
    (ap (λ x. follow_of q code x f) w.2) (c.reach.ensures.reached q code f w.0 h w.1)

pub returns-in-To : goal.returns-in-To
returns-in-To c = λ q code f x h tells.
    let w = way_to q code c.args.self.now.cells c.args.place c.args.way x c.in-To.target c.in-To.shape c.in-To.is tells in
    comes_as c.reach-in-To.new.self (reach_of q code c.in-To.target w.0 f) (follow_of q code x f) c.reach-in-To.result
    (ap (λ x. follow_of q code x f) w.2) (c.reach-in-To.ensures.reached q code f w.0 h w.1)

pub returns-in_err-reach-in-Either : goal.returns-in_err-reach-in-Either
returns-in_err-reach-in-Either c = λ q code f x h tells.
    let way = c.in-Either in
    let w = way_either q code c.args.self.now.cells c.args.place c.args.way x way.next way.target way.shape way.is tells in
    passed_on c.reach-in-Either.new.self (follow_of q code x f) c.from_residual.result c.in_err-reach-in-Either.field-0.0 c.from_residual.ensures.1
    (first_fails q code (Unit {0}) c.reach-in-Either.new.self x f (c.args.place + 1) way.target w.0 w.1 c.in_err-reach-in-Either.field-0.0 w.4
    (c.in_err-reach-in-Either.ensures.reached q code f w.0 h w.2))

pub returns-in_ok-reach-in-Either : goal.returns-in_ok-reach-in-Either
returns-in_ok-reach-in-Either c = λ q code f x h tells.
    let way = c.in-Either in
    let w = way_either q code c.args.self.now.cells c.args.place c.args.way x way.next way.target way.shape way.is tells in
    let g = c.in_ok-reach-in-Either.ensures.reached q code f w.0 h w.2 in
    let t : Shows c.reach-in-Either.new.self.cells way.shape w.1 =
    subst (λ cells. Shows cells way.shape w.1) (sym c.reach-in-Either.ensures.cells) w.3 in
    comes_as c.reach-in-Either-2.new.self (reach_of q code way.target w.1 g.0) (follow_of q code x f) c.reach-in-Either-2.result
    (first_done q code x f g.0 (c.args.place + 1) way.target w.0 w.1 w.4 g.1)
    (c.reach-in-Either-2.ensures.reached q code g.0 w.1 g.2 t)
