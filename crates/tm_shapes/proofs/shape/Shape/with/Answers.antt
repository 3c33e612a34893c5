use Rattle.std.proofs.Common.{rules, ◌≡◌, ◌+◌}
use Rattle.tm_shapes.proofs.Showing.{shows-with}
use Rattle.tm_shapes.proofs.shape.Shape.with.Goals as goal

pub returns-clause-shown : goal.returns-clause-shown
returns-clause-shown c = λ s shown.
    let height : c.in-Some.height ≡ c.args.self.height + 1 = search rules in
    shows-with c.args.cells.now c.put.new.self c.in_ok-top.ensures.grown c.args.self s c.args.kind c.in_ok-top.top c.in-Some.height c.requires height
    c.in_ok-top.ensures.found shown
