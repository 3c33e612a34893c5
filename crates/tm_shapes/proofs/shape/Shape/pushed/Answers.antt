use Rattle.std.proofs.Common.{rules, ◌≡◌, ◌+◌}
use Rattle.tm_shapes.proofs.Showing.{shows-pushed}
use Rattle.tm_shapes.proofs.shape.Shape.pushed.Goals as goal

pub returns-in-Some-Some : goal.returns-in-Some-Some
returns-in-Some-Some c = λ cells s shown.
    let values : c.in-Some-Some.values ≡ c.args.self.values + c.args.count = search rules in
    let height : c.in-Some-Some.height ≡ c.args.self.height + c.args.count = search rules in
    shows-pushed cells c.args.self s c.args.count c.in-Some-Some.values c.in-Some-Some.height values height shown
