use Rattle.std.proofs.Common.{◌≡◌, length, rules}
use Rattle.tm_runs.proofs.Left.{only_one}
use Rattle.tm_runs.proofs.activation.Activation.into_value.Goals as goal

pub returns : goal.returns
returns c =
    let one : length c.args.self.operands ≡ 1 = search rules in
    only_one c.pop.result c.args.self.operands c.pop.new.self one (search rules)
