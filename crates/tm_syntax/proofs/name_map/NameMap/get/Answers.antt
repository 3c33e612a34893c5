use Rattle.std.proofs.Common.{◌∙◌, ap}
use Rattle.tm_syntax.specs.Named.{find}
use Rattle.tm_syntax.proofs.Named.{find_named, found_there}
use Rattle.tm_syntax.proofs.name_map.NameMap.get.Goals as goal

pub returns : goal.returns
returns t c =
    found_there c.get.result (find c.args.name.now c.args.self.now)
    (c.get.ensures.value ∙ find_named c.self.inside.by_name.entries c.args.name.now ∙ ap (find c.args.name.now) c.self.view_is)
