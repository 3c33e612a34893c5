use Rattle.std.proofs.Common.{◌∙◌, ap}
use Rattle.std.specs.BTreeMap.{is_at}
use Rattle.std.specs.List.{list_any}
use Rattle.tm_syntax.specs.Named.{name_cmp}
use Rattle.tm_syntax.specs.Names.{Walk}
use Rattle.tm_names.proofs.Found as found
use Rattle.tm_names.proofs.walker.Walker.has_found.Goals as goal

pub returns : goal.returns
returns c =
    c.contains.ensures ∙ found.has_found c.args.text.now c.self.inside.found.keys
    ∙ ap (λ (w : Walk). list_any (is_at (name_cmp c.args.text.now)) w.found) c.self.view_is
