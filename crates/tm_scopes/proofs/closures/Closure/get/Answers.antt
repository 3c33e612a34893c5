use Rattle.std.proofs.Common.{◌∙◌, ap, sym}
use Rattle.tm_syntax.specs.Named.{find}
use Rattle.tm_syntax.proofs.Named.{found_there}
use Rattle.tm_scopes.proofs.Ordered.{find-hashed, find-in_order}
use Rattle.tm_scopes.proofs.closures.Closure.get.Goals as goal

pub returns : goal.returns
returns c =
    let x = c.args.name.now in
    let entries = c.self.inside.names.entries in
    found_there c.get.result _ (c.get.ensures.value ∙ find-hashed x entries ∙ sym (find-in_order x entries)
    ∙ ap (find x) c.self.view_is)
