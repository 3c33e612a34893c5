use Rattle.std.proofs.Common.{◌∙◌, sym, ap, subst}
use Rattle.tm_syntax.specs.Named.{find}
use Rattle.tm_values.specs.Answer.{IsLent}
use Rattle.tm_scopes.proofs.Ordered.{find-in_order}
use Rattle.tm_scopes.proofs.pairs.Pairs.get.Goals as goal

pub returns : goal.returns
returns c =
    let x = c.args.name.now in
    subst (IsLent c.value_of.result) (ap (find x) c.deref.ensures.value ∙ sym (find-in_order x c.self.inside.all.items)
    ∙ ap (find x) c.self.view_is) c.value_of.ensures
