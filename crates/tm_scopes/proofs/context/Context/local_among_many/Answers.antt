use Rattle.std.proofs.Common.{◌∙◌, ap, subst, length, slice_get, ◌-◌}
use Rattle.tm_syntax.specs.Named.{find}
use Rattle.tm_meaning.specs.World.{Scopes, top_locals}
use Rattle.tm_values.specs.Answer.{IsLent}
use Rattle.tm_scopes.proofs.Framed.{lent-last}
use Rattle.tm_scopes.proofs.context.Context.local_among_many.Goals as goal

pub returns : goal.returns
returns c =
    let x = c.args.name.now in
    subst (IsLent c.get.result) (ap (λ (scopes : Scopes). find x (top_locals scopes.frames)) c.self.view_is)
    (lent-last c.get.result x c.self.inside.marks.items c.in_ok-mark.mark.now c.deref-2.result.now c.self.inside.pairs.items
    c.self.invariant.marked (c.in_ok-mark.ensures.value ∙ ap (λ l. slice_get l (length l - 1)) c.deref.ensures.value)
    c.deref-2.ensures.value c.get.ensures)
