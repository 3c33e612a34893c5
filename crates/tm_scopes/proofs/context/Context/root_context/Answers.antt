use Rattle.std.proofs.Common.{◌≡◌, ap, sym, ◌∙◌, slice_get, subst}
use Rattle.tm_meaning.specs.World.{Scopes}
use Rattle.tm_meaning.specs.Calls.{root_context}
use Rattle.tm_values.specs.Answer.{OkOrOutOfMemory}
use Rattle.tm_scopes.proofs.Framed.{root-framed}
use Rattle.tm_scopes.proofs.context.Context.root_context.Goals as goal

pub returns-in-Some : goal.returns-in-Some
returns-in-Some c =
    let outermost : c.in-Some.outermost.now.frame.context ≡ root_context c.args.self.now.frames =
    sym (root-framed c.self.inside.marks.items c.in-Some.outermost.now c.self.inside.pairs.items
    (c.in-Some.ensures.value ∙ ap (λ l. slice_get l 0) c.deref.ensures.value))
    ∙ ap (λ (scopes : Scopes). root_context scopes.frames) c.self.view_is in
    subst (λ w. OkOrOutOfMemory c.share_context.result (λ v. v ≡ w)) outermost c.share_context.ensures
