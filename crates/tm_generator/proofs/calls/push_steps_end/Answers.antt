use Rattle.std.proofs.Common.{◌≡◌, ◌++◌, ◌∷◌, [], ◌∙◌, ap, rules}
use Rattle.std.proofs.lemmas.Result.{on_ok_weaker}
use Rattle.tm_syntax.specs.Fragments.{straight}
use Rattle.tm_generator.specs.Building.{Builder, put}
use Rattle.tm_generator.proofs.Opened.{none-end, last-end}
use Rattle.tm_generator.proofs.calls.push_steps_end.Goals as goal

pub returns-in_default : goal.returns-in_default
returns-in_default c =
    on_ok_weaker c.emit.result (λ p. p ∙ ap {B = Builder} (λ is. put (straight is) c.args.code.now)
    (none-end c.args.after.now c.in_default.ensures.cases c.args.count)) c.emit.ensures

pub returns : goal.returns
returns c =
    let whole : c.args.after.now ≡ c.in-Some._before.now ++ c.in-Some.last.now ∷ [] = search rules in
    on_ok_weaker c.push_step_end.result (λ p. p ∙ ap {B = Builder} (λ is. put (straight is) c.args.code.now)
    (last-end c.args.after.now c.in-Some._before.now c.in-Some.last.now whole c.args.count)) c.push_step_end.ensures
