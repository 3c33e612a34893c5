use Rattle.std.proofs.Common.{◌≡◌, ◌++◌, ◌∷◌, [], ◌∙◌, rules}
use Rattle.std.proofs.lemmas.Result.{on_ok_weaker}
use Rattle.tm_generator.proofs.Opened.{none-put, none-call, last-put, last-call}
use Rattle.tm_generator.proofs.Spreading.{if_ok_weaker}
use Rattle.tm_generator.proofs.calls.push_steps_open.Goals as goal

pub returns-in_default-clause-ok : goal.returns-in_default-clause-ok
returns-in_default-clause-ok c = none-put c.args.after.now c.in_default.ensures.cases c.args.code.now

pub returns-in_default-clause-call : goal.returns-in_default-clause-call
returns-in_default-clause-call c = c.with_none.ensures ∙ none-call c.args.after.now c.in_default.ensures.cases

pub returns-clause-ok : goal.returns-clause-ok
returns-clause-ok c =
    let whole : c.args.after.now ≡ c.in-Some.before.now ++ c.in-Some.last.now ∷ [] = search rules in
    on_ok_weaker c.push_step_open.result (last-put c.args.after.now c.in-Some.before.now c.in-Some.last.now whole c.args.code.now
    c.push_steps.new.code c.push_step_open.new.code c.in_ok-push_steps.ensures) c.push_step_open.ensures.ok

pub returns-clause-call : goal.returns-clause-call
returns-clause-call c =
    let whole : c.args.after.now ≡ c.in-Some.before.now ++ c.in-Some.last.now ∷ [] = search rules in
    if_ok_weaker c.push_step_open.result
    (λ call p. p ∙ last-call c.args.after.now c.in-Some.before.now c.in-Some.last.now whole) c.push_step_open.ensures.call
