use Rattle.std.proofs.Common.{◌≡◌, ◌∙◌, [], ◌∷◌, ap, length, rules, true}
use Rattle.tm_meaning.specs.Machine.{new_capture}
use Rattle.tm_parts.specs.Halts.{error_of}
use Rattle.tm_meaning.specs.Instructions.{is_heard}
use Rattle.template_machine.specs.Renders.{StreamCaptured}
use Rattle.template_machine.proofs.Answered.{passed}
use Rattle.template_machine.proofs.StreamRuns.{captured_done, captured_failed}
use Rattle.template_machine.proofs.template.TemplateOf.run_in_capture.Goals as goal

pub returns-in_err-captures-clause-streams : goal.returns-in_err-captures-clause-streams
returns-in_err-captures-clause-streams g c = λ sound.
    let t = c.args.self.now in
    let w = c.args.state.now in
    let left = c.run_over.new.state in
    let why = c.in_err-captures.field-0.0 in
    let one : c.limit_texts.new.self ≡ new_capture true ∷ [] = search rules in
    passed c.from_residual-in_err-captures.result (λ r. StreamCaptured g.O.Parties.stated t w r left) (error_of why)
    c.from_residual-in_err-captures.ensures.1
    (captured_failed g.O.Parties.stated t w left c.limit_texts.new.self one why (c.in_err-captures.ensures.streams sound))

pub returns-clause-streams : goal.returns-clause-streams
returns-clause-streams g c = λ sound.
    let one : c.limit_texts.new.self ≡ new_capture true ∷ [] = search rules in
    captured_done g.O.Parties.stated c.args.self.now c.args.state.now c.run_over.new.state c.limit_texts.new.self one c.in_ok-captures.captures
    c.end.new.self (is_heard c.in-Some._mode) c.in-Some.text (c.in_ok-captures.ensures.closed ∙ ap length one) c.in-Some.ensures
    (c.in_ok-captures.ensures.streams sound)
