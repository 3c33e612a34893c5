use Rattle.std.proofs.Common.{string_bytes}
use Rattle.tm_meaning.specs.Instructions.{is_heard}
use Rattle.tm_state.specs.State.{callee_of}
use Rattle.tm_parts.specs.Halts.{error_of}
use Rattle.template_machine.specs.Renders.{RunCaptured, callee_run}
use Rattle.template_machine.proofs.Answered.{passed}
use Rattle.template_machine.proofs.StateCalls.{text_left}
use Rattle.template_machine.proofs.StreamCalls.{text_done, text_failed}
use Rattle.template_machine.proofs.state.StateOf.run_in_capture.Goals as goal

pub returns-clause-captured : goal.returns-clause-captured
returns-clause-captured g c = λ of. (
  text_left c.in_ok-captures.captures c.end.new.self (is_heard c.in-Some._mode) (string_bytes c.in-Some.text)
      (callee_run g.O.Parties.stated c.args.self.now.template (callee_of c.args.run) c.args.self.now.world) c.run_over.new.self.world
      (c.in_ok-captures.ensures.ran of) c.in-Some.ensures,
  (c.in_ok-captures.ensures.ran of).0,
)

pub returns-in_err-captures-clause-streams : goal.returns-in_err-captures-clause-streams
returns-in_err-captures-clause-streams g c =
    let stated = g.O.Parties.stated in
    let t = c.args.self.now.template in
    let k = callee_of c.args.run in
    let w = c.args.self.now.world in
    let left = c.run_over.new.self.world in
    let why = c.in_err-captures.field-0.0 in
    passed c.from_residual-in_err-captures.result (λ r. RunCaptured stated t k w r left) (error_of why) c.from_residual-in_err-captures.ensures.1
    (text_failed stated t k w left why c.in_err-captures.ensures.streams)

pub returns-clause-streams : goal.returns-clause-streams
returns-clause-streams g c =
    text_done g.O.Parties.stated c.args.self.now.template (callee_of c.args.run) c.args.self.now.world c.run_over.new.self.world
    c.in_ok-captures.captures c.end.new.self (is_heard c.in-Some._mode) c.in-Some.text c.in_ok-captures.ensures.closed c.in-Some.ensures
    c.in_ok-captures.ensures.streams
