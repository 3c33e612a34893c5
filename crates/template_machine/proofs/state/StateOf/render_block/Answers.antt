use Rattle.std.proofs.Common.{rules, string_bytes, ◌≡◌, ◌∙◌, [], ◌∷◌, ap, length, refl, true}
use Rattle.tm_meaning.specs.Instructions.{is_heard}
use Rattle.template_machine.specs.Renders.{block_meaning, BlockText}
use Rattle.template_machine.proofs.BlockCalls.{text_done}
use Rattle.tm_meaning.specs.Machine.{new_capture}
use Rattle.tm_meaning.specs.Memory.{is_want_of_memory}
use Rattle.tm_output.specs.Counts.{untold}
use Rattle.tm_parts.specs.Halts.{error_of}
use Rattle.template_machine.proofs.Answered.{passed}
use Rattle.template_machine.proofs.StreamCalls.{block_text_done, block_text_failed, block_text_none}
use Rattle.template_machine.proofs.state.StateOf.render_block.Goals as goal

pub returns-clause-called : goal.returns-clause-called
returns-clause-called g c = λ of.
    let s = c.args.self.now in
    text_done (block_meaning g.O.Parties.stated s.template c.args.name.now s.world) c.run_block.new.self.world untold untold _
    c.in_ok-captures.captures c.end.new.self (is_heard c.in-Some._mode) (string_bytes c.in-Some.text) (search rules)
    (c.in_ok-captures.ensures.ran of) c.in-Some.ensures

pub returns-in_err-begin-clause-streams : goal.returns-in_err-begin-clause-streams
returns-in_err-begin-clause-streams g c =
    let s = c.args.self.now in
    let why = c.in_err-begin.field-0.0 in
    passed c.from_residual.result (λ r. BlockText g.O.Parties.stated s c.args.name.now r s.world) why c.from_residual.ensures.1
    (block_text_none g.O.Parties.stated s c.args.name.now s.world why (ap is_want_of_memory c.in_err-begin.ensures.kind) refl)

pub returns-in_err-captures-clause-streams : goal.returns-in_err-captures-clause-streams
returns-in_err-captures-clause-streams g c =
    let s = c.args.self.now in
    let why = c.in_err-captures.field-0.0 in
    let new = c.run_block.new.self.world in
    let one : c.limit_texts.new.self ≡ new_capture true ∷ [] = search rules in
    passed c.from_residual-in_err-captures.result (λ r. BlockText g.O.Parties.stated s c.args.name.now r new) (error_of why)
    c.from_residual-in_err-captures.ensures.1
    (block_text_failed g.O.Parties.stated s c.args.name.now new c.limit_texts.new.self one why c.in_err-captures.ensures.streams)

pub returns-clause-streams : goal.returns-clause-streams
returns-clause-streams g c =
    let one : c.limit_texts.new.self ≡ new_capture true ∷ [] = search rules in
    block_text_done g.O.Parties.stated c.args.self.now c.args.name.now c.run_block.new.self.world c.limit_texts.new.self one
    c.in_ok-captures.captures c.end.new.self (is_heard c.in-Some._mode) c.in-Some.text (c.in_ok-captures.ensures.closed ∙ ap length one)
    c.in-Some.ensures c.in_ok-captures.ensures.streams
