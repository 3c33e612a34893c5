use Rattle.std.proofs.Common.{ap, inl, subst, sym}
use Rattle.tm_meaning.specs.Memory.{is_want_of_memory}
use Rattle.tm_meaning.specs.World.{World}
use Rattle.template_machine.specs.Renders.{first, meaning_from, RenderedText, SoundRecords, StreamCaptured, text_streamed}
use Rattle.template_machine.proofs.Answered.{passed, text_of_captured}
use Rattle.template_machine.proofs.template.TemplateOf.render.Goals as goal

pub returns-clause-rendered : goal.returns-clause-rendered
returns-clause-rendered g c = λ h of.
    let t = c.args.self.now in
    subst (λ (w : World). RenderedText (meaning_from g.O.Parties.stated t w) c.run_in_capture.result) c.in_ok-state.ensures.state
    (text_of_captured (meaning_from g.O.Parties.stated t c.in_ok-state.state) c.run_in_capture.new.state c.run_in_capture.result
    (c.run_in_capture.ensures.captured of))

pub returns-clause-streams : goal.returns-clause-streams
returns-clause-streams g c = λ h.
    let t = c.args.self.now in
    let sound : SoundRecords t c.in_ok-state.state =
    subst (λ (w : World). SoundRecords t w) (sym c.in_ok-state.ensures.state) (λ shapes all. tt) in
    text_streamed c.run_in_capture.new.state
    (subst (λ (w : World). StreamCaptured g.O.Parties.stated t w c.run_in_capture.result c.run_in_capture.new.state) c.in_ok-state.ensures.state
    (c.run_in_capture.ensures.streams sound))

pub returns-in_err-state-clause-streams : goal.returns-in_err-state-clause-streams
returns-in_err-state-clause-streams g c = λ h.
    let w : World = first g.O.Parties.stated c.args.self.now c.args.ids.now c.args.context in
    text_streamed w
    (passed c.from_residual.result (λ r. StreamCaptured g.O.Parties.stated c.args.self.now w r w) c.in_err-state.field-0.0
    c.from_residual.ensures.1 (inl (ap is_want_of_memory (c.in_err-state.ensures.memory h))))
