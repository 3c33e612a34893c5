use Rattle.std.proofs.Common.{◌∙◌, List, Ok, Result, ap, subst, sym}
use Rattle.tm_values.specs.declared.error.ErrorKind.{ErrorKind}
use Rattle.tm_meaning.specs.World.{World}
use Rattle.tm_parts.specs.Halts.{error_of}
use Rattle.template_machine.specs.Renders.{CapturedValue, IsStreamEnd, StateValue, meaning_from, Rendered, SoundRecords, Streamed}
use Rattle.template_machine.proofs.Answered.{passed, rendered_failed}
use Rattle.template_machine.proofs.StreamRuns.{into_done, into_failed, state_ended}
use Rattle.template_machine.specs.Environment.{TemplateValue}
use Rattle.template_machine.proofs.template.TemplateOf.render_captured_to.Goals as goal

pub returns-in_err-_captures-clause-rendered : goal.returns-in_err-_captures-clause-rendered
returns-in_err-_captures-clause-rendered g c = λ h of.
    let t = c.args.self.now in
    let why = c.in_err-_captures.field-0.0 in
    let told = g.W.Sink.told c.args.writer.now in
    let now = g.W.Sink.told c.run_over.new.writer in
    let Came : Result (CapturedValue (StateValue g.row.O.Denot)) (List ErrorKind) → World → Type 0 =
    λ r w. Rendered t (meaning_from g.O.Parties.stated t w) r told now in
    let came : Came c.from_residual-in_err-_captures.result c.in_ok-first.first =
    passed c.from_residual-in_err-_captures.result (λ r. Came r c.in_ok-first.first) (error_of why) c.from_residual-in_err-_captures.ensures.1
    (rendered_failed (meaning_from g.O.Parties.stated t c.in_ok-first.first) c.run_over.new.state c.within-captures.result c.within-captures.ensures told now t why (c.in_err-_captures.ensures.ran of)) in
    subst (Came c.from_residual-in_err-_captures.result) c.in_ok-first.ensures.state came

pub returns-in_err-_captures-clause-streams : goal.returns-in_err-_captures-clause-streams
returns-in_err-_captures-clause-streams g c = λ h.
    let t = c.args.self.now in
    let why = c.in_err-_captures.field-0.0 in
    let told = g.W.Sink.told c.args.writer.now in
    let now = g.W.Sink.told c.run_over.new.writer in
    let Came : Result (CapturedValue (StateValue g.row.O.Denot)) (List ErrorKind) → World → Type 0 =
    λ r w. Streamed g.O.Parties.stated t w r (IsStreamEnd t r) told now in
    let sound : SoundRecords t c.in_ok-first.first =
    subst (λ (w : World). SoundRecords t w) (sym c.in_ok-first.ensures.state) (λ shapes all. tt) in
    let came : Came c.from_residual-in_err-_captures.result c.in_ok-first.first =
    passed c.from_residual-in_err-_captures.result (λ r. Came r c.in_ok-first.first) (error_of why) c.from_residual-in_err-_captures.ensures.1
    (into_failed g.O.Parties.stated t c.in_ok-first.first c.run_over.new.state c.within-captures.result c.within-captures.ensures told now
    (IsStreamEnd t) (λ chain Ends ends. (c.run_over.new.state, ends)) why (c.in_err-_captures.ensures.streams sound)) in
    subst (Came c.from_residual-in_err-_captures.result) c.in_ok-first.ensures.state came

pub returns-clause-streams : goal.returns-clause-streams
returns-clause-streams g c = λ h.
    let t = c.args.self.now in
    let told = g.W.Sink.told c.args.writer.now in
    let now = g.W.Sink.told c.run_over.new.writer in
    let Captured : Type 0 = CapturedValue (StateValue g.row.O.Denot) in
    let sound : SoundRecords t c.in_ok-first.first =
    subst (λ (w : World). SoundRecords t w) (sym c.in_ok-first.ensures.state) (λ shapes all. tt) in
    subst (λ (w : World). Streamed g.O.Parties.stated t w (Ok c.new-3.result) (IsStreamEnd t (Ok c.new-3.result)) told now) c.in_ok-first.ensures.state
    (into_done g.O.Parties.stated t c.in_ok-first.first c.run_over.new.state c.within-captures.result c.within-captures.ensures told now (IsStreamEnd t)
    c.in_ok-_captures._captures c.new-3.result
    (state_ended t c.rendering.result c.run_over.new.state c.in_ok-_captures._captures c.new-2.result c.new-3.result c.rendering.ensures.same
    c.new-2.ensures (ap (λ (x : Captured). x.output) c.new-3.ensures ∙ c.new.ensures.bytes) (ap (λ (x : Captured). x.state) c.new-3.ensures))
    (c.in_ok-_captures.ensures.streams sound))

pub new-requires-2 : goal.new-requires-2
new-requires-2 g c =
    let t = c.args.self.now in
    let sound : SoundRecords t c.in_ok-first.first =
    subst (λ (w : World). SoundRecords t w) (sym c.in_ok-first.ensures.state) (λ shapes all. tt) in
    subst (λ (r : TemplateValue g.row.O.Denot). SoundRecords r c.run_over.new.state) (sym c.rendering.ensures.same)
    (c.in_ok-_captures.ensures.sound sound)
