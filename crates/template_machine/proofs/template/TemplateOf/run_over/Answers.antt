use Rattle.std.proofs.Common.{subst, sym}
use Rattle.template_machine.specs.Environment.{IsOfTrees, TemplateValue}
use Rattle.template_machine.specs.Renders.{meaning_from, Ran, SoundRecords, StreamRan}
use Rattle.template_machine.proofs.template.TemplateOf.run_over.Goals as goal

pub returns-clause-ran : goal.returns-clause-ran
returns-clause-ran g c = λ of.
    subst (λ (t : TemplateValue g.row.O.Denot). Ran (meaning_from g.O.Parties.stated t c.args.state.now) c.run-2.result c.run-2.new.state
    c.args.captures (g.W.Sink.told c.args.writer.now) (g.W.Sink.told c.run-2.new.writer)) c.rendering.ensures.same
    (c.run-2.ensures.ran (subst (λ (t : TemplateValue g.row.O.Denot). IsOfTrees t) (sym c.rendering.ensures.same) of))

pub returns-clause-streams : goal.returns-clause-streams
returns-clause-streams g c = λ sound.
    subst (λ (t : TemplateValue g.row.O.Denot). StreamRan g.O.Parties.stated t c.args.state.now c.run-2.result c.run-2.new.state
    c.args.captures (g.W.Sink.told c.args.writer.now) (g.W.Sink.told c.run-2.new.writer)) c.rendering.ensures.same
    (c.run-2.ensures.streams
    (subst (λ (t : TemplateValue g.row.O.Denot). SoundRecords t c.args.state.now) (sym c.rendering.ensures.same) sound))

pub returns-clause-sound : goal.returns-clause-sound
returns-clause-sound g c = λ sound.
    subst (λ (t : TemplateValue g.row.O.Denot). SoundRecords t c.run-2.new.state) c.rendering.ensures.same
    (c.run-2.ensures.sound (subst (λ (t : TemplateValue g.row.O.Denot). SoundRecords t c.args.state.now) (sym c.rendering.ensures.same) sound))
