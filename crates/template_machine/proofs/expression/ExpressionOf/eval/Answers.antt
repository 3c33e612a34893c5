use Rattle.std.proofs.Common.{◌≡◌, rules, subst, sym}
use Rattle.tm_meaning.specs.World.{World}
use Rattle.template_machine.specs.Environment.{TemplateValue}
use Rattle.template_machine.specs.Renders.{SoundRecords, StreamValue, first}
use Rattle.template_machine.proofs.expression.ExpressionOf.eval.Goals as goal

pub returns-clause-streams : goal.returns-clause-streams
returns-clause-streams g c = λ h.
    let t = c.args.self.now in
    let r = c.new-rendering.result in
    let same : r ≡ t = search rules in
    let state_is : c.in_ok-state.state ≡ first g.O.Parties.stated t c.args.ids.now c.args.context = search rules in
    let sound : SoundRecords r c.in_ok-state.state =
    subst (λ (w : World). SoundRecords r w) (sym state_is) (λ shapes all. tt) in
    subst (λ (w : World). StreamValue g.O.Parties.stated t w c.evaluate.result) state_is
    (subst (λ (x : TemplateValue g.row.O.Denot). StreamValue g.O.Parties.stated x c.in_ok-state.state c.evaluate.result) same
    (c.evaluate.ensures.streams sound))
