use Rattle.std.proofs.Common.{◌∙◌, sym, ap}
use Rattle.tm_values.specs.Defined.{refusal_of}
use Rattle.tm_values.specs.declared.undefined.UndefinedUse.TheVariants.{Emission}
use Rattle.tm_state.proofs.Formatted.{by_default, no_refusal}
use Rattle.tm_state.proofs.state.StateData.format.Goals as goal

pub returns-in-None : goal.returns-in-None
returns-in-None g c =
    let defined = ap (λ b. refusal_of b Emission c.args.value.now) (sym c.undefined_behavior.ensures)
    ∙ no_refusal _ _ c.in_ok-check_defined.ensures in
    by_default (g.H.Host.program c.args.host.now).host c.args.value.now c.args.self.now c.emission_text.result
    (c.objects.ensures.formatter ∙ c.in-None.ensures)
    defined (rw c.escape.ensures at c.emission_text.ensures)
