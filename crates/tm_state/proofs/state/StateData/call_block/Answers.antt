use Rattle.std.proofs.Common.{◌∙◌, ap, refl, subst, sym}
use Rattle.tm_meaning.specs.Calls.{enter_block}
use Rattle.tm_state.specs.Answers.{NeedsRun}
use Rattle.tm_state.specs.State.{runs_block}
use Rattle.tm_state.proofs.state.StateData.call_block.Goals as goal

pub returns-clause-called : goal.returns-clause-called
returns-clause-called g c =
    let asked = enter_block (g.H.Host.program c.args.host.now).host c.args.name.now c.args.self.now in
    let entered = c.in_ok-stream.ensures.ok in
    subst (λ e. NeedsRun e asked c.boxed.new.self) (sym c.in_ok-boxed.ensures.ok) (
      refl,
      refl,
      refl,
      (c.args.self.now, entered.0, entered.1 ∙ ap (runs_block c.in_ok-stream.stream c.args.self.now) (sym c.in_ok-boxed.ensures.stays)),
    )
