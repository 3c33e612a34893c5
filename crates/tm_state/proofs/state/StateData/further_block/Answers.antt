use Rattle.std.proofs.Common.{rules}
use Rattle.tm_meaning.specs.Calls.{deeper, enter_block, from_deeper}
use Rattle.tm_state.specs.Answers.{NeedsPlain}
use Rattle.tm_state.proofs.Answered.{handed}
use Rattle.tm_state.proofs.state.StateData.further_block.Goals as goal

pub returns-clause-ok : goal.returns-clause-ok
returns-clause-ok g c =
    let asked = from_deeper c.args.self.now
    (enter_block (g.H.Host.program c.args.host.now).host c.args.name.now (deeper c.args.levels c.args.self.now)) in
    handed c.boxed.result _ c.enter_deeper.new.self c.boxed.new.self (λ e w. NeedsPlain c.args.test e asked w) c.boxed.ensures.ok
    c.boxed.ensures.stays (search rules)
