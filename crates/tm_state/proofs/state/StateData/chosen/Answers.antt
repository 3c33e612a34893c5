use Rattle.tm_state.proofs.Included.{only_one}
use Rattle.tm_state.proofs.state.StateData.chosen.Goals as goal

pub returns-in-Some-clause-ok : goal.returns-in-Some-clause-ok
returns-in-Some-clause-ok g c =
    only_one (g.H.Host.program c.args.host.now).host c.args.value.now c.args.self.now c.in-Some.name.now c.in_ok-named.field-0 c.in-Some.ensures
    c.in_ok-named.ensures.ok
