use Rattle.template_machine.proofs.Walked.{left}
use Rattle.template_machine.proofs.entries.GlobalsIterator.next.Goals as goal

pub returns-clause-steps : goal.returns-clause-steps
returns-clause-steps c =
    left c.self.inside.globals.now c.args.self.now c.self.inside.place (c.at.result.0.now, c.at.result.1.now) c.self.view_is c.at.ensures
