use Rattle.template_machine.proofs.Walked.{first_found}
use Rattle.template_machine.proofs.entries.TemplatesOfIterator.next.Goals as goal

pub new-template-requires : goal.new-template-requires
new-template-requires g c =
    (first_found c.self.inside.environment.now.templates c.self.inside.entries c.next.new.self
    (c.in_ok-name.name.now, c.in_ok-name.compiled.now) c.in_ok-name.ensures.steps c.self.invariant).0

pub invariant_of-self-2 : goal.invariant_of-self-2
invariant_of-self-2 g c =
    (first_found c.self.inside.environment.now.templates c.self.inside.entries c.next.new.self
    (c.in_ok-name.name.now, c.in_ok-name.compiled.now) c.in_ok-name.ensures.steps c.self.invariant).1
