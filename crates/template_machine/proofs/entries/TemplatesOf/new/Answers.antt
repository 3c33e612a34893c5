use Rattle.std.proofs.Common.{subst}
use Rattle.tm_templates.specs.Templates.{AreFoundIn}
use Rattle.template_machine.proofs.entries.TemplatesOf.new.Goals as goal

pub invariant_of-result : goal.invariant_of-result
invariant_of-result g c = subst (λ ts. AreFoundIn ts c.iter.result) c.compiled_templates.ensures c.iter.ensures.found
