use Rattle.std.proofs.Common.{subst}
use Rattle.tm_shapes.specs.Verified.{IsAccepted}
use Rattle.tm_templates.specs.Templates.{AllAccepted}
use Rattle.tm_templates.proofs.Accepted.{parts_accepted}
use Rattle.tm_templates.proofs.compiled.CompiledTemplate.accepted.Goals as goal

pub returns : goal.returns
returns c =
    parts_accepted c.args.self.now (subst (λ t. IsAccepted t.root) c.self.view_is c.self.invariant.root_accepted)
    (subst (λ t. AllAccepted t.blocks) c.self.view_is c.self.invariant.blocks_accepted)
