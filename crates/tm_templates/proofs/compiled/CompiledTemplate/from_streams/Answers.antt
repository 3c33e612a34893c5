use Rattle.std.proofs.Common.{subst, sym}
use Rattle.tm_scopes.specs.Places.{AreOrdered}
use Rattle.tm_templates.specs.Templates.{given_blocks}
use Rattle.tm_templates.proofs.Ascending.{by_name-ordered}
use Rattle.tm_templates.proofs.compiled.CompiledTemplate.from_streams.Goals as goal

pub of_code-requires-clause-order : goal.of_code-requires-clause-order
of_code-requires-clause-order c =
    subst AreOrdered (sym c.in_ok-blocks.ensures.given) (by_name-ordered (given_blocks c.args.blocks.entries))
