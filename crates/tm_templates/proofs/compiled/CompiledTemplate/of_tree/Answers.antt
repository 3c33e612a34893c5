use Rattle.std.proofs.Common.{sym, subst}
use Rattle.tm_shapes.specs.Verified.{IsAccepted}
use Rattle.tm_templates.specs.Templates.{AllAccepted}
use Rattle.tm_templates.proofs.Accepted.{tree_blocks, tree_root}
use Rattle.tm_templates.proofs.Ascending.{blocks-ascend}
use Rattle.tm_templates.proofs.compiled.CompiledTemplate.of_tree.Goals as goal

pub of_code-requires-clause-order : goal.of_code-requires-clause-order
of_code-requires-clause-order c = blocks-ascend c.args.tree c.in_ok-streams.streams.blocks c.in_ok-streams.ensures.blocks

pub of_code-requires-clause-root : goal.of_code-requires-clause-root
of_code-requires-clause-root c =
    subst IsAccepted (sym c.in_ok-streams.ensures.root) (tree_root c.the_code_of_trees_is_accepted.ensures c.args.tree)

pub of_code-requires-clause-blocks : goal.of_code-requires-clause-blocks
of_code-requires-clause-blocks c =
    subst AllAccepted (sym c.in_ok-streams.ensures.blocks) (tree_blocks c.the_code_of_trees_is_accepted.ensures c.args.tree)
