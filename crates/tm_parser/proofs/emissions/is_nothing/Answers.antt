use Rattle.std.proofs.Common.{sym, ap, ◌∙◌, ◌&&◌}
use Rattle.tm_parser.specs.Statements.{are_unnamed}
use Rattle.tm_trees.specs.Trees.{keywords as row_of_keywords}
use Rattle.tm_parser.proofs.Calls.{none-is, unnamed-is}
use Rattle.tm_parser.proofs.emissions.is_nothing.Goals as goal

pub returns-then-is_empty : goal.returns-then-is_empty
returns-then-is_empty c =
    c.is_empty-then-is_empty.ensures ∙ sym (unnamed-is c.args.named.now) ∙ sym (ap (λ b. b && are_unnamed (row_of_keywords c.args.named.now))
    (none-is c.args.given.now ∙ sym c.is_empty.ensures ∙ c.if-is_empty.true))
