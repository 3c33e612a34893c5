use Rattle.std.proofs.Common.{false, sym, ap, ◌∙◌}
use Rattle.tm_parser.specs.Statements as spec
use Rattle.tm_trees.specs.Trees.{steps as row_of_steps}
use Rattle.tm_parser.proofs.Calls.{is_call_of_chain}
use Rattle.tm_parser.proofs.emissions.is_call.Goals as goal

pub returns-in-Chain : goal.returns-in-Chain
returns-in-Chain c =
    rw c.in-Chain.is (c.ends_in_call.ensures ∙ ap (λ ss. spec.last_calls false (row_of_steps ss)) c.as_slice.ensures ∙ sym
    (is_call_of_chain _ _))
