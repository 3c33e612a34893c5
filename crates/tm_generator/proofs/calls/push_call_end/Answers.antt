use Rattle.std.proofs.Common.{◌∙◌, ap, sym}
use Rattle.std.proofs.lemmas.Result.{on_ok_weaker}
use Rattle.tm_syntax.specs.Code.{row_end}
use Rattle.tm_syntax.specs.Fragments.{straight}
use Rattle.tm_trees.specs.Trees.{steps}
use Rattle.tm_generator.specs.Building.{Builder, put}
use Rattle.tm_generator.specs.Opened.{steps_end, ending, ending_count}
use Rattle.tm_generator.proofs.Opened.{chain-end}
use Rattle.tm_generator.proofs.calls.push_call_end.Goals as goal

pub returns-in-Chain : goal.returns-in-Chain
returns-in-Chain c =
    rw c.in-Chain.is (on_ok_weaker c.push_steps_end.result
    (λ p. p ∙ ap {B = Builder} (λ n. put (straight (steps_end (steps c.in-Chain.after) n)) c.end.new.code) c.in_ok-count.ensures.count
    ∙ ap {B = Builder} (λ m. put (straight (steps_end (steps c.in-Chain.after) (ending_count row_end c.args.passed.now))) m)
    c.in_ok-count.ensures.ok
    ∙ ap {B = Builder} (λ is. put (straight is) (put (ending row_end c.args.passed.now) c.args.code.now)) (sym (chain-end c.in-Chain.field-0 c.in-Chain.after (ending_count row_end c.args.passed.now))))
    (rw (← c.as_slice.ensures) c.push_steps_end.ensures))
