use Rattle.std.proofs.Common.{◌∙◌, sym}
use Rattle.std.proofs.lemmas.Result.{on_ok_weaker}
use Rattle.tm_generator.proofs.Opened.{chain-put, chain-call}
use Rattle.tm_generator.proofs.Spreading.{if_ok_weaker}
use Rattle.tm_generator.proofs.calls.push_call_open.Goals as goal

pub returns-in_ok-push_expr-in-Chain-clause-ok : goal.returns-in_ok-push_expr-in-Chain-clause-ok
returns-in_ok-push_expr-in-Chain-clause-ok c =
    rw c.in-Chain.is (on_ok_weaker c.push_steps_open.result
    (chain-put c.args.code.now c.push_expr.new.code c.push_steps_open.new.code c.in-Chain.first c.in-Chain.after
    (rw (← c.get.ensures) c.in_ok-push_expr-in-Chain.ensures))
    (rw (← c.as_slice-in-Chain.ensures) c.push_steps_open.ensures.ok))

pub returns-in_ok-push_expr-in-Chain-clause-call : goal.returns-in_ok-push_expr-in-Chain-clause-call
returns-in_ok-push_expr-in-Chain-clause-call c =
    rw c.in-Chain.is (if_ok_weaker c.push_steps_open.result
    (λ call p. p ∙ sym (chain-call c.in-Chain.first c.in-Chain.after))
    (rw (← c.as_slice-in-Chain.ensures) c.push_steps_open.ensures.call))
