use Rattle.std.proofs.Common.{◌∙◌, sym}
use Rattle.std.proofs.lemmas.List.{drop_all}
use Rattle.std.proofs.lemmas.Result.{on_ok_weaker}
use Rattle.tm_names.proofs.Forms.{walk-unary, walk-named, walk-binary, made-chain, made-conditional, made-compare, made-slice, two, next}
use Rattle.tm_names.proofs.Forms.{more-exprs, no_more-exprs, more-pairs, no_more-pairs, more-arguments, no_more-arguments, more-keywords}
use Rattle.tm_names.proofs.Forms.{no_more-keywords, more-conditions, no_more-conditions, more-comparisons, no_more-comparisons, more-steps}
use Rattle.tm_names.proofs.Forms.{no_more-steps}
use Rattle.tm_names.proofs.walker.Walker.+expressions.Goals as goal

pub walk_expr-returns-in-Unary : goal.walk_expr-returns-in-Unary
walk_expr-returns-in-Unary t c =
    rw c.in-Unary.is (on_ok_weaker c.walk_expr.result (λ p. p ∙ sym (walk-unary c.args.nested c.in-Unary.field-0 c.in-Unary.operand c.args.self.now))
    (rw (← c.get.ensures) c.walk_expr.ensures))

pub walk_expr-returns-in_ok-walk_first-in-Chain : goal.walk_expr-returns-in_ok-walk_first-in-Chain
walk_expr-returns-in_ok-walk_first-in-Chain t c =
    rw c.in-Chain.is (on_ok_weaker c.walk_steps.result
    (made-chain c.args.nested c.in-Chain.first c.in-Chain.after c.args.self.now c.walk_first.new.self c.walk_steps.new.self
    (rw (← c.as_slice-after.ensures, ← c.get-in-Chain.ensures) c.in_ok-walk_first-in-Chain.ensures))
    (rw (← c.as_slice-after.ensures) c.walk_steps.ensures))

pub walk_expr-returns-in_ok-walk_expr-in-Conditional : goal.walk_expr-returns-in_ok-walk_expr-in-Conditional
walk_expr-returns-in_ok-walk_expr-in-Conditional t c =
    rw c.in-Conditional.is (on_ok_weaker c.walk_conditions.result
    (made-conditional c.args.nested c.in-Conditional.value c.in-Conditional.conditions c.args.self.now c.walk_expr-in-Conditional.new.self
    c.walk_conditions.new.self (rw (← c.get-in-Conditional.ensures) c.in_ok-walk_expr-in-Conditional.ensures))
    (rw (← c.as_slice-in-Conditional.ensures) c.walk_conditions.ensures))

pub walk_keyword-returns-in-Named : goal.walk_keyword-returns-in-Named
walk_keyword-returns-in-Named t c =
    rw c.in-Named.is (on_ok_weaker c.walk_expr.result (λ p. p ∙ sym (walk-named c.args.nested c.in-Named.field-0 c.in-Named.value c.args.self.now))
    (rw (← c.get.ensures) c.walk_expr.ensures))

pub walk_step-returns-in_ok-walk_expr-in-Slice-2 : goal.walk_step-returns-in_ok-walk_expr-in-Slice-2
walk_step-returns-in_ok-walk_expr-in-Slice-2 t c =
    rw c.in-Slice.is (on_ok_weaker c.walk_expr-in-Slice-3.result
    (made-slice c.args.nested c.in-Slice.start c.in-Slice.stop c.in-Slice.step c.args.self.now c.walk_expr-in-Slice.new.self
    c.walk_expr-in-Slice-2.new.self c.walk_expr-in-Slice-3.new.self
    (rw (← c.get-in-Slice.ensures) c.in_ok-walk_expr-in-Slice.ensures)
    (rw (← c.get-in-Slice-2.ensures) c.in_ok-walk_expr-in-Slice-2.ensures))
    (rw (← c.get-in-Slice-3.ensures) c.walk_expr-in-Slice-3.ensures))

pub walk_step-returns-in-Binary : goal.walk_step-returns-in-Binary
walk_step-returns-in-Binary t c =
    rw c.in-Binary.is (on_ok_weaker c.walk_expr-in-Binary.result
    (λ p. p ∙ sym (walk-binary c.args.nested c.in-Binary.field-0 c.in-Binary.right c.args.self.now))
    (rw (← c.get-in-Binary.ensures) c.walk_expr-in-Binary.ensures))

pub walk_step-returns-in_ok-walk_expr-in-Compare : goal.walk_step-returns-in_ok-walk_expr-in-Compare
walk_step-returns-in_ok-walk_expr-in-Compare t c =
    rw c.in-Compare.is (on_ok_weaker c.walk_comparisons.result
    (made-compare c.args.nested c.in-Compare.field-0 c.in-Compare.right c.in-Compare.after c.args.self.now c.walk_expr-in-Compare.new.self
    c.walk_comparisons.new.self (rw (← c.get-in-Compare.ensures) c.in_ok-walk_expr-in-Compare.ensures))
    (rw (← c.as_slice-in-Compare.ensures) c.walk_comparisons.ensures))

pub walk_exprs-loop-item-preserved : goal.walk_exprs-loop-item-preserved
walk_exprs-loop-item-preserved t c =
    more-exprs c.args.nested _ _ c.item-item.result _ _ _
    (next c.args.items.now c.loop-item.item-index c.item-item.result c.loop-item-test.true c.item-item.is)
    c.in_ok-walk_expr.ensures c.loop-item.invariant

pub walk_exprs-returns : goal.walk_exprs-returns
walk_exprs-returns t c =
    no_more-exprs c.args.nested _ _ _ (drop_all c.loop-item.item-index c.args.items.now c.loop-item-test.false) c.loop-item.invariant

pub walk_pairs-loop-entry-preserved : goal.walk_pairs-loop-entry-preserved
walk_pairs-loop-entry-preserved t c =
    more-pairs c.args.nested _ _ c.entry-item.result _ _ _
    (next c.args.entries.now c.loop-entry.entry-index c.entry-item.result c.loop-entry-test.true c.entry-item.is)
    (two c.args.nested c.entry-item.result.key c.entry-item.result.value c.loop-entry.self c.walk_expr.new.self c.walk_expr-in-loop-entry.new.self
    (rw (← c.get.ensures) c.in_ok-walk_expr.ensures) (rw (← c.get-in-loop-entry.ensures) c.in_ok-walk_expr-2.ensures)) c.loop-entry.invariant

pub walk_pairs-returns : goal.walk_pairs-returns
walk_pairs-returns t c =
    no_more-pairs c.args.nested _ _ _ (drop_all c.loop-entry.entry-index c.args.entries.now c.loop-entry-test.false) c.loop-entry.invariant

pub walk_arguments-loop-argument-preserved : goal.walk_arguments-loop-argument-preserved
walk_arguments-loop-argument-preserved t c =
    more-arguments c.args.nested _ _ c.argument-item.result _ _ _
    (next c.args.given.now c.loop-argument.argument-index c.argument-item.result c.loop-argument-test.true c.argument-item.is)
    c.in_ok-walk_argument.ensures c.loop-argument.invariant

pub walk_arguments-returns : goal.walk_arguments-returns
walk_arguments-returns t c =
    no_more-arguments c.args.nested _ _ _ (drop_all c.loop-argument.argument-index c.args.given.now c.loop-argument-test.false) c.loop-argument.invariant

pub walk_keywords-loop-keyword-preserved : goal.walk_keywords-loop-keyword-preserved
walk_keywords-loop-keyword-preserved t c =
    more-keywords c.args.nested _ _ c.keyword-item.result _ _ _
    (next c.args.named.now c.loop-keyword.keyword-index c.keyword-item.result c.loop-keyword-test.true c.keyword-item.is)
    c.in_ok-walk_keyword.ensures c.loop-keyword.invariant

pub walk_keywords-returns : goal.walk_keywords-returns
walk_keywords-returns t c =
    no_more-keywords c.args.nested _ _ _ (drop_all c.loop-keyword.keyword-index c.args.named.now c.loop-keyword-test.false) c.loop-keyword.invariant

pub walk_conditions-loop-condition-preserved : goal.walk_conditions-loop-condition-preserved
walk_conditions-loop-condition-preserved t c =
    more-conditions c.args.nested _ _ c.condition-item.result _ _ _
    (next c.args.asked.now c.loop-condition.condition-index c.condition-item.result c.loop-condition-test.true c.condition-item.is)
    (two c.args.nested c.condition-item.result.test c.condition-item.result.otherwise c.loop-condition.self c.walk_expr.new.self c.walk_expr-in-loop-condition.new.self
    (rw (← c.get.ensures) c.in_ok-walk_expr.ensures) (rw (← c.get-in-loop-condition.ensures) c.in_ok-walk_expr-2.ensures)) c.loop-condition.invariant

pub walk_conditions-returns : goal.walk_conditions-returns
walk_conditions-returns t c =
    no_more-conditions c.args.nested _ _ _ (drop_all c.loop-condition.condition-index c.args.asked.now c.loop-condition-test.false) c.loop-condition.invariant

pub walk_comparisons-loop-comparison-preserved : goal.walk_comparisons-loop-comparison-preserved
walk_comparisons-loop-comparison-preserved t c =
    more-comparisons c.args.nested _ _ c.comparison-item.result _ _ _
    (next c.args.after.now c.loop-comparison.comparison-index c.comparison-item.result c.loop-comparison-test.true c.comparison-item.is)
    (rw (← c.get.ensures) c.in_ok-walk_expr.ensures) c.loop-comparison.invariant

pub walk_comparisons-returns : goal.walk_comparisons-returns
walk_comparisons-returns t c =
    no_more-comparisons c.args.nested _ _ _ (drop_all c.loop-comparison.comparison-index c.args.after.now c.loop-comparison-test.false) c.loop-comparison.invariant

pub walk_steps-loop-step-preserved : goal.walk_steps-loop-step-preserved
walk_steps-loop-step-preserved t c =
    more-steps c.args.nested _ _ c.step-item.result _ _ _
    (next c.args.after.now c.loop-step.step-index c.step-item.result c.loop-step-test.true c.step-item.is)
    c.in_ok-walk_step.ensures c.loop-step.invariant

pub walk_steps-returns : goal.walk_steps-returns
walk_steps-returns t c =
    no_more-steps c.args.nested _ _ _ (drop_all c.loop-step.step-index c.args.after.now c.loop-step-test.false) c.loop-step.invariant
