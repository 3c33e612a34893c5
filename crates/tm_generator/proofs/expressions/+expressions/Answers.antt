use Rattle.std.proofs.Common.{◌≡◌, ◌+◌, List, OnOk, refl, sym, ap, subst, ◌∙◌}
use Rattle.std.proofs.lemmas.List.{drop_all}
use Rattle.std.proofs.lemmas.Result.{on_ok_weaker}
use Rattle.tm_trees.specs.Trees.{Comparison, comparisons}
use Rattle.tm_syntax.specs.Code.{expr_code, row_code, unary_code}
use Rattle.tm_generator.specs.Building.{Builder, put}
use Rattle.tm_generator.proofs.PutExpressions.{made-unary, made-chain, made-slice, made-binary, made-compare}
use Rattle.tm_generator.proofs.PutExpressions.{made-call, made-apply, made-call_object}
use Rattle.tm_generator.proofs.PutExpressions.{put_two, made-conditional, next, more-links}
use Rattle.tm_generator.proofs.PutExpressions.{no_more-links}
use Rattle.tm_generator.proofs.PutExpressions.{more-exprs, no_more-exprs, more-pairs, no_more-pairs}
use Rattle.tm_generator.proofs.PutExpressions.{more-steps, no_more-steps}
use Rattle.tm_generator.proofs.Spreading.{put-listed-plain, made-listed, made-named, made-mapped, more-lists, more-list_rows}
use Rattle.tm_generator.proofs.Spreading.{no_more-lists, no_more-list_rows, more-maps, more-map_rows, no_more-maps, no_more-map_rows}
use Rattle.tm_generator.proofs.Opened.{made-passed, made-passed_count}
use Rattle.tm_generator.proofs.Spreading.{if_ok_weaker}
use Rattle.tm_generator.proofs.expressions.+expressions.Goals as goal

pub push_expr-returns-in_ok-push_expr-in-Unary : goal.push_expr-returns-in_ok-push_expr-in-Unary
push_expr-returns-in_ok-push_expr-in-Unary t c =
    rw c.in-Unary.is (on_ok_weaker c.push_unary.result
    (made-unary c.args.code.now c.push_expr.new.code c.push_unary.new.code (unary_code c.in-Unary.operator) c.in-Unary.operator
    c.in-Unary.operand (rw (← c.get.ensures) c.in_ok-push_expr-in-Unary.ensures) refl) c.push_unary.ensures)

pub push_expr-returns-in_ok-push_expr-in-Chain : goal.push_expr-returns-in_ok-push_expr-in-Chain
push_expr-returns-in_ok-push_expr-in-Chain t c =
    rw c.in-Chain.is (on_ok_weaker c.push_steps.result
    (made-chain c.args.code.now c.push_expr-in-Chain.new.code c.push_steps.new.code c.in-Chain.first c.in-Chain.after
    (rw (← c.get-in-Chain.ensures) c.in_ok-push_expr-in-Chain.ensures)) (rw (← c.as_slice-in-Chain.ensures) c.push_steps.ensures))

pub push_conditional-returns : goal.push_conditional-returns
push_conditional-returns t c =
    on_ok_weaker c.push_otherwise.result
    (made-conditional c.args.code.now c.push_tests.new.code c.push_expr.new.code c.push_otherwise.new.code
    c.new-outers.result c.push_tests.new.outers c.args.value.now c.args.conditions.now
    c.in_ok-push_tests.ensures.ok c.new-outers.ensures c.in_ok-push_tests.ensures.outers
    c.in_ok-push_expr.ensures) c.push_otherwise.ensures

pub push_call-returns : goal.push_call-returns
push_call-returns t c =
    on_ok_weaker c.emit.result
    (made-call c.args.code.now c.push_passed.new.code c.emit.new.self c.args.name.now _ c.in_ok-count.count c.args.given.now
    c.args.named.now c.in_ok-count.ensures.ok c.in_ok-count.ensures.count c.in_ok-share.ensures) c.emit.ensures

pub push_applied-returns : goal.push_applied-returns
push_applied-returns t c =
    on_ok_weaker c.push_application.result
    (made-apply c.args.code.now c.push_passed.new.code c.push_application.new.code c.args.application c.args.name.now c.in_ok-count.count
    c.args.given.now c.args.named.now c.in_ok-count.ensures.ok c.in_ok-count.ensures.count) c.push_application.ensures

pub push_called-returns : goal.push_called-returns
push_called-returns t c =
    on_ok_weaker c.emit.result
    (made-call_object c.args.code.now c.push_passed.new.code c.emit.new.self c.in_ok-count.count c.args.given.now c.args.named.now
    c.in_ok-count.ensures.ok c.in_ok-count.ensures.count) c.emit.ensures

pub push_step-returns-in_ok-push_expr-in-Slice-3 : goal.push_step-returns-in_ok-push_expr-in-Slice-3
push_step-returns-in_ok-push_expr-in-Slice-3 t c =
    rw c.in-Slice.is (on_ok_weaker c.push_slice_end.result
    (made-slice c.args.code.now c.push_expr-in-Slice.new.code c.push_expr-in-Slice-2.new.code c.push_expr-in-Slice-3.new.code
    c.push_slice_end.new.code
    c.in-Slice.start c.in-Slice.stop c.in-Slice.step
    (rw (← c.get-in-Slice.ensures) c.in_ok-push_expr-in-Slice.ensures)
    (rw (← c.get-in-Slice-2.ensures) c.in_ok-push_expr-in-Slice-2.ensures)
    (rw (← c.get-in-Slice-3.ensures) c.in_ok-push_expr-in-Slice-3.ensures)) c.push_slice_end.ensures)

pub push_step-returns-in_ok-push_expr-in-Binary : goal.push_step-returns-in_ok-push_expr-in-Binary
push_step-returns-in_ok-push_expr-in-Binary t c =
    rw c.in-Binary.is (on_ok_weaker c.push_binary.result
    (made-binary c.args.code.now c.push_expr-in-Binary.new.code c.push_binary.new.code c.in-Binary.operator c.in-Binary.operand
    (rw (← c.get-in-Binary.ensures) c.in_ok-push_expr-in-Binary.ensures)) c.push_binary.ensures)

pub push_step-returns-in_ok-push_expr-in-Compare : goal.push_step-returns-in_ok-push_expr-in-Compare
push_step-returns-in_ok-push_expr-in-Compare t c =
    rw c.in-Compare.is (on_ok_weaker c.push_comparisons.result
    (made-compare c.args.code.now c.push_expr-in-Compare.new.code c.push_comparisons.new.code c.in-Compare.operator c.in-Compare.right
    c.in-Compare.after
    (rw (← c.get-in-Compare.ensures) c.in_ok-push_expr-in-Compare.ensures))
    (subst (λ (xs : List Comparison). OnOk c.push_comparisons.result (c.push_comparisons.new.code
    ≡ put (row_code c.in-Compare.operator
    (comparisons xs)) c.push_expr-in-Compare.new.code)) c.as_slice-in-Compare.ensures c.push_comparisons.ensures))

pub push_links-loop-comparison-preserved : goal.push_links-loop-comparison-preserved
push_links-loop-comparison-preserved t c =
    more-links _ _ c.comparison-item.result c.loop-comparison.operator c.loop-comparison.code c.emit.new.self c.jump_out.new.self
    c.push_expr.new.code _
    (next c.args.after.now c.loop-comparison.comparison-index c.comparison-item.result c.loop-comparison-test.true c.comparison-item.is)
    c.in_ok-emit.ensures c.in_ok-jump_out.ensures (rw (← c.get.ensures) c.in_ok-push_expr.ensures) c.loop-comparison.invariant

pub push_links-returns : goal.push_links-returns
push_links-returns t c =
    on_ok_weaker c.push_binary.result
    (no_more-links _ c.loop-comparison.operator c.loop-comparison.code c.push_binary.new.code _
    (drop_all c.loop-comparison.comparison-index c.args.after.now c.loop-comparison-test.false) c.loop-comparison.invariant)
    c.push_binary.ensures

pub push_exprs-loop-item-preserved : goal.push_exprs-loop-item-preserved
push_exprs-loop-item-preserved t c =
    more-exprs _ _ c.item-item.result _ _ _
    (next c.args.items.now c.loop-item.item-index c.item-item.result c.loop-item-test.true c.item-item.is) c.in_ok-push_expr.ensures
    c.loop-item.invariant

pub push_exprs-returns : goal.push_exprs-returns
push_exprs-returns t c = no_more-exprs _ _ _
    (drop_all c.loop-item.item-index c.args.items.now c.loop-item-test.false) c.loop-item.invariant

pub push_steps-loop-step-preserved : goal.push_steps-loop-step-preserved
push_steps-loop-step-preserved t c =
    more-steps _ _ c.step-item.result _ _ _
    (next c.args.after.now c.loop-step.step-index c.step-item.result c.loop-step-test.true c.step-item.is) c.in_ok-push_step.ensures
    c.loop-step.invariant

pub push_steps-returns : goal.push_steps-returns
push_steps-returns t c = no_more-steps _ _ _
    (drop_all c.loop-step.step-index c.args.after.now c.loop-step-test.false) c.loop-step.invariant

pub push_pairs-loop-entry-preserved : goal.push_pairs-loop-entry-preserved
push_pairs-loop-entry-preserved t c =
    more-pairs _ _ c.entry-item.result _ _ _
    (next c.args.entries.now c.loop-entry.entry-index c.entry-item.result c.loop-entry-test.true c.entry-item.is)
    (put_two (expr_code c.entry-item.result.key)
    (expr_code c.entry-item.result.value) c.loop-entry.code c.push_expr.new.code c.push_expr-in-loop-entry.new.code
    (rw (← c.get.ensures) c.in_ok-push_expr.ensures)
    (rw (← c.get-in-loop-entry.ensures) c.in_ok-push_expr-2.ensures)) c.loop-entry.invariant

pub push_pairs-returns : goal.push_pairs-returns
push_pairs-returns t c = no_more-pairs _ _ _
    (drop_all c.loop-entry.entry-index c.args.entries.now c.loop-entry-test.false) c.loop-entry.invariant

pub push_listed-returns-in-Plain : goal.push_listed-returns-in-Plain
push_listed-returns-in-Plain t c =
    rw c.in-Plain.is (on_ok_weaker c.push_expr.result
    (λ p. p ∙ ap {B = Builder} (λ x. put (expr_code x) c.args.code.now) c.get.ensures
    ∙ sym (put-listed-plain c.args.code.now c.args.row c.in-Plain.expr)) c.push_expr.ensures)

pub push_listed-returns-in_ok-push_list_of_row-in-Spread : goal.push_listed-returns-in_ok-push_list_of_row-in-Spread
push_listed-returns-in_ok-push_list_of_row-in-Spread t c =
    rw c.in-Spread.is (on_ok_weaker c.push_expr-in-Spread.result
    (made-listed c.args.code.now c.push_list_of_row.new.code c.push_expr-in-Spread.new.code c.args.row c.in-Spread.expr
    c.in_ok-push_list_of_row-in-Spread.ensures) (rw (← c.get-in-Spread.ensures) c.push_expr-in-Spread.ensures))

pub push_keyword-returns-in_ok-push_text-in-Named : goal.push_keyword-returns-in_ok-push_text-in-Named
push_keyword-returns-in_ok-push_text-in-Named t c =
    rw c.in-Named.is (on_ok_weaker c.push_expr.result
    (made-named c.args.code.now c.push_text.new.code c.push_expr.new.code c.args.row c.in-Named.name c.in-Named.value
    c.in_ok-push_text-in-Named.ensures) (rw (← c.get.ensures) c.push_expr.ensures))

pub push_keyword-returns-in_ok-push_map_of_row-in-Spread : goal.push_keyword-returns-in_ok-push_map_of_row-in-Spread
push_keyword-returns-in_ok-push_map_of_row-in-Spread t c =
    rw c.in-Spread.is (on_ok_weaker c.push_expr-in-Spread.result
    (made-mapped c.args.code.now c.push_map_of_row.new.code c.push_expr-in-Spread.new.code c.args.row c.in-Spread.value
    c.in_ok-push_map_of_row-in-Spread.ensures) (rw (← c.get-in-Spread.ensures) c.push_expr-in-Spread.ensures))

pub push_passed-returns-clause-ok : goal.push_passed-returns-clause-ok
push_passed-returns-clause-ok t c =
    on_ok_weaker c.end.result (made-passed c.args.before c.args.given.now c.args.named.now c.in_ok-call.call c.in_ok-call.ensures.call
    c.args.code.now c.push_open.new.code c.end.new.code c.in_ok-call.ensures.ok) c.end.ensures.ok

pub push_passed-returns-clause-count : goal.push_passed-returns-clause-count
push_passed-returns-clause-count t c =
    if_ok_weaker c.end.result (made-passed_count c.args.before c.args.given.now c.args.named.now c.in_ok-call.call
    c.in_ok-call.ensures.call) c.end.ensures.count

pub push_keywords-loop-keyword-preserved : goal.push_keywords-loop-keyword-preserved
push_keywords-loop-keyword-preserved t c =
    let first = next c.args.named.now c.loop-keyword.keyword-index c.keyword-item.result c.loop-keyword-test.true c.keyword-item.is in (
      more-maps _ _ c.keyword-item.result _ _ _ _ _ first c.in_ok-push_keyword.ensures c.in_ok-pending.ensures
          c.loop-keyword.invariant.0,
      more-map_rows _ _ c.keyword-item.result c.loop-keyword.pending c.in_ok-pending.pending c.loop-keyword.ended c.in_ok-ended.ended _ first
          (c.in_ok-ended.ensures ∙ ap (λ n. c.loop-keyword.ended + n) c.maps_at.ensures) c.in_ok-pending.ensures
          c.loop-keyword.invariant.1,
    )

pub push_keywords-returns-clause-ok : goal.push_keywords-returns-clause-ok
push_keywords-returns-clause-ok t c =
    no_more-maps _ c.loop-keyword.pending _ _ (drop_all c.loop-keyword.keyword-index c.args.named.now c.loop-keyword-test.false)
    c.loop-keyword.invariant.0

pub push_keywords-returns-clause-rows : goal.push_keywords-returns-clause-rows
push_keywords-returns-clause-rows t c =
    no_more-map_rows _ c.loop-keyword.pending c.loop-keyword.ended _
    (drop_all c.loop-keyword.keyword-index c.args.named.now c.loop-keyword-test.false) c.loop-keyword.invariant.1

pub push_arguments-loop-argument-preserved : goal.push_arguments-loop-argument-preserved
push_arguments-loop-argument-preserved t c =
    let first = next c.args.given.now c.loop-argument.argument-index c.argument-item.result c.loop-argument-test.true c.argument-item.is in (
      more-lists _ _ c.argument-item.result _ _ _ _ _ first c.in_ok-push_listed.ensures c.in_ok-pending.ensures
          c.loop-argument.invariant.0,
      more-list_rows _ _ c.argument-item.result c.loop-argument.pending c.in_ok-pending.pending c.loop-argument.ended c.in_ok-ended.ended _ first
          (c.in_ok-ended.ensures ∙ ap (λ n. c.loop-argument.ended + n) c.lists_at.ensures) c.in_ok-pending.ensures
          c.loop-argument.invariant.1,
    )

pub push_arguments-returns-clause-ok : goal.push_arguments-returns-clause-ok
push_arguments-returns-clause-ok t c =
    no_more-lists _ c.loop-argument.pending _ _ (drop_all c.loop-argument.argument-index c.args.given.now c.loop-argument-test.false)
    c.loop-argument.invariant.0

pub push_arguments-returns-clause-rows : goal.push_arguments-returns-clause-rows
push_arguments-returns-clause-rows t c =
    no_more-list_rows _ c.loop-argument.pending c.loop-argument.ended _
    (drop_all c.loop-argument.argument-index c.args.given.now c.loop-argument-test.false) c.loop-argument.invariant.1
