use Rattle.std.proofs.Common.{◌≡◌, ◌∙◌, ap, refl, rules, subst, sym, true}
use Rattle.std.proofs.lemmas.List.{drop_all}
use Rattle.std.proofs.lemmas.Result.{on_ok_weaker}
use Rattle.tm_syntax.specs.Blocks.{body_of, statements as of_statements}
use Rattle.tm_syntax.specs.CacheNumbers.{numbered}
use Rattle.tm_syntax.specs.Code.{stream_code}
use Rattle.tm_trees.specs.Trees.{statements}
use Rattle.tm_shapes.specs.Accepts.{accepts}
use Rattle.tm_shapes.specs.declared.kind.Form.TheVariants.{Template}
use Rattle.tm_generator.proofs.PutExpressions.{next}
use Rattle.tm_generator.proofs.PutStatements.{more-statements, no_more-statements, made-stream, for-else-blocks, block-blocks}
use Rattle.tm_generator.proofs.PutStatements.{made-if, made-call_block, declared-is}
use Rattle.tm_generator.proofs.Spreading.{if_ok_weaker}
use Rattle.tm_generator.proofs.statements.+statements.Goals as goal

pub push_if-returns : goal.push_if-returns
push_if-returns t c =
    rw c.in-Some.is (made-if c.args.stream.now c.push_statements.new.stream c.push_statements-2.new.stream c.args.condition.now
    c.args.body.now c.in-Some.other c.push_expr.new.code c.begin-outer.new.self c.jump_out.new.self c.second.new.self c.join.new.self
    c.begin-outer.result c.in_ok-over.over c.in_ok-push_expr.ensures c.begin-outer.ensures.outer c.begin-outer.ensures.code
    c.in_ok-jump_out.ensures c.in_ok-push_statements.ensures c.in_ok-over.ensures.place c.in_ok-over.ensures.ok
    (rw (← c.as_slice.ensures) c.in_ok-push_statements-2.ensures) c.join.ensures)

pub push_for-returns : goal.push_for-returns
push_for-returns t c =
    rw (for-else-blocks c.args.for_loop.now c.in-Some.other c.args.stream.now.blocks c.in-Some.is) (search rules)

pub push_call_of_block-returns : goal.push_call_of_block-returns
push_call_of_block-returns t c =
    rw (block-blocks c.args.name.now c.args.required c.args.body.now c.args.stream.now.blocks) (search rules)

pub push_call_block-returns : goal.push_call_block-returns
push_call_block-returns t c =
    on_ok_weaker c.emit.result
    (made-call_block c.args.stream.now c.push_declared.new.stream c.args.tag.now c.in_ok-open.open c.add_name.new.self c.in_ok-name.name
    c.push_call_open.new.code c.push_caller.new.code c.push_call_end.new.code c.emit.new.self
    (rw (← c.get-call.ensures) c.in_ok-open.ensures.ok) (rw (← c.get-call.ensures) c.in_ok-open.ensures.call) c.in_ok-name.ensures.ok
    c.in_ok-name.ensures.name
    (c.in_ok-push_declared.ensures
    ∙ declared-is c.in_ok-name.name _ _ c.args.tag.now _ c.as_slice-parameters.ensures c.as_slice.ensures)
    c.in_ok-add_name.ensures (rw (← c.get-call.ensures) c.in_ok-push_call_end.ensures)) c.emit.ensures

pub push_statements-loop-statement-preserved : goal.push_statements-loop-statement-preserved
push_statements-loop-statement-preserved t c =
    let left = next c.args.body.now c.loop-statement.statement-index c.statement-item.result c.loop-statement-test.true c.statement-item.is
    in
    let same = c.loop-statement.invariant.0 in (
      ap (λ s. s.enclosing) c.in_ok-push_statement.ensures ∙ same,
      more-statements c.args.stream.now.enclosing c.loop-statement.stream.enclosing _ _ c.statement-item.result _ _ _ left same
          c.in_ok-push_statement.ensures c.loop-statement.invariant.1,
    )

pub push_statements-returns : goal.push_statements-returns
push_statements-returns t c =
    no_more-statements c.args.stream.now.enclosing _ _ _
    (drop_all c.loop-statement.statement-index c.args.body.now c.loop-statement-test.false) c.loop-statement.invariant.1

pub stream-new-requires-4 : goal.stream-new-requires-4
stream-new-requires-4 t c =
    let same = c.in_ok-number_caches.ensures ∙ ap numbered (c.finish-instructions.ensures
    ∙ made-stream c.new.result _ c.push_statements.new.stream c.args.body.now refl (ap (λ b. b.code) c.new.ensures)
    (ap (λ b. b.outs) c.new.ensures) (ap (λ b. b.exits) c.new.ensures) c.new-2.ensures c.in_ok-push_statements.ensures) in
    subst (λ code. accepts Template code ≡ true) (sym same)
    (c.the_code_of_trees_is_accepted.ensures (of_statements (body_of (statements c.args.body.now))))

pub stream-returns-clause-code : goal.stream-returns-clause-code
stream-returns-clause-code t c =
    let numbers = c.in_ok-number_caches.ensures ∙ ap numbered (c.finish-instructions.ensures
    ∙ made-stream c.new.result _ c.push_statements.new.stream c.args.body.now refl (ap (λ b. b.code) c.new.ensures)
    (ap (λ b. b.outs) c.new.ensures) (ap (λ b. b.exits) c.new.ensures) c.new-2.ensures c.in_ok-push_statements.ensures) in
    if_ok_weaker c.new-4.result {Q = λ code. code ≡ stream_code (statements c.args.body.now)} (λ code made. made ∙ numbers) c.new-4.ensures
