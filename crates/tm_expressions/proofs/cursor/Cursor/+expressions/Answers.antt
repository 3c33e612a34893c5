use Rattle.std.proofs.Common.{ap, subst, sym, ◌∙◌, rules}
use Rattle.std.proofs.lemmas.Result.{err_from_is_err_and}
use Rattle.tm_syntax.specs.declared.token.Sign.TheVariants as sign
use Rattle.tm_grammar.specs.Combinators.{first}
use Rattle.tm_expressions.specs.Grammar.{inside, steps_from, conditions_from, step, condition}
use Rattle.tm_expressions.specs.Tokens.{is, link, postfix_level}
use Rattle.tm_expressions.specs.Grammar.{operand, pair}
use Rattle.tm_expressions.proofs.Loops.{goes_on, comes_nearer, refuses, ends, comma_comes_nearer, comma_refuses, passed_comes_nearer}
use Rattle.tm_expressions.proofs.Loops.{passed_refuses, because}
use Rattle.tm_expressions.proofs.Levels.{ends_climb}
use Rattle.tm_expressions.proofs.Waiting.{none_waits, postfix_climbs, postfix_fails, postfix_no_more, right_no_more}
use Rattle.tm_expressions.specs.Waiting.{AllAbove}
use Rattle.tm_expressions.proofs.cursor.Cursor.+expressions.Goals as goal

pub steps-loop-link-init : goal.steps-loop-link-init
steps-loop-link-init t c = ap (λ xs. (steps_from (inside c.args.depth) (operand (inside c.args.depth) postfix_level) postfix_level xs).reads
    c.args.self.now) c.new-steps.ensures

pub steps-loop-link-preserved : goal.steps-loop-link-preserved
steps-loop-link-preserved t c =
    goes_on (link postfix_level) (step (inside c.args.depth) (operand (inside c.args.depth) postfix_level) postfix_level) _ _ _ _ _ _ _
    c.loop-link.invariant c.in-Some.ensures.first c.in_ok-one_step.ensures

pub steps-loop-link-smaller : goal.steps-loop-link-smaller
steps-loop-link-smaller t c =
    comes_nearer (link postfix_level) (step (inside c.args.depth) (operand (inside c.args.depth) postfix_level) postfix_level) _ _ _ _ _ _
    c.in-Some.ensures.first c.in_ok-one_step.ensures

pub steps-returns-in_err-one_step : goal.steps-returns-in_err-one_step
steps-returns-in_err-one_step t c =
    let p = err_from_is_err_and c.from_residual.result c.from_residual.ensures.1 in
    rw (p.1, p.2) (refuses (link postfix_level) (step (inside c.args.depth) (operand (inside c.args.depth) postfix_level) postfix_level) _ _
    _ _ _ _ c.loop-link.invariant c.in-Some.ensures.first c.in_err-one_step.ensures)

pub steps-returns : goal.steps-returns
steps-returns t c = ends (link postfix_level) (step (inside c.args.depth) (operand (inside c.args.depth) postfix_level) postfix_level) _ _ _
    _ c.loop-link.invariant c.in_default.ensures.first

pub more_passed-loop-alloc-smaller : goal.more_passed-loop-alloc-smaller
more_passed-loop-alloc-smaller t c = passed_comes_nearer (inside c.args.depth) _ _ _ _ _ c.loop-alloc-test.ensures c.in_ok-one_passed.ensures

pub more_passed-returns-in_err-one_passed : goal.more_passed-returns-in_err-one_passed
more_passed-returns-in_err-one_passed t c =
    let p = err_from_is_err_and c.from_residual.result c.from_residual.ensures.1 in
    rw (p.1, p.2) (passed_refuses (inside c.args.depth) _ _ _ _ _ c.loop-alloc.invariant c.loop-alloc-test.ensures c.in_err-one_passed.ensures)

pub more_exprs-loop-alloc-smaller : goal.more_exprs-loop-alloc-smaller
more_exprs-loop-alloc-smaller t c = comma_comes_nearer c.args.close (inside c.args.depth).expr _ _ _ _ _ c.loop-alloc-test.ensures
    c.in_ok-one_expr.ensures

pub more_exprs-returns-in_err-one_expr : goal.more_exprs-returns-in_err-one_expr
more_exprs-returns-in_err-one_expr t c =
    let p = err_from_is_err_and c.from_residual.result c.from_residual.ensures.1 in
    rw (p.1, p.2) (comma_refuses c.args.close (inside c.args.depth).expr _ _ _ _ _ c.loop-alloc.invariant c.loop-alloc-test.ensures
    c.in_err-one_expr.ensures)

pub more_pairs-loop-alloc-smaller : goal.more_pairs-loop-alloc-smaller
more_pairs-loop-alloc-smaller t c = comma_comes_nearer sign.CloseCurly (pair (inside c.args.depth)) _ _ _ _ _ c.loop-alloc-test.ensures
    c.in_ok-pairs.ensures

pub more_pairs-returns-in_err-pairs : goal.more_pairs-returns-in_err-pairs
more_pairs-returns-in_err-pairs t c =
    let p = err_from_is_err_and c.from_residual.result c.from_residual.ensures.1 in
    rw (p.1, p.2) (comma_refuses sign.CloseCurly (pair (inside c.args.depth)) _ _ _ _ _ c.loop-alloc.invariant c.loop-alloc-test.ensures
    c.in_err-pairs.ensures)

pub conditions-loop-alloc-init : goal.conditions-loop-alloc-init
conditions-loop-alloc-init t c = ap (λ xs. (conditions_from (inside c.args.depth) xs).reads c.args.self.now) c.new-conditions.ensures

pub conditions-loop-alloc-preserved : goal.conditions-loop-alloc-preserved
conditions-loop-alloc-preserved t c =
    goes_on (first (is sign.If)) (λ _. condition (inside c.args.depth)) _ _ _ _ _ _ _ c.loop-alloc.invariant c.loop-alloc-test.ensures
    c.in_ok-one_condition.ensures

pub conditions-loop-alloc-smaller : goal.conditions-loop-alloc-smaller
conditions-loop-alloc-smaller t c =
    comes_nearer (first (is sign.If)) (λ _. condition (inside c.args.depth)) _ _ _ _ _ _ c.loop-alloc-test.ensures
    c.in_ok-one_condition.ensures

pub conditions-returns-in_err-one_condition : goal.conditions-returns-in_err-one_condition
conditions-returns-in_err-one_condition t c =
    let p = err_from_is_err_and c.from_residual.result c.from_residual.ensures.1 in
    rw (p.1, p.2) (refuses (first (is sign.If)) (λ _. condition (inside c.args.depth)) _ _ _ _ _ _ c.loop-alloc.invariant
    c.loop-alloc-test.ensures c.in_err-one_condition.ensures)

pub conditions-returns : goal.conditions-returns
conditions-returns t c = ends (first (is sign.If)) (λ _. condition (inside c.args.depth)) _ _ _ _ c.loop-alloc.invariant
    c.loop-alloc-test.ensures

pub climb-loop-found-preserved : goal.climb-loop-found-preserved
climb-loop-found-preserved t c =
    postfix_climbs (inside c.args.depth) c.loop-found.level c.args.end c.in-Some.found c.loop-found.value _ _ _ c.in-Some.ensures
    (search rules) c.in_ok-value.ensures ∙ c.loop-found.invariant

pub climb-returns-in_err-value : goal.climb-returns-in_err-value
climb-returns-in_err-value t c =
    let p = err_from_is_err_and c.from_residual.result c.from_residual.ensures.1 in
    rw (p.1, p.2) (because _ (λ none. sym c.loop-found.invariant ∙ postfix_fails (inside c.args.depth) c.loop-found.level c.args.end
    c.in-Some.found c.loop-found.value _ c.in-Some.ensures (search rules) none) c.in_err-value.ensures)

pub climb-returns : goal.climb-returns
climb-returns t c = sym c.loop-found.invariant ∙ ends_climb (inside c.args.depth) c.loop-found.level c.args.end c.loop-found.value _
    c.in_default.ensures

pub operators-turns-init : goal.operators-turns-init
operators-turns-init t c =
    (none_waits (inside c.args.depth) c.new-waiting.result _ _ c.new-waiting.ensures, subst AllAbove (sym c.new-waiting.ensures) tt)

pub after_postfix-returns-clause-no_more : goal.after_postfix-returns-clause-no_more
after_postfix-returns-clause-no_more t c = postfix_no_more (inside c.args.depth) _ _ _ _ c.in_ok-value.ensures

pub right_side-returns-clause-no_more : goal.right_side-returns-clause-no_more
right_side-returns-clause-no_more t c = right_no_more (inside c.args.depth) _ _ _ _ c.in_ok-start.ensures
