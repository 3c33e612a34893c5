use Rattle.std.proofs.Common.{ap}
use Rattle.std.proofs.lemmas.Result.{err_from_is_err_and}
use Rattle.tm_grammar.specs.Combinators.{first}
use Rattle.tm_expressions.specs.Grammar.{inside, operand, step, target_steps_from}
use Rattle.tm_expressions.specs.Tokens.{a_target_link, postfix_level}
use Rattle.tm_expressions.proofs.Loops.{goes_on, comes_nearer, refuses, ends}
use Rattle.tm_parser.proofs.targets.target_steps.Goals as goal

pub loop-link-init : goal.loop-link-init
loop-link-init c = ap (λ xs. (target_steps_from (inside c.args.depth) xs).reads c.args.cursor.now) c.new-steps.ensures

pub loop-link-preserved : goal.loop-link-preserved
loop-link-preserved c =
    let i = inside c.args.depth in
    goes_on (first a_target_link) (step i (operand i postfix_level) postfix_level) _ _ _ _ _ _ _ c.loop-link.invariant c.in-Some.ensures.first
    c.in_ok-one_step.ensures

pub loop-link-smaller : goal.loop-link-smaller
loop-link-smaller c =
    let i = inside c.args.depth in
    comes_nearer (first a_target_link) (step i (operand i postfix_level) postfix_level) _ _ _ _ _ _ c.in-Some.ensures.first
    c.in_ok-one_step.ensures

pub returns-in_err-one_step : goal.returns-in_err-one_step
returns-in_err-one_step c =
    let i = inside c.args.depth in
    let p = err_from_is_err_and c.from_residual.result c.from_residual.ensures.1 in
    rw (p.1, p.2) (refuses (first a_target_link) (step i (operand i postfix_level) postfix_level) _ _ _ _ _ _ c.loop-link.invariant
    c.in-Some.ensures.first c.in_err-one_step.ensures)

pub returns : goal.returns
returns c =
    let i = inside c.args.depth in
    ends (first a_target_link) (step i (operand i postfix_level) postfix_level) _ _ _ _ c.loop-link.invariant c.in_default.ensures.first
