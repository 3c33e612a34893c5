use Rattle.std.proofs.Common.{ap}
use Rattle.std.proofs.lemmas.Result.{err_from_is_err_and}
use Rattle.tm_grammar.specs.Combinators.{first}
use Rattle.tm_expressions.specs.Grammar.{inside}
use Rattle.tm_parser.specs.Statements.{inner, body, more_statements, a_start, statement}
use Rattle.tm_expressions.proofs.Loops.{goes_on, comes_nearer, refuses, ends}
use Rattle.tm_parser.proofs.+statements.Goals as goal

pub statements::body-loop-body-init : goal.statements::body-loop-body-init
unfolding body
statements::body-loop-body-init t c = ap (λ xs. (more_statements (inside c.args.depth) (inner c.args.depth) c.args.looping xs).reads c.args.cursor.now)
    c.new-body.ensures

pub statements::body-loop-body-preserved : goal.statements::body-loop-body-preserved
statements::body-loop-body-preserved t c =
    goes_on (first a_start) (statement (inside c.args.depth) (inner c.args.depth) c.args.looping) _ _ _ _ _ _ _ c.loop-body.invariant
    (rw c.in-Some.is at c.in_ok-start.ensures) c.in_ok-one_statement.ensures

pub statements::body-loop-body-smaller : goal.statements::body-loop-body-smaller
statements::body-loop-body-smaller t c =
    comes_nearer (first a_start) (statement (inside c.args.depth) (inner c.args.depth) c.args.looping) _ _ _ _ _ _
    (rw c.in-Some.is at c.in_ok-start.ensures) c.in_ok-one_statement.ensures

pub statements::body-returns-in_err-one_statement : goal.statements::body-returns-in_err-one_statement
statements::body-returns-in_err-one_statement t c =
    let p = err_from_is_err_and c.from_residual-in_err-one_statement.result c.from_residual-in_err-one_statement.ensures.1 in
    rw (p.1, p.2) (refuses (first a_start) (statement (inside c.args.depth) (inner c.args.depth) c.args.looping) _ _ _ _ _ _
    c.loop-body.invariant (rw c.in-Some.is at c.in_ok-start.ensures) c.in_err-one_statement.ensures)

pub statements::body-returns : goal.statements::body-returns
statements::body-returns t c = ends (first a_start) (statement (inside c.args.depth) (inner c.args.depth) c.args.looping) _ _ _ _
    c.loop-body.invariant (rw c.in_default.is at c.in_ok-start.ensures)
