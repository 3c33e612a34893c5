use Rattle.tm_scanner.proofs.Rests.{blanks_rest, blanks_to_rest}
use Rattle.tm_scanner.proofs.tokens.past_blanks_at.Goals as goal

pub returns-then-depth-eq0-clause-rest : goal.returns-then-depth-eq0-clause-rest
returns-then-depth-eq0-clause-rest c = rw c.past_blanks_to.ensures.value (blanks_to_rest c.args.by.now c.args.text.now)

pub returns-else-depth-eq0-clause-rest : goal.returns-else-depth-eq0-clause-rest
returns-else-depth-eq0-clause-rest c = rw c.past_blanks.ensures.value (blanks_rest c.args.text.now)
