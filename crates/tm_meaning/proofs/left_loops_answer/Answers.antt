use Rattle.tm_meaning.proofs.Left.{left_answers}
use Rattle.tm_meaning.proofs.left_loops_answer.Goals as goal

pub returns : goal.returns
returns c = left_answers
