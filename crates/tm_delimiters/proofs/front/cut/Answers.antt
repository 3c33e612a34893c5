use Rattle.tm_delimiters.proofs.Places.{cuts}
use Rattle.tm_delimiters.proofs.front.cut.Goals as goal

pub returns-clause-value : goal.returns-clause-value
returns-clause-value c = cuts c.args.word.now c.args.text.now c.split_once.result c.split_once.ensures.cases
