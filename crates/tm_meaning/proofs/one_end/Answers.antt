use Rattle.tm_meaning.proofs.Ends.{one_end}
use Rattle.tm_meaning.proofs.one_end.Goals as goal

pub returns : goal.returns
returns c = λ p f t n o q a b. one_end a b
