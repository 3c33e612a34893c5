use Rattle.tm_meaning.proofs.Ends.{text_grows}
use Rattle.tm_meaning.proofs.text_grows.Goals as goal

pub returns : goal.returns
returns c = λ p f t n o a. text_grows a
