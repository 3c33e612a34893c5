use Rattle.tm_delimiters.proofs.Places.{ascii_first}
use Rattle.tm_delimiters.proofs.front.first.Goals as goal

pub returns-in-Some-clause-value : goal.returns-in-Some-clause-value
returns-in-Some-clause-value c = rw c.from.ensures (ascii_first c.args.text.now (c.in-Some.byte, c.in-Some.rest) c.utf8.text c.in-Some.ensures.value)
