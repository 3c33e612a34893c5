use Rattle.std.proofs.Common.{arith, length, sym, ap}
use Rattle.std.proofs.lemmas.Grind.{common_steps}
use Rattle.std.proofs.lemmas.Str.{chars-IsAscii}
use Rattle.tm_primitives.proofs.Texts.{count_is}
use Rattle.tm_primitives.proofs.characters.count.Goals as goal

pub returns-then-is_ascii : goal.returns-then-is_ascii
returns-then-is_ascii c = ap length (sym (chars-IsAscii c.args.text.now c.if-is_ascii.ensures.cases))

pub returns : goal.returns
returns c = grind (arith, common_steps, count_is c.args.text.now c.utf8.text)
