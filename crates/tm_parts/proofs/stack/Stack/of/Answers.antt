use Rattle.tm_parts.proofs.Operands.{onto_none}
use Rattle.tm_parts.proofs.stack.Stack.of.Goals as goal

pub returns : goal.returns
returns c = onto_none c.args.values.items
