use Rattle.std.proofs.Common.{◌≡◌, take}
use Rattle.tm_blocks.proofs.block_stack.BlockStack.copy.Given as goal

abbrev pub invariant-loop-template : goal.invariant-loop-template
invariant-loop-template l = l.templates.items ≡ take l.template-index l.template-items
