use Rattle.std.proofs.Common.{◌≡◌}
use Rattle.tm_meaning.specs.Machine.{onto}
use Rattle.tm_parts.proofs.stack.Stack.append.Given as goal

-- what is left goes on top of what is there
abbrev pub invariant-loop-value : goal.invariant-loop-value
invariant-loop-value l = onto l.value-iterator.rest.items l.self ≡ onto l.fn.values.items l.fn.self
