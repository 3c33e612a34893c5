use Rattle.std.proofs.Common.{◌≡◌, List, [], ◌∷◌, Option, Some, None, length}
use Rattle.std.specs.Borrow.{Bor}
use Rattle.tm_values.specs.declared.error.ErrorKind.{ErrorKind}
use Rattle.tm_meaning.specs.Memory.{is_want_of_memory}
use Rattle.template_machine.proofs.cuts.is_want_of_memory.Given as goal

-- the causes that are left
abbrev chain_in : Option (Bor (List ErrorKind)) → List ErrorKind
chain_in None = []
chain_in (Some e) = e.now

abbrev pub invariant-loop-next : goal.invariant-loop-next
invariant-loop-next l = is_want_of_memory l.error ≡ is_want_of_memory (l.kind ∷ chain_in l.next)

abbrev pub decreases-loop-next : goal.decreases-loop-next
decreases-loop-next l = length (chain_in l.next)
