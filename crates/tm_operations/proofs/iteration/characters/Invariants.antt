use Rattle.std.proofs.Common.{◌≡◌}
use Rattle.tm_definitions.specs.Iteration.{character_texts}
use Rattle.tm_operations.proofs.iteration.characters.Given as goal

abbrev pub invariant-loop-character : goal.invariant-loop-character
invariant-loop-character l = l.values.items ≡ character_texts l.yielded
