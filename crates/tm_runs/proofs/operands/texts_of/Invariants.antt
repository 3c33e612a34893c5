use Rattle.std.proofs.Common.{◌≡◌, drop, map as each}
use Rattle.std.specs.Rc.{rc_str_bytes}
use Rattle.tm_meaning.specs.Instructions.{texts_in}
use Rattle.tm_runs.proofs.Texts.{after_texts}
use Rattle.tm_runs.proofs.operands.texts_of.Given as goal

-- those that were found so far stand before what is left
abbrev pub invariant-loop-value : goal.invariant-loop-value
invariant-loop-value l = texts_in l.values ≡ after_texts (each rc_str_bytes l.texts.items) (texts_in (drop l.value-index l.values))
