use Rattle.std.proofs.Common.{◌≡◌, drop, length}
use Rattle.std.specs.Option.{option_map}
use Rattle.tm_syntax.specs.Entries.{texts_in}
use Rattle.tm_shapes.proofs.Levels.{more}
use Rattle.tm_shapes.proofs.flow.text_count.Given as goal

-- those that were found so far are added to those that are left
abbrev pub invariant-loop-value : goal.invariant-loop-value
invariant-loop-value l =
    option_map length (texts_in l.values) ≡ more l.value-index (option_map length (texts_in (drop l.value-index l.values)))
