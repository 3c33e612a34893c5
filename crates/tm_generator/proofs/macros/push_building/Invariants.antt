use Rattle.std.proofs.Common.{◌≡◌, drop}
use Rattle.tm_syntax.specs.Fragments.{building}
use Rattle.tm_generator.specs.Building.{head_with, put_building, with_all}
use Rattle.tm_generator.proofs.macros.push_building.Given as goal

abbrev pub invariant-loop-free : goal.invariant-loop-free
invariant-loop-free l =
    with_all (building (drop l.free-index l.names.free) (head_with l.name l.parameters l.names) l.entry) l.code
    ≡ put_building l.name l.parameters l.names l.entry l.fn.code
