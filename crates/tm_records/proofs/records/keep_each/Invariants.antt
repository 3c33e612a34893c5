use Rattle.std.proofs.Common.{◌≡◌}
use Rattle.tm_syntax.specs.Named.{put_each}
use Rattle.tm_records.proofs.records.keep_each.Given as goal

-- what is still to be kept leads to what is kept at the end
abbrev pub invariant-loop-name : goal.invariant-loop-name
invariant-loop-name l = record {
  kept : put_each l.name-iterator.rest.items l.temps ≡ put_each l.fn.kept.items l.initial.temps;
}
