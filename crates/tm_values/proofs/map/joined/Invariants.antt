use Rattle.std.proofs.Common.{◌≡◌}
use Rattle.tm_values.specs.Map.{put_each, put_all, IsMap}
use Rattle.tm_values.proofs.map.joined.Given as goal

abbrev pub invariant-loop-key : goal.invariant-loop-key
invariant-loop-key l = record {
  ordered : IsMap l.joined.items;
  same_map : put_each l.joined.items l.key-iterator.rest.items ≡ put_all l.fn.pairs.items;
}
