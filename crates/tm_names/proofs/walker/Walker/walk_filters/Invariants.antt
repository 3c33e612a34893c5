use Rattle.std.proofs.Common.{◌≡◌, drop}
use Rattle.tm_syntax.specs.Names.{walk_filters}
use Rattle.tm_names.proofs.walker.Walker.walk_filters.Given as goal

abbrev pub invariant-loop-filter : goal.invariant-loop-filter
invariant-loop-filter l = walk_filters l.nested (drop l.filter-index l.filters) l.self ≡ walk_filters l.nested l.filters l.fn.self
