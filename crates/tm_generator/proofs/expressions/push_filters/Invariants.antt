use Rattle.std.proofs.Common.{◌≡◌, drop}
use Rattle.tm_syntax.specs.Code.{filters_code}
use Rattle.tm_generator.specs.Building.{put}
use Rattle.tm_generator.proofs.expressions.push_filters.Given as goal

abbrev pub invariant-loop-filter : goal.invariant-loop-filter
invariant-loop-filter l = put (filters_code (drop l.filter-index l.filters)) l.code ≡ put (filters_code l.filters) l.fn.code
