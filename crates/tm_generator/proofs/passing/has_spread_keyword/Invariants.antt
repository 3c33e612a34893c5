use Rattle.std.proofs.Common.{◌≡◌, drop}
use Rattle.tm_syntax.specs.Code.{has_spread_keyword}
use Rattle.tm_trees.specs.Trees.{keywords}
use Rattle.tm_generator.proofs.passing.has_spread_keyword.Given as goal

abbrev pub invariant-loop-keyword : goal.invariant-loop-keyword
invariant-loop-keyword l = has_spread_keyword (keywords (drop l.keyword-index l.named)) ≡ has_spread_keyword (keywords l.named)
