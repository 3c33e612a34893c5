use Rattle.std.proofs.Common.{◌≡◌, ◌≤◌, drop, length}
use Rattle.tm_syntax.specs.Code.{stores_code}
use Rattle.tm_generator.specs.Building.{put}
use Rattle.tm_generator.proofs.imports.push_stores.Given as goal

abbrev pub invariant-loop-left : goal.invariant-loop-left
invariant-loop-left l = (l.left ≤ length l.imports) × (l.code ≡ put (stores_code (drop l.left l.imports)) l.fn.code)

abbrev pub decreases-loop-left : goal.decreases-loop-left
decreases-loop-left l = l.left
