use Rattle.std.proofs.Common.{◌≡◌, drop}
use Rattle.tm_syntax.specs.Code.{lookups_code}
use Rattle.tm_generator.specs.Building.{put}
use Rattle.tm_generator.proofs.imports.push_lookups.Given as goal

abbrev pub invariant-loop-imported : goal.invariant-loop-imported
invariant-loop-imported l = put (lookups_code (drop l.imported-index l.imports)) l.code ≡ put (lookups_code l.imports) l.fn.code
