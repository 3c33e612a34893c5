use Rattle.std.proofs.Common.{◌≡◌, drop}
use Rattle.tm_syntax.specs.Names.{walk_imports}
use Rattle.tm_names.proofs.walker.Walker.walk_imports.Given as goal

abbrev pub invariant-loop-imported : goal.invariant-loop-imported
invariant-loop-imported l = walk_imports (drop l.imported-index l.imports) l.self ≡ walk_imports l.imports l.fn.self
