-- The streams of trees, compiled.
use Rattle.std.specs.Prelude.{◌≡◌}
pub use Rattle.tm_syntax.specs.Blocks.{code_of}
use Rattle.tm_meaning.specs.World.{StreamId}
use Rattle.tm_meaning.specs.Tree.{Trees}
use Rattle.tm_meaning.specs.Machine.{Program}

-- Each stream of the program is the code of its tree.
abbrev pub IsCompiled : Trees → Program → Type 0
IsCompiled trees p = (s : StreamId) → p.code s ≡ code_of (trees s)
