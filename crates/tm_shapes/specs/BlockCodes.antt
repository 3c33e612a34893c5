-- The blocks of a tree as their code.
use Rattle.std.specs.Prelude.{ℕ, List, map as each}
use Rattle.tm_syntax.specs.Blocks.{FoundBlock, statements, code_of}
use Rattle.tm_syntax.specs.Named.{Named}
pub use Rattle.tm_shapes.specs.declared.code.BlockCode.{BlockCode}

abbrev pub block_code : FoundBlock → BlockCode
block_code b = record { required = b.required; code = code_of (statements b.body) }

abbrev pub compiled : List ℕ × FoundBlock → List ℕ × BlockCode
compiled b = (b.0, block_code b.1)

abbrev pub compiled_blocks : Named FoundBlock → Named BlockCode
compiled_blocks bs = each compiled bs
