-- The names of a template's blocks ascend.
use Rattle.std.proofs.Common.{[], ◌∷◌, ◌≡◌, sym, subst}
use Rattle.std.specs.List.Sorted.{IsStrictlySortedBy}
use Rattle.std.specs.Map.{keys_of}
use Rattle.tm_syntax.specs.Blocks.{stream_blocks, stream_of}
use Rattle.tm_shapes.specs.BlockCodes.{compiled_blocks}
use Rattle.tm_syntax.specs.Named.{Named, by_name, name_cmp, put, put_each}
use Rattle.tm_shapes.specs.declared.code.BlockCode.{BlockCode}
use Rattle.tm_trees.specs.Trees.{Tree}
use Rattle.tm_scopes.specs.Places.{AreOrdered}
use Rattle.tm_scopes.proofs.Places.{ordered-none, ordered-put}
use Rattle.tm_templates.specs.Templates.{block_codes}

-- what stands by its name is in order
put_each-ordered : {A : Type 0} (ps qs : Named A) → AreOrdered qs → AreOrdered (put_each ps qs)
put_each-ordered [] qs o = o
put_each-ordered (p ∷ ps) qs o = put_each-ordered ps (put p.0 p.1 qs) (ordered-put p.0 p.1 qs o)

pub by_name-ordered : {A : Type 0} (ps : Named A) → AreOrdered (by_name ps)
by_name-ordered {A = A} ps = put_each-ordered ps [] (ordered-none A)

pub blocks-ascend : (tree : Tree) (blocks : Named BlockCode) → blocks ≡ block_codes tree → IsStrictlySortedBy name_cmp (keys_of blocks)
blocks-ascend tree blocks are = subst AreOrdered (sym are) (by_name-ordered (compiled_blocks (stream_blocks (stream_of tree))))
