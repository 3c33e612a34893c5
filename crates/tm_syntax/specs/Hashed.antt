-- The hashes of names, and the order of names by them.
use Rattle.std.specs.Prelude.{ℕ, List}
use Rattle.std.specs.Hash.FoldHasher as folding
use Rattle.std.specs.Ordering.{nat_cmp, on, then_cmp}
use Rattle.std.specs.declared.cmp.Ordering.{Ordering}
use Rattle.tm_syntax.specs.Named.{name_cmp}

-- the hash of a text: the same for all owners
unfoldable pub hash_of : List ℕ → ℕ
hash_of x = folding.finish (folding.write folding.initial x)

-- by hash, and equal hashes by text
abbrev pub hashed_cmp : List ℕ → List ℕ → Ordering
hashed_cmp = then_cmp (on hash_of nat_cmp) name_cmp
