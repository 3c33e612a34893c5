-- Code whose names have no cache numbers.
use Rattle.std.specs.Prelude.{◌≡◌, List, [], ◌∷◌, Bool, true, nat_eq}
use Rattle.tm_syntax.specs.CacheNumbers.{no_cache, numbered}
use Rattle.tm_trees.specs.Instructions.{Instruction}
use Rattle.tm_trees.specs.Instructions.instructions as i
use Rattle.tm_meaning.specs.Machine.{Program}
use Rattle.tm_meaning.specs.declared.stream.StreamId.{StreamId}

-- whether no name of an instruction has a cache
abbrev pub is_uncached : Instruction → Bool
is_uncached (i.ApplyFilter x n cache) = nat_eq cache no_cache
is_uncached (i.PerformTest x n cache) = nat_eq cache no_cache
is_uncached x = true

abbrev pub AllUncached : List Instruction → Type 0
AllUncached [] = Unit {0}
AllUncached (x ∷ is) = (is_uncached x ≡ true) × AllUncached is

-- The same for each stream of a program.
abbrev pub HasNoCaches : Program → Type 0
HasNoCaches p = (s : StreamId) → AllUncached (p.code s)

-- the program whose names have their cache numbers
abbrev pub with_numbers : Program → Program
with_numbers p = record p { code = λ s. numbered (p.code s) }
