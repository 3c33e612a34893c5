use Rattle.std.proofs.Common.{◌≡◌, ◌++◌, drop, map}
use Rattle.mj_words.specs.CommandLine.{plain}
use Rattle.mj.specs.Program.{pair_of}
use Rattle.mj.proofs.render.context.Given as goal

-- the pairs of the texts that are left are left
abbrev pub invariant-loop-name : goal.invariant-loop-name
invariant-loop-name l = l.members.items ++ map pair_of (map plain (drop l.name-index l.texts))
    ≡ l.fn.members.items ++ map pair_of (map plain l.texts)
