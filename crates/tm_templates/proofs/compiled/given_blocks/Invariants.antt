use Rattle.std.proofs.Common.{◌≡◌, length}
use Rattle.tm_syntax.specs.Named.{by_name, put_each}
use Rattle.tm_templates.specs.Templates.{AllAccepted, given_blocks}
use Rattle.tm_templates.proofs.compiled.given_blocks.Given as goal

-- With those that are left, the blocks are all.
abbrev pub invariant-loop-name : goal.invariant-loop-name
invariant-loop-name l =
    (put_each (given_blocks l.streams.entries) l.blocks ≡ by_name (given_blocks l.fn.streams.entries)) × AllAccepted l.blocks

abbrev pub decreases-loop-name : goal.decreases-loop-name
decreases-loop-name l = length l.streams.entries
