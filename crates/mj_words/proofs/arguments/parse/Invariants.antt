use Rattle.std.proofs.Common.{◌≡◌, [], None, map, length}
use Rattle.std.specs.Prelude.{string_bytes}
use Rattle.mj_words.specs.CommandLine.{asked, asked_after}
use Rattle.mj_words.proofs.arguments.parse.Given as goal

-- the words that are left, after what was read, ask for the same as all words
abbrev pub invariant-loop-word : goal.invariant-loop-word
invariant-loop-word l = asked_after l.arguments (map string_bytes l.rest) ≡ asked [] None None None (map string_bytes l.words)

-- how many words are left
abbrev pub decreases-loop-word : goal.decreases-loop-word
decreases-loop-word l = length l.rest
