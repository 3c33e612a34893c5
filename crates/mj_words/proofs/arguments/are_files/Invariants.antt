use Rattle.std.proofs.Common.{◌≡◌, drop, map}
use Rattle.std.specs.Prelude.{false, string_bytes}
use Rattle.mj_words.specs.CommandLine.{are_files}
use Rattle.mj_words.proofs.arguments.are_files.Given as goal

-- the words that are left, after those that were read, answer for all
abbrev pub invariant-loop-word : goal.invariant-loop-word
invariant-loop-word l = are_files l.named (map string_bytes (drop l.word-index l.words)) ≡ are_files false (map string_bytes l.words)
