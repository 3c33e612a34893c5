use Rattle.std.proofs.Common.{◌≡◌, drop}
use Rattle.tm_parser.specs.Distinct.{are_distinct, texts}
use Rattle.tm_parser.proofs.Seen.{are_new}
use Rattle.tm_parser.proofs.distinct.are_distinct.Given as goal

abbrev pub invariant-loop-name : goal.invariant-loop-name
invariant-loop-name l = are_new l.seen (drop l.name-index l.names) ≡ are_distinct (texts l.names)
