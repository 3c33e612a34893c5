use Rattle.std.proofs.Common.{length}
use denote.Text.{Utf8}
use denote.Shadow.{shadow}
use Rattle.std.specs.Rc.{rc_str_bytes}
use Rattle.tm_scanner.specs.Spells.{read_of}
use Rattle.tm_scanner.proofs.Sources.{SourceSoFar}
use Rattle.tm_scanner.proofs.source.scan.Given as goal

abbrev pub invariant-loop-text : goal.invariant-loop-text
invariant-loop-text l = shadow (Utf8 l.rest)
    × SourceSoFar l.syntax (read_of l.syntax (rc_str_bytes l.source)) l.tokens.items l.before l.rest

abbrev pub decreases-loop-text : goal.decreases-loop-text
decreases-loop-text l = length l.rest
