use Rattle.std.proofs.Common.{ℕ, List, ◌++◌, sym, ◌∙◌, ap}
use Rattle.tm_delimiters.proofs.Ends.{until_parts}
use Rattle.tm_delimiters.specs.Whitespace.{ends_here}
use Rattle.tm_scanner.proofs.tokens.split_at_end.Goals as goal

pub returns-then-depth-eq0-clause-parts : goal.returns-then-depth-eq0-clause-parts
returns-then-depth-eq0-clause-parts c =
    until_parts (ends_here c.args.by.now) c.args.rest.now ∙ ap (λ (r : List ℕ × List ℕ). r.0 ++ r.1) (sym c.next_end.ensures)
