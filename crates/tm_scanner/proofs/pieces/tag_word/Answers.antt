use Rattle.std.proofs.Common.{sym}
use Rattle.tm_delimiters.specs.Views.{IsRest}
use Rattle.tm_scanner.proofs.Rests.{blanks_rest, name_rest, rest_through}
use Rattle.tm_scanner.proofs.pieces.tag_word.Goals as goal

pub returns-clause-rest : goal.returns-clause-rest
returns-clause-rest c =
    let start = c.past_blanks.result.now in
    let blanks : IsRest start c.args.text.now = rw c.past_blanks.ensures.value (blanks_rest c.args.text.now) in
    rest_through c.args.text.now start c.in_ok-name.rest.now
    (name_rest start c.in_ok-name.name.now c.in_ok-name.rest.now c.past_blanks.utf8 (sym c.in_ok-name.ensures.value)) blanks
