use Rattle.std.proofs.lemmas.Grind.{common_steps}
use Rattle.std.proofs.Common.{sym, ◌∙◌, rules, arith}
use Rattle.std.specs.Str.Iter.{chars_rest}
use Rattle.tm_primitives.proofs.Texts.{char_boundary}
use Rattle.tm_primitives.proofs.characters.character.Goals as goal

pub range-requires-clause-end_boundary : goal.range-requires-clause-end_boundary
range-requires-clause-end_boundary c =
    char_boundary c.skip-rest.result.now (chars_rest c.next.new.self) c.in_ok-character.character c.len_utf8.result c.skip-rest.utf8
    (sym c.chars.ensures.rest ∙ c.in_ok-character.ensures.steps.0) c.len_utf8.ensures.value

pub returns-in_err-character-clause-some : goal.returns-in_err-character-clause-some
returns-in_err-character-clause-some c = search rules fits 100

pub returns-clause-some : goal.returns-clause-some
returns-clause-some c = grind (arith, common_steps)

pub returns-clause-none : goal.returns-clause-none
returns-clause-none c = search rules fits 100
