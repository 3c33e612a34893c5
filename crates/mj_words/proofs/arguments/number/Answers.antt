use Rattle.std.proofs.Common.{rules}
use Rattle.std.proofs.lemmas.Str.Parse.{parse_plain, numerals_by_value, tells_all_ascii_digits}
use Rattle.mj_words.proofs.arguments.number.Goals as goal

-- the library reads no plus here, so what it reads is digits alone
pub returns : goal.returns
returns c = search (
  rules,
  parse_plain
      (numerals_by_value _ tells_all_ascii_digits) 64 c.args.word.now c.parse.result c.parse.ensures.value.0,
)
