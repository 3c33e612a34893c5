use Rattle.std.proofs.Common.{rules}
use Rattle.std.proofs.lemmas.Str.{lead_after_ascii}
use Rattle.mj_words.proofs.arguments.joined.Goals as goal

-- a text may be cut after a `D`
pub range_from-requires : goal.range_from-requires
range_from-requires c = search (rules, lead_after_ascii c.args.word.now 1 c.utf8.word)
