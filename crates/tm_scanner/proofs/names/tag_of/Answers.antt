use Rattle.std.proofs.Common.{ap, sym, ◌∙◌}
use Rattle.std.specs.Prelude.{drop}
use Rattle.std.specs.Option.{option_or}
use Rattle.tm_scanner.specs.Names.{look_up, tag_words}
use Rattle.tm_scanner.proofs.Words.{look_up_parts}
use Rattle.tm_scanner.proofs.names.tag_of.Goals as goal

pub returns-in-Some : goal.returns-in-Some
returns-in-Some c =
    ap (λ o. option_or o (look_up (drop 16 tag_words) c.args.name.now)) (sym c.in-Some.is ∙ c.start_tag.ensures)
    ∙ look_up_parts 16 tag_words c.args.name.now

pub returns-in-None : goal.returns-in-None
returns-in-None c =
    c.later_tag.ensures ∙ ap (λ o. option_or o (look_up (drop 16 tag_words) c.args.name.now)) (sym c.in-None.is ∙ c.start_tag.ensures)
    ∙ look_up_parts 16 tag_words c.args.name.now
