use Rattle.std.proofs.Common.{◌≡◌, ap, sym, ◌∙◌, map-id, rules}
use Rattle.std.specs.Str.{chars}
use Rattle.std.proofs.lemmas.Iterator.{YieldsList-from_chars}
use Rattle.std.proofs.lemmas.Iterator.Consumers.{YieldsList-end}
use Rattle.tm_definitions.specs.Iteration.{character_texts}
use Rattle.tm_operations.proofs.iteration.characters.Goals as goal

-- at the end every character has come
pub returns : goal.returns
returns c =
    let end = YieldsList-end (YieldsList-from_chars c.args.content.now c.utf8.content cc) c.loop-character.yielded _
    c.loop-character.yielded_by _ _ c.in-None.is c.next.ensures.steps in
    let texts : character_texts c.loop-character.yielded
    ≡ character_texts (chars c.args.content.now) = ap character_texts (sym (map-id c.loop-character.yielded) ∙ end.0) in
    let stored = c.in_ok-new.ensures.ok in
    let values = c.loop-character.invariant in
    cc

pub returns-in_err-values : goal.returns-in_err-values
returns-in_err-values c = search rules fits 100

pub returns-in_err-text : goal.returns-in_err-text
returns-in_err-text c = search rules fits 100

pub returns-in_err-push : goal.returns-in_err-push
returns-in_err-push c = search rules fits 100

pub returns-in_err-new : goal.returns-in_err-new
returns-in_err-new c = search rules fits 100
