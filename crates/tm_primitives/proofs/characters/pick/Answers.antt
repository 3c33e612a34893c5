use Rattle.std.proofs.Common.{◌∙◌, sym}
use Rattle.std.proofs.lemmas.Str.{chars-IsAscii}
use Rattle.std.specs.Str.{chars}
use Rattle.tm_primitives.proofs.Picks.{part_picked, table_inside, table_picked, copied}
use Rattle.tm_primitives.proofs.characters.pick.Goals as goal

pub returns-in-Some : goal.returns-in-Some
returns-in-Some c =
    copied c.from_str.result c.first.result.now _
    (part_picked (chars c.args.text.now) c.args.places c.first.result.now c.skip.result.now c.in-Some.start c.in-Some.count
    c.requires.inside c.in-Some.ensures.some c.first.utf8 c.first.ensures c.skip.ensures)
    c.from_str.ensures.ok

pub pick_bytes-requires-clause-inside : goal.pick_bytes-requires-clause-inside
pick_bytes-requires-clause-inside c =
    table_inside c.as_bytes.result.now (chars c.args.text.now) c.args.places (c.as_bytes.ensures.value
    ∙ sym (chars-IsAscii c.args.text.now c.if-is_ascii.ensures.cases)) c.requires.inside

pub returns-then-is_ascii : goal.returns-then-is_ascii
returns-then-is_ascii c =
    table_picked c.pick_bytes.result c.as_bytes.result.now (chars c.args.text.now) c.args.places (c.as_bytes.ensures.value
    ∙ sym (chars-IsAscii c.args.text.now c.if-is_ascii.ensures.cases)) c.pick_bytes.ensures

pub pick_chars-requires : goal.pick_chars-requires
pick_chars-requires c =
    record {
      inside = table_inside c.deref.result.now (chars c.args.text.now) c.args.places (c.deref.ensures.value
          ∙ c.in_ok-table.ensures) c.requires.inside;
    }

pub returns : goal.returns
returns c =
    table_picked c.pick_chars.result c.deref.result.now (chars c.args.text.now) c.args.places (c.deref.ensures.value
    ∙ c.in_ok-table.ensures) c.pick_chars.ensures
