use Rattle.std.proofs.Common.{◌∙◌, sym, subst}
use Rattle.std.specs.Str.{IsUtf8}
use Rattle.std.proofs.lemmas.Str.{IsCharBoundary-from_take}
use Rattle.tm_delimiters.proofs.Ends.{cuts_at, cuts_nowhere}
use Rattle.tm_delimiters.proofs.whitespace.to_end.Goals as goal

pub split_at-requires : goal.split_at-requires
split_at-requires c =
    let cut = cuts_at c.args.end.now c.args.text.now c.in-Some.inside.now _ c.before_mark.result.now c.in-Some.ensures.cases c.before_mark.ensures in
    IsCharBoundary-from_take _ _ c.utf8.text cut.fits (subst IsUtf8 (sym cut.whole) c.before_mark.utf8)

pub returns-in-Some : goal.returns-in-Some
returns-in-Some c =
    let cut = cuts_at c.args.end.now c.args.text.now c.in-Some.inside.now _ c.before_mark.result.now c.in-Some.ensures.cases c.before_mark.ensures in
    rw (c.split_at.ensures.front, c.split_at.ensures.back) (sym cut.value)

pub returns-in-None : goal.returns-in-None
returns-in-None c = sym (cuts_nowhere c.args.end.now c.args.text.now c.in-None.ensures.cases)
