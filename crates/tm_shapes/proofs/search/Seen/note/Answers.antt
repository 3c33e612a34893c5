use Rattle.std.proofs.Common.{◌≡◌, Some, None, refl, ap, ◌∙◌, option_copied}
use Rattle.std.specs.Prelude.{slice_get}
use Rattle.tm_shapes.proofs.Searching.{got_in}
use Rattle.tm_shapes.proofs.Seeing.{note_first, note_known, note_past}
use Rattle.tm_shapes.proofs.search.Seen.note.Goals as goal

pub returns-in_ok-push-in-Some-None-clause-noted : goal.returns-in_ok-push-in-Some-None-clause-noted
returns-in_ok-push-in-Some-None-clause-noted c = λ q code f s h shown.
    let e : slice_get c.args.self.now.shapes.items c.args.place ≡ Some None =
    got_in c.args.self.now.shapes.items c.deref.result.now c.args.place c.get.result c.deref.ensures.value c.get.ensures.lookup
    ∙ ap option_copied c.in-Some-None.is ∙ ap Some c.in-Some-None.field-0-is in
    note_first q code c.args.self.now _ f c.args.place s c.args.shape h e shown refl refl c.in_ok-push-in-Some-None.ensures.ok refl

pub returns-in-Some-Some-clause-noted : goal.returns-in-Some-Some-clause-noted
returns-in-Some-Some-clause-noted c = λ q code f s h shown.
    let e : slice_get c.args.self.now.shapes.items c.args.place ≡ Some (Some c.in-Some-Some.field-0-0) =
    got_in c.args.self.now.shapes.items c.deref.result.now c.args.place c.get.result c.deref.ensures.value c.get.ensures.lookup
    ∙ ap option_copied c.in-Some-Some.is ∙ ap Some c.in-Some-Some.field-0-is in
    note_known q code c.args.self.now _ f c.args.place s c.in-Some-Some.field-0-0 h e refl refl refl refl

pub returns-in-None-clause-noted : goal.returns-in-None-clause-noted
returns-in-None-clause-noted c = λ q code f s h shown.
    let e : slice_get c.args.self.now.shapes.items c.args.place ≡ None =
    got_in c.args.self.now.shapes.items c.deref.result.now c.args.place c.get.result c.deref.ensures.value c.get.ensures.lookup
    ∙ ap option_copied c.in-None.is in
    note_past q code c.args.self.now _ f c.args.place s h e refl refl refl refl
