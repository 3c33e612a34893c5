use Rattle.std.proofs.Common.{◌≡◌, Some, None, true, false, refl, sym, ap, ◌∙◌, option_copied}
use Rattle.std.specs.Prelude.{slice_get}
use Rattle.tm_shapes.proofs.Searching.{got_in, reach_first, reach_known, reach_past}
use Rattle.tm_shapes.proofs.search.Found.reach.Goals as goal

pub returns-in-None-clause-reached : goal.returns-in-None-clause-reached
returns-in-None-clause-reached c = λ q code f s h shown.
    let e : slice_get c.args.self.now.shapes.items c.args.place ≡ None =
    got_in c.args.self.now.shapes.items c.deref.result.now c.args.place c.get.result c.deref.ensures.value c.get.ensures.lookup
    ∙ ap option_copied c.in-None.is in
    reach_past q code c.args.self.now f c.args.place s h e

pub returns-in-Some-Some-clause-reached : goal.returns-in-Some-Some-clause-reached
returns-in-Some-Some-clause-reached c = λ q code f s h shown.
    let e : slice_get c.args.self.now.shapes.items c.args.place ≡ Some (Some c.in-Some-Some.known) =
    got_in c.args.self.now.shapes.items c.deref.result.now c.args.place c.get.result c.deref.ensures.value c.get.ensures.lookup
    ∙ ap option_copied c.in-Some-Some.is ∙ ap Some c.in-Some-Some.field-0-is in
    let k = reach_known q code c.args.self.now f c.args.place s c.in-Some-Some.known true h e
    (λ t there. sym c.if-is_same.true ∙ c.is_same.ensures s t shown there) in
    (f, k, h)

pub returns-in-Some-Some-2-clause-reached : goal.returns-in-Some-Some-2-clause-reached
returns-in-Some-Some-2-clause-reached c = λ q code f s h shown.
    let e : slice_get c.args.self.now.shapes.items c.args.place ≡ Some (Some c.in-Some-Some.known) =
    got_in c.args.self.now.shapes.items c.deref.result.now c.args.place c.get.result c.deref.ensures.value c.get.ensures.lookup
    ∙ ap option_copied c.in-Some-Some.is ∙ ap Some c.in-Some-Some.field-0-is in
    reach_known q code c.args.self.now f c.args.place s c.in-Some-Some.known false h e
    (λ t there. sym c.if-is_same.false ∙ c.is_same.ensures s t shown there)

pub returns-in_ok-push-in-Some-None-clause-reached : goal.returns-in_ok-push-in-Some-None-clause-reached
returns-in_ok-push-in-Some-None-clause-reached c = λ q code f s h shown.
    let e : slice_get c.args.self.now.shapes.items c.args.place ≡ Some None =
    got_in c.args.self.now.shapes.items c.deref.result.now c.args.place c.get.result c.deref.ensures.value c.get.ensures.lookup
    ∙ ap option_copied c.in-Some-None.is ∙ ap Some c.in-Some-None.field-0-is in
    reach_first q code c.args.self.now _ f c.args.place s c.args.shape h e shown refl refl c.in_ok-push-in-Some-None.ensures.ok
