use Rattle.std.proofs.Common.{◌≡◌, ◌∙◌, None, Some, ap, subst, sym, refl, option_copied}
use Rattle.std.specs.Prelude.{slice_get, option_and_then}
use Rattle.tm_shapes.specs.Accepts.{site_of}
use Rattle.tm_shapes.specs.Flows.{flow_of}
use Rattle.tm_shapes.specs.Searched.{IsSeen}
use Rattle.tm_shapes.specs.Shapes.{itself}
use Rattle.tm_shapes.proofs.Searching.{got, has_shown, on_ok}
use Rattle.tm_shapes.proofs.Seeing.{glance_on, glance_past, glance_unshaped, seen_grown}
use Rattle.tm_shapes.proofs.search.Seen.glance.Goals as goal

pub returns-in_default : goal.returns-in_default
returns-in_default c = λ q f asks h.
    let e : option_and_then itself (slice_get c.args.self.now.shapes.items c.args.place) ≡ None =
    ap (λ xs. option_and_then itself (slice_get xs c.args.place)) (sym c.deref.ensures.value) ∙ sym c.shape_at.ensures ∙ c.in_default.is in
    subst (IsSeen c.args.self.now) (sym (glance_unshaped q c.args.stream.now.code.now c.args.self.now f c.args.place h e)) h

pub returns-in-None : goal.returns-in-None
returns-in-None c = λ q f asks h.
    let code = c.args.stream.now.code.now in
    let e : slice_get code c.args.place ≡ None = got code c.args.place c.get.result c.get.ensures.lookup ∙ ap option_copied c.in-None.is in
    subst (IsSeen c.args.self.now) (sym (glance_past q code c.args.place f e)) h

pub returns-in_ok-flow-in-Some-get : goal.returns-in_ok-flow-in-Some-get
returns-in_ok-flow-in-Some-get c = on_ok c.trace.result _ _ (λ traced q f asks h.
    let code = c.args.stream.now.code.now in
    let place = c.args.place in
    let e : option_and_then itself (slice_get c.args.self.now.shapes.items place) ≡ Some c.in-Some.shape =
    ap (λ xs. option_and_then itself (slice_get xs place)) (sym c.deref.ensures.value) ∙ sym c.shape_at.ensures ∙ c.in-Some.is in
    let i : slice_get code place ≡ Some c.in-Some-get.instruction.now =
    got code place c.get.result c.get.ensures.lookup ∙ ap option_copied c.in-Some-get.is in
    let t = has_shown q code c.args.self.now.cells c.args.self.now.shapes.items f.shapes place c.in-Some.shape h.shapes e in
    let x = flow_of (site_of q code place) c.in-Some-get.instruction.now t.0 in
    let told = c.in_ok-flow-in-Some-get.ensures.told (site_of q code place) t.0 (c.site-site.ensures q asks) t.2 in
    subst (IsSeen c.trace.new.self) (sym (glance_on q code place f c.in-Some-get.instruction.now t.0 i t.1))
    (traced q code f x (seen_grown c.args.self.now _ f refl refl refl c.in_ok-flow-in-Some-get.ensures.grown h) told)) c.trace.ensures
