use Rattle.std.proofs.Common.{◌≡◌, Some, None, true, false, refl, sym, ap, ◌∙◌, ◌&&◌, option_copied, nat_eq, length, arith}
use Rattle.std.proofs.lemmas.Bool.Decides.{nat_tests}
use Rattle.std.specs.Prelude.{slice_get, option_and_then}
use Rattle.tm_shapes.specs.Accepts.{ends_with, site_of}
use Rattle.tm_shapes.specs.Flows.{flow_of}
use Rattle.tm_shapes.specs.Searched.{follow_of, look_of}
use Rattle.tm_shapes.specs.Shapes.{itself}
use Rattle.tm_shapes.proofs.Searching.{comes_as, found_grown, got, has_shown, look_end, look_on, look_unshaped, taking}
use Rattle.tm_shapes.proofs.search.Found.look.Goals as goal

pub returns-in_default : goal.returns-in_default
returns-in_default c = λ q f asks h.
    let e : option_and_then itself (slice_get c.args.self.now.shapes.items c.args.place) ≡ None =
    ap (λ xs. option_and_then itself (slice_get xs c.args.place)) (sym c.deref.ensures.value) ∙ sym c.shape_at.ensures ∙ c.in_default.is in
    look_unshaped q c.args.stream.now.code.now c.args.self.now f c.args.place h e

pub returns-in_ok-flow-in-Some-get : goal.returns-in_ok-flow-in-Some-get
returns-in_ok-flow-in-Some-get c = λ q f asks h.
    let code = c.args.stream.now.code.now in
    let place = c.args.place in
    let e : option_and_then itself (slice_get c.args.self.now.shapes.items place) ≡ Some c.in-Some.shape =
    ap (λ xs. option_and_then itself (slice_get xs place)) (sym c.deref.ensures.value) ∙ sym c.shape_at.ensures ∙ c.in-Some.is in
    let i : slice_get code place ≡ Some c.in-Some-get.instruction.now =
    got code place c.get.result c.get.ensures.lookup ∙ ap option_copied c.in-Some-get.is in
    let t = has_shown q code c.args.self.now.cells c.args.self.now.shapes.items f.shapes place c.in-Some.shape h.shapes e in
    let x = flow_of (site_of q code place) c.in-Some-get.instruction.now t.0 in
    let y = taking q code c.flow_of.new.cells place c.in_ok-flow-in-Some-get.flow x
    (c.in_ok-flow-in-Some-get.ensures.told (site_of q code place) t.0 (c.site-site.ensures q asks) t.2) in
    comes_as c.follow.new.self (follow_of q code y.0 f) (look_of q code place f) c.follow.result
    (look_on q code place f c.in-Some-get.instruction.now t.0 i t.1 ∙ y.2 f)
    (c.follow.ensures q code f y.0 (found_grown c.args.self.now _ f refl refl c.in_ok-flow-in-Some-get.ensures.grown h) y.1)

pub returns-in-None : goal.returns-in-None
returns-in-None c = λ q f asks h.
    let code = c.args.stream.now.code.now in
    let place = c.args.place in
    let e : option_and_then itself (slice_get c.args.self.now.shapes.items place) ≡ Some c.in-Some.shape =
    ap (λ xs. option_and_then itself (slice_get xs place)) (sym c.deref.ensures.value) ∙ sym c.shape_at.ensures ∙ c.in-Some.is in
    let i : slice_get code place ≡ None = got code place c.get.result c.get.ensures.lookup ∙ ap option_copied c.in-None.is in
    let t = has_shown q code c.args.self.now.cells c.args.self.now.shapes.items f.shapes place c.in-Some.shape h.shapes e in
    let end : nat_eq place (length code) ≡ true = grind (arith, nat_tests, c.if-place-stream.true) in
    let right : ends_with q.left t.0 ≡ true =
    ap (λ n. ends_with n t.0) (sym asks.left) ∙ sym (c.ends_with.ensures c.args.self.now.cells t.0 t.2) ∙ c.if-ends_with.true in
    (f, look_end q code place f t.0 true i t.1 (ap (λ b. b && ends_with q.left t.0) end ∙ right), h)

pub returns-in-None-2 : goal.returns-in-None-2
returns-in-None-2 c = λ q f asks h.
    let code = c.args.stream.now.code.now in
    let place = c.args.place in
    let e : option_and_then itself (slice_get c.args.self.now.shapes.items place) ≡ Some c.in-Some.shape =
    ap (λ xs. option_and_then itself (slice_get xs place)) (sym c.deref.ensures.value) ∙ sym c.shape_at.ensures ∙ c.in-Some.is in
    let i : slice_get code place ≡ None = got code place c.get.result c.get.ensures.lookup ∙ ap option_copied c.in-None.is in
    let t = has_shown q code c.args.self.now.cells c.args.self.now.shapes.items f.shapes place c.in-Some.shape h.shapes e in
    let end : nat_eq place (length code) ≡ true = grind (arith, nat_tests, c.if-place-stream.true) in
    let wrong : ends_with q.left t.0 ≡ false =
    ap (λ n. ends_with n t.0) (sym asks.left) ∙ sym (c.ends_with.ensures c.args.self.now.cells t.0 t.2) ∙ c.if-ends_with.false in
    look_end q code place f t.0 false i t.1 (ap (λ b. b && ends_with q.left t.0) end ∙ wrong)

pub returns-in-None-2-2 : goal.returns-in-None-2-2
returns-in-None-2-2 c = λ q f asks h.
    let code = c.args.stream.now.code.now in
    let place = c.args.place in
    let e : option_and_then itself (slice_get c.args.self.now.shapes.items place) ≡ Some c.in-Some.shape =
    ap (λ xs. option_and_then itself (slice_get xs place)) (sym c.deref.ensures.value) ∙ sym c.shape_at.ensures ∙ c.in-Some.is in
    let i : slice_get code place ≡ None = got code place c.get.result c.get.ensures.lookup ∙ ap option_copied c.in-None.is in
    let t = has_shown q code c.args.self.now.cells c.args.self.now.shapes.items f.shapes place c.in-Some.shape h.shapes e in
    let past : nat_eq place (length code) ≡ false = grind (arith, nat_tests, c.if-place-stream.false) in
    look_end q code place f t.0 false i t.1 (ap (λ b. b && ends_with q.left t.0) past)
