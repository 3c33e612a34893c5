use Rattle.std.proofs.Common.{◌∙◌, ◌∷◌, [], ◌-◌, Ok, Some, ap, subst, sym, arith, reverse, take}
use Rattle.tm_meaning.specs.World.{Scopes, in_frames}
use Rattle.tm_scopes.specs.Found.{IsHeld}
use Rattle.tm_scopes.specs.Marks.{framed}
use Rattle.tm_scopes.proofs.Framed.{found-further, found-own, own-indexed, rest-marked, rest-within, scope-passes, scope-stops}
use Rattle.tm_scopes.proofs.context.Context.find_at_once.Goals as goal

pub get-requires : goal.get-requires
get-requires c =
    own-indexed c.self.inside.marks.items c.loop-i.i c.index-mark.result.now c.self.inside.pairs.items c.loop-i.end
    c.loop-i-test.true c.loop-i.invariant.0 c.index-mark.ensures c.loop-i.invariant.2 c.deref.result.now c.deref.ensures.value

pub returns-in-Some : goal.returns-in-Some
returns-in-Some c = λ view.
    let x = c.args.name.now in
    ap (λ (scopes : Scopes). in_frames view x scopes.frames) (sym c.self.view_is) ∙ c.loop-i.invariant.3 view
    ∙ found-own c.self.inside.marks.items c.loop-i.i c.index-mark.result.now c.self.inside.pairs.items c.loop-i.end
    c.loop-i-test.true c.loop-i.invariant.0 c.index-mark.ensures c.loop-i.invariant.2 c.deref.result.now c.deref.ensures.value view x c.in-Some.own.now c.in-Some.ensures

pub returns-in-Some-2 : goal.returns-in-Some-2
returns-in-Some-2 c = λ view.
    let x = c.args.name.now in
    let frame = c.index-mark.result.now.frame in
    let others = framed (reverse (take (c.loop-i.i - 1) c.self.inside.marks.items)) (take c.index-mark.result.now.first c.self.inside.pairs.items) in
    ap (λ (scopes : Scopes). in_frames view x scopes.frames) (sym c.self.view_is) ∙ c.loop-i.invariant.3 view
    ∙ found-further c.self.inside.marks.items c.loop-i.i c.index-mark.result.now c.self.inside.pairs.items c.loop-i.end
    c.loop-i-test.true c.loop-i.invariant.0 c.index-mark.ensures c.loop-i.invariant.2 c.deref.result.now c.deref.ensures.value view x c.in-None.ensures
    ∙ scope-stops view x frame others c.in-Some-2.member.now
    (subst (λ o. IsHeld (Ok o) (in_frames view x (frame ∷ []))) c.in-Some-2.is (c.in_ok-member.ensures view))

pub loop-i-preserved : goal.loop-i-preserved
loop-i-preserved c =
    let x = c.args.name.now in
    let frame = c.index-mark.result.now.frame in
    let others = framed (reverse (take (c.loop-i.i - 1) c.self.inside.marks.items)) (take c.index-mark.result.now.first c.self.inside.pairs.items) in (
      omega (arith, c.loop-i.invariant.0),
      rest-within c.self.inside.marks.items c.loop-i.i c.index-mark.result.now c.self.inside.pairs.items c.loop-i.end
          c.loop-i-test.true c.loop-i.invariant.0 c.index-mark.ensures c.loop-i.invariant.2,
      rest-marked c.self.inside.marks.items c.loop-i.i c.index-mark.result.now c.self.inside.pairs.items c.loop-i.end
          c.loop-i-test.true c.loop-i.invariant.0 c.index-mark.ensures c.loop-i.invariant.2,
      λ view.
          c.loop-i.invariant.3 view
          ∙ found-further c.self.inside.marks.items c.loop-i.i c.index-mark.result.now c.self.inside.pairs.items c.loop-i.end
          c.loop-i-test.true c.loop-i.invariant.0 c.index-mark.ensures c.loop-i.invariant.2 c.deref.result.now c.deref.ensures.value view x c.in-None.ensures
          ∙ scope-passes view x frame others
          (subst (λ o. IsHeld (Ok o) (in_frames view x (frame ∷ []))) c.in-None-2.is (c.in_ok-member.ensures view)),
    )
