use Rattle.std.proofs.Common.{◌∙◌, ◌<◌, ◌≤◌, arith, get_or, length, None, Some, ap, subst, sym}
use Rattle.tm_generator.specs.Caches.{IsNumberedOne}
use Rattle.tm_generator.proofs.NumberedAfter.{all_numbered, goes_on}
use Rattle.tm_generator.proofs.caches.number_caches.Goals as goal
use Rattle.tm_generator.proofs.caches.number_caches.Goals.{in-Some, in_default}

pub loop-place-preserved : goal.loop-place-preserved
loop-place-preserved c =
    let at = c.loop-place.place in
    let x = c.index-as_slice-place.result in
    let old = c.loop-place.names in
    let new = c.number.new.self in
    let within : c.loop-place.place < length c.loop-place.code = omega (arith, c.loop-place-test.true, c.len.ensures) in
    let read = c.index-as_slice-place.is ∙ ap (λ is. get_or is at x) c.as_slice.ensures in
    let one = c.in_ok-instruction.ensures.ok in
    elim c.match-branch-2.branch [
      | in-Some w ↦ (
          let r = goes_on at c.loop-place.code c.match-branch-2.code _ x old new (Some w.in-Some.instruction) within read
          (subst (λ o. IsNumberedOne old new x o) w.in-Some.is one) (w.code-is ∙ w.set.ensures) c.loop-place.invariant.2 in
          (r.0, c.in_ok-instruction.ensures.room, r.1)
          )
      | in_default w ↦ (
          let r = goes_on at c.loop-place.code c.match-branch-2.code _ x old new None within read
          (subst (λ o. IsNumberedOne old new x o) w.in_default.is one) w.code-is c.loop-place.invariant.2 in
          (r.0, c.in_ok-instruction.ensures.room, r.1)
          )
    ]

pub returns : goal.returns
returns c =
    let past : length c.loop-place.code ≤ c.loop-place.place = omega (arith, c.loop-place-test.false, c.len.ensures) in
    sym (all_numbered c.loop-place.place c.loop-place.names.filters c.loop-place.names.tests c.loop-place.code past)
    ∙ c.loop-place.invariant.2
