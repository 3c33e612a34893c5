use Rattle.std.proofs.Common.{◌≡◌, ◌∙◌, ◌++◌, ◌+◌, ◌-◌, ap, [], ◌∷◌, arith, length}
use Rattle.tm_records.proofs.Binding.{bound_plainly, one_undefined, too_many_for, undefineds}
use Rattle.tm_records.proofs.bound.bind_plain.Goals as goal

pub returns-then-plain-names : goal.returns-then-plain-names
returns-then-plain-names c = λ m. (
  c.from.ensures,
  too_many_for c.args.names.now c.args.plain.now [] (omega (arith, c.if-plain-names.true)),
)

pub loop-place-2-preserved : goal.loop-place-2-preserved
loop-place-2-preserved c =
    let more = c.loop-place-2-test.true in
    let all = c.args.plain.now ++ undefineds (length c.args.names.now - length c.args.plain.now) in (
      omega (arith, more),
      c.loop-place-2.invariant.1,
      ap (λ vs. vs ++ undefineds (length c.args.names.now - (c.loop-place-2.place + 1))) (c.in_ok-push-2.ensures.items
          ∙ ap (λ v. c.loop-place-2.given.items ++ v ∷ []) c.undefined.ensures)
          ∙ one_undefined (length c.args.names.now) c.loop-place-2.place c.loop-place-2.given.items all
          (omega (arith, more)) c.loop-place-2.invariant.2,
    )

pub returns : goal.returns
returns c =
    bound_plainly c.args.names.now c.args.plain.now c.loop-place-2.given.items c.loop-place-2.place c.loop-place-2.invariant.1
    (omega (arith, c.loop-place-2-test.false)) c.loop-place-2.invariant.0 c.loop-place-2.invariant.2
