use Rattle.std.proofs.Common.{rules, arith, inr, sym, ◌∙◌, ◌++◌, ap}
use Rattle.tm_scanner.proofs.Literals.{goes_on, no_text}
use Rattle.tm_scanner.proofs.texts.literal.Goals as goal

pub loop-character-preserved : goal.loop-character-preserved
loop-character-preserved c = (
  search rules,
  goes_on c.args.quote c.args.text.now _ c.loop-character.rest.now c.in-Some-escape.after.now c.run-in-Some-escape.result.0.now
      c.run-in-Some-escape.result.1.now _ c.in-Some-escape.character
      c.loop-character.invariant.1 (sym c.in-Some-escape.ensures.value) c.run-in-Some-escape.ensures.value
      (c.in_ok-push_str.ensures.bytes ∙ ap (λ w. w ++ c.run-in-Some-escape.result.0.now) c.in_ok-push.ensures.bytes),
  omega (arith, c.loop-character.invariant.2, c.in-Some-escape.ensures.shorter, c.run-in-Some-escape.ensures.no_longer),
)

pub returns-clause-refused : goal.returns-clause-refused
returns-clause-refused c = inr (
  c.from.ensures,
  no_text _ _ _ _ c.loop-character.invariant.1 (sym c.in_default-escape.ensures.value) (sym c.in-None.ensures.value),
)
