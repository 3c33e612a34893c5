use Rattle.std.proofs.Common.{sym}
use Rattle.std.proofs.lemmas.Str.{IsUtf8-past_char}
use Rattle.std.specs.Str.Iter.{chars_rest}
use Rattle.tm_primitives.proofs.Texts.{drop_more, some_from}
use Rattle.tm_primitives.proofs.characters.skip_each.Goals as goal

pub loop-left-preserved : goal.loop-left-preserved
loop-left-preserved c =
    let step = some_from c.next.result _ _ (sym c.if-is_some.ensures) c.next.ensures.steps.0 in
    record {
      text = IsUtf8-past_char (chars_rest c.loop-left.rest) (chars_rest c.next.new.self) step.0 c.loop-left.invariant.text step.1;
      rest = drop_more (chars_rest c.loop-left.rest)
          (chars_rest c.next.new.self) _ step.0 c.loop-left.left c.loop-left.invariant.text step.1 c.loop-left-test.true
          c.loop-left.invariant.rest;
    }
