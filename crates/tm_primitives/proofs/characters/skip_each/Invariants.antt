use Rattle.std.proofs.Common.{◌≡◌, drop}
use Rattle.std.specs.Str.{chars, IsUtf8}
use Rattle.std.specs.Str.Iter.{chars_rest}
use Rattle.tm_primitives.proofs.characters.skip_each.Given as goal

-- what is still to be skipped of the rest, is of the text
abbrev pub invariant-loop-left : goal.invariant-loop-left
invariant-loop-left l = record {
  text : IsUtf8 (chars_rest l.rest);
  rest : drop l.left (chars (chars_rest l.rest))
      ≡ drop l.fn.place (chars l.text);
}

abbrev pub decreases-loop-left : goal.decreases-loop-left
decreases-loop-left l = l.left
