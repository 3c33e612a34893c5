use Rattle.std.proofs.Common.{arith, sym, ◌-◌}
use Rattle.tm_delimiters.proofs.Places.{all_same, one_differs, too_short}
use Rattle.tm_delimiters.proofs.front.is_front.Goals as goal

pub returns-then-bytes-word : goal.returns-then-bytes-word
returns-then-bytes-word c = sym (too_short c.args.word.now c.args.bytes.now (omega arith))

pub returns-then-bytes-place : goal.returns-then-bytes-place
returns-then-bytes-place c = sym (one_differs c.args.word.now c.args.bytes.now (c.loop-place.place - 1) (omega arith) c.if-bytes-place.true)

pub returns : goal.returns
returns c = sym (all_same c.args.word.now c.args.bytes.now (omega arith) (λ k less. c.loop-place.invariant.2 k (omega arith) less))
