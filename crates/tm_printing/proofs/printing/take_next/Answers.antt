use Rattle.tm_printing.proofs.Weights.{power_positive, item_lighter, key_lighter, value_lighter, end_positive}
use Rattle.tm_printing.specs.Left.{power}
use Rattle.tm_values.specs.Val.{val_size, vals_size, pairs_size, vals_of, pairs_of}
use Rattle.tm_printing.proofs.printing.take_next.Goals as goal

pub returns-in-Some-clause-weight : goal.returns-in-Some-clause-weight
returns-in-Some-clause-weight c = λ k pos.
    let p = power k c.in-Items.levels in
    rw c.in-Items.is
    (item_lighter c.in-Some.value.now c.in-Some.left.now c.in-Items.left.now p c.in-Some.ensures.cases.0 (power_positive k
    c.in-Items.levels pos))

pub returns-in-None-clause-weight : goal.returns-in-None-clause-weight
returns-in-None-clause-weight c = λ k pos.
    rw c.in-Items.is (end_positive (vals_size (vals_of c.in-Items.left.now)) (power k c.in-Items.levels) (power_positive k
    c.in-Items.levels pos))

pub returns-in-Some-split_first-clause-weight : goal.returns-in-Some-split_first-clause-weight
returns-in-Some-split_first-clause-weight c = λ k pos.
    let next = c.in-Some-split_first in
    let p = power k c.in-Pairs.levels in
    rw c.in-Pairs.is
    (key_lighter next.pair.now next.left.now c.in-Pairs.left.now p next.ensures.cases.0 (power_positive k c.in-Pairs.levels pos))

pub returns-in-None-split_first-clause-weight : goal.returns-in-None-split_first-clause-weight
returns-in-None-split_first-clause-weight c = λ k pos.
    rw c.in-Pairs.is (end_positive (pairs_size (pairs_of c.in-Pairs.left.now)) (power k c.in-Pairs.levels) (power_positive k
    c.in-Pairs.levels pos))

pub returns-in-Member-clause-weight : goal.returns-in-Member-clause-weight
returns-in-Member-clause-weight c = λ k pos.
    let m = c.in-Member in
    rw m.is (value_lighter (val_size m.value.now) (pairs_size (pairs_of m.left.now)) (power k m.levels) (power_positive k m.levels pos))
