use Rattle.std.proofs.Common.{◌-◌}
use Rattle.mj_json.proofs.Pairs.{NoPairs}
use Rattle.mj_json.proofs.decimals.may_have_decimal.Given as goal

-- no digit before `at` comes before what begins a fraction or an exponent
abbrev pub invariant-loop-at : goal.invariant-loop-at
invariant-loop-at l = NoPairs l.bytes 0 l.at

abbrev pub decreases-loop-at : goal.decreases-loop-at
decreases-loop-at l = l.last - l.at
