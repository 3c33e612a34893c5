use Rattle.std.proofs.Common.{◌≡◌, ◌-◌, length, drop, false}
use Rattle.mj_json.specs.Json.{decimal_outside, has_decimal}
use Rattle.mj_json.proofs.decimals.has_decimal.Given as goal

-- what is left says the same
abbrev pub invariant-loop-place : goal.invariant-loop-place
invariant-loop-place l = decimal_outside false (drop l.place l.bytes) ≡ has_decimal l.bytes

abbrev pub decreases-loop-place : goal.decreases-loop-place
decreases-loop-place l = length l.bytes - l.place
