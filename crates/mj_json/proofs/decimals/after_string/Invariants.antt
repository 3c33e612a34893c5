use Rattle.std.proofs.Common.{◌≡◌, ◌≤◌, ◌-◌, length, drop, false}
use Rattle.mj_json.specs.Json.{decimal_inside}
use Rattle.mj_json.proofs.decimals.after_string.Given as goal

-- what is left says the same
abbrev pub invariant-loop-place : goal.invariant-loop-place
invariant-loop-place l = record {
  value : decimal_inside false (drop l.place l.bytes) ≡ decimal_inside false (drop l.fn.start l.bytes);
  forward : l.fn.start ≤ l.place;
}

abbrev pub decreases-loop-place : goal.decreases-loop-place
decreases-loop-place l = length l.bytes - l.place
