use Rattle.std.proofs.Common.{◌≡◌, ℕ, ◌<◌, ◌≤◌, length}
use Rattle.std.specs.Prelude.{slice_index}
use Rattle.tm_delimiters.proofs.front.is_front.Given as goal

abbrev pub invariant-loop-place : goal.invariant-loop-place
invariant-loop-place l = (l.place ≤ length l.word) × (length l.word ≤ length l.bytes)
    × ((k : ℕ) → l.place ≤ k → k < length l.word → slice_index l.bytes k ≡ slice_index l.word k)

abbrev pub decreases-loop-place : goal.decreases-loop-place
decreases-loop-place l = l.place
