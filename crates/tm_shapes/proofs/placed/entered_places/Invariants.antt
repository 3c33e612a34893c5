use Rattle.std.proofs.Common.{◌≡◌, ℕ, ◌+◌, ◌||◌, drop, length}
use Rattle.tm_shapes.specs.Placed.{is_entered, targets_within}
use Rattle.tm_shapes.specs.Sites.{is_marked}
use Rattle.tm_shapes.proofs.placed.entered_places.Given as goal

-- What was read is marked, and what is left is entered.
abbrev pub invariant-loop-instruction : goal.invariant-loop-instruction
invariant-loop-instruction l =
    let left = drop l.instruction-index l.code in
    record {
      long : length l.marks.items ≡ length l.code + 1;
      within : targets_within (length l.code) left ≡ targets_within (length l.code) l.code;
      marked : (n : ℕ) → (is_marked l.marks.items n || is_entered left n) ≡ is_entered l.code n;
    }
