use Rattle.std.proofs.Common.{◌≡◌, ◌≢◌, ◌<◌, ◌≤◌, pos, ap, sym, ◌∙◌, Err, of_z}
use Rattle.std.proofs.lemmas.Int.{to_z-of_z}
use Rattle.std.specs.Int.{w64}
use Rattle.std.specs.Int.RustNames.{FitsSigned}
use Rattle.tm_operations.proofs.Counted.{refused_count, served_count, in_range}
use Rattle.tm_definitions.specs.Ranges.{Span, count_of}
use Rattle.tm_operations.proofs.ranges.numbers.Goals as goal

-- too many numbers
pub returns-then-count-gt-MOST : goal.returns-then-count-gt-MOST
returns-then-count-gt-MOST c =
    let s : Span = record { start = c.args.start; stop = c.args.stop; step = c.args.step } in
    let start : FitsSigned w64 c.args.start = c.ranges.start in
    let stop : FitsSigned w64 c.args.stop = c.ranges.stop in
    let step : FitsSigned w64 c.args.step = c.ranges.step in
    let count : c.count_before-count.result ≡ count_of s = simp to_z-of_z at c.count_before-count.ensures in
    let most : 100000 < c.count_before-count.result = c.if-count-gt-MOST.true in
    λ _. refused_count s (rw (← count) most) ∙ ap Err (sym c.too_long.ensures)

-- each stands between the bounds
pub list_from-requires-clause-in_range : goal.list_from-requires-clause-in_range
list_from-requires-clause-in_range c =
    let s : Span = record { start = c.args.start; stop = c.args.stop; step = c.args.step } in
    let start : FitsSigned w64 c.args.start = c.ranges.start in
    let stop : FitsSigned w64 c.args.stop = c.ranges.stop in
    let step : FitsSigned w64 c.args.step = c.ranges.step in
    let count : c.count_before-count.result ≡ count_of s = simp to_z-of_z at c.count_before-count.ensures in
    let some : c.args.step ≢ pos 0 = λ e. c.if-step-eq0.false (ap (of_z w64) e) in
    simp (to_z-of_z, count) (in_range s some start stop)

-- not too many
pub returns : goal.returns
returns c =
    let s : Span = record { start = c.args.start; stop = c.args.stop; step = c.args.step } in
    let start : FitsSigned w64 c.args.start = c.ranges.start in
    let stop : FitsSigned w64 c.args.stop = c.ranges.stop in
    let step : FitsSigned w64 c.args.step = c.ranges.step in
    let count : c.count_before-count.result ≡ count_of s = simp to_z-of_z at c.count_before-count.ensures in
    let most : c.count_before-count.result ≤ 100000 = c.if-count-gt-MOST.false in
    let some : c.args.step ≢ pos 0 = λ e. c.if-step-eq0.false (ap (of_z w64) e) in
    let listed = simp to_z-of_z at c.list_from.ensures in
    rw (served_count s some (rw (← count) most), ← count) listed
