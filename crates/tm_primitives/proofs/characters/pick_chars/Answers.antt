use Rattle.std.proofs.Common.{ℕ, ◌++◌, length, ◌∙◌, ap}
use Rattle.std.proofs.lemmas.Grind.{get_or_default_zero}
use Rattle.std.specs.Char.{encode_utf8}
use Rattle.std.specs.String.{string_bytes}
use Rattle.tm_primitives.proofs.Picks.{inside_first, inside_more, picked_more}
use Rattle.tm_primitives.proofs.characters.pick_chars.Goals as goal

pub loop-place-preserved : goal.loop-place-preserved
loop-place-preserved c =
    let table = c.args.table.now in
    let next = c.in-Some.ensures.some in
    let first = inside_first (length table) c.in-Some.place c.loop-place.places c.next.new.self next c.loop-place.invariant.inside in
    let read = c.index-table-place.is ∙ get_or_default_zero table c.in-Some.place c.index-table-place.result first in
    let pushed = c.in_ok-push.ensures.bytes ∙ ap (λ (x : ℕ). string_bytes c.loop-place.out ++ encode_utf8 x) read in
    record {
      inside = inside_more (length table) c.in-Some.place c.loop-place.places c.next.new.self next c.loop-place.invariant.inside;
      whole = picked_more table c.loop-place.places c.next.new.self (string_bytes c.loop-place.out)
          (string_bytes c.push.new.self) _ c.in-Some.place next pushed c.loop-place.invariant.whole;
    }
