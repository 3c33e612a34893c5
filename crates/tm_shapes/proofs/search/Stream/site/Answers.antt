use Rattle.std.proofs.Common.{◌≡◌, ◌∙◌, ◌+◌, ap, refl, arith, drop, take, length, ◌-◌}
use Rattle.std.specs.Prelude.{slice_get}
use Rattle.tm_shapes.specs.Accepts.{adds}
use Rattle.tm_shapes.specs.Placed.{is_entered}
use Rattle.tm_shapes.specs.Sites.{is_marked, mark_of}
use Rattle.tm_shapes.proofs.Searching.{left_at, part_is}
use Rattle.tm_shapes.proofs.search.Stream.site.Goals as goal

pub returns : goal.returns
returns c = λ q asks.
    let code = c.args.self.now.code.now in
    let marks = c.args.self.now.entered.now in
    let n = c.args.place in
    let rest : take (length code - (n + 1)) (drop (n + 1) code) ≡ drop (n + 1) code = part_is code (n + 1) in
    let entered : take (length marks - n) (drop n marks) ≡ drop n marks = part_is marks n in
    let first : is_marked (drop n marks) 0 ≡ is_entered code n =
    ap mark_of (left_at marks n 0) ∙ ap (is_marked marks) (omega arith) ∙ c.requires.marks n in
    let second : is_marked (drop n marks) 1 ≡ is_entered code (n + 1) = ap mark_of (left_at marks n 1) ∙ c.requires.marks (n + 1) in
    let third : is_marked (drop n marks) 2 ≡ is_entered code (n + 2) = ap mark_of (left_at marks n 2) ∙ c.requires.marks (n + 2) in
    let next : adds (slice_get (drop (n + 1) code) 0) ≡ adds (slice_get code (n + 1)) =
    ap adds (left_at code (n + 1) 0) ∙ ap (λ k. adds (slice_get code k)) (omega arith) in
    record {
      place = refl;
      rest = rest;
      row = rw (rest, entered, second, third) refl;
      between = rw (rest, entered, first, second, next, c.is_after_swap.ensures) refl;
      reading = c.of.ensures ∙ asks.read n;
      returned = asks.returned;
      enters = asks.enters;
    }
