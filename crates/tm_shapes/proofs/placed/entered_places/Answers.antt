use Rattle.std.proofs.Common.{◌≡◌, ◌∙◌, ◌+◌, ◌||◌, ◌&&◌, ℕ, List, drop, length, false, true, ap, sym, subst, refl, arith}
use Rattle.std.proofs.lemmas.List.{length-replicate}
use Rattle.tm_shapes.specs.Marks.{is_among, with_mark}
use Rattle.tm_shapes.specs.Placed.{is_at, is_entered, is_within, target, targets_within}
use Rattle.tm_shapes.specs.Sites.{is_marked}
use Rattle.tm_shapes.proofs.placed.entered_places.Goals as goal
use Rattle.tm_shapes.proofs.Marking.{among_within, mark_moves, none_marked, or_false, with_marked}
use Rattle.tm_shapes.proofs.Rests.{next, none_left}

pub loop-instruction-init : goal.loop-instruction-init
loop-instruction-init c =
    let code = c.args.code.now in
    let is = c.in_ok-marks.ensures.items_if_clones_equal (λ y e. e) in
    record {
      long = ap length is ∙ length-replicate (length code + 1) false;
      within = refl;
      marked = λ n. ap (λ ms. is_marked ms n || is_entered code n) is ∙ ap (λ b. b || is_entered code n) (none_marked (length code + 1) n);
    }

pub loop-instruction-preserved : goal.loop-instruction-preserved
loop-instruction-preserved c =
    let code = c.args.code.now in
    let x = c.instruction-item.result in
    let old = c.loop-instruction.marks.items in
    let left = drop (c.loop-instruction.instruction-index + 1) code in
    let rest = next code c.loop-instruction.instruction-index x c.loop-instruction-test.true c.instruction-item.is in
    let long = c.loop-instruction.invariant.long in
    let among : is_among (length old) (target x) ≡ true =
    ap (is_among (length old)) (sym c.target.ensures) ∙ sym c.if-not-mark.ensures.within in
    let within : is_within (length code) (target x) ≡ true =
    sym (among_within (length code) (target x)) ∙ ap (λ k. is_among k (target x)) (sym long) ∙ among in
    let made = c.mark.ensures.marked c.if-not-mark.false ∙ ap (λ o. with_mark o old) c.target.ensures in
    record {
      long = c.mark.ensures.long ∙ long;
      within = sym (ap (λ b. b && targets_within (length code) left) within)
          ∙ sym (ap (targets_within (length code)) rest) ∙ c.loop-instruction.invariant.within;
      marked = λ n. ap (λ ms. is_marked ms n || is_entered left n) made
          ∙ ap (λ b. b || is_entered left n) (with_marked (target x) old n among)
          ∙ mark_moves (is_at (target x) n) (is_marked old n) (is_entered left n) (is_entered code n)
          (sym (ap (λ is. is_marked old n || is_entered is n) rest) ∙ c.loop-instruction.invariant.marked n);
    }

pub returns : goal.returns
returns c =
    let code = c.args.code.now in
    let marks = c.loop-instruction.marks.items in
    let none = none_left code c.loop-instruction.instruction-index c.loop-instruction-test.false in
    let read = c.loop-instruction.invariant in (
      sym read.within ∙ ap (targets_within (length code)) none,
      omega (arith, read.long),
      λ n. sym (or_false (is_marked marks n)) ∙ ap (λ is. is_marked marks n || is_entered is n) (sym none) ∙ read.marked n,
    )

pub returns-then-not-mark : goal.returns-then-not-mark
returns-then-not-mark c =
    let code = c.args.code.now in
    let x = c.instruction-item.result in
    let old = c.loop-instruction.marks.items in
    let left = drop (c.loop-instruction.instruction-index + 1) code in
    let rest = next code c.loop-instruction.instruction-index x c.loop-instruction-test.true c.instruction-item.is in
    let among : is_among (length old) (target x) ≡ false =
    ap (is_among (length old)) (sym c.target.ensures) ∙ sym c.if-not-mark.ensures.within in
    let within : is_within (length code) (target x) ≡ false =
    sym (among_within (length code) (target x)) ∙ ap (λ k. is_among k (target x)) (sym c.loop-instruction.invariant.long) ∙ among in
    sym c.loop-instruction.invariant.within ∙ ap (targets_within (length code)) rest ∙ ap (λ b. b && targets_within (length code) left) within
