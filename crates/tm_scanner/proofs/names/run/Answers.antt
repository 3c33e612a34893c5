use Rattle.std.proofs.Common.{◌≡◌, ◌-◌, length, true, sym, ◌∙◌, ap, subst}
use Rattle.std.proofs.lemmas.Str.{IsCharBoundary-at_seam, IsUtf8-past_char, IsUtf8-take, chars-nil}
use Rattle.std.specs.Str.{chars, IsUtf8, IsCharBoundary}
use Rattle.std.specs.Prelude.{not}
use Rattle.tm_scanner.specs.Names.{leaves_name}
use Rattle.tm_scanner.proofs.Runs.{begins, goes_on, ends, left_less, seam, split_there}
use Rattle.tm_scanner.proofs.names.run.Goals as goal
use Rattle.tm_scanner.proofs.names.run.Goals.{in-Some+then-not-goes_on, in_default}

pub loop-c-init : goal.loop-c-init
loop-c-init c = (c.utf8.text, begins c.args.text.now)

pub loop-c-preserved : goal.loop-c-preserved
loop-c-preserved c = (
  IsUtf8-past_char _ _ _ c.loop-c.invariant.0 c.in-Some.ensures.value.1,
  goes_on _ _ _ _ _ c.loop-c.invariant.1 c.in-Some.ensures.value.1 c.in-Some.ensures.shorter c.in-Some.ensures.value.0
      (sym c.if-not-goes_on.ensures),
)

pub split_at-requires : goal.split_at-requires
split_at-requires c =
    let here = c.loop-c.invariant.1 in
    subst (IsCharBoundary c.args.text.now) (sym (seam _ _ _ here.bytes)) (IsCharBoundary-at_seam _ _ _ here.bytes c.loop-c.invariant.0)

pub returns : goal.returns
returns c =
    let text = c.args.text.now in
    let rest = c.loop-c.rest.now in
    let here = c.loop-c.invariant.1 in
    let place : IsCharBoundary text (length text - length rest) = subst (IsCharBoundary text) (sym (seam _ _ _ here.bytes))
    (IsCharBoundary-at_seam _ _ _ here.bytes c.loop-c.invariant.0) in
    let over : leaves_name (chars rest) ≡ true =
    elim c.match-first.branch [
      | in-Some+then-not-goes_on w ↦ ap leaves_name w.in-Some.ensures.value.0
          ∙ ap not (sym w.if-not-goes_on.ensures)
      | in_default w ↦ ap leaves_name (ap chars w.in_default.ensures.value
          ∙ chars-nil)
    ] in
    let parts = split_there text rest here.gone c.split_at.result.0.now c.split_at.result.1.now here.bytes c.split_at.ensures.front
    c.split_at.ensures.back in
    let done = ends text rest c.split_at.result.0.now c.split_at.result.1.now here over
    (subst IsUtf8 (sym c.split_at.ensures.front) (IsUtf8-take _ _ c.utf8.text place)) c.loop-c.invariant.0 parts.0 parts.1 in
    record { front = done.0; back = done.1; shorter = λ goes. rw parts.1 (left_less text rest here over goes) }
