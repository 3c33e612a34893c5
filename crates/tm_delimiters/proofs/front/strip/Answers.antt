use Rattle.std.proofs.Common.{◌≡◌, arith, true, false, sym, ◌∙◌, ap, subst, Some, length, length-drop}
use Rattle.std.specs.Prelude.{is_some}
use Rattle.std.specs.Str.{IsUtf8}
use Rattle.std.proofs.lemmas.Str.{IsCharBoundary-from_take}
use Rattle.tm_delimiters.specs.Front.{after}
use Rattle.tm_delimiters.proofs.Places.{stripped, unlike}
use Rattle.tm_delimiters.proofs.front.strip.Goals as goal

pub range_from-requires : goal.range_from-requires
range_from-requires c = λ _.
    let found : is_some (after c.args.word.now c.args.text.now) ≡ true =
    rw (c.as_bytes.ensures.value, c.as_bytes-2.ensures.value) at (sym c.is_front.ensures ∙ c.if-is_front.true) in
    let front = stripped c.args.word.now c.args.text.now found in
    IsCharBoundary-from_take c.args.text.now (length c.args.word.now) c.utf8.text front.fits (subst IsUtf8 (sym front.front) c.utf8.word)

pub returns-then-is_front-clause-value : goal.returns-then-is_front-clause-value
returns-then-is_front-clause-value c =
    let found : is_some (after c.args.word.now c.args.text.now) ≡ true =
    rw (c.as_bytes.ensures.value, c.as_bytes-2.ensures.value) at (sym c.is_front.ensures ∙ c.if-is_front.true) in
    ap Some c.range_from.ensures.value ∙ sym (stripped c.args.word.now c.args.text.now found).left

pub returns-then-is_front-clause-len : goal.returns-then-is_front-clause-len
returns-then-is_front-clause-len c =
    let found : is_some (after c.args.word.now c.args.text.now) ≡ true =
    rw (c.as_bytes.ensures.value, c.as_bytes-2.ensures.value) at (sym c.is_front.ensures ∙ c.if-is_front.true) in
    let front = stripped c.args.word.now c.args.text.now found in
    omega (arith, front.fits, ap length c.range_from.ensures.value, length-drop (length c.args.word.now) c.args.text.now)

pub returns-else-is_front-clause-value : goal.returns-else-is_front-clause-value
returns-else-is_front-clause-value c =
    let none : is_some (after c.args.word.now c.args.text.now) ≡ false =
    rw (c.as_bytes.ensures.value, c.as_bytes-2.ensures.value) at (sym c.is_front.ensures ∙ c.if-is_front.false) in
    sym (unlike c.args.word.now c.args.text.now none)
