use Rattle.std.proofs.Common.{arith, ◌≡◌, ℕ, length, length-append, drop, sym, ◌∙◌, ap, zero-add}
use Rattle.std.proofs.lemmas.Str.{IsCharBoundary-at_seam, IsUtf8-past_char, chars_past_char, drop_past_char, length-encode, len_utf8_bounds}
use Rattle.tm_delimiters.proofs.front.decoded.Goals as goal

pub range_from-requires : goal.range_from-requires
range_from-requires c =
    let split = sym c.chars.ensures.rest ∙ c.in-Some.ensures.steps.0 in
    rw c.len_utf8.ensures.len (λ _. IsCharBoundary-at_seam _ _ _ split (IsUtf8-past_char _ _ _ c.utf8.text split))

pub returns-in-Some-clause-value : goal.returns-in-Some-clause-value
returns-in-Some-clause-value c =
    let text = c.args.text.now in
    let rest = c.next.new.self.rest.now in
    let split = sym c.chars.ensures.rest ∙ c.in-Some.ensures.steps.0 in
    let cut_off : c.range_from.result.now ≡ rest = c.range_from.ensures.value
    ∙ ap (λ n. drop n text) (c.len_utf8.ensures.value ∙ sym (zero-add _)) ∙ drop_past_char text rest 0 c.in-Some.c split in
    rw cut_off (chars_past_char text rest c.in-Some.c c.utf8.text split, split)

pub returns-in-Some-clause-shorter : goal.returns-in-Some-clause-shorter
returns-in-Some-clause-shorter c =
    let text = c.args.text.now in
    let rest = c.next.new.self.rest.now in
    let split = sym c.chars.ensures.rest ∙ c.in-Some.ensures.steps.0 in
    let cut_off : c.range_from.result.now ≡ rest = c.range_from.ensures.value
    ∙ ap (λ n. drop n text) (c.len_utf8.ensures.value ∙ sym (zero-add _)) ∙ drop_past_char text rest 0 c.in-Some.c split in
    rw cut_off (omega (arith, ap length split, length-append {A = ℕ}, length-encode c.in-Some.c, (len_utf8_bounds c.in-Some.c).0))
