use Rattle.std.proofs.Common.{◌≡◌, ◌<◌, ◌+◌, ◌++◌, ℕ, [], ◌∷◌, get_or, length, ap, ◌∙◌, arith, subst}
use Rattle.std.proofs.lemmas.Str.{IsCharBoundary-start, IsCharBoundary-after_ascii}
use Rattle.tm_definitions.specs.Texts.{in_html}
use Rattle.tm_output.proofs.Written.{all_ahead, rest_is, past}
use Rattle.tm_printing.proofs.Runs.{left, plain_step, plain_steps, spelled_step}
use Rattle.tm_printing.specs.Plain.{PlainBetween}
use Rattle.tm_printing.proofs.html.write_long_text.Goals as goal

pub loop-place-init : goal.loop-place-init
loop-place-init g c = record { in_order = omega arith; inside = omega arith; boundary = IsCharBoundary-start c.args.text.now c.utf8.text; ahead = all_ahead }

-- a byte that is spelled another way ends the run that waits
pub loop-place-preserved-in-Some : goal.loop-place-preserved-in-Some
loop-place-preserved-in-Some g c =
    let laws = g.met.T.Target.laws in
    let bs = c.args.text.now in
    let i = c.loop-place.place in
    let start = c.loop-place.start in
    let within : i < length bs = omega (arith, c.as_bytes-bytes.ensures.len) in
    let same : get_or c.as_bytes-bytes.result.now i 0 ≡ get_or bs i 0 = cc in
    let low : get_or bs i 0 < 128 = subst (λ (b : ℕ). b < 128) same c.in-Some.ensures.ascii in
    let is : c.in-Some.spelling.now ≡ in_html (get_or bs i 0) = c.in-Some.ensures.spelled ∙ ap in_html same in
    let begins : left in_html bs start i ≡ c.range.result.now ++ (c.in-Some.spelling.now ++ left in_html bs (i + 1) (i + 1)) =
    rw (c.range.ensures.value, is) (spelled_step in_html bs start i within) in
    let run = past laws (rest_is begins c.loop-place.invariant.ahead) c.in_ok-take_text-in-Some.ensures in
    record {
      in_order = omega arith;
      inside = omega arith;
      boundary = IsCharBoundary-after_ascii bs i c.utf8.text within low;
      ahead = past laws run c.in_ok-take_text-in-Some-2.ensures;
    }

-- any other one joins it, with those that were passed over
pub loop-place-preserved : goal.loop-place-preserved
loop-place-preserved g c =
    let bs = c.args.text.now in
    let i = c.loop-place.place in
    let start = c.loop-place.start in
    let within : i < length bs = omega (arith, c.as_bytes-bytes.ensures.len) in
    let same : get_or c.as_bytes-bytes.result.now i 0 ≡ get_or bs i 0 = cc in
    let plain : in_html (get_or bs i 0) ≡ get_or bs i 0 ∷ [] = subst (λ (b : ℕ). in_html b ≡ b ∷ []) same c.in-None-2.ensures.spelled in
    let passed : PlainBetween in_html bs (i + 1) c.past_plain-place.result =
    rw c.as_bytes-bytes.ensures.value at c.past_plain-place.ensures.plain in
    let waits = plain_step in_html bs start i (omega arith) within plain
    ∙ plain_steps in_html bs start (i + 1) c.past_plain-place.result (omega arith) c.past_plain-place.ensures.ahead (omega arith) passed in
    record {
      in_order = omega arith;
      inside = omega arith;
      boundary = c.loop-place.invariant.boundary;
      ahead = rest_is waits c.loop-place.invariant.ahead;
    }
