use Rattle.std.proofs.lemmas.Grind.{common_steps}
use Rattle.std.proofs.Common.{◌≡◌, ◌<◌, ◌+◌, ◌++◌, ℕ, [], ◌∷◌, get_or, length, ap, ◌∙◌, arith, subst}
use Rattle.std.proofs.lemmas.Str.{IsCharBoundary-start, IsCharBoundary-after_ascii}
use Rattle.tm_output.proofs.Written.{all_ahead, rest_is, past}
use Rattle.tm_printing.proofs.Runs.{left, plain_step, spelled_step}
use Rattle.tm_printing.proofs.text.write_spelled.Goals as goal
use Rattle.tm_printing.proofs.text.write_spelled.Goals.{in-Some+in_ok-take_text+in_ok-take_text-2, in_default}

pub loop-i-init : goal.loop-i-init
loop-i-init g c = record { in_order = omega arith; boundary = IsCharBoundary-start c.args.text.now c.utf8.text; ahead = all_ahead }

-- a byte that is spelled another way ends the run that waits; any other one joins it
pub loop-i-preserved : goal.loop-i-preserved
loop-i-preserved g c =
    let spelled = g.S.Spelling.spelled in
    let laws = g.met.T.Target.laws in
    let bs = c.args.text.now in
    let i = c.loop-i.i in
    let start = c.loop-i.start in
    let so_far = c.loop-i.invariant.ahead in
    let within : i < length bs = omega (arith, c.as_bytes-byte-items.ensures.len) in
    let same : get_or c.as_bytes-byte-items.result.now i 0 ≡ get_or bs i 0 = cc in
    elim c.match-spelling.branch [
      | in-Some+in_ok-take_text+in_ok-take_text-2 w ↦
          let low : get_or bs i 0 < 128 = subst (λ (b : ℕ). b < 128) same w.in-Some.ensures.ascii in
          let is : w.in-Some.spelling.now ≡ spelled (get_or bs i 0) = w.in-Some.ensures.spelled ∙ ap spelled same in
          let begins : left spelled bs start i ≡ w.range.result.now ++ (w.in-Some.spelling.now ++ left spelled bs (i + 1) (i + 1)) =
          rw (w.range.ensures.value, is) (spelled_step spelled bs start i within) in
          let run = past laws (rest_is begins so_far) w.in_ok-take_text.ensures in
          rw (w.start-is, w.target-is) (record {
            in_order = omega arith;
            boundary = IsCharBoundary-after_ascii bs i c.utf8.text within low;
            ahead = past laws run w.in_ok-take_text-2.ensures;
          })
      | in_default w ↦
          let plain : spelled (get_or bs i 0)
          ≡ get_or bs i 0 ∷ [] = subst (λ (b : ℕ). spelled b ≡ b ∷ []) same w.in_default.ensures.spelled in
          let waits = rest_is (plain_step spelled bs start i (omega arith) within plain) so_far in
          rw (w.start-is, w.target-is) (record { in_order = omega arith; boundary = c.loop-i.invariant.boundary; ahead = waits })
    ]

pub returns : goal.returns
returns g c = grind (arith, common_steps)
