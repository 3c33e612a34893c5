use Rattle.std.proofs.Common.{◌≡◌, ◌∙◌, ◌+◌, ℕ, zero, suc, List, [], ◌∷◌, get_or, drop, false, arith, refl}
use Rattle.mj_json.specs.Json.{decimal_inside}
use Rattle.mj_json.proofs.decimals.after_string.Goals as goal

-- 92 is a backslash: the byte after it ends no string
escaped : (bs : List ℕ) (i : ℕ) → get_or bs i 0 ≡ 92 → decimal_inside false (drop (suc (suc i)) bs) ≡ decimal_inside false (drop i bs)
escaped [] i is = absurd cc
escaped (b ∷ []) zero is = rw is refl
escaped (b ∷ c ∷ bs) zero is = rw is refl
escaped (b ∷ bs) (suc i) is = escaped bs i is

pub loop-place-preserved-in-92 : goal.loop-place-preserved-in-92
loop-place-preserved-in-92 c =
    let place = c.loop-place.place in
    let two : place + 2 ≡ suc (suc place) = omega arith in
    record {
      value = rw two (escaped c.args.bytes.now place c.in-92.is ∙ c.loop-place.invariant.value);
      forward = omega (arith, c.loop-place.invariant.forward);
    }
