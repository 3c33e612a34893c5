use Rattle.std.proofs.Common.{arith, ◌≡◌, ◌<◌, ℕ, zero, suc, false, sym, ◌∙◌, ap, length}
use Rattle.std.specs.Prelude.{◌==◌}
use Rattle.std.proofs.lemmas.Str.{IsCharBoundary-after_ascii}
use Rattle.tm_delimiters.proofs.front.ascii.Goals as goal

positive : (n : ℕ) → (n == 0) ≡ false → 0 < n
positive zero h = cc
positive (suc n) h = omega arith

pub range_from-requires : goal.range_from-requires
range_from-requires c = λ _.
    IsCharBoundary-after_ascii c.args.text.now 0 c.utf8.text
    (positive (length c.args.text.now) (ap (λ n. n == 0) (sym c.as_bytes-bytes.ensures.len) ∙ sym c.is_empty.ensures ∙ c.if-is_empty.false))
    (rw c.as_bytes-bytes.ensures.value at c.if-byte-lt128.true)
