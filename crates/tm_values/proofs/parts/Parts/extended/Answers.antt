use Rattle.std.proofs.Common.{arith, ◌≡◌, ◌∙◌, ◌+◌, ◌++◌, [], sym, ap}
use Rattle.std.proofs.lemmas.List.{drop_all}
use Rattle.tm_values.proofs.Sizes.{vals_joined}
use Rattle.tm_values.proofs.Writables.{both_none, vals_both}
use Rattle.tm_values.specs.Val.{vals_of, vals_size}
use Rattle.tm_values.specs.Writable.{both, vals_writable}
use Rattle.tm_values.proofs.parts.Parts.extended.Goals as goal

-- the loop's sums have all of `more`, and `self` has the first items
pub returns : goal.returns
returns c first e =
    let more = c.args.more.now in
    let rest = drop_all c.loop-value.value-index more c.loop-value-test.false in
    let forms : both c.loop-value.writable (vals_writable (vals_of [])) ≡ both c.args.self.writable (vals_writable (vals_of more)) =
    rw rest at c.loop-value.invariant.writable in
    let size : c.loop-value.size + vals_size (vals_of []) ≡ c.args.self.size + vals_size (vals_of more) =
    rw rest at c.loop-value.invariant.size in
    let writable = sym (both_none c.loop-value.writable) ∙ forms ∙ ap (λ p. both p.writable (vals_writable (vals_of more))) e ∙ sym (vals_both first more) in
    let one_more : c.loop-value.size ≡ vals_size (vals_of (first ++ more)) + 1 = omega (arith, size, ap (λ p. p.size) e, vals_joined first more) in
    rw (writable, one_more)
