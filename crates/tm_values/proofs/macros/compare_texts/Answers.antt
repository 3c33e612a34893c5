use Rattle.std.proofs.Common.{◌≡◌, List, [], ◌∷◌, ap, refl, ◌∙◌, map as each}
use Rattle.std.specs.Cmp.Lexicographic.{slice_cmp}
use Rattle.std.specs.Ordering.{nat_cmp, ordering_then}
use Rattle.std.specs.Rc.{rc_str_bytes}
use Rattle.std.specs.declared.rc.RcStr.{RcStr}
use Rattle.std.specs.declared.alloc.Global.{Global}
use Rattle.tm_values.proofs.macros.compare_texts.Goals as goal

-- texts compare as their bytes do
by_bytes : (xs ys : List (RcStr Global)) →
    slice_cmp (λ x y. slice_cmp nat_cmp (rc_str_bytes x) (rc_str_bytes y)) xs ys
    ≡ slice_cmp (slice_cmp nat_cmp) (each rc_str_bytes xs) (each rc_str_bytes ys)
by_bytes [] [] = refl
by_bytes [] (y ∷ ys) = refl
by_bytes (x ∷ xs) [] = refl
by_bytes (x ∷ xs) (y ∷ ys) = ap (ordering_then (slice_cmp nat_cmp (rc_str_bytes x) (rc_str_bytes y))) (by_bytes xs ys)

pub returns : goal.returns
returns c = c.cmp.ensures ∙ by_bytes c.args.left.now c.args.right.now
