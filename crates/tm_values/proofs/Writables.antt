-- In which forms parts are writable, one after the other.
use Rattle.std.proofs.Common.{◌≡◌, ◌∙◌, ◌++◌, Bool, true, false, List, [], ◌∷◌, cond, refl, sym, ap}
use Rattle.tm_values.specs.Val.{Val, vals_of}
use Rattle.tm_values.specs.Writable.{both, in_all_forms, writable_of, vals_writable}
use Rattle.tm_values.specs.declared.writable.Writable.{Writable}

and_regroups : (a b c : Bool) → cond (cond a b false) c false ≡ cond a (cond b c false) false
and_regroups true b c = refl
and_regroups false b c = refl

pub both_regroups : (a b c : Writable) → both (both a b) c ≡ both a (both b c)
both_regroups a b c =
    let in_print = and_regroups a.in_print b.in_print c.in_print in
    let in_json = and_regroups a.in_json b.in_json c.in_json in
    rw (in_print, in_json)

and_true : (b : Bool) → cond b true false ≡ b
and_true true = refl
and_true false = refl

pub both_none : (w : Writable) → both w in_all_forms ≡ w
both_none w = rw (and_true w.in_print, and_true w.in_json)

-- values that are joined are writable where both are
pub vals_both : (xs ys : List Val) → vals_writable (vals_of (xs ++ ys)) ≡ both (vals_writable (vals_of xs)) (vals_writable (vals_of ys))
vals_both [] ys = refl
vals_both (x ∷ xs) ys =
    ap (both (writable_of x)) (vals_both xs ys)
    ∙ sym (both_regroups (writable_of x) (vals_writable (vals_of xs)) (vals_writable (vals_of ys)))
