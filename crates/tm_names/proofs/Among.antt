-- Names among others.
use Rattle.std.proofs.Common.{◌≡◌, ◌∙◌, ℕ, List, [], ◌∷◌, ◌++◌, refl, sym, ap, append_assoc, Bool, true, cond, ◌||◌}
use Rattle.std.specs.Prelude.{not}
use Rattle.std.specs.BTreeMap.{is_at}
use Rattle.std.specs.List.{list_any}
use Rattle.std.proofs.lemmas.Bool.{not-true}
use Rattle.std.proofs.lemmas.Cmp.{nat_list_eq_equiv}
use Rattle.std.proofs.lemmas.Map.Text.{is_eq-slice_cmp}
use Rattle.tm_syntax.specs.Named.{name_cmp, same_name}
use Rattle.tm_syntax.specs.Names.{is_among, without}

pub found-among : (x : List ℕ) (ys : List (List ℕ)) → list_any (is_at (name_cmp x)) ys ≡ is_among x ys
found-among x [] = refl
found-among x (y ∷ ys) = ap (λ b. b || list_any (is_at (name_cmp x)) ys) (is_eq-slice_cmp x y) ∙ ap (λ b. same_name x y || b) (found-among x ys)

-- another name stays
pub one-kept : (x y : List ℕ) (b : Bool) (names names1 left left1 goal : List (List ℕ)) → b ≡ not (same_name y x) → b ≡ true →
    left ≡ y ∷ left1 → names1 ≡ names ++ y ∷ [] → names ++ without x left ≡ goal → names1 ++ without x left1 ≡ goal
one-kept x y b names names1 left left1 goal tested is_true is added before =
    let other = not-true (same_name y x) (sym tested ∙ is_true) in
    let stays : without x (y ∷ left1) ≡ y ∷ without x left1 =
    ap (λ b. cond b (without x left1) (y ∷ without x left1)) (nat_list_eq_equiv.symm x y ∙ other) in
    ap (λ l. l ++ without x left1) added ∙ append_assoc names (y ∷ []) (without x left1)
    ∙ ap (λ l. names ++ l) (sym stays ∙ ap (without x) (sym is)) ∙ before
