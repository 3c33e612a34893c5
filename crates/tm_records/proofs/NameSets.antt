-- A set of names grows by one name after another.
use Rattle.std.proofs.Common.{◌≡◌, ℕ, ◌+◌, ◌<◌, ◌||◌, Bool, true, false, cond, List, ◌∷◌, Bor, length, drop, get_or, map as each}
use Rattle.std.proofs.Common.{sym, ap, ◌∙◌, refl, arith, drop-cons}
use Rattle.std.proofs.lemmas.Map.Text.{is_eq-slice_cmp}
use Rattle.std.specs.BTreeMap.{is_at}
use Rattle.std.specs.BTreeSet.{BTreeSet, contains, Updates}
use Rattle.std.specs.Rc.{rc_str_bytes}
use Rattle.std.specs.Cmp.Lexicographic.{slice_cmp}
use Rattle.std.specs.Ordering.{nat_cmp, is_eq}
use Rattle.std.specs.declared.alloc.Global.{Global}
use Rattle.std.specs.declared.rc.RcStr.{RcStr}
use Rattle.std.proofs.lemmas.Cmp.{nat_list_eq_equiv}
use Rattle.tm_syntax.specs.Named.{same_name}
use Rattle.tm_meaning.specs.Calls.{is_argument}
use Rattle.tm_records.specs.Macros.{order}

same : (x y : List ℕ) → is_eq (slice_cmp nat_cmp x y) ≡ same_name y x
same x y = is_eq-slice_cmp x y ∙ nat_list_eq_equiv.symm x y

swapped : (here before after : Bool) → (cond here true before || after) ≡ (before || (here || after))
swapped true true after = refl
swapped true false after = refl
swapped false before after = refl

module _ (old new : BTreeSet (Bor (List ℕ))) (names : List (RcStr Global)) (k : ℕ) (d : RcStr Global) (name : Bor (List ℕ)) (lt : k < length names)
    (is : d ≡ get_or names k d) (text : name.now ≡ rc_str_bytes d) (added : Updates order old new name true) (x : Bor (List ℕ)) where
  after : ℕ → Bool
  after n = is_argument x.now (each rc_str_bytes (drop n names))

  pub turn : (contains order new x || is_argument x.now (each rc_str_bytes (drop (k + 1) names)))
      ≡ (contains order old x || is_argument x.now (each rc_str_bytes (drop k names)))
  turn =
      let rest = is_argument x.now (each rc_str_bytes (drop (k + 1) names)) in
      let first : drop k names ≡ d ∷ drop (k + 1) names = grind (arith, drop-cons names k d lt, is) in
      let here : is_at (order name) x ≡ same_name x.now (rc_str_bytes d) = same name.now x.now ∙ ap (λ t. same_name x.now t) text in
      ap (λ b. b || rest) (added.0 x ∙ ap (λ b. cond b true (contains order old x)) here)
      ∙ swapped (same_name x.now (rc_str_bytes d)) (contains order old x) rest
      ∙ sym (ap (λ l. contains order old x || is_argument x.now (each rc_str_bytes l)) first)
