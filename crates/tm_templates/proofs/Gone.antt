-- A name that was dropped is gone.
use Rattle.std.proofs.Common.{◌≡◌, ◌∙◌, ℕ, List, [], ◌∷◌, Bool, true, false, cond, None, Some, refl, sym, ap, subst}
use Rattle.std.specs.BTreeMap.{is_at}
use Rattle.std.specs.List.{AllByRecursion}
use Rattle.std.specs.List.Sorted.{IsStrictlySortedBy}
use Rattle.std.specs.Map.{keys_of}
use Rattle.std.specs.declared.cmp.Ordering.TheVariants.{Less}
use Rattle.tm_syntax.specs.Named.{Named, find, name_cmp, without}
use Rattle.tm_syntax.proofs.Named.{same_text}
use Rattle.tm_scopes.specs.Places.{AreOrdered}

module _ {A : Type 0} where
  abbrev pub AreAbove : List ℕ → Named A → Type 0
  AreAbove x ps = AllByRecursion (λ y. name_cmp x y ≡ Less) (keys_of ps)

  pub above-none : (x : List ℕ) (ps : Named A) → AreAbove x ps → find x ps ≡ None
  above-none x [] a = refl
  above-none x (p ∷ ps) a = rw a.0 (above-none x ps a.1)

  gone_case : (b : Bool) (x : List ℕ) (p : List ℕ × A) (ps : Named A) → is_at (name_cmp x) p.0 ≡ b → AreAbove p.0 ps →
      find x (without x ps) ≡ None → find x (cond b ps (p ∷ without x ps)) ≡ None
  gone_case true x p ps e above rest = above-none x ps (subst (λ (z : List ℕ). AreAbove z ps) (sym (same_text x p.0 e)) above)
  gone_case false x p ps e above rest = ap (λ (b : Bool). cond b (Some p.1) (find x (without x ps))) e ∙ rest

  pub gone : (x : List ℕ) (ps : Named A) → AreOrdered ps → find x (without x ps) ≡ None
  unfolding IsStrictlySortedBy
  gone x [] o = refl
  gone x (p ∷ ps) o = gone_case (is_at (name_cmp x) p.0) x p ps refl o.0 (gone x ps o.1)
