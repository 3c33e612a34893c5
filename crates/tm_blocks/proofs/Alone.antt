-- The blocks of one template, whose names ascend, are each alone.
use Rattle.std.proofs.Common.{◌≡◌, ◌∙◌, ◌++◌, ℕ, List, [], ◌∷◌, None, Less, refl, sym, ap}
use Rattle.std.proofs.lemmas.Cmp.{nat_list_cmp_total}
use Rattle.std.proofs.lemmas.List.{append_assoc, append-nil}
use Rattle.std.specs.List.{AllByRecursion}
use Rattle.std.specs.List.Sorted.{IsStrictlySortedBy}
use Rattle.std.specs.Ordering.{ordering_reverse}
use Rattle.std.specs.declared.cmp.Ordering.TheVariants.{Greater}
use Rattle.tm_syntax.specs.Named.{find, name_cmp, put}
use Rattle.tm_meaning.specs.Inheritance.{after_all}
use Rattle.tm_meaning.specs.declared.stream.TemplateId.{TemplateId}
use Rattle.tm_blocks.specs.Lists.{alone_in, with_block, with_each}

-- the other way round
above : (x y : List ℕ) → name_cmp y x ≡ Less → name_cmp x y ≡ Greater
above x y h = nat_list_cmp_total.antisymm x y ∙ ap ordering_reverse h

-- each of these names is below x
abbrev AreBelow : List (List ℕ) → List ℕ → Type 0
AreBelow ys x = AllByRecursion (λ y. name_cmp y x ≡ Less) ys

below_more : (x z : List ℕ) (ys : List (List ℕ)) → AreBelow ys z → name_cmp x z ≡ Less → AreBelow (ys ++ x ∷ []) z
below_more x z [] h less = (less, tt)
below_more x z (y ∷ ys) h less = (h.0, below_more x z ys h.1 less)

each_below : (x : List ℕ) (ys xs : List (List ℕ)) → AllByRecursion (AreBelow ys) xs → AllByRecursion (λ z. name_cmp x z ≡ Less) xs →
    AllByRecursion (AreBelow (ys ++ x ∷ [])) xs
each_below x ys [] h less = tt
each_below x ys (z ∷ zs) h less = (below_more x z ys h.0 less.0, each_below x ys zs h.1 less.1)

none_below : (xs : List (List ℕ)) → AllByRecursion (AreBelow []) xs
none_below [] = tt
none_below (x ∷ xs) = (tt, none_below xs)

module _ (t : TemplateId) where
  find-above : (x : List ℕ) (ys : List (List ℕ)) → AreBelow ys x → find x (alone_in t ys) ≡ None
  find-above x [] h = refl
  find-above x (y ∷ ys) h = rw (above x y h.0) (find-above x ys h.1)

  put-above : (x : List ℕ) (ys : List (List ℕ)) → AreBelow ys x → put x (t ∷ []) (alone_in t ys) ≡ alone_in t (ys ++ x ∷ [])
  put-above x [] h = refl
  put-above x (y ∷ ys) h = rw (above x y h.0) (ap (λ l. (y, t ∷ []) ∷ l) (put-above x ys h.1))

  block-above : (x : List ℕ) (ys : List (List ℕ)) → AreBelow ys x → with_block t x (alone_in t ys) ≡ alone_in t (ys ++ x ∷ [])
  block-above x ys h = ap (λ o. put x (after_all t o) (alone_in t ys)) (find-above x ys h) ∙ put-above x ys h

  each-above : (xs ys : List (List ℕ)) → IsStrictlySortedBy name_cmp xs → AllByRecursion (AreBelow ys) xs →
      with_each t xs (alone_in t ys) ≡ alone_in t (ys ++ xs)
  unfolding IsStrictlySortedBy
  each-above [] ys o below = ap (alone_in t) (sym (append-nil ys))
  each-above (x ∷ xs) ys o below =
      ap (with_each t xs) (block-above x ys below.0)
      ∙ each-above xs (ys ++ x ∷ []) o.1 (each_below x ys xs below.1 o.0)
      ∙ ap (alone_in t) (append_assoc ys (x ∷ []) xs)

  pub each_alone : (xs : List (List ℕ)) → IsStrictlySortedBy name_cmp xs → with_each t xs [] ≡ alone_in t xs
  each_alone xs o = each-above xs [] o (none_below xs)
