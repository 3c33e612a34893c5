-- What a place among names gives, and that `put` keeps the names in order.
use Rattle.std.proofs.Common.{◌≡◌, ◌≤◌, ◌<◌, ℕ, zero, suc, List, [], ◌∷◌, length, get_or, set, Some, None, MatchResult, Result, Ok, Err}
use Rattle.std.proofs.Common.{Bool, true, false, if◌then◌else◌, Ordering, Less, Equal, Greater, insert, refl, sym, ap, subst, ◌∙◌, arith}
use Rattle.std.proofs.Common.{cond, slice_get, true≢false}
use Rattle.std.proofs.lemmas.Cmp.{alike_right, nat_list_cmp_total}
use Rattle.std.proofs.lemmas.Option.{get_or_from_slice_get, slice_get_within}
use Rattle.std.specs.BTreeMap.{is_at}
use Rattle.std.specs.Cmp.Lexicographic.{texts_ties}
use Rattle.std.specs.List.{AllByRecursion, remove}
use Rattle.std.specs.List.Sorted.{IsStrictlySortedBy, IsSearchInRange, IsBinarySearchResult, IsNonDecreasingBy}
use Rattle.std.specs.Map.{keys_of}
use Rattle.std.specs.Ordering.{match_ordering, is_eq, ordering_index, ordering_reverse}
use Rattle.tm_syntax.specs.Named.{Named, name_cmp, same_name, find, put, without}
use Rattle.tm_syntax.proofs.Named.{without_absent}
use Rattle.tm_scopes.specs.Places.{AreOrdered, IsNameAt, IsNameGap}

-- the other way round
turned : (x y : List ℕ) (o : Ordering) → name_cmp x y ≡ o → name_cmp y x ≡ ordering_reverse o
turned x y o e = nat_list_cmp_total.antisymm y x ∙ ap ordering_reverse e

-- of two names the lower one stands no higher to a third
rises : (x y z : List ℕ) (o : Ordering) → name_cmp x y ≡ Less → name_cmp y z ≡ o →
    ordering_index (name_cmp x z) ≤ ordering_index (name_cmp y z)
rises x y z Less h e = rw (e, nat_list_cmp_total.trans x y z h e) (omega arith)
rises x y z Equal h e = rw (e, sym (alike_right nat_list_cmp_total y z x e) ∙ h) (omega arith)
rises x y z Greater h e = rw e (at_most_two (name_cmp x z))
  where
    at_most_two : (o : Ordering) → ordering_index o ≤ 2
    at_most_two Less = omega arith
    at_most_two Equal = omega arith
    at_most_two Greater = omega arith

equal_by : (o : Ordering) → is_eq o ≡ true → o ≡ Equal
equal_by Less h = absurd (true≢false (sym h))
equal_by Equal h = refl
equal_by Greater h = absurd (true≢false (sym h))

-- two that are the same compare as equal
compare_equal : (x y : List ℕ) → same_name x y ≡ true → name_cmp x y ≡ Equal
compare_equal x y same = equal_by (name_cmp x y) (sym (texts_ties x y) ∙ same)

pub ordered-none : (A : Type 0) → AreOrdered {A = A} []
unfolding IsStrictlySortedBy
ordered-none A = tt

module _ {A : Type 0} where
  -- each name is above x
  abbrev AreAbove : List ℕ → Named A → Type 0
  AreAbove x ps = AllByRecursion (λ y. name_cmp x y ≡ Less) (keys_of ps)

  above : (x y : List ℕ) (ps : Named A) → name_cmp x y ≡ Less → AreAbove y ps → AreAbove x ps
  above x y [] h a = tt
  above x y (p ∷ ps) h a = (nat_list_cmp_total.trans x y p.0 h a.0, above x y ps h a.1)

  above-at : (x : List ℕ) (ps : Named A) (i : ℕ) (d : List ℕ × A) → AreAbove x ps → i < length ps → name_cmp x (get_or ps i d).0 ≡ Less
  above-at x [] i d a h = absurd (omega arith)
  above-at x (p ∷ ps) zero d a h = a.0
  above-at x (p ∷ ps) (suc i) d a h = above-at x ps i d a.1 (omega arith)

  -- a name after the first is above it
  after_first : (x : List ℕ) (p : List ℕ × A) (ps : Named A) (i : ℕ) (d : List ℕ × A) → AreAbove p.0 ps → i < length ps →
      name_cmp (get_or ps i d).0 x ≡ Equal → name_cmp x p.0 ≡ Greater
  after_first x p ps i d a h same =
      turned p.0 x Less (sym (alike_right nat_list_cmp_total (get_or ps i d).0 x p.0 same) ∙ above-at p.0 ps i d a h)

  -- a name that is there is found
  find-there : (x : List ℕ) (ps : Named A) (i : ℕ) (d : List ℕ × A) → AreOrdered ps → IsNameAt x ps i → find x ps ≡ Some (get_or ps i d).1
  unfolding IsStrictlySortedBy
  find-there x [] i d o t = absurd (omega (arith, t.in_range))
  find-there x (p ∷ ps) zero d o t = rw (turned p.0 x Equal (t.same_name d))
  find-there x (p ∷ ps) (suc i) d o t =
      let within : i < length ps = omega (arith, t.in_range) in
      rw (after_first x p ps i d o.0 within (t.same_name d))
      (find-there x ps i d o.1 (record { in_range = within; same_name = λ e. t.same_name e }))

  pub find-read : (x : List ℕ) (ps : Named A) (i : ℕ) (p : List ℕ × A) → AreOrdered ps → IsNameAt x ps i → p ≡ get_or ps i p →
      find x ps ≡ Some p.1
  find-read x ps i p o t e = find-there x ps i p o t ∙ ap (λ (q : List ℕ × A). Some q.1) (sym e)

  -- and one that is not there isn't
  pub find-gap : (x : List ℕ) (ps : Named A) (i : ℕ) → IsNameGap x ps i → find x ps ≡ None
  find-gap x [] i g = refl
  find-gap x (p ∷ ps) zero g =
      rw (turned p.0 x Greater (g.higher_after 0 p (omega arith) (omega arith)))
      (find-gap x ps zero (record {
        in_range = omega arith;
        lower_before = λ j d h. absurd (omega arith);
        higher_after = λ j d h l. g.higher_after (suc j) d (omega arith) (omega arith);
      }))
  find-gap x (p ∷ ps) (suc i) g =
      rw (turned p.0 x Less (g.lower_before 0 p (omega arith)))
      (find-gap x ps i (record {
        in_range = omega (arith, g.in_range);
        lower_before = λ j d h. g.lower_before (suc j) d (omega arith);
        higher_after = λ j d h l. g.higher_after (suc j) d (omega arith) (omega arith);
      }))

  -- `put` writes over what stands at a name that is there
  put-there : (x : List ℕ) (a : A) (ps : Named A) (i : ℕ) (d : List ℕ × A) → AreOrdered ps → IsNameAt x ps i →
      put x a ps ≡ set ps i ((get_or ps i d).0, a)
  unfolding IsStrictlySortedBy
  put-there x a [] i d o t = absurd (omega (arith, t.in_range))
  put-there x a (p ∷ ps) zero d o t = rw (turned p.0 x Equal (t.same_name d))
  put-there x a (p ∷ ps) (suc i) d o t =
      let within : i < length ps = omega (arith, t.in_range) in
      rw (after_first x p ps i d o.0 within (t.same_name d))
      (ap (λ l. p ∷ l) (put-there x a ps i d o.1 (record { in_range = within; same_name = λ e. t.same_name e })))

  put-read : (x : List ℕ) (a : A) (ps : Named A) (i : ℕ) (p : List ℕ × A) → AreOrdered ps → IsNameAt x ps i → p ≡ get_or ps i p →
      put x a ps ≡ set ps i (p.0, a)
  put-read x a ps i p o t e = put-there x a ps i p o t ∙ ap (λ (q : List ℕ × A). set ps i (q.0, a)) (sym e)

  -- and puts a new name into the gap
  put-gap : (x : List ℕ) (a : A) (ps : Named A) (i : ℕ) → IsNameGap x ps i → put x a ps ≡ insert ps i (x, a)
  put-gap x a [] zero g = refl
  put-gap x a [] (suc i) g = absurd (omega (arith, g.in_range))
  put-gap x a (p ∷ ps) zero g = rw (turned p.0 x Greater (g.higher_after 0 p (omega arith) (omega arith)))
  put-gap x a (p ∷ ps) (suc i) g =
      rw (turned p.0 x Less (g.lower_before 0 p (omega arith)))
      (ap (λ l. p ∷ l) (put-gap x a ps i (record {
        in_range = omega (arith, g.in_range);
        lower_before = λ j d h. g.lower_before (suc j) d (omega arith);
        higher_after = λ j d h l. g.higher_after (suc j) d (omega arith) (omega arith);
      })))

  above_case : (o : Ordering) (x y : List ℕ) (a : A) (p : List ℕ × A) (ps : Named A) → name_cmp x y ≡ Less → AreAbove x (p ∷ ps) →
      AreAbove x (put y a ps)
      → AreAbove x (match_ordering o ((y, a) ∷ p ∷ ps) ((p.0, a) ∷ ps) (p ∷ put y a ps))
  above_case Less x y a p ps h above rest = (h, above)
  above_case Equal x y a p ps h above rest = above
  above_case Greater x y a p ps h above rest = (above.0, rest)

  above-put : (x y : List ℕ) (a : A) (ps : Named A) → name_cmp x y ≡ Less → AreAbove x ps → AreAbove x (put y a ps)
  above-put x y a [] h above = (h, tt)
  above-put x y a (p ∷ ps) h above = above_case (name_cmp y p.0) x y a p ps h above (above-put x y a ps h above.1)

  ordered_case : (o : Ordering) (x : List ℕ) (a : A) (p : List ℕ × A) (ps : Named A) → name_cmp x p.0 ≡ o → AreOrdered (p ∷ ps) →
      AreOrdered (put x a ps)
      → AreOrdered (match_ordering o ((x, a) ∷ p ∷ ps) ((p.0, a) ∷ ps) (p ∷ put x a ps))
  unfolding IsStrictlySortedBy
  ordered_case Less x a p ps e o rest = ((e, above x p.0 ps e o.0), o)
  ordered_case Equal x a p ps e o rest = o
  ordered_case Greater x a p ps e o rest = (above-put p.0 x a ps (turned x p.0 Greater e) o.0, rest)

  -- the names stay in order
  pub ordered-put : (x : List ℕ) (a : A) (ps : Named A) → AreOrdered ps → AreOrdered (put x a ps)
  unfolding IsStrictlySortedBy
  ordered-put x a [] o = (tt, tt)
  ordered-put x a (p ∷ ps) o = ordered_case (name_cmp x p.0) x a p ps refl o (ordered-put x a ps o.1)

  names_rise : (x : List ℕ) (ps : Named A) → AreOrdered ps → IsNonDecreasingBy (λ (p : List ℕ × A). ordering_index (name_cmp p.0 x)) ps
  unfolding IsStrictlySortedBy
  names_rise x [] o i j d le h = absurd (omega arith)
  names_rise x (p ∷ ps) o zero zero d le h = omega arith
  names_rise x (p ∷ ps) o zero (suc j) d le h = rises p.0 (get_or ps j d).0 x (name_cmp (get_or ps j d).0 x)
      (above-at p.0 ps j d o.0 (omega arith)) refl
  names_rise x (p ∷ ps) o (suc i) zero d le h = absurd (omega arith)
  names_rise x (p ∷ ps) o (suc i) (suc j) d le h = names_rise x ps o.1 i j d (omega arith) (omega arith)

  -- what a binary search for the name answers
  searched : (x : List ℕ) (ps : Named A) → AreOrdered ps → (r : Result ℕ ℕ) → IsSearchInRange r (length ps) →
      IsBinarySearchResult (λ (p : List ℕ × A). name_cmp p.0 x) ps r
      → MatchResult r (IsNameAt x ps) (IsNameGap x ps)
  searched x ps o (Ok i) h found = record { in_range = h; same_name = λ d. found d }
  searched x ps o (Err i) h parted = record {
    in_range = h;
    lower_before = λ j d l. (parted (names_rise x ps o)).0 j d (omega arith) l;
    higher_after = λ j d l t. (parted (names_rise x ps o)).1 j d l t;
  }

  -- the same of what is lent of the names
  pub searched_in : (x : List ℕ) (ps lent seen : Named A) → lent ≡ ps → ps ≡ seen → AreOrdered ps → (r : Result ℕ ℕ) →
      IsSearchInRange r (length lent)
      → IsBinarySearchResult (λ (p : List ℕ × A). name_cmp p.0 x) lent r → MatchResult r (IsNameAt x seen) (IsNameGap x seen)
  searched_in x ps lent seen e f o r h found =
      subst (λ l. MatchResult r (IsNameAt x l) (IsNameGap x l)) (e ∙ f) (searched x lent (subst AreOrdered (sym e) o) r h found)

  -- what stands at a name of what is seen of the names is written over: it is what `put` gives, and the names stay in order
  pub written : (x y : List ℕ) (a : A) (ps seen : Named A) (i : ℕ) (p : List ℕ × A) → ps ≡ seen → y ≡ x → AreOrdered ps → IsNameAt y seen i →
      p ≡ get_or ps i p → set ps i (p.0, a) ≡ put x a seen
  written x y a ps seen i p e f o t at =
      sym (put-read y a ps i p o (subst (λ l. IsNameAt y l i) (sym e) t) at) ∙ ap (λ z. put z a ps) f ∙ ap (put x a) e

  pub written-ordered : (x y : List ℕ) (a : A) (ps seen : Named A) (i : ℕ) (p : List ℕ × A) → ps ≡ seen → y ≡ x → AreOrdered ps →
      IsNameAt y seen i → p ≡ get_or ps i p → AreOrdered (set ps i (p.0, a))
  written-ordered x y a ps seen i p e f o t at =
      subst AreOrdered (ap (put x a) e ∙ sym (written x y a ps seen i p e f o t at)) (ordered-put x a ps o)

  -- so it is with what is put into a gap
  pub added : (x y : List ℕ) (a : A) (ps seen : Named A) (i : ℕ) → ps ≡ seen → y ≡ x → IsNameGap y seen i → insert ps i (x, a) ≡ put x a seen
  added x y a ps seen i e f g =
      ap (λ l. insert l i (x, a)) e ∙ sym (put-gap x a seen i (subst (λ z. IsNameGap z seen i) f g))

  pub added-ordered : (x y : List ℕ) (a : A) (ps seen : Named A) (i : ℕ) (b : Bool) → ps ≡ seen → y ≡ x → AreOrdered ps →
      IsNameGap y seen i → AreOrdered (if b then insert ps i (x, a) else ps)
  added-ordered x y a ps seen i true e f o g =
      subst AreOrdered (ap (put x a) e ∙ sym (added x y a ps seen i e f g)) (ordered-put x a ps o)
  added-ordered x y a ps seen i false e f o g = o

  pub ordered_without_names : (ps : Named A) → ps ≡ [] → AreOrdered ps
  ordered_without_names ps e = subst AreOrdered (sym e) (ordered-none A)

  -- what stands at a name of what is seen of the names
  pub read : (x : List ℕ) (ps seen : Named A) (i : ℕ) (p : List ℕ × A) → ps ≡ seen → AreOrdered ps → IsNameAt x seen i → p ≡ get_or ps i p →
      find x seen ≡ Some p.1
  read x ps seen i p e o t at = ap (find x) (sym e) ∙ find-read x ps i p o (subst (λ l. IsNameAt x l i) (sym e) t) at

  -- a name stands where a pair of it does,
  stands : (x : List ℕ) (ps : Named A) (i : ℕ) (p : List ℕ × A) → slice_get ps i ≡ Some p → same_name p.0 x ≡ true → IsNameAt x ps i
  stands x ps i p at same = record {
    in_range = slice_get_within ps i p at;
    same_name = λ d. ap (λ (q : List ℕ × A). name_cmp q.0 x) (get_or_from_slice_get ps i p d at) ∙ compare_equal p.0 x same;
  }

  pub stands_lent : (x : List ℕ) (ps lent seen : Named A) (i : ℕ) (p : List ℕ × A) → lent ≡ ps → ps ≡ seen →
      slice_get lent i ≡ Some p → same_name p.0 x ≡ true → IsNameAt x seen i
  stands_lent x ps lent seen i p e f at same = subst (λ l. IsNameAt x l i) (e ∙ f) (stands x lent i p at same)

  -- and for the rest of that pair, wherever it stands
  find-held : (x : List ℕ) (ps : Named A) (i : ℕ) (p : List ℕ × A) → AreOrdered ps → slice_get ps i ≡ Some p →
      same_name p.0 x ≡ true → find x ps ≡ Some p.1
  find-held x ps i p o at same = find-read x ps i p o (stands x ps i p at same) (sym (get_or_from_slice_get ps i p p at))

  -- the same of what is lent of the names
  pub held : (x : List ℕ) (ps lent seen : Named A) (i : ℕ) (p : List ℕ × A) → lent ≡ ps → ps ≡ seen → AreOrdered ps →
      slice_get lent i ≡ Some p → same_name p.0 x ≡ true → find x seen ≡ Some p.1
  held x ps lent seen i p e f o at same =
      ap (find x) (sym (e ∙ f)) ∙ find-held x lent i p (subst AreOrdered (sym e) o) at same

  -- `without` takes out the pair at a name that is there
  without-there : (x : List ℕ) (ps : Named A) (i : ℕ) → AreOrdered ps → IsNameAt x ps i → without x ps ≡ remove ps i
  unfolding IsStrictlySortedBy
  without-there x [] i o t = absurd (omega (arith, t.in_range))
  without-there x (p ∷ ps) zero o t = rw (turned p.0 x Equal (t.same_name p)) refl
  without-there x (p ∷ ps) (suc i) o t =
      let within : i < length ps = omega (arith, t.in_range) in
      rw (after_first x p ps i p o.0 within (t.same_name p))
      (ap (λ l. p ∷ l) (without-there x ps i o.1 (record { in_range = within; same_name = λ e. t.same_name e })))

  above_case-without : (b : Bool) (x y : List ℕ) (p : List ℕ × A) (ps : Named A) → AreAbove x (p ∷ ps) → AreAbove x (without y ps) →
      AreAbove x (cond b ps (p ∷ without y ps))
  above_case-without true x y p ps h rest = h.1
  above_case-without false x y p ps h rest = (h.0, rest)

  above-without : (x y : List ℕ) (ps : Named A) → AreAbove x ps → AreAbove x (without y ps)
  above-without x y [] h = tt
  above-without x y (p ∷ ps) h = above_case-without (is_at (name_cmp y) p.0) x y p ps h (above-without x y ps h.1)

  ordered_case-without : (b : Bool) (x : List ℕ) (p : List ℕ × A) (ps : Named A) → AreOrdered (p ∷ ps) → AreOrdered (without x ps) →
      AreOrdered (cond b ps (p ∷ without x ps))
  unfolding IsStrictlySortedBy
  ordered_case-without true x p ps o rest = o.1
  ordered_case-without false x p ps o rest = (above-without p.0 x ps o.0, rest)

  -- and the names stay in order
  ordered-without : (x : List ℕ) (ps : Named A) → AreOrdered ps → AreOrdered (without x ps)
  unfolding IsStrictlySortedBy
  ordered-without x [] o = o
  ordered-without x (p ∷ ps) o = ordered_case-without (is_at (name_cmp x) p.0) x p ps o (ordered-without x ps o.1)

  -- so it is with what is taken out of what is seen of the names
  pub taken : (x : List ℕ) (ps seen : Named A) (i : ℕ) → ps ≡ seen → AreOrdered ps → IsNameAt x seen i → remove ps i ≡ without x seen
  taken x ps seen i e o t = sym (without-there x ps i o (subst (λ l. IsNameAt x l i) (sym e) t)) ∙ ap (without x) e

  pub taken-ordered : (x : List ℕ) (ps seen : Named A) (i : ℕ) → ps ≡ seen → AreOrdered ps → IsNameAt x seen i → AreOrdered (remove ps i)
  taken-ordered x ps seen i e o t =
      subst AreOrdered (ap (without x) e ∙ sym (taken x ps seen i e o t)) (ordered-without x ps o)

  -- where the name isn't there, nothing is taken out
  pub without-gap : (x : List ℕ) (ps : Named A) (i : ℕ) → IsNameGap x ps i → ps ≡ without x ps
  without-gap x ps i g = sym (without_absent x ps (find-gap x ps i g))
