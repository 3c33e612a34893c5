-- Pairs in the order of their names are known by what each name means.
use Rattle.std.proofs.Common.{◌≡◌, ◌≢◌, ◌∙◌, ◌⊎◌, inl, inr, ℕ, List, [], ◌∷◌, Bool, true, false, cond, None, Some, refl, sym, ap, subst}
use Rattle.std.proofs.Common.{Ordering, Less, Equal, Greater, map}
use Rattle.std.proofs.lemmas.Cmp.{nat_list_cmp_total}
use Rattle.std.proofs.lemmas.Map.Text.{is_eq-slice_cmp}
use Rattle.std.proofs.lemmas.List.Elements.{All-from_recursion}
use Rattle.std.proofs.lemmas.Slice.Eq.{bytes_eq-Decides}
use Rattle.std.specs.BTreeMap.{is_at}
use Rattle.std.specs.List.{All, AllByRecursion}
use Rattle.std.specs.List.Sorted.{IsStrictlySortedBy}
use Rattle.std.specs.Map.{keys_of, set_value}
use Rattle.std.specs.Ordering.{is_eq, ordering_reverse}
use Rattle.std.specs.Rc.{rc_str_bytes}
use Rattle.std.specs.declared.alloc.Global.{Global}
use Rattle.std.specs.declared.rc.RcStr.{RcStr}
use Rattle.tm_syntax.specs.Named.{Named, find, name_cmp, named_of, put, without}
use Rattle.tm_syntax.proofs.Named.{find_others, find_put, find_put_other, same_or_not, same_text}
use Rattle.tm_scopes.specs.Places.{AreOrdered}
use Rattle.tm_scopes.proofs.Places.{ordered-put}
use Rattle.tm_templates.proofs.Gone.{AreAbove, above-none, gone}

-- no name is another one
no_other_by : (x y : List ℕ) → x ≢ y → (b : Bool) → is_at (name_cmp x) y ≡ b → b ≡ false
no_other_by x y apart true e = absurd (apart (same_text x y e))
no_other_by x y apart false e = refl

no_other : (x y : List ℕ) → x ≢ y → is_at (name_cmp x) y ≡ false
no_other x y apart = no_other_by x y apart (is_at (name_cmp x) y) refl

-- a name is itself
is_itself : (x : List ℕ) → is_at (name_cmp x) x ≡ true
is_itself x = is_eq-slice_cmp x x ∙ (bytes_eq-Decides x x).1 refl

-- the other way round
turned : (x y : List ℕ) (o : Ordering) → name_cmp x y ≡ o → name_cmp y x ≡ ordering_reverse o
turned x y o e = nat_list_cmp_total.antisymm y x ∙ ap ordering_reverse e

map_cond : {A B : Type 0} (f : A → B) (b : Bool) (x y : List A) → map f (cond b x y) ≡ cond b (map f x) (map f y)
map_cond f true x y = refl
map_cond f false x y = refl

module _ {A : Type 0} where
  -- ---------------------------------------------------------------- the order
  above_by : (b : Bool) (x y : List ℕ) (p : List ℕ × A) (ps : Named A) → AreAbove x (p ∷ ps) → AreAbove x (without y ps) →
      AreAbove x (cond b ps (p ∷ without y ps))
  above_by true x y p ps h rest = h.1
  above_by false x y p ps h rest = (h.0, rest)

  above-without : (x y : List ℕ) (ps : Named A) → AreAbove x ps → AreAbove x (without y ps)
  above-without x y [] h = tt
  above-without x y (p ∷ ps) h = above_by (is_at (name_cmp y) p.0) x y p ps h (above-without x y ps h.1)

  ordered_by : (b : Bool) (x : List ℕ) (p : List ℕ × A) (ps : Named A) → AreOrdered (p ∷ ps) → AreOrdered (without x ps) →
      AreOrdered (cond b ps (p ∷ without x ps))
  unfolding IsStrictlySortedBy
  ordered_by true x p ps o rest = o.1
  ordered_by false x p ps o rest = (above-without p.0 x ps o.0, rest)

  pub ordered-without : (x : List ℕ) (ps : Named A) → AreOrdered ps → AreOrdered (without x ps)
  unfolding IsStrictlySortedBy
  ordered-without x [] o = o
  ordered-without x (p ∷ ps) o = ordered_by (is_at (name_cmp x) p.0) x p ps o (ordered-without x ps o.1)

  -- ---------------------------------------------------------------- the same pairs
  find-first : (p : List ℕ × A) (ps : Named A) → find p.0 (p ∷ ps) ≡ Some p.1
  find-first p ps = ap (λ b. cond b (Some p.1) (find p.0 ps)) (is_itself p.0)

  find-rest : (x : List ℕ) (p : List ℕ × A) (ps : Named A) → x ≢ p.0 → find x (p ∷ ps) ≡ find x ps
  find-rest x p ps apart = ap (λ b. cond b (Some p.1) (find x ps)) (no_other x p.0 apart)

  above : (x y : List ℕ) (ps : Named A) → name_cmp x y ≡ Less → AreAbove y ps → AreAbove x ps
  above x y [] h a = tt
  above x y (p ∷ ps) h a = (nat_list_cmp_total.trans x y p.0 h a.0, above x y ps h a.1)

  -- a name below the first is not found
  none_below : (x : List ℕ) (p : List ℕ × A) (ps : Named A) → name_cmp x p.0 ≡ Less → AreAbove p.0 ps → find x (p ∷ ps) ≡ None
  none_below x p ps h a = above-none x (p ∷ ps) (h, above x p.0 ps h a)

  rest_by : (p q : List ℕ × A) (ps qs : Named A) → p.0 ≡ q.0 → AreAbove p.0 ps → AreAbove q.0 qs →
      ((x : List ℕ) → find x (p ∷ ps) ≡ find x (q ∷ qs)) → (x : List ℕ) → (x ≡ p.0) ⊎ (x ≢ p.0) → find x ps ≡ find x qs
  rest_by p q ps qs e a b same x (inl is) =
      ap (λ z. find z ps) is ∙ above-none p.0 ps a ∙ sym (above-none q.0 qs b) ∙ ap (λ z. find z qs) (sym (is ∙ e))
  rest_by p q ps qs e a b same x (inr apart) =
      sym (find-rest x p ps apart) ∙ same x ∙ find-rest x q qs (λ is. apart (is ∙ sym e))

  first_by : (o : Ordering) (p q : List ℕ × A) (ps qs : Named A) → name_cmp p.0 q.0 ≡ o → AreAbove p.0 ps → AreAbove q.0 qs →
      ((x : List ℕ) → find x (p ∷ ps) ≡ find x (q ∷ qs)) → p.0 ≡ q.0
  first_by Less p q ps qs e a b same =
      let here : Some p.1 ≡ None = sym (find-first p ps) ∙ same p.0 ∙ none_below p.0 q qs e b in
      absurd (cc here)
  first_by Equal p q ps qs e a b same = same_text p.0 q.0 (ap is_eq e)
  first_by Greater p q ps qs e a b same =
      let here : Some q.1 ≡ None = sym (find-first q qs) ∙ sym (same q.0) ∙ none_below q.0 p ps (turned p.0 q.0 Greater e) a in
      absurd (cc here)

  alike : (ps qs : Named A) → AreOrdered ps → AreOrdered qs → ((x : List ℕ) → find x ps ≡ find x qs) → ps ≡ qs
  unfolding IsStrictlySortedBy
  alike [] [] o r same = refl
  alike [] (q ∷ qs) o r same =
      let here : None ≡ Some q.1 = same q.0 ∙ find-first q qs in
      absurd (cc here)
  alike (p ∷ ps) [] o r same =
      let here : Some p.1 ≡ None = sym (find-first p ps) ∙ same p.0 in
      absurd (cc here)
  alike (p ∷ ps) (q ∷ qs) o r same =
      let name : p.0 ≡ q.0 = first_by (name_cmp p.0 q.0) p q ps qs refl o.0 r.0 same in
      let item : Some p.1 ≡ Some q.1 = sym (find-first p ps) ∙ same p.0 ∙ ap (λ x. find x (q ∷ qs)) name ∙ find-first q qs in
      let item_is : p.1 ≡ q.1 = cc item in
      let rest = alike ps qs o.1 r.1 (λ x. rest_by p q ps qs name o.0 r.0 same x (same_or_not x p.0)) in
      let first : p ≡ q = ap (λ x. (x, p.1)) name ∙ ap (λ a. (q.0, a)) item_is in
      ap (λ x. x ∷ ps) first ∙ ap (λ l. q ∷ l) rest

  found_after : (p : List ℕ × A) (ps qs : Named A) → AreAbove p.0 qs → AllByRecursion (λ (q : List ℕ × A). find q.0 ps ≡ Some q.1) qs →
      AllByRecursion (λ (q : List ℕ × A). find q.0 (p ∷ ps) ≡ Some q.1) qs
  found_after p ps [] a all = tt
  found_after p ps (q ∷ qs) a all = (rw (turned p.0 q.0 Less a.0) all.0, found_after p ps qs a.1 all.1)

  found_all : (ps : Named A) → AreOrdered ps → AllByRecursion (λ (p : List ℕ × A). find p.0 ps ≡ Some p.1) ps
  unfolding IsStrictlySortedBy
  found_all [] o = tt
  found_all (p ∷ ps) o = (find-first p ps, found_after p ps ps o.0 (found_all ps o.1))

  pub each_found : (ps : Named A) → AreOrdered ps → All (λ (p : List ℕ × A). find p.0 ps ≡ Some p.1) ps
  each_found ps o = All-from_recursion (λ (p : List ℕ × A). find p.0 ps ≡ Some p.1) ps (found_all ps o)

  put_at : (x : List ℕ) (a : A) (ps new : Named A) → find x new ≡ Some a → ((y : List ℕ) → y ≢ x → find y new ≡ find y ps) →
      (y : List ℕ) → (y ≡ x) ⊎ (y ≢ x) → find y new ≡ find y (put x a ps)
  put_at x a ps new here others y (inl same) =
      ap (λ z. find z new) same ∙ here ∙ sym (find_put x a ps) ∙ ap (λ z. find z (put x a ps)) (sym same)
  put_at x a ps new here others y (inr apart) = others y apart ∙ sym (find_put_other y x apart a ps)

  -- what `put` gives
  pub is_put : (x : List ℕ) (a : A) (ps new : Named A) → AreOrdered ps → AreOrdered new → find x new ≡ Some a →
      ((y : List ℕ) → y ≢ x → find y new ≡ find y ps) → new ≡ put x a ps
  is_put x a ps new o n here others = alike new (put x a ps) n (ordered-put x a ps o) (λ y. put_at x a ps new here others y (same_or_not y x))

  without_at : (x : List ℕ) (ps new : Named A) → AreOrdered ps → find x new ≡ None → ((y : List ℕ) → y ≢ x → find y new ≡ find y ps) →
      (y : List ℕ) → (y ≡ x) ⊎ (y ≢ x) → find y new ≡ find y (without x ps)
  without_at x ps new o here others y (inl same) =
      ap (λ z. find z new) same ∙ here ∙ sym (gone x ps o) ∙ ap (λ z. find z (without x ps)) (sym same)
  without_at x ps new o here others y (inr apart) = others y apart ∙ sym (find_others y x apart ps)

  -- what `without` gives
  pub is_without : (x : List ℕ) (ps new : Named A) → AreOrdered ps → AreOrdered new → find x new ≡ None →
      ((y : List ℕ) → y ≢ x → find y new ≡ find y ps) → new ≡ without x ps
  is_without x ps new o n here others =
      alike new (without x ps) n (ordered-without x ps o) (λ y. without_at x ps new o here others y (same_or_not y x))

  -- ---------------------------------------------------------------- another item for a name
  abbrev instead : List ℕ → Named A → A → Named A
  instead x ps a = set_value (is_at (name_cmp x)) ps a

  keys_by : (b : Bool) (x : List ℕ) (a : A) (p : List ℕ × A) (ps : Named A) → keys_of (instead x ps a) ≡ keys_of ps →
      keys_of (cond b ((p.0, a) ∷ ps) (p ∷ instead x ps a)) ≡ keys_of (p ∷ ps)
  keys_by true x a p ps rest = refl
  keys_by false x a p ps rest = ap (λ l. p.0 ∷ l) rest

  keys-instead : (x : List ℕ) (a : A) (ps : Named A) → keys_of (instead x ps a) ≡ keys_of ps
  keys-instead x a [] = refl
  keys-instead x a (p ∷ ps) = keys_by (is_at (name_cmp x) p.0) x a p ps (keys-instead x a ps)

  pub ordered-instead : (x : List ℕ) (a : A) (ps : Named A) → AreOrdered ps → AreOrdered (instead x ps a)
  ordered-instead x a ps o = subst (IsStrictlySortedBy name_cmp) (sym (keys-instead x a ps)) o

  found_by : (b : Bool) (x : List ℕ) (a c : A) (p : List ℕ × A) (ps : Named A) → is_at (name_cmp x) p.0 ≡ b →
      (find x ps ≡ Some c → find x (instead x ps a) ≡ Some a) → cond b (Some p.1) (find x ps) ≡ Some c →
      find x (cond b ((p.0, a) ∷ ps) (p ∷ instead x ps a)) ≡ Some a
  found_by true x a c p ps is rest e = ap (λ b. cond b (Some a) (find x ps)) is
  found_by false x a c p ps is rest e = ap (λ b. cond b (Some p.1) (find x (instead x ps a))) is ∙ rest e

  pub find_instead : (x : List ℕ) (a c : A) (ps : Named A) → find x ps ≡ Some c → find x (instead x ps a) ≡ Some a
  find_instead x a c [] e = absurd (cc e)
  find_instead x a c (p ∷ ps) e = found_by (is_at (name_cmp x) p.0) x a c p ps refl (find_instead x a c ps) e

  kept_by : (b : Bool) (x y : List ℕ) → y ≢ x → (a : A) (p : List ℕ × A) (ps : Named A) → is_at (name_cmp x) p.0 ≡ b →
      find y (instead x ps a) ≡ find y ps → find y (cond b ((p.0, a) ∷ ps) (p ∷ instead x ps a)) ≡ find y (p ∷ ps)
  kept_by true x y apart a p ps is rest =
      let other = no_other y p.0 (λ same. apart (same ∙ sym (same_text x p.0 is))) in
      ap (λ b. cond b (Some a) (find y ps)) other ∙ sym (ap (λ b. cond b (Some p.1) (find y ps)) other)
  kept_by false x y apart a p ps is rest = ap (cond (is_at (name_cmp y) p.0) (Some p.1)) rest

  pub find_instead_other : (x y : List ℕ) → y ≢ x → (a : A) (ps : Named A) → find y (instead x ps a) ≡ find y ps
  find_instead_other x y apart a [] = refl
  find_instead_other x y apart a (p ∷ ps) = kept_by (is_at (name_cmp x) p.0) x y apart a p ps refl (find_instead_other x y apart a ps)

  pub instead_absent : (x : List ℕ) (a : A) (ps : Named A) → find x ps ≡ None → instead x ps a ≡ ps
  instead_absent x a [] e = refl
  instead_absent x a (p ∷ ps) e = absent_by (is_at (name_cmp x) p.0) x a p ps (instead_absent x a ps) e
    where
      absent_by : (b : Bool) (x : List ℕ) (a : A) (p : List ℕ × A) (ps : Named A) → (find x ps ≡ None → instead x ps a ≡ ps) →
          cond b (Some p.1) (find x ps) ≡ None → cond b ((p.0, a) ∷ ps) (p ∷ instead x ps a) ≡ p ∷ ps
      absent_by true x a p ps rest e = absurd (cc e)
      absent_by false x a p ps rest e = ap (λ l. p ∷ l) (rest e)

  -- where the map's keys are shared texts
  pub instead_named : (es : List (RcStr Global × A)) (x : List ℕ) (a : A) →
      named_of (set_value (is_at (λ k. name_cmp x (rc_str_bytes k))) es a) ≡ instead x (named_of es) a
  instead_named [] x a = refl
  instead_named (e ∷ es) x a = rw map_cond (rw (instead_named es x a) refl)
