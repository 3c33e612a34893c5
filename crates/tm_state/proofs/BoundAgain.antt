-- A name, or an attribute, that is bound twice is bound to the later value.
use Rattle.std.proofs.Common.{◌≡◌, ℕ, zero, suc, List, [], ◌∷◌, Option, None, Some, Bool, true, false, Result, Ok, Err, refl, sym, ap, ◌∙◌}
use Rattle.std.proofs.lemmas.Map.Text.{is_eq-slice_cmp}
use Rattle.std.proofs.lemmas.Cmp.{nat_list_eq_equiv}
use Rattle.std.specs.Prelude.{OnOk}
use Rattle.std.specs.Ordering.{is_eq, match_ordering, ordering_reverse}
use Rattle.std.specs.declared.cmp.Ordering.{Ordering}
use Rattle.std.specs.declared.cmp.Ordering.TheVariants.{Less, Equal, Greater}
use Rattle.tm_syntax.specs.Named.{name_cmp, put}
use Rattle.tm_values.specs.Map as maps
use Rattle.tm_values.specs.Order.{val_cmp}
use Rattle.tm_values.specs.Total.{val_cmp_total}
use Rattle.tm_values.specs.Val.{Val, text}
use Rattle.tm_meaning.specs.World.{Bindings, Scope, World, own_closure, put_at, put_in, store, stored_in, with_member}

equal : (o : Ordering) → is_eq o ≡ true → o ≡ Equal
equal Less h = absurd (cc h)
equal Equal h = refl
equal Greater h = absurd (cc h)

itself : (x : List ℕ) → name_cmp x x ≡ Equal
itself x = equal (name_cmp x x) (is_eq-slice_cmp x x ∙ nat_list_eq_equiv.refl x)

module _ (x : List ℕ) (a b : Val) where
  put_beside : (p : List ℕ × Val) (ps : Bindings) (o : Ordering) → name_cmp x p.0 ≡ o → put x b (put x a ps) ≡ put x b ps →
      put x b (match_ordering o ((x, a) ∷ p ∷ ps) ((p.0, a) ∷ ps) (p ∷ put x a ps))
      ≡ match_ordering o ((x, b) ∷ p ∷ ps) ((p.0, b) ∷ ps) (p ∷ put x b ps)
  put_beside p ps Less is rest =
      ap (λ o. match_ordering o ((x, b) ∷ (x, a) ∷ p ∷ ps) ((x, b) ∷ p ∷ ps) ((x, a) ∷ put x b (p ∷ ps))) (itself x)
  put_beside p ps Equal is rest = ap (λ o. match_ordering o ((x, b) ∷ (p.0, a) ∷ ps) ((p.0, b) ∷ ps) ((p.0, a) ∷ put x b ps)) is
  put_beside p ps Greater is rest =
      ap (λ o. match_ordering o ((x, b) ∷ p ∷ put x a ps) ((p.0, b) ∷ put x a ps) (p ∷ put x b (put x a ps))) is ∙ ap (λ qs. p ∷ qs) rest

  put_twice : (ps : Bindings) → put x b (put x a ps) ≡ put x b ps
  put_twice [] = ap (λ o. match_ordering o ((x, b) ∷ (x, a) ∷ []) ((x, b) ∷ []) ((x, a) ∷ put x b [])) (itself x)
  put_twice (p ∷ ps) = put_beside p ps (name_cmp x p.0) refl (put_twice ps)

  stored_twice : (ss : List Scope) → stored_in x b (stored_in x a ss) ≡ stored_in x b ss
  stored_twice [] = refl
  stored_twice (s ∷ ss) = ap (λ ls. record s { locals = ls } ∷ ss) (put_twice s.locals)

  own_stored : (v : Val) (ss : List Scope) → own_closure (stored_in x v ss) ≡ own_closure ss
  own_stored v [] = refl
  own_stored v (s ∷ ss) = refl

  at_twice : (n : ℕ) (cs : List Bindings) → put_at n x b (put_at n x a cs) ≡ put_at n x b cs
  at_twice n [] = refl
  at_twice zero (c ∷ cs) = ap (λ d. d ∷ cs) (put_twice c)
  at_twice (suc n) (c ∷ cs) = ap (λ ds. c ∷ ds) (at_twice n cs)

  in_twice : (o : Option ℕ) (cs : List Bindings) → put_in o x b (put_in o x a cs) ≡ put_in o x b cs
  in_twice None cs = refl
  in_twice (Some n) cs = at_twice n cs

  -- the world with these scopes and closures
  abbrev over : World → List Scope → List Bindings → World
  over w ss cs = record w { scopes = record w.scopes { frames = ss }; closures = cs }

  pub bound_again : (w : World) → store x b (store x a w) ≡ store x b w
  bound_again w =
      let ss = w.scopes.frames in
      let first : own_closure (stored_in x a ss) ≡ own_closure ss = own_stored a ss in
      let second : own_closure (stored_in x b (stored_in x a ss)) ≡ own_closure ss = own_stored b (stored_in x a ss) ∙ first in
      ap (λ o. over w (stored_in x b (stored_in x a ss)) (put_in o x b (put_in (own_closure (stored_in x a ss)) x a w.closures))) second
      ∙ ap (λ o. over w (stored_in x b (stored_in x a ss)) (put_in (own_closure ss) x b (put_in o x a w.closures))) first
      ∙ ap (over w (stored_in x b (stored_in x a ss))) (in_twice (own_closure ss) w.closures)
      ∙ ap (λ fs. over w fs (put_in (own_closure ss) x b w.closures)) (stored_twice ss)
      ∙ ap (λ o. over w (stored_in x b ss) (put_in o x b w.closures)) (sym (own_stored b ss))

-- ---------------------------------------------------------------- attributes
level : (o : Ordering) → o ≡ ordering_reverse o → o ≡ Equal
level Less h = absurd (cc h)
level Equal h = refl
level Greater h = absurd (cc h)

module _ (k a b : Val) where
  its_own : val_cmp k k ≡ Equal
  its_own = level (val_cmp k k) (val_cmp_total.antisymm k k)

  set_beside : (p : Val × Val) (ps : List (Val × Val)) (o : Ordering) → val_cmp k p.0 ≡ o → maps.put k b (maps.put k a ps) ≡ maps.put k b ps →
      maps.put k b (match_ordering o ((k, a) ∷ p ∷ ps) ((p.0, a) ∷ ps) (p ∷ maps.put k a ps))
      ≡ match_ordering o ((k, b) ∷ p ∷ ps) ((p.0, b) ∷ ps) (p ∷ maps.put k b ps)
  set_beside p ps Less is rest =
      ap (λ o. match_ordering o ((k, b) ∷ (k, a) ∷ p ∷ ps) ((k, b) ∷ p ∷ ps) ((k, a) ∷ maps.put k b (p ∷ ps))) its_own
  set_beside p ps Equal is rest = ap (λ o. match_ordering o ((k, b) ∷ (p.0, a) ∷ ps) ((p.0, b) ∷ ps) ((p.0, a) ∷ maps.put k b ps)) is
  set_beside p ps Greater is rest =
      ap (λ o. match_ordering o ((k, b) ∷ p ∷ maps.put k a ps) ((p.0, b) ∷ maps.put k a ps) (p ∷ maps.put k b (maps.put k a ps))) is
      ∙ ap (λ qs. p ∷ qs) rest

  set_twice : (ps : List (Val × Val)) → maps.put k b (maps.put k a ps) ≡ maps.put k b ps
  set_twice [] = ap (λ o. match_ordering o ((k, b) ∷ (k, a) ∷ []) ((k, b) ∷ []) ((k, a) ∷ maps.put k b [])) its_own
  set_twice (p ∷ ps) = set_beside p ps (val_cmp k p.0) refl (set_twice ps)

pub member_again : (x : List ℕ) (a b : Val) (n : ℕ) (all : List (List (Val × Val))) →
    with_member n x b (with_member n x a all) ≡ with_member n x b all
member_again x a b n [] = refl
member_again x a b zero (ps ∷ more) = ap (λ qs. qs ∷ more) (set_twice (text x false) a b ps)
member_again x a b (suc n) (ps ∷ more) = ap (λ rest. ps ∷ rest) (member_again x a b n more)

pub on_ok : {A E : Type 0} {P Q : Type 0} (result : Result A E) → (P → Q) → OnOk result P → OnOk result Q
on_ok (Ok a) f p = f p
on_ok (Err e) f p = tt
