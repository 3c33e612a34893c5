-- Maps by name, where what each name stands for is turned into something else.
use Rattle.std.proofs.Common.{◌≡◌, ℕ, List, [], ◌∷◌, map, refl, ap, ◌∙◌, Option, Some, None, cond, Bool, true, false}
use Rattle.std.specs.Option.{option_map}
use Rattle.std.specs.Ordering.{match_ordering}
use Rattle.std.specs.declared.cmp.Ordering.{Ordering}
use Rattle.std.specs.declared.cmp.Ordering.TheVariants.{Less, Equal, Greater}
use Rattle.std.specs.BTreeMap.{is_at}
use Rattle.tm_syntax.specs.Named.{Named, name_cmp, find, put, put_each, by_name}

map-match_ordering : {A B : Type 0} (f : A → B) (o : Ordering) (x y z : List A) →
    map f (match_ordering o x y z) ≡ match_ordering o (map f x) (map f y) (map f z)
map-match_ordering f Less x y z = refl
map-match_ordering f Equal x y z = refl
map-match_ordering f Greater x y z = refl

option_map-cond : {A B : Type 0} (f : A → B) (b : Bool) (x y : Option A) →
    option_map f (cond b x y) ≡ cond b (option_map f x) (option_map f y)
option_map-cond f true x y = refl
option_map-cond f false x y = refl

module _ {A B : Type 0} (f : A → B) where
  abbrev pub turned : Named A → Named B
  turned ps = map (λ (p : List ℕ × A). (p.0, f p.1)) ps

  pub find-turned : (x : List ℕ) (ps : Named A) → find x (turned ps) ≡ option_map f (find x ps)
  find-turned x [] = refl
  find-turned x (p ∷ ps) =
      ap (cond (is_at (name_cmp x) p.0) (Some (f p.1))) (find-turned x ps)
      ∙ rw (option_map-cond f (is_at (name_cmp x) p.0) (Some p.1) (find x ps)) refl

  pub put-turned : (x : List ℕ) (a : A) (ps : Named A) → put x (f a) (turned ps) ≡ turned (put x a ps)
  put-turned x a [] = refl
  put-turned x a (p ∷ ps) = rw map-match_ordering (rw (put-turned x a ps) refl)

  pub put_each-turned : (ps qs : Named A) → put_each (turned ps) (turned qs) ≡ turned (put_each ps qs)
  put_each-turned [] qs = refl
  put_each-turned (p ∷ ps) qs = ap (put_each (turned ps)) (put-turned p.0 p.1 qs) ∙ put_each-turned ps (put p.0 p.1 qs)

  pub by_name-turned : (ps : Named A) → by_name (turned ps) ≡ turned (by_name ps)
  by_name-turned ps = put_each-turned ps []
