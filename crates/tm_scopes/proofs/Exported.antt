-- What a scope exports, put into a map.
use Rattle.std.proofs.Common.{◌≡◌, ◌∙◌, ℕ, List, [], ◌∷◌, ◌++◌, suc, Bool, true, false, refl, sym, ap, subst, reverse, T, take}
use Rattle.std.proofs.Common.{get_or, length, ◌<◌, ◌+◌, arith}
use Rattle.std.proofs.Math.Seq.{take-suc}
use Rattle.std.proofs.lemmas.Grind.{reverse_onto}
use Rattle.std.specs.Cmp.Lexicographic.{nat_list_cmp_total}
use Rattle.std.specs.FinMap.Entries.{below_all, is_sorted}
use Rattle.std.specs.Ordering.{is_eq, is_lt, match_ordering}
use Rattle.std.specs.Prelude.{◌&&◌}
use Rattle.std.specs.declared.cmp.Ordering.{Ordering}
use Rattle.std.specs.declared.cmp.Ordering.TheVariants.{Less, Equal, Greater}
use Rattle.tm_syntax.specs.Named.{name_cmp, put}
use Rattle.tm_values.specs.Map as maps
use Rattle.tm_values.specs.Val.{Val, text}
use Rattle.tm_meaning.specs.World.{Bindings, choose, exported, is_exported}
use Rattle.tm_scopes.specs.Pairs.{in_order}
use Rattle.tm_scopes.proofs.Ordered.{at_same, sorted-in_order}

-- ---------------------------------------------------------------- pairs one after the other
put_each-append : (m xs ys : List (Val × Val)) → maps.put_each m (xs ++ ys) ≡ maps.put_each (maps.put_each m xs) ys
put_each-append m [] ys = refl
put_each-append m (x ∷ xs) ys = put_each-append (maps.put x.0 x.1 m) xs ys

put_last : (p : Val × Val) (ps : List (Val × Val)) → maps.put_all (reverse (p ∷ ps)) ≡ maps.put p.0 p.1 (maps.put_all (reverse ps))
put_last p ps = ap maps.put_all (reverse_onto ps p []) ∙ put_each-append [] (reverse ps) (p ∷ [])

pub exported-append : (xs ys : Bindings) → exported (xs ++ ys) ≡ exported xs ++ exported ys
exported-append [] ys = refl
exported-append (p ∷ xs) ys = by (is_exported p.0) (exported-append xs ys)
  where
    by : (b : Bool) → exported (xs ++ ys) ≡ exported xs ++ exported ys →
        choose b (λ _. (text p.0 false, p.1) ∷ exported (xs ++ ys)) (λ _. exported (xs ++ ys))
        ≡ choose b (λ _. (text p.0 false, p.1) ∷ exported xs) (λ _. exported xs) ++ exported ys
    by true r = ap (λ l. (text p.0 false, p.1) ∷ l) r
    by false r = r

-- ---------------------------------------------------------------- the order of names is that of texts
first : (a b : Bool) → T (a && b) → T a
first true b h = tt
first false b h = h

second : (a b : Bool) → T (a && b) → T b
second true b h = h
second false b h = absurd h

is_less : (o : Ordering) → T (is_lt o) → o ≡ Less
is_less Less h = refl
is_less Equal h = absurd h
is_less Greater h = absurd h

below_more : (x y : List ℕ) (ps : Bindings) → name_cmp x y ≡ Less → T (below_all name_cmp y ps) → T (below_all name_cmp x ps)
below_more x y [] l h = tt
below_more x y (p ∷ ps) l h =
    let here : name_cmp x p.0 ≡ Less = nat_list_cmp_total.trans x y p.0 l (is_less (name_cmp y p.0) (first (is_lt (name_cmp y p.0)) _ h)) in
    subst (λ o. T (is_lt o && below_all name_cmp x ps)) (sym here) (below_more x y ps l (second (is_lt (name_cmp y p.0)) _ h))

-- a name before all others
put_before : (x : List ℕ) (a : Val) (ps : Bindings) → T (below_all name_cmp x ps) →
    maps.put (text x false) a (exported ps) ≡ (text x false, a) ∷ exported ps
put_before x a [] h = refl
put_before x a (p ∷ ps) h =
    by (is_exported p.0) (is_less (name_cmp x p.0) (first (is_lt (name_cmp x p.0)) _ h)) (put_before x a ps (second (is_lt (name_cmp x p.0)) _ h))
  where
    by : (b : Bool) → name_cmp x p.0 ≡ Less → maps.put (text x false) a (exported ps) ≡ (text x false, a) ∷ exported ps →
        maps.put (text x false) a (choose b (λ _. (text p.0 false, p.1) ∷ exported ps) (λ _. exported ps))
        ≡ (text x false, a) ∷ choose b (λ _. (text p.0 false, p.1) ∷ exported ps) (λ _. exported ps)
    by true l r =
        ap (λ o. match_ordering o ((text x false, a) ∷ (text p.0 false, p.1) ∷ exported ps) ((text p.0 false, a) ∷ exported ps)
        ((text p.0 false, p.1) ∷ maps.put (text x false) a (exported ps))) l
    by false l r = r

-- a name that is exported
put_shown : (x : List ℕ) (a : Val) (ps : Bindings) → is_exported x ≡ true → T (is_sorted name_cmp ps) →
    exported (put x a ps) ≡ maps.put (text x false) a (exported ps)
put_shown x a [] e h = ap (λ b. choose b (λ _. (text x false, a) ∷ []) (λ _. [])) e
put_shown x a (p ∷ ps) e h = by (name_cmp x p.0) refl (put_shown x a ps e (second (below_all name_cmp p.0 ps) _ h))
  where
    shown : (b : Bool) (o : Ordering) → name_cmp x p.0 ≡ o →
        maps.put (text x false) a (choose b (λ _. (text p.0 false, p.1) ∷ exported ps) (λ _. exported ps))
        ≡ choose b (λ _. match_ordering o ((text x false, a) ∷ (text p.0 false, p.1) ∷ exported ps) ((text p.0 false, a) ∷ exported ps)
        ((text p.0 false, p.1) ∷ maps.put (text x false) a (exported ps))) (λ _. maps.put (text x false) a (exported ps))
    shown true o c =
        ap (λ o. match_ordering o ((text x false, a) ∷ (text p.0 false, p.1) ∷ exported ps) ((text p.0 false, a) ∷ exported ps)
        ((text p.0 false, p.1) ∷ maps.put (text x false) a (exported ps))) c
    shown false o c = refl

    after : (b : Bool) → exported (put x a ps) ≡ maps.put (text x false) a (exported ps) →
        choose b (λ _. (text p.0 false, p.1) ∷ exported (put x a ps)) (λ _. exported (put x a ps))
        ≡ choose b (λ _. (text p.0 false, p.1) ∷ maps.put (text x false) a (exported ps)) (λ _. maps.put (text x false) a (exported ps))
    after true r = ap (λ l. (text p.0 false, p.1) ∷ l) r
    after false r = r

    by : (o : Ordering) → name_cmp x p.0 ≡ o → exported (put x a ps) ≡ maps.put (text x false) a (exported ps) →
        exported (match_ordering o ((x, a) ∷ p ∷ ps) ((p.0, a) ∷ ps) (p ∷ put x a ps)) ≡ maps.put (text x false) a (exported (p ∷ ps))
    by Less c r =
        let below : T (below_all name_cmp x (p ∷ ps)) =
        subst (λ o. T (is_lt o && below_all name_cmp x ps)) (sym c) (below_more x p.0 ps c (first (below_all name_cmp p.0 ps) _ h)) in
        ap (λ b. choose b (λ _. (text x false, a) ∷ exported (p ∷ ps)) (λ _. exported (p ∷ ps))) e ∙ sym (put_before x a (p ∷ ps) below)
    by Equal c r =
        let same : is_exported p.0 ≡ true = ap is_exported (sym (at_same x p.0 (ap is_eq c))) ∙ e in
        ap (λ b. choose b (λ _. (text p.0 false, a) ∷ exported ps) (λ _. exported ps)) same
        ∙ sym (ap (λ b. maps.put (text x false) a (choose b (λ _. (text p.0 false, p.1) ∷ exported ps) (λ _. exported ps))) same
        ∙ shown true Equal c)
    by Greater c r = after (is_exported p.0) r ∙ sym (shown (is_exported p.0) Greater c)

-- and one that isn't
put_hidden : (x : List ℕ) (a : Val) (ps : Bindings) → is_exported x ≡ false → exported (put x a ps) ≡ exported ps
put_hidden x a [] e = ap (λ b. choose b (λ _. (text x false, a) ∷ []) (λ _. [])) e
put_hidden x a (p ∷ ps) e = by (name_cmp x p.0) refl (put_hidden x a ps e)
  where
    by : (o : Ordering) → name_cmp x p.0 ≡ o → exported (put x a ps) ≡ exported ps →
        exported (match_ordering o ((x, a) ∷ p ∷ ps) ((p.0, a) ∷ ps) (p ∷ put x a ps)) ≡ exported (p ∷ ps)
    by Less c r = ap (λ b. choose b (λ _. (text x false, a) ∷ exported (p ∷ ps)) (λ _. exported (p ∷ ps))) e
    by Equal c r =
        let same : is_exported p.0 ≡ false = ap is_exported (sym (at_same x p.0 (ap is_eq c))) ∙ e in
        ap (λ b. choose b (λ _. (text p.0 false, a) ∷ exported ps) (λ _. exported ps)) same
        ∙ sym (ap (λ b. choose b (λ _. (text p.0 false, p.1) ∷ exported ps) (λ _. exported ps)) same)
    by Greater c r = ap (λ l. choose (is_exported p.0) (λ _. (text p.0 false, p.1) ∷ l) (λ _. l)) r

-- of two pairs with one name the first counts, which is the last in a map
pub exported_map : (ps : Bindings) → maps.put_all (reverse (exported ps)) ≡ exported (in_order ps)
exported_map [] = refl
exported_map (p ∷ ps) = by (is_exported p.0) refl (exported_map ps)
  where
    by : (b : Bool) → is_exported p.0 ≡ b → maps.put_all (reverse (exported ps)) ≡ exported (in_order ps) →
        maps.put_all (reverse (choose b (λ _. (text p.0 false, p.1) ∷ exported ps) (λ _. exported ps)))
        ≡ exported (put p.0 p.1 (in_order ps))
    by true e r =
        put_last (text p.0 false, p.1) (exported ps) ∙ ap (maps.put (text p.0 false) p.1) r
        ∙ sym (put_shown p.0 p.1 (in_order ps) e (sorted-in_order ps))
    by false e r = r ∙ sym (put_hidden p.0 p.1 (in_order ps) e)

-- ---------------------------------------------------------------- for the loop
-- one more of those that are gone over
pub exported-more : (ps : Bindings) (i : ℕ) (p : List ℕ × Val) → i < length ps → p ≡ get_or ps i p →
    exported (take (i + 1) ps) ≡ exported (take i ps) ++ exported (p ∷ [])
exported-more ps i p h is =
    let next : i + 1 ≡ suc i = omega arith in
    ap (λ n. exported (take n ps)) next ∙ ap exported (take-suc ps i p h) ∙ exported-append (take i ps) (get_or ps i p ∷ [])
    ∙ ap (λ q. exported (take i ps) ++ exported (q ∷ [])) (sym is)
