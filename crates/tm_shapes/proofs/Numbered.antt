-- The numbers that cells get.
use Rattle.std.proofs.Common.{◌≡◌, ◌⊎◌, inl, inr, ℕ, zero, suc, List, [], ◌∷◌, ◌++◌, length, Some, None, Bool, true, false, cond}
use Rattle.std.proofs.Common.{slice_get, refl, sym, ap, subst, ◌∙◌}
use Rattle.std.proofs.lemmas.Map.Views.{IfSome-get, btree_map_get_iff, tells_apart}
use Rattle.std.specs.BTreeMap.{BTreeMap, IsOrdered, Updates, get, is_at}
use Rattle.std.specs.Option.{IfSome}
use Rattle.std.specs.List.{Contains}
use Rattle.tm_shapes.specs.Cells.{AllOnce, Grown, cell_at}
use Rattle.tm_shapes.specs.Numbers.{Fit}
use Rattle.tm_shapes.specs.declared.cells.Cell.{Cell}
use Rattle.tm_shapes.proofs.Orders.{exact_cells, order, order_total}

-- what the map has for a cell is its number
pub known : (cells : List Cell) (m : BTreeMap Cell ℕ) → Fit cells m.entries → (c : Cell) (k : ℕ) → Some k ≡ get order m c → cell_at cells k ≡ Some c
known cells m fit c k e =
    fit.sound c k (subst (λ o. IfSome o (λ v. Contains m.entries (c, v))) (sym e) (IfSome-get order_total exact_cells m c))

kept : (cells : List Cell) (c : Cell) (k : ℕ) (q : Cell) → slice_get cells k ≡ Some q → slice_get (cells ++ c ∷ []) k ≡ Some q
kept [] c k q e = absurd (cc e)
kept (x ∷ cells) c zero q e = e
kept (x ∷ cells) c (suc k) q e = kept cells c k q e

last : (cells : List Cell) (c : Cell) → slice_get (cells ++ c ∷ []) (length cells) ≡ Some c
last [] c = refl
last (x ∷ cells) c = last cells c

after : (cells : List Cell) (k : ℕ) (q c : Cell) → (slice_get cells k ≡ Some q) ⊎ ((k ≡ length cells) × (q ≡ c)) → (x : Cell) →
    (slice_get (x ∷ cells) (suc k) ≡ Some q) ⊎ ((suc k ≡ length (x ∷ cells)) × (q ≡ c))
after cells k q c (inl e) x = inl e
after cells k q c (inr p) x = inr (ap suc p.0, p.1)

one-of : (cells : List Cell) (c : Cell) (k : ℕ) (q : Cell) → slice_get (cells ++ c ∷ []) k ≡ Some q →
    (slice_get cells k ≡ Some q) ⊎ ((k ≡ length cells) × (q ≡ c))
one-of [] c zero q e = inr (refl, cc e)
one-of [] c (suc k) q e = absurd (cc e)
one-of (x ∷ cells) c zero q e = inl e
one-of (x ∷ cells) c (suc k) q e = after cells k q c (one-of cells c k q e) x

-- one cell more
pub grown-one : (cells : List Cell) (c : Cell) → Grown cells (cells ++ c ∷ [])
grown-one cells c zero q e = e
grown-one cells c (suc k) q e = kept cells c k q e

pub numbered : (cells : List Cell) (c : Cell) (k : ℕ) → k ≡ length (cells ++ c ∷ []) → cell_at (cells ++ c ∷ []) k ≡ Some c
numbered cells c k e = subst (λ k. cell_at (cells ++ c ∷ []) k ≡ Some c) (sym (e ∙ one_longer cells c)) (last cells c)
  where
    one_longer : (cells : List Cell) (c : Cell) → length (cells ++ c ∷ []) ≡ suc (length cells)
    one_longer [] c = refl
    one_longer (x ∷ cells) c = ap suc (one_longer cells c)

place-of : (cells : List Cell) (c : Cell) (k : ℕ) (q : Cell) → cell_at (cells ++ c ∷ []) k ≡ Some q →
    (cell_at cells k ≡ Some q) ⊎ ((k ≡ suc (length cells)) × (q ≡ c))
place-of cells c zero q e = inl e
place-of cells c (suc k) q e = by (one-of cells c k q e)
  where
    by : (slice_get cells k ≡ Some q) ⊎ ((k ≡ length cells) × (q ≡ c)) → (cell_at cells (suc k) ≡ Some q) ⊎ ((suc k ≡ suc (length cells)) × (q ≡ c))
    by (inl e) = inl e
    by (inr p) = inr (ap suc p.0, p.1)

module _ (cells : List Cell) (c : Cell) (m n : BTreeMap Cell ℕ) (fit : Fit cells m.entries) (was : IsOrdered order m) (is : IsOrdered order n)
    (none : None ≡ get order m c) (new : ℕ) (newest : new ≡ length (cells ++ c ∷ [])) (h : Updates order m n c (Some new)) where
  had : (k : ℕ) (q : Cell) → cell_at cells k ≡ Some q → get order m q ≡ Some k
  had k q e = (btree_map_get_iff order_total exact_cells m was q k).1 (fit.complete k q e)

  fresh : (k : ℕ) → cell_at cells k ≡ Some c → ⊥
  fresh k e = absurd (cc (none ∙ had k c e))

  at-new : cell_at (cells ++ c ∷ []) new ≡ Some c
  at-new = numbered cells c new newest

  sound-by : (b : Bool) (q : Cell) (k : ℕ) → is_at (order c) q ≡ b → cond b (Some new) (get order m q) ≡ Some k → cell_at (cells ++ c ∷ []) k ≡ Some q
  sound-by true q k t e =
      subst (λ p. cell_at (cells ++ c ∷ []) k ≡ Some p) (tells_apart exact_cells c q t)
      (subst (λ k. cell_at (cells ++ c ∷ []) k ≡ Some c) (cc e) at-new)
  sound-by false q k t e = grown-one cells c k q (known cells m fit q k (sym e))

  found-by : (b : Bool) (q : Cell) (k : ℕ) → is_at (order c) q ≡ b → cell_at cells k ≡ Some q → cond b (Some new) (get order m q) ≡ Some k
  found-by true q k t e = absurd (fresh k (subst (λ p. cell_at cells k ≡ Some p) (sym (tells_apart exact_cells c q t)) e))
  found-by false q k t e = had k q e

  once-by : (k l : ℕ) (q : Cell) → (cell_at cells k ≡ Some q) ⊎ ((k ≡ suc (length cells)) × (q ≡ c)) →
      (cell_at cells l ≡ Some q) ⊎ ((l ≡ suc (length cells)) × (q ≡ c)) → k ≡ l
  once-by k l q (inl e) (inl f) = fit.once k l q e f
  once-by k l q (inl e) (inr p) = absurd (fresh k (subst (λ q. cell_at cells k ≡ Some q) p.1 e))
  once-by k l q (inr p) (inl f) = absurd (fresh l (subst (λ q. cell_at cells l ≡ Some q) p.1 f))
  once-by k l q (inr p) (inr r) = p.0 ∙ sym r.0

  once : AllOnce (cells ++ c ∷ [])
  once k l q e f = once-by k l q (place-of cells c k q e) (place-of cells c l q f)

  in-map : (k : ℕ) (q : Cell) → cell_at (cells ++ c ∷ []) k ≡ Some q → (cell_at cells k ≡ Some q) ⊎ ((k ≡ suc (length cells)) × (q ≡ c)) →
      get order n q ≡ Some k
  in-map k q e (inl old) = h.0 q ∙ found-by (is_at (order c) q) q k refl old
  in-map k q e (inr p) =
      subst (λ q. get order n q ≡ Some k) (sym p.1)
      (h.1 ∙ ap Some (once new k c at-new (subst (λ q. cell_at (cells ++ c ∷ []) k ≡ Some q) p.1 e)))

  -- a cell without a number gets the next one
  pub fit-more : Fit (cells ++ c ∷ []) n.entries
  fit-more = record {
    once = once;
    sound = λ q k e. sound-by (is_at (order c) q) q k refl (sym (h.0 q) ∙ (btree_map_get_iff order_total exact_cells n is q k).1 e);
    complete = λ k q e. (btree_map_get_iff order_total exact_cells n is q k).0 (in-map k q e (place-of cells c k q e));
  }
