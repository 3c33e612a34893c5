-- Shapes by their stacks, as these change.
use Rattle.std.proofs.Common.{◌≡◌, ◌<◌, ℕ, zero, suc, ◌+◌, ◌-◌, List, [], ◌∷◌, ◌++◌, length, Some}
use Rattle.std.proofs.Common.{arith, refl, sym, ap, subst, ◌∙◌}
use Rattle.std.proofs.lemmas.List.{append_assoc, length-append}
use Rattle.tm_trees.specs.Instructions.{CaptureMode}
use Rattle.tm_shapes.specs.declared.cells.Cell.{Cell}
use Rattle.tm_shapes.specs.declared.cells.Item.TheVariants as items
use Rattle.tm_shapes.specs.declared.cells.Level.{Level}
use Rattle.tm_shapes.specs.declared.kind.Frame.{Frame}
use Rattle.tm_shapes.specs.declared.kind.Kind.{Kind}
use Rattle.tm_shapes.specs.declared.kind.Kind.TheVariants.{Value as value}
use Rattle.tm_shapes.specs.declared.shape.Shape.{Shape as Made}
use Rattle.tm_shapes.specs.Cells.{Captures, Frames, Grown, IsCell, IsLevel, Operands, Parts, Special, all_operands, cell_at}
use Rattle.tm_shapes.specs.Flows.{over_part, with_operands}
use Rattle.tm_shapes.specs.Shapes.{Part, Shape, entry_shape, no_part, pushed}
use Rattle.tm_shapes.specs.Shown.{Shows}

-- ---------------------------------------------------------------- cells that keep their numbers
module _ (old new : List Cell) (g : Grown old new) where
  operands-kept : (v n : ℕ) (ks : List Kind) → Operands old v n ks → Operands new v n ks
  operands-kept zero n [] h = h
  operands-kept (suc v) n [] h = h
  operands-kept (suc v) n (k ∷ ks) h = (h.0, operands-kept v n ks h.1)
  operands-kept zero n (k ∷ ks) (special, (w, b, cell, rest)) = (special, (w, b, g n _ cell, operands-kept w b ks rest))

  frames-kept : (n : ℕ) (fs : List Frame) → Frames old n fs → Frames new n fs
  frames-kept n [] h = h
  frames-kept n (f ∷ fs) (b, cell, rest) = (b, g n _ cell, frames-kept b fs rest)

  captures-kept : (n : ℕ) (ms : List CaptureMode) → Captures old n ms → Captures new n ms
  captures-kept n [] h = h
  captures-kept n (m ∷ ms) (b, cell, rest) = (b, g n _ cell, captures-kept b ms rest)

  level-kept : (level : Level) (p : Part) → IsLevel old level p → IsLevel new level p
  level-kept level p h = record {
    frames = frames-kept level.frames p.frames h.frames;
    captures = captures-kept level.captures p.captures h.captures;
    count = h.count;
    escapes = h.escapes;
  }

  parts-kept : (n floor : ℕ) (qs : List Part) → Parts old n floor qs → Parts new n floor qs
  parts-kept n floor [] h = h
  parts-kept n floor (q ∷ qs) (level, b, cell, is, low, rest) =
      (level, b, g n _ cell, level-kept level q is, low, parts-kept b level.floor qs rest)

  -- an operand that is no value goes over the others
  pub shows-with : (made : Made) (s : Shape) (kind : Kind) (n h : ℕ) → Special kind → h ≡ made.height + 1 →
      cell_at new n ≡ Some (record { item = items.Operand kind made.values; below = made.top }) → Shows old made s →
      Shows new (record made { values = 0; top = n; height = h }) (with_operands (kind ∷ s.part.operands) s)
  shows-with made s kind n h special e cell shown = record {
    operands = (special, (made.values, made.top, cell, operands-kept made.values made.top (s.part.operands ++ all_operands s.below) shown.operands));
    height = omega (arith, e, shown.height);
    level = record {
      frames = frames-kept made.level.frames s.part.frames shown.level.frames;
      captures = captures-kept made.level.captures s.part.captures shown.level.captures;
      count = shown.level.count;
      escapes = shown.level.escapes;
    };
    parts = parts-kept made.below made.level.floor s.below shown.parts;
  }

  -- a part over the others
  pub shows-part : (made : Made) (s : Shape) (level : Level) (n : ℕ) → IsLevel new level no_part → level.floor ≡ made.height →
      cell_at new n ≡ Some (record { item = items.Part made.level; below = made.below }) → Shows old made s →
      Shows new (record made { level = level; below = n }) (record { part = no_part; below = s.part ∷ s.below })
  shows-part made s level n none floor cell shown = record {
    operands = operands-kept made.values made.top (s.part.operands ++ all_operands s.below) shown.operands;
    height = omega (arith, floor);
    level = none;
    parts = (
      made.level,
      made.below,
      cell,
      level-kept made.level s.part shown.level,
      floor ∙ shown.height,
      parts-kept made.below made.level.floor s.below shown.parts,
    );
  }

-- ---------------------------------------------------------------- values
pushed-over : (c : ℕ) (ks js : List Kind) → pushed c (ks ++ js) ≡ pushed c ks ++ js
pushed-over zero ks js = refl
pushed-over (suc c) ks js = ap (λ ls. value ∷ ls) (pushed-over c ks js)

pub length-pushed : (c : ℕ) (ks : List Kind) → length (pushed c ks) ≡ length ks + c
length-pushed zero ks = omega arith
length-pushed (suc c) ks = omega (arith, length-pushed c ks)

operands-pushed : (cells : List Cell) (v n c : ℕ) (ks : List Kind) → Operands cells v n ks → Operands cells (v + c) n (pushed c ks)
operands-pushed cells v n zero ks h = let e : v ≡ v + 0 = omega arith in subst (λ w. Operands cells w n ks) e h
operands-pushed cells v n (suc c) ks h =
    let e : suc (v + c) ≡ v + suc c = omega arith in
    subst (λ w. Operands cells w n (value ∷ pushed c ks)) e (refl, operands-pushed cells v n c ks h)

pub shows-pushed : (cells : List Cell) (made : Made) (s : Shape) (c v h : ℕ) → v ≡ made.values + c → h ≡ made.height + c → Shows cells made s →
    Shows cells (record made { values = v; height = h }) (with_operands (pushed c s.part.operands) s)
shows-pushed cells made s c v h e f shown = record {
  operands = subst (λ w. Operands cells w made.top (pushed c s.part.operands ++ all_operands s.below)) (sym e)
      (subst (λ ks. Operands cells (made.values + c) made.top ks) (pushed-over c s.part.operands (all_operands s.below))
      (operands-pushed cells made.values made.top c (s.part.operands ++ all_operands s.below) shown.operands));
  height = omega (arith, f, shown.height, length-pushed c s.part.operands);
  level = record { frames = shown.level.frames; captures = shown.level.captures; count = shown.level.count; escapes = shown.level.escapes };
  parts = shown.parts;
}

none-more : (v : ℕ) → 0 + v ≡ v
none-more v = omega arith

-- over values alone
pub shows-over : (cells : List Cell) (v : ℕ) (level : Level) → IsLevel cells level no_part → level.floor ≡ 0 →
    Shows cells (record { values = v; top = 0; height = v; level = level; below = 0 }) (entry_shape v)
shows-over cells v level none floor = record {
  operands = subst (λ ks. Operands cells v 0 ks) (pushed-over v [] [])
      (subst (λ w. Operands cells w 0 (pushed v [])) (none-more v) (operands-pushed cells 0 0 v [] refl));
  height = omega (arith, length-pushed v [], floor);
  level = record { frames = none.frames; captures = none.captures; count = none.count; escapes = none.escapes };
  parts = (refl, floor);
}

-- ---------------------------------------------------------------- a part less
pub same-cells : (c d : Cell) → Some c ≡ Some d → (c.item ≡ d.item) × (c.below ≡ d.below)
same-cells c d e = let same : c ≡ d = cc e in (ap (λ (c : Cell). c.item) same, ap (λ (c : Cell). c.below) same)

pub no-cell : (cells : List Cell) (n : ℕ) (cell : Cell) → n ≡ 0 → cell_at cells n ≡ Some cell → ⊥
no-cell cells n cell e h = absurd (cc (subst (λ m. cell_at cells m ≡ Some cell) e h))

lower : (cells : List Cell) (made : Made) (s : Shape) (level : Level) (b : ℕ) (qs : List Part) →
    cell_at cells made.below ≡ Some (record { item = items.Part level; below = b }) → s.below ≡ qs → Parts cells made.below made.level.floor qs →
    Shows cells made s →
    (q : Part) × (rs : List Part) × (s.below ≡ q ∷ rs) × Shows cells (record made { level = level; below = b }) (over_part s.part.operands q rs)
lower cells made s level b [] cell is parts shown = absurd (no-cell cells made.below _ parts.0 cell)
lower cells made s level b (q ∷ qs) cell is (found, c, at, of, low, rest) shown =
    let alike = same-cells (record { item = items.Part found; below = c }) (record { item = items.Part level; below = b }) (sym at ∙ cell) in
    let same : found ≡ level = cc alike.0 in
    let under : c ≡ b = alike.1 in
    let all : (s.part.operands ++ all_operands s.below) ≡ ((s.part.operands ++ q.operands) ++ all_operands qs) =
    ap (λ rs. s.part.operands ++ all_operands rs) is ∙ sym (append_assoc s.part.operands q.operands (all_operands qs)) in
    let lies : IsLevel cells level q = subst (λ l. IsLevel cells l q) same of in
    let floors : made.level.floor ≡ length q.operands + level.floor =
    subst (λ (l : Level). made.level.floor ≡ length q.operands + l.floor) same low in (
      q,
      qs,
      is,
      record {
        operands = subst (λ ks. Operands cells made.values made.top ks) all shown.operands;
        height = omega (arith, shown.height, floors, length-append s.part.operands q.operands);
        level = record { frames = lies.frames; captures = lies.captures; count = lies.count; escapes = lies.escapes };
        parts = subst (λ (l : Level). Parts cells b l.floor qs) same (subst (λ m. Parts cells m found.floor qs) under rest);
      },
    )

pub shows-lower : (cells : List Cell) (made : Made) (s : Shape) (level : Level) (b : ℕ) →
    cell_at cells made.below ≡ Some (record { item = items.Part level; below = b }) → Shows cells made s →
    (q : Part) × (rs : List Part) × (s.below ≡ q ∷ rs) × Shows cells (record made { level = level; below = b }) (over_part s.part.operands q rs)
shows-lower cells made s level b cell shown = lower cells made s level b s.below cell refl shown.parts shown

-- without the cell of a part, none is below
none-lower : (cells : List Cell) (n floor : ℕ) (qs : List Part) → ((level : Level) (b : ℕ) → IsCell cells n (items.Part level) b → ⊥) →
    Parts cells n floor qs → qs ≡ []
none-lower cells n floor [] lacks parts = refl
none-lower cells n floor (q ∷ qs) lacks (level, b, cell, is, low, rest) = absurd (lacks level b cell)

pub shows-lowest : (cells : List Cell) (made : Made) (s : Shape) → ((level : Level) (b : ℕ) → IsCell cells made.below (items.Part level) b → ⊥) →
    Shows cells made s → s.below ≡ []
shows-lowest cells made s lacks shown = none-lower cells made.below made.level.floor s.below lacks shown.parts

-- ---------------------------------------------------------------- an operand less
under-value : (cells : List Cell) (v n h f : ℕ) (ks js : List Kind) → f < h → h ≡ length ks + f → Operands cells (suc v) n (ks ++ js) →
    (ls : List Kind) × (ks ≡ value ∷ ls) × Operands cells v n (ls ++ js) × (h - 1 ≡ length ls + f)
under-value cells v n h f [] js lt e stack = absurd (omega (arith, lt, e))
under-value cells v n h f (k ∷ ls) js lt e stack = (ls, ap (λ k. k ∷ ls) stack.0, stack.1, omega (arith, e))

pub shows-under-value : (cells : List Cell) (made : Made) (s : Shape) (v : ℕ) → made.values ≡ suc v → made.level.floor < made.height →
    Shows cells made s → (ls : List Kind) × (s.part.operands ≡ value ∷ ls)
    × Shows cells (record made { values = v; height = made.height - 1 }) (with_operands ls s)
shows-under-value cells made s v e lt shown =
    let p = under-value cells v made.top made.height made.level.floor s.part.operands (all_operands s.below) lt shown.height
    (subst (λ w. Operands cells w made.top (s.part.operands ++ all_operands s.below)) e shown.operands) in (
      p.0,
      p.1,
      record {
        operands = p.2;
        height = p.3;
        level = record { frames = shown.level.frames; captures = shown.level.captures; count = shown.level.count; escapes = shown.level.escapes };
        parts = shown.parts;
      },
    )

under-special : (cells : List Cell) (n h f : ℕ) (ks js : List Kind) → f < h → h ≡ length ks + f → Operands cells 0 n (ks ++ js) →
    (k : Kind) × (ls : List Kind) × (w : ℕ) × (b : ℕ) × (ks ≡ k ∷ ls) × IsCell cells n (items.Operand k w) b × Operands cells w b (ls ++ js)
    × (h - 1 ≡ length ls + f)
under-special cells n h f [] js lt e stack = absurd (omega (arith, lt, e))
under-special cells n h f (k ∷ ls) js lt e (special, (w, b, cell, rest)) = (k, ls, w, b, refl, cell, rest, omega (arith, e))

-- there is a cell of an operand
pub has-cell : (cells : List Cell) (made : Made) (s : Shape) → made.values ≡ 0 → made.level.floor < made.height → Shows cells made s →
    (k : Kind) × (w : ℕ) × (b : ℕ) × IsCell cells made.top (items.Operand k w) b
has-cell cells made s e lt shown =
    let p = under-special cells made.top made.height made.level.floor s.part.operands (all_operands s.below) lt shown.height
    (subst (λ w. Operands cells w made.top (s.part.operands ++ all_operands s.below)) e shown.operands) in
    (p.0, p.2, p.3, p.5)

pub shows-under-special : (cells : List Cell) (made : Made) (s : Shape) (k : Kind) (w b : ℕ) → made.values ≡ 0 → made.level.floor < made.height →
    cell_at cells made.top ≡ Some (record { item = items.Operand k w; below = b }) → Shows cells made s →
    (ls : List Kind) × (s.part.operands ≡ k ∷ ls)
    × Shows cells (record made { values = w; top = b; height = made.height - 1 }) (with_operands ls s)
shows-under-special cells made s k w b e lt cell shown =
    let p = under-special cells made.top made.height made.level.floor s.part.operands (all_operands s.below) lt shown.height
    (subst (λ w. Operands cells w made.top (s.part.operands ++ all_operands s.below)) e shown.operands) in
    let same = same-cells (record { item = items.Operand p.0 p.2; below = p.3 }) (record { item = items.Operand k w; below = b }) (sym p.5 ∙ cell) in
    let kind : p.0 ≡ k = cc same.0 in
    let values : p.2 ≡ w = cc same.0 in (
      p.1,
      p.4 ∙ ap (λ k. k ∷ p.1) kind,
      record {
        operands = subst (λ w. Operands cells w b (p.1 ++ all_operands s.below)) values
            (subst (λ b. Operands cells p.2 b (p.1 ++ all_operands s.below)) same.1 p.6);
        height = p.7;
        level = record { frames = shown.level.frames; captures = shown.level.captures; count = shown.level.count; escapes = shown.level.escapes };
        parts = shown.parts;
      },
    )
