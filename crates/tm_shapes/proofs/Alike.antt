-- A shape has one stack of each kind, and stacks are of one shape.
use Rattle.std.proofs.Common.{arith, ◌≡◌, ℕ, zero, suc, ◌+◌, List, [], ◌∷◌, ◌++◌, length}
use Rattle.std.proofs.Common.{refl, sym, ap, subst, ◌∙◌}
use Rattle.tm_trees.specs.Instructions.{CaptureMode}
use Rattle.tm_trees.specs.Instructions.modes
use Rattle.tm_shapes.specs.declared.cells.Cell.{Cell}
use Rattle.tm_shapes.specs.declared.cells.Item.{Item}
use Rattle.tm_shapes.specs.declared.cells.Item.TheVariants as items
use Rattle.tm_shapes.specs.declared.cells.Level.{Level}
use Rattle.tm_shapes.specs.declared.kind.Frame.{Frame}
use Rattle.tm_shapes.specs.declared.kind.Kind.{Kind}
use Rattle.tm_shapes.specs.declared.shape.Shape.{Shape as Made}
use Rattle.tm_shapes.specs.Cells.{AllOnce, Captures, Frames, IsCell, IsLevel, Operands, Parts, Special, all_operands, capture_item}
use Rattle.tm_shapes.specs.Shapes.{Part, Shape}
use Rattle.tm_shapes.specs.Shown.{Shows}
use Rattle.tm_shapes.proofs.Showing.{no-cell, same-cells}

-- ---------------------------------------------------------------- stacks are of one shape
module _ (cells : List Cell) where
  one-item : (n : ℕ) (i j : Item) (b c : ℕ) → IsCell cells n i b → IsCell cells n j c → (i ≡ j) × (b ≡ c)
  one-item n i j b c at there = same-cells (record { item = i; below = b }) (record { item = j; below = c }) (sym at ∙ there)

  one-kind : (k l : Kind) (v w : ℕ) → items.Operand k v ≡ items.Operand l w → (k ≡ l) × (v ≡ w)
  one-kind k l v w e = (cc e, cc e)

  operands-one : (v n : ℕ) (ks js : List Kind) → Operands cells v n ks → Operands cells v n js → ks ≡ js
  operands-one zero n [] [] h g = refl
  operands-one zero n [] (j ∷ js) h (special, (w, b, cell, rest)) = absurd (no-cell cells n _ h cell)
  operands-one zero n (k ∷ ks) [] (special, (w, b, cell, rest)) g = absurd (no-cell cells n _ g cell)
  operands-one zero n (k ∷ ks) (j ∷ js) (special, (w, b, cell, rest)) (special1, (w1, b1, cell1, rest1)) =
      let same = one-item n (items.Operand k w) (items.Operand j w1) b b1 cell cell1 in
      let kinds = one-kind k j w w1 same.0 in
      let more = operands-one w b ks js rest
      (subst (λ v. Operands cells v b js) (sym kinds.1) (subst (λ m. Operands cells w1 m js) (sym same.1) rest1)) in
      λ i. kinds.0 i ∷ more i
  operands-one (suc v) n [] js h g = absurd h
  operands-one (suc v) n (k ∷ ks) [] h g = absurd g
  operands-one (suc v) n (k ∷ ks) (j ∷ js) h g =
      let more = operands-one v n ks js h.1 g.1 in
      λ i. (h.0 ∙ sym g.0) i ∷ more i

  frames-one : (n : ℕ) (fs gs : List Frame) → Frames cells n fs → Frames cells n gs → fs ≡ gs
  frames-one n [] [] h g = refl
  frames-one n [] (f ∷ fs) h (b, cell, rest) = absurd (no-cell cells n _ h cell)
  frames-one n (f ∷ fs) [] (b, cell, rest) g = absurd (no-cell cells n _ g cell)
  frames-one n (f ∷ fs) (g ∷ gs) (b, cell, rest) (c, cell1, rest1) =
      let same = one-item n (items.Frame f) (items.Frame g) b c cell cell1 in
      let frame : f ≡ g = cc same.0 in
      let more = frames-one b fs gs rest (subst (λ m. Frames cells m gs) (sym same.1) rest1) in
      λ i. frame i ∷ more i

  one-mode : (a b : CaptureMode) → capture_item a ≡ capture_item b → a ≡ b
  one-mode modes.Capture modes.Capture e = refl
  one-mode modes.Discard modes.Discard e = refl
  one-mode modes.Capture modes.Discard e = absurd (cc e)
  one-mode modes.Discard modes.Capture e = absurd (cc e)

  captures-one : (n : ℕ) (ms ls : List CaptureMode) → Captures cells n ms → Captures cells n ls → ms ≡ ls
  captures-one n [] [] h g = refl
  captures-one n [] (m ∷ ms) h (b, cell, rest) = absurd (no-cell cells n _ h cell)
  captures-one n (m ∷ ms) [] (b, cell, rest) g = absurd (no-cell cells n _ g cell)
  captures-one n (m ∷ ms) (l ∷ ls) (b, cell, rest) (c, cell1, rest1) =
      let same = one-item n (capture_item m) (capture_item l) b c cell cell1 in
      let mode = one-mode m l same.0 in
      let more = captures-one b ms ls rest (subst (λ m. Captures cells m ls) (sym same.1) rest1) in
      λ i. mode i ∷ more i

  level-one : (level : Level) (p q : Part) → IsLevel cells level p → IsLevel cells level q → p.operands ≡ q.operands → p ≡ q
  level-one level p q h g e =
      let frames = frames-one level.frames p.frames q.frames h.frames g.frames in
      let captures = captures-one level.captures p.captures q.captures h.captures g.captures in
      λ i. record { operands = e i; frames = frames i; captures = captures i; escapes = (sym h.escapes ∙ g.escapes) i }

  split : (xs zs ys ws : List Kind) → xs ++ ys ≡ zs ++ ws → length xs ≡ length zs → (xs ≡ zs) × (ys ≡ ws)
  split [] [] ys ws e l = (refl, e)
  split [] (z ∷ zs) ys ws e l = absurd (omega (arith, l))
  split (x ∷ xs) [] ys ws e l = absurd (omega (arith, l))
  split (x ∷ xs) (z ∷ zs) ys ws e l =
      let head : x ≡ z = cc e in
      let tails : xs ++ ys ≡ zs ++ ws = cc e in
      let more = split xs zs ys ws tails (omega (arith, l)) in
      ((λ i. head i ∷ more.0 i), more.1)

  parts-one : (n floor : ℕ) (qs rs : List Part) → Parts cells n floor qs → Parts cells n floor rs → all_operands qs ≡ all_operands rs → qs ≡ rs
  parts-one n floor [] [] h g e = refl
  parts-one n floor [] (r ∷ rs) h (level, b, cell, is, low, rest) e = absurd (no-cell cells n _ h.0 cell)
  parts-one n floor (q ∷ qs) [] (level, b, cell, is, low, rest) g e = absurd (no-cell cells n _ g.0 cell)
  parts-one n floor (q ∷ qs) (r ∷ rs) (level, b, cell, is, low, rest) (level1, b1, cell1, is1, low1, rest1) e =
      let same = one-item n (items.Part level) (items.Part level1) b b1 cell cell1 in
      let levels : level1 ≡ level = cc (sym same.0) in
      let parted = split q.operands r.operands (all_operands qs) (all_operands rs) e
      (omega (arith, low, low1, ap (λ (l : Level). l.floor) levels)) in
      let part = level-one level q r is (subst (λ l. IsLevel cells l r) levels is1) parted.0 in
      let more = parts-one b level.floor qs rs rest
      (subst (λ m. Parts cells m level.floor rs) (sym same.1) (subst (λ (l : Level). Parts cells b1 l.floor rs) levels rest1)) parted.1 in
      λ i. part i ∷ more i

  pub one-shape : (made : Made) (s t : Shape) → Shows cells made s → Shows cells made t → s ≡ t
  one-shape made s t h g =
      let all = operands-one made.values made.top (s.part.operands ++ all_operands s.below) (t.part.operands ++ all_operands t.below) h.operands
      g.operands in
      let parted = split s.part.operands t.part.operands (all_operands s.below) (all_operands t.below) all (omega (arith, h.height, g.height)) in
      let part = level-one made.level s.part t.part h.level g.level parted.0 in
      let below = parts-one made.below made.level.floor s.below t.below h.parts g.parts parted.1 in
      λ i. record { part = part i; below = below i }

  -- ---------------------------------------------------------------- a shape has one stack of each kind
  module _ (once : AllOnce cells) where
    number-of : (n m : ℕ) (i : Item) (b c : ℕ) → IsCell cells n i b → IsCell cells m i c → b ≡ c → n ≡ m
    number-of n m i b c at there e = once n m (record { item = i; below = c }) (subst (λ b. IsCell cells n i b) e at) there

    operands-two : (v n w m : ℕ) (ks : List Kind) → Operands cells v n ks → Operands cells w m ks → (v ≡ w) × (n ≡ m)
    operands-two zero n zero m [] h g = (refl, h ∙ sym g)
    operands-two zero n (suc w) m [] h g = absurd g
    operands-two (suc v) n w m [] h g = absurd h
    operands-two zero n zero m (k ∷ ks) (special, (w, b, cell, rest)) (special1, (w1, b1, cell1, rest1)) =
        let more = operands-two w b w1 b1 ks rest rest1 in
        (refl, number-of n m (items.Operand k w1) b b1 (subst (λ w. IsCell cells n (items.Operand k w) b) more.0 cell) cell1 more.1)
    operands-two zero n (suc w) m (k ∷ ks) h g = absurd (subst Special g.0 h.0)
    operands-two (suc v) n zero m (k ∷ ks) h g = absurd (subst Special h.0 g.0)
    operands-two (suc v) n (suc w) m (k ∷ ks) h g =
        let more = operands-two v n w m ks h.1 g.1 in
        (ap suc more.0, more.1)

    frames-two : (n m : ℕ) (fs : List Frame) → Frames cells n fs → Frames cells m fs → n ≡ m
    frames-two n m [] h g = h ∙ sym g
    frames-two n m (f ∷ fs) (b, cell, rest) (c, cell1, rest1) = number-of n m (items.Frame f) b c cell cell1 (frames-two b c fs rest rest1)

    captures-two : (n m : ℕ) (ls : List CaptureMode) → Captures cells n ls → Captures cells m ls → n ≡ m
    captures-two n m [] h g = h ∙ sym g
    captures-two n m (l ∷ ls) (b, cell, rest) (c, cell1, rest1) =
        number-of n m (capture_item l) b c cell cell1 (captures-two b c ls rest rest1)

    level-two : (level other : Level) (p : Part) → IsLevel cells level p → IsLevel cells other p → level.floor ≡ other.floor → level ≡ other
    level-two level other p h g e =
        let frames = frames-two level.frames other.frames p.frames h.frames g.frames in
        let captures = captures-two level.captures other.captures p.captures h.captures g.captures in
        λ i. record {
          frames = frames i;
          captures = captures i;
          «open» = (h.count ∙ sym g.count) i;
          escapes = (h.escapes ∙ sym g.escapes) i;
          floor = e i;
        }

    parts-two : (n f m g : ℕ) (qs : List Part) → Parts cells n f qs → Parts cells m g qs → (n ≡ m) × (f ≡ g)
    parts-two n f m g [] h k = (h.0 ∙ sym k.0, h.1 ∙ sym k.1)
    parts-two n f m g (q ∷ qs) (level, b, cell, is, low, rest) (level1, b1, cell1, is1, low1, rest1) =
        let more = parts-two b level.floor b1 level1.floor qs rest rest1 in
        let levels = level-two level level1 q is is1 more.1 in (
          number-of n m (items.Part level1) b b1 (subst (λ l. IsCell cells n (items.Part l) b) levels cell) cell1 more.0,
          low ∙ ap (λ f. length q.operands + f) more.1 ∙ sym low1,
        )

    pub one-stack : (a b : Made) (s : Shape) → Shows cells a s → Shows cells b s → a ≡ b
    one-stack a b s h g =
        let parts = parts-two a.below a.level.floor b.below b.level.floor s.below h.parts g.parts in
        let level = level-two a.level b.level s.part h.level g.level parts.1 in
        let operands = operands-two a.values a.top b.values b.top (s.part.operands ++ all_operands s.below) h.operands g.operands in
        let height = h.height ∙ ap (λ f. length s.part.operands + f) parts.1 ∙ sym g.height in
        λ i. record { values = operands.0 i; top = operands.1 i; height = height i; level = level i; below = parts.0 i }
