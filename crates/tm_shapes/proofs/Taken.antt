-- Values that are taken from a shape, several at once.
use Rattle.std.proofs.Common.{arith, ◌≡◌, ◌<◌, ◌≤◌, ℕ, zero, suc, ◌+◌, ◌-◌, List, [], ◌∷◌, ◌++◌, length, Bool, true, false, refl, ap, subst, ◌∙◌}
use Rattle.tm_syntax.specs.Choices.{choose}
use Rattle.tm_shapes.specs.declared.cells.Cell.{Cell}
use Rattle.tm_shapes.specs.declared.kind.Kind.{Kind}
use Rattle.tm_shapes.specs.declared.shape.Shape.{Shape as Made}
use Rattle.tm_shapes.specs.Cells.{Operands, all_operands}
use Rattle.tm_shapes.specs.Flows.{Flow, is_value, pops, refused, with_operands}
use Rattle.tm_shapes.specs.Shapes.{Shape, pushed}
use Rattle.tm_shapes.specs.Shown.{Shows}
use Rattle.tm_shapes.proofs.Showing.{length-pushed}

-- ---------------------------------------------------------------- flows
pops-pushed : (v : ℕ) (ks : List Kind) (f : List Kind → Flow) → pops v (pushed v ks) f ≡ f ks
pops-pushed zero ks f = refl
pops-pushed (suc v) ks f = pops-pushed v ks f

pops-past : (v n m : ℕ) → m ≡ v + n → (ks : List Kind) (f : List Kind → Flow) → pops m (pushed v ks) f ≡ pops n ks f
pops-past zero n m e ks f = let same : m ≡ n = omega (arith, e) in ap (λ m. pops m ks f) same
pops-past (suc v) n zero e ks f = absurd (omega (arith, e))
pops-past (suc v) n (suc m) e ks f = pops-past v n m (omega (arith, e)) ks f

either-refused : (b : Bool) (x : Flow) → x ≡ refused → choose b (λ _. x) (λ _. refused) ≡ refused
either-refused true x e = e
either-refused false x e = refl

pub pops-short : (n : ℕ) (ks : List Kind) (f : List Kind → Flow) → length ks < n → pops n ks f ≡ refused
pops-short zero ks f h = absurd (omega (arith, h))
pops-short (suc n) [] f h = refl
pops-short (suc n) (k ∷ ks) f h = either-refused (is_value k) (pops n ks f) (pops-short n ks f (omega (arith, h)))

pub pops-one : (n : ℕ) (ks : List Kind) (k : Kind) (ms : List Kind) → 0 < n → ks ≡ k ∷ ms → (b : Bool) → is_value k ≡ b → (f : List Kind → Flow) →
    pops n ks f ≡ choose b (λ _. pops (n - 1) ms f) (λ _. refused)
pops-one zero ks k ms h e b v f = absurd (omega (arith, h))
pops-one (suc n) ks k ms h e b v f =
    let less : n ≡ suc n - 1 = omega arith in
    ap (λ ks. pops (suc n) ks f) e ∙ ap (λ b. choose b (λ _. pops n ms f) (λ _. refused)) v
    ∙ ap (λ n. choose b (λ _. pops n ms f) (λ _. refused)) less

-- ---------------------------------------------------------------- values off the top
values-off : (cells : List Cell) (c v n : ℕ) (ks js : List Kind) → c ≤ v → c ≤ length ks → Operands cells v n (ks ++ js) →
    (ls : List Kind) × (ks ≡ pushed c ls) × Operands cells (v - c) n (ls ++ js)
values-off cells zero v n ks js le lt h = let same : v ≡ v - 0 = omega arith in (ks, refl, subst (λ v. Operands cells v n (ks ++ js)) same h)
values-off cells (suc c) zero n ks js le lt h = absurd (omega (arith, le))
values-off cells (suc c) (suc v) n [] js le lt h = absurd (omega (arith, lt))
values-off cells (suc c) (suc v) n (k ∷ ks) js le lt h =
    let more = values-off cells c v n ks js (omega (arith, le)) (omega (arith, lt)) h.1 in
    let same : v - c ≡ suc v - suc c = omega arith in
    (more.0, (λ i. h.0 i ∷ more.1 i), subst (λ v. Operands cells v n (more.0 ++ js)) same more.2)

shows-off : (cells : List Cell) (made : Made) (s : Shape) (c : ℕ) → c ≤ made.values → c ≤ length s.part.operands → Shows cells made s →
    (ls : List Kind) × (s.part.operands ≡ pushed c ls)
    × Shows cells (record made { values = made.values - c; height = made.height - c }) (with_operands ls s)
shows-off cells made s c le lt shown =
    let off = values-off cells c made.values made.top s.part.operands (all_operands s.below) le lt shown.operands in (
      off.0,
      off.1,
      record {
        operands = off.2;
        height = omega (arith, shown.height, ap length off.1, length-pushed c off.0);
        level = record { frames = shown.level.frames; captures = shown.level.captures; count = shown.level.count; escapes = shown.level.escapes };
        parts = shown.parts;
      },
    )

-- So many values are still to be taken, from what stays of a shape.
abbrev pub IsLeft : List Cell → Made → ℕ → Made → ℕ → Type 0
IsLeft cells self count made left = (s : Shape) → Shows cells self s → (ks : List Kind) × (left ≤ length ks)
    × ((f : List Kind → Flow) → pops count s.part.operands f ≡ pops left ks f) × Shows cells made (with_operands ks s)

module _ (cells : List Cell) (self : Made) (count : ℕ) (made : Made) (left : ℕ) (h : IsLeft cells self count made left) where
  -- the values on top are enough
  pub left-off : left ≤ made.values → (s : Shape) → Shows cells self s → (ks : List Kind)
      × ((f : List Kind → Flow) → pops count s.part.operands f ≡ f ks)
      × Shows cells (record made { values = made.values - left; height = made.height - left }) (with_operands ks s)
  left-off le s shown =
      let p = h s shown in
      let off = shows-off cells made (with_operands p.0 s) left le p.1 p.3 in
      (off.0, (λ f. p.2 f ∙ ap (λ ks. pops left ks f) off.1 ∙ pops-pushed left off.0 f), off.2)

  -- they are all taken
  pub left-past : made.values ≤ left → IsLeft cells self count (record made { values = 0; height = made.height - made.values }) (left - made.values)
  left-past le s shown =
      let p = h s shown in
      let off = shows-off cells made (with_operands p.0 s) made.values (omega arith) (omega (arith, le, p.1)) p.3 in
      let none : made.values - made.values ≡ 0 = omega arith in
      let rest : left ≡ made.values + (left - made.values) = omega (arith, le) in (
        off.0,
        omega (arith, p.1, ap length off.1, length-pushed made.values off.0, le),
        (λ f. p.2 f ∙ ap (λ ks. pops left ks f) off.1 ∙ pops-past made.values (left - made.values) left rest off.0 f),
        subst (λ v. Shows cells (record made { values = v; height = made.height - made.values }) (with_operands off.0 s)) none off.2,
      )
