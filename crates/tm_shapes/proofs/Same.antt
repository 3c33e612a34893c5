-- Shapes are the same where their stacks are.
use Rattle.std.proofs.Common.{◌≡◌, ℕ, List, [], ◌∷◌, Option, Some, None, Bool, true, false, ◌&&◌, nat_eq, refl, sym, ap, subst}
use Rattle.std.proofs.lemmas.Bool.{eqb-true, eq-eqb}
use Rattle.tm_trees.specs.Instructions.{CaptureMode}
use Rattle.tm_trees.specs.Instructions.modes
use Rattle.tm_shapes.specs.declared.cells.Cell.{Cell}
use Rattle.tm_shapes.specs.declared.kind.Frame.{Frame}
use Rattle.tm_shapes.specs.declared.kind.Frame.TheVariants as frames
use Rattle.tm_shapes.specs.declared.kind.Kind.{Kind}
use Rattle.tm_shapes.specs.declared.kind.Kind.TheVariants as kinds
use Rattle.tm_shapes.specs.declared.shape.Shape.{Shape as Made}
use Rattle.tm_shapes.specs.Accepts.{same_frames, same_kind, same_kinds, same_mode, same_modes, same_part, same_parts, same_place, same_shape}
use Rattle.tm_shapes.specs.Cells.{AllOnce}
use Rattle.tm_shapes.specs.Shapes.{Part, Shape}
use Rattle.tm_shapes.specs.Shown.{Shows}
use Rattle.tm_shapes.proofs.Alike.{one-shape, one-stack}

both-true : (a b : Bool) → (a && b) ≡ true → (a ≡ true) × (b ≡ true)
both-true true b e = (refl, e)
both-true false b e = absurd (cc e)

all-true : (a b : Bool) → a ≡ true → b ≡ true → (a && b) ≡ true
all-true true b e f = f
all-true false b e f = absurd (cc e)

one-answer : (a b : Bool) → (a ≡ true → b ≡ true) → (b ≡ true → a ≡ true) → a ≡ b
one-answer true b f g = sym (f refl)
one-answer false true f g = g refl
one-answer false false f g = refl

itself : (n : ℕ) → nat_eq n n ≡ true
itself n = eq-eqb n n refl

-- ---------------------------------------------------------------- what is the same is one
place-one : (o p : Option ℕ) → same_place o p ≡ true → o ≡ p
place-one None None e = refl
place-one (Some n) (Some m) e = ap Some (eqb-true n m e)
place-one None (Some m) e = absurd (cc e)
place-one (Some n) None e = absurd (cc e)

kind-one : (j k : Kind) → same_kind j k ≡ true → j ≡ k
kind-one kinds.Value kinds.Value e = refl
kind-one (kinds.Zero n) (kinds.Zero m) e = ap kinds.Zero (eqb-true n m e)
kind-one (kinds.Group o) (kinds.Group p) e = ap kinds.Group (place-one o p e)
kind-one kinds.Closure kinds.Closure e = refl
kind-one (kinds.Names n) (kinds.Names m) e = ap kinds.Names (eqb-true n m e)
kind-one (kinds.Opened o) (kinds.Opened p) e = ap kinds.Opened (place-one o p e)
kind-one kinds.One kinds.One e = refl
kind-one j k e = absurd (cc e)

kinds-one : (js ks : List Kind) → same_kinds js ks ≡ true → js ≡ ks
kinds-one [] [] e = refl
kinds-one [] (k ∷ ks) e = absurd (cc e)
kinds-one (j ∷ js) [] e = absurd (cc e)
kinds-one (j ∷ js) (k ∷ ks) e =
    let p = both-true (same_kind j k) (same_kinds js ks) e in
    let kind = kind-one j k p.0 in
    let more = kinds-one js ks p.1 in
    λ i. kind i ∷ more i

frames-one : (fs gs : List Frame) → same_frames fs gs ≡ true → fs ≡ gs
frames-one [] [] e = refl
frames-one [] (g ∷ gs) e = absurd (cc e)
frames-one (frames.Scope ∷ fs) [] e = absurd (cc e)
frames-one (frames.Loop a b c ∷ fs) [] e = absurd (cc e)
frames-one (frames.Scope ∷ fs) (frames.Scope ∷ gs) e = ap (λ fs. frames.Scope ∷ fs) (frames-one fs gs e)
frames-one (frames.Scope ∷ fs) (frames.Loop l m n ∷ gs) e = absurd (cc e)
frames-one (frames.Loop a b c ∷ fs) (frames.Scope ∷ gs) e = absurd (cc e)
frames-one (frames.Loop a b c ∷ fs) (frames.Loop l m n ∷ gs) e =
    let p = both-true (nat_eq a l && nat_eq b m && nat_eq c n) (same_frames fs gs) e in
    let q = both-true (nat_eq a l && nat_eq b m) (nat_eq c n) p.0 in
    let r = both-true (nat_eq a l) (nat_eq b m) q.0 in
    let more = frames-one fs gs p.1 in
    λ i. frames.Loop (eqb-true a l r.0 i) (eqb-true b m r.1 i) (eqb-true c n q.1 i) ∷ more i

mode-one : (a b : CaptureMode) → same_mode a b ≡ true → a ≡ b
mode-one modes.Capture modes.Capture e = refl
mode-one modes.Discard modes.Discard e = refl
mode-one modes.Capture modes.Discard e = absurd (cc e)
mode-one modes.Discard modes.Capture e = absurd (cc e)

modes-one : (ls ms : List CaptureMode) → same_modes ls ms ≡ true → ls ≡ ms
modes-one [] [] e = refl
modes-one [] (m ∷ ms) e = absurd (cc e)
modes-one (l ∷ ls) [] e = absurd (cc e)
modes-one (l ∷ ls) (m ∷ ms) e =
    let p = both-true (same_mode l m) (same_modes ls ms) e in
    let mode = mode-one l m p.0 in
    let more = modes-one ls ms p.1 in
    λ i. mode i ∷ more i

part-one : (p q : Part) → same_part p q ≡ true → p ≡ q
part-one p q e =
    let a = both-true (same_kinds p.operands q.operands && same_frames p.frames q.frames && same_modes p.captures q.captures)
    (nat_eq p.escapes q.escapes) e in
    let b = both-true (same_kinds p.operands q.operands && same_frames p.frames q.frames) (same_modes p.captures q.captures) a.0 in
    let c = both-true (same_kinds p.operands q.operands) (same_frames p.frames q.frames) b.0 in
    let operands = kinds-one p.operands q.operands c.0 in
    let scopes = frames-one p.frames q.frames c.1 in
    let captures = modes-one p.captures q.captures b.1 in
    λ i. record { operands = operands i; frames = scopes i; captures = captures i; escapes = eqb-true p.escapes q.escapes a.1 i }

parts-one : (ps qs : List Part) → same_parts ps qs ≡ true → ps ≡ qs
parts-one [] [] e = refl
parts-one [] (q ∷ qs) e = absurd (cc e)
parts-one (p ∷ ps) [] e = absurd (cc e)
parts-one (p ∷ ps) (q ∷ qs) e =
    let a = both-true (same_part p q) (same_parts ps qs) e in
    let part = part-one p q a.0 in
    let more = parts-one ps qs a.1 in
    λ i. part i ∷ more i

shape-one : (s t : Shape) → same_shape s t ≡ true → s ≡ t
shape-one s t e =
    let a = both-true (same_part s.part t.part) (same_parts s.below t.below) e in
    let part = part-one s.part t.part a.0 in
    let below = parts-one s.below t.below a.1 in
    λ i. record { part = part i; below = below i }

-- ---------------------------------------------------------------- all is the same as itself
place-itself : (o : Option ℕ) → same_place o o ≡ true
place-itself None = refl
place-itself (Some n) = itself n

kind-itself : (k : Kind) → same_kind k k ≡ true
kind-itself kinds.Value = refl
kind-itself (kinds.Zero n) = itself n
kind-itself (kinds.Group o) = place-itself o
kind-itself kinds.Closure = refl
kind-itself (kinds.Names n) = itself n
kind-itself (kinds.Opened o) = place-itself o
kind-itself kinds.One = refl

kinds-itself : (ks : List Kind) → same_kinds ks ks ≡ true
kinds-itself [] = refl
kinds-itself (k ∷ ks) = all-true (same_kind k k) (same_kinds ks ks) (kind-itself k) (kinds-itself ks)

frames-itself : (fs : List Frame) → same_frames fs fs ≡ true
frames-itself [] = refl
frames-itself (frames.Scope ∷ fs) = frames-itself fs
frames-itself (frames.Loop a b c ∷ fs) =
    all-true (nat_eq a a && nat_eq b b && nat_eq c c) (same_frames fs fs)
    (all-true (nat_eq a a && nat_eq b b) (nat_eq c c) (all-true (nat_eq a a) (nat_eq b b) (itself a) (itself b)) (itself c)) (frames-itself fs)

mode-itself : (m : CaptureMode) → same_mode m m ≡ true
mode-itself modes.Capture = refl
mode-itself modes.Discard = refl

modes-itself : (ms : List CaptureMode) → same_modes ms ms ≡ true
modes-itself [] = refl
modes-itself (m ∷ ms) = all-true (same_mode m m) (same_modes ms ms) (mode-itself m) (modes-itself ms)

part-itself : (p : Part) → same_part p p ≡ true
part-itself p =
    all-true (same_kinds p.operands p.operands && same_frames p.frames p.frames && same_modes p.captures p.captures) (nat_eq p.escapes p.escapes)
    (all-true (same_kinds p.operands p.operands && same_frames p.frames p.frames) (same_modes p.captures p.captures)
    (all-true (same_kinds p.operands p.operands) (same_frames p.frames p.frames) (kinds-itself p.operands) (frames-itself p.frames))
    (modes-itself p.captures)) (itself p.escapes)

parts-itself : (ps : List Part) → same_parts ps ps ≡ true
parts-itself [] = refl
parts-itself (p ∷ ps) = all-true (same_part p p) (same_parts ps ps) (part-itself p) (parts-itself ps)

shape-itself : (s : Shape) → same_shape s s ≡ true
shape-itself s = all-true (same_part s.part s.part) (same_parts s.below s.below) (part-itself s.part) (parts-itself s.below)

-- ---------------------------------------------------------------- stacks
-- whether all numbers are the same
abbrev same_level : Made → Made → Bool
same_level a b =
    nat_eq a.level.frames b.level.frames
    && (nat_eq a.level.captures b.level.captures
    && (nat_eq a.level.«open» b.level.«open» && (nat_eq a.level.escapes b.level.escapes && nat_eq a.level.floor b.level.floor)))

abbrev pub same_made : Made → Made → Bool
same_made a b =
    nat_eq a.values b.values && (nat_eq a.top b.top && (nat_eq a.height b.height && (same_level a b && nat_eq a.below b.below)))

made-one : (a b : Made) → same_made a b ≡ true → a ≡ b
made-one a b e =
    let p = both-true (nat_eq a.values b.values) _ e in
    let q = both-true (nat_eq a.top b.top) _ p.1 in
    let r = both-true (nat_eq a.height b.height) _ q.1 in
    let u = both-true (same_level a b) (nat_eq a.below b.below) r.1 in
    let v = both-true (nat_eq a.level.frames b.level.frames) _ u.0 in
    let w = both-true (nat_eq a.level.captures b.level.captures) _ v.1 in
    let x = both-true (nat_eq a.level.«open» b.level.«open») _ w.1 in
    let y = both-true (nat_eq a.level.escapes b.level.escapes) (nat_eq a.level.floor b.level.floor) x.1 in
    λ i. record {
      values = eqb-true a.values b.values p.0 i;
      top = eqb-true a.top b.top q.0 i;
      height = eqb-true a.height b.height r.0 i;
      level = record {
        frames = eqb-true a.level.frames b.level.frames v.0 i;
        captures = eqb-true a.level.captures b.level.captures w.0 i;
        «open» = eqb-true a.level.«open» b.level.«open» x.0 i;
        escapes = eqb-true a.level.escapes b.level.escapes y.0 i;
        floor = eqb-true a.level.floor b.level.floor y.1 i;
      };
      below = eqb-true a.below b.below u.1 i;
    }

made-itself : (a : Made) → same_made a a ≡ true
made-itself a =
    all-true (nat_eq a.values a.values) _ (itself a.values)
    (all-true (nat_eq a.top a.top) _ (itself a.top)
    (all-true (nat_eq a.height a.height) _ (itself a.height)
    (all-true (same_level a a) (nat_eq a.below a.below)
    (all-true (nat_eq a.level.frames a.level.frames) _ (itself a.level.frames)
    (all-true (nat_eq a.level.captures a.level.captures) _ (itself a.level.captures)
    (all-true (nat_eq a.level.«open» a.level.«open») _ (itself a.level.«open»)
    (all-true (nat_eq a.level.escapes a.level.escapes) (nat_eq a.level.floor a.level.floor) (itself a.level.escapes) (itself a.level.floor)))))
    (itself a.below))))

pub made-same : (cells : List Cell) → AllOnce cells → (a b : Made) (s t : Shape) → Shows cells a s → Shows cells b t → same_made a b ≡ same_shape s t
made-same cells once a b s t h g = one-answer (same_made a b) (same_shape s t)
    (λ e. subst (λ u. same_shape s u ≡ true) (one-shape cells a s t h (subst (λ m. Shows cells m t) (sym (made-one a b e)) g)) (shape-itself s))
    (λ e. subst (λ m. same_made a m ≡ true) (one-stack cells once a b s h (subst (λ u. Shows cells b u) (sym (shape-one s t e)) g)) (made-itself a))
