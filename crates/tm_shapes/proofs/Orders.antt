-- Cells that compare alike are one.
use Rattle.std.proofs.Common.{◌≡◌, refl, ap, Some, None, Ordering}
use Rattle.std.proofs.lemmas.Map.Lookups.{CmpEqualImpliesEq, exact_unsigned}
use Rattle.std.specs.Cmp.{IsTotalOrder}
use Rattle.std.specs.Ordering.{nat_cmp, ordering_then}
use Rattle.std.specs.declared.cmp.Ordering.TheVariants.{Less, Equal, Greater}
use Rattle.tm_shapes.specs.declared.kind.Kind.{Kind}
use Rattle.tm_shapes.specs.declared.kind.Kind.TheVariants as kinds
use Rattle.tm_shapes.specs.declared.kind.Frame.{Frame}
use Rattle.tm_shapes.specs.declared.kind.Frame.TheVariants as frames
use Rattle.tm_shapes.specs.declared.cells.Item.{Item}
use Rattle.tm_shapes.specs.declared.cells.Item.TheVariants as items
use Rattle.tm_shapes.specs.declared.cells.Level.{Level}
use Rattle.tm_shapes.specs.declared.cells.Cell.{Cell}
use Rattle.tm_shapes.specs.contracts.cells.CellOrd.TheImpl as ordered
use Rattle.tm_shapes.specs.contracts.cells.LevelOrd.TheImpl as ordered_level
use Rattle.tm_shapes.specs.contracts.cells.ItemOrd.TheImpl as ordered_item
use Rattle.tm_shapes.specs.contracts.kind.KindOrd.TheImpl as ordered_kind
use Rattle.tm_shapes.specs.contracts.kind.FrameOrd.TheImpl as ordered_frame
use Rattle.tm_shapes.specs.contracts.cells.CellOrd.TheImpl.Laws.{total-law}

abbrev pub order : Cell → Cell → Ordering
order a b = (ordered.cmp-value).it a b

pub order_total : IsTotalOrder order
order_total = total-law

-- both are equal where one after the other is
both : (a b : Ordering) → ordering_then a b ≡ Equal → (a ≡ Equal) × (b ≡ Equal)
both Less b e = absurd (cc e)
both Equal b e = (refl, e)
both Greater b e = absurd (cc e)

exact_kinds : (a b : Kind) → (ordered_kind.cmp-value).it a b ≡ Equal → a ≡ b
exact_kinds kinds.Value kinds.Value e = refl
exact_kinds (kinds.Zero n) (kinds.Zero m) e = ap kinds.Zero (exact_unsigned n m e)
exact_kinds (kinds.Group None) (kinds.Group None) e = refl
exact_kinds (kinds.Group (Some n)) (kinds.Group (Some m)) e = ap (λ n. kinds.Group (Some n)) (exact_unsigned n m e)
exact_kinds kinds.Closure kinds.Closure e = refl
exact_kinds (kinds.Names n) (kinds.Names m) e = ap kinds.Names (exact_unsigned n m e)
exact_kinds (kinds.Opened None) (kinds.Opened None) e = refl
exact_kinds (kinds.Opened (Some n)) (kinds.Opened (Some m)) e = ap (λ n. kinds.Opened (Some n)) (exact_unsigned n m e)
exact_kinds kinds.One kinds.One e = refl
exact_kinds a b e = absurd (cc e)

exact_frames : (a b : Frame) → (ordered_frame.cmp-value).it a b ≡ Equal → a ≡ b
exact_frames frames.Scope frames.Scope e = refl
exact_frames (frames.Loop a b c) (frames.Loop d e f) h =
    let p = both (nat_cmp a d) _ h in
    let q = both (nat_cmp b e) (nat_cmp c f) p.1 in
    λ i. frames.Loop (exact_unsigned a d p.0 i) (exact_unsigned b e q.0 i) (exact_unsigned c f q.1 i)
exact_frames a b e = absurd (cc e)

exact_levels : (a b : Level) → (ordered_level.cmp-value).it a b ≡ Equal → a ≡ b
exact_levels a b e =
    let p = both (nat_cmp a.frames b.frames) _ e in
    let q = both (nat_cmp a.captures b.captures) _ p.1 in
    let r = both (nat_cmp a.«open» b.«open») _ q.1 in
    let s = both (nat_cmp a.escapes b.escapes) (nat_cmp a.floor b.floor) r.1 in
    λ i. record {
      frames = exact_unsigned a.frames b.frames p.0 i;
      captures = exact_unsigned a.captures b.captures q.0 i;
      «open» = exact_unsigned a.«open» b.«open» r.0 i;
      escapes = exact_unsigned a.escapes b.escapes s.0 i;
      floor = exact_unsigned a.floor b.floor s.1 i;
    }

exact_items : (a b : Item) → (ordered_item.cmp-value).it a b ≡ Equal → a ≡ b
exact_items (items.Operand k n) (items.Operand l m) h =
    let p = both ((ordered_kind.cmp-value).it k l) (nat_cmp n m) h in
    λ i. items.Operand (exact_kinds k l p.0 i) (exact_unsigned n m p.1 i)
exact_items (items.Frame f) (items.Frame g) e = ap items.Frame (exact_frames f g e)
exact_items items.Capture items.Capture e = refl
exact_items items.Discard items.Discard e = refl
exact_items (items.Part l) (items.Part m) e = ap items.Part (exact_levels l m e)
exact_items a b e = absurd (cc e)

pub exact_cells : CmpEqualImpliesEq order
exact_cells a b e =
    let p = both ((ordered_item.cmp-value).it a.item b.item) (nat_cmp a.below b.below) e in
    λ i. record { item = exact_items a.item b.item p.0 i; below = exact_unsigned a.below b.below p.1 i }
