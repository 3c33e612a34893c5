-- The records of loops: what is left of their items.
use Rattle.std.proofs.Common.{◌≡◌, ℕ, zero, suc, ◌+◌, List, [], ◌∷◌, ◌++◌, length, Option, Some, None, Bool, false, nat_lt, refl, sym, ap}
use Rattle.std.proofs.Common.{◌∙◌, subst, arith, length-append, append_assoc, le-ltb, ne_eqb}
use Rattle.std.specs.Prelude.{slice_get, nat_eq, option_and_then}
use Rattle.tm_values.specs.Val.{Val}
use Rattle.tm_meaning.specs.World.{World, Loop, new_loop, turned, turned_at, turned_of, top_mark, next_turn, top_loop}
use Rattle.tm_meaning.specs.Machine.{Return, Next}
use Rattle.tm_meaning.specs.Instructions.{on_loop}
use Rattle.tm_trees.specs.Instructions.{LoopFlags}
use Rattle.tm_meaning.specs.declared.mark.LoopMark.{LoopMark}
use Rattle.tm_meaning.specs.Meaning.{has_none}
use Rattle.tm_simulation.specs.Kept.{shape, shapes}
use Rattle.tm_simulation.proofs.Advances.{Kept, shapes_long, shapes_after, kept_top}
use Rattle.tm_simulation.proofs.RunAdvances.{turned_shapes, opened, mark_after, in_loop_of}

pub seam_some : {A : Type 0} (a b : List A) (v : A) → slice_get (a ++ v ∷ b) (length a) ≡ Some v
seam_some [] b v = refl
seam_some (x ∷ a) b v = seam_some a b v

pub seam_none : {A : Type 0} (a : List A) → slice_get (a ++ []) (length a) ≡ None
seam_none [] = refl
seam_none (x ∷ a) = seam_none a

-- these items weren't asked for yet
pub record LeftOf (l : Loop) (items vs : List Val) : Type 0 where
  pub before : List Val
  pub same : l.items ≡ items
  pub all : items ≡ before ++ vs
  pub turns : l.turns ≡ length before

pub next_item : (l : Loop) (items : List Val) (v : Val) (vs : List Val) → LeftOf l items (v ∷ vs) → slice_get l.items l.turns ≡ Some v
next_item l items v vs left = ap (λ xs. slice_get xs l.turns) (left.same ∙ left.all) ∙ ap (slice_get (left.before ++ v ∷ vs)) left.turns ∙
    seam_some left.before vs v

pub no_item : (l : Loop) (items : List Val) → LeftOf l items [] → slice_get l.items l.turns ≡ None
no_item l items left = ap (λ xs. slice_get xs l.turns) (left.same ∙ left.all) ∙ ap (slice_get (left.before ++ [])) left.turns ∙ seam_none
    left.before

-- asked for once more
more_turns : (l : Loop) (b : Bool) → nat_lt (length l.items) l.turns ≡ b → b ≡ false → turned l ≡ record l { turns = l.turns + 1 }
more_turns l b e d = rw (e, d) refl

turned_within : (l : Loop) (items vs : List Val) → LeftOf l items vs → turned l ≡ record l { turns = l.turns + 1 }
turned_within l items vs left =
    let long : length l.items ≡ length left.before + length vs = ap length (left.same ∙ left.all) ∙ length-append left.before vs in
    more_turns l (nat_lt (length l.items) l.turns) refl (le-ltb _ _ (omega (arith, long, left.turns)))

pub left_then : (l : Loop) (items : List Val) (v : Val) (vs : List Val) → LeftOf l items (v ∷ vs) → LeftOf (turned l) items vs
left_then l items v vs left = subst (λ m. LeftOf m items vs) (sym (turned_within l items (v ∷ vs) left)) (record {
  before = left.before ++ v ∷ [];
  same = left.same;
  all = left.all ∙ sym (append_assoc left.before (v ∷ []) vs);
  turns = omega (arith, left.turns, length-append left.before (v ∷ []));
})

-- the same items
pub turned_items : (l : Loop) (items : List Val) → LeftOf l items [] → (turned l).items ≡ items
turned_items l items left = ap (λ (m : Loop). m.items) (turned_within l items [] left) ∙ left.same

-- the record of a number, asked for its next item
turned_record : (n : ℕ) (ls : List Loop) (l : Loop) → slice_get ls n ≡ Some l → slice_get (turned_at n ls) n ≡ Some (turned l)
turned_record n [] l e = absurd (cc e)
turned_record zero (x ∷ ls) l e = let same : x ≡ l = cc e in ap (λ m. Some (turned m)) same
turned_record (suc n) (x ∷ ls) l e = turned_record n ls l e

top_is : (g : LoopFlags) (w0 w : World) → Kept (in_loop_of g w0) w → top_mark w.scopes.frames ≡ Some (mark_after g w0)
top_is g w0 w k = kept_top k

-- what is asked of a record of its items and turns
of_record : (n : ℕ) (ls : List Loop) (l : Loop) → slice_get (shapes ls) n ≡ Some l →
    (o : Option Return) (rs : List (Option Return)) (w : World) (f : List Val → ℕ → Next) →
    on_loop (o ∷ rs) (slice_get ls n) w (λ m. f m.items m.turns) ≡ f l.items l.turns
of_record n [] l e o rs w f = absurd (cc e)
of_record zero (x ∷ ls) l e o rs w f = let same : shape x ≡ l = cc e in ap (λ (m : Loop). f m.items m.turns) same
of_record (suc n) (x ∷ ls) l e o rs w f = of_record n ls l e o rs w f

pub on_top_loop : (g : LoopFlags) (w0 w : World) (l : Loop) → Kept (in_loop_of g w0) w →
    slice_get (shapes w.loops) (length w0.loops) ≡ Some l → (o : Option Return) (rs : List (Option Return)) (f : List Val → ℕ → Next) →
    on_loop (o ∷ rs) (top_loop w) w (λ m. f m.items m.turns) ≡ f l.items l.turns
on_top_loop g w0 w l k e o rs f =
    ap (λ (mark : Option LoopMark). on_loop (o ∷ rs) (option_and_then (λ (m : LoopMark). slice_get w.loops m.number) mark) w
    (λ m. f m.items m.turns)) (top_is g w0 w k)
    ∙ of_record (length w0.loops) w.loops l e o rs w f

pub next_record : (g : LoopFlags) (w0 w : World) (l : Loop) → Kept (in_loop_of g w0) w →
    slice_get (shapes w.loops) (length w0.loops) ≡ Some l → slice_get (shapes (next_turn w).loops) (length w0.loops) ≡ Some (turned l)
next_record g w0 w l k e =
    ap (λ m. slice_get (shapes (turned_of m w).loops) (length w0.loops)) (top_is g w0 w k)
    ∙ ap (λ ls. slice_get ls (length w0.loops)) (turned_shapes (length w0.loops) w.loops)
    ∙ turned_record (length w0.loops) (shapes w.loops) l e

-- the record of a loop that was opened
pub new_record : (g : LoopFlags) (n : ℕ) (w : World) (vs : List Val) → slice_get (shapes (opened g n w vs).loops) (length w.loops) ≡ Some
    (new_loop vs g n w)
new_record g n w vs =
    ap (λ ls. slice_get ls (length w.loops)) (shapes_after w.loops (new_loop vs g n w ∷ []))
    ∙ ap (slice_get (shapes w.loops ++ new_loop vs g n w ∷ [])) (sym (shapes_long w.loops))
    ∙ seam_some (shapes w.loops) [] (new_loop vs g n w)

pub none_is : (vs : List Val) → nat_eq (length vs) 0 ≡ has_none vs
none_is [] = refl
none_is (v ∷ vs) = ne_eqb (length (v ∷ vs)) 0 (λ e. absurd (cc e))
