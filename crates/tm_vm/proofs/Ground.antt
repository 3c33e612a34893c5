-- The scopes that a run leaves as they were.
use Rattle.std.proofs.Common.{◌≡◌, ◌≤◌, ◌<◌, ◌+◌, ◌-◌, ℕ, zero, suc, List, [], ◌∷◌, Option, None, Some, Bool, true, false, length, drop, refl, sym, ap, ◌∙◌, subst, arith}
use Rattle.std.proofs.lemmas.List.{length-drop}
use Rattle.std.proofs.Math.Seq.{drop-nil}
use Rattle.tm_values.specs.Val.{Val, undefined}
use Rattle.tm_trees.specs.Instructions.{LoopFlags}
use Rattle.tm_meaning.specs.World.{Scope, Scopes, World, leave_loop, leaving_of, loop_scope, owning, plain_scope, pop, top_mark, without_first}
use Rattle.tm_meaning.specs.declared.mark.LoopMark.{LoopMark}
use Rattle.tm_meaning.specs.Calls.{include_frames, outermost}
use Rattle.tm_meaning.specs.declared.base.Base.{Base}
use Rattle.tm_state.specs.Answers.{KeepsFixedAndNames, StaysInPlace}
use Rattle.tm_state.specs.State.{with_open_loop}
use Rattle.tm_vm.specs.Answers.{KeepsBaseScopes, KeepsGround, NoFewer, SameStanding}

-- ---------------------------------------------------------------- outermost scopes
drop_drop : (i j : ℕ) (frames : List Scope) → drop i (drop j frames) ≡ drop (j + i) frames
drop_drop i zero frames =
    let none : i ≡ 0 + i = omega arith in
    ap (λ k. drop k frames) none
drop_drop i (suc j) [] = drop-nil i ∙ sym (drop-nil (suc j + i))
drop_drop i (suc j) (s ∷ ss) =
    let next : suc (j + i) ≡ suc j + i = omega arith in
    drop_drop i j ss ∙ ap (λ k. drop k (s ∷ ss)) next

pub outermost_twice : (n m : ℕ) (frames : List Scope) → n ≤ m → m ≤ length frames → outermost n (outermost m frames) ≡ outermost n frames
outermost_twice n m frames below within =
    let long = length-drop (length frames - m) frames in
    drop_drop (length (outermost m frames) - n) (length frames - m) frames
    ∙ ap (λ k. drop k frames) (omega (arith, long, below, within))

pub outermost_long : (n : ℕ) (frames : List Scope) → n ≤ length frames → length (outermost n frames) ≡ n
outermost_long n frames h = omega (arith, length-drop (length frames - n) frames, h)

-- below one scope more
pub outermost_under : (n : ℕ) (s : Scope) (frames : List Scope) → n ≤ length frames → outermost n (s ∷ frames) ≡ outermost n frames
outermost_under n s frames within =
    let less : length (s ∷ frames) - n ≡ suc (length frames - n) = omega (arith, within) in
    ap (λ k. drop k (s ∷ frames)) less

all_of_them : (frames : List Scope) → outermost (length frames) frames ≡ frames
all_of_them frames =
    let none : length frames - length frames ≡ 0 = omega arith in
    ap (λ k. drop k frames) none

-- the very ones from before, below one scope more
pub under_one : (s : Scope) (frames : List Scope) → outermost (length frames) (s ∷ frames) ≡ frames
under_one s frames = outermost_under (length frames) s frames (omega arith) ∙ all_of_them frames

-- all but the innermost one
pub below_first : (frames : List Scope) → 1 ≤ length frames → outermost (length frames - 1) frames ≡ without_first frames
below_first [] h = absurd (omega (arith, h))
below_first (s ∷ ss) h =
    let less : length (s ∷ ss) - 1 ≡ length ss = omega arith in
    ap (λ k. outermost k (s ∷ ss)) less ∙ under_one s ss

-- whatever the innermost one has become
pub below_changed : (s t : Scope) (frames : List Scope) →
    outermost (length (s ∷ frames) - 1) (t ∷ frames) ≡ outermost (length (s ∷ frames) - 1) (s ∷ frames)
below_changed s t frames =
    let less : length (s ∷ frames) - 1 ≡ length frames = omega arith in
    ap (λ k. outermost k (t ∷ frames)) less ∙ under_one t frames ∙ sym (under_one s frames) ∙ ap (λ k. outermost k (s ∷ frames)) (sym less)

-- whatever closure the innermost one has of its own
pub owning_long : (closure : Option ℕ) (frames : List Scope) → length (owning closure frames) ≡ length frames
owning_long closure [] = refl
owning_long closure (s ∷ ss) = refl

pub below_owning : (closure : Option ℕ) (frames : List Scope) →
    outermost (length frames - 1) (owning closure frames) ≡ outermost (length frames - 1) frames
below_owning closure [] = refl
below_owning closure (s ∷ ss) = below_changed s (record s { own_closure = closure }) ss

-- whatever scopes a template runs in
pub below_include : (apart : Bool) (frames : List Scope) →
    outermost (length frames - 1) (include_frames apart frames) ≡ outermost (length frames - 1) frames
below_include false frames = below_owning None frames
below_include true frames =
    let s = plain_scope (undefined false) in
    sym (outermost_twice (length frames - 1) (length frames) (s ∷ frames) (omega arith) (omega arith))
    ∙ ap (outermost (length frames - 1)) (under_one s frames)

pub include_long : (apart : Bool) (frames : List Scope) → length frames ≤ length (include_frames apart frames)
include_long true frames = let more : length frames ≤ length (plain_scope (undefined false) ∷ frames) = omega arith in more
include_long false frames =
    let more : length frames ≤ length (owning None frames) = omega (arith, owning_long None frames) in more

-- ---------------------------------------------------------------- the ground
pub ground_same : (n : ℕ) (w : World) → KeepsGround n w w
ground_same n w = (refl, refl, refl)

pub ground_then : (n : ℕ) (a b c : World) → KeepsGround n a b → KeepsGround n b c → KeepsGround n a c
ground_then n a b c h k = (k.0 ∙ h.0, k.1 ∙ h.1, k.2 ∙ h.2)

-- what is kept below more scopes is kept below fewer
ground_below : (n m : ℕ) (old new : World) → n ≤ m → m ≤ length old.scopes.frames → m ≤ length new.scopes.frames →
    KeepsGround m old new → KeepsGround n old new
ground_below n m old new fewer there here h = (
  sym (outermost_twice (n - 1) (m - 1) new.scopes.frames (omega (arith, fewer)) (omega (arith, here)))
      ∙ ap (outermost (n - 1)) h.0
      ∙ outermost_twice (n - 1) (m - 1) old.scopes.frames (omega (arith, fewer)) (omega (arith, there)),
  h.1,
  h.2,
)

-- ---------------------------------------------------------------- scopes that stay
-- the very scopes, where they stood
pub standing : (old new : World) → new.scopes ≡ old.scopes → new.places ≡ old.places → SameStanding old new
standing old new scopes places = (
  ap (λ (s : Scopes). length s.frames) scopes,
  (
    ap (λ (s : Scopes). outermost (length old.scopes.frames - 1) s.frames) scopes,
    ap (λ (s : Scopes). s.outer) scopes,
    places,
  ),
)

pub standing_same : (w : World) → SameStanding w w
standing_same w = standing w w refl refl

pub same_as_no_fewer : (old new : World) → SameStanding old new → NoFewer old new
same_as_no_fewer old new same = let long = same.0 in (omega (arith, long), same.1)

pub no_fewer_same : (w : World) → NoFewer w w
no_fewer_same w = same_as_no_fewer w w (standing_same w)

pub no_fewer_in_place : (old new : World) → StaysInPlace old new → NoFewer old new
no_fewer_in_place old new stays = same_as_no_fewer old new (standing old new stays.0 stays.4)

pub no_fewer_then : (a b c : World) → NoFewer a b → NoFewer b c → NoFewer a c
no_fewer_then a b c h k =
    let more = h.0 in
    let most = k.0 in (
      omega (arith, more, most),
      ground_then (length a.scopes.frames) a b c h.1
          (ground_below (length a.scopes.frames) (length b.scopes.frames) b c more (omega arith) most k.1),
    )

pub over_same : (a b c : World) → NoFewer a b → SameStanding b c → NoFewer a c
over_same a b c h same = no_fewer_then a b c h (same_as_no_fewer b c same)

pub stays_over : (f : Base) (old new : World) → NoFewer old new → KeepsBaseScopes f old new
stays_over f old new more = λ h.
    let long = more.0 in (
      omega (arith, h, long),
      ground_below f.scopes (length old.scopes.frames) old new h (omega arith) long more.1,
    )

pub stays : (f : Base) (old new : World) → SameStanding old new → KeepsBaseScopes f old new
stays f old new same = stays_over f old new (same_as_no_fewer old new same)

-- ---------------------------------------------------------------- scopes that are opened and left
-- one scope more
pub no_fewer_pushed : (s : Scope) (old new : World) → new.scopes ≡ record { frames = s ∷ old.scopes.frames; outer = old.scopes.outer } →
    new.places ≡ old.places → NoFewer old new
no_fewer_pushed s old new scopes places =
    let long : length new.scopes.frames ≡ length (s ∷ old.scopes.frames) = ap (λ (x : Scopes). length x.frames) scopes in (
      omega (arith, long),
      (
        ap (λ (x : Scopes). outermost (length old.scopes.frames - 1) x.frames) scopes
            ∙ outermost_under (length old.scopes.frames - 1) s old.scopes.frames (omega arith),
        ap (λ (x : Scopes). x.outer) scopes,
        places,
      ),
    )

-- a loop more, in a scope of its own
pub no_fewer_opened : (items : List Val) (flags : LoopFlags) (number : ℕ) (old new : World) → new ≡ with_open_loop items flags number old →
    NoFewer old new
no_fewer_opened items flags number old new is =
    subst (λ w. NoFewer old w) (sym is)
    (no_fewer_pushed (loop_scope (record { number = length old.loops; variable = flags.variable })) old
    (with_open_loop items flags number old) refl refl)

-- one scope of those that a run opened is left
left_one : (n : ℕ) (frames : List Scope) → n < length frames →
    (n ≤ length (without_first frames)) × (outermost (n - 1) (without_first frames) ≡ outermost (n - 1) frames)
left_one n [] h = absurd (omega (arith, h))
left_one n (s ∷ ss) h = (omega (arith, h), sym (outermost_under (n - 1) s ss (omega (arith, h))))

pub stays_popped : (f : Base) (old new : World) → f.scopes < length old.scopes.frames → new ≡ pop old → KeepsBaseScopes f old new
stays_popped f old new opened is = λ h.
    let one = left_one f.scopes old.scopes.frames opened in
    subst (λ (w : World). (f.scopes ≤ length w.scopes.frames) × KeepsGround f.scopes old w) (sym is)
    (one.0, (one.1, refl, refl))

-- a loop is left, whose record forgets its items
leaving_stays : (f : Base) (m : Option LoopMark) (w : World) → f.scopes < length w.scopes.frames → KeepsBaseScopes f w (pop (leaving_of m w))
leaving_stays f None w opened = stays_popped f w (pop w) opened refl
leaving_stays f (Some m) w opened = stays_popped f w (pop w) opened refl

pub stays_left : (f : Base) (old new : World) → f.scopes < length old.scopes.frames → new ≡ leave_loop old → KeepsBaseScopes f old new
stays_left f old new opened is =
    subst (λ w. KeepsBaseScopes f old w) (sym is) (leaving_stays f (top_mark old.scopes.frames) old opened)

leaving_keeps : (m : Option LoopMark) (w : World) → KeepsFixedAndNames w (pop (leaving_of m w))
leaving_keeps None w = record { same_id = refl; same_fuel_set = refl; no_more_fuel = omega arith; same_loaded = refl }
leaving_keeps (Some m) w = record { same_id = refl; same_fuel_set = refl; no_more_fuel = omega arith; same_loaded = refl }

pub left_keeps : (old new : World) → new ≡ leave_loop old → KeepsFixedAndNames old new
left_keeps old new is = subst (λ w. KeepsFixedAndNames old w) (sym is) (leaving_keeps (top_mark old.scopes.frames) old)

pub base_then : (f : Base) (a b c : World) → KeepsBaseScopes f a b → SameStanding b c → KeepsBaseScopes f a c
base_then f a b c h same = λ above.
    let first = h above in
    let then = stays f b c same first.0 in
    (then.0, ground_then f.scopes a b c first.1 then.1)
