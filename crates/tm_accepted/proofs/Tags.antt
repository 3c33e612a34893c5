-- The code of statements leaves the shape from which it begins.
use Rattle.std.proofs.Common.{◌≡◌, ℕ, suc, ◌+◌, List, [], ◌∷◌, length, Option, Some, None, Bool, true, false, refl, sym, ap, subst, arith}
use Rattle.std.specs.Prelude.{pos, nat_eq, codes}
use Rattle.std.proofs.lemmas.Bool.Decides.{nat_tests}
use Rattle.tm_values.specs.Val.{number, text}
use Rattle.tm_trees.specs.Trees.{Expr, Call', Row_of-Step, no_step, step, Step, Apply', Called, AssignmentTarget, To, Items, Member}
use Rattle.tm_trees.specs.Trees.{Row_of-AssignmentTarget, no_target, target, Assignment, Parameter, Imported, CaptureUse, Stmt, EmitRaw, EmitExpr}
use Rattle.tm_trees.specs.Trees.{EmitLoop, EmitBlock, EmitSuper, If', For', Break, Continue, Block', Extends, Set, CaptureBlock', With', Do}
use Rattle.tm_trees.specs.Trees.{AutoEscape', Macro', CallBlock', Row_of-Stmt, Include, Import, FromImport, no_statement, statement, Otherwise}
use Rattle.tm_trees.specs.Trees.{no_else, otherwise}
use Rattle.tm_trees.specs.Trees.uses
use Rattle.tm_trees.specs.Instructions.{CaptureMode}
use Rattle.tm_trees.specs.Instructions.modes.{Capture, Discard}
use Rattle.tm_trees.specs.Instructions.instructions as i
use Rattle.tm_syntax.specs.declared.opened.Opened.{Opened}
use Rattle.tm_syntax.specs.declared.opened.Opened.TheVariants.{Scope as a_scope, Escape as an_escape, Capture as a_capture}
use Rattle.tm_syntax.specs.Forms.{chained}
use Rattle.tm_syntax.specs.Code.{map_of_row, RowEnd, caller_end, passed_count, expr_code, step_code}
use Rattle.tm_syntax.specs.Code.{passing_code, called_alone, step_call_code, steps_call_code, call_code, count_targets, target_code}
use Rattle.tm_syntax.specs.Code.{targets_code, set_code, assignments_code, filters_code, use_code, included_code, lookups_code, stores_code}
use Rattle.tm_syntax.specs.Code.{close_all, iterable_code, default_code, parameter_code, parameters_code, macro_head, statement_code}
use Rattle.tm_syntax.specs.Code.{statements_code, branches_code, after_loop_code}
use Rattle.tm_syntax.specs.Names.{parameter_names}
use Rattle.tm_syntax.specs.Fragments.{Fragment, straight, ◌⨾◌, beyond, declares}
use Rattle.tm_shapes.specs.declared.kind.Kind.{Kind}
use Rattle.tm_shapes.specs.declared.kind.Kind.TheVariants.{Value as value, Group as group, Opened as opened, One as one}
use Rattle.tm_shapes.specs.declared.kind.Frame.{Frame}
use Rattle.tm_shapes.specs.declared.kind.Frame.TheVariants.{Scope as scope, Loop as loop}
use Rattle.tm_shapes.specs.declared.kind.Reading.TheVariants.{Value as as_value, Group as as_group}
use Rattle.tm_shapes.specs.Shapes.{Shape, first_shape, entry_shape, pushed}
use Rattle.tm_shapes.specs.Flows.{Flow, pop_frame, pop_escape, end_capture, with_operands, with_frames, with_captures}
use Rattle.tm_shapes.specs.Flows.{with_escapes, on_loop, loop_begun}
use Rattle.tm_accepted.specs.Sites.{ordinary}
use Rattle.tm_accepted.proofs.Lays.{Around, Steps, Straight, Types, site, ending}
use Rattle.tm_accepted.proofs.Trees.{Over, over_both, Pushes, Replaces, one_step, call_step, left, Ends}
use Rattle.tm_accepted.proofs.Trees.{application_types, passing_types, both_push, then_replace, expr_types, arguments_types}
use Rattle.tm_accepted.proofs.Trees.{lists_types, keywords_types, map_types, step_types}

-- code over any operands that leaves them
abbrev pub Leaves : Fragment → Type 0
Leaves c = (e : Around) (s : Shape) (pc : ℕ) → Types pc e c s s

-- ---------------------------------------------------------------- targets
mutual
  pub target_types : (t : AssignmentTarget) → Replaces 1 0 (target_code t)
  target_types (To x) = one_step (i.StoreLocal x) 1 0 (λ at s. refl)
  target_types (Items _ ts) = λ e s ks pc. (
    Over (count_targets ts) ks s,
    one_step (i.UnpackList (count_targets ts)) 1 (count_targets ts) (λ at s. refl) e s ks _,
    targets_types ts e s ks (pc + 1),
  )
  target_types (Member x name) =
      then_replace 1 1 2 0 (expr_code x) (straight (i.SetAttr name ∷ [])) refl (expr_types x) (one_step (i.SetAttr name) 2 0 (λ at s. refl))

  pub targets_types : {n : _} (ts : Row_of-AssignmentTarget n) → Replaces (count_targets ts) 0 (targets_code ts)
  targets_types no_target = λ e s ks pc. refl
  targets_types (target t ts) = λ e s ks pc.
      let n = count_targets ts in
      let below : Over (n + 1) ks s ≡ Over 1 (pushed n ks) s = sym (over_both 1 n (n + 1) ks s (omega arith)) in
      subst (λ x. Types pc e (targets_code (target t ts)) x (with_operands ks s)) (sym below)
      (Over n ks s, target_types t e s (pushed n ks) pc, targets_types ts e s ks (beyond pc (target_code t)))

set_types : (t : AssignmentTarget) (x : Expr) → Leaves (set_code t x)
set_types t x e s pc =
    (Over 1 s.part.operands s, expr_types x e s s.part.operands pc, target_types t e s s.part.operands (beyond pc (expr_code x)))

assignments_types : (given : List Assignment) → Leaves (assignments_code given)
assignments_types [] e s pc = refl
assignments_types (a ∷ more) e s pc =
    (s, set_types a.target a.value e s pc, assignments_types more e s (beyond pc (set_code a.target a.value)))

filters_types : (fs : List Step) → Replaces 1 1 (filters_code fs)
filters_types [] = λ e s ks pc. refl
filters_types (f ∷ more) = λ e s ks pc. (Over 1 ks s, step_types f e s ks pc, filters_types more e s ks (beyond pc (step_code f)))

use_types : (u : CaptureUse) → Replaces 1 0 (use_code u)
use_types uses.Emit = one_step i.Emit 1 0 (λ at s. refl)
use_types (uses.Assign t) = target_types t

-- ---------------------------------------------------------------- templates that run here
lookups_types : (xs : List Imported) → Pushes (length xs) (lookups_code xs)
lookups_types [] = λ e s ks pc. refl
lookups_types (x ∷ xs) =
    both_push 1 (length xs) (suc (length xs)) (straight (i.Lookup x.name ∷ [])) (lookups_code xs) (omega arith)
    (one_step (i.Lookup x.name) 0 1 (λ at s. refl)) (lookups_types xs)

stores_types : (xs : List Imported) → Replaces (length xs) 0 (stores_code xs)
stores_types [] = λ e s ks pc. refl
stores_types (x ∷ xs) = λ e s ks pc.
    let n = length xs in
    let below : Over (suc n) ks s ≡ Over n (pushed 1 ks) s = sym (over_both n 1 (suc n) ks s (omega arith)) in
    subst (λ y. Types pc e (stores_code (x ∷ xs)) y (with_operands ks s)) (sym below)
    (Over 1 ks s, stores_types xs e s (pushed 1 ks) pc, one_step (i.StoreLocal x.target) 1 0 (λ at s. refl) e s ks _)

-- ---------------------------------------------------------------- what is closed by a jump
abbrev pub Within : List Opened → Shape → Shape → Type 0
Within [] s b = s ≡ b
Within (a_scope ∷ os) s b = (fs : List Frame) × (s.part.frames ≡ scope ∷ fs) × Within os (with_frames fs s) b
Within (an_escape ∷ os) s b = (n : ℕ) × (s.part.escapes ≡ suc n) × Within os (with_escapes n s) b
Within (a_capture ∷ os) s b = (m : CaptureMode) × (ms : List CaptureMode) × (s.part.captures ≡ m ∷ ms) × Within os (with_captures ms s) b

close_types : (os : List Opened) (s b : Shape) (pc : ℕ) → Within os s b → Straight pc (close_all os) s b
close_types [] s b pc h = h
close_types (a_scope ∷ os) s b pc (fs, is, h) = (
  with_frames fs s,
  (as_value, tt, tt, λ r. ap (λ x. pop_frame (site r pc) s x) is),
  close_types os (with_frames fs s) b (pc + 1) h,
)
close_types (an_escape ∷ os) s b pc (n, is, h) = (
  with_escapes n s,
  (as_value, tt, tt, λ r. ap (λ x. pop_escape (site r pc) s x) is),
  close_types os (with_escapes n s) b (pc + 1) h,
)
close_types (a_capture ∷ os) s b pc (m, ms, is, h) =
    let t = with_captures ms s in (
      with_operands (value ∷ s.part.operands) t,
      (as_value, tt, tt, λ r. ap (λ x. end_capture (site r pc) s x) is),
      (t, (as_value, tt, tt, λ r. refl), close_types os t b (pc + 1 + 1) h),
    )

-- ---------------------------------------------------------------- loops
nat_same : (n : ℕ) → nat_eq n n ≡ true
nat_same n = grind (arith, nat_tests)

tops : (r : Bool) (s : Shape) (F : Flow) → on_loop (loop_begun r s).part.frames (loop_begun r s).below F ≡ F
tops true s F = refl
tops false s F = refl

-- no operand lies in a loop's body, where none lies around it
none_begun : (r : Bool) (s : Shape) → s.part.operands ≡ [] → (loop_begun r s).part.operands ≡ []
none_begun true s h = refl
none_begun false s h = h

-- the scope of a loop is left, with a value or none over what stood before
pop_none : (r : Bool) (s : Shape) (pc : ℕ) → Steps ordinary i.PopLoopFrame pc (loop_begun r s) s
pop_none true s pc = (as_value, tt, tt, λ r. refl)
pop_none false s pc = (as_value, tt, tt, λ r. rw (nat_same (length s.part.captures), nat_same s.part.escapes) refl)

pop_one : (r : Bool) (s : Shape) (pc : ℕ) →
    Steps ordinary i.PopLoopFrame pc (with_operands (value ∷ (loop_begun r s).part.operands) (loop_begun r s))
    (with_operands (value ∷ s.part.operands) s)
pop_one true s pc = (as_value, tt, tt, λ r. refl)
pop_one false s pc = (as_value, tt, tt, λ r. rw (nat_same (length s.part.captures), nat_same s.part.escapes) refl)

asks_none : (r : Bool) (s : Shape) (pc : ℕ) →
    Steps ordinary i.PushDidNotIterate pc (loop_begun r s) (with_operands (value ∷ (loop_begun r s).part.operands) (loop_begun r s))
asks_none true s pc = (as_value, tt, tt, λ r. refl)
asks_none false s pc = (as_value, tt, tt, λ r. refl)

-- ---------------------------------------------------------------- loops with a condition
-- a value goes into the group below it
counting_types : (o : Option ℕ) (ks : List Kind) (b : Shape) (pc : ℕ) → Straight pc (i.Swap ∷ i.LoadConst (number (pos 1)) ∷ i.Add ∷ [])
    (with_operands (value ∷ group o ∷ ks) b) (with_operands (group o ∷ ks) b)
counting_types o ks b pc = (
  with_operands (opened o ∷ ks) b,
  (as_value, tt, (value, o, ks, refl), λ r. refl),
  (
    with_operands (one ∷ opened o ∷ ks) b,
    (as_value, tt, tt, λ r. refl),
    (with_operands (group o ∷ ks) b, (as_value, tt, tt, λ r. refl), refl),
  ),
)

-- The count begins at the bottom, so that it is known as a group from its first 0 on.
pass_types : (t : AssignmentTarget) (x c : Expr) (e : Around) (s : Shape) (pc : ℕ) → s.part.operands ≡ [] →
    Types pc e (iterable_code t x (Some c)) s (with_operands (value ∷ s.part.operands) s)
pass_types t x c e s pc none =
    let ks = s.part.operands in
    let o : Option ℕ = Some pc in
    let fs = loop (length (group o ∷ ks)) (length s.part.captures) s.part.escapes ∷ s.part.frames in
    let zero_on = with_operands (group o ∷ ks) s in
    let b = with_operands (group o ∷ ks) (with_frames fs s) in
    let inside = record e { again = b; after = b } in
    let on = record inside { out = with_operands (value ∷ group o ∷ ks) b } in
    let round = beyond (pc + 1) (expr_code x) + 1 + 1 in
    let asked = beyond (round + 1) (target_code t) in
    let then = beyond asked (expr_code c) in (
      zero_on,
      (zero_on, (as_group, none, tt, λ r. refl), refl),
      (
        with_operands (value ∷ group o ∷ ks) s,
        expr_types x e zero_on (group o ∷ ks) (pc + 1),
        (
          value,
          (group o ∷ ks),
          b,
          b,
          refl,
          refl,
          refl,
          λ F. refl,
          (
            with_operands (value ∷ value ∷ group o ∷ ks) b,
            one_step i.DupTop 1 2 (λ at s. refl) inside b (group o ∷ ks) round,
            (
              with_operands (value ∷ group o ∷ ks) b,
              target_types t inside b (value ∷ group o ∷ ks) (round + 1),
              (
                with_operands (value ∷ value ∷ group o ∷ ks) b,
                expr_types c inside b (value ∷ group o ∷ ks) asked,
                (
                  with_operands (value ∷ group o ∷ ks) b,
                  (
                    with_operands (value ∷ group o ∷ ks) b,
                    (value, (value ∷ group o ∷ ks), refl, refl, refl, refl),
                    (b, counting_types o ks b (then + 1), refl),
                  ),
                  one_step i.DiscardTop 1 0 (λ at s. refl) inside b (group o ∷ ks) _,
                ),
              ),
            ),
          ),
          refl,
          (
            with_operands (group o ∷ ks) s,
            (as_value, tt, tt, λ r. rw (nat_same (length s.part.captures), nat_same s.part.escapes) refl),
            (with_operands (value ∷ ks) s, (as_value, tt, tt, λ r. refl), refl),
          ),
        ),
      ),
    )

-- ---------------------------------------------------------------- macros
default_types : (o : Option Expr) → Replaces 1 1 (default_code o)
default_types None = λ e s ks pc. refl
default_types (Some x) = λ e s ks pc. (
  Over 2 ks s,
  (Over 2 ks s, (as_value, tt, tt, λ r. refl), one_step i.IsUndefined 1 1 (λ at s. refl) e s (value ∷ ks) _),
  (
    Over 1 ks s,
    (value, (value ∷ ks), refl, refl, refl, refl),
    (
      with_operands ks s,
      one_step i.DiscardTop 1 0 (λ at s. refl) (record e { out = Over 1 ks s }) s ks _,
      expr_types x (record e { out = Over 1 ks s }) s ks _,
    ),
  ),
)

parameter_types : (p : Parameter) → Replaces 1 0 (parameter_code p)
parameter_types p = λ e s ks pc. (Over 1 ks s, default_types p.default e s ks pc, one_step (i.StoreLocal p.name) 1 0 (λ at s. refl) e s ks _)

parameters_types : (ps : List Parameter) → Replaces (length ps) 0 (parameters_code ps)
parameters_types [] = λ e s ks pc. refl
parameters_types (p ∷ ps) = λ e s ks pc.
    let n = length ps in
    let below : Over (suc n) ks s ≡ Over n (pushed 1 ks) s = sym (over_both n 1 (suc n) ks s (omega arith)) in
    subst (λ y. Types pc e (parameters_code (p ∷ ps)) y (with_operands ks s)) (sym below)
    (Over 1 ks s, parameters_types ps e s (pushed 1 ks) pc, parameter_types p e s ks (beyond pc (parameters_code ps)))

names_long : (ps : List Parameter) → length (parameter_names ps) ≡ length ps
names_long [] = refl
names_long (p ∷ ps) = ap suc (names_long ps)

-- a macro's body, over its arguments
body_types : (ps : List Parameter) (c : Fragment) (pc : ℕ) → Types (beyond pc (parameters_code ps)) ending c first_shape first_shape →
    Types pc ending (parameters_code ps ⨾ c) (entry_shape (length (parameter_names ps))) first_shape
body_types ps c pc h =
    let same : entry_shape (length (parameter_names ps)) ≡ Over (length ps) [] first_shape = ap entry_shape (names_long ps) in
    subst (λ x. Types pc ending (parameters_code ps ⨾ c) x first_shape) (sym same)
    (first_shape, parameters_types ps ending first_shape [] pc, h)

-- ---------------------------------------------------------------- call tags
caller_ends : (c : Fragment) → Pushes 1 c → Ends (caller_end c)
caller_ends c h n =
    let row = straight (map_of_row (suc n)) in
    then_replace (n + n) 1 (n + n + 1) 1 (straight (i.LoadConst (text (codes "caller") false) ∷ [])) (c ⨾ row) (omega arith)
    (λ e s ks pc. (Over 1 ks s, (as_value, tt, tt, λ r. refl), refl))
    (then_replace (n + n + 1) 1 (suc n + suc n) 1 c row (omega arith) h (map_types (suc n)))

module _ (end : RowEnd) (h : Ends end) where
  alone_types : Replaces 1 1 (called_alone end)
  alone_types = λ e s ks pc.
      let n = end.maps 0 in (
        Over (n + 1) ks s,
        subst (λ t. Types pc e (end.code 0) (Over 1 ks s) t) (over_both n 1 (n + 1) ks s refl) (h 0 e s (pushed 1 ks) pc),
        one_step (i.CallObject (Some (n + 1))) (n + 1) 1 (λ at s. refl) e s ks _,
      )

  abbrev passed : {n m : _} (before : ℕ) (given : Rattle.tm_trees.specs.Trees.Row_of-Argument n)
      (named : Rattle.tm_trees.specs.Trees.Row_of-Keyword m) (e : Around) (s : Shape) (ks : List Kind) (pc : ℕ) →
      Types pc e (passing_code end before given named) (Over before ks s) (with_operands (left (passed_count end before given named) ks) s)
  passed before given named e s ks pc =
      passing_types end before given named (arguments_types given) (keywords_types end h 0 named)
      (λ more by_name k. lists_types before given more by_name k) e s ks pc

  step_call_types : (x : Step) → Replaces 1 1 (step_call_code end x)
  step_call_types (Apply' k x _ given _ named) = λ e s ks pc. (
    with_operands (left (passed_count end 1 given named) ks) s,
    passed 1 given named e s ks pc,
    application_types k x (passed_count end 1 given named) e s ks _,
  )
  step_call_types (Called _ given _ named) = λ e s ks pc. (
    with_operands (left (passed_count end 1 given named) ks) s,
    passed 1 given named e s ks pc,
    call_step (i.CallObject (passed_count end 1 given named)) (passed_count end 1 given named) (λ at s. refl) e s ks _,
  )
  step_call_types x = λ e s ks pc. (Over 1 ks s, step_types x e s ks pc, alone_types e s ks (beyond pc (step_code x)))

  steps_call_types : {n : _} (ss : Row_of-Step n) → Replaces 1 1 (steps_call_code end ss)
  steps_call_types no_step = alone_types
  steps_call_types (step x no_step) = step_call_types x
  steps_call_types (step x (step y more)) = λ e s ks pc.
      (Over 1 ks s, step_types x e s ks pc, steps_call_types (step y more) e s ks (beyond pc (step_code x)))

  call_types : (x : Expr) → Pushes 1 (call_code end x)
  call_types (Call' f _ given _ named) = λ e s ks pc. (
    with_operands (left (passed_count end 0 given named) ks) s,
    passed 0 given named e s ks pc,
    call_step (i.CallFunction f (passed_count end 0 given named)) (passed_count end 0 given named) (λ at s. refl) e s ks _,
  )
  call_types (chained a _ ss) = λ e s ks pc. (Over 1 ks s, expr_types a e s ks pc, steps_call_types ss e s ks (beyond pc (expr_code a)))
  call_types x = λ e s ks pc. (Over 1 ks s, expr_types x e s ks pc, alone_types e s ks (beyond pc (expr_code x)))

-- what is iterated
items_types : (t : AssignmentTarget) (x : Expr) (c : Option Expr) (e : Around) (s : Shape) (pc : ℕ) → s.part.operands ≡ [] →
    Types pc e (iterable_code t x c) s (with_operands (value ∷ s.part.operands) s)
items_types t x None e s pc none = expr_types x e s s.part.operands pc
items_types t x (Some c) e s pc none = pass_types t x c e s pc none

-- what stands in a scope of its own, where a template runs
included_types : (x : Expr) (e : Around) (s : Shape) (pc : ℕ) → Types pc e (included_code x) s (with_frames (scope ∷ s.part.frames) s)
included_types x e s pc =
    let inside = with_frames (scope ∷ s.part.frames) s in (
      inside,
      (inside, (as_value, tt, tt, λ r. refl), refl),
      (
        with_operands (value ∷ s.part.operands) inside,
        expr_types x e inside s.part.operands (pc + 1),
        one_step i.IncludeModule 1 0 (λ at s. refl) e inside s.part.operands _,
      ),
    )

import_types : (x : Expr) (t : AssignmentTarget) (e : Around) (s : Shape) (pc : ℕ) → Types pc e (statement_code [] (Import x t)) s s
import_types x t e s pc =
    let ks = s.part.operands in
    let caught = with_captures (Capture ∷ s.part.captures) s in
    let inside = with_frames (scope ∷ s.part.frames) caught in
    let named = with_frames (scope ∷ s.part.frames) s in
    let then = beyond (pc + 1) (included_code x) in (
      caught,
      (caught, (as_value, tt, tt, λ r. refl), refl),
      (
        inside,
        included_types x e caught (pc + 1),
        (
          with_operands (value ∷ ks) s,
          (
            with_operands (value ∷ ks) named,
            (as_value, tt, tt, λ r. refl),
            (
              with_operands (value ∷ ks) named,
              (as_value, tt, tt, λ r. refl),
              (with_operands (value ∷ ks) s, (as_value, tt, tt, λ r. refl), refl),
            ),
          ),
          target_types t e s ks (then + 1 + 1 + 1),
        ),
      ),
    )

from_types : (x : Expr) (xs : List Imported) (e : Around) (s : Shape) (pc : ℕ) → Types pc e (statement_code [] (FromImport x xs)) s s
from_types x xs e s pc =
    let ks = s.part.operands in
    let n = length xs in
    let caught = with_captures (Discard ∷ s.part.captures) s in
    let inside = with_frames (scope ∷ s.part.frames) caught in
    let then = beyond (pc + 1) (included_code x) in
    let looked = beyond then (lookups_code xs) in (
      caught,
      (caught, (as_value, tt, tt, λ r. refl), refl),
      (
        inside,
        included_types x e caught (pc + 1),
        (
          with_operands (pushed n ks) inside,
          lookups_types xs e inside ks then,
          (
            with_operands (pushed n ks) caught,
            (with_operands (pushed n ks) caught, (as_value, tt, tt, λ r. refl), refl),
            (
              caught,
              stores_types xs e caught ks (looked + 1),
              (
                with_operands (value ∷ ks) s,
                (as_value, tt, tt, λ r. refl),
                one_step i.DiscardTop 1 0 (λ at s. refl) e s ks _,
              ),
            ),
          ),
        ),
      ),
    )

-- ---------------------------------------------------------------- statements
abbrev Closes : List Opened → Around → Shape → Type 0
Closes os e s = Within os s e.after × Within os s e.again

mutual
  pub statement_types : (os : List Opened) (x : Stmt) (e : Around) (s : Shape) (pc : ℕ) → Closes os e s → s.part.operands ≡ [] →
      Types pc e (statement_code os x) s s
  statement_types os (EmitRaw t) e s pc h z = (s, (as_value, tt, tt, λ r. refl), refl)
  statement_types os (EmitExpr x) e s pc h z =
      (Over 1 s.part.operands s, expr_types x e s s.part.operands pc, one_step i.Emit 1 0 (λ at s. refl) e s s.part.operands _)
  statement_types os (EmitLoop x) e s pc h z =
      (Over 1 s.part.operands s, expr_types x e s s.part.operands pc, one_step i.FastRecurse 1 0 (λ at s. refl) e s s.part.operands _)
  statement_types os (EmitBlock x) e s pc h z = (s, (as_value, tt, tt, λ r. refl), refl)
  statement_types os EmitSuper e s pc h z = (s, (as_value, tt, tt, λ r. refl), refl)
  statement_types os (If' c _ body other) e s pc h z = (
    Over 1 s.part.operands s,
    expr_types c e s s.part.operands pc,
    branches_types os (statements_code os body) other e s (beyond pc (expr_code c)) h z
        (λ e1 n g. statements_types os body e1 s n g z),
  )
  statement_types os (For' t x c recursive _ body other) e s pc h z =
      let ks = s.part.operands in
      let b = loop_begun recursive s in
      let round = beyond pc (iterable_code t x c) + 1 + 1 in
      let in_loop = record e { again = b; after = b } in (
        with_operands (value ∷ ks) s,
        items_types t x c e s pc z,
        (
          value,
          ks,
          b,
          b,
          refl,
          refl,
          refl,
          tops recursive s,
          (
            b,
            target_types t in_loop b b.part.operands round,
            statements_types [] body in_loop b (beyond round (target_code t)) (refl, refl) (none_begun recursive s z),
          ),
          refl,
          after_types os recursive other e s (beyond round (target_code t ⨾ statements_code [] body) + 1) h z,
        ),
      )
  statement_types os Break e s pc h z = (e.after, close_types os s e.after pc h.0, refl)
  statement_types os Continue e s pc h z = (e.again, close_types os s e.again pc h.1, refl)
  statement_types os (Block' x required _ body) e s pc h z = (s, (as_value, tt, tt, λ r. refl), refl)
  statement_types os (Extends x) e s pc h z =
      (Over 1 s.part.operands s, expr_types x e s s.part.operands pc, one_step i.LoadBlocks 1 0 (λ at s. refl) e s s.part.operands _)
  statement_types os (Set t x) e s pc h z = set_types t x e s pc
  statement_types os (CaptureBlock' u filters _ body) e s pc h z =
      let ks = s.part.operands in
      let inside = with_captures (Capture ∷ s.part.captures) s in
      let then = beyond (pc + 1) (statements_code (a_capture ∷ os) body) + 1 in (
        inside,
        (inside, (as_value, tt, tt, λ r. refl), refl),
        (
          inside,
          statements_types (a_capture ∷ os) body e inside (pc + 1)
              ((Capture, s.part.captures, refl, h.0), (Capture, s.part.captures, refl, h.1)) z,
          (
            with_operands (value ∷ ks) s,
            (with_operands (value ∷ ks) s, (as_value, tt, tt, λ r. refl), refl),
            (
              with_operands (value ∷ ks) s,
              filters_types filters e s ks then,
              use_types u e s ks (beyond then (filters_code filters)),
            ),
          ),
        ),
      )
  statement_types os (With' given _ body) e s pc h z =
      let inside = with_frames (scope ∷ s.part.frames) s in (
        inside,
        (inside, (as_value, tt, tt, λ r. refl), refl),
        (
          inside,
          assignments_types given e inside (pc + 1),
          (
            inside,
            statements_types (a_scope ∷ os) body e inside (beyond (pc + 1) (assignments_code given))
                ((s.part.frames, refl, h.0), (s.part.frames, refl, h.1)) z,
            (s, (as_value, tt, tt, λ r. refl), refl),
          ),
        ),
      )
  statement_types os (Do x) e s pc h z =
      (Over 1 s.part.operands s, expr_types x e s s.part.operands pc, one_step i.DiscardTop 1 0 (λ at s. refl) e s s.part.operands _)
  statement_types os (AutoEscape' x _ body) e s pc h z =
      let inside = with_escapes (suc s.part.escapes) s in (
        Over 1 s.part.operands s,
        expr_types x e s s.part.operands pc,
        (
          inside,
          (inside, (as_value, tt, tt, λ r. refl), refl),
          (
            inside,
            statements_types (an_escape ∷ os) body e inside (beyond pc (expr_code x) + 1)
                ((s.part.escapes, refl, h.0), (s.part.escapes, refl, h.1)) z,
            (s, (as_value, tt, tt, λ r. refl), refl),
          ),
        ),
      )
  statement_types os (Macro' x ps _ body) e s pc h z = (
    with_operands (value ∷ s.part.operands) s,
    (
      body_types ps (statements_code [] body) (pc + 1)
          (statements_types [] body ending first_shape (beyond (pc + 1) (parameters_code ps)) (refl, refl) refl),
      refl,
    ),
    one_step (i.StoreLocal x) 1 0 (λ at s. refl) e s s.part.operands _,
  )
  statement_types os (CallBlock' x ps _ body) e s pc h z =
      let m = macro_head (codes "caller") ps body in
      let c = declares m (parameters_code ps ⨾ statements_code [] body) in
      let made : Pushes 1 c = λ e1 s1 ks n. (
        body_types ps (statements_code [] body) (n + 1)
            (statements_types [] body ending first_shape (beyond (n + 1) (parameters_code ps)) (refl, refl) refl),
        refl,
      ) in (
        Over 1 s.part.operands s,
        call_types (caller_end c) (caller_ends c made) x e s s.part.operands pc,
        one_step i.Emit 1 0 (λ at s. refl) e s s.part.operands _,
      )
  statement_types os (Include x missing) e s pc h z =
      (Over 1 s.part.operands s, expr_types x e s s.part.operands pc, one_step (i.Include missing) 1 0 (λ at s. refl) e s s.part.operands _)
  statement_types os (Import x t) e s pc h z = import_types x t e s pc
  statement_types os (FromImport x xs) e s pc h z = from_types x xs e s pc

  pub statements_types : {n : _} (os : List Opened) (ss : Row_of-Stmt n) (e : Around) (s : Shape) (pc : ℕ) → Closes os e s →
      s.part.operands ≡ [] → Types pc e (statements_code os ss) s s
  statements_types os no_statement e s pc h z = refl
  statements_types os (statement x more) e s pc h z =
      (s, statement_types os x e s pc h z, statements_types os more e s (beyond pc (statement_code os x)) h z)

  branches_types : (os : List Opened) (first : Fragment) (other : Otherwise) (e : Around) (s : Shape) (pc : ℕ) → Closes os e s →
      s.part.operands ≡ [] → ((e1 : Around) (n : ℕ) → Closes os e1 s → Types n e1 first s s) →
      Types pc e (branches_code os first other) (Over 1 s.part.operands s) s
  branches_types os first no_else e s pc h z k =
      (s, (value, s.part.operands, refl, refl, refl, refl), k (record e { out = s }) (pc + 1) h)
  branches_types os first (otherwise _ body) e s pc h z k = (
    s,
    s,
    (s, (value, s.part.operands, refl, refl, refl, refl), k (record e { out = s }) (pc + 1) h),
    refl,
    statements_types os body e s (beyond (pc + 1) first + 1) h z,
  )

  after_types : (os : List Opened) (r : Bool) (other : Otherwise) (e : Around) (s : Shape) (pc : ℕ) → Closes os e s →
      s.part.operands ≡ [] → Types pc e (after_loop_code os other) (loop_begun r s) s
  after_types os r no_else e s pc h z = (s, pop_none r s pc, refl)
  after_types os r (otherwise _ body) e s pc h z =
      let b = loop_begun r s in (
        with_operands (value ∷ s.part.operands) s,
        (with_operands (value ∷ b.part.operands) b, asks_none r s pc, (with_operands (value ∷ s.part.operands) s, pop_one r s (pc + 1), refl)),
        (
          s,
          (value, s.part.operands, refl, refl, refl, refl),
          statements_types os body (record e { out = s }) s (pc + 1 + 1 + 1) h z,
        ),
      )
