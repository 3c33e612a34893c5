-- The code of loops runs their rounds, with the items that are taken.
use Rattle.std.proofs.Common.{◌≡◌, ℕ, ◌+◌, ◌<◌, ◌≤◌, List, [], ◌∷◌, length, Option, Some, None, Bool}
use Rattle.std.proofs.Common.{true, false, refl, sym, ap, ◌∙◌, subst, arith, lt-ltb}
use Rattle.std.specs.Prelude.{pos, slice_get, nat_eq, nat_lt}
use Rattle.tm_values.specs.Val.{Val, boolean, number}
use Rattle.tm_trees.specs.Trees.binaries
use Rattle.tm_trees.specs.Trees.{Expr, AssignmentTarget, Row_of-Stmt}
use Rattle.tm_trees.specs.Instructions.{LoopFlags}
use Rattle.tm_trees.specs.Instructions.instructions as i
use Rattle.tm_syntax.specs.Code.{pass_flags}
use Rattle.tm_syntax.specs.Code.{for_flags}
use Rattle.tm_syntax.specs.Fragments.{Fragment, ◌⨾◌, straight, Labels, inward, beyond}
use Rattle.tm_syntax.specs.Fragments.{looped as a_loop}
use Rattle.tm_syntax.specs.Code.{expr_code}
use Rattle.tm_syntax.specs.Code.{iterable_code, pass_round}
use Rattle.tm_syntax.specs.Code.{target_code}
use Rattle.tm_syntax.specs.Code.{statements_code}
use Rattle.tm_meaning.specs.World.{choose, World, Loop, loop_scope, new_loop, open_loop, turned, next_turn, cleared}
use Rattle.tm_meaning.specs.World.{top_loop, items_over, Res, Good, bind, tick, depth, leave_loop}
use Rattle.tm_meaning.specs.Meaning.{Run, Outcome}
use Rattle.tm_meaning.specs.Meaning.{Under, so_far, use_it}
use Rattle.tm_meaning.specs.Operators.{truth, operated}
use Rattle.tm_meaning.specs.Operators.{list_of_values}
use Rattle.tm_meaning.specs.Meaning.{eval}
use Rattle.tm_meaning.specs.Meaning.{one_counted, selected, loop_items}
use Rattle.tm_meaning.specs.Meaning.{assign}
use Rattle.tm_meaning.specs.Meaning.{rounds, has_none, exec_all}
use Rattle.tm_meaning.specs.Machine.{Return}
use Rattle.tm_meaning.specs.Machine.{after, goes}
use Rattle.tm_meaning.specs.Machine.{stuck}
use Rattle.tm_meaning.specs.Instructions.{on_loop}
use Rattle.tm_meaning.specs.Instructions.{iterate_of, iterate_with, push_did_not_iterate_of, pop_loop_with, looping}
use Rattle.tm_simulation.specs.Kept.{shapes}
use Rattle.tm_syntax.specs.Loops.{Numbers, loops_before}
use Rattle.tm_simulation.proofs.Counts.{counted_none}
use Rattle.tm_simulation.proofs.Entries.{Counts}
use Rattle.tm_simulation.proofs.TreeLoops.{expr_loopless}
use Rattle.tm_simulation.proofs.Loops.{LeftOf, next_item, no_item, left_then, turned_items, on_top_loop, next_record, new_record, none_is}
use Rattle.tm_simulation.proofs.Advances.{Kept, kept_frames, kept_then, kept_record}
use Rattle.tm_simulation.proofs.Advances.{kept_cleared}
use Rattle.tm_simulation.proofs.RunAdvances.{kept_turned, mark_after, in_loop_of, opened, opened_kept}
use Rattle.tm_simulation.proofs.Gives.{ends_use, OutcomeKeeps, tick_gives}
use Rattle.tm_simulation.proofs.Asks.{items_give}
use Rattle.tm_simulation.proofs.Evaluates.{eval_gives}
use Rattle.tm_simulation.proofs.Evaluates.{one_counted_gives}
use Rattle.tm_simulation.proofs.Evaluates.{assign_gives, truth_gives}
use Rattle.tm_simulation.proofs.Executes.{execs_end}
use Rattle.tm_simulation.proofs.Follow.{LeadsToEnd, follows_map_kept, bound_follows, ends_map_kept, Goes}
use Rattle.tm_simulation.proofs.Follow.{round_then, opened_follows, told_by, Spot, told, cfg}
use Rattle.tm_simulation.proofs.Follow.{later, Follows, Then, Ends, follows_map, bind_then, use_then, so_far_then}
use Rattle.tm_simulation.proofs.Follow.{Go, silent, at, after_then, pushes, choose_then}
use Rattle.tm_simulation.proofs.Forms.{Stands}
use Rattle.tm_meaning.specs.declared.stream.TemplateId.{TemplateId}
use Rattle.tm_meaning.specs.Machine.{onto}
use Rattle.tm_simulation.proofs.Operands.{items_back, one_more_then}
use Rattle.tm_simulation.proofs.Levels.{Deep, Here, Setting, as_at, deep_kept, deep_later, here, here_kept, here_within, meaning}
use Rattle.tm_simulation.proofs.Levels.{nest_ends, stands_later}
use Rattle.tm_simulation.proofs.Arguments.{In, built_then}
use Rattle.tm_simulation.proofs.Expressions.{expr_runs}
use Rattle.tm_simulation.proofs.Targets.{Jumps, StmtsRun, around_kept, target_runs}

-- a run with a loop more open
abbrev pub looped : Option Return → Spot → Spot
looped o s = record s { run = record s.run { loops = o ∷ s.run.loops } }

-- the rounds of a loop at a place, their labels, and the place after them
abbrev pub round_code : {m : _} → AssignmentTarget → Row_of-Stmt m → Fragment
round_code t body = target_code t ⨾ statements_code [] body

abbrev pub end_at : ℕ → Fragment → ℕ
end_at pc round = beyond (pc + 1 + 1) round + 1

abbrev pub round_labels : Labels → ℕ → Fragment → Labels
round_labels l pc round = inward (pc + 1) (end_at pc round) l

module _ (setting : Setting) where
  open setting use {context, trees, n, entered, id, level, again, again_kept, called_in_place, called_as_value}

  abbrev u : Under
  u = meaning setting

  -- a loop that wasn't called is left, which is free
  pub left_loop_then : (g : LoopFlags) (s : Spot) (q : Option TemplateId) (out : List ℕ) (pc : ℕ) (stack : List Val) (w x : World)
      (l : Loop) → context.base.scopes ≤ length w.scopes.frames → Kept (in_loop_of g w) x →
      slice_get (shapes x.loops) (length w.loops) ≡ Some l →
      slice_get (context.program.code s.run.stream) pc ≡ Some i.PopLoopFrame → Go context (later s q out) (pc + 1) stack (leave_loop x) →
      Go context (later (looped None s) q out) pc stack x
  left_loop_then g s q out pc stack w x l d k e is z =
      let stands : context.base.scopes < length x.scopes.frames = omega (arith, kept_frames k, d) in
      let c = cfg (later (looped None s) q out) pc stack x in
      at context i.PopLoopFrame (later (looped None s) q out) pc stack x is
      (subst (λ b. LeadsToEnd context (told_by s.bed out) (choose b (λ _. on_loop (None ∷ s.run.loops) (top_loop x) x
      (λ m. pop_loop_with (None ∷ s.run.loops) c)) (λ _. stuck x)))
      (sym (lt-ltb context.base.scopes (length x.scopes.frames) stands))
      (subst (λ n. LeadsToEnd context (told_by s.bed out) n)
      (sym (on_top_loop g w x l k e None s.run.loops (λ items turns. pop_loop_with (None ∷ s.run.loops) c)))
      (silent context (told_by s.bed out) _ z)))

  pub did_not_is : (o : Option Return) (g : LoopFlags) (s : Spot) (q : Option TemplateId) (out : List ℕ) (pc : ℕ) (stack : List Val)
      (w x : World) (l : Loop) (vs : List Val) → Kept (in_loop_of g w) x → slice_get (shapes x.loops) (length w.loops) ≡ Some l →
      l.items ≡ vs →
      push_did_not_iterate_of (cfg (later (looped o s) q out) pc stack x) ≡ goes (boolean (has_none vs) ∷ stack) x
      (cfg (later (looped o s) q out) pc stack x)
  did_not_is o g s q out pc stack w x l vs k e same =
      let c = cfg (later (looped o s) q out) pc stack x in
      on_top_loop g w x l k e o s.run.loops (λ items turns. goes (boolean (nat_eq (length items) 0) ∷ stack) x c)
      ∙ ap (λ (items : List Val). goes (boolean (nat_eq (length items) 0) ∷ stack) x c) same
      ∙ ap (λ b. goes (boolean b ∷ stack) x c) (none_is vs)

  -- a loop is asked for its next item
  iterate_is : (o : Option Return) (g : LoopFlags) (s : Spot) (q : Option TemplateId) (out : List ℕ) (pc end : ℕ) (stack : List Val)
      (w x : World) (l : Loop) (next_one : Option Val) → Kept (in_loop_of g w) x → slice_get (shapes x.loops) (length w.loops) ≡ Some l →
      slice_get l.items l.turns ≡ next_one → iterate_of end (cfg (later (looped o s) q out) pc stack x) ≡ iterate_with next_one end
      (cfg (later (looped o s) q out) pc stack x)
  iterate_is o g s q out pc end stack w x l next_one k e is =
      let c = cfg (later (looped o s) q out) pc stack x in
      on_top_loop g w x l k e o s.run.loops (λ items turns. iterate_with (slice_get items turns) end c) ∙ ap (λ v. iterate_with v end c) is

  -- what a round does with its item
  abbrev pub turn_of : {m : _} → AssignmentTarget → Numbers → Row_of-Stmt m → Val → Run → List ℕ → World → Outcome
  turn_of t numbers body v run out w = use_it (assign u run t v w) run out (λ _ world1. exec_all u numbers body run out world1)

  pub turn_ends : {m : _} → (t : AssignmentTarget) (numbers : Numbers) (body : Row_of-Stmt m) (v : Val) (run : Run) (out : List ℕ) (w : World) →
      OutcomeKeeps context.program.host run.parent w (turn_of t numbers body v run out w)
  turn_ends t numbers body v run out w = ends_use _ w (assign u run t v w) run out _
      (assign_gives u (nest_ends setting) again_kept run t v w) (λ _ world1. execs_end u (nest_ends setting) again_kept numbers body run out
      world1)

  -- what follows once all rounds are over, at the place after the jump back
  abbrev Rounded : Option Return → Spot → List Val → List Val → World → Then → ℕ → Type 0
  Rounded o s stack items w D end =
      (q : Option TemplateId) (out : List ℕ) (x : World) (l : Loop) → Kept (in_loop_of (for_flags false) w) x →
      slice_get (shapes x.loops) (length w.loops) ≡ Some l → l.items ≡ items → D q out (leave_loop x) →
      Go context (later (looped o s) q out) end stack x

  -- A loop's rounds, from where the next item is asked for.
  pub rounds_run : {m : _} → (o : Option Return) (g : LoopFlags) (t : AssignmentTarget) (numbers : Numbers) (body : Row_of-Stmt m) (l : Labels)
      (pc : ℕ)
      (rest : Fragment) → StmtsRun setting numbers (round_labels l pc (round_code t body)) [] body →
      (items vs : List Val) (run : Run) (s : Spot) (stack : List Val) (w x : World) (r : Loop) (D L N : Then) →
      Stands context.base run s → Deep setting run s (in_loop_of (for_flags false) w) → Kept (in_loop_of (for_flags false) w) x →
      slice_get (shapes x.loops) (length w.loops) ≡ Some r → LeftOf r items vs → In setting s l pc (a_loop g (round_code t body) rest) →
      Counts (context.program.code s.run.stream) numbers (beyond (pc + 1 + 1) (target_code t)) (statements_code [] body) →
      Rounded o s stack items w D (end_at pc (round_code t body)) → Ends context s.bed
      (rounds (turn_of t numbers body) vs (as_at run s) s.out x) D L N → Go context (looped o s) (pc + 1) stack x
  rounds_run o g t numbers body l pc rest part items [] run s stack w x r D L N fits d k e left is nth over_it h =
      let end = end_at pc (round_code t body) in
      at context (i.Iterate end) (looped o s) (pc + 1) stack x is.1 (after_then context (told s) (tick x) _
      (use_then context s.bed x (tick x) (as_at run s) s.out _ D L N _ (tick_gives _ _ x) h (λ _ world1 k1 h1.
      let kept = kept_then k k1 in
      let record1 = kept_record k1 (length w.loops) r e in
      subst (λ n. LeadsToEnd context (told s) n)
      (sym (iterate_is o (for_flags false) s s.parent s.out (pc + 1) end stack w world1 r None kept
      record1 (no_item r items left)))
      (silent context (told s) _ (over_it s.parent s.out (next_turn world1) (turned r) (kept_turned (for_flags false) w world1 kept)
      (next_record (for_flags false) w world1 r kept record1) (turned_items r items left)
      (so_far_then context s.bed (as_at run s) s.out (leave_loop (next_turn world1)) D L N h1))))))
  rounds_run o g t numbers body l pc rest part items (v ∷ vs) run s stack w x r D L N fits d k e left is nth over_it h =
      let all = context.program.code s.run.stream in
      let again = pc + 1 in
      let end = end_at pc (round_code t body) in
      let inner = round_labels l pc (round_code t body) in
      let start = beyond (pc + 1 + 1) (target_code t) in
      at context (i.Iterate end) (looped o s) again stack x is.1 (after_then context (told s) (tick x) _
      (use_then context s.bed x (tick x) (as_at run s) s.out _ D L N _ (tick_gives _ _ x) h (λ _ world1 k1 h1.
      let kept = kept_then k k1 in
      let record1 = kept_record k1 (length w.loops) r e in
      let y = cleared (next_turn world1) in
      let kept_y : Kept (in_loop_of (for_flags false) w) y = kept_cleared (kept_turned (for_flags false) w world1 kept) in
      let record_y = next_record (for_flags false) w world1 r kept record1 in
      let left_y = left_then r items v vs left in
      let turned_by = turn_of t numbers body v (as_at run s) s.out y in
      let next_round : Run → List ℕ → World → Outcome = λ run1 out1 z. rounds (turn_of t numbers body) vs run1 out1 z in
      let DoneThen = Goes context s.bed (as_at run s) next_round D L N in
      let LeaveThen = Goes context s.bed (as_at run s) (λ run1 out1 z. so_far run1 out1 (leave_loop z)) D L N in
      let nexts : Jumps setting again [] (looped o s) stack y DoneThen =
      λ q out1 z place kz none is1 g1.
      at context (i.Jump again) (later (looped o s) q out1) place stack z is1 (after_then context (told_by s.bed out1) (tick z) _
      (use_then context s.bed z (tick z) (record run { parent = q }) out1 _ D L N _ (tick_gives _ _ z) g1 (λ _ z1 kz1 g2.
      silent context (told_by s.bed out1) _
      (rounds_run o g t numbers body l pc rest part items vs run (later s q out1) stack w z1 (turned r) D L N
      (stands_later context.base run s fits q out1) (deep_later setting run s (in_loop_of (for_flags false) w) q out1 d)
      (kept_then kept_y (kept_then kz kz1)) (kept_record (kept_then kz kz1) (length w.loops) (turned r) record_y) left_y is nth over_it
      g2)))) in
      let leaves : Jumps setting end [] (looped o s) stack y LeaveThen =
      λ q out1 z place kz none is1 g1.
      at context (i.Jump end) (later (looped o s) q out1) place stack z is1 (after_then context (told_by s.bed out1) (tick z) _
      (use_then context s.bed z (tick z) (record run { parent = q }) out1 _ D L N _ (tick_gives _ _ z) g1 (λ _ z1 kz1 g2.
      silent context (told_by s.bed out1) _
      (over_it q out1 z1 (turned r) (kept_then kept_y (kept_then kz kz1)) (kept_record (kept_then kz kz1) (length w.loops) (turned r)
      record_y) left_y.same (so_far_then context s.bed (record run { parent = q }) out1 (leave_loop z1) D L N g2))))) in
      subst (λ n. LeadsToEnd context (told s) n)
      (sym (iterate_is o (for_flags false) s s.parent s.out again end stack w world1 r (Some v) kept
      record1 (next_item r items v vs left)))
      (silent context (told s) _
      (target_runs setting t (as_at run s) (looped o s) inner (again + 1) v stack y
      (here setting run s y (deep_kept setting run s kept_y d)) is.2.0
      (use_then context s.bed y (assign u (as_at run s) t v y) (as_at run s) s.out (λ _ z. exec_all u numbers body (as_at run s) s.out z)
      DoneThen LeaveThen DoneThen _ (assign_gives u (nest_ends setting) again_kept (as_at run s) t v y)
      (round_then context s.bed (as_at run s) turned_by next_round D L N h1) (λ _ z k2 h2.
      part run (looped o s) start stack z LeaveThen DoneThen fits (deep_kept setting run s (kept_then kept_y k2) d)
      (around_kept setting inner [] (looped o s) stack LeaveThen DoneThen k2 (leaves, nexts)) is.2.1 nth
      (ends_map_kept context s.bed z (exec_all u numbers body (as_at run s) s.out z) DoneThen _ LeaveThen DoneThen
      (execs_end u (nest_ends setting) again_kept numbers body (as_at run s) s.out z) h2 (λ q out1 z1 k3 g1.
      nexts q out1 z1 _ (kept_then k2 k3) tt is.3 g1)))))))))

  -- ---------------------------------------------------------------- items under a condition
  -- an item is stored, and its condition asked
  abbrev condition_of : Run → AssignmentTarget → Expr → Val → World → Res Val
  condition_of run t c v w = bind (assign u run t v w) (λ _ world1. eval u run c world1)

  abbrev after_pass : Fragment
  after_pass = straight (i.PopLoopFrame ∷ i.BuildList None ∷ [])

  -- From where the next item is asked for the pass comes after its loop, with what it takes below the count.
  pass_runs : (t : AssignmentTarget) (c : Expr) (k : Labels) (pc : ℕ) (items vs : List Val) (n : ℕ) (run : Run) (s : Spot)
      (below : List Val)
      (w x : World) (l : Loop) →
      Here setting run s w → nat_lt (depth w.scopes) context.program.host.limit ≡ true → Kept (in_loop_of pass_flags w) x →
      slice_get (shapes x.loops) (length w.loops) ≡ Some l → LeftOf l items vs →
      In setting s k pc (a_loop pass_flags (pass_round t c) after_pass) →
      Follows context (told s) (selected context.program.host (condition_of run t c) n vs x)
      (λ us y. (m : ℕ) → m ≡ n + length us → Go context s (end_at pc (pass_round t c) + 1) (number (pos m) ∷ onto us below) y) →
      Go context (looped None s) (pc + 1) (number (pos n) ∷ below) x
  pass_runs t c labels pc items [] n run s below w x l d room k e left is h =
      let again = pc + 1 in
      let end = end_at pc (pass_round t c) in
      at context (i.Iterate end) (looped None s) again (number (pos n) ∷ below) x is.1
      (after_then context (told s) (tick x) _ (bind_then context (told s) x (tick x) _ _ _ (tick_gives _ _ x) h (λ _ world1 k1 h1.
      let all_kept = kept_then k k1 in
      let record1 = kept_record k1 (length w.loops) l e in
      subst (λ a. LeadsToEnd context (told s) a)
      (sym (iterate_is None pass_flags s s.parent s.out again end (number (pos n) ∷ below) w world1
      l None all_kept record1 (no_item l items left)))
      (silent context (told s) _
      (left_loop_then pass_flags s s.parent s.out _ (number (pos n) ∷ below) w (next_turn world1) (turned l) d.0.scopes
      (kept_turned pass_flags w world1 all_kept) (next_record pass_flags w world1 l all_kept record1) is.4.0
      (h1 n (omega arith)))))))
  pass_runs t c labels pc items (v ∷ vs) n run s below w x l d room k e left is h =
      let again = pc + 1 in
      let end = end_at pc (pass_round t c) in
      let test = beyond (beyond (again + 1 + 1) (target_code t)) (expr_code c) in
      let taken_at = is.2.1.1.1.0 in
      let count = number (pos n) in
      let deep = here_within setting run s (loop_scope (mark_after pass_flags w)) w room d in
      let q = looped None s in
      at context (i.Iterate end) q again (count ∷ below) x is.1 (after_then context (told s) (tick x) _
      (bind_then context (told s) x (tick x) _ _ _ (tick_gives _ _ x) h (λ _ world1 k1 h1.
      let all_kept = kept_then k k1 in
      let record1 = kept_record k1 (length w.loops) l e in
      let y = cleared (next_turn world1) in
      let kept_y : Kept (in_loop_of pass_flags w) y = kept_cleared (kept_turned pass_flags w world1 all_kept) in
      let record_y = next_record pass_flags w world1 l all_kept record1 in
      let left_y = left_then l items v vs left in
      subst (λ a. LeadsToEnd context (told s) a) (sym (iterate_is None pass_flags s s.parent s.out again end (count ∷ below) w world1 l
      (Some v) all_kept record1 (next_item l items v vs left)))
      (silent context (told s) _
      (at context i.DupTop q (again + 1) (v ∷ count ∷ below) y is.2.0.0 (silent context (told s) _
      (target_runs setting t run q _ (again + 1 + 1) v (v ∷ count ∷ below) y (here_kept setting run s kept_y deep) is.2.1.0
      (bind_then context (told s) y (assign u run t v y) (λ _ z. eval u run c z) _ _
      (assign_gives u (nest_ends setting) again_kept run t v y)
      (bound_follows context (told s) (condition_of run t c v y) _ _ h1) (λ _ world2 k2 h2.
      expr_runs setting c run q _ _ (v ∷ count ∷ below) world2 (here_kept setting run s (kept_then kept_y k2) deep) is.2.1.1.0
      (follows_map_kept context (told s) world2 (eval u run c world2) _ _ (eval_gives u (nest_ends setting) again_kept run c world2) h2
      (λ b world3 k3 h3.
      at context _ q test (b ∷ v ∷ count ∷ below) world3 taken_at.0 (after_then context (told s) (tick world3) _
      (bind_then context (told s) world3 (tick world3) _ _ _ (tick_gives _ _ world3) h3 (λ _ world4 k4 h4.
      after_then context (told s) (truth context.program.host b world4) _ (bind_then context (told s) world4
      (truth context.program.host b world4) _ _ _ (truth_gives _ context.program.host b world4) h4 (λ yes world5 k5 h5.
      let kept5 = kept_then kept_y (kept_then k2 (kept_then k3 (kept_then k4 k5))) in
      let record5 : (z : World) → Kept world5 z → slice_get (shapes z.loops) (length w.loops) ≡ Some (turned l) = λ z kz. kept_record
      (kept_then k2 (kept_then k3 (kept_then k4 (kept_then k5 kz)))) (length w.loops) (turned l) record_y in
      choose_then context yes _ _ _ _ (told s) _ h5
      (λ h6. silent context (told s) _
      (at context i.Swap q (test + 1) (v ∷ count ∷ below) world5 taken_at.1.0.0
      (after_then context (told s) (tick world5) _ (bind_then context (told s) world5 (tick world5) _ _ _ (tick_gives _ _ world5)
      (follows_map_kept context (told s) world5 (one_counted n world5) _ (λ _ z. Kept world5 z × Follows context (told s)
      (bind (tick z) (λ _ z1. bind (selected context.program.host (condition_of run t c) (n + 1) vs z1) (λ us z2. Good (v ∷ us) z2))) _)
      (one_counted_gives _ _ n world5)
      (bound_follows context (told s) (one_counted n world5) _ _ h6) (λ _ z kz hz. (kz, hz))) (λ _ world6 k6 h7.
      silent context (told s) _
      (at context (i.LoadConst (number (pos 1))) q (test + 1 + 1) (count ∷ v ∷ below) world6 taken_at.1.0.1.0
      (after_then context (told s) (tick world6) _ (bind_then context (told s) world6 (tick world6) _ _ _ (tick_gives _ _ world6) h7
      (λ _ world7 k7 h8.
      silent context (told s) _
      (at context i.Add q (test + 1 + 1 + 1) (number (pos 1) ∷ count ∷ v ∷ below) world7 taken_at.1.0.1.1.0
      (after_then context (told s) (tick world7) _ (bind_then context (told s) world7 (tick world7) _ _ _ (tick_gives _ _ world7) h8
      (λ _ world8 k8 h9.
      pushes context q (test + 1 + 1 + 1) (v ∷ below) (number (pos 1) ∷ count ∷ v ∷ below) world8
      (operated context.program.host binaries.Add count (number (pos 1)) world8)
      (one_more_then context (told s) n world8 _ (λ z world9. Go context q (test + 1 + 1 + 1 + 1) (z ∷ v ∷ below) world9) h9 (λ both.
      at context (i.Jump again) q (test + 1 + 1 + 1 + 1) (number (pos (n + 1)) ∷ v ∷ below) world8 taken_at.1.1
      (after_then context (told s) (tick world8) _ (bind_then context (told s) world8 (tick world8) _ _ _ (tick_gives _ _ world8) both.1
      (λ _ world9 k9 h10.
      silent context (told s) _
      (pass_runs t c labels pc items vs (n + 1) run s (v ∷ below) w world9 (turned l) d room (kept_then kept5 (kept_then both.0 k9))
      (record5 world9 (kept_then both.0 k9)) left_y is
      (follows_map context (told s) (selected context.program.host (condition_of run t c) (n + 1) vs world9) _ _
      (bound_follows context (told s) (selected context.program.host (condition_of run t c) (n + 1) vs world9) _ _ h10)
      (λ us z g m em. g m (omega (arith, em)))))))))))))))))))))))
      (λ h6. silent context (told s) _
      (at context i.DiscardTop q _ (v ∷ count ∷ below) world5 is.2.1.1.1.1.0 (silent context (told s) _
      (at context (i.Jump again) q _ (count ∷ below) world5 is.3 (after_then context (told s) (tick world5) _
      (bind_then context (told s) world5 (tick world5) _ _ _ (tick_gives _ _ world5) h6 (λ _ world6 k6 h7.
      silent context (told s) _
      (pass_runs t c labels pc items vs n run s below w world6 (turned l) d room (kept_then kept5 k6) (record5 world6 k6) left_y is
      h7))))))))))))))))))))))))

  -- What is iterated, up to where its loop's scope is opened.
  pub iterable_runs : (recursive : Bool) (numbers : Numbers) (t : AssignmentTarget) (e : Expr) (c : Option Expr) (run : Run) (s : Spot) (l : Labels)
      (pc : ℕ) (stack : List Val) (w : World) → Here setting run s w → In setting s l pc (iterable_code t e c) →
      slice_get (context.program.code s.run.stream) (beyond pc (iterable_code t e c)) ≡ Some (i.PushLoop (for_flags recursive)) →
      Counts (context.program.code s.run.stream) numbers pc (iterable_code t e c) →
      Follows context (told s) (loop_items u numbers.loops run t e c w) (λ vs world1. (old : List Val) →
      LeadsToEnd context (told s) (after (open_loop context.program.host vs (for_flags recursive)
      (loops_before (beyond pc (iterable_code t e c)) (context.program.code s.run.stream)) world1)
      (λ _ y. goes stack y (looping (None ∷ s.run.loops) (cfg s (beyond pc (iterable_code t e c)) old world1))))) →
      Go context s pc stack w
  iterable_runs recursive numbers t e None run s l pc stack w d is there nth h =
      expr_runs setting e run s l pc stack w d is
      (bind_then context (told s) w (eval u run e w) _ _ _ (eval_gives u (nest_ends setting) again_kept run e w) h (λ v world1 k1 h1.
      at context (i.PushLoop (for_flags recursive)) s _ (v ∷ stack) world1 there
      (after_then context (told s) (items_over context.program.host v world1) _
      (follows_map_kept context (told s) world1 (items_over context.program.host v world1) _ _ (items_give _ context.program.host v world1)
      h1 (λ vs world2 k2 g. g (v ∷ stack))))))
  iterable_runs recursive numbers t e (Some c) run s l pc stack w d is there nth h =
      let all = context.program.code s.run.stream in
      let pc1 = beyond (pc + 1) (expr_code e) in
      let build = end_at pc1 (pass_round t c) + 1 in
      let pass_number : loops_before pc1 all ≡ numbers.loops =
      nth.1.1.0 ∙ ap (λ (m : Numbers). m.loops) (counted_none numbers (expr_code e) (expr_loopless e)) in
      at context (i.LoadConst (number (pos 0))) s pc stack w is.0.0 (after_then context (told s) (tick w) _
      (bind_then context (told s) w (tick w) _ _ _ (tick_gives _ _ w) h (λ _ world1 k1 h1.
      silent context (told s) _
      (expr_runs setting e run s l (pc + 1) (number (pos 0) ∷ stack) world1 (here_kept setting run s k1 d) is.1.0
      (bind_then context (told s) world1 (eval u run e world1) _ _ _ (eval_gives u (nest_ends setting) again_kept run e world1) h1
      (λ v world2 k2 h2.
      at context (i.PushLoop pass_flags) s pc1 (v ∷ number (pos 0) ∷ stack) world2 is.1.1.0
      (after_then context (told s) (items_over context.program.host v world2) _
      (bind_then context (told s) world2 (items_over context.program.host v world2) _ _ _ (items_give _ context.program.host v world2) h2
      (λ vs world3 k3 h3.
      let deep_last = here_kept setting run s k3 (here_kept setting run s k2 (here_kept setting run s k1 d)) in
      subst (λ m. LeadsToEnd context (told s) (after (open_loop context.program.host vs pass_flags m world3)
      (λ _ y. goes (number (pos 0) ∷ stack) y (looping (None ∷ s.run.loops) (cfg s pc1 (v ∷ number (pos 0) ∷ stack) world3)))))
      (sym pass_number)
      (after_then context (told s) (open_loop context.program.host vs pass_flags numbers.loops world3) _
      (opened_follows context (told s) pass_flags numbers.loops world3 vs (nat_lt (depth world3.scopes) context.program.host.limit) _ _
      (λ y. LeadsToEnd context (told s) (goes (number (pos 0) ∷ stack) y (looping (None ∷ s.run.loops)
      (cfg s pc1 (v ∷ number (pos 0) ∷ stack) world3)))) h3 (λ room h4.
      silent context (told s) _
      (pass_runs t c l pc1 vs vs 0 run s stack world3 (opened pass_flags numbers.loops world3 vs) (new_loop vs pass_flags numbers.loops world3) deep_last
      room
      (opened_kept pass_flags numbers.loops world3 vs) (new_record pass_flags numbers.loops world3 vs)
      (record { before = []; same = refl; all = refl; turns = refl }) is.1.1
      (follows_map context (told s) (selected context.program.host (condition_of run t c) 0 vs (opened pass_flags numbers.loops world3 vs)) _ _
      (bound_follows context (told s) (selected context.program.host (condition_of run t c) 0 vs (opened pass_flags numbers.loops world3 vs)) _
      _ h4) (λ us y h5 m em.
      at context (i.BuildList None) s build (number (pos m) ∷ onto us stack) y is.1.1.4.1.0
      (after_then context (told s) (tick y) _ (bind_then context (told s) y (tick y) _ _ _ (tick_gives _ _ y) h5 (λ _ y1 k6 h6.
      built_then setting list_of_values s build m us stack y1 (omega (arith, em))
      (at context (i.PushLoop (for_flags recursive)) s (build + 1) (list_of_values us ∷ stack) y1 there
      (subst (λ zs. LeadsToEnd context (told s)
      (after (open_loop context.program.host zs (for_flags recursive) (loops_before (build + 1) all)
      y1) (λ _ z. goes stack z (looping (None ∷ s.run.loops) (cfg s (build + 1) (list_of_values us ∷ stack) y1))))) (sym (items_back us))
      (h6 (list_of_values us ∷ stack))))))))))))))))))))))
