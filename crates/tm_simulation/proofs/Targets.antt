-- The code of targets takes what is given to them, and what statements open is closed.
use Rattle.std.proofs.Common.{◌≡◌, ℕ, suc, ◌+◌, ◌<◌, ◌≤◌, List, [], ◌∷◌, ◌++◌, length, Option, Some, None}
use Rattle.std.proofs.Common.{true, false, refl, sym, subst, arith, lt-ltb}
use Rattle.std.specs.Prelude.{slice_get, ◌&&◌, nat_lt}
use Rattle.tm_values.specs.Val.{Val, undefined}
use Rattle.tm_values.specs.declared.escape.AutoEscape.{AutoEscape}
use Rattle.tm_trees.specs.Trees.{Expr, AssignmentTarget, To, Items, Member, Row_of-AssignmentTarget, no_target, target, Assignment, CaptureUse, Step}
use Rattle.tm_trees.specs.Trees.{Row_of-Stmt}
use Rattle.tm_trees.specs.Trees.uses
use Rattle.tm_trees.specs.Instructions.instructions as i
use Rattle.tm_syntax.specs.Code.{count_targets, close_all}
use Rattle.tm_syntax.specs.Fragments.{Labels, beyond_all, beyond}
use Rattle.tm_syntax.specs.Code.{target_code, targets_code, set_code, assignments_code, filters_code, use_code}
use Rattle.tm_syntax.specs.Code.{statements_code}
use Rattle.tm_syntax.specs.declared.opened.Opened.{Opened}
use Rattle.tm_syntax.specs.declared.opened.Opened.TheVariants.{Scope as a_scope, Escape as an_escape, Capture as a_capture}
use Rattle.tm_meaning.specs.World.{choose, World}
use Rattle.tm_meaning.specs.World.{top_mark, tick, pop, plain_scope}
use Rattle.tm_meaning.specs.World.{unpacked_items, set_member, emitted, with_escape, captured_text}
use Rattle.tm_meaning.specs.Meaning.{Run, Outcome}
use Rattle.tm_meaning.specs.Meaning.{Under, say, use_it}
use Rattle.tm_meaning.specs.Operators.{truth}
use Rattle.tm_meaning.specs.Meaning.{eval, eval_step, filtered, use_text}
use Rattle.tm_meaning.specs.Meaning.{assign, assign_all, set_to, set_each}
use Rattle.tm_meaning.specs.Meaning.{emit, exec_all}
use Rattle.tm_meaning.specs.Machine.{goes}
use Rattle.tm_meaning.specs.Machine.{stuck}
use Rattle.tm_meaning.specs.Instructions.{is_no_loop}
use Rattle.tm_syntax.proofs.Standing.{HasAt}
use Rattle.tm_syntax.specs.Loops.{Numbers}
use Rattle.tm_simulation.proofs.Entries.{Counts}
use Rattle.tm_simulation.proofs.Advances.{Kept, kept_top, kept_frames, kept_then, kept_popped}
use Rattle.tm_simulation.proofs.Advances.{within}
use Rattle.tm_simulation.proofs.Advances.{kept_unescaped}
use Rattle.tm_simulation.proofs.Gives.{tick_gives}
use Rattle.tm_simulation.proofs.Asks.{unpacked_gives, emitted_gives}
use Rattle.tm_simulation.proofs.Evaluates.{eval_gives, step_gives}
use Rattle.tm_simulation.proofs.Evaluates.{assign_gives, set_gives, truth_gives}
use Rattle.tm_simulation.proofs.Follow.{LeadsToEnd, follows_map_kept}
use Rattle.tm_simulation.proofs.Follow.{captures_of, told_by, Spot, told, cfg}
use Rattle.tm_simulation.proofs.Follow.{later, Follows, Then, Ends, follows_map, bind_then, use_then, so_far_then}
use Rattle.tm_simulation.proofs.Follow.{Closed, captured_in, Dropped}
use Rattle.tm_simulation.proofs.Follow.{Go, silent, at, after_then, choose_ends}
use Rattle.tm_simulation.proofs.Forms.{Stands, writes_then}
use Rattle.tm_meaning.specs.declared.stream.TemplateId.{TemplateId}
use Rattle.tm_simulation.proofs.Operands.{bind_long, items_long}
use Rattle.tm_simulation.proofs.Levels.{Deep, Here, Setting, as_at, here, here_kept, meaning, nest_ends}
use Rattle.tm_simulation.proofs.Arguments.{In}
use Rattle.tm_simulation.proofs.BlockTags.{ended_then}
use Rattle.tm_simulation.proofs.Expressions.{expr_runs, step_runs}

abbrev escaping : Spot → AutoEscape → Spot
escaping s e = record s { run = record s.run { escapes = e ∷ s.run.escapes } }

module _ (setting : Setting) where
  open setting use {context, trees, n, entered, id, level, again, again_kept, called_in_place, called_as_value}

  abbrev u : Under
  u = meaning setting

  mutual
    -- A target's code takes the value on top.
    pub target_runs : (t : AssignmentTarget) (run : Run) (s : Spot) (l : Labels) (pc : ℕ) (v : Val) (stack : List Val) (w : World) →
        Here setting run s w → In setting s l pc (target_code t) →
        Follows context (told s) (assign u run t v w) (λ _ world1. Go context s (beyond pc (target_code t)) stack world1) →
        Go context s pc (v ∷ stack) w
    target_runs (To x) run s l pc v stack w d is h =
        at context (i.StoreLocal x) s pc (v ∷ stack) w is.0 (after_then context (told s) (tick w) _
        (bind_then context (told s) w (tick w) _ _ _ (tick_gives _ _ w) h (λ _ world1 k h1.
        silent context (told s) _ h1)))
    target_runs (Items _ ts) run s l pc v stack w d is h =
        let n = count_targets ts in
        at context (i.UnpackList n) s pc (v ∷ stack) w is.0.0 (after_then context (told s) (tick w) _
        (bind_then context (told s) w (tick w) _ _ _ (tick_gives _ _ w) h (λ _ world1 k h1.
        after_then context (told s) (unpacked_items n v world1) _ (bind_long context (told s) world1 n (unpacked_items n v world1) _ _ _
        (unpacked_gives _ _ n v world1) (items_long n v world1) h1 (λ vs world2 k2 m h2.
        silent context (told s) _ (targets_run ts run s l (pc + 1) vs stack world2 m
        (here_kept setting run s k2 (here_kept setting run s k d)) is.1 h2))))))
    target_runs (Member e x) run s l pc v stack w d is h =
        expr_runs setting e run s l pc (v ∷ stack) w d is.0
        (bind_then context (told s) w (eval u run e w) _ _ _ (eval_gives u (nest_ends setting) again_kept run e w) h (λ o world1 k h1.
        at context (i.SetAttr x) s _ (o ∷ v ∷ stack) world1 is.1.0 (after_then context (told s) (tick world1) _
        (bind_then context (told s) world1 (tick world1) _ _ _ (tick_gives _ _ world1) h1 (λ _ world2 k2 h2.
        after_then context (told s) (set_member x v o world2) _ (follows_map context (told s) (set_member x v o world2) _ _ h2
        (λ _ world3 g. silent context (told s) _ g)))))))

    -- Targets take as many values, the first on top.
    targets_run : {m : _} → (ts : Row_of-AssignmentTarget m) (run : Run) (s : Spot) (l : Labels) (pc : ℕ) (vs stack : List Val)
        (w : World) →
        length vs ≡ count_targets ts → Here setting run s w → In setting s l pc (targets_code ts) →
        Follows context (told s) (assign_all u run ts vs w) (λ _ world1. Go context s (beyond pc (targets_code ts)) stack world1) →
        Go context s pc (vs ++ stack) w
    targets_run no_target run s l pc [] stack w n d is h = h
    targets_run no_target run s l pc (v ∷ vs) stack w n d is h = absurd (omega (arith, n))
    targets_run (target t ts) run s l pc [] stack w n d is h = absurd (omega (arith, n))
    targets_run (target t ts) run s l pc (v ∷ vs) stack w n d is h =
        target_runs t run s l pc v (vs ++ stack) w d is.0
        (bind_then context (told s) w (assign u run t v w) _ _ _ (assign_gives u (nest_ends setting) again_kept run t v w) h
        (λ _ world1 k h1. targets_run ts run s l _ vs stack world1 (omega (arith, n)) (here_kept setting run s k d) is.1 h1))

  -- A value's code, and then its target's, leave the operands as they were.
  pub set_runs : (t : AssignmentTarget) (e : Expr) (run : Run) (s : Spot) (l : Labels) (pc : ℕ) (stack : List Val) (w : World) →
      Here setting run s w → In setting s l pc (set_code t e) →
      Follows context (told s) (set_to u run t e w) (λ _ world1. Go context s (beyond pc (set_code t e)) stack world1) →
      Go context s pc stack w
  set_runs t e run s l pc stack w d is h =
      expr_runs setting e run s l pc stack w d is.0
      (bind_then context (told s) w (eval u run e w) _ _ _ (eval_gives u (nest_ends setting) again_kept run e w) h
      (λ v world1 k h1. target_runs t run s l _ v stack world1 (here_kept setting run s k d) is.1 h1))

  pub sets_run : (given : List Assignment) (run : Run) (s : Spot) (l : Labels) (pc : ℕ) (stack : List Val) (w : World) →
      Here setting run s w → In setting s l pc (assignments_code given) →
      Follows context (told s) (set_each u run given w) (λ _ world1. Go context s (beyond pc (assignments_code given)) stack world1) →
      Go context s pc stack w
  sets_run [] run s l pc stack w d is h = h
  sets_run (a ∷ more) run s l pc stack w d is h =
      set_runs a.target a.value run s l pc stack w d is.0
      (bind_then context (told s) w (set_to u run a.target a.value w) _ _ _
      (set_gives u (nest_ends setting) again_kept run a.target a.value w) h
      (λ _ world1 k h1. sets_run more run s l _ stack world1 (here_kept setting run s k d) is.1 h1))

  -- The code of filters replaces the value on top.
  pub filters_run : (filters : List Step) (run : Run) (s : Spot) (l : Labels) (pc : ℕ) (v : Val) (stack : List Val) (w : World) →
      Here setting run s w → In setting s l pc (filters_code filters) →
      Follows context (told s) (filtered u run filters v w) (λ y world1. Go context s (beyond pc (filters_code filters)) (y ∷ stack)
      world1) → Go context s pc (v ∷ stack) w
  filters_run [] run s l pc v stack w d is h = h
  filters_run (f ∷ more) run s l pc v stack w d is h =
      step_runs setting f run s l pc v stack w d is.0
      (bind_then context (told s) w (eval_step u run f v w) _ _ _ (step_gives u (nest_ends setting) again_kept run f v w) h
      (λ y world1 k h1. filters_run more run s l _ y stack world1 (here_kept setting run s k d) is.1 h1))

  -- A scope of the run's own, which is no loop's, is left, which is free.
  pub popped_then : (s : Spot) (pc : ℕ) (stack : List Val) (w : World) → context.base.scopes < length w.scopes.frames →
      top_mark w.scopes.frames ≡ None → slice_get (context.program.code s.run.stream) pc ≡ Some i.PopFrame →
      Go context s (pc + 1) stack (pop w) → Go context s pc stack w
  popped_then s pc stack w stands no_loop e g =
      let b : (nat_lt context.base.scopes (length w.scopes.frames) && is_no_loop (top_mark w.scopes.frames)) ≡ true = rw
      (lt-ltb context.base.scopes (length w.scopes.frames) stands, no_loop) refl in
      at context i.PopFrame s pc stack w e
      (subst (λ b. LeadsToEnd context (told s) (choose b (λ _. goes stack (pop w) (cfg s pc stack w)) (λ _. stuck w)))
      (sym b) (silent context (told s) _ g))

  -- what is emitted
  pub emit_then : (run : Run) (s : Spot) (pc : ℕ) (v : Val) (stack : List Val) (w : World) (D L N : Then) → Stands context.base run s →
      slice_get (context.program.code s.run.stream) pc ≡ Some i.Emit →
      Ends context s.bed (emit u (as_at run s) s.out v w) D L N → ((out1 : List ℕ) (world1 : World) → D s.parent out1 world1 →
      Go context (later s s.parent out1) (pc + 1) stack world1) → Go context s pc (v ∷ stack) w
  emit_then run s pc v stack w D L N fits e h g =
      at context i.Emit s pc (v ∷ stack) w e (after_then context (told s) (tick w) _
      (use_then context s.bed w (tick w) (as_at run s) s.out _ D L N _ (tick_gives _ _ w) h (λ _ world1 k h1.
      after_then context (told s) (emitted context.program.host v world1) _
      (use_then context s.bed world1 (emitted context.program.host v world1) (as_at run s) s.out _ D L N _
      (emitted_gives _ context.program.host v world1) h1 (λ t world2 k2 h2.
      writes_then context (as_at run s) t s (pc + 1) stack world2 refl fits.2
      (g (say (as_at run s) t s.out) world2 (so_far_then context s.bed (as_at run s) (say (as_at run s) t s.out) world2 D L N h2)))))))

  -- what becomes of the text of a capture
  pub used_then : (becomes : CaptureUse) (run : Run) (s : Spot) (l : Labels) (pc : ℕ) (v : Val) (stack : List Val) (w : World)
      (L N : Then) → Stands context.base run s → Deep setting run s w → In setting s l pc (use_code becomes) →
      Ends context s.bed (use_text u (as_at run s) becomes v s.out w) (λ q out1 world1. Go context (later s q out1)
      (beyond pc (use_code becomes)) stack world1) L N → Go context s pc (v ∷ stack) w
  used_then uses.Emit run s l pc v stack w L N fits d is h =
      emit_then run s pc v stack w _ L N fits is.0 h (λ out1 world1 g. g)
  used_then (uses.Assign t) run s l pc v stack w L N fits d is h =
      target_runs t (as_at run s) s l pc v stack w (here setting run s w d) is
      (use_then context s.bed w (assign u (as_at run s) t v w) (as_at run s) s.out _ _ L N _
      (assign_gives u (nest_ends setting) again_kept (as_at run s) t v w) h (λ _ world1 k h1.
      so_far_then context s.bed (as_at run s) s.out world1 _ L N h1))

  -- A value's truth is asked, and what stands at the jump's place follows where it is false.
  pub tested_then : (run : Run) (s : Spot) (pc to : ℕ) (v : Val) (stack : List Val) (w : World) (first second : World → Outcome)
      (D L N : Then) → slice_get (context.program.code s.run.stream) pc ≡ Some (i.JumpIfFalse to) →
      Ends context s.bed (use_it (tick w) (as_at run s) s.out (λ _ world1. use_it (truth context.program.host v world1) (as_at run s)
      s.out (λ b world2. choose b (λ _. first world2) (λ _. second world2)))) D L N →
      ((x : World) → Kept w x → Ends context s.bed (first x) D L N → Go context s (pc + 1) stack x) →
      ((x : World) → Kept w x → Ends context s.bed (second x) D L N → Go context s to stack x) → Go context s pc (v ∷ stack) w
  tested_then run s pc to v stack w first second D L N e h f g =
      at context (i.JumpIfFalse to) s pc (v ∷ stack) w e (after_then context (told s) (tick w) _
      (use_then context s.bed w (tick w) (as_at run s) s.out _ D L N _ (tick_gives _ _ w) h (λ _ world1 k1 h1.
      after_then context (told s) (truth context.program.host v world1) _ (use_then context s.bed world1
      (truth context.program.host v world1) (as_at run s) s.out _ D L N _ (truth_gives _ context.program.host v world1) h1
      (λ b world2 k2 h2.
      choose_ends context b (first world2) (second world2) _ _ (told s) s.bed D L N h2
      (λ h3. silent context (told s) _ (f world2 (kept_then k1 k2) h3)) (λ h3. silent context (told s) _
      (g world2 (kept_then k1 k2) h3)))))))

  -- What is open around a statement's code is closed, and the innermost loop left or gone on with: from here to where that goes on.
  abbrev pub Jumps : ℕ → List Opened → Spot → List Val → World → Then → Type 0
  Jumps to os s stack w L =
      (q : Option TemplateId) (out : List ℕ) (v : World) (pc : ℕ) → Kept w v →
      HasAt (context.program.code s.run.stream) pc (close_all os) → slice_get (context.program.code s.run.stream)
      (beyond_all pc (close_all os)) ≡ Some (i.Jump to) → L q out v → Go context (later s q out) pc stack v

  abbrev pub Around : Labels → List Opened → Spot → List Val → World → Then → Then → Type 0
  Around l os s stack w L N = Jumps l.after os s stack w L × Jumps l.again os s stack w N

  pub around_kept : (l : Labels) (os : List Opened) (s : Spot) (stack : List Val) (L N : Then) {w v : World} → Kept w v →
      Around l os s stack w L N → Around l os s stack v L N
  around_kept l os s stack L N e j = (
    λ q out x pc h is to k. j.0 q out x pc (kept_then e h) is to k,
    λ q out x pc h is to k. j.1 q out x pc (kept_then e h) is to k,
  )

  jumps_scope : (to : ℕ) (os : List Opened) (s : Spot) (stack : List Val) (w v : World) (L : Then) →
      context.base.scopes ≤ length w.scopes.frames → Kept (within (plain_scope (undefined false)) w) v → Jumps to os s stack w L →
      Jumps to (a_scope ∷ os) s stack v (Closed pop L)
  jumps_scope to os s stack w v L d k j q out x pc h is there l =
      let a = plain_scope (undefined false) in
      let all = kept_then k h in
      popped_then (later s q out) pc stack x (omega (arith, kept_frames all, d)) (kept_top all) is.0
      (j q out (pop x) (pc + 1) (kept_popped a w x all) is.1 there l)

  pub around_scope : (l : Labels) (os : List Opened) (s : Spot) (stack : List Val) (w v : World) (L N : Then) →
      context.base.scopes ≤ length w.scopes.frames → Kept (within (plain_scope (undefined false)) w) v → Around l os s stack w L N →
      Around l (a_scope ∷ os) s stack v (Closed pop L) (Closed pop N)
  around_scope l os s stack w v L N d e j = (jumps_scope l.after os s stack w v L d e j.0, jumps_scope l.again os s stack w v N d e j.1)

  jumps_escape : (to : ℕ) (os : List Opened) (s : Spot) (stack : List Val) (w : World) (e : AutoEscape) (L : Then) →
      Jumps to os s stack w L →
      Jumps to (an_escape ∷ os) (escaping s w.escape) stack (with_escape e w) (Closed (with_escape w.escape) L)
  jumps_escape to os s stack w e L j q out x pc h is there l =
      at context i.PopAutoEscape (later (escaping s w.escape) q out) pc stack x is.0
      (silent context (told_by s.bed out) _ (j q out (with_escape w.escape x) (pc + 1) (kept_unescaped e w x h) is.1 there l))

  pub around_escape : (l : Labels) (os : List Opened) (s : Spot) (stack : List Val) (w : World) (e : AutoEscape) (L N : Then) →
      Around l os s stack w L N →
      Around l (an_escape ∷ os) (escaping s w.escape) stack (with_escape e w) (Closed (with_escape w.escape) L)
      (Closed (with_escape w.escape) N)
  around_escape l os s stack w e L N j = (jumps_escape l.after os s stack w e L j.0, jumps_escape l.again os s stack w e N j.1)

  jumps_capture : (to : ℕ) (os : List Opened) (s : Spot) (stack : List Val) (w : World) (L : Then) →
      s.run.floor < suc (length (captures_of s.bed s.out)) → Jumps to os s stack w L →
      Jumps to (a_capture ∷ os) (record s { bed = captured_in s.bed s.out; out = [] }) stack w (Dropped context s.bed s.out L)
  jumps_capture to os s stack w L stands j q x v pc h is there l =
      at context i.EndCapture (later (record s { bed = captured_in s.bed s.out; out = [] }) q x) pc stack v is.0
      (after_then context (told s) (tick v) _
      (follows_map_kept context (told s) v (tick v) _ _ (tick_gives _ _ v) l (λ _ world1 k1 left_first.
      ended_then setting s q x pc stack world1 stands
      (at context i.DiscardTop (later s q s.out) (pc + 1) (captured_text x world1 ∷ stack) world1 is.1.0
      (silent context (told s) _ (j q s.out world1 (pc + 1 + 1) (kept_then h k1) is.1.1 there left_first))))))

  pub around_capture : (l : Labels) (os : List Opened) (s : Spot) (stack : List Val) (w : World) (L N : Then) →
      s.run.floor < suc (length (captures_of s.bed s.out)) → Around l os s stack w L N →
      Around l (a_capture ∷ os) (record s { bed = captured_in s.bed s.out; out = [] }) stack w (Dropped context s.bed s.out L)
      (Dropped context s.bed s.out N)
  around_capture l os s stack w L N stands j = (
    jumps_capture l.after os s stack w L stands j.0,
    jumps_capture l.again os s stack w N stands j.1,
  )

  -- The code of statements comes after itself with what they mean, or to their fault.
  abbrev pub StmtsRun : {m : _} → Numbers → Labels → List Opened → Row_of-Stmt m → Type 1
  StmtsRun numbers l os ss =
      (run : Run) (s : Spot) (pc : ℕ) (stack : List Val) (w : World) (L N : Then) → Stands context.base run s → Deep setting run s w →
      Around l os s stack w L N → In setting s l pc (statements_code os ss) →
      Counts (context.program.code s.run.stream) numbers pc (statements_code os ss) →
      Ends context s.bed (exec_all u numbers ss (as_at run s) s.out w) (λ q out1 world1. Go context (later s q out1)
      (beyond pc (statements_code os ss)) stack world1) L N → Go context s pc stack w
