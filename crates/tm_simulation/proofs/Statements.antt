-- The code of statements does what they mean.
use Rattle.std.proofs.Common.{◌≡◌, ℕ, ◌+◌, List, [], ◌∷◌, length, Option, Some, None}
use Rattle.std.proofs.Common.{true, false, refl, sym, subst, arith}
use Rattle.std.specs.Prelude.{slice_get, nat_lt, codes}
use Rattle.tm_values.specs.Val.{Val, undefined, boolean}
use Rattle.tm_trees.specs.Trees.{Stmt, EmitRaw, EmitExpr, EmitLoop, EmitBlock, EmitSuper, If', For', Break, Continue, Block', Extends, Set}
use Rattle.tm_trees.specs.Trees.{CaptureBlock', With', Do, AutoEscape', Macro', CallBlock', Row_of-Stmt, Include, Import, FromImport, no_statement}
use Rattle.tm_trees.specs.Trees.{To, statement, Otherwise, no_else, otherwise}
use Rattle.tm_trees.specs.Instructions.modes.{Capture}
use Rattle.tm_trees.specs.Instructions.instructions as i
use Rattle.tm_syntax.specs.Code.{for_flags, parameters_code, macro_head, call_code, caller_end}
use Rattle.tm_syntax.specs.Fragments.{◌⨾◌, straight, Labels, outward, beyond, declares, looped as a_loop}
use Rattle.tm_syntax.specs.Code.{expr_code}
use Rattle.tm_syntax.specs.Code.{iterable_code}
use Rattle.tm_syntax.specs.Code.{target_code, assignments_code, statement_code}
use Rattle.tm_syntax.specs.Code.{statements_code, branches_code, after_loop_code}
use Rattle.tm_syntax.specs.declared.opened.Opened.{Opened}
use Rattle.tm_syntax.specs.declared.opened.Opened.TheVariants.{Scope as a_scope, Escape as an_escape, Capture as a_capture}
use Rattle.tm_meaning.specs.World.{choose, World, Loop, loop_scope, new_loop, open_loop}
use Rattle.tm_meaning.specs.World.{tick, depth, push, pop, leave_loop, plain_scope}
use Rattle.tm_meaning.specs.World.{answered, escape_for, with_escape, captured_text}
use Rattle.tm_meaning.specs.Inheritance.{load}
use Rattle.tm_meaning.specs.Calls.{call_innermost, enter_super}
use Rattle.tm_meaning.specs.Meaning.{Run}
use Rattle.tm_meaning.specs.Meaning.{Under, so_far, say, use_it}
use Rattle.tm_meaning.specs.Operators.{truth}
use Rattle.tm_meaning.specs.Meaning.{eval}
use Rattle.tm_meaning.specs.Meaning.{loop_items}
use Rattle.tm_meaning.specs.Meaning.{filtered, set_to, set_each, capturing}
use Rattle.tm_meaning.specs.Meaning.{rounds, loop_over, has_none, exec_after_loop, after_first, exec, exec_all}
use Rattle.tm_meaning.specs.Meaning.{exec_else, declared, assign, call, with_caller, import, import_names}
use Rattle.tm_meaning.specs.Machine.{after, goes}
use Rattle.tm_meaning.specs.Instructions.{replacing, awaiting}
use Rattle.tm_meaning.specs.Instructions.{looping}
use Rattle.tm_simulation.specs.Kept.{shapes}
use Rattle.tm_syntax.specs.Loops.{Numbers, loops_before, passes, within_loop, past, pasts}
use Rattle.tm_simulation.proofs.Entries.{Counts, counts_after, of_number, one_marked}
use Rattle.tm_syntax.proofs.Standing.{AtWhere}
use Rattle.tm_simulation.proofs.Begins.{after_none}
use Rattle.tm_simulation.proofs.TreeLoops.{expr_loopless, target_loopless, assignments_loopless, found, iterable_begins, statement_begins}
use Rattle.tm_simulation.proofs.TreeLoops.{statements_begin, call_has}
use Rattle.tm_simulation.proofs.Loops.{new_record}
use Rattle.tm_simulation.proofs.Advances.{Kept, kept_top, kept_frames, kept_same, kept_then}
use Rattle.tm_simulation.proofs.Advances.{within}
use Rattle.tm_simulation.proofs.RunAdvances.{mark_after, in_loop_of, kept_left, opened, opened_kept}
use Rattle.tm_simulation.proofs.Gives.{loop_ends, tick_gives}
use Rattle.tm_simulation.proofs.Asks.{escape_gives}
use Rattle.tm_simulation.proofs.Asks.{innermost_asks, super_asks}
use Rattle.tm_simulation.proofs.Loads.{load_does, load_gives}
use Rattle.tm_simulation.proofs.Evaluates.{eval_gives}
use Rattle.tm_simulation.proofs.Evaluates.{loop_items_give}
use Rattle.tm_simulation.proofs.Evaluates.{filtered_gives, set_gives, set_each_gives, assign_gives}
use Rattle.tm_simulation.proofs.Declares.{declared_gives, caller_gives, call_gives}
use Rattle.tm_simulation.proofs.Includes.{import_gives, import_names_gives}
use Rattle.tm_simulation.proofs.Executes.{exec_ends, execs_end}
use Rattle.tm_simulation.proofs.Follow.{LeadsToEnd, leave_then, next_then}
use Rattle.tm_simulation.proofs.Follow.{opened_then, told_by, Spot, told, cfg}
use Rattle.tm_simulation.proofs.Follow.{later, Then, Ends, use_then, so_far_then}
use Rattle.tm_simulation.proofs.Follow.{do_then, within_then, Closed, closed_then, captured_in, Dropped, captured_then}
use Rattle.tm_simulation.proofs.Follow.{Go, silent, at, after_then, choose_ends}
use Rattle.tm_simulation.proofs.Forms.{Stands, inside_is, writes_then}
use Rattle.tm_meaning.specs.declared.stream.TemplateId.{TemplateId}
use Rattle.tm_simulation.proofs.Levels.{Deep, Setting, as_at, deep_escaped, deep_kept, deep_later, deep_within, here, meaning, nest_ends}
use Rattle.tm_simulation.proofs.Levels.{placed_then, stands_later}
use Rattle.tm_simulation.proofs.Arguments.{In}
use Rattle.tm_simulation.proofs.Expressions.{expr_runs}
use Rattle.tm_simulation.proofs.Targets.{Around, StmtsRun, around_capture, around_escape, around_kept, around_scope, emit_then, filters_run}
use Rattle.tm_simulation.proofs.BlockTags.{ended_then, stands_captured, tag_then}
use Rattle.tm_simulation.proofs.Targets.{popped_then, set_runs, sets_run, target_runs, tested_then}
use Rattle.tm_simulation.proofs.Targets.{used_then}
use Rattle.tm_simulation.proofs.Macros.{declared_then}
use Rattle.tm_simulation.proofs.IncludeTags.{include_runs, import_runs, import_names_run}
use Rattle.tm_simulation.proofs.CallTags.{caller_runs, call_then}
use Rattle.tm_simulation.proofs.Rounds.{did_not_is, end_at, iterable_runs, left_loop_then, looped, round_code, round_labels, rounds_run}
use Rattle.tm_simulation.proofs.Rounds.{turn_ends, turn_of}

module _ (setting : Setting) where
  open setting use {context, trees, n, entered, id, level, again, again_kept, called_in_place, called_as_value}

  abbrev u : Under
  u = meaning setting

  mutual
    -- A statement's code comes after itself with what it means, or to its fault.
    stmt_runs : (os : List Opened) (numbers : Numbers) (x : Stmt) (run : Run) (s : Spot) (l : Labels) (pc : ℕ) (stack : List Val) (w : World)
        (L N : Then) → Stands context.base run s → Deep setting run s w → Around setting l os s stack w L N →
        In setting s l pc (statement_code os x) → Counts (context.program.code s.run.stream) numbers pc (statement_code os x) →
        Ends context s.bed (exec u numbers x (as_at run s) s.out w) (λ q out1 world1. Go context (later s q out1)
        (beyond pc (statement_code os x)) stack world1) L N → Go context s pc stack w
    stmt_runs os numbers (EmitRaw t) run s l pc stack w L N fits d j is nth h =
        at context (i.EmitRaw t) s pc stack w is.0 (after_then context (told s) (tick w) _
        (use_then context s.bed w (tick w) (as_at run s) s.out _ _ L N _ (tick_gives _ _ w) h (λ _ world1 k1 h1.
        writes_then context (as_at run s) t s (pc + 1) stack world1 refl fits.2
        (so_far_then context s.bed (as_at run s) (say (as_at run s) t s.out) world1 _ L N h1))))
    stmt_runs os numbers (EmitExpr e) run s l pc stack w L N fits d j is nth h =
        expr_runs setting e (as_at run s) s l pc stack w (here setting run s w d) is.0
        (use_then context s.bed w (eval u (as_at run s) e w) (as_at run s) s.out _ _ L N _
        (eval_gives u (nest_ends setting) again_kept (as_at run s) e w) h (λ v world1 k1 h1.
        emit_then setting run s _ v stack world1 _ L N fits is.1.0 h1 (λ out1 world2 g. g)))
    stmt_runs os numbers (EmitLoop e) run s l pc stack w L N fits d j is nth h =
        expr_runs setting e (as_at run s) s l pc stack w (here setting run s w d) is.0
        (use_then context s.bed w (eval u (as_at run s) e w) (as_at run s) s.out _ _ L N _
        (eval_gives u (nest_ends setting) again_kept (as_at run s) e w) h (λ v world1 k1 h1.
        at context i.FastRecurse s _ (v ∷ stack) world1 is.1.0 (after_then context (told s) (tick world1) _
        (use_then context s.bed world1 (tick world1) (as_at run s) s.out _ _ L N _ (tick_gives _ _ world1) h1 (λ _ world2 k2 h2.
        placed_then setting run s _ stack (v ∷ stack) world2 world2 (call_innermost context.program.host v world2) _ L N fits.2
        (innermost_asks _ context.program.host v world2) (deep_kept setting run s k2 (deep_kept setting run s k1 d)) h2
        (λ q1 out1 world3 g. g))))))
    stmt_runs os numbers (If' c z body other) run s l pc stack w L N fits d j is nth h =
        let nth1 = counts_after (context.program.code s.run.stream) numbers pc (expr_code c)
        (branches_code os (statements_code os body) other) (expr_loopless c) nth in
        expr_runs setting c (as_at run s) s l pc stack w (here setting run s w d) is.0
        (use_then context s.bed w (eval u (as_at run s) c w) (as_at run s) s.out _ _ L N _
        (eval_gives u (nest_ends setting) again_kept (as_at run s) c w) h (λ v world1 k1 h1.
        branches_run os numbers l body (λ x. stmts_run os numbers (outward x l) body) other run s _ v stack world1 L N fits
        (deep_kept setting run s k1 d) (around_kept setting l os s stack L N k1 j) is.1 nth1 h1))
    stmt_runs os numbers (For' t e c recursive _ body other) run s l pc stack w L N fits d j is nth h =
        let all = context.program.code s.run.stream in
        let pc1 = beyond pc (iterable_code t e c) in
        let round = round_code t body in
        let inner = round_labels l pc1 round in
        let within = within_loop c numbers in
        let following = after_loop_code os other in
        let nth1 = subst (λ m. Counts all m pc1 (a_loop (for_flags recursive) round following))
        (iterable_begins numbers t e c (found numbers c recursive t body)).number nth.1 in
        let number1 : loops_before pc1 all ≡ numbers.loops + passes c = nth1.0 in
        let number2 = counts_after all within (pc1 + 1 + 1) (target_code t) (statements_code [] body) (target_loopless t) nth1.1 in
        let number3 = subst (λ m. Counts all m (end_at pc1 round) following)
        (after_none (target_code t) (target_loopless t) (statements_begin [] within body)).number nth1.2 in
        let D0 : Then = λ q out1 v. Go context (later s q out1) (beyond (end_at pc1 round) (after_loop_code os other)) stack v in
        iterable_runs setting recursive numbers t e c (as_at run s) s l pc stack w (here setting run s w d) is.0 is.1.0 nth.0
        (use_then context s.bed w (loop_items u numbers.loops (as_at run s) t e c w) (as_at run s) s.out _ D0 L N _
        (loop_items_give u (nest_ends setting) again_kept numbers.loops (as_at run s) t e c w) h (λ vs world1 k1 h1 old.
        let turn = turn_of setting t (within_loop c numbers) body in
        let deep_after = deep_kept setting run s k1 d in
        let j1 = around_kept setting l os s stack L N k1 j in
        let DoneThen : Then = λ q out1 x. Ends context s.bed (exec_after_loop u (pasts (within_loop c numbers) body) other (has_none vs)
        (record run { parent = q }) out1 x) D0 L N in
        let over_it = do_then context s.bed (as_at run s) world1 (loop_over context.program.host (numbers.loops + passes c) recursive turn vs
        (as_at run s) s.out world1) (λ run1 out1 world2. exec_after_loop u (pasts (within_loop c numbers) body) other (has_none vs) run1
        out1 world2) D0 L N DoneThen
        (loop_ends context.program.host (numbers.loops + passes c) recursive world1 turn (turn_ends setting t (within_loop c numbers) body) vs
        (as_at run s) s.out) h1 (λ q out1 x k3 h3. h3) in
        subst (λ m. LeadsToEnd context (told s) (after (open_loop context.program.host vs (for_flags recursive) m world1)
        (λ _ x. goes stack x (looping (None ∷ s.run.loops) (cfg s pc1 old world1))))) (sym number1)
        (after_then context (told s) (open_loop context.program.host vs (for_flags recursive) (numbers.loops + passes c) world1) _
        (opened_then context s.bed (for_flags recursive) (numbers.loops + passes c) world1 vs
        (nat_lt (depth world1.scopes) context.program.host.limit) (as_at run s) s.out (λ _ x. rounds turn vs (as_at run s) s.out x)
        DoneThen L N
        (λ x. LeadsToEnd context (told s) (goes stack x (looping (None ∷ s.run.loops) (cfg s pc1 old world1)))) over_it (λ room h4.
        silent context (told s) _
        (rounds_run setting None (for_flags recursive) t (within_loop c numbers) body l pc1 (after_loop_code os other)
        (stmts_run [] (within_loop c numbers) inner body) vs vs run s stack world1
        (opened (for_flags recursive) (numbers.loops + passes c) world1 vs) (new_loop vs (for_flags recursive) (numbers.loops + passes c) world1)
        DoneThen L N fits (deep_within setting run s (loop_scope (mark_after (for_flags false) world1)) world1 room deep_after)
        (opened_kept (for_flags recursive) (numbers.loops + passes c) world1 vs) (new_record (for_flags recursive) (numbers.loops + passes c) world1 vs)
        (record { before = []; same = refl; all = refl; turns = refl })
        is.1 number2 (λ q out1 x r k3 e3 same deep_last.
        after_loop_runs os (pasts (within_loop c numbers) body) other vs run s l (end_at pc1 round) stack world1 x r L N fits deep_after
        j1 k3 e3 same is.1.4 number3 q out1 deep_last) h4))))))
    stmt_runs os numbers Break run s l pc stack w L N fits d j is nth h = j.0 s.parent s.out w pc (kept_same w) is.0 is.1
        (leave_then context s.bed (as_at run s) s.out w _ L N h)
    stmt_runs os numbers Continue run s l pc stack w L N fits d j is nth h = j.1 s.parent s.out w pc (kept_same w) is.0 is.1
        (next_then context s.bed (as_at run s) s.out w _ L N h)
    stmt_runs os numbers (Block' b required _ body) run s l pc stack w L N fits d j is nth h =
        tag_then setting run s pc b stack w _ L N fits d is.0 h (λ q1 out1 world1 g. g)
    stmt_runs os numbers (EmitBlock b) run s l pc stack w L N fits d j is nth h =
        tag_then setting run s pc b stack w _ L N fits d is.0 h (λ q1 out1 world1 g. g)
    stmt_runs os numbers EmitSuper run s l pc stack w L N fits d j is nth h =
        at context i.FastSuper s pc stack w is.0 (after_then context (told s) (tick w) _
        (use_then context s.bed w (tick w) (as_at run s) s.out _ _ L N _ (tick_gives _ _ w) h (λ _ world1 k1 h1.
        placed_then setting run s pc stack stack world1 world1 (enter_super context.program.host world1) _ L N fits.2
        (super_asks _ context.program.host world1) (deep_kept setting run s k1 d) h1 (λ q1 out1 world2 g. g))))
    stmt_runs os numbers (Extends e) run s l pc stack w L N fits d j is nth h =
        expr_runs setting e (as_at run s) s l pc stack w (here setting run s w d) is.0
        (use_then context s.bed w (eval u (as_at run s) e w) (as_at run s) s.out _ _ L N _
        (eval_gives u (nest_ends setting) again_kept (as_at run s) e w) h (λ v world1 k1 h1.
        let host = context.program.host in
        let c = cfg s (beyond pc (expr_code e)) (v ∷ stack) world1 in
        at context i.LoadBlocks s _ (v ∷ stack) world1 is.1.0
        (subst (λ b. LeadsToEnd context (told s) (after (load host v s.parent b world1) (λ t x. goes stack x (awaiting t c))))
        (sym (inside_is context.base run s.bed s.out fits.2))
        (after_then context (told s) (load host v s.parent run.inside world1) _
        (use_then context s.bed world1 (load host v s.parent run.inside world1) (as_at run s) s.out _ _ L N _
        (load_gives host s.parent world1 _ (load_does host v s.parent run.inside world1)) h1 (λ t world2 k2 h2.
        silent context (told s) _ (so_far_then context s.bed (record run { parent = Some t }) s.out world2 _ L N h2)))))))
    stmt_runs os numbers (Set t e) run s l pc stack w L N fits d j is nth h =
        set_runs setting t e (as_at run s) s l pc stack w (here setting run s w d) is
        (use_then context s.bed w (set_to u (as_at run s) t e w) (as_at run s) s.out _ _ L N _
        (set_gives u (nest_ends setting) again_kept (as_at run s) t e w) h (λ _ world1 k1 h1.
        so_far_then context s.bed (as_at run s) s.out world1 _ L N h1))
    stmt_runs os numbers (With' given _ body) run s l pc stack w L N fits d j is nth h =
        let a = plain_scope (undefined false) in
        let nth1 = (counts_after (context.program.code s.run.stream) numbers (pc + 1) (assignments_code given)
        (statements_code (a_scope ∷ os) body ⨾ straight (i.PopFrame ∷ [])) (assignments_loopless given) nth.1).0 in
        at context i.PushWith s pc stack w is.0.0 (after_then context (told s) (push context.program.host a w) _
        (within_then context s.bed w a (nat_lt (depth w.scopes) context.program.host.limit) (as_at run s) s.out _ _ L N
        (λ world1. LeadsToEnd context (told s) (goes stack world1 (cfg s pc stack w))) h (λ room h1.
        let deep1 = deep_within setting run s a w room d in
        silent context (told s) _ (sets_run setting given (as_at run s) s l (pc + 1) stack (within a w)
        (here setting run s (within a w) deep1) is.1.0
        (use_then context s.bed (within a w) (set_each u (as_at run s) given (within a w)) (as_at run s) s.out _ _ L N _
        (set_each_gives u (nest_ends setting) again_kept (as_at run s) given (within a w)) h1 (λ _ world2 k2 h2.
        stmts_run (a_scope ∷ os) numbers l body run s _ stack world2 (Closed pop L) (Closed pop N) fits (deep_kept setting run s k2 deep1)
        (around_scope setting l os s stack w world2 L N d.0.scopes k2 j) is.1.1.0 nth1
        (closed_then context s.bed world2 pop (exec_all u numbers body (as_at run s) s.out world2) _ L N _
        (execs_end u (nest_ends setting) again_kept numbers body (as_at run s) s.out world2) h2 (λ q out1 world3 k3 g.
        popped_then setting (later s q out1) _ stack world3 (omega (arith, kept_frames k3, kept_frames k2, d.0.scopes))
        (kept_top (kept_then k2 k3)) is.1.1.1.0 g))))))))
    stmt_runs os numbers (CaptureBlock' becomes filters _ body) run s l pc stack w L N fits d j is nth h =
        let inner : Spot = record s { bed = captured_in s.bed s.out; out = [] } in
        let o = exec_all u numbers body (capturing true (as_at run s)) [] w in
        let nth1 = nth.1.0 in
        at context (i.BeginCapture Capture) s pc stack w is.0.0 (silent context (told s) _
        (stmts_run (a_capture ∷ os) numbers l body (capturing true run) inner (pc + 1) stack w (Dropped context s.bed s.out L)
        (Dropped context s.bed s.out N) (stands_captured setting run s fits) (d.0, stands_captured setting run s fits, d.2)
        (around_capture setting l os s stack w L N (omega (arith, fits.1)) j) is.1.0 nth1
        (captured_then context s.bed (as_at run s) s.out w o _ _ L N _ (execs_end u (nest_ends setting) again_kept numbers body
        (capturing true (as_at run s)) [] w) h (λ q x world1 k1 h1.
        at context i.EndCapture (later inner q x) _ stack world1 is.1.1.0.0 (after_then context (told s) (tick world1) _
        (use_then context s.bed world1 (tick world1) (record run { parent = q }) s.out _ _ L N _ (tick_gives _ _ world1) h1
        (λ _ world2 k2 h2.
        ended_then setting s q x _ stack world2 (omega (arith, fits.1))
        (let following = later s q s.out in
        let run1 = record run { parent = q } in
        let deep2 = deep_later setting run s world2 q s.out (deep_kept setting run s k2 (deep_kept setting run s k1 d)) in
        filters_run setting filters run1 following l _ (captured_text x world2) stack world2 (here setting run following world2 deep2)
        is.1.1.1.0
        (use_then context s.bed world2 (filtered u run1 filters (captured_text x world2) world2) run1 s.out _ _ L N _
        (filtered_gives u (nest_ends setting) again_kept run1 filters (captured_text x world2) world2) h2 (λ v world3 k3 h3.
        used_then setting becomes run following l _ v stack world3 L N (stands_later context.base run s fits q s.out)
        (deep_kept setting run following k3 deep2) is.1.1.1.1 h3))))))))))
    stmt_runs os numbers (AutoEscape' e _ body) run s l pc stack w L N fits d j is nth h =
        let nth1 = (counts_after (context.program.code s.run.stream) numbers pc (expr_code e)
        (straight (i.PushAutoEscape ∷ []) ⨾ statements_code (an_escape ∷ os) body ⨾ straight (i.PopAutoEscape ∷ [])) (expr_loopless e)
        nth).1.0 in
        expr_runs setting e (as_at run s) s l pc stack w (here setting run s w d) is.0
        (use_then context s.bed w (eval u (as_at run s) e w) (as_at run s) s.out _ _ L N _
        (eval_gives u (nest_ends setting) again_kept (as_at run s) e w) h (λ v world1 k1 h1.
        at context i.PushAutoEscape s _ (v ∷ stack) world1 is.1.0.0
        (subst (λ first. LeadsToEnd context (told s) (after (answered (escape_for first v) world1)
        (λ x world2. goes stack (with_escape x world2) (replacing (world2.escape ∷ s.run.escapes)
        (cfg s (beyond pc (expr_code e)) (v ∷ stack) world1))))) fits.0
        (after_then context (told s) (answered (escape_for run.first v) world1) _
        (use_then context s.bed world1 (answered (escape_for run.first v) world1) (as_at run s) s.out _ _ L N _
        (escape_gives _ _ run.first v world1) h1 (λ x world2 k2 h2.
        let inner : Spot = record s { run = record s.run { escapes = world2.escape ∷ s.run.escapes } } in
        silent context (told s) _
        (stmts_run (an_escape ∷ os) numbers l body run inner _ stack (with_escape x world2) (Closed (with_escape world2.escape) L)
        (Closed (with_escape world2.escape) N) fits
        (deep_escaped setting run s x world2 (deep_kept setting run s k2 (deep_kept setting run s k1 d)))
        (around_escape setting l os s stack world2 x L N (around_kept setting l os s stack L N (kept_then k1 k2) j)) is.1.1.0 nth1
        (closed_then context s.bed (with_escape x world2) (with_escape world2.escape)
        (exec_all u numbers body (as_at run s) s.out (with_escape x world2)) _ L N _
        (execs_end u (nest_ends setting) again_kept numbers body (as_at run s) s.out (with_escape x world2)) h2 (λ q out1 world3 k3 g.
        at context i.PopAutoEscape (later inner q out1) _ stack world3 is.1.1.1.0 (silent context (told (later s q out1)) _ g))))))))))
    stmt_runs os numbers (Do e) run s l pc stack w L N fits d j is nth h =
        expr_runs setting e (as_at run s) s l pc stack w (here setting run s w d) is.0
        (use_then context s.bed w (eval u (as_at run s) e w) (as_at run s) s.out _ _ L N _
        (eval_gives u (nest_ends setting) again_kept (as_at run s) e w) h (λ v world1 k1 h1.
        at context i.DiscardTop s _ (v ∷ stack) world1 is.1.0 (silent context (told s) _
        (so_far_then context s.bed (as_at run s) s.out world1 _ L N h1))))
    stmt_runs os numbers (Macro' x ps _ body) run s l pc stack w L N fits d j is nth h =
        let m = macro_head x ps body in
        let c = parameters_code ps ⨾ statements_code [] body in
        declared_then setting m c numbers.macros s l pc stack w is.0 nth.0.0
        (use_then context s.bed w (declared context.program.host numbers.macros m w) (as_at run s) s.out _ _ L N _
        (declared_gives context.program.host numbers.macros m w) h (λ v world1 k1 h1.
        target_runs setting (To x) (as_at run s) s l (beyond pc (declares m c)) v stack world1
        (here setting run s world1 (deep_kept setting run s k1 d)) is.1
        (use_then context s.bed world1 (assign u (as_at run s) (To x) v world1) (as_at run s) s.out _ _ L N _
        (assign_gives u (nest_ends setting) again_kept (as_at run s) (To x) v world1) h1 (λ _ world2 k2 h2.
        so_far_then context s.bed (as_at run s) s.out world2 _ L N h2))))
    stmt_runs os numbers (CallBlock' e ps _ body) run s l pc stack w L N fits d j is nth h =
        let m = macro_head (codes "caller") ps body in
        let c = parameters_code ps ⨾ statements_code [] body in
        let all = context.program.code s.run.stream in
        let code = call_code (caller_end (declares m c)) e in
        let last = with_caller context.program.host numbers.macros m in
        let marked : AtWhere (of_number (context.program.code id) numbers.macros) all l pc code =
        subst (λ q. AtWhere (of_number (context.program.code q) numbers.macros) all l pc code) d.2
        (one_marked all numbers l pc code (call_has (declares m c) e) is.0 nth.0) in
        call_then setting (of_number (context.program.code id) numbers.macros) (as_at run s)
        (caller_runs setting m c numbers.macros (as_at run s)) e s l pc stack w (here setting run s w d) marked
        (use_then context s.bed w (call u (as_at run s) last e w) (as_at run s) s.out _ _ L N _
        (call_gives u (nest_ends setting) again_kept last (caller_gives context.program.host numbers.macros m) (as_at run s) e w) h
        (λ v world1 k1 h1. emit_then setting run s (beyond pc code) v stack world1 _ L N fits is.1.0 h1 (λ out1 world2 g. g)))
    stmt_runs os numbers (Include e missing) run s l pc stack w L N fits d j is nth h =
        include_runs setting true (i.Include missing) e missing run s l pc stack w _ L N
        (λ at1 v world1 found leads. at context (i.Include missing) s at1 (v ∷ stack) world1 found leads) fits d is h (λ q1 out1 world1 g. g)
    stmt_runs os numbers (Import e t) run s l pc stack w L N fits d j is nth h =
        import_runs setting e t run s l pc stack w d is
        (use_then context s.bed w (import u (as_at run s) e t w) (as_at run s) s.out _ _ L N _
        (import_gives u (nest_ends setting) again_kept (as_at run s) e t w) h (λ _ world1 k1 h1.
        so_far_then context s.bed (as_at run s) s.out world1 _ L N h1))
    stmt_runs os numbers (FromImport e xs) run s l pc stack w L N fits d j is nth h =
        import_names_run setting e xs run s l pc stack w d is
        (use_then context s.bed w (import_names u (as_at run s) e xs w) (as_at run s) s.out _ _ L N _
        (import_names_gives u (nest_ends setting) again_kept (as_at run s) e xs w) h (λ _ world1 k1 h1.
        so_far_then context s.bed (as_at run s) s.out world1 _ L N h1))

    pub stmts_run : {m : _} → (os : List Opened) (numbers : Numbers) (l : Labels) (ss : Row_of-Stmt m) (run : Run) (s : Spot) (pc : ℕ)
        (stack : List Val) (w : World) (L N : Then) → Stands context.base run s → Deep setting run s w →
        Around setting l os s stack w L N → In setting s l pc (statements_code os ss) →
        Counts (context.program.code s.run.stream) numbers pc (statements_code os ss) →
        Ends context s.bed (exec_all u numbers ss (as_at run s) s.out w) (λ q out1 world1. Go context (later s q out1)
        (beyond pc (statements_code os ss)) stack world1) L N → Go context s pc stack w
    stmts_run os numbers l no_statement run s pc stack w L N fits d j is nth h = so_far_then context s.bed (as_at run s) s.out w _ L N h
    stmts_run os numbers l (statement x ss) run s pc stack w L N fits d j is nth h =
        let D : Then = λ q out1 world1. Go context (later s q out1) (beyond (beyond pc (statement_code os x)) (statements_code os ss))
        stack world1 in
        let nth1 = subst (λ m. Counts (context.program.code s.run.stream) m (beyond pc (statement_code os x)) (statements_code os ss))
        (statement_begins os numbers x).number nth.1 in
        stmt_runs os numbers x run s l pc stack w L N fits d j is.0 nth.0
        (do_then context s.bed (as_at run s) w (exec u numbers x (as_at run s) s.out w)
        (λ run1 out1 world1. exec_all u (past numbers x) ss run1 out1 world1) D L N _
        (exec_ends u (nest_ends setting) again_kept numbers x (as_at run s) s.out w) h (λ q out1 world1 k1 h1.
        stmts_run os (past numbers x) l ss run (later s q out1) _ stack world1 L N (stands_later context.base run s fits q out1)
        (deep_later setting run s world1 q out1 (deep_kept setting run s k1 d)) (around_kept setting l os s stack L N k1 j) is.1 nth1 h1))

    -- where a condition is true, and the other
    branches_run : {m : _} → (os : List Opened) (numbers : Numbers) (l : Labels) (body : Row_of-Stmt m) →
        ((x : ℕ) → StmtsRun setting numbers (outward x l) os body) → (other : Otherwise) (run : Run) (s : Spot) (pc : ℕ) (v : Val)
        (stack : List Val) (w : World) (L N : Then) → Stands context.base run s → Deep setting run s w → Around setting l os s stack w L N →
        In setting s l pc (branches_code os (statements_code os body) other) →
        Counts (context.program.code s.run.stream) numbers pc (branches_code os (statements_code os body) other) →
        Ends context s.bed (use_it (tick w) (as_at run s) s.out (λ _ world1. use_it (truth context.program.host v world1) (as_at run s)
        s.out (λ b world2. choose b (λ _. after_first other (as_at run s) (exec_all u numbers body (as_at run s) s.out world2))
        (λ _. exec_else u (pasts numbers body) other (as_at run s) s.out world2))))
        (λ q out1 world1. Go context (later s q out1) (beyond pc (branches_code os (statements_code os body) other)) stack world1) L N →
        Go context s pc (v ∷ stack) w
    branches_run os numbers l body part no_else run s pc v stack w L N fits d j is nth h =
        tested_then setting run s pc _ v stack w (λ x. exec_all u numbers body (as_at run s) s.out x) (λ x. so_far (as_at run s) s.out x) _
        L N is.0 h
        (λ x k h1. part _ run s (pc + 1) stack x L N fits (deep_kept setting run s k d) (around_kept setting l os s stack L N k j) is.1
        nth.1 h1)
        (λ x k h1. so_far_then context s.bed (as_at run s) s.out x _ L N h1)
    branches_run os numbers l body part (otherwise _ eb) run s pc v stack w L N fits d j is nth h =
        let all = context.program.code s.run.stream in
        let bc = statements_code os body in
        let second = beyond (pc + 1) bc + 1 in
        let nth1 = nth.0.1 in
        let nth2 = subst (λ m. Counts all m second (statements_code os eb)) (statements_begin os numbers body).number nth.1 in
        let D : Then = λ q out1 world1. Go context (later s q out1) (beyond second (statements_code os eb)) stack world1 in
        tested_then setting run s pc _ v stack w (λ x. after_first (otherwise _ eb) (as_at run s)
        (exec_all u numbers body (as_at run s) s.out x)) (λ x. exec_all u (pasts numbers body) eb (as_at run s) s.out x) D L N is.0.0 h
        (λ x k h1. part second run s (pc + 1) stack x L N fits (deep_kept setting run s k d) (around_kept setting l os s stack L N k j)
        is.0.1 nth1
        (do_then context s.bed (as_at run s) x (exec_all u numbers body (as_at run s) s.out x)
        (λ run1 out1 world1. use_it (tick world1) run1 out1 (λ _ world2. so_far run1 out1 world2)) D L N _
        (execs_end u (nest_ends setting) again_kept numbers body (as_at run s) s.out x) h1 (λ q out1 world1 k1 h2.
        at context _ (later s q out1) _ stack world1 is.1 (after_then context (told (later s q out1)) (tick world1) _
        (use_then context s.bed world1 (tick world1) (record run { parent = q }) out1
        (λ _ world2. so_far (record run { parent = q }) out1 world2) D L N _ (tick_gives _ _ world1) h2 (λ _ world2 k2 h3.
        silent context (told (later s q out1)) _ (so_far_then context s.bed (record run { parent = q }) out1 world2 D L N h3)))))))
        (λ x k h1. stmts_run os (pasts numbers body) l eb run s second stack x L N fits (deep_kept setting run s k d)
        (around_kept setting l os s stack L N k j) is.2 nth2 h1)

    -- after a loop's last round
    after_loop_runs : (os : List Opened) (numbers : Numbers) (other : Otherwise) (vs : List Val) (run : Run) (s : Spot) (l : Labels) (end : ℕ)
        (stack : List Val) (w x : World) (r : Loop) (L N : Then) → Stands context.base run s → Deep setting run s w →
        Around setting l os s stack w L N →
        Kept (in_loop_of (for_flags false) w) x → slice_get (shapes x.loops) (length w.loops) ≡ Some r → r.items ≡ vs →
        In setting s l end (after_loop_code os other) →
        Counts (context.program.code s.run.stream) numbers end (after_loop_code os other) →
        (q : Option TemplateId) (out : List ℕ) →
        Ends context s.bed (exec_after_loop u numbers other (has_none vs) (record run { parent = q }) out (leave_loop x))
        (λ q1 out1 v. Go context (later s q1 out1) (beyond end (after_loop_code os other)) stack v) L N →
        Go context (later (looped None s) q out) end stack x
    after_loop_runs os numbers no_else vs run s l end stack w x r L N fits d j kept e same is nth q out h =
        left_loop_then setting (for_flags false) s q out end stack w x r d.0.scopes kept e is.0
        (so_far_then context s.bed (record run { parent = q }) out (leave_loop x) _ L N h)
    after_loop_runs os numbers (otherwise _ eb) vs run s l end stack w x r L N fits d j kept e same is nth q out h =
        let all = context.program.code s.run.stream in
        let b = has_none vs in
        let D0 : Then = λ q1 out1 v. Go context (later s q1 out1) (beyond (end + 1 + 1 + 1) (statements_code os eb)) stack v in
        let nth1 = nth.1.1 in
        let popped = kept_left (for_flags false) w x kept in
        at context i.PushDidNotIterate (later (looped None s) q out) end stack x is.0.0
        (subst (λ n. LeadsToEnd context (told_by s.bed out) n)
        (sym (did_not_is setting None (for_flags false) s q out end stack w x r vs kept
        e same))
        (silent context (told_by s.bed out) _
        (left_loop_then setting (for_flags false) s q out (end + 1) (boolean b ∷ stack) w x r d.0.scopes kept e is.0.1.0
        (at context _ (later s q out) (end + 1 + 1) (boolean b ∷ stack) (leave_loop x) is.1.0
        (after_then context (told_by s.bed out) (tick (leave_loop x)) _
        (use_then context s.bed (leave_loop x) (tick (leave_loop x)) (record run { parent = q }) out _ D0 L N _ (tick_gives _ _ (leave_loop x)) h (λ _ v k1 h1.
        choose_ends context b (exec_all u numbers eb (record run { parent = q }) out v) (so_far (record run { parent = q }) out v) _ _
        (told_by s.bed out) s.bed D0 L N h1
        (λ h2. silent context (told_by s.bed out) _
        (stmts_run os numbers _ eb run (later s q out) (end + 1 + 1 + 1) stack v L N (stands_later context.base run s fits q out)
        (deep_later setting run s v q out (deep_kept setting run s (kept_then popped k1) d))
        (around_kept setting l os s stack L N (kept_then popped k1) j) is.1.1 nth1 h2))
        (λ h2. silent context (told_by s.bed out) _ (so_far_then context s.bed (record run { parent = q }) out v D0 L N h2)))))))))
