-- The code of a call that is given a macro makes that call.
use Rattle.std.proofs.Common.{◌≡◌, ℕ, suc, ◌+◌, List, [], ◌∷◌, ◌++◌, length, Some, Bool, false, refl, ap, ◌∙◌, subst, arith}
use Rattle.std.proofs.Common.{length-append, eqb-true}
use Rattle.std.specs.Prelude.{codes}
use Rattle.tm_values.specs.Val.{Val, text}
use Rattle.tm_trees.specs.Trees.{Expr, Call', Row_of-Argument, Row_of-Keyword, Row_of-Step, no_step, step, Step, Apply', Called}
use Rattle.tm_trees.specs.Instructions.instructions as i
use Rattle.tm_syntax.specs.Forms.{chained}
use Rattle.tm_syntax.specs.Code.{caller_end, rows_of, together, count, count_maps, has_spread, passed_count, merging}
use Rattle.tm_syntax.specs.Code.{expr_code, arguments_code, lists_code, keywords_code, step_code, passing_code, called_alone, step_call_code}
use Rattle.tm_syntax.specs.Code.{steps_call_code, call_code}
use Rattle.tm_syntax.specs.Entries.{entry_number}
use Rattle.tm_syntax.specs.Fragments.{Fragment, Labels, MacroHead, declares, beyond}
use Rattle.tm_meaning.specs.World.{World, Res, bind, tick}
use Rattle.tm_meaning.specs.Calls.{call_named, call_callee}
use Rattle.tm_meaning.specs.Meaning.{Run, Under, declared, with_caller, passed_so, call_alone, step_call, steps_call, call, eval}
use Rattle.tm_meaning.specs.Meaning.{eval_arguments, eval_keywords, eval_lists, eval_step}
use Rattle.tm_meaning.specs.Operators.{named_by}
use Rattle.tm_meaning.specs.Machine.{onto}
use Rattle.tm_simulation.proofs.Counts.{unmarked}
use Rattle.tm_simulation.proofs.Entries.{of_number}
use Rattle.tm_simulation.proofs.TreeLoops.{expr_loopless, arguments_loopless, step_loopless}
use Rattle.tm_simulation.proofs.Advances.{Kept}
use Rattle.tm_simulation.proofs.Gives.{tick_gives}
use Rattle.tm_simulation.proofs.Asks.{callee_asks, named_asks}
use Rattle.tm_simulation.proofs.Evaluates.{Given, arguments_give, keywords_give, lists_give, named_by_gives, eval_gives, step_gives}
use Rattle.tm_simulation.proofs.Declares.{declared_gives, caller_gives}
use Rattle.tm_simulation.proofs.Operands.{IsLong, at_length, arguments_long, bind_long, flat, flat_more, keywords_long, lists_long, long_bind}
use Rattle.tm_simulation.proofs.Operands.{mapped_long, named_long}
use Rattle.tm_simulation.proofs.Follow.{Spot, told, Follows, bind_then, Go, silent, at, after_then}
use Rattle.tm_simulation.proofs.Levels.{Setting, Here, here_kept, meaning, nest_ends}
use Rattle.tm_simulation.proofs.Arguments.{InWhere, Pushes, Long, RowRuns, Counted, passed_on, mapped_then, named_runs, passing_runs}
use Rattle.tm_simulation.proofs.Arguments.{passed_then, calls}
use Rattle.tm_simulation.proofs.Expressions.{expr_runs, arguments_run, keywords_run, lists_run, step_runs}
use Rattle.tm_simulation.proofs.Macros.{declared_then}

module _ (setting : Setting) where
  open setting use {context, trees, n, entered, id, level, again, again_kept, called_in_place, called_as_value}

  abbrev u : Under
  u = meaning setting

  pub caller_long : (nth : ℕ) (m : MacroHead) (row : List (Val × Val)) (w : World) →
      IsLong (rows_of (suc (length row))) (with_caller context.program.host nth m row w)
  caller_long nth m row w =
      long_bind _ (tick w) _ (λ _ world1. long_bind _ (declared context.program.host nth m world1) _ (λ v world2.
      let row1 = row ++ (text (codes "caller") false, v) ∷ [] in
      let one : length row1 ≡ suc (length row) = omega (arith, length-append row ((text (codes "caller") false, v) ∷ [])) in
      at_length _ _ _ (ap rows_of one) (mapped_long row1 world2)))

  -- Among arguments by their names `caller` is a macro of this number.
  abbrev pub caller_runs : (m : MacroHead) (c : Fragment) (nth : ℕ) (run : Run) → RowRuns setting (of_number (context.program.code id) nth) run
  caller_runs m c nth run = record {
    end = caller_end (declares m c);
    values = with_caller context.program.host nth m;
    gives = caller_gives context.program.host nth m;
    long = caller_long nth m;
    runs = λ n row s l pc stack w e d is h.
        let name = text (codes "caller") false in
        let entry : entry_number (pc + 1 + 1) (context.program.code s.run.stream) ≡ nth =
        ap (λ q. entry_number (pc + 1 + 1) (context.program.code q)) d.2 ∙ eqb-true _ nth is.1.0.3 in
        at context (i.LoadConst name) s pc (onto (flat row) stack) w is.0.0 (after_then context (told s) (tick w) _
        (bind_then context (told s) w (tick w) _ _ _ (tick_gives _ _ w) h (λ _ world1 k1 h1.
        silent context (told s) _
        (declared_then setting m c nth s l (pc + 1) (name ∷ onto (flat row) stack) world1 (is.1.0.0, is.1.0.1, is.1.0.2, refl) entry
        (bind_then context (told s) world1 (declared context.program.host nth m world1) _ _ _
        (declared_gives context.program.host nth m world1) h1 (λ v world2 k2 h2.
        subst (λ us. Go context s (beyond (pc + 1) (declares m c)) us world2) (flat_more row name v stack)
        (mapped_then setting s (beyond (pc + 1) (declares m c)) (suc n) (row ++ (name, v) ∷ []) stack world2
        (omega (arith, length-append row ((name, v) ∷ []), e)) is.1.1 h2)))))));
  }

  module _ (marks : ℕ → Bool) (run : Run) (last : RowRuns setting marks run) where
    passed_so_then : {n m : _} → (before : List Val) (given : Row_of-Argument n) (named : Row_of-Keyword m) (s : Spot) (l : Labels) (pc : ℕ)
        (stack : List Val) (w : World) (g : List Val → World → Res Val) (K : Val → World → Type 0) → Here setting run s w →
        InWhere setting marks s l pc (passing_code last.end (length before) given named) →
        Follows context (told s) (bind (passed_so u run last.values before given named w) g) K →
        ((vs : List Val) (world1 : World) → Kept w world1 →
        Counted setting (has_spread given) (count given + together last.end named + length before) vs → Follows context (told s) (g vs world1) K →
        Go context s (beyond pc (passing_code last.end (length before) given named)) (passed_on setting (has_spread given) vs stack) world1) →
        Go context s pc (onto before stack) w
    passed_so_then before given named s l pc stack w g K d is h go =
        let end = last.end in
        let maps : World → Res (List Val) = λ world1. eval_keywords u run last.values [] named world1 in
        let maps_give : Given context.program.host maps =
        λ world1. keywords_give u (nest_ends setting) again_kept run last.values last.gives [] named world1 in
        let maps_long : Long setting (count_maps end 0 named) maps =
        λ world1. keywords_long u run end last.values last.long [] named world1 in
        let names : World → Res (List Val) = named_by context.program.host named maps in
        let names_give : Given context.program.host names = named_by_gives _ context.program.host named maps maps_give in
        let names_long : Long setting (together end named) names = named_long context.program.host end named maps maps_long in
        let names_push : Pushes setting marks run (merging end named (keywords_code end 0 named)) names =
        named_runs setting marks end named run (keywords_code end 0 named) maps maps_give maps_long
        (λ s1 l1 pc1 stack1 world1 d1 is1 h1. keywords_run setting marks run last 0 [] named s1 l1 pc1 stack1 world1 refl d1 is1 h1) in
        let places : World → Res (List Val) = λ world1. eval_arguments u run given world1 in
        passing_runs setting marks end (has_spread given) before given named run (arguments_code given)
        (merging end named (keywords_code end 0 named)) (λ by_name. lists_code (length before) given (together end named) by_name)
        places names (λ by_name world1. eval_lists u run before given by_name world1)
        (λ world1. arguments_give u (nest_ends setting) again_kept run given world1) (λ world1. arguments_long u run given world1)
        (λ s1 l1 pc1 stack1 world1 d1 is1 h1. arguments_run setting given run s1 l1 pc1 stack1 world1 d1
        (unmarked marks _ l1 pc1 (arguments_code given) (arguments_loopless given) is1) h1)
        names_give names_long names_push
        (λ world1. lists_give u (nest_ends setting) again_kept run before given names names_give world1)
        (λ world1. lists_long u run before given (together end named) names names_long world1)
        (λ s1 l1 pc1 stack1 world1 d1 is1 h1. lists_run setting marks (length before) before given run (together end named)
        (merging end named (keywords_code end 0 named)) names names_give names_long names_push s1 l1 pc1 stack1 world1 refl d1 is1 h1)
        s l pc stack w g K d is h go

    alone_then : (v : Val) (s : Spot) (l : Labels) (pc : ℕ) (stack : List Val) (w : World) → Here setting run s w →
        InWhere setting marks s l pc (called_alone last.end) →
        Follows context (told s) (call_alone u run last.values v w)
        (λ y world1. Go context s (beyond pc (called_alone last.end)) (y ∷ stack) world1) → Go context s pc (v ∷ stack) w
    alone_then v s l pc stack w d is h =
        let many = last.end.maps 0 in
        last.runs 0 [] s l pc (v ∷ stack) w refl d is.0
        (bind_long context (told s) w many (last.values [] w) _ _ _ (last.gives [] w) (last.long [] w) h (λ ks world1 k m h1.
        calls setting (i.CallObject (Some (many + 1))) false (many + 1) (λ vs world2. call_callee context.program.host vs world2) (λ c. refl)
        (λ vs world2. callee_asks _ context.program.host vs world2) run s (beyond pc (last.end.code 0)) (v ∷ ks) stack world1
        (omega (arith, m)) (here_kept setting run s k d) is.1.0 h1))

    step_call_then : (x : Step) (s : Spot) (l : Labels) (pc : ℕ) (v : Val) (stack : List Val) (w : World) → Here setting run s w →
        InWhere setting marks s l pc (step_call_code last.end x) →
        Follows context (told s) (step_call u run last.values x v w)
        (λ y world1. Go context s (beyond pc (step_call_code last.end x)) (y ∷ stack) world1) → Go context s pc (v ∷ stack) w
    step_call_then (Apply' k f _ given _ named) s l pc v stack w d is h =
        passed_so_then (v ∷ []) given named s l pc stack w _ _ d is.0 h (λ vs world1 k1 long h1.
        passed_then setting k f (has_spread given) (count given + together last.end named + 1) run s _ vs stack world1 long
        (here_kept setting run s k1 d) is.1 h1)
    step_call_then (Called _ given _ named) s l pc v stack w d is h =
        passed_so_then (v ∷ []) given named s l pc stack w _ _ d is.0 h (λ vs world1 k1 long h1.
        calls setting (i.CallObject (passed_count last.end 1 given named)) (has_spread given) (count given + together last.end named + 1)
        (λ vs1 world2. call_callee context.program.host vs1 world2) (λ c. refl)
        (λ vs1 world2. callee_asks _ context.program.host vs1 world2) run s _ vs stack world1 long (here_kept setting run s k1 d) is.1.0 h1)
    step_call_then x s l pc v stack w d is h =
        step_runs setting x run s l pc v stack w d (unmarked marks _ l pc (step_code x) (step_loopless x) is.0)
        (bind_then context (told s) w (eval_step u run x v w) _ _ _ (step_gives u (nest_ends setting) again_kept run x v w) h
        (λ y world1 k h1. alone_then y s l (beyond pc (step_code x)) stack world1 (here_kept setting run s k d) is.1 h1))

    steps_call_then : {m : _} → (ss : Row_of-Step m) (s : Spot) (l : Labels) (pc : ℕ) (v : Val) (stack : List Val) (w : World) →
        Here setting run s w → InWhere setting marks s l pc (steps_call_code last.end ss) →
        Follows context (told s) (steps_call u run last.values ss v w)
        (λ y world1. Go context s (beyond pc (steps_call_code last.end ss)) (y ∷ stack) world1) → Go context s pc (v ∷ stack) w
    steps_call_then no_step s l pc v stack w d is h = alone_then v s l pc stack w d is h
    steps_call_then (step x no_step) s l pc v stack w d is h = step_call_then x s l pc v stack w d is h
    steps_call_then (step x (step y more)) s l pc v stack w d is h =
        step_runs setting x run s l pc v stack w d (unmarked marks _ l pc (step_code x) (step_loopless x) is.0)
        (bind_then context (told s) w (eval_step u run x v w) _ _ _ (step_gives u (nest_ends setting) again_kept run x v w) h
        (λ z world1 k h1. steps_call_then (step y more) s l (beyond pc (step_code x)) z stack world1 (here_kept setting run s k d) is.1 h1))

    -- A call's code pushes what it comes to.
    pub call_then : (e : Expr) (s : Spot) (l : Labels) (pc : ℕ) (stack : List Val) (w : World) → Here setting run s w →
        InWhere setting marks s l pc (call_code last.end e) →
        Follows context (told s) (call u run last.values e w)
        (λ y world1. Go context s (beyond pc (call_code last.end e)) (y ∷ stack) world1) → Go context s pc stack w
    call_then (Call' f _ given _ named) s l pc stack w d is h =
        passed_so_then [] given named s l pc stack w _ _ d is.0 h (λ vs world1 k1 long h1.
        calls setting (i.CallFunction f (passed_count last.end 0 given named)) (has_spread given)
        (count given + together last.end named + 0) (λ vs1 world2. call_named context.program.host f vs1 world2) (λ c. refl)
        (λ vs1 world2. named_asks _ context.program.host f vs1 world2) run s _ vs stack world1 long
        (here_kept setting run s k1 d) is.1.0 h1)
    call_then (chained a _ ss) s l pc stack w d is h =
        expr_runs setting a run s l pc stack w d (unmarked marks _ l pc (expr_code a) (expr_loopless a) is.0)
        (bind_then context (told s) w (eval u run a w) _ _ _ (eval_gives u (nest_ends setting) again_kept run a w) h
        (λ v world1 k h1. steps_call_then ss s l (beyond pc (expr_code a)) v stack world1 (here_kept setting run s k d) is.1 h1))
    call_then e s l pc stack w d is h =
        expr_runs setting e run s l pc stack w d (unmarked marks _ l pc (expr_code e) (expr_loopless e) is.0)
        (bind_then context (told s) w (eval u run e w) _ _ _ (eval_gives u (nest_ends setting) again_kept run e w) h
        (λ v world1 k h1. alone_then v s l (beyond pc (expr_code e)) stack world1 (here_kept setting run s k d) is.1 h1))
