-- What statements keep, whatever they do, and of which kinds their faults are.
use Rattle.std.proofs.Common.{ℕ, ◌+◌, List, [], Option, Some, None, Bool, true, false, nat_lt, refl}
use Rattle.tm_values.specs.Val.{Val, undefined}
use Rattle.tm_values.specs.declared.error.ErrorKind.TheVariants.{InvalidOperation}
use Rattle.tm_trees.specs.Trees.{CaptureUse, Stmt, EmitRaw, EmitExpr, EmitLoop, EmitBlock, EmitSuper, If', For', Break, Continue, Block', Extends}
use Rattle.tm_trees.specs.Trees.{Set, CaptureBlock', With', Do, AutoEscape', Macro', CallBlock', Row_of-Stmt, Include, Import, FromImport}
use Rattle.tm_trees.specs.Trees.{no_statement, statement, To, Otherwise, no_else, otherwise}
use Rattle.tm_trees.specs.Trees.uses
use Rattle.tm_syntax.specs.Code.{macro_head}
use Rattle.tm_syntax.specs.Loops.{Numbers, passes, within_loop, past, pasts, FoundLoop, FoundMacro}
use Rattle.tm_meaning.specs.World.{World, answered, tick, pop, depth, emitted, escape_for, with_escape, captured_text}
use Rattle.tm_meaning.specs.World.{plain_scope}
use Rattle.tm_meaning.specs.Calls.{Callee}
use Rattle.tm_meaning.specs.Meaning.{Run, Outcome, Under, use_it, say, eval, loop_items, assign}
use Rattle.tm_meaning.specs.Runs.{again_in, turn_of}
use Rattle.tm_meaning.specs.Operators.{truth}
use Rattle.tm_meaning.specs.Meaning.{set_to, set_each, capturing, loop_over, has_none, exec_after_loop, emit, filtered, use_text}
use Rattle.tm_meaning.specs.Meaning.{import, import_names}
use Rattle.tm_meaning.specs.Meaning.{after_first, exec, exec_all, exec_else, declared, take_parameters, call, with_caller}
use Rattle.tm_meaning.specs.Runs.{macro_body}
use Rattle.std.specs.Prelude.{codes}
use Rattle.tm_simulation.specs.Kept.{Differs, in_closure_too}
use Rattle.tm_simulation.proofs.Advances.{kept_same, within, advances_over, advances_same, kept_popped, advances_escaped, kept_unescaped}
use Rattle.tm_simulation.proofs.Gives.{OutcomeKeepsBut, OutcomeKeeps, RunEnds, tick_gives, ends_here, ends_refused, ends_then, ends_use}
use Rattle.tm_simulation.proofs.Gives.{ends_do, ends_leave, ends_next, choose_ends, ends_kept, ends_within, closing_ends, captured_ends}
use Rattle.tm_simulation.proofs.Gives.{loop_ends}
use Rattle.tm_simulation.proofs.Asks.{emitted_gives, escape_gives, super_asks, innermost_asks}
use Rattle.tm_simulation.proofs.Loads.{load_does, waits_ends}
use Rattle.tm_meaning.specs.declared.stream.TemplateId.{TemplateId}
use Rattle.tm_simulation.proofs.Evaluates.{place_ends, tag_ends, loop_items_give, assign_gives, filtered_gives, set_each_gives, set_gives}
use Rattle.tm_simulation.proofs.Evaluates.{eval_gives, truth_gives}
use Rattle.tm_simulation.proofs.Includes.{include_ends, import_gives, import_names_gives}
use Rattle.tm_simulation.proofs.Declares.{declared_gives, caller_gives, call_gives, take_parameters_give}

-- What every statement ends by: its parts, each of which keeps what it has to.
ruleset ends = (
  ends_use,
  ends_here,
  ends_do,
  choose_ends,
  ends_leave,
  ends_next,
  kept_same,
  tick_gives,
  truth_gives,
  innermost_asks,
  super_asks,
  emitted_gives,
  place_ends,
  eval_gives,
  set_gives,
  tag_ends,
  assign_gives,
  import_gives,
  import_names_gives,
  include_ends,
  declared_gives,
  load_does,
  waits_ends,
)

-- ---------------------------------------------------------------- statements
module _ (u : Under) (nest_ends : (k : Callee) (heard : Bool) (out : List ℕ) (w : World) → RunEnds u.host w (u.nests k heard out w))
    (again_ends : (n : ℕ) (items : List Val) (run : Run) (out : List ℕ) (w : World) →
    OutcomeKeeps u.host run.parent w (u.again n items run out w)) where
  emit_ends : (run : Run) (out : List ℕ) (v : Val) (w : World) → OutcomeKeeps u.host run.parent w (emit u run out v w)
  emit_ends run out v w =
      ends_use u.host w (tick w) run out _ (tick_gives _ u.host w) (λ _ world1. ends_use u.host world1 (emitted u.host v world1) run out _
      (emitted_gives _ u.host v world1)
      (λ t world2. ends_here u.host world2 world2 run (say run t out) (kept_same world2)))

  after_first_ends : {q : Option TemplateId} (other : Otherwise) (run : Run) (w : World) (o : Outcome) → OutcomeKeeps u.host q w o →
      OutcomeKeeps u.host q w (after_first other run o)
  after_first_ends no_else run w o h = h
  after_first_ends (otherwise _ body) run w o h =
      ends_do u.host w run o _ h (λ run1 out1 world1. ends_use u.host world1 (tick world1) run1 out1 _ (tick_gives _ u.host world1)
      (λ _ world2. ends_here u.host world2 world2 run1 out1 (kept_same world2)))

  use_ends : (run : Run) (becomes : CaptureUse) (v : Val) (out : List ℕ) (w : World) →
      OutcomeKeeps u.host run.parent w (use_text u run becomes v out w)
  use_ends run uses.Emit v out w = emit_ends run out v w
  use_ends run (uses.Assign t) v out w =
      ends_use u.host w (assign u run t v w) run out _ (assign_gives u nest_ends again_ends run t v w)
      (λ _ world1. ends_here u.host world1 world1 run out (kept_same world1))

  mutual
    pub exec_ends : (at : Numbers) (s : Stmt) (run : Run) (out : List ℕ) (w : World) → OutcomeKeeps u.host run.parent w (exec u at s run out w)
    exec_ends at (EmitRaw t) run out w = search (ends, nest_ends, again_ends)
    exec_ends at (EmitExpr e) run out w = search (ends, nest_ends, again_ends)
    exec_ends at (EmitLoop e) run out w = search (ends, nest_ends, again_ends)
    exec_ends at (If' c _ body other) run out w =
        ends_use u.host w (eval u run c w) run out _ (eval_gives u nest_ends again_ends run c w) (λ v world1.
        ends_use u.host world1 (tick world1) run out _ (tick_gives _ u.host world1) (λ _ world2.
        ends_use u.host world2 (truth u.host v world2) run out _ (truth_gives _ u.host v world2) (λ b world3.
        choose_ends u.host world3 b _ _ (after_first_ends other run world3 _ (execs_end at body run out world3))
        (else_ends (pasts at body) other run out world3))))
    exec_ends at (EmitBlock b) run out w = search (ends, nest_ends, again_ends)
    exec_ends at EmitSuper run out w = search (ends, nest_ends, again_ends)
    exec_ends at (Extends e) run out w = search (ends, nest_ends, again_ends)
    exec_ends at (Block' b required _ body) run out w = search (ends, nest_ends, again_ends)
    exec_ends at (Set t e) run out w = search (ends, nest_ends, again_ends)
    exec_ends at (With' given _ body) run out w =
        let s = plain_scope (undefined false) in
        ends_within u.host w s (nat_lt (depth w.scopes) u.host.limit) run out _ (λ room.
        let above = advances_over {i = in_closure_too} {j = in_closure_too} {host = u.host} s w room (advances_same (within s w)) in
        ends_kept u.host w (within s w) (set_each u run given (within s w)) run out _ above
        (set_each_gives u nest_ends again_ends run given (within s w)) (λ _ world2 k.
        closing_ends u.host w (within s w) pop above (kept_popped s w) (λ x. refl) (exec_all u at body run out world2)
        (ends_then u.host (within s w) world2 (exec_all u at body run out world2) k (execs_end at body run out world2))))
    exec_ends at (For' t e c recursive _ body other) run out w =
        ends_use u.host w (loop_items u at.loops run t e c w) run out _ (loop_items_give u nest_ends again_ends at.loops run t e c w)
        (λ vs world1.
        ends_do u.host world1 run (loop_over u.host (at.loops + passes c) recursive
        (λ item run1 out1 world2. use_it (assign u run1 t item world2) run1 out1
        (λ _ world3. exec_all u (within_loop c at) body run1 out1 world3)) vs run out world1) _
        (loop_ends u.host (at.loops + passes c) recursive world1 _
        (λ item run1 out1 world2. ends_use u.host world2 (assign u run1 t item world2) run1 out1 _
        (assign_gives u nest_ends again_ends run1 t item world2) (λ _ world3. execs_end (within_loop c at) body run1 out1 world3)) vs run
        out)
        (λ run1 out1 world2. after_loop_ends (pasts (within_loop c at) body) other (has_none vs) run1 out1 world2))
    exec_ends at Break run out w = search (ends, nest_ends, again_ends)
    exec_ends at Continue run out w = search (ends, nest_ends, again_ends)
    exec_ends at (CaptureBlock' becomes filters _ body) run out w =
        captured_ends u.host w run out (exec_all u at body (capturing true run) [] w) _ (execs_end at body (capturing true run) [] w)
        (λ run1 x world1.
        ends_use u.host world1 (tick world1) run1 out _ (tick_gives _ u.host world1) (λ _ world2.
        ends_use u.host world2 (filtered u run1 filters (captured_text x world2) world2) run1 out _
        (filtered_gives u nest_ends again_ends run1 filters (captured_text x world2) world2)
        (λ v world3. use_ends run1 becomes v out world3)))
    exec_ends at (AutoEscape' e _ body) run out w =
        ends_use u.host w (eval u run e w) run out _ (eval_gives u nest_ends again_ends run e w) (λ v world1.
        ends_use u.host world1 (answered (escape_for run.first v) world1) run out _
        (escape_gives _ u.host run.first v world1) (λ x world2.
        closing_ends u.host world2 (with_escape x world2) (with_escape world2.escape) (advances_escaped x world2) (kept_unescaped x world2)
        (λ y. refl) (exec_all u at body run out (with_escape x world2)) (execs_end at body run out (with_escape x world2))))
    exec_ends at (Do e) run out w = search (ends, nest_ends, again_ends)
    exec_ends at (Macro' x ps _ body) run out w = search (ends, nest_ends, again_ends)
    exec_ends at (CallBlock' e ps _ body) run out w =
        let m = macro_head (codes "caller") ps body in
        let last = caller_gives u.host at.macros m in
        ends_use u.host w (call u run (with_caller u.host at.macros m) e w) run out _ (call_gives u nest_ends again_ends _ last run e w)
        (λ v world1. emit_ends run out v world1)
    exec_ends at (Include e missing) run out w = search (ends, nest_ends, again_ends)
    exec_ends at (Import e t) run out w = search (ends, nest_ends, again_ends)
    exec_ends at (FromImport e xs) run out w = search (ends, nest_ends, again_ends)

    pub execs_end : {n : _} → (at : Numbers) (ss : Row_of-Stmt n) (run : Run) (out : List ℕ) (w : World) →
        OutcomeKeeps u.host run.parent w (exec_all u at ss run out w)
    execs_end at no_statement run out w = ends_here u.host w w run out (kept_same w)
    execs_end at (statement s ss) run out w = ends_do u.host w run (exec u at s run out w) _ (exec_ends at s run out w)
        (λ run1 out1 world1. execs_end (past at s) ss run1 out1 world1)

    else_ends : (at : Numbers) (other : Otherwise) (run : Run) (out : List ℕ) (w : World) → OutcomeKeeps u.host run.parent w (exec_else u at other run out w)
    else_ends at no_else run out w = ends_here u.host w w run out (kept_same w)
    else_ends at (otherwise _ body) run out w = execs_end at body run out w

    pub after_loop_ends : (at : Numbers) (other : Otherwise) (none_taken : Bool) (run : Run) (out : List ℕ) (w : World) →
        OutcomeKeeps u.host run.parent w (exec_after_loop u at other none_taken run out w)
    after_loop_ends at no_else none_taken run out w = ends_here u.host w w run out (kept_same w)
    after_loop_ends at (otherwise _ body) none_taken run out w =
        ends_use u.host w (tick w) run out _ (tick_gives _ u.host w)
        (λ _ world1. choose_ends u.host world1 none_taken _ _ (execs_end at body run out world1)
        (ends_here u.host world1 world1 run out (kept_same world1)))

  -- a macro's body
  pub body_ends : (m : FoundMacro) (given : List Val) (run : Run) (out : List ℕ) (w : World) →
      OutcomeKeeps u.host run.parent w (macro_body u m given run out w)
  body_ends m given run out w =
      ends_use u.host w (take_parameters u run m.parameters given w) run out _
      (take_parameters_give u nest_ends again_ends run m.parameters given w)
      (λ _ world1. execs_end m.at m.body.row run out world1)

  -- a loop that is called
  pub called_end : {i : Differs} (l : Option FoundLoop) (n : ℕ) (items : List Val) (run : Run) (out : List ℕ) (w : World) →
      OutcomeKeepsBut i u.host run.parent w (again_in u l n items run out w)
  called_end None n items run out w = ends_refused u.host w run out InvalidOperation refl
  called_end (Some l) n items run out w =
      choose_ends u.host w l.recursive _ _
      (loop_ends u.host n true w (turn_of u l)
      (λ v run1 out1 world1. ends_use u.host world1 (assign u run1 l.target v world1) run1 out1 _
      (assign_gives u nest_ends again_ends run1 l.target v world1) (λ _ world2. execs_end l.at l.body.row run1 out1 world2)) items run out)
      (ends_refused u.host w run out InvalidOperation refl)
