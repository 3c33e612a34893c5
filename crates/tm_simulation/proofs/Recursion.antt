-- Loops that are called come after their calls with what their rounds mean.
use Rattle.std.proofs.Common.{◌≡◌, ℕ, suc, ◌+◌, ◌<◌, ◌≤◌, ◌⊎◌, inl, inr, List, [], ◌∷◌, length, Option, Some, None, Bool}
use Rattle.std.proofs.Common.{true, false, refl, sym, ap, subst, arith, lt-ltb}
use Rattle.std.specs.Prelude.{slice_get, nat_lt}
use Rattle.tm_values.specs.Val.{Val, boolean}
use Rattle.tm_values.specs.declared.error.ErrorKind.TheVariants.{InvalidOperation}
use Rattle.tm_trees.specs.Instructions.instructions as i
use Rattle.tm_syntax.specs.Code.{for_flags}
use Rattle.tm_syntax.specs.Fragments.{beyond}
use Rattle.tm_syntax.specs.Fragments.{looped as a_loop}
use Rattle.tm_syntax.specs.Code.{target_code, statements_code}
use Rattle.tm_meaning.specs.World.{choose, World, Loop, loop_scope, new_loop, open_loop}
use Rattle.tm_meaning.specs.World.{top_loop, depth, leave_loop}
use Rattle.tm_meaning.specs.World.{captured_text}
use Rattle.tm_meaning.specs.Meaning.{ended, text_after, Run, Ending, done, leave, next}
use Rattle.tm_meaning.specs.Runs.{again_in}
use Rattle.tm_meaning.specs.Meaning.{fault, Under}
use Rattle.tm_meaning.specs.Meaning.{capturing}
use Rattle.tm_meaning.specs.Meaning.{rounds, loop_over, has_none}
use Rattle.tm_meaning.specs.Machine.{Return, new_capture, recursion, Failed}
use Rattle.tm_meaning.specs.Machine.{More, Over, after}
use Rattle.tm_meaning.specs.Machine.{stuck}
use Rattle.tm_meaning.specs.Instructions.{returned, returns, on_loop}
use Rattle.tm_meaning.specs.Instructions.{pop_loop_with}
use Rattle.tm_meaning.specs.Steps.{over as is_over}
use Rattle.tm_simulation.specs.Kept.{shapes}
use Rattle.tm_syntax.proofs.Standing.{HasAt, At}
use Rattle.tm_trees.specs.Instructions.{LoopPlace}
use Rattle.tm_syntax.specs.Loops.{FoundLoop}
use Rattle.tm_simulation.proofs.Begins.{Both, IsAt, Looped}
use Rattle.tm_simulation.proofs.Entries.{Counts}
use Rattle.tm_simulation.proofs.TreeLoops.{found}
use Rattle.tm_simulation.proofs.Loops.{on_top_loop, new_record}
use Rattle.tm_simulation.proofs.Advances.{Kept, kept_frames}
use Rattle.tm_simulation.proofs.RunAdvances.{mark_after, in_loop_of, opened, opened_kept}
use Rattle.tm_simulation.proofs.Follow.{LeadsToEnd}
use Rattle.tm_simulation.proofs.Follow.{opened_then, captures_of, told_by, Spot, told, cfg}
use Rattle.tm_simulation.proofs.Follow.{later, Follows, Then, Ends, whole_of}
use Rattle.tm_simulation.proofs.Follow.{fault_then, captured_in}
use Rattle.tm_simulation.proofs.Follow.{Go, silent, at, after_then}
use Rattle.tm_simulation.proofs.Forms.{Stands}
use Rattle.tm_meaning.specs.declared.stream.TemplateId.{TemplateId}
use Rattle.tm_simulation.proofs.Levels.{DeepIn, HereIn, Setting, as_at, levels_called, meaning}
use Rattle.tm_simulation.proofs.BlockTags.{stands_captured}
use Rattle.tm_simulation.proofs.Rounds.{did_not_is, end_at, looped, round_code, round_labels, rounds_run, turn_of}
use Rattle.tm_simulation.proofs.Statements.{stmts_run}

-- where a called loop's rounds stand
abbrev in_call : Spot → Spot
in_call s = record s { run = record s.run { escapes = []; floor = length (captures_of s.bed s.out) } }

abbrev from_call : Bool → Spot → ℕ → List Val → Return
from_call value s pc stack = record {
  place = pc + 1;
  operands = stack;
  escapes = s.run.escapes;
  floor = s.run.floor;
  parent = s.parent;
  value = value;
}

-- a text that is a value
abbrev apart : Spot → Spot
apart s = record s { bed = captured_in s.bed s.out; out = [] }

module _ (setting : Setting) where
  open setting use {context, trees, n, entered, id, level, again, again_kept, called_in_place, called_as_value}

  abbrev u : Under
  u = meaning setting

  -- a called loop is left, which is free: the run goes on where it was called
  called_exit : (o : Return) (s1 : Spot) (q : Option TemplateId) (out : List ℕ) (end : ℕ) (below : List Val) (w x : World) (l : Loop) →
      context.base.scopes ≤ length w.scopes.frames → Kept (in_loop_of (for_flags false) w) x →
      slice_get (shapes x.loops) (length w.loops) ≡ Some l →
      slice_get (context.program.code s1.run.stream) end ≡ Some i.PopLoopFrame →
      LeadsToEnd context (told_by s1.bed out) (returns o o.value (returned o s1.run.loops
      (cfg (later (looped (Some o) (in_call s1)) q out) end below x))) →
      Go context (later (looped (Some o) (in_call s1)) q out) end below x
  called_exit o s1 q out end below w x l d k e is z =
      let stands : context.base.scopes < length x.scopes.frames = omega (arith, kept_frames k, d) in
      let c = cfg (later (looped (Some o) (in_call s1)) q out) end below x in
      at context i.PopLoopFrame (later (looped (Some o) (in_call s1)) q out) end below x is
      (subst (λ b. LeadsToEnd context (told_by s1.bed out) (choose b (λ _. on_loop (Some o ∷ s1.run.loops) (top_loop x) x
      (λ m. pop_loop_with (Some o ∷ s1.run.loops) c)) (λ _. stuck x)))
      (sym (lt-ltb context.base.scopes (length x.scopes.frames) stands))
      (subst (λ a. LeadsToEnd context (told_by s1.bed out) a)
      (sym (on_top_loop (for_flags false) w x l k e (Some o) s1.run.loops (λ items turns. pop_loop_with (Some o ∷ s1.run.loops) c))) z))

  called_over : (o : Return) (s1 : Spot) (q : Option TemplateId) (out : List ℕ) (end : ℕ) (w x : World) (l : Loop) (items : List Val) →
      context.base.scopes ≤ length w.scopes.frames → Kept (in_loop_of (for_flags false) w) x →
      slice_get (shapes x.loops) (length w.loops) ≡ Some l →
      l.items ≡ items → HasAt (context.program.code s1.run.stream) end (i.PopLoopFrame ∷ []) ⊎ HasAt (context.program.code s1.run.stream)
      end (i.PushDidNotIterate ∷ i.PopLoopFrame ∷ []) →
      ((place : ℕ) (below : List Val) → LeadsToEnd context (told_by s1.bed out) (returns o o.value
      (returned o s1.run.loops (cfg (later (looped (Some o) (in_call s1)) q out) place below x)))) →
      Go context (later (looped (Some o) (in_call s1)) q out) end [] x
  called_over o s1 q out end w x l items d k e same (inl h) z = called_exit o s1 q out end [] w x l d k e h.0 (z end [])
  called_over o s1 q out end w x l items d k e same (inr h) z =
      at context i.PushDidNotIterate (later (looped (Some o) (in_call s1)) q out) end [] x h.0
      (subst (λ a. LeadsToEnd context (told_by s1.bed out) a)
      (sym (did_not_is setting (Some o) (for_flags false) (in_call s1) q out end [] w x
      l items k e same))
      (silent context (told_by s1.bed out) _ (called_exit o s1 q out (end + 1) (boolean (has_none items) ∷ []) w x l d k e h.1.0
      (z (end + 1) (boolean (has_none items) ∷ [])))))

  -- a called loop's rounds, from its place, over nothing
  called_rounds : (l : FoundLoop) (place : ℕ) → Looped (context.program.code id) l place →
      (o : Return) (m : ℕ) (items : List Val) (run : Run) (s1 : Spot) (w : World) (D : Then) (L N : Then) →
      DeepIn context n id (suc level) run s1 w → nat_lt (depth w.scopes) context.program.host.limit ≡ true →
      ((q : Option TemplateId) (out : List ℕ) (x : World) → D q out (leave_loop x) → (at_place : ℕ) (below : List Val) →
      LeadsToEnd context (told_by s1.bed out) (returns o o.value (returned o s1.run.loops
      (cfg (later (looped (Some o) (in_call s1)) q out) at_place below x)))) →
      Ends context s1.bed (rounds (turn_of setting l.target l.at l.body.row) items (as_at run s1) s1.out
      (opened (for_flags true) m w items)) D L N →
      Go context (looped (Some o) (in_call s1)) (place + 1) [] (opened (for_flags true) m w items)
  called_rounds l place lo o m items run s1 w D L N d room goes_on h =
      let round = round_code l.target l.body.row in
      let end = end_at place round in
      let all_is : context.program.code id ≡ context.program.code s1.run.stream = ap context.program.code (sym d.2) in
      let fits : Stands context.base run (in_call s1) = (d.1.0, omega arith, d.1.2) in
      rounds_run setting (Some o) (for_flags true) l.target l.at l.body.row lo.labels place lo.after
      (stmts_run setting [] l.at (round_labels lo.labels place round) l.body.row) items items run (in_call s1) [] w
      (opened (for_flags true) m w items) (new_loop items (for_flags true) m w) D L N fits
      (levels_called context n level (loop_scope (mark_after (for_flags false) w)) w room d.0, fits, d.2)
      (opened_kept (for_flags true) m w items) (new_record (for_flags true) m w items)
      (record { before = []; same = refl; all = refl; turns = refl })
      (subst (λ c. At c lo.labels place (a_loop (for_flags true) round lo.after)) all_is lo.code)
      (subst (λ c. Counts c l.at (beyond (place + 1 + 1) (target_code l.target)) (statements_code [] l.body.row)) all_is lo.numbered)
      (λ q out x left_first k e same g. called_over o s1 q out end w x left_first items d.0.scopes k e same
      (subst (λ c. HasAt c end (i.PopLoopFrame ∷ []) ⊎ HasAt c end (i.PushDidNotIterate ∷ i.PopLoopFrame ∷ [])) all_is lo.exit)
      (goes_on q out x g)) h

  -- a loop that can be called there, and one that can't
  recursed_by : (b : Bool) (l : FoundLoop) (lp : LoopPlace) → (b ≡ true → (lp.flags ≡ for_flags true) × Looped (context.program.code id) l
      lp.place) → (value : Bool) (m : ℕ) (items : List Val) (run : Run) (s s1 : Spot) (pc : ℕ) (stack old : List Val) (w0 w : World)
      (D L N : Then) →
      s1.run ≡ s.run → s1.parent ≡ s.parent → DeepIn context n id (suc level) run s1 w →
      ((q : Option TemplateId) (out : List ℕ) (x : World) → D q out (leave_loop x) → (at_place : ℕ) (below : List Val) →
      LeadsToEnd context (told_by s1.bed out) (returns (from_call value s pc stack) value
      (returned (from_call value s pc stack) s1.run.loops (cfg (later (looped (Some (from_call value s pc stack)) (in_call s1)) q out)
      at_place below x)))) →
      Ends context s1.bed (choose b (λ _. loop_over context.program.host m true (turn_of setting l.target l.at l.body.row) items
      (as_at run s1) s1.out w) (λ _. ended (fault (InvalidOperation ∷ [])) (as_at run s1) s1.out w)) D L N →
      LeadsToEnd context (told s1) (choose b
      (λ _. after (open_loop context.program.host items lp.flags m w) (λ _ x. More []
      (cfg (looped (Some (from_call value s pc stack)) (in_call s1)) (lp.place + 1) [] x)))
      (λ _. Over (Failed (InvalidOperation ∷ []) w)))
  recursed_by false l lp found value m items run s s1 pc stack old w0 w D L N same_run same_parent d goes_on h = is_over refl
      (fault_then context s1.bed (as_at run s1) s1.out w (InvalidOperation ∷ []) D L N h)
  recursed_by true l lp found value m items run s s1 pc stack old w0 w D L N same_run same_parent d goes_on h =
      let o = from_call value s pc stack in
      let there = found refl in
      subst (λ g. LeadsToEnd context (told s1) (after (open_loop context.program.host items g m w)
      (λ _ x. More [] (cfg (looped (Some o) (in_call s1)) (lp.place + 1) [] x)))) (sym there.0)
      (after_then context (told s1) (open_loop context.program.host items (for_flags true) m w) _
      (opened_then context s1.bed (for_flags true) m w items (nat_lt (depth w.scopes) context.program.host.limit) (as_at run s1) s1.out
      (λ _ x. rounds (turn_of setting l.target l.at l.body.row) items (as_at run s1) s1.out x) D L N
      (λ x. LeadsToEnd context (told s1) (More [] (cfg (looped (Some o) (in_call s1)) (lp.place + 1) [] x))) h (λ room h1.
      silent context (told s1) _ (called_rounds l lp.place there.1 o m items run s1 w D L N d room goes_on h1))))

  -- in place: it is heard where it is called
  pub recursed_in_place : (ol : Option FoundLoop) (op : Option LoopPlace) → Both (IsAt (context.program.code id)) ol op →
      (m : ℕ) (items : List Val) (run : Run) (s : Spot) (pc : ℕ) (stack old : List Val) (w0 w : World) (D L N : Then) →
      DeepIn context n id (suc level) run s w →
      Ends context s.bed (again_in u ol m items (as_at run s) s.out w) D L N →
      ((q : Option TemplateId) (out1 : List ℕ) (x : World) → D q out1 x → Go context (later s q out1) (pc + 1) stack x) →
      LeadsToEnd context (told s) (recursion context.program (cfg s pc old w0) false stack (captures_of s.bed s.out) m op items w)
  recursed_in_place None None both m items run s pc stack old w0 w D L N d h g = is_over refl
      (fault_then context s.bed (as_at run s) s.out w (InvalidOperation ∷ []) D L N h)
  recursed_in_place None (Some lp) both m items run s pc stack old w0 w D L N d h g = absurd both
  recursed_in_place (Some l) None both m items run s pc stack old w0 w D L N d h g = absurd both
  recursed_in_place (Some l) (Some lp) both m items run s pc stack old w0 w D L N d h g =
      subst (λ b. LeadsToEnd context (told s) (choose b
      (λ _. after (open_loop context.program.host items lp.flags m w) (λ _ x. More []
      (cfg (looped (Some (from_call false s pc stack)) (in_call s)) (lp.place + 1) [] x)))
      (λ _. Over (Failed (InvalidOperation ∷ []) w)))) (sym both.0)
      (recursed_by l.recursive l lp both.1 false m items run s s pc stack old w0 w D L N refl refl d
      (λ q out x e at_place below. silent context (told_by s.bed out) _ (g q out (leave_loop x) e)) h)

  -- as a value: its text goes into a capture of its own
  pub text_ends : (s : Spot) (e : Ending) (parent : Option TemplateId) (out : List ℕ) (w : World) (K : Val → World → Type 0) →
      Follows context (told s) (text_after e (whole_of e parent out w)) K →
      Ends context (captured_in s.bed s.out) (whole_of e parent out w) (λ q out1 x. K (captured_text out1 x) x)
      (λ q out1 x. K (captured_text out1 x) x) (λ q out1 x. K (captured_text out1 x) x)
  unfolding Ends
  text_ends s (done vs) parent out w K h = h
  text_ends s leave parent out w K h = h
  text_ends s next parent out w K h = h
  text_ends s (fault chain) parent out w K h = h

  pub recursed_as_value : (ol : Option FoundLoop) (op : Option LoopPlace) → Both (IsAt (context.program.code id)) ol op →
      (m : ℕ) (items : List Val) (run : Run) (s : Spot) (pc : ℕ) (stack old : List Val) (w0 w : World) (D : Then) →
      HereIn context n id (suc level) run s w →
      Ends context (captured_in s.bed s.out) (again_in u ol m items (capturing true run) [] w) D D D →
      ((q : Option TemplateId) (out1 : List ℕ) (x : World) → D q out1 x → Go context s (pc + 1) (captured_text out1 x ∷ stack) x) →
      LeadsToEnd context (told s) (recursion context.program (cfg s pc old w0) true stack (new_capture true ∷ captures_of s.bed s.out) m op
      items w)
  recursed_as_value None None both m items run s pc stack old w0 w D d h g = is_over refl
      (fault_then context (captured_in s.bed s.out) (capturing true run) [] w (InvalidOperation ∷ []) D D D h)
  recursed_as_value None (Some lp) both m items run s pc stack old w0 w D d h g = absurd both
  recursed_as_value (Some l) None both m items run s pc stack old w0 w D d h g = absurd both
  recursed_as_value (Some l) (Some lp) both m items run s pc stack old w0 w D d h g =
      let s1 = apart s in
      let fits : Stands context.base (capturing true run) s1 = stands_captured setting run s d.1 in
      let placed = subst (λ q. Ends context s1.bed (again_in u (Some l) m items (record (capturing true run) { parent = q }) [] w) D D D)
      d.3 h in
      subst (λ b. LeadsToEnd context (told s) (choose b
      (λ _. after (open_loop context.program.host items lp.flags m w) (λ _ x. More []
      (cfg (looped (Some (from_call true s pc stack)) (in_call s1)) (lp.place + 1) [] x)))
      (λ _. Over (Failed (InvalidOperation ∷ []) w)))) (sym both.0)
      (recursed_by l.recursive l lp both.1 true m items (capturing true run) s s1 pc stack old w0 w D D D refl refl (d.0, fits, d.2)
      (λ q out x e at_place below. silent context (told s) _ (g q out (leave_loop x) e)) placed)
