-- The code of streams and templates comes to what their trees mean.
use Rattle.std.proofs.Common.{◌≡◌, ◌≤◌, ℕ, zero, suc, ◌+◌, inl, List, [], ◌∷◌, length, Option, Some, None, Bool}
use Rattle.std.proofs.Common.{true, false, refl, sym, ap, ◌∙◌, subst, arith, eq-eqb, eqb-true}
use Rattle.std.specs.Prelude.{slice_get, nat_eq, option_and_then}
use Rattle.std.proofs.lemmas.Option.{slice_get_past}
use Rattle.tm_trees.specs.Instructions.{Instruction}
use Rattle.tm_trees.specs.Instructions.instructions as i
use Rattle.tm_syntax.specs.Fragments.{Fragment, beyond, ending_at, whole_labels, assembled}
use Rattle.tm_syntax.specs.Blocks.{fragment_of}
use Rattle.tm_syntax.specs.Code.{expr_code, statements_code, parameters_code}
use Rattle.tm_trees.specs.Trees.{Expr}
use Rattle.tm_meaning.specs.World.{choose, root_of, World}
use Rattle.tm_values.specs.declared.error.ErrorKind.{ErrorKind}
use Rattle.tm_values.specs.declared.escape.AutoEscape.{AutoEscape}
use Rattle.tm_meaning.specs.World.{Res, Good, Bad, tick}
use Rattle.tm_meaning.specs.World.{captured_text}
use Rattle.tm_meaning.specs.Calls.{Callee, whole, macro_of}
use Rattle.tm_meaning.specs.Tree.{Body, StreamTree, statements, expression, Trees}
use Rattle.tm_meaning.specs.Meaning.{Ending, done, leave, next}
use Rattle.tm_meaning.specs.Runs.{under, again_of}
use Rattle.tm_meaning.specs.Meaning.{fault, Under}
use Rattle.tm_meaning.specs.Meaning.{capturing}
use Rattle.tm_meaning.specs.Meaning.{eval, exec_all, take_parameters}
use Rattle.tm_meaning.specs.Runs.{done_by, leaving, macro_body, macro_run}
use Rattle.tm_meaning.specs.Meaning.{Run, Outcome}
use Rattle.tm_meaning.specs.Runs.{new_run, at_end, failed, nests_of, rendered, stream_run, restarting, run_of}
use Rattle.tm_meaning.specs.Inheritance.{names_left}
use Rattle.tm_meaning.specs.Machine.{new_capture, recursion, Finished}
use Rattle.tm_meaning.specs.Machine.{Over, Program, base_of, run_from, run_of_macro, onto, restarted}
use Rattle.tm_meaning.specs.Steps.{act, begun, finish, parent_next, return_of, step, Final, Leads, over as is_over}
use Rattle.tm_meaning.specs.Steps.{restart as restarts}
use Rattle.tm_simulation.specs.Kept.{in_closure_too}
use Rattle.tm_simulation.specs.Reached.{HasLevels}
use Rattle.tm_syntax.proofs.Standing.{At, beyond_is, stands_whole}
use Rattle.tm_syntax.specs.Loops.{Numbers, first_numbers, stream_loops, loop_places, pasts, FoundMacro, stream_macros}
use Rattle.tm_values.specs.Val.{Val}
use Rattle.tm_syntax.specs.Entries.{entries}
use Rattle.tm_values.specs.declared.error.ErrorKind.TheVariants.{InvalidOperation}
use Rattle.tm_simulation.proofs.Entries.{Counts, counts_whole, entries_are}
use Rattle.tm_simulation.proofs.Begins.{Both, Paired, paired_at, IsAt, IsEntered, Begins, none_begin, body_code}
use Rattle.tm_simulation.proofs.Begins.{Stands as BodyStands}
use Rattle.tm_simulation.proofs.Declares.{take_parameters_give}
use Rattle.tm_simulation.proofs.Macros.{parameters_run}
use Rattle.tm_simulation.proofs.TreeLoops.{expr_loopless, statements_begin}
use Rattle.tm_simulation.proofs.Advances.{Kept, kept_frames, kept_depth, kept_then}
use Rattle.tm_simulation.proofs.RunAdvances.{in_stream}
use Rattle.tm_simulation.proofs.Advances.{within}
use Rattle.tm_simulation.proofs.Gives.{EndingKeeps, Gives, ends_as, ends_parents, parents_left, parents_last, tick_gives}
use Rattle.tm_simulation.proofs.Executes.{execs_end, body_ends}
use Rattle.tm_simulation.proofs.Keeps.{again_end, nests_end}
use Rattle.tm_simulation.proofs.Follow.{RunContext, LeadsToEnd, follows_map_kept}
use Rattle.tm_simulation.proofs.Follow.{Bed, air, inside, captures_of, told_by, Spot, told, cfg}
use Rattle.tm_simulation.proofs.Follow.{later, Follows, Then, Ends, whole_of}
use Rattle.tm_simulation.proofs.Follow.{use_then, Go, silent, at, after_then, move}
use Rattle.tm_simulation.proofs.Forms.{Fits, Stands, end_of, Entered}
use Rattle.tm_meaning.specs.declared.stream.TemplateId.{TemplateId}
use Rattle.tm_meaning.specs.declared.stream.StreamId.{StreamId}
use Rattle.tm_meaning.specs.declared.base.Base.{Base}
use Rattle.tm_simulation.proofs.Levels.{AllNested, CalledAsValue, CalledInPlace, DeepIn, Setting, deep_kept, here, none_left}
use Rattle.tm_simulation.proofs.Levels.{same_captures}
use Rattle.tm_simulation.proofs.Evaluates.{eval_gives}
use Rattle.tm_simulation.proofs.Expressions.{expr_runs}
use Rattle.tm_simulation.proofs.Statements.{stmts_run}
use Rattle.tm_simulation.proofs.Recursion.{recursed_as_value, recursed_in_place, text_ends}

-- ---------------------------------------------------------------- streams
-- where a stream's run stands
abbrev spot_of : StreamId → Bed → List ℕ → Spot
spot_of id b out = record { run = run_from id (length (captures_of b out)); parent = None; bed = b; out = out }

fits_start : (b : Bed) (out : List ℕ) (heard : Bool) (w : World) → Fits (base_of heard (captures_of b out) w) (new_run heard w) b
fits_start air out heard w = (refl, refl, refl)
fits_start (inside x t ks) out heard w = inl (refl, refl, refl)

stands_start : (id : StreamId) (b : Bed) (out : List ℕ) (heard : Bool) (w : World) →
    Stands (base_of heard (captures_of b out) w) (new_run heard w) (spot_of id b out)
stands_start id b out heard w = (refl, omega arith, fits_start b out heard w)

-- the code of a stream before it has its cache numbers
abbrev pub unnumbered_of : StreamTree → List Instruction
unnumbered_of tree = assembled (fragment_of tree)

-- Each stream of the program is this code of its tree.
abbrev pub IsUnnumbered : Trees → Program → Type 0
IsUnnumbered trees p = (s : StreamId) → p.code s ≡ unnumbered_of (trees s)

-- the numbers after a stream's tree
abbrev numbers_after : StreamTree → Numbers
numbers_after (statements body) = pasts first_numbers body.row
numbers_after (expression e) = first_numbers

-- a stream's code begins the loops and macros of its tree
pub tree_begins : (tree : StreamTree) →
    Begins first_numbers (fragment_of tree) (stream_loops tree) (stream_macros tree) (numbers_after tree)
tree_begins (statements body) = statements_begin [] first_numbers body.row
tree_begins (expression e) = none_begin first_numbers (expr_code e) (expr_loopless e)

module _ (p : Program) (trees : Trees) (compiled : IsUnnumbered trees p) where
  abbrev in_program : Base → Final → RunContext
  in_program f end = record { program = p; base = f; final = end }

  -- a run from its start, up to an end
  abbrev running : Bool → Bed → List ℕ → World → Final → RunContext
  running heard b out w end = in_program (base_of heard (captures_of b out) w) end

  -- What a run comes to at its end, where this parent waits: no more may be asked for than at its start, and what follows is its end.
  abbrev Ended : RunContext → Bed → World → (Outcome → Outcome) → Then
  Ended context b w close q x v = (parents_left p.host q v ≤ parents_left p.host None w) ×
      (context.final ≡ end_of b (close (whole_of (done []) q x v)))

  -- where a loop that isn't there is left, or goes on
  abbrev Stops : RunContext → Bed → World → (Outcome → Outcome) → Then
  Stops context b w close q x v = Follows context (told_by b x) (tick v) (λ _ world1. Ended context b w close q x world1)

  -- At this place the run is over, with all closed that it opened.
  abbrev IsOver : RunContext → Spot → World → (Outcome → Outcome) → ℕ → Type 0
  IsOver context s w close stop =
      (q : Option TemplateId) (x : List ℕ) (v : World) → Kept w v → Ended context s.bed w close q x v →
      Go context (later s q x) stop [] v

  -- What follows a stream: the run of a parent that waits, after this text and in this world.
  abbrev Restarted : Type 0
  Restarted = TemplateId → List ℕ → World → Outcome

  abbrev and_parent : Restarted → Outcome → Outcome
  and_parent f o = restarting o.ending o (λ t. f t o.text o.world)

  -- it is what the machine restarts in
  abbrev Restarts : StreamId → Bool → Bed → List ℕ → World → Restarted → Type 0
  Restarts id heard b out w f =
      (t : TemplateId) (x : List ℕ) (v : World) → Kept w v → parents_left p.host (Some t) v ≤ parents_left p.host None w →
      let g = base_of heard (captures_of b out) w in
      let c = cfg (later (spot_of id b out) (Some t) x) (length (p.code id)) [] v in
      Leads p g (told_by b x) (step p g (restarted t c)) (end_of b (f t x v))

  -- after the last instruction
  finishes_by : (id : StreamId) (heard : Bool) (b : Bed) (out : List ℕ) (w : World) (f : Restarted) → Restarts id heard b out w f →
      (end : Final) (q : Option TemplateId) (x : List ℕ) (v : World) → Kept w v →
      let context = running heard b out w end in
      Ended context b w (and_parent f) q x v →
      LeadsToEnd context (told_by b x) (parent_next q (cfg (later (spot_of id b out) q x) (length (p.code id)) [] v))
  finishes_by id heard b out w f again end None x v k e = is_over refl e.1
  finishes_by id heard b out w f again end (Some t) x v k e =
      let g = base_of heard (captures_of b out) w in
      let c = cfg (later (spot_of id b out) (Some t) x) (length (p.code id)) [] v in
      restarts refl (subst (λ o. Leads p g (told_by b x) (step p g (restarted t c)) o) (sym e.1) (again t x v k e.0))

  -- with all closed that the run opened, whatever operands are left
  finish_is : (id : StreamId) (heard : Bool) (b : Bed) (out : List ℕ) (w : World) (q : Option TemplateId) (x : List ℕ) (vs : List Val)
      (v : World) → Kept w v →
      let c = cfg (later (spot_of id b out) q x) (length (p.code id)) vs v in
      step p (base_of heard (captures_of b out) w) c ≡ parent_next q c
  finish_is id heard b out w q x vs v k =
      let g = base_of heard (captures_of b out) w in
      let c = cfg (later (spot_of id b out) q x) (length (p.code id)) vs v in
      let past : slice_get (p.code id) (length (p.code id)) ≡ None = slice_get_past (p.code id) (length (p.code id)) (omega arith) in
      let place : nat_eq (length (p.code id)) (length (p.code id)) ≡ true = eq-eqb (length (p.code id)) (length (p.code id)) refl in
      let captures : nat_eq (length (captures_of b out)) (length (captures_of b x)) ≡ true = eq-eqb _ _ (same_captures b out x) in
      let scopes : nat_eq (length w.scopes.frames) (length v.scopes.frames) ≡ true = eq-eqb (length w.scopes.frames)
      (length v.scopes.frames) (sym (kept_frames k)) in
      let ends : finish (length (p.code id)) g c ≡ parent_next q c = rw (place, captures, scopes) refl in
      ap (λ o. act p g o c) past ∙ ends

  finishes : (id : StreamId) (heard : Bool) (b : Bed) (out : List ℕ) (w : World) (f : Restarted) → Restarts id heard b out w f →
      (end : Final) → IsOver (running heard b out w end) (spot_of id b out) w (and_parent f) (length (p.code id))
  finishes id heard b out w f again end q x v k e =
      subst (λ n. LeadsToEnd (running heard b out w end) (told_by b x) n) (sym (finish_is id heard b out w q x [] v k))
      (finishes_by id heard b out w f again end q x v k e)

  -- and at a macro's return, whatever parent waits
  returns : (id : StreamId) (heard : Bool) (b : Bed) (out : List ℕ) (w : World) (end : Final) (stop : ℕ) →
      slice_get (p.code id) stop ≡ Some i.Return → IsOver (running heard b out w end) (spot_of id b out) w (λ o. o) stop
  returns id heard b out w end stop there q x v k e =
      let f = base_of heard (captures_of b out) w in
      let s = later (spot_of id b out) q x in
      let captures : nat_eq (length (captures_of b out)) (length (captures_of b x)) ≡ true = eq-eqb _ _ (same_captures b out x) in
      let scopes : nat_eq (length w.scopes.frames) (length v.scopes.frames) ≡ true = eq-eqb (length w.scopes.frames)
      (length v.scopes.frames) (sym (kept_frames k)) in
      let ends : return_of f (cfg s stop [] v) ≡ Over (Finished [] (captures_of b x) v) = rw (captures, scopes) refl in
      at (running heard b out w end) i.Return s stop [] v there (is_over ends e.1)

  -- what closes a run leaves its fault as it is
  abbrev LeavesFaults : (Outcome → Outcome) → Type 0
  LeavesFaults close =
      (chain : List ErrorKind) (q : Option TemplateId) (x : List ℕ) (v : World) →
      close (whole_of (fault chain) q x v) ≡ whole_of (fault chain) q x v

  stopped_by : (context : RunContext) (b : Bed) (w : World) (close : Outcome → Outcome) → LeavesFaults close → (q : Option TemplateId)
      (x : List ℕ) (v : World) (e : Ending) (m : Res (Unit {0})) → Gives p.host v m →
      parents_left p.host q v ≤ parents_left p.host None w →
      context.final ≡ end_of b (close (done_by m (whole_of e q x v))) →
      Follows context (told_by b x) m (λ _ world1. Ended context b w close q x world1)
  stopped_by context b w close plain q x v e (Good _ world1) k left is = (omega (arith, left, parents_last p.host q k.lasts), is)
  stopped_by context b w close plain q x v e (Bad chain world1) k left is = is ∙ ap (end_of b) (plain chain q x world1)

  -- What a run's statements come to is its end, where that is at this place.
  end_then : (context : RunContext) (s : Spot) (w : World) (close : Outcome → Outcome) → LeavesFaults close → (stop : ℕ) (e : Ending)
      (q : Option TemplateId) (x : List ℕ) (v : World) → EndingKeeps p.host w e v →
      parents_left p.host q v ≤ parents_left p.host None w → context.final ≡ end_of s.bed (close (at_end e (whole_of e q x v))) →
      IsOver context s w close stop → Ends context s.bed (whole_of e q x v) (λ q1 x1 v1. Go context (later s q1 x1) stop [] v1)
      (Stops context s.bed w close) (Stops context s.bed w close)
  unfolding Ends
  end_then context s w close plain stop (done vs) q x v k left is z = z q x v k (left, is)
  end_then context s w close plain stop leave q x v k left is z =
      stopped_by context s.bed w close plain q x v leave (tick v) (tick_gives _ p.host v) left is
  end_then context s w close plain stop next q x v k left is z =
      stopped_by context s.bed w close plain q x v next (tick v) (tick_gives _ p.host v) left is
  end_then context s w close plain stop (fault chain) q x v k left is z = is ∙ ap (end_of s.bed) (plain chain q x v)

  -- a loop that isn't there is left, or goes on, by a jump to where the run is over
  stops_then : (context : RunContext) (s : Spot) (w : World) (close : Outcome → Outcome) (stop : ℕ) → IsOver context s w close stop →
      (q : Option TemplateId) (x : List ℕ) (v : World) (pc : ℕ) → Kept w v →
      slice_get (context.program.code s.run.stream) pc ≡ Some (i.Jump stop) → Stops context s.bed w close q x v →
      Go context (later s q x) pc [] v
  stops_then context s w close stop z q x v pc kept is l =
      at context (i.Jump stop) (later s q x) pc [] v is (after_then context (told_by s.bed x) (tick v) _
      (follows_map_kept context (told_by s.bed x) v (tick v) _ _ (tick_gives _ _ v) l (λ _ v1 k1 e.
      silent context (told_by s.bed x) _ (z q x v1 (kept_then kept k1) e))))

  -- the code of a stream, and that it stands there
  abbrev code_at : StreamId → Fragment
  code_at id = fragment_of (trees id)

  coded : (id : StreamId) → p.code id ≡ assembled (code_at id)
  coded id = compiled id

  stands_at : (id : StreamId) → At (p.code id) (whole_labels (code_at id)) 0 (code_at id)
  stands_at id = subst (λ c. At c (whole_labels (code_at id)) 0 (code_at id)) (sym (coded id)) (stands_whole (code_at id))

  counts_at : (id : StreamId) → Counts (p.code id) first_numbers 0 (code_at id)
  counts_at id =
      subst (λ c. Counts c first_numbers 0 (code_at id)) (sym (coded id)) (counts_whole (code_at id) (tree_begins (trees id)).plain_code)

  -- the loops of a stream stand in its code
  all_match : (id : StreamId) (m : ℕ) →
      Both (IsAt (p.code id)) (slice_get (stream_loops (trees id)) m) (slice_get (loop_places 0 (p.code id)) m)
  all_match id m =
      paired_at (IsAt (p.code id)) _ _ m
      (subst (λ c. Paired (IsAt (p.code id)) (stream_loops (trees id)) (loop_places 0 c)) (sym (coded id))
      ((tree_begins (trees id)).found (p.code id) (whole_labels (code_at id)) 0 (stands_at id) (counts_at id)))

  -- and so do its macros
  all_entered : (id : StreamId) (m : ℕ) →
      Both (IsEntered (p.code id)) (slice_get (stream_macros (trees id)) m) (slice_get (entries (p.code id)) m)
  all_entered id m =
      paired_at (IsEntered (p.code id)) _ _ m
      (subst (λ es. Paired (IsEntered (p.code id)) (stream_macros (trees id)) es)
      (sym (ap entries (coded id) ∙ entries_are (code_at id) (tree_begins (trees id)).plain_code))
      ((tree_begins (trees id)).declared (p.code id) (whole_labels (code_at id)) 0 (stands_at id) (counts_at id)))

  -- Loops that are called come after their calls. Level zero isn't reached: each call opens a scope within the limit, and there is one
  -- level more than the limit.
  again_runs : (f : Base) (end : Final) (n : ℕ) →
      AllNested p trees n →
      (id : StreamId) (level : ℕ) → CalledInPlace (in_program f end) n id level
      (again_of p.host (nests_of p.host trees n) (trees id) level) × CalledAsValue (in_program f end) n id level
      (again_of p.host (nests_of p.host trees n) (trees id) level)
  again_runs f end n below id zero = (
    λ m items run s pc stack old w0 w D L N d h g. absurd (none_left (in_program f end) n w d.0),
    λ m items run s pc stack old w0 w K d h g. absurd (none_left (in_program f end) n w d.0),
  )
  again_runs f end n below id (suc level) =
      let context = in_program f end in
      let lower = again_runs f end n below id level in
      let nests = nests_of p.host trees n in
      let inner = again_of p.host nests (trees id) level in
      let kept = again_end {i = in_closure_too} p.host nests (nests_end p.host trees n) (trees id) level in
      let setting : Setting = record {
        context = context;
        trees = trees;
        n = n;
        entered = below;
        id = id;
        level = level;
        again = inner;
        again_kept = kept;
        called_in_place = lower.0;
        called_as_value = lower.1;
      } in (
        λ m items run s pc stack old w0 w D L N d h g.
            subst (λ q. LeadsToEnd context (told s) (recursion p (cfg s pc old w0) false stack (captures_of s.bed s.out) m
            (slice_get (loop_places 0 (p.code q)) m) items w)) (sym d.2)
            (recursed_in_place setting (slice_get (stream_loops (trees id)) m) (slice_get (loop_places 0 (p.code id)) m)
            (all_match id m) m items run s pc stack old w0 w D L N d h g),
        λ m items run s pc stack old w0 w K d h g.
            let o = again_of p.host nests (trees id) (suc level) m items (capturing true run) [] w in
            subst (λ q. LeadsToEnd context (told s) (recursion p (cfg s pc old w0) true stack (new_capture true ∷ captures_of s.bed s.out) m
            (slice_get (loop_places 0 (p.code q)) m) items w)) (sym d.2)
            (recursed_as_value setting (slice_get (stream_loops (trees id)) m) (slice_get (loop_places 0 (p.code id)) m)
            (all_match id m) m items run s pc stack old w0 w
            (λ q out1 x. K (captured_text out1 x) x) d (text_ends setting s o.ending o.parent o.text o.world K h)
            (λ q out1 x e. g (captured_text out1 x) x e)),
      )

  -- What the code of a stream stands under, up to an end of the run.
  abbrev setting_of : (n : ℕ) (id : StreamId) (f : Base) (end : Final) → AllNested p trees n → Setting
  setting_of n id f end below =
      let calls = again_runs f end n below id (p.host.limit + 1) in
      record {
        context = in_program f end;
        trees = trees;
        n = n;
        entered = below;
        id = id;
        level = p.host.limit + 1;
        again = again_of p.host (nests_of p.host trees n) (trees id) (p.host.limit + 1);
        again_kept = again_end p.host (nests_of p.host trees n) (nests_end p.host trees n) (trees id) (p.host.limit + 1);
        called_in_place = calls.0;
        called_as_value = calls.1;
      }

  deep_at : (n : ℕ) (id : StreamId) (heard : Bool) (b : Bed) (out : List ℕ) (w : World) (end : Final) → HasLevels p.host (suc n) w →
      DeepIn (running heard b out w end) n id (p.host.limit + 1) (new_run heard w) (spot_of id b out) w
  deep_at n id heard b out w end deep = (
    record { nests = deep; scopes = omega arith; calls = omega arith; within_call = λ called. absurd (omega (arith, called)) },
    stands_start id b out heard w,
    refl,
  )

  -- A stream's run comes to what its tree means, and then to what the parent's run is that waits, where what nests does so a level below.
  abbrev StreamRuns : ℕ → StreamId → Bool → Bed → List ℕ → World → Restarted → StreamTree → Type 0
  StreamRuns n id heard b out w f tree =
      let u = under p.host (nests_of p.host trees n) (trees id) in
      Entered p (whole id) heard b out w (and_parent f (stream_run u tree (new_run heard w) out w))

  -- where its code stands, and how long that is
  abbrev StandsAs : StreamId → Fragment → Type 0
  StandsAs id c = At (p.code id) (whole_labels c) 0 c × Counts (p.code id) first_numbers 0 c × (beyond 0 c ≡ length (p.code id))

  stands_as : (id : StreamId) → StandsAs id (code_at id)
  stands_as id =
      let c = code_at id in (
        stands_at id,
        counts_at id,
        beyond_is (whole_labels c) 0 c ∙ ap (λ is. 0 + length is) (sym (coded id)) ∙ omega arith,
      )

  statements_run : (n : ℕ) (id : StreamId) (heard : Bool) (b : Bed) (out : List ℕ) (w : World) → HasLevels p.host (suc n) w →
      AllNested p trees n → (f : Restarted) → Restarts id heard b out w f → (body : Body) → StandsAs id (statements_code [] body.row) →
      StreamRuns n id heard b out w f (statements body)
  statements_run n id heard b out w deep below f again body there =
      let nests = nests_of p.host trees n in
      let kept_again = again_end {i = in_closure_too} p.host nests (nests_end p.host trees n) (trees id) (p.host.limit + 1) in
      let u : Under = under p.host nests (trees id) in
      let row = body.row in
      let o = exec_all u first_numbers row (new_run heard w) out w in
      let end = end_of b (and_parent f (at_end o.ending o)) in
      let context = running heard b out w end in
      let s = spot_of id b out in
      let c = statements_code [] row in
      let stop = beyond 0 c in
      let size : stop ≡ length (p.code id) = there.2 in
      let is_over_there : IsOver context s w (and_parent f) stop =
      λ q x v k e. move context (later s q x) stop (length (p.code id)) [] v size (finishes id heard b out w f again end q x v k e) in
      let keeps = execs_end u (nests_end p.host trees n) kept_again first_numbers row (new_run heard w) out w in
      let ends = end_then context s w (and_parent f) (λ chain q x v. refl) stop o.ending o.parent o.text o.world (ends_as _ w o keeps)
      (ends_parents _ w o keeps) refl is_over_there in
      stmts_run (setting_of n id (base_of heard (captures_of b out) w) end below) [] first_numbers (whole_labels c) row (new_run heard w) s
      0 [] w (Stops context b w (and_parent f)) (Stops context b w (and_parent f)) (stands_start id b out heard w)
      (deep_at n id heard b out w end deep) (
        λ q x v pc k none is e. stops_then context s w (and_parent f) stop is_over_there q x v pc k is e,
        λ q x v pc k none is e. stops_then context s w (and_parent f) stop is_over_there q x v pc k is e,
      )
      there.0 there.1 ends

  -- A value that is left is the end of its run, where no parent waits.
  value_ends : (id : StreamId) (heard : Bool) (b : Bed) (out : List ℕ) (w : World) (f : Restarted) (end : Final) (m : Res Val) →
      Gives p.host w m →
      end ≡ end_of b (and_parent f (leaving m (new_run heard w) out)) →
      (stop : ℕ) → stop ≡ length (p.code id) →
      let context = running heard b out w end in
      Follows context (told_by b out) m (λ v world1. Go context (spot_of id b out) stop (v ∷ []) world1)
  value_ends id heard b out w f end (Good v world1) kept is stop size =
      let context = running heard b out w end in
      let s = spot_of id b out in
      move context s stop (length (p.code id)) (v ∷ []) world1 size
      (subst (λ n. LeadsToEnd context (told_by b out) n) (sym (finish_is id heard b out w None out (v ∷ []) world1 kept))
      (is_over refl is))
  value_ends id heard b out w f end (Bad chain world1) kept is stop size = is

  expression_runs : (n : ℕ) (id : StreamId) (heard : Bool) (b : Bed) (out : List ℕ) (w : World) → HasLevels p.host (suc n) w →
      AllNested p trees n → (f : Restarted) → (e : Expr) → StandsAs id (expr_code e) → StreamRuns n id heard b out w f (expression e)
  expression_runs n id heard b out w deep below f e there =
      let nests = nests_of p.host trees n in
      let nest_ends = nests_end p.host trees n in
      let kept_again = again_end {i = in_closure_too} p.host nests nest_ends (trees id) (p.host.limit + 1) in
      let u : Under = under p.host nests (trees id) in
      let run = new_run heard w in
      let m = eval u run e w in
      let end = end_of b (and_parent f (leaving m run out)) in
      let context = running heard b out w end in
      let s = spot_of id b out in
      let c = expr_code e in
      let setting = setting_of n id (base_of heard (captures_of b out) w) end below in
      expr_runs setting e run s (whole_labels c) 0 [] w (here setting run s w (deep_at n id heard b out w end deep)) there.0
      (value_ends id heard b out w f end m (eval_gives u nest_ends kept_again run e w) refl (beyond 0 c) there.2)

  tree_runs : (n : ℕ) (id : StreamId) (heard : Bool) (b : Bed) (out : List ℕ) (w : World) → HasLevels p.host (suc n) w →
      AllNested p trees n → (f : Restarted) → Restarts id heard b out w f → (tree : StreamTree) → StandsAs id (fragment_of tree) →
      StreamRuns n id heard b out w f tree
  tree_runs n id heard b out w deep below f again (statements body) there = statements_run n id heard b out w deep below f again body there
  tree_runs n id heard b out w deep below f again (expression e) there = expression_runs n id heard b out w deep below f e there

  stream_runs : (n : ℕ) (id : StreamId) (heard : Bool) (b : Bed) (out : List ℕ) (w : World) → HasLevels p.host (suc n) w →
      AllNested p trees n → (f : Restarted) → Restarts id heard b out w f → StreamRuns n id heard b out w f (trees id)
  stream_runs n id heard b out w deep below f again = tree_runs n id heard b out w deep below f again (trees id) (stands_as id)

  -- where a run restarts it stands on what it stood on before, and begins as it did
  same_base : (heard : Bool) (b : Bed) (out x : List ℕ) {w v : World} (s : StreamId) → Kept w v →
      base_of heard (captures_of b x) (in_stream s v) ≡ base_of heard (captures_of b out) w
  same_base heard b out x s k = rw (same_captures b x out, kept_frames k, k.same_escape) refl

  same_run : (heard : Bool) {w v : World} (s : StreamId) → Kept w v → new_run heard (in_stream s v) ≡ new_run heard w
  same_run heard s k = ap (λ (e : AutoEscape). record { first = e; heard = heard; inside = false; parent = None }) k.same_escape

  -- what the parent's run comes to is what the restart comes to
  restarts_as : (id : StreamId) (heard : Bool) (b : Bed) (out x : List ℕ) (w v : World) (t : TemplateId) → Kept w v →
      (meant : Run → Outcome) →
      Entered p (whole (root_of t)) heard b x (in_stream (root_of t) v) (meant (new_run heard (in_stream (root_of t) v))) →
      let g = base_of heard (captures_of b out) w in
      let c = cfg (later (spot_of id b out) (Some t) x) (length (p.code id)) [] v in
      Leads p g (told_by b x) (step p g (restarted t c)) (end_of b (meant (new_run heard w)))
  restarts_as id heard b out x w v t k meant h =
      let s = root_of t in
      let there : Base → ℕ → Run → Type 0 = λ g floor run.
      Leads p g (told_by b x) (step p g (record { run = run_from s floor; captures = captures_of b x; world = in_stream s v }))
      (end_of b (meant run)) in
      let g = base_of heard (captures_of b out) w in
      let floor = length (captures_of b x) in
      let one : there g floor (new_run heard (in_stream s v)) =
      subst (λ f. there f floor (new_run heard (in_stream s v))) (same_base heard b out x s k) h in
      let two : there g floor (new_run heard w) = subst (λ run. there g floor run) (same_run heard s k) one in
      subst (λ m. there g m (new_run heard w)) (same_captures b x out) two

  -- A stream and its parents, where no more names are left than so many: each parent's was not loaded before.
  pub chain_runs : (n : ℕ) → AllNested p trees n → (m : ℕ) (id : StreamId) (heard : Bool) (b : Bed) (out : List ℕ) (w : World) →
      HasLevels p.host (suc n) w → names_left p.host w ≤ m →
      Entered p (whole id) heard b out w (run_of p.host (nests_of p.host trees n) trees m id (new_run heard w) out w)
  chain_runs n below zero id heard b out w deep left =
      stream_runs n id heard b out w deep below (λ t x v. failed InvalidOperation (new_run heard w) x v) (λ t x v k few.
      absurd (omega (arith, few, left)))
  chain_runs n below (suc m) id heard b out w deep left =
      let nests = nests_of p.host trees n in
      stream_runs n id heard b out w deep below
      (λ t x v. run_of p.host nests trees m (root_of t) (new_run heard w) x (in_stream (root_of t) v)) (λ t x v k few.
      let v1 = in_stream (root_of t) v in
      restarts_as id heard b out x w v t k (λ run. run_of p.host nests trees m (root_of t) run x v1)
      (chain_runs n below m (root_of t) heard b x v1 (omega (arith, deep, kept_depth k)) (omega (arith, few, left))))

  -- So does the run of a macro that is there, over as many arguments as it takes.
  body_runs : (n : ℕ) (id : StreamId) (m : FoundMacro) (place : ℕ) → BodyStands (p.code id) m place → (given : List Val) →
      length m.parameters ≡ length given → (heard : Bool) (b : Bed) (out : List ℕ) (w : World) → HasLevels p.host (suc n) w →
      AllNested p trees n →
      let f = base_of heard (captures_of b out) w in
      let o = macro_body (under p.host (nests_of p.host trees n) (trees id)) m given (new_run heard w) out w in
      Leads p f (told_by b out) (step p f (cfg (spot_of id b out) place (onto given []) w)) (end_of b (at_end o.ending o))
  body_runs n id m place there given many heard b out w deep below =
      let nests = nests_of p.host trees n in
      let nest_ends = nests_end p.host trees n in
      let kept_again = again_end {i = in_closure_too} p.host nests nest_ends (trees id) (p.host.limit + 1) in
      let u : Under = under p.host nests (trees id) in
      let run = new_run heard w in
      let o = macro_body u m given run out w in
      let end = end_of b (at_end o.ending o) in
      let f = base_of heard (captures_of b out) w in
      let context = running heard b out w end in
      let s = spot_of id b out in
      let stop = beyond place (body_code m) in
      let start = beyond place (parameters_code m.parameters) in
      let l = ending_at stop in
      let setting = setting_of n id f end below in
      let deep_here = deep_at n id heard b out w end deep in
      let close : Outcome → Outcome = λ o1. o1 in
      let is_over_there = returns id heard b out w end stop there.exit in
      let keeps = body_ends u nest_ends kept_again m given run out w in
      let ends = end_then context s w close (λ chain q x v. refl) stop o.ending o.parent o.text o.world (ends_as _ w o keeps)
      (ends_parents _ w o keeps) refl is_over_there in
      parameters_run setting m.parameters given run s l place [] w many (here setting run s w deep_here) there.code.0
      (use_then context b w (take_parameters u run m.parameters given w) run out (λ _ v. exec_all u m.at m.body.row run out v)
      (λ q x v. Go context (later s q x) stop [] v) (Stops context b w close) (Stops context b w close) _
      (take_parameters_give u nest_ends kept_again run m.parameters given w) ends (λ _ v k h.
      stmts_run setting [] m.at l m.body.row run s start [] v (Stops context b w close) (Stops context b w close)
      (stands_start id b out heard w) (deep_kept setting run s k deep_here) (
        λ q x v1 pc k1 none is e. stops_then context s w close stop is_over_there q x v1 pc (kept_then k k1) is e,
        λ q x v1 pc k1 none is e. stops_then context s w close stop is_over_there q x v1 pc (kept_then k k1) is e,
      )
      there.code.1 there.numbered h))

  counted_runs : (n : ℕ) (id : StreamId) (m : FoundMacro) (place count : ℕ) → count ≡ length m.parameters →
      BodyStands (p.code id) m place → (given : List Val) (heard : Bool) (b : Bed) (out : List ℕ) (w : World) →
      HasLevels p.host (suc n) w → AllNested p trees n → (many : Bool) → nat_eq (length m.parameters) (length given) ≡ many →
      let f = base_of heard (captures_of b out) w in
      let o = macro_body (under p.host (nests_of p.host trees n) (trees id)) m given (new_run heard w) out w in
      Leads p f (told_by b out)
      (begun p f (choose many (λ _. Some (record (run_from id (length (captures_of b out))) { place = place; operands = onto given [] }))
      (λ _. None)) (captures_of b out) w)
      (end_of b (choose many (λ _. at_end o.ending o) (λ _. failed InvalidOperation (new_run heard w) out w)))
  counted_runs n id m place count same there given heard b out w deep below false e = is_over refl refl
  counted_runs n id m place count same there given heard b out w deep below true e =
      body_runs n id m place there given (eqb-true (length m.parameters) (length given) e) heard b out w deep below

  macro_runs : (n : ℕ) (id : StreamId) (om : Option FoundMacro) (oe : Option (ℕ × ℕ)) → Both (IsEntered (p.code id)) om oe →
      (given : List Val) (heard : Bool) (b : Bed) (out : List ℕ) (w : World) → HasLevels p.host (suc n) w → AllNested p trees n →
      let f = base_of heard (captures_of b out) w in
      Leads p f (told_by b out)
      (begun p f (option_and_then (run_of_macro id given (length (captures_of b out))) oe) (captures_of b out) w)
      (end_of b (macro_run (under p.host (nests_of p.host trees n) (trees id)) om given (new_run heard w) out w))
  macro_runs n id None None both given heard b out w deep below = is_over refl refl
  macro_runs n id None (Some e) both given heard b out w deep below = absurd both
  macro_runs n id (Some m) None both given heard b out w deep below = absurd both
  macro_runs n id (Some m) (Some e) both given heard b out w deep below =
      let f = base_of heard (captures_of b out) w in
      subst (λ k. Leads p f (told_by b out)
      (begun p f (choose (nat_eq k (length given))
      (λ _. Some (record (run_from id (length (captures_of b out))) { place = e.0; operands = onto given [] })) (λ _. None))
      (captures_of b out) w)
      (end_of b (macro_run (under p.host (nests_of p.host trees n) (trees id)) (Some m) given (new_run heard w) out w))) (sym both.0)
      (counted_runs n id m e.0 e.1 both.0 both.1 given heard b out w deep below (nat_eq (length m.parameters) (length given)) refl)

  -- What nests comes to what it means. Level zero isn't reached, since a run stands one level deeper than the one that needs it, within the
  -- limit.
  pub nests_run : (n : ℕ) → AllNested p trees n
  nests_run zero k heard b out w deep within = absurd (omega (arith, deep, within))
  nests_run (suc n) (macro_of id m given) heard b out w deep within =
      macro_runs n id (slice_get (stream_macros (trees id)) m) (slice_get (entries (p.code id)) m) (all_entered id m) given
      heard b out w deep (nests_run n)
  nests_run (suc n) (whole id) heard b out w deep within =
      chain_runs n (nests_run n) (names_left p.host w) id heard b out w deep (omega arith)

  -- And so does any run that has levels enough, from any world, heard or not.
  pub level_runs : (n : ℕ) (k : Callee) (heard : Bool) (b : Bed) (out : List ℕ) (w : World) → HasLevels p.host (suc n) w →
      Entered p k heard b out w (nests_of p.host trees (suc n) k heard out w)
  level_runs n (macro_of id m given) heard b out w deep =
      macro_runs n id (slice_get (stream_macros (trees id)) m) (slice_get (entries (p.code id)) m) (all_entered id m) given
      heard b out w deep (nests_run n)
  level_runs n (whole id) heard b out w deep =
      chain_runs n (nests_run n) (names_left p.host w) id heard b out w deep (omega arith)

  -- A render's run comes to what its trees mean.
  pub unnumbered_render : (b : Bed) (w : World) → Entered p (whole w.stream) true b [] w (rendered p.host trees w)
  unnumbered_render b w =
      let e : suc p.host.limit ≡ p.host.limit + 1 = omega arith in
      subst (λ n. Entered p (whole w.stream) true b [] w (nests_of p.host trees n (whole w.stream) true [] w)) e
      (level_runs p.host.limit (whole w.stream) true b [] w (omega arith))
