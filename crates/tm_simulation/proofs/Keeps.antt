-- What runs keep, and of which kinds their faults are.
use Rattle.std.proofs.Common.{ℕ, zero, suc, ◌+◌, ◌≤◌, ◌⊎◌, inl, inr, ◌∙◌, arith, List, [], ◌∷◌, Option, Some, None, Bool, true, false, ◌≡◌, refl, sym, subst, length}
use Rattle.std.specs.Prelude.{slice_get, ◌&&◌, nat_eq}
use Rattle.tm_values.specs.Val.{Val, undefined}
use Rattle.tm_values.specs.declared.error.ErrorKind.{ErrorKind}
use Rattle.tm_values.specs.declared.error.ErrorKind.TheVariants.{InvalidOperation}
use Rattle.tm_syntax.specs.Loops.{first_numbers, stream_loops, FoundMacro, stream_macros}
use Rattle.tm_meaning.specs.Tree.{StreamTree, statements, expression, Trees}
use Rattle.tm_meaning.specs.World.{choose, root_of, World, HostValue, Scope, Res, Good, Bad, tick, plain_scope, put, owning, own_closure}
use Rattle.tm_meaning.specs.World.{template_at}
use Rattle.tm_meaning.specs.Calls.{Callee, whole, macro_of, NestedCall, block_call, undone, runs, super_call, enter_super, own_blocks}
use Rattle.tm_meaning.specs.Calls.{include_depth, include_call, in_template, enter_include}
use Rattle.tm_meaning.specs.Meaning.{ended, Run, Outcome, Ending, done, leave, next, fault, Nests, Under}
use Rattle.tm_meaning.specs.Runs.{over, under, again_of, done_by}
use Rattle.tm_meaning.specs.Meaning.{after, in_place_of, block_tag, audible, none_waits}
use Rattle.tm_meaning.specs.Runs.{at_end, new_run, nests_of, rendered, chain_in}
use Rattle.tm_meaning.specs.Meaning.{eval, import, import_names}
use Rattle.tm_trees.specs.Trees.{Expr, AssignmentTarget, Imported}
use Rattle.tm_meaning.specs.Runs.{chain_of, macro_body, macro_run, stream_run, restarting, run_of, failed}
use Rattle.tm_meaning.specs.Inheritance.{names_left, place_in}
use Rattle.tm_simulation.specs.Kept.{UnlessFault, Stays, OnlyAdds, EndsThere, PutsBack, GivesBack, LeavesScopes, bare}
use Rattle.tm_simulation.specs.Kept.{Differs, in_names, in_closure_too}
use Rattle.tm_meaning.specs.declared.stream.TemplateId.{TemplateId}
use Rattle.tm_meaning.specs.declared.stream.StreamId.{StreamId}
use Rattle.tm_simulation.specs.Chains.{Arises, IfAny}
use Rattle.tm_simulation.proofs.Advances.{Kept, advances_then, kept_advances, kept_same, kept_then}
use Rattle.tm_simulation.proofs.RunAdvances.{in_stream, undone_scopes, undone_kept, super_undone_scopes}
use Rattle.tm_simulation.proofs.Advances.{own_bare}
use Rattle.tm_simulation.proofs.RunAdvances.{include_undone_but, include_undone_scopes}
use Rattle.tm_simulation.proofs.Parents.{blocks_same}
use Rattle.tm_simulation.proofs.Gives.{GivesBut, Gives, RunEnds, run_ends, run_ends_by, run_ends_from, run_ends_after, run_ends_as}
use Rattle.tm_simulation.proofs.Gives.{ends_advance}
use Rattle.tm_simulation.proofs.Gives.{EndingKeeps, OutcomeKeepsBut, OutcomeKeeps, ends_as, ends_from, ends_parents, parents_left}
use Rattle.tm_simulation.proofs.Gives.{parents_last, refused_arises, tick_gives}
use Rattle.tm_simulation.proofs.Gives.{ends_refused, ends_use, choose_ends}
use Rattle.tm_simulation.proofs.Asks.{in_block, block_asks_by, in_super, super_asks_by, include_asks_by}
use Rattle.tm_simulation.proofs.Evaluates.{eval_gives}
use Rattle.tm_simulation.proofs.Includes.{import_gives, import_names_gives}
use Rattle.tm_simulation.proofs.Executes.{execs_end, called_end, body_ends}

done_by_ends : (host : HostValue) {q : Option TemplateId} (w world1 : World) (m : Res (Unit {0})) (o : Outcome) → Kept w world1 →
    Gives host world1 m → parents_left host o.parent world1 ≤ parents_left host q w → OutcomeKeeps host q w (done_by m o)
done_by_ends host w world1 (Good _ world2) o h k p =
    ends_from host w (record o { ending = done []; world = world2 }) (kept_then h k) (omega (arith, p, parents_last host o.parent k.lasts))
done_by_ends host w world1 (Bad chain world2) o h k p =
    ends_from host w (record o { ending = fault chain; world = world2 }) (advances_then (kept_advances h) k.0, k.1)
    (omega (arith, p, parents_last host o.parent k.0.lasts))

at_end_by : (host : HostValue) {q : Option TemplateId} (w : World) (e : Ending) (parent : Option TemplateId) (out : List ℕ)
    (world1 : World) → EndingKeeps host w e world1 → parents_left host parent world1 ≤ parents_left host q w →
    OutcomeKeeps host q w (at_end e (record { ending = e; parent = parent; text = out; world = world1 }))
at_end_by host w (done vs) parent out world1 h p = ends_from host w _ h p
at_end_by host w leave parent out world1 h p = done_by_ends host w world1 (tick world1) _ h (tick_gives _ host world1) p
at_end_by host w next parent out world1 h p = done_by_ends host w world1 (tick world1) _ h (tick_gives _ host world1) p
at_end_by host w (fault chain) parent out world1 h p = ends_from host w _ h p

at_end_ends : (host : HostValue) {q : Option TemplateId} (w : World) (o : Outcome) → OutcomeKeeps host q w o →
    OutcomeKeeps host q w (at_end o.ending o)
at_end_ends host w o h = at_end_by host w o.ending o.parent o.text o.world (ends_as host w o h) (ends_parents host w o h)

-- in the stream in which it began, or a parent's root after it
there_after : (w v : World) (t : TemplateId) (o : Outcome) → v.stream ≡ w.stream →
    EndsThere v.stream o ⊎ EndsThere (root_of t) o → EndsThere w.stream o
there_after w v t o h (inl (inl e)) = inl (e ∙ h)
there_after w v t o h (inl (inr r)) = inr r
there_after w v t o h (inr (inl e)) = inr (t, e)
there_after w v t o h (inr (inr r)) = inr r

-- Loops that are called end so, where what nests does.
pub again_end : {i : Differs} (host : HostValue) (nests : Nests)
    (nest_ends : (k : Callee) (heard : Bool) (out : List ℕ) (w : World) → RunEnds host w (nests k heard out w))
    (tree : StreamTree) (level n : ℕ) (items : List Val) (run : Run) (out : List ℕ) (w : World) →
    OutcomeKeepsBut i host run.parent w (again_of host nests tree level n items run out w)
again_end host nests nest_ends tree zero n items run out w = ends_refused host w run out InvalidOperation refl
again_end host nests nest_ends tree (suc k) n items run out w =
    called_end (over host nests (again_of host nests tree k)) nest_ends (again_end host nests nest_ends tree k)
    (slice_get (stream_loops tree) n) n items run out w

-- So do the runs of macros, and of streams without their parents.
macro_ends : (u : Under) (nest_ends : (k : Callee) (heard : Bool) (out : List ℕ) (w : World) → RunEnds u.host w (u.nests k heard out w))
    (again_ends : (n : ℕ) (items : List Val) (run : Run) (out : List ℕ) (w : World) →
    OutcomeKeeps u.host run.parent w (u.again n items run out w))
    (m : Option FoundMacro) (given : List Val) (run : Run) (out : List ℕ) (w : World) →
    OutcomeKeeps u.host run.parent w (macro_run u m given run out w)
macro_ends u nest_ends again_ends None given run out w = ends_refused u.host w run out InvalidOperation refl
macro_ends u nest_ends again_ends (Some m) given run out w =
    choose_ends u.host w (nat_eq (length m.parameters) (length given)) _ _
    (at_end_ends u.host w (macro_body u m given run out w) (body_ends u nest_ends again_ends m given run out w))
    (ends_refused u.host w run out InvalidOperation refl)

tree_ends : (u : Under) (nest_ends : (k : Callee) (heard : Bool) (out : List ℕ) (w : World) → RunEnds u.host w (u.nests k heard out w))
    (again_ends : (n : ℕ) (items : List Val) (run : Run) (out : List ℕ) (w : World) →
    OutcomeKeeps u.host run.parent w (u.again n items run out w))
    (tree : StreamTree) (run : Run) (out : List ℕ) (w : World) → OutcomeKeeps u.host run.parent w (stream_run u tree run out w)
tree_ends u nest_ends again_ends (statements body) run out w =
    at_end_ends u.host w _ (execs_end u nest_ends again_ends first_numbers body.row run out w)
tree_ends u nest_ends again_ends (expression e) run out w =
    ends_use u.host w (eval u run e w) run out _ (eval_gives u nest_ends again_ends run e w)
    (λ v world1. ends_from u.host world1 (ended (done (v ∷ [])) run out world1) (kept_same world1) (omega arith))

module _ (host : HostValue) (nests : Nests)
    (nest_ends : (k : Callee) (heard : Bool) (out : List ℕ) (w : World) → RunEnds host w (nests k heard out w)) (trees : Trees) where
  pub stream_ends : (s : StreamId) (run : Run) (out : List ℕ) (w : World) →
      OutcomeKeeps host run.parent w (stream_run (under host nests (trees s)) (trees s) run out w)
  stream_ends s run out w =
      tree_ends (under host nests (trees s)) nest_ends (again_end host nests nest_ends (trees s) (host.limit + 1)) (trees s) run out w

  stream_stays : (s : StreamId) (run : Run) (out : List ℕ) (w : World) →
      (stream_run (under host nests (trees s)) (trees s) run out w).world.stream ≡ w.stream
  stream_stays s run out w =
      let o = stream_run (under host nests (trees s)) (trees s) run out w in
      (ends_advance host w o.ending o.world (ends_as host w o (stream_ends s run out w))).same_stream

  -- A stream and the parents that it asks for keep the world, but for the stream in which they end.
  restart_ends : (w : World) (e : Ending) (parent : Option TemplateId) (out : List ℕ) (v : World) (f : TemplateId → Outcome) →
      EndingKeeps host w e v → ((t : TemplateId) → RunEnds host (in_stream (root_of t) v) (f t)) →
      RunEnds host w (restarting e (record { ending = e; parent = parent; text = out; world = v }) f)
  restart_ends w (fault chain) parent out v f h k = run_ends_by host w _ h
  restart_ends w (done vs) None out v f h k = run_ends_by host w _ h
  restart_ends w leave None out v f h k = run_ends_by host w _ h
  restart_ends w next None out v f h k = run_ends_by host w _ h
  restart_ends w (done vs) (Some t) out v f h k = run_ends_after host w v (root_of t) (f t) h (k t)
  restart_ends w leave (Some t) out v f h k = run_ends_after host w v (root_of t) (f t) h (k t)
  restart_ends w next (Some t) out v f h k = run_ends_after host w v (root_of t) (f t) h (k t)

  pub run_of_ends : (n : ℕ) (s : StreamId) (run : Run) (out : List ℕ) (w : World) → RunEnds host w (run_of host nests trees n s run out w)
  run_of_ends zero s run out w =
      let o = stream_run (under host nests (trees s)) (trees s) run out w in
      restart_ends w o.ending o.parent o.text o.world _ (ends_as host w o (stream_ends s run out w)) (λ t.
      run_ends_from host (in_stream (root_of t) o.world) (failed InvalidOperation run o.text o.world)
      (refused_arises host o.world InvalidOperation refl))
  run_of_ends (suc n) s run out w =
      let o = stream_run (under host nests (trees s)) (trees s) run out w in
      restart_ends w o.ending o.parent o.text o.world _ (ends_as host w o (stream_ends s run out w)) (λ t.
      run_of_ends n (root_of t) run o.text (in_stream (root_of t) o.world))

  restart_there : (w : World) (e : Ending) (parent : Option TemplateId) (out : List ℕ) (v : World) (f : TemplateId → Outcome) →
      v.stream ≡ w.stream → ((t : TemplateId) → EndsThere v.stream (f t) ⊎ EndsThere (root_of t) (f t)) →
      EndsThere w.stream (restarting e (record { ending = e; parent = parent; text = out; world = v }) f)
  restart_there w (fault chain) parent out v f h k = inl h
  restart_there w (done vs) None out v f h k = inl h
  restart_there w leave None out v f h k = inl h
  restart_there w next None out v f h k = inl h
  restart_there w (done vs) (Some t) out v f h k = there_after w v t (f t) h (k t)
  restart_there w leave (Some t) out v f h k = there_after w v t (f t) h (k t)
  restart_there w next (Some t) out v f h k = there_after w v t (f t) h (k t)

  pub run_of_there : (n : ℕ) (s : StreamId) (run : Run) (out : List ℕ) (w : World) →
      EndsThere w.stream (run_of host nests trees n s run out w)
  run_of_there zero s run out w =
      let o = stream_run (under host nests (trees s)) (trees s) run out w in
      restart_there w o.ending o.parent o.text o.world _ (stream_stays s run out w) (λ t. inl (inl refl))
  run_of_there (suc n) s run out w =
      let o = stream_run (under host nests (trees s)) (trees s) run out w in
      restart_there w o.ending o.parent o.text o.world _ (stream_stays s run out w) (λ t.
      inr (run_of_there n (root_of t) run o.text (in_stream (root_of t) o.world)))

-- So does what nests.
pub nests_end : (host : HostValue) (trees : Trees) (n : ℕ) (k : Callee) (heard : Bool) (out : List ℕ) (w : World) →
    RunEnds host w (nests_of host trees n k heard out w)
nests_end host trees zero k heard out w =
    run_ends host w (failed InvalidOperation (new_run heard w) out w) (ends_refused host w (new_run heard w) out InvalidOperation refl)
nests_end host trees (suc n) (macro_of s m given) heard out w =
    let nests = nests_of host trees n in
    let u : Under = under host nests (trees s) in
    run_ends host w _ (macro_ends u (nests_end host trees n) (again_end host nests (nests_end host trees n) (trees s) (host.limit + 1))
    (slice_get (stream_macros (trees s)) m) given (new_run heard w) out w)
nests_end host trees (suc n) (whole s) heard out w =
    run_of_ends host (nests_of host trees n) (nests_end host trees n) trees (names_left host w) s (new_run heard w) out w

-- ---------------------------------------------------------------- what runs keep
unless_fault : (host : HostValue) (e : Ending) (w world1 : World) (A : Type 0) → EndingKeeps host w e world1 → (Kept w world1 → A) →
    UnlessFault e A
unless_fault host (done vs) w world1 A h k = k h
unless_fault host leave w world1 A h k = k h
unless_fault host next w world1 A h k = k h
unless_fault host (fault chain) w world1 A h k = tt

pub run_stays : (host : HostValue) (trees : Trees) (n : ℕ) (k : Callee) (heard : Bool) (out : List ℕ) (w : World) →
    Stays w (nests_of host trees n k heard out w)
run_stays host trees n k heard out w =
    let o = nests_of host trees n k heard out w in
    let h = run_ends_as host w o (nests_end host trees n k heard out w) in
    let l = ends_advance host (in_stream o.world.stream w) o.ending o.world h in record {
      same_id = l.lasts.same_id;
      same_fuel_set = l.lasts.same_fuel_set;
      no_more_fuel = l.lasts.fuel;
      same_outer = l.outer;
      lie_over = l.scopes;
      same_scopes = unless_fault host o.ending (in_stream o.world.stream w) o.world _ h (λ k. k.same_scopes);
    }

pub run_grows : (host : HostValue) (trees : Trees) (n : ℕ) (k : Callee) (heard : Bool) (out : List ℕ) (w : World) →
    OnlyAdds w (nests_of host trees n k heard out w)
run_grows host trees n k heard out w =
    let o = nests_of host trees n k heard out w in
    let h = run_ends_as host w o (nests_end host trees n k heard out w) in
    let l = ends_advance host (in_stream o.world.stream w) o.ending o.world h in record {
      loops = l.lasts.loops;
      namespaces = l.lasts.namespaces;
      closures = l.lasts.closures;
      streams = l.lasts.streams;
      temps = l.lasts.temps;
      loaded = l.lasts.loaded;
      blocks = l.lasts.blocks;
      same_places = l.lasts.same_places;
      same_block = l.same_block;
      same_escape = unless_fault host o.ending (in_stream o.world.stream w) o.world _ h (λ k. k.same_escape);
    }

pub render_stays : (host : HostValue) (trees : Trees) (w : World) → Stays w (rendered host trees w)
render_stays host trees w = run_stays host trees (host.limit + 1) (whole w.stream) true [] w

pub render_grows : (host : HostValue) (trees : Trees) (w : World) → OnlyAdds w (rendered host trees w)
render_grows host trees w = run_grows host trees (host.limit + 1) (whole w.stream) true [] w

pub render_ends_there : (host : HostValue) (trees : Trees) (w : World) → EndsThere w.stream (rendered host trees w)
render_ends_there host trees w =
    let e : host.limit + 1 ≡ suc host.limit = omega arith in
    subst (λ n. EndsThere w.stream (nests_of host trees n (whole w.stream) true [] w)) (sym e)
    (run_of_there host (nests_of host trees host.limit) (nests_end host trees host.limit) trees (names_left host w) w.stream
    (new_run true w) [] w)

-- ---------------------------------------------------------------- what a block's tag puts back
after_world : (e : Ending) (c : NestedCall) (run : Run) (o : Outcome) → (after e c run o).world ≡ undone c.undo o.world
after_world (done vs) c run o = refl
after_world leave c run o = refl
after_world next c run o = refl
after_world (fault chain) c run o = refl

choose_puts_back : (w : World) (b : Bool) (o q : Outcome) → PutsBack w o.world → PutsBack w q.world →
    PutsBack w (choose b (λ _. o) (λ _. q)).world
choose_puts_back w true o q h k = h
choose_puts_back w false o q h k = k

puts_back_same : (w : World) → PutsBack w w
puts_back_same w =
    record {
      same_scopes = refl;
      same_stream = refl;
      same_block = refl;
      same_escape = refl;
      same_places = refl;
      blocks = blocks_same w.blocks;
    }

entered_puts_back : (u : Under) (run : Run) (b : List ℕ) (out : List ℕ) (w : World) (stream : StreamId) →
    RunEnds u.host (in_block stream b w) (u.nests (whole stream) (audible run) out (in_block stream b w)) →
    PutsBack w (in_place_of u run out (runs (block_call stream w) (in_block stream b w))).world
entered_puts_back u run b out w stream ends =
    let c : NestedCall = block_call stream w in
    let o = u.nests (whole stream) (audible run) out (in_block stream b w) in
    let began = in_stream o.world.stream (in_block stream b w) in
    let l = ends_advance u.host began o.ending o.world (run_ends_as u.host (in_block stream b w) o ends) in
    let k = (undone_kept {i = in_closure_too} (plain_scope (undefined false)) stream (Some b) w o.world l).lasts in
    subst (PutsBack w) (sym (after_world o.ending c run o)) (record {
      same_scopes = undone_scopes (plain_scope (undefined false)) stream (Some b) w o.world l;
      same_stream = refl;
      same_block = refl;
      same_escape = refl;
      same_places = k.same_places;
      blocks = k.blocks;
    })

pub tag_puts_back : (host : HostValue) (trees : Trees) (n : ℕ) (tree : StreamTree) (run : Run) (b : List ℕ) (out : List ℕ) (w : World) →
    PutsBack w (block_tag (under host (nests_of host trees n) tree) run b out w).world
tag_puts_back host trees n tree run b out w =
    let u : Under = under host (nests_of host trees n) tree in
    choose_puts_back w (none_waits run.parent && audible run) _ _
    (block_asks_by (λ q. PutsBack w (in_place_of u run out q).world) host b w (λ kind e. puts_back_same w) (λ stream room.
    entered_puts_back u run b out w stream (nests_end host trees n (whole stream) (audible run) out (in_block stream b w))))
    (puts_back_same w)

super_entered_puts_back : (u : Under) (run : Run) (out : List ℕ) (w : World) (stream : StreamId) (x : List ℕ) →
    RunEnds u.host (in_super stream x w) (u.nests (whole stream) (audible run) out (in_super stream x w)) →
    PutsBack w (in_place_of u run out (runs (super_call stream w) (in_super stream x w))).world
super_entered_puts_back u run out w stream x ends =
    let c : NestedCall = super_call stream w in
    let o = u.nests (whole stream) (audible run) out (in_super stream x w) in
    let began = in_stream o.world.stream (in_super stream x w) in
    let h = ends_advance u.host began o.ending o.world (run_ends_as u.host (in_super stream x w) o ends) in
    let places = put x (place_in x w.places + 1) w.places in
    subst (PutsBack w) (sym (after_world o.ending c run o)) (record {
      same_scopes = super_undone_scopes (plain_scope (undefined false)) stream places w o.world h;
      same_stream = refl;
      same_block = refl;
      same_escape = refl;
      same_places = refl;
      blocks = h.lasts.blocks;
    })

pub super_puts_back : (host : HostValue) (trees : Trees) (n : ℕ) (tree : StreamTree) (run : Run) (out : List ℕ) (w : World) →
    PutsBack w (in_place_of (under host (nests_of host trees n) tree) run out (enter_super host w)).world
super_puts_back host trees n tree run out w =
    let u : Under = under host (nests_of host trees n) tree in
    super_asks_by (λ q. PutsBack w (in_place_of u run out q).world) host w (λ kind e. puts_back_same w) (λ stream x room.
    super_entered_puts_back u run out w stream x (nests_end host trees n (whole stream) (audible run) out (in_super stream x w)))

-- ---------------------------------------------------------------- what an include puts back
own_closure_back : (old new : List Scope) → bare new ≡ bare old → own_closure (owning (own_closure old) new) ≡ own_closure old
own_closure_back [] [] same = refl
own_closure_back [] (s ∷ ss) same = absurd (cc same)
own_closure_back (s ∷ ss) [] same = absurd (cc same)
own_closure_back (s ∷ ss) (t ∷ ts) same = refl

gives_back_same : (w : World) → GivesBack w w
gives_back_same w = record {
  same_scopes = refl;
  same_closure = refl;
  same_outer = refl;
  same_stream = refl;
  same_block = refl;
  same_escape = refl;
  same_blocks = refl;
  same_places = refl;
  same_loaded = refl;
}

included_gives_back : (apart : Bool) (u : Under) (run : Run) (out : List ℕ) (w : World) (t : TemplateId) →
    RunEnds u.host (in_template u.host apart t w) (u.nests (whole (root_of t)) (audible run) out (in_template u.host apart t w)) →
    GivesBack w (in_place_of u run out (runs (include_call t w) (in_template u.host apart t w))).world
included_gives_back apart u run out w t ends =
    let c : NestedCall = include_call t w in
    let began = in_template u.host apart t w in
    let o = u.nests (whole (root_of t)) (audible run) out began in
    let h = ends_advance u.host (in_stream o.world.stream began) o.ending o.world (run_ends_as u.host began o ends) in
    let same = include_undone_but in_closure_too apart (include_depth + w.scopes.outer) (root_of t) (template_at u.host t).escape
    (own_blocks t (template_at u.host t).blocks) w o.world h in
    subst (GivesBack w) (sym (after_world o.ending c run o)) (record {
      same_scopes = same;
      same_closure = own_closure_back w.scopes.frames _ (sym (own_bare (own_closure w.scopes.frames) _) ∙ same);
      same_outer = refl;
      same_stream = refl;
      same_block = refl;
      same_escape = refl;
      same_blocks = refl;
      same_places = refl;
      same_loaded = refl;
    })

pub include_gives_back : (host : HostValue) (trees : Trees) (n : ℕ) (tree : StreamTree) (run : Run) (out : List ℕ) (apart : Bool) (v : Val)
    (missing : Bool) (w : World) →
    GivesBack w (in_place_of (under host (nests_of host trees n) tree) run out (enter_include host apart v missing w)).world
include_gives_back host trees n tree run out apart v missing w =
    let u : Under = under host (nests_of host trees n) tree in
    include_asks_by (λ q. GivesBack w (in_place_of u run out q).world) host w (λ chain h. gives_back_same w) (gives_back_same w) apart
    (λ t room. included_gives_back apart u run out w t
    (nests_end host trees n (whole (root_of t)) (audible run) out (in_template host apart t w)))
    v missing

included_keeps_scopes : (u : Under) (run : Run) (out : List ℕ) (w : World) (t : TemplateId) →
    RunEnds u.host (in_template u.host true t w) (u.nests (whole (root_of t)) (audible run) out (in_template u.host true t w)) →
    (in_place_of u run out (runs (include_call t w) (in_template u.host true t w))).world.scopes ≡ w.scopes
included_keeps_scopes u run out w t ends =
    let c : NestedCall = include_call t w in
    let began = in_template u.host true t w in
    let o = u.nests (whole (root_of t)) (audible run) out began in
    let h = ends_advance u.host (in_stream o.world.stream began) o.ending o.world (run_ends_as u.host began o ends) in
    subst (λ (v : World). v.scopes ≡ w.scopes) (sym (after_world o.ending c run o))
    (include_undone_scopes (include_depth + w.scopes.outer) (root_of t) (template_at u.host t).escape
    (own_blocks t (template_at u.host t).blocks) w o.world h)

pub include_keeps_scopes : (host : HostValue) (trees : Trees) (n : ℕ) (tree : StreamTree) (run : Run) (out : List ℕ) (v : Val)
    (missing : Bool) (w : World) →
    (in_place_of (under host (nests_of host trees n) tree) run out (enter_include host true v missing w)).world.scopes ≡ w.scopes
include_keeps_scopes host trees n tree run out v missing w =
    let u : Under = under host (nests_of host trees n) tree in
    include_asks_by (λ q. (in_place_of u run out q).world.scopes ≡ w.scopes) host w (λ chain h. refl) refl true
    (λ t room. included_keeps_scopes u run out w t
    (nests_end host trees n (whole (root_of t)) (audible run) out (in_template host true t w)))
    v missing

-- ---------------------------------------------------------------- what an import leaves
leaves_scopes : (host : HostValue) {A : Type 0} (w : World) (m : Res A) → GivesBut in_names host w m → LeavesScopes w m
leaves_scopes host w (Good a world1) h = (h.same_scopes, h.outer)
leaves_scopes host w (Bad chain world1) h = (h.0.scopes, h.0.outer)

pub import_leaves : (host : HostValue) (trees : Trees) (n : ℕ) (tree : StreamTree) (run : Run) (e : Expr) (t : AssignmentTarget) (w : World) →
    LeavesScopes w (import (under host (nests_of host trees n) tree) run e t w)
import_leaves host trees n tree run e t w =
    let nests = nests_of host trees n in
    leaves_scopes host w _ (import_gives (under host nests tree) (nests_end host trees n)
    (again_end host nests (nests_end host trees n) tree (host.limit + 1)) run e t w)

pub import_names_leaves : (host : HostValue) (trees : Trees) (n : ℕ) (tree : StreamTree) (run : Run) (e : Expr) (xs : List Imported) (w : World) →
    LeavesScopes w (import_names (under host (nests_of host trees n) tree) run e xs w)
import_names_leaves host trees n tree run e xs w =
    let nests = nests_of host trees n in
    leaves_scopes host w _ (import_names_gives (under host nests tree) (nests_end host trees n)
    (again_end host nests (nests_end host trees n) tree (host.limit + 1)) run e xs w)

-- ---------------------------------------------------------------- of which kinds its fault is
pub if_any : (Has : List ErrorKind → Type 0) (chain : List ErrorKind) → Has chain → IfAny Has chain
if_any Has [] h = tt
if_any Has (k ∷ ks) h = h

pub ending_arises : (host : HostValue) (e : Ending) (w world1 : World) → EndingKeeps host w e world1 → IfAny (Arises host) (chain_in e)
ending_arises host (done vs) w world1 h = tt
ending_arises host leave w world1 h = tt
ending_arises host next w world1 h = tt
ending_arises host (fault chain) w world1 h = if_any (Arises host) chain h.1

pub render_arises : (host : HostValue) (trees : Trees) (w : World) → IfAny (Arises host) (chain_of (rendered host trees w))
render_arises host trees w =
    let o = rendered host trees w in
    let h = run_ends_as host w o (nests_end host trees (host.limit + 1) (whole w.stream) true [] w) in
    ending_arises host o.ending (in_stream o.world.stream w) o.world h
