-- How deep the scopes lie that runs and calls leave.
use Rattle.std.proofs.Common.{ℕ, ◌+◌, List, [], ◌∷◌, Bool, true, Ok, Err}
use Rattle.tm_values.specs.Answer.{Answer}
use Rattle.tm_values.specs.Val.{Val}
use Rattle.tm_trees.specs.Trees.applications
use Rattle.tm_meaning.specs.World.{World, HostValue, Res, Good, Bad, answered, emitted}
use Rattle.tm_meaning.specs.Calls.{Callee, apply_filter, perform_test, whole}
use Rattle.tm_meaning.specs.Tree.{Trees, statements, empty}
use Rattle.tm_meaning.specs.Meaning.{Ending, done, leave, next, fault}
use Rattle.tm_meaning.specs.Runs.{evaluated, nests_of, new_run, rendered, rendered_block, value_left}
use Rattle.tm_simulation.specs.Called.{called, call_by_name, as_text, maps_in, world_of}
use Rattle.tm_simulation.specs.Kept.{in_closure_too, Within}
use Rattle.tm_simulation.proofs.RunAdvances.{in_stream}
use Rattle.tm_simulation.proofs.Advances.{kept_advances}
use Rattle.tm_simulation.proofs.Gives.{Gives, ends_advance, ends_as, run_ends_as}
use Rattle.tm_simulation.proofs.Asks.{applied_asks, by_name_asks, emitted_gives}
use Rattle.tm_simulation.proofs.Evaluates.{tag_ends}
use Rattle.tm_simulation.proofs.Keeps.{again_end, nests_end}
use Rattle.tm_simulation.proofs.Called.{called_gives, nests_here, text_gives}

gives_within : {A : Type 0} (host : HostValue) (w : World) (m : Res A) → Gives host w m → Within host w (world_of m)
gives_within host w (Good a world1) h = (kept_advances {host = host} h).within_limit
gives_within host w (Bad chain world1) h = h.0.within_limit

pub run_within : (host : HostValue) (trees : Trees) (n : ℕ) (k : Callee) (heard : Bool) (out : List ℕ) (w : World) →
    Within host w (nests_of host trees n k heard out w).world
run_within host trees n k heard out w =
    let o = nests_of host trees n k heard out w in
    let h = run_ends_as host w o (nests_end host trees n k heard out w) in
    (ends_advance host (in_stream o.world.stream w) o.ending o.world h).within_limit

pub render_within : (host : HostValue) (trees : Trees) (w : World) → Within host w (rendered host trees w).world
render_within host trees w = run_within host trees (host.limit + 1) (whole w.stream) true [] w

pub block_within : (host : HostValue) (trees : Trees) (b : List ℕ) (w : World) → Within host w (rendered_block host trees b w).world
block_within host trees b w =
    let ends = nests_end host trees (host.limit + 1) in
    let again = again_end {i = in_closure_too} host (nests_of host trees (host.limit + 1)) ends (statements empty) (host.limit + 1) in
    let o = rendered_block host trees b w in
    (ends_advance host w o.ending o.world
    (ends_as host w o (tag_ends (nests_here host trees) ends again (new_run true w) b [] w))).within_limit

pub named_within : (host : HostValue) (trees : Trees) (x : List ℕ) (args : List Val) (w : World) →
    Within host w (world_of (as_text (called host trees (call_by_name host x args w))))
named_within host trees x args w =
    gives_within host w _ (text_gives host w _ (called_gives host trees w _ (by_name_asks _ host x args w)))

pub filter_within : (host : HostValue) (trees : Trees) (x : List ℕ) (args : List Val) (w : World) →
    Within host w (world_of (called host trees (apply_filter host x args w)))
filter_within host trees x args w =
    gives_within host w _ (called_gives host trees w _ (applied_asks _ host applications.Filter x args w))

pub test_within : (host : HostValue) (trees : Trees) (x : List ℕ) (args : List Val) (w : World) →
    Within host w (world_of (called host trees (perform_test host x args w)))
test_within host trees x args w =
    gives_within host w _ (called_gives host trees w _ (applied_asks _ host applications.Test x args w))

pub format_within : (host : HostValue) (v : Val) (w : World) → Within host w (world_of (emitted host v w))
format_within host v w = gives_within host w _ (emitted_gives _ host v w)

answered_within : {A : Type 0} (host : HostValue) (w world1 : World) (answer : Answer A) → Within host w world1 →
    Within host w (world_of (answered answer world1))
answered_within host w world1 (Ok a) h = h
answered_within host w world1 (Err chain) h = h

left_within : (host : HostValue) (w : World) (e : Ending) (world1 : World) → Within host w world1 →
    Within host w (world_of (maps_in (value_left e world1)))
left_within host w (done (v ∷ [])) world1 h = answered_within host w world1 _ h
left_within host w (done []) world1 h = h
left_within host w (done (v ∷ x ∷ vs)) world1 h = h
left_within host w leave world1 h = h
left_within host w next world1 h = h
left_within host w (fault chain) world1 h = h

pub value_within : (host : HostValue) (trees : Trees) (w : World) → Within host w (world_of (maps_in (evaluated host trees w)))
value_within host trees w =
    let o = rendered host trees w in left_within host w o.ending o.world (render_within host trees w)
