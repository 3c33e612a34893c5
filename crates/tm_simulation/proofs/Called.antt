-- Of which kinds the faults are of calls that a state is asked for where no template runs.
use Rattle.std.proofs.Common.{ℕ, zero, suc, ◌+◌, List, [], ◌∷◌, true, Ok, Err, Option, Some, None, length, refl}
use Rattle.tm_values.specs.Answer.{Answer}
use Rattle.tm_values.specs.Records.{RecordData, namespace_at}
use Rattle.tm_values.specs.Val.{Val, undefined, none, boolean, number, text, list, map, keywords, exports, function, macro, loop, namespace}
use Rattle.tm_values.specs.Val.{Vals, no_vals, val, Pairs, no_pairs, pair}
use Rattle.tm_trees.specs.Trees.applications
use Rattle.tm_definitions.specs.Emitted.{map_ok}
use Rattle.tm_definitions.specs.Mapped.{NamespaceValues, with_ok, mapped, mapped_items, mapped_pairs, namespace_mapped, with_maps}
use Rattle.tm_definitions.specs.Printed.{entered}
use Rattle.tm_meaning.specs.World.{World, HostValue, Res, Good, Bad, records_of, emitted}
use Rattle.tm_meaning.specs.Calls.{Asked, has, refused, runs, recurs, apply_filter, perform_test, whole}
use Rattle.tm_meaning.specs.Tree.{Trees, statements, empty}
use Rattle.tm_meaning.specs.Meaning.{Ending, Under, done, leave, next, fault}
use Rattle.tm_meaning.specs.Runs.{chain_of, evaluated, nests_of, new_run, rendered, rendered_block, under, value_left}
use Rattle.tm_simulation.specs.Called.{called, call_by_name, as_text, maps_in, fault_of}
use Rattle.tm_simulation.specs.Kept.{in_closure_too}
use Rattle.tm_simulation.specs.Chains.{Arises, IfAny, raised}
use Rattle.tm_simulation.proofs.Advances.{kept_advances, kept_same}
use Rattle.tm_simulation.proofs.RunAdvances.{in_stream}
use Rattle.tm_simulation.proofs.Raised.{Raises, text_raises}
use Rattle.tm_simulation.proofs.Gives.{Gives, EndingKeeps, ends_as, gives_bind, operation_gives, run_ends_as}
use Rattle.tm_simulation.proofs.Asks.{Asks, applied_asks, emitted_gives, by_name_asks}
use Rattle.tm_simulation.proofs.Evaluates.{tag_ends, value_gives}
use Rattle.tm_simulation.proofs.Keeps.{again_end, ending_arises, if_any, nests_end}

-- ---------------------------------------------------------------- namespaces as maps
ok_raises : {A B : Type 0} (f : A → B) (m : Answer A) → Raises m → Raises (map_ok f m)
ok_raises f (Ok a) h = h
ok_raises f (Err chain) h = h

with_raises : {A B : Type 0} (m : Answer A) (f : A → Answer B) → Raises m → ((a : A) → Raises (f a)) → Raises (with_ok m f)
with_raises (Ok a) f h k = k a
with_raises (Err chain) f h k = h

module _ (inside : NamespaceValues) (fine : (s n : ℕ) → Raises (inside s n)) where
  mutual
    mapped_raises : (v : Val) → Raises (mapped inside v)
    mapped_raises (undefined silent) = tt
    mapped_raises none = tt
    mapped_raises (boolean truth) = tt
    mapped_raises (number z) = tt
    mapped_raises (text s safe) = tt
    mapped_raises (list vs) = ok_raises list (mapped_items inside vs) (items_raise vs)
    mapped_raises (map ps) = ok_raises map (mapped_pairs inside ps) (pairs_raise ps)
    mapped_raises (keywords ps) = ok_raises keywords (mapped_pairs inside ps) (pairs_raise ps)
    mapped_raises (exports ps s) = ok_raises (λ qs. exports qs s) (mapped_pairs inside ps) (pairs_raise ps)
    mapped_raises (function n) = tt
    mapped_raises (macro m) = tt
    mapped_raises (loop s n) = tt
    mapped_raises (namespace s n) = fine s n

    items_raise : (vs : Vals) → Raises (mapped_items inside vs)
    items_raise no_vals = tt
    items_raise (val v vs) =
        with_raises (mapped inside v) _ (mapped_raises v) (λ x. ok_raises (val x) (mapped_items inside vs) (items_raise vs))

    pairs_raise : (ps : Pairs) → Raises (mapped_pairs inside ps)
    pairs_raise no_pairs = tt
    pairs_raise (pair k v ps) =
        with_raises (mapped inside v) _ (mapped_raises v) (λ x. ok_raises (pair k x) (mapped_pairs inside ps) (pairs_raise ps))

entered_raises : (found : Option (List (Val × Val))) (missing : Answer Val) (there : Pairs → Answer Val) → Raises missing →
    ((ps : Pairs) → Raises (there ps)) → Raises (entered found missing there)
entered_raises None missing there h k = h
entered_raises (Some ps) missing there h k = k _

namespaces_raise : (r : RecordData) (levels s n : ℕ) → Raises (namespace_mapped r levels s n)
namespaces_raise r zero s n = refl
namespaces_raise r (suc levels) s n =
    entered_raises (namespace_at r s n) _ _ refl (λ ps. ok_raises map (mapped_pairs (namespace_mapped r levels) ps)
    (pairs_raise (namespace_mapped r levels) (namespaces_raise r levels) ps))

maps_raise : (r : RecordData) (v : Val) → Raises (with_maps r v)
maps_raise r v = mapped_raises (namespace_mapped r (length r.namespaces)) (namespaces_raise r (length r.namespaces)) v

-- ---------------------------------------------------------------- calls
arises_in : (host : HostValue) {A : Type 0} (w : World) (m : Res A) → Gives host w m → IfAny (Arises host) (fault_of m)
arises_in host w (Good a world1) h = tt
arises_in host w (Bad chain world1) h = if_any (Arises host) chain h.1

pub format_arises : (host : HostValue) (v : Val) (w : World) → IfAny (Arises host) (fault_of (emitted host v w))
format_arises host v w = arises_in host w _ (emitted_gives _ host v w)

abbrev pub nests_here : HostValue → Trees → Under
nests_here host trees = under host (nests_of host trees (host.limit + 1)) (statements empty)

pub called_gives : (host : HostValue) (trees : Trees) (w : World) (q : Asked) → Asks host w q → Gives host w (called host trees q)
called_gives host trees w (has v world1) h = h
called_gives host trees w (refused chain world1) h = h
called_gives host trees w (recurs n items world1) h = (kept_advances h, raised refl)
called_gives host trees w (runs c world1) h =
    let ends = nests_end host trees (host.limit + 1) in
    let again = again_end {i = in_closure_too} host (nests_of host trees (host.limit + 1)) ends (statements empty) (host.limit + 1) in
    value_gives (nests_here host trees) ends again w (new_run true w) (runs c world1) h

pub text_gives : (host : HostValue) (w : World) (m : Res Val) → Gives host w m → Gives host w (as_text m)
text_gives host w m h = gives_bind _ host w m _ h (λ v world1. operation_gives _ host _ world1 (text_raises (records_of world1) v))

maps_give : (host : HostValue) (w : World) (m : Res Val) → Gives host w m → Gives host w (maps_in m)
maps_give host w m h = gives_bind _ host w m _ h (λ v world1. operation_gives _ host _ world1 (maps_raise (records_of world1) v))

-- ---------------------------------------------------------------- of which kinds a fault is
pub named_arises : (host : HostValue) (trees : Trees) (x : List ℕ) (args : List Val) (w : World) →
    IfAny (Arises host) (fault_of (as_text (called host trees (call_by_name host x args w))))
named_arises host trees x args w = arises_in host w _ (text_gives host w _ (called_gives host trees w _ (by_name_asks _ host x args w)))

pub filter_arises : (host : HostValue) (trees : Trees) (x : List ℕ) (args : List Val) (w : World) →
    IfAny (Arises host) (fault_of (called host trees (apply_filter host x args w)))
filter_arises host trees x args w =
    arises_in host w _ (called_gives host trees w _ (applied_asks _ host applications.Filter x args w))

pub test_arises : (host : HostValue) (trees : Trees) (x : List ℕ) (args : List Val) (w : World) →
    IfAny (Arises host) (fault_of (called host trees (perform_test host x args w)))
test_arises host trees x args w = arises_in host w _ (called_gives host trees w _ (applied_asks _ host applications.Test x args w))

pub block_arises : (host : HostValue) (trees : Trees) (b : List ℕ) (w : World) →
    IfAny (Arises host) (chain_of (rendered_block host trees b w))
block_arises host trees b w =
    let ends = nests_end host trees (host.limit + 1) in
    let again = again_end {i = in_closure_too} host (nests_of host trees (host.limit + 1)) ends (statements empty) (host.limit + 1) in
    let o = rendered_block host trees b w in
    ending_arises host o.ending w o.world (ends_as host w o (tag_ends (nests_here host trees) ends again (new_run true w) b [] w))

-- The value is left in another stream, perhaps, on which no fault's kind depends.
left_arises : (host : HostValue) (e : Ending) (w world1 : World) → EndingKeeps host w e world1 →
    IfAny (Arises host) (fault_of (maps_in (value_left e world1)))
left_arises host (done (v ∷ [])) w world1 h = arises_in host world1 _ (maps_give host world1 (Good v world1) (kept_same world1))
left_arises host (done []) w world1 h = raised refl
left_arises host (done (v ∷ x ∷ vs)) w world1 h = raised refl
left_arises host leave w world1 h = raised refl
left_arises host next w world1 h = raised refl
left_arises host (fault chain) w world1 h = if_any (Arises host) chain h.1

pub value_arises : (host : HostValue) (trees : Trees) (w : World) → IfAny (Arises host) (fault_of (maps_in (evaluated host trees w)))
value_arises host trees w =
    let o = rendered host trees w in
    left_arises host o.ending (in_stream o.world.stream w) o.world
    (run_ends_as host w o (nests_end host trees (host.limit + 1) (whole w.stream) true [] w))
