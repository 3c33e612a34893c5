-- Renders and nested runs, over any captures and with cache numbers.
use Rattle.std.proofs.Common.{◌≡◌, ◌≤◌, ℕ, suc, List, [], ◌∷◌, Bool}
use Rattle.std.proofs.Common.{true, refl, sym, ap, ◌∙◌, subst}
use Rattle.tm_syntax.specs.Fragments.{whole_labels}
use Rattle.tm_syntax.specs.Blocks.{fragment_of}
use Rattle.tm_meaning.specs.World.{HostValue, World}
use Rattle.tm_meaning.specs.Calls.{Callee, whole}
use Rattle.tm_meaning.specs.Tree.{Trees}
use Rattle.tm_meaning.specs.Meaning.{Ending, done, leave, next}
use Rattle.tm_meaning.specs.Meaning.{fault}
use Rattle.tm_meaning.specs.Runs.{new_run, nests_of, rendered, run_of}
use Rattle.tm_meaning.specs.Inheritance.{names_left}
use Rattle.tm_meaning.specs.Machine.{Capture as OpenCapture}
use Rattle.tm_meaning.specs.Machine.{Stuck, Program, base_of}
use Rattle.tm_meaning.specs.Steps.{Final, final}
use Rattle.tm_meaning.specs.Compiled.{IsCompiled, code_of}
use Rattle.tm_meaning.proofs.Ends.{one_end}
use Rattle.tm_simulation.specs.Reached.{RunsTo, Renders, text_in, end_by, final_in, final_of, HasLevels}
use Rattle.tm_syntax.specs.CacheNumbers.{numbered}
use Rattle.tm_simulation.specs.Uncached.{AllUncached, HasNoCaches, with_numbers}
use Rattle.tm_simulation.proofs.Cached.{begins_too}
use Rattle.tm_simulation.proofs.Numbered.{IsNumbered, numbered_is}
use Rattle.tm_simulation.proofs.Counts.{plain_uncached}
use Rattle.tm_simulation.proofs.Follow.{Bed, air, inside, captures_of, told_by, told}
use Rattle.tm_simulation.proofs.Forms.{end_by as bed_end, Entered}
use Rattle.tm_meaning.specs.declared.stream.StreamId.{StreamId}
use Rattle.tm_simulation.proofs.Simulation.{unnumbered_of, IsUnnumbered, tree_begins, chain_runs, nests_run, level_runs}
use Rattle.tm_simulation.proofs.Simulation.{unnumbered_render}

-- ---------------------------------------------------------------- over any captures
unheard_end : (e : Ending) (out : List ℕ) (w : World) → bed_end e air out w ≡ final out (end_by e [] w)
unheard_end (done vs) out w = refl
unheard_end leave out w = refl
unheard_end next out w = refl
unheard_end (fault chain) out w = refl

captured_end : (e : Ending) (h : Bool) (told : List ℕ) (ks : List OpenCapture) (out : List ℕ) (w : World) →
    bed_end e (inside h told ks) out w ≡ final told (end_by e (record { heard = h; text = out } ∷ ks) w)
captured_end (done vs) h told ks out w = refl
captured_end leave h told ks out w = refl
captured_end next h told ks out w = refl
captured_end (fault chain) h told ks out w = refl

unnumbered_comes : (trees : Trees) (p : Program) (n : ℕ) (k : Callee) (heard : Bool) (captures : List OpenCapture)
    (told : List ℕ) (w : World) → IsUnnumbered trees p → HasLevels p.host (suc n) w →
    RunsTo p k heard captures told w (final_in captures told (nests_of p.host trees (suc n) k heard (text_in captures told) w))
unnumbered_comes trees p n k heard [] told w compiled enough =
    let o = nests_of p.host trees (suc n) k heard told w in
    subst (λ e. RunsTo p k heard [] told w e) (unheard_end o.ending o.text o.world)
    (level_runs p trees compiled n k heard air told w enough)
unnumbered_comes trees p n k heard (c ∷ ks) told w compiled enough =
    let o = nests_of p.host trees (suc n) k heard c.text w in
    subst (λ e. RunsTo p k heard (c ∷ ks) told w e) (captured_end o.ending c.heard told ks o.text o.world)
    (level_runs p trees compiled n k heard (inside c.heard told ks) c.text w enough)

-- ---------------------------------------------------------------- with cache numbers
pub numbers_change_nothing : (p : Program) (k : Callee) (heard : Bool) (captures : List OpenCapture) (told : List ℕ) (w : World)
    (end : Final) → HasNoCaches p → RunsTo p k heard captures told w end → RunsTo (with_numbers p) k heard captures told w end
numbers_change_nothing p k heard captures told w end none run =
    begins_too p.host p.code (λ s. numbered (p.code s)) (λ s. numbered_is (p.code s) (none s)) (base_of heard captures w) told k captures w
    end run

-- the same streams before they have them
abbrev unnumbered : Trees → Program → Program
unnumbered trees p = record { host = p.host; code = λ s. unnumbered_of (trees s) }

uncached : (trees : Trees) (s : StreamId) → AllUncached (unnumbered_of (trees s))
uncached trees s =
    let c = fragment_of (trees s) in
    plain_uncached (whole_labels c) 0 c (tree_begins (trees s)).plain_code

numbered_streams : (trees : Trees) (p : Program) → IsCompiled trees p → (s : StreamId) →
    IsNumbered (unnumbered_of (trees s)) (p.code s)
numbered_streams trees p compiled s =
    let code = unnumbered_of (trees s) in
    subst (λ c. IsNumbered code c) (sym (compiled s)) (numbered_is code (uncached trees s))

once_numbered : (trees : Trees) (p : Program) (k : Callee) (heard : Bool) (captures : List OpenCapture) (told : List ℕ) (w : World)
    (end : Final) → IsCompiled trees p → RunsTo (unnumbered trees p) k heard captures told w end → RunsTo p k heard captures told w end
once_numbered trees p k heard captures told w end compiled run =
    begins_too p.host (λ s. unnumbered_of (trees s)) p.code (numbered_streams trees p compiled) (base_of heard captures w) told k
    captures w end run

pub nested_comes_to_meaning : (trees : Trees) (p : Program) (n : ℕ) (k : Callee) (heard : Bool) (captures : List OpenCapture)
    (told : List ℕ) (w : World) → IsCompiled trees p → HasLevels p.host (suc n) w →
    RunsTo p k heard captures told w (final_in captures told (nests_of p.host trees (suc n) k heard (text_in captures told) w))
nested_comes_to_meaning trees p n k heard captures told w compiled enough =
    once_numbered trees p k heard captures told w _ compiled
    (unnumbered_comes trees (unnumbered trees p) n k heard captures told w (λ s. refl) enough)

-- Fragment comes to one end, whatever the levels.
pub same_with_levels : (host : HostValue) (trees : Trees) (n m : ℕ) (k : Callee) (heard : Bool) (out : List ℕ) (w : World) →
    HasLevels host (suc n) w → HasLevels host (suc m) w →
    final_of (nests_of host trees (suc n) k heard out w) ≡ final_of (nests_of host trees (suc m) k heard out w)
same_with_levels host trees n m k heard out w enough also =
    let p : Program = record { host = host; code = λ s. code_of (trees s) } in
    let compiled : IsCompiled trees p = λ s. refl in
    one_end (nested_comes_to_meaning trees p n k heard [] out w compiled enough)
    (nested_comes_to_meaning trees p m k heard [] out w compiled also)

-- A stream and its parents come to one end, over as many names as there are left or more.
pub same_with_names : (host : HostValue) (trees : Trees) (n m k : ℕ) (s : StreamId) (heard : Bool) (out : List ℕ) (w : World) →
    HasLevels host (suc n) w → names_left host w ≤ m → names_left host w ≤ k →
    let nests = nests_of host trees n in
    final_of (run_of host nests trees m s (new_run heard w) out w) ≡ final_of (run_of host nests trees k s (new_run heard w) out w)
same_with_names host trees n m k s heard out w enough left also =
    let p : Program = record { host = host; code = λ r. unnumbered_of (trees r) } in
    let nests = nests_of host trees n in
    let o = run_of host nests trees m s (new_run heard w) out w in
    let q = run_of host nests trees k s (new_run heard w) out w in
    sym (unheard_end o.ending o.text o.world)
    ∙ one_end (chain_runs p trees (λ r. refl) n (nests_run p trees (λ r. refl) n) m s heard air out w enough left)
    (chain_runs p trees (λ r. refl) n (nests_run p trees (λ r. refl) n) k s heard air out w enough also)
    ∙ unheard_end q.ending q.text q.world

-- ---------------------------------------------------------------- renders
-- A render's run comes to what its trees mean, heard by the writer or by captures.
pub render_runs : (p : Program) (trees : Trees) → IsCompiled trees p → (b : Bed) (w : World) →
    Entered p (whole w.stream) true b [] w (rendered p.host trees w)
render_runs p trees compiled b w =
    once_numbered trees p (whole w.stream) true (captures_of b []) (told_by b []) w _ compiled
    (unnumbered_render (unnumbered trees p) trees (λ s. refl) b w)

pub comes_to_meaning : (trees : Trees) (p : Program) (w : World) → IsCompiled trees p → Renders p w (final_of (rendered p.host trees w))
comes_to_meaning trees p w compiled =
    let o = rendered p.host trees w in
    subst (λ e. Renders p w e) (unheard_end o.ending o.text o.world) (render_runs p trees compiled air w)

not_stuck_by : (e : Ending) (w left : World) → end_by e [] w ≡ Stuck left → ⊥
not_stuck_by (done vs) w left e = cc
not_stuck_by leave w left e = cc
not_stuck_by next w left e = cc
not_stuck_by (fault chain) w left e = cc

pub never_stuck : (trees : Trees) (p : Program) (w left : World) (got : List ℕ) → IsCompiled trees p →
    Renders p w (final got (Stuck left)) → ⊥
never_stuck trees p w left got compiled reached =
    let o = rendered p.host trees w in
    not_stuck_by o.ending o.world left (ap (λ (f : Final). f.end) (one_end (comes_to_meaning trees p w compiled) reached))
