-- What runs, loops and fuel keep and only add to.
use Rattle.std.proofs.Common.{◌≡◌, ℕ, zero, suc, ◌+◌, List, [], ◌∷◌, length, Option, Some, None, Bool, true, false, nat_lt, ◌++◌, refl, sym}
use Rattle.std.proofs.Common.{subst, ap, ◌∙◌, arith, ◌≤◌}
use Rattle.std.specs.Prelude.{◌-◌, if◌then◌else◌}
use Rattle.std.proofs.lemmas.List.{append-nil}
use Rattle.tm_values.specs.Val.{Val, undefined}
use Rattle.tm_values.specs.declared.escape.AutoEscape.{AutoEscape}
use Rattle.tm_trees.specs.Instructions.{LoopFlags}
use Rattle.tm_meaning.specs.World.{Bindings, World, Scopes, Scope, Loop, loop_scope, new_loop, turned_at, turned_of, leaving_at, leaving_of}
use Rattle.tm_meaning.specs.World.{top_mark, next_turn, leave_loop, pop, Res, Good, depth, plain_scope}
use Rattle.tm_meaning.specs.World.{own_closure, owning}
use Rattle.tm_meaning.specs.Calls.{keeping_at, include_frames, is_changed, outermost, undone, of_block, of_super, of_macro, of_include, run_undone}
use Rattle.tm_meaning.specs.Calls.{scopes_after}
use Rattle.tm_meaning.specs.declared.stream.TemplateId.{TemplateId}
use Rattle.tm_meaning.specs.declared.mark.LoopMark.{LoopMark}
use Rattle.tm_simulation.specs.Kept.{shape, shapes, GoesOn, Differs, in_closure_too, but}
use Rattle.tm_simulation.proofs.Parents.{blocks_same, blocks_after, names_same}
use Rattle.tm_meaning.proofs.Loaded.{count_fewer}
use Rattle.tm_meaning.specs.Inheritance.{with_blocks, names_left}
use Rattle.tm_meaning.specs.World.{HostValue, Template}
use Rattle.tm_meaning.specs.declared.stream.TemplateId.TheVariants.{Entry as entry}
use Rattle.tm_meaning.specs.declared.stream.StreamId.{StreamId}
use Rattle.tm_syntax.specs.Named.{Named, name_cmp, put, put_each}
use Rattle.std.specs.Ordering.{match_ordering}
use Rattle.std.specs.declared.cmp.Ordering.{Ordering}
use Rattle.std.specs.declared.cmp.Ordering.TheVariants.{Less, Equal, Greater}
use Rattle.tm_simulation.proofs.Advances.{shapes_long, shapes_after, goes_on_same, outermost_below, outermost_but, Lasts}
use Rattle.tm_simulation.proofs.Advances.{AdvancesBut, Advances, KeptBut, lasts_then, lasts_anywhere, lasts_by_loops, kept_lasting}
use Rattle.tm_simulation.proofs.Advances.{kept_top, kept_advances, kept_popped, own_bare, own_again, within, advances_over}

-- ---------------------------------------------------------------- runs
-- a world in another stream
abbrev pub in_stream : StreamId → World → World
in_stream s w = record w { stream = s }

-- what is kept in one stream is kept in another one
pub kept_in : {i : Differs} (s : StreamId) {w v : World} → KeptBut i w v → KeptBut i (in_stream s w) (in_stream s v)
kept_in s {w = w} {v = v} h =
    let l = h.lasts in
    record {
      lasts = record {
        same_id = l.same_id;
        same_fuel_set = l.same_fuel_set;
        fuel = l.fuel;
        loops = l.loops;
        namespaces = l.namespaces;
        closures = l.closures;
        streams = l.streams;
        temps = l.temps;
        loaded = l.loaded;
        blocks = l.blocks;
        same_places = l.same_places;
      };
      same_scopes = h.same_scopes;
      outer = h.outer;
      same_stream = refl;
      same_block = h.same_block;
      same_escape = h.same_escape;
    }

-- a world with one scope more, whose outermost one stands at a depth
abbrev pub within_at : ℕ → Scope → World → World
within_at outer s w = record w { scopes = record { frames = s ∷ w.scopes.frames; outer = outer } }

-- A block's run, in whichever stream it ended: what is put back after it gives the very scopes before it, and all is kept.
pub undone_scopes_at : {i : Differs} {host : HostValue} (outer : ℕ) (s : Scope) (stream : StreamId) (block : Option (List ℕ))
    (w v : World) →
    AdvancesBut i host (in_stream v.stream (record (within_at outer s w) { stream = stream; block = block })) v →
    (undone (of_block w) v).scopes ≡ w.scopes
undone_scopes_at {i = i} outer s stream block w v l =
    ap (λ frames. record { frames = frames; outer = w.scopes.outer }) (outermost_below i s w.scopes.frames v.scopes.frames l.scopes)

pub undone_at : {i j : Differs} {host : HostValue} (outer : ℕ) (s : Scope) (stream : StreamId) (block : Option (List ℕ)) (w v : World) →
    AdvancesBut j host (in_stream v.stream (record (within_at outer s w) { stream = stream; block = block })) v →
    KeptBut i w (undone (of_block w) v)
undone_at outer s stream block w v l =
    let inner : Scopes = record { frames = s ∷ w.scopes.frames; outer = outer } in
    let back : Scopes = record { frames = outermost (length w.scopes.frames) v.scopes.frames; outer = w.scopes.outer } in
    kept_lasting
    (lasts_then (lasts_then (lasts_anywhere inner v.stream block w.escape w) l.lasts) (lasts_anywhere back w.stream w.block w.escape v))
    (undone_scopes_at outer s stream block w v l) refl refl refl

-- the same at the depth at which the scopes stand
pub undone_scopes : {i : Differs} {host : HostValue} (s : Scope) (stream : StreamId) (block : Option (List ℕ)) (w v : World) →
    AdvancesBut i host (in_stream v.stream (record (within s w) { stream = stream; block = block })) v →
    (undone (of_block w) v).scopes ≡ w.scopes
undone_scopes s stream block w v l = undone_scopes_at w.scopes.outer s stream block w v l

-- the very scopes are there after a `super()` too
pub super_undone_scopes : {i : Differs} {host : HostValue} (s : Scope) (stream : StreamId) (places : Named ℕ) (w v : World) →
    AdvancesBut i host (in_stream v.stream (record (within s w) { stream = stream; places = places })) v →
    (undone (of_super w) v).scopes ≡ w.scopes
super_undone_scopes {i = i} s stream places w v h =
    ap (λ frames. record { frames = frames; outer = w.scopes.outer }) (outermost_below i s w.scopes.frames v.scopes.frames h.scopes)

pub undone_kept : {i j : Differs} {host : HostValue} (s : Scope) (stream : StreamId) (block : Option (List ℕ)) (w v : World) →
    AdvancesBut j host (in_stream v.stream (record (within s w) { stream = stream; block = block })) v → KeptBut i w (undone (of_block w) v)
undone_kept s stream block w v l = undone_at w.scopes.outer s stream block w v l

-- The same after a `super()`, in whose run the places were others.
pub super_undone_kept : {i j : Differs} {host : HostValue} (s : Scope) (stream : StreamId) (places : Named ℕ) (w v : World) →
    AdvancesBut j host (in_stream v.stream (record (within s w) { stream = stream; places = places })) v →
    KeptBut i w (undone (of_super w) v)
super_undone_kept s stream places w v h =
    let k = h.lasts in
    kept_lasting (record {
      same_id = k.same_id;
      same_fuel_set = k.same_fuel_set;
      fuel = k.fuel;
      loops = k.loops;
      namespaces = k.namespaces;
      closures = k.closures;
      streams = k.streams;
      temps = k.temps;
      loaded = k.loaded;
      blocks = k.blocks;
      same_places = refl;
    }) (super_undone_scopes s stream places w v h) refl refl refl

-- A parent is loaded.
pub loading_kept : {i : Differs} (x : List ℕ) (t : Template) (w : World) →
    KeptBut i w (record w { loaded = w.loaded ++ x ∷ []; blocks = with_blocks (entry x) t.blocks w.blocks })
loading_kept x t w = kept_lasting (record {
  same_id = refl;
  same_fuel_set = refl;
  fuel = omega arith;
  loops = goes_on_same w.loops;
  namespaces = omega arith;
  closures = omega arith;
  streams = omega arith;
  temps = omega arith;
  loaded = (x ∷ [], refl);
  blocks = blocks_after (entry x) t.blocks w.blocks;
  same_places = refl;
}) refl refl refl refl

-- No more names are left to be loaded.
pub names_last : (host : HostValue) {w v : World} → Lasts w v → names_left host v ≤ names_left host w
names_last host {w = w} {v = v} h =
    let loaded = h.loaded in
    subst (λ names. names_left host (record v { loaded = names }) ≤ names_left host w) (sym loaded.1)
    (count_fewer host.templates w.loaded loaded.0)

-- What lasts in a run lasts after it, which began in other scopes and another stream, with another block, escape and lists of blocks.
run_lasts : (scopes back : Scopes) (stream : StreamId) (block : Option (List ℕ)) (escape : AutoEscape) (blocks : Named (List TemplateId))
    (places : Named ℕ) (w v : World) →
    Lasts (record w { scopes = scopes; stream = stream; block = block; escape = escape; blocks = blocks; places = places }) v →
    Lasts w (run_undone w back v)
run_lasts scopes back stream block escape blocks places w v l = record {
  same_id = l.same_id;
  same_fuel_set = l.same_fuel_set;
  fuel = l.fuel;
  loops = l.loops;
  namespaces = l.namespaces;
  closures = l.closures;
  streams = l.streams;
  temps = l.temps;
  loaded = names_same w.loaded;
  blocks = blocks_same w.blocks;
  same_places = refl;
}

-- A macro's run, in whichever scopes, and whichever stream it ended: what is put back after it are the very scopes before it, and all is
-- kept.
pub macro_undone_kept : {i j : Differs} {host : HostValue} (scopes : Scopes) (stream : StreamId) (w v : World) →
    AdvancesBut j host (in_stream v.stream (record w { scopes = scopes; stream = stream; block = None })) v →
    KeptBut i w (undone (of_macro w) v)
macro_undone_kept scopes stream w v h =
    kept_lasting (run_lasts scopes w.scopes v.stream None w.escape w.blocks w.places w v h.lasts) refl refl refl refl

-- An include's run, in whichever stream it ended: what is put back after it are the scopes before it, but for the names of the innermost
-- one, and all is kept.
abbrev pub in_include : Bool → ℕ → StreamId → AutoEscape → Named (List TemplateId) → World → World
in_include apart outer stream escape blocks w = record w {
  scopes = record { frames = include_frames apart w.scopes.frames; outer = outer };
  stream = stream;
  escape = escape;
  blocks = blocks;
  places = [];
}

owning_own : (frames : List Scope) → owning (own_closure frames) frames ≡ frames
owning_own [] = refl
owning_own (s ∷ ss) = refl

-- after an include in a scope of its own the very scopes are there
pub include_undone_scopes : {i : Differs} {host : HostValue} (outer : ℕ) (stream : StreamId) (escape : AutoEscape)
    (blocks : Named (List TemplateId)) (w v : World) →
    AdvancesBut i host (in_stream v.stream (in_include true outer stream escape blocks w)) v → (undone (of_include w) v).scopes ≡ w.scopes
include_undone_scopes {i = i} outer stream escape blocks w v h =
    ap (λ frames. record { frames = frames; outer = w.scopes.outer })
    (ap (owning (own_closure w.scopes.frames)) (outermost_below i (plain_scope (undefined false)) w.scopes.frames v.scopes.frames h.scopes)
    ∙ owning_own w.scopes.frames)

pub include_undone_but : {host : HostValue} (i : Differs) (apart : Bool) (outer : ℕ) (stream : StreamId) (escape : AutoEscape)
    (blocks : Named (List TemplateId)) (w v : World) →
    Advances host (in_stream v.stream (in_include apart outer stream escape blocks w)) v →
    but i (undone (of_include w) v).scopes.frames ≡ but i w.scopes.frames
include_undone_but i true outer stream escape blocks w v h =
    ap (λ (scopes : Scopes). but i scopes.frames) (include_undone_scopes outer stream escape blocks w v h)
include_undone_but i false outer stream escape blocks w v h =
    let lie = h.scopes in
    own_again i w.scopes.frames (outermost (length w.scopes.frames) v.scopes.frames)
    (outermost_but in_closure_too w.scopes.frames v.scopes.frames (lie.0, lie.1, lie.2, lie.3 ∙ own_bare None w.scopes.frames))

pub include_undone_kept : {i : Differs} {host : HostValue} (apart : Bool) (outer : ℕ) (stream : StreamId) (escape : AutoEscape)
    (blocks : Named (List TemplateId)) (w v : World) →
    Advances host (in_stream v.stream (in_include apart outer stream escape blocks w)) v → KeptBut i w (undone (of_include w) v)
include_undone_kept {i = i} apart outer stream escape blocks w v h =
    let inner : Scopes = record { frames = include_frames apart w.scopes.frames; outer = outer } in
    let back = scopes_after w.scopes v.scopes in
    record {
      lasts = run_lasts inner back v.stream w.block escape blocks [] w v h.lasts;
      same_scopes = include_undone_but i apart outer stream escape blocks w v h;
      outer = refl;
      same_stream = refl;
      same_block = refl;
      same_escape = refl;
    }

-- ---------------------------------------------------------------- loops
-- the record that is asked for its next item
pub turned_after : (a b : List Loop) → turned_at (length a) (a ++ b) ≡ a ++ turned_at 0 b
turned_after [] b = refl
turned_after (l ∷ ls) b = ap (λ m. l ∷ m) (turned_after ls b)

shape_if : (b : Bool) (l : Loop) → shape (if b then l else record l { turns = l.turns + 1 }) ≡ (if b then shape l else record (shape l)
    { turns = l.turns + 1 })
shape_if true l = refl
shape_if false l = refl

pub turned_shapes : (n : ℕ) (ls : List Loop) → shapes (turned_at n ls) ≡ turned_at n (shapes ls)
turned_shapes n [] = refl
turned_shapes zero (l ∷ ls) = ap (λ m. m ∷ shapes ls) (shape_if (nat_lt (length l.items) l.turns) l)
turned_shapes (suc n) (l ∷ ls) = ap (λ m. shape l ∷ m) (turned_shapes n ls)

-- the mark of a loop whose record stands after those of a world
abbrev pub mark_after : LoopFlags → World → LoopMark
mark_after g w = record { number = length w.loops; variable = g.variable }

-- a world with its scope more
abbrev pub in_loop_of : LoopFlags → World → World
in_loop_of g w = within (loop_scope (mark_after g w)) w

-- what keeps a world keeps it with further records of loops
kept_loops : {i : Differs} {w world1 : World} (ls : List Loop) → KeptBut i w world1 → GoesOn w.loops ls →
    KeptBut i w (record world1 { loops = ls })
kept_loops ls k goes =
    let l = k.lasts in
    record {
      lasts = record {
        same_id = l.same_id;
        same_fuel_set = l.same_fuel_set;
        fuel = l.fuel;
        loops = goes;
        namespaces = l.namespaces;
        closures = l.closures;
        streams = l.streams;
        temps = l.temps;
        loaded = l.loaded;
        blocks = l.blocks;
        same_places = l.same_places;
      };
      same_scopes = k.same_scopes;
      outer = k.outer;
      same_stream = k.same_stream;
      same_block = k.same_block;
      same_escape = k.same_escape;
    }

pub kept_turned : {i : Differs} (g : LoopFlags) (w world1 : World) → KeptBut i (in_loop_of g w) world1 →
    KeptBut i (in_loop_of g w) (next_turn world1)
kept_turned {i = i} g w world1 k =
    let top : top_mark world1.scopes.frames ≡ Some (mark_after g w) = kept_top k in
    let is : next_turn world1 ≡ record world1 { loops = turned_at (length w.loops) world1.loops } = ap (λ m. turned_of m world1) top in
    let more = k.lasts.loops in
    let long = ap (λ n. turned_at n (shapes w.loops ++ more.0)) (sym (shapes_long w.loops)) in
    let loops : shapes (turned_at (length w.loops) world1.loops) ≡ shapes w.loops ++ turned_at 0 more.0 =
    turned_shapes (length w.loops) world1.loops ∙ ap (turned_at (length w.loops)) more.1 ∙ long ∙ turned_after
    (shapes w.loops) more.0 in
    subst (λ x. KeptBut i (in_loop_of g w) x) (sym is)
    (kept_loops (turned_at (length w.loops) world1.loops) k (turned_at 0 more.0, loops))

-- the record that is left
leaving_after : (a b : List Loop) → leaving_at (length a) (a ++ b) ≡ a ++ leaving_at 0 b
leaving_after [] b = refl
leaving_after (l ∷ ls) b = ap (λ m. l ∷ m) (leaving_after ls b)

leaving_shapes : (n : ℕ) (ls : List Loop) → shapes (leaving_at n ls) ≡ leaving_at n (shapes ls)
leaving_shapes n [] = refl
leaving_shapes zero (l ∷ ls) = refl
leaving_shapes (suc n) (l ∷ ls) = ap (λ m. shape l ∷ m) (leaving_shapes n ls)

-- what keeps a loop's scope keeps what lies around it after the loop was left
pub kept_left : {i j : Differs} (g : LoopFlags) (w world1 : World) → KeptBut j (in_loop_of g w) world1 → KeptBut i w (leave_loop world1)
kept_left {i = i} {j = j} g w world1 k =
    let top : top_mark world1.scopes.frames ≡ Some (mark_after g w) = kept_top k in
    let is : leave_loop world1 ≡ pop (record world1 { loops = leaving_at (length w.loops) world1.loops }) =
    ap (λ m. pop (leaving_of m world1)) top in
    let more = k.lasts.loops in
    let long = ap (λ n. leaving_at n (shapes w.loops ++ more.0)) (sym (shapes_long w.loops)) in
    let loops : shapes (leaving_at (length w.loops) world1.loops) ≡ shapes w.loops ++ leaving_at 0 more.0 =
    leaving_shapes (length w.loops) world1.loops ∙ ap (leaving_at (length w.loops)) more.1 ∙ long ∙ leaving_after
    (shapes w.loops) more.0 in
    subst (λ x. KeptBut i w x) (sym is)
    (kept_popped {i = i} {j = j} (loop_scope (mark_after g w)) w (record world1 { loops = leaving_at (length w.loops) world1.loops })
    (kept_loops (leaving_at (length w.loops) world1.loops) k (leaving_at 0 more.0, loops)))

-- what is so in a loop's scope, for which there was room, is so around it
pub advances_around : {i j : Differs} {host : HostValue} (g : LoopFlags) (w world1 : World) →
    nat_lt (depth w.scopes) host.limit ≡ true → KeptBut j (in_loop_of g w) world1 → AdvancesBut i host w world1
advances_around {j = j} g w world1 room k = advances_over {j = j} (loop_scope (mark_after g w)) w room (kept_advances k)

-- a world with a loop of these items more
abbrev pub opened : LoopFlags → ℕ → World → List Val → World
opened g n w vs = record (in_loop_of g w) { loops = w.loops ++ new_loop vs g n w ∷ [] }

pub opened_kept : {i : Differs} (g : LoopFlags) (n : ℕ) (w : World) (vs : List Val) → KeptBut i (in_loop_of g w) (opened g n w vs)
opened_kept g n w vs =
    let one = new_loop vs g n w ∷ [] in
    kept_lasting (lasts_by_loops (in_loop_of g w) (w.loops ++ one) (one, shapes_after w.loops one)) refl refl refl refl

keeping_shape : (b : Bool) (args : List Val) (l : Loop) → shape (if b then record l { kept = Some args } else l) ≡ shape l
keeping_shape true args l = refl
keeping_shape false args l = refl

keeping_shapes : (n : ℕ) (args : List Val) (ls : List Loop) → shapes (keeping_at n args ls) ≡ shapes ls
keeping_shapes n args [] = refl
keeping_shapes zero args (l ∷ ls) = ap (λ m. m ∷ shapes ls) (keeping_shape (is_changed l.kept args) args l)
keeping_shapes (suc n) args (l ∷ ls) = ap (λ m. shape l ∷ m) (keeping_shapes n args ls)

pub keeping_kept : {i : Differs} (n : ℕ) (args : List Val) (w : World) → KeptBut i w (record w { loops = keeping_at n args w.loops })
keeping_kept n args w =
    kept_lasting (lasts_by_loops w (keeping_at n args w.loops) ([], keeping_shapes n args w.loops ∙ sym (append-nil (shapes w.loops))))
    refl refl refl refl

abbrev pub recorded : LoopFlags → ℕ → List Val → World → World → Res (Unit {0})
recorded g n vs w world1 = Good tt (record world1 { loops = world1.loops ++ new_loop vs g n w ∷ [] })

-- ---------------------------------------------------------------- fuel
-- what is left of fuel is no more
abbrev pub NoMore : Option ℕ → ℕ → Type 0
NoMore (Some left) before = left ≤ before
NoMore None before = Unit {0}

pub charged_by : (free enough : Bool) (charge before : ℕ) →
    NoMore (if free then Some before else if enough then Some (before - charge) else None) before
charged_by true enough charge before = omega arith
charged_by false true charge before = omega arith
charged_by false false charge before = tt

-- ---------------------------------------------------------------- values that are kept
-- a name put among others takes none away
put_by : (o : Ordering) (x : List ℕ) (v : Val) (p : List ℕ × Val) (ps qs : Bindings) → length ps ≤ length qs →
    length (p ∷ ps) ≤ length (match_ordering o ((x, v) ∷ p ∷ ps) ((p.0, v) ∷ ps) (p ∷ qs))
put_by Less x v p ps qs h = omega arith
put_by Equal x v p ps qs h = omega arith
put_by Greater x v p ps qs h = omega (arith, h)

put_long : (x : List ℕ) (v : Val) (ps : Bindings) → length ps ≤ length (put x v ps)
put_long x v [] = omega arith
put_long x v (p ∷ ps) = put_by (name_cmp x p.0) x v p ps (put x v ps) (put_long x v ps)

pub put_each_long : (more ps : Bindings) → length ps ≤ length (put_each more ps)
put_each_long [] ps = omega arith
put_each_long (p ∷ more) ps = omega (arith, put_long p.0 p.1 ps, put_each_long more (put p.0 p.1 ps))
