-- What a world keeps: one part however statements end (`Advances`), and more where that is no fault (`Kept`).
use Rattle.std.proofs.Common.{◌≡◌, ℕ, zero, suc, List, [], ◌∷◌, length, Option, Some, None, Bool, true, false, ◌++◌, refl, sym}
use Rattle.std.proofs.Common.{ap, ◌∙◌, arith, append_assoc, ltb-true, nat_lt, ◌≤◌}
use Rattle.std.specs.Prelude.{◌-◌, drop, slice_get, if◌then◌else◌}
use Rattle.std.proofs.lemmas.List.{append-nil, length-append}
use Rattle.std.proofs.Math.Seq.{drop-append_seam}
use Rattle.tm_values.specs.Val.{Val}
use Rattle.tm_values.specs.declared.escape.AutoEscape.{AutoEscape}
use Rattle.tm_values.specs.declared.error.ErrorKind.TheVariants.{InvalidOperation}
use Rattle.tm_meaning.specs.World.{Bindings, choose, with_frames, World, HostValue, Scopes, Scope, Loop}
use Rattle.tm_meaning.specs.World.{top_mark, without_locals, cleared, Res, Good, Bad, pop, depth, without_first, stored_in}
use Rattle.tm_meaning.specs.World.{own_closure, put_at, put_in, put_enclosed, store, with_escape, owning, one_closure_more}
use Rattle.tm_meaning.specs.World.{closing_over, is_there, with_stream}
use Rattle.tm_meaning.specs.Calls.{outermost}
use Rattle.tm_simulation.specs.Kept.{shape, shapes, GoesOn, bare, Differs, in_names, in_closure_too, but, LieOver, BlocksGrow, NamesGrow}
use Rattle.tm_simulation.specs.Kept.{Within}
use Rattle.tm_simulation.proofs.Parents.{blocks_same, blocks_then, names_same, names_then}
use Rattle.tm_meaning.specs.declared.stream.StreamId.{StreamId}

-- ---------------------------------------------------------------- records
pub shapes_long : (ls : List Loop) → length (shapes ls) ≡ length ls
shapes_long [] = refl
shapes_long (l ∷ ls) = ap suc (shapes_long ls)

pub shapes_after : (a b : List Loop) → shapes (a ++ b) ≡ shapes a ++ shapes b
shapes_after [] b = refl
shapes_after (l ∷ ls) b = ap (λ m. shape l ∷ m) (shapes_after ls b)

pub goes_on_same : (ls : List Loop) → GoesOn ls ls
goes_on_same ls = ([], sym (append-nil (shapes ls)))

goes_on_then : (a b c : List Loop) → GoesOn a b → GoesOn b c → GoesOn a c
goes_on_then a b c (more, e) (most, d) = (more ++ most, d ∙ ap (λ l. l ++ most) e ∙ append_assoc (shapes a) more most)

front_record : (a b : List Loop) (n : ℕ) (l : Loop) → slice_get a n ≡ Some l → slice_get (a ++ b) n ≡ Some l
front_record [] b n l e = absurd (cc e)
front_record (x ∷ a) b zero l e = e
front_record (x ∷ a) b (suc n) l e = front_record a b n l e

-- ---------------------------------------------------------------- scopes that lie over others
-- as many but for what may differ of the innermost one
but_long : (i : Differs) (ss : List Scope) → length (but i ss) ≡ length ss
but_long in_names [] = refl
but_long in_names (s ∷ ss) = refl
but_long in_closure_too [] = refl
but_long in_closure_too (s ∷ ss) = refl

top_of_but : (i : Differs) (ss : List Scope) → top_mark (but i ss) ≡ top_mark ss
top_of_but in_names [] = refl
top_of_but in_names (s ∷ ss) = refl
top_of_but in_closure_too [] = refl
top_of_but in_closure_too (s ∷ ss) = refl

but_without : (i : Differs) (ss : List Scope) → but i (without_locals ss) ≡ but i ss
but_without in_names [] = refl
but_without in_names (s ∷ ss) = refl
but_without in_closure_too [] = refl
but_without in_closure_too (s ∷ ss) = refl

-- what differs in names alone differs in names and the closure at most
but_wider : (i : Differs) (old new : List Scope) → but i new ≡ but i old → bare new ≡ bare old
but_wider in_names old new e = sym (but_without in_closure_too new) ∙ ap bare e ∙ but_without in_closure_too old
but_wider in_closure_too old new e = e

-- below the innermost scope they are the same
below_but : (i : Differs) (s : Scope) (ss there : List Scope) → but i there ≡ but i (s ∷ ss) → (t : Scope) × (there ≡ t ∷ ss)
below_but in_names s ss [] e = absurd (cc e)
below_but in_names s ss (t ∷ ts) e = (t, cc e)
below_but in_closure_too s ss [] e = absurd (cc e)
below_but in_closure_too s ss (t ∷ ts) e = (t, cc e)

pub lie_same : (i : Differs) (old new : List Scope) → but i new ≡ but i old → LieOver i old new
lie_same i old new e = ([], new, refl, e)

lie_then : (i : Differs) (a b c : List Scope) → LieOver i a b → LieOver i b c → LieOver i a c
lie_then i a b c ([], there, is, same) (more, last, at, e) = (more, last, at, e ∙ ap (but i) is ∙ same)
lie_then i a b c (s ∷ ss, there, is, same) (more, last, at, e) =
    let below = below_but i s (ss ++ there) last (e ∙ ap (but i) is) in
    (more ++ below.0 ∷ ss, there, at ∙ ap (λ l. more ++ l) below.1 ∙ sym (append_assoc more (below.0 ∷ ss) there), same)

-- Those that lie over these and one more lie over these, which are the very ones: whatever differs is above them.
lie_above : (i j : Differs) (s : Scope) (a c : List Scope) → LieOver j (s ∷ a) c → LieOver i a c
lie_above i j s a c (more, last, at, e) =
    let below = below_but j s a last e in
    (more ++ below.0 ∷ [], a, at ∙ ap (λ l. more ++ l) below.1 ∙ sym (append_assoc more (below.0 ∷ []) a), refl)

-- of scopes that lie over these the outermost, as many as these, are these
outermost_there : (more ss : List Scope) → outermost (length ss) (more ++ ss) ≡ ss
outermost_there more ss =
    let many : length (more ++ ss) - length ss ≡ length more = omega (arith, length-append more ss) in
    ap (λ n. drop n (more ++ ss)) many ∙ drop-append_seam more ss

pub outermost_below : (i : Differs) (s : Scope) (ss new : List Scope) → LieOver i (s ∷ ss) new → outermost (length ss) new ≡ ss
outermost_below i s ss new (more, there, is, same) =
    let below = below_but i s ss there same in
    let all : new ≡ (more ++ below.0 ∷ []) ++ ss =
    is ∙ ap (λ l. more ++ l) below.1 ∙ sym (append_assoc more (below.0 ∷ []) ss) in
    ap (outermost (length ss)) all ∙ outermost_there (more ++ below.0 ∷ []) ss

-- those that lie over these have these as their outermost, but for what may differ of the innermost one of these
pub outermost_but : (i : Differs) (old new : List Scope) → LieOver i old new → but i (outermost (length old) new) ≡ but i old
outermost_but i old new (more, there, is, same) =
    let long : length old ≡ length there = sym (but_long i old) ∙ ap length (sym same) ∙ but_long i there in
    ap (λ frames. but i (outermost (length old) frames)) is ∙ ap (λ n. but i (outermost n (more ++ there))) long
    ∙ ap (but i) (outermost_there more there) ∙ same

-- ---------------------------------------------------------------- what is kept
-- However statements end, and whichever stream, block and scopes are there then: the state is the same one, no fuel comes back, and what
-- it has is never less.
pub record Lasts (old new : World) : Type 0 where
  pub same_id : new.id ≡ old.id
  pub same_fuel_set : new.fuel_set ≡ old.fuel_set
  pub fuel : new.fuel ≤ old.fuel
  pub loops : GoesOn old.loops new.loops
  pub namespaces : length old.namespaces ≤ length new.namespaces
  pub closures : length old.closures ≤ length new.closures
  pub streams : length old.streams ≤ length new.streams
  pub temps : length old.temps ≤ length new.temps
  pub loaded : NamesGrow old.loaded new.loaded
  pub blocks : BlocksGrow old.blocks new.blocks
  pub same_places : new.places ≡ old.places

-- However they end: what was there lasts, the scopes that stood are there, but for what may differ of the innermost one, none lies deeper
-- than the limit or than they stood, and stream and block are as before.
pub record AdvancesBut (i : Differs) (host : HostValue) (old new : World) : Type 0 where
  pub lasts : Lasts old new
  pub scopes : LieOver i old.scopes.frames new.scopes.frames
  pub outer : new.scopes.outer ≡ old.scopes.outer
  pub within_limit : Within host old new
  pub same_stream : new.stream ≡ old.stream
  pub same_block : new.block ≡ old.block

-- Where that is no fault, no other scopes are there, and the escape is as before.
pub record KeptBut (i : Differs) (old new : World) : Type 0 where
  pub lasts : Lasts old new
  pub same_scopes : but i new.scopes.frames ≡ but i old.scopes.frames
  pub outer : new.scopes.outer ≡ old.scopes.outer
  pub same_stream : new.stream ≡ old.stream
  pub same_block : new.block ≡ old.block
  pub same_escape : new.escape ≡ old.escape

-- The same of statements, which make closures too.
abbrev pub Advances : HostValue → World → World → Type 0
Advances host old new = AdvancesBut in_closure_too host old new

abbrev pub Kept : World → World → Type 0
Kept old new = KeptBut in_closure_too old new

pub lasts_then : {a b c : World} → Lasts a b → Lasts b c → Lasts a c
lasts_then {a = a} {b = b} {c = c} h k = record {
  same_id = k.same_id ∙ h.same_id;
  same_fuel_set = k.same_fuel_set ∙ h.same_fuel_set;
  fuel = omega (arith, h.fuel, k.fuel);
  loops = goes_on_then a.loops b.loops c.loops h.loops k.loops;
  namespaces = omega (arith, h.namespaces, k.namespaces);
  closures = omega (arith, h.closures, k.closures);
  streams = omega (arith, h.streams, k.streams);
  temps = omega (arith, h.temps, k.temps);
  loaded = names_then a.loaded b.loaded c.loaded h.loaded k.loaded;
  blocks = blocks_then a.blocks b.blocks c.blocks h.blocks k.blocks;
  same_places = k.same_places ∙ h.same_places;
}

pub advances_then : {i : Differs} {host : HostValue} {a b c : World} → AdvancesBut i host a b → AdvancesBut i host b c →
    AdvancesBut i host a c
advances_then {i = i} {a = a} {b = b} {c = c} h k = record {
  lasts = lasts_then h.lasts k.lasts;
  scopes = lie_then i a.scopes.frames b.scopes.frames c.scopes.frames h.scopes k.scopes;
  outer = k.outer ∙ h.outer;
  within_limit = λ d most here. k.within_limit d most (h.within_limit d most here);
  same_stream = k.same_stream ∙ h.same_stream;
  same_block = k.same_block ∙ h.same_block;
}

pub kept_then : {i : Differs} {a b c : World} → KeptBut i a b → KeptBut i b c → KeptBut i a c
kept_then h k = record {
  lasts = lasts_then h.lasts k.lasts;
  same_scopes = k.same_scopes ∙ h.same_scopes;
  outer = k.outer ∙ h.outer;
  same_stream = k.same_stream ∙ h.same_stream;
  same_block = k.same_block ∙ h.same_block;
  same_escape = k.same_escape ∙ h.same_escape;
}

-- as many scopes
pub kept_frames : {i : Differs} {a b : World} → KeptBut i a b → length b.scopes.frames ≡ length a.scopes.frames
kept_frames {i = i} {a = a} {b = b} h = sym (but_long i b.scopes.frames) ∙ ap length h.same_scopes ∙ but_long i a.scopes.frames

pub kept_depth : {i : Differs} {a b : World} → KeptBut i a b → depth b.scopes ≡ depth a.scopes
kept_depth h = omega (arith, kept_frames h, h.outer)

-- the innermost scope's loop
pub kept_top : {i : Differs} {a b : World} → KeptBut i a b → top_mark b.scopes.frames ≡ top_mark a.scopes.frames
kept_top {i = i} {a = a} {b = b} h = sym (top_of_but i b.scopes.frames) ∙ ap top_mark h.same_scopes ∙ top_of_but i a.scopes.frames

-- the record of a number
pub kept_record : {i : Differs} {a b : World} → KeptBut i a b → (n : ℕ) (l : Loop) → slice_get (shapes a.loops) n ≡ Some l →
    slice_get (shapes b.loops) n ≡ Some l
kept_record {a = a} {b = b} h n l e =
    let loops = h.lasts.loops in ap (λ ls. slice_get ls n) loops.1 ∙ front_record (shapes a.loops) loops.0 n l e

pub kept_advances : {i : Differs} {host : HostValue} {a b : World} → KeptBut i a b → AdvancesBut i host a b
kept_advances {i = i} {a = a} {b = b} h = record {
  lasts = h.lasts;
  scopes = lie_same i a.scopes.frames b.scopes.frames h.same_scopes;
  outer = h.outer;
  within_limit = λ d most here. omega (arith, kept_depth h, here);
  same_stream = h.same_stream;
  same_block = h.same_block;
}

-- what differs in names alone
pub kept_wider : {i : Differs} {a b : World} → KeptBut i a b → Kept a b
kept_wider {i = i} {a = a} {b = b} h = record {
  lasts = h.lasts;
  same_scopes = but_wider i a.scopes.frames b.scopes.frames h.same_scopes;
  outer = h.outer;
  same_stream = h.same_stream;
  same_block = h.same_block;
  same_escape = h.same_escape;
}

-- less fuel, more records and kept values, and whatever becomes of the scopes, the stream, the block and the escape
lasts_to : (left : ℕ) (loops : List Loop) (namespaces : List (List (Val × Val))) (temps : Bindings) (scopes : Scopes)
    (stream : StreamId) (block : Option (List ℕ)) (escape : AutoEscape) (w : World) →
    left ≤ w.fuel → GoesOn w.loops loops → length w.namespaces ≤ length namespaces → length w.temps ≤ length temps →
    let new =
    record w {
      fuel = left;
      loops = loops;
      namespaces = namespaces;
      temps = temps;
      scopes = scopes;
      stream = stream;
      block = block;
      escape = escape;
    } in
    Lasts w new
lasts_to left loops namespaces temps scopes stream block escape w less more_loops more_namespaces more_temps = record {
  same_id = refl;
  same_fuel_set = refl;
  fuel = less;
  loops = more_loops;
  namespaces = more_namespaces;
  closures = omega arith;
  streams = omega arith;
  temps = more_temps;
  loaded = names_same w.loaded;
  blocks = blocks_same w.blocks;
  same_places = refl;
}

pub lasts_anywhere : (scopes : Scopes) (stream : StreamId) (block : Option (List ℕ)) (escape : AutoEscape) (w : World) →
    Lasts w (record w { scopes = scopes; stream = stream; block = block; escape = escape })
lasts_anywhere scopes stream block escape w =
    lasts_to w.fuel w.loops w.namespaces w.temps scopes stream block escape w (omega arith) (goes_on_same w.loops) (omega arith)
    (omega arith)

pub lasts_by_loops : (w : World) (ls : List Loop) → GoesOn w.loops ls → Lasts w (record w { loops = ls })
lasts_by_loops w ls more =
    lasts_to w.fuel ls w.namespaces w.temps w.scopes w.stream w.block w.escape w (omega arith) more (omega arith) (omega arith)

pub lasts_by_fuel : (w : World) (left : ℕ) → left ≤ w.fuel → Lasts w (record w { fuel = left })
lasts_by_fuel w left less =
    lasts_to left w.loops w.namespaces w.temps w.scopes w.stream w.block w.escape w less (goes_on_same w.loops) (omega arith) (omega arith)

pub lasts_by_namespaces : (w : World) (ns : List (List (Val × Val))) → length w.namespaces ≤ length ns →
    Lasts w (record w { namespaces = ns })
lasts_by_namespaces w ns more =
    lasts_to w.fuel w.loops ns w.temps w.scopes w.stream w.block w.escape w (omega arith) (goes_on_same w.loops) more (omega arith)

pub lasts_by_temps : (w : World) (temps : Bindings) → length w.temps ≤ length temps → Lasts w (record w { temps = temps })
lasts_by_temps w temps more =
    lasts_to w.fuel w.loops w.namespaces temps w.scopes w.stream w.block w.escape w (omega arith) (goes_on_same w.loops) (omega arith) more

lasts_by_closures : (w : World) (cs : List Bindings) → length w.closures ≤ length cs → Lasts w (record w { closures = cs })
lasts_by_closures w cs more = record {
  same_id = refl;
  same_fuel_set = refl;
  fuel = omega arith;
  loops = goes_on_same w.loops;
  namespaces = omega arith;
  closures = more;
  streams = omega arith;
  temps = omega arith;
  loaded = names_same w.loaded;
  blocks = blocks_same w.blocks;
  same_places = refl;
}

-- what lasts, with scopes, stream, block and escape as they are
pub kept_lasting : {i : Differs} {w x : World} → Lasts w x → x.scopes ≡ w.scopes → x.stream ≡ w.stream → x.block ≡ w.block →
    x.escape ≡ w.escape → KeptBut i w x
kept_lasting {i = i} l scopes stream block escape = record {
  lasts = l;
  same_scopes = ap (λ (s : Scopes). but i s.frames) scopes;
  outer = ap (λ (s : Scopes). s.outer) scopes;
  same_stream = stream;
  same_block = block;
  same_escape = escape;
}

pub kept_same : {i : Differs} (w : World) → KeptBut i w w
kept_same w = kept_lasting (lasts_anywhere w.scopes w.stream w.block w.escape w) refl refl refl refl

pub advances_same : {i : Differs} {host : HostValue} (w : World) → AdvancesBut i host w w
advances_same w = kept_advances (kept_same w)

-- scopes that differ in what may differ of the innermost one
kept_named : {i : Differs} (frames : List Scope) (w : World) → but i frames ≡ but i w.scopes.frames → KeptBut i w (with_frames frames w)
kept_named frames w same = record {
  lasts = lasts_anywhere (record w.scopes { frames = frames }) w.stream w.block w.escape w;
  same_scopes = same;
  outer = refl;
  same_stream = refl;
  same_block = refl;
  same_escape = refl;
}

-- ---------------------------------------------------------------- scopes
stored_but : (i : Differs) (x : List ℕ) (v : Val) (frames : List Scope) → but i (stored_in x v frames) ≡ but i frames
stored_but in_names x v [] = refl
stored_but in_names x v (s ∷ ss) = refl
stored_but in_closure_too x v [] = refl
stored_but in_closure_too x v (s ∷ ss) = refl

-- as many closures
put_at_long : (n : ℕ) (x : List ℕ) (v : Val) (cs : List Bindings) → length (put_at n x v cs) ≡ length cs
put_at_long n x v [] = refl
put_at_long zero x v (c ∷ cs) = refl
put_at_long (suc n) x v (c ∷ cs) = ap suc (put_at_long n x v cs)

put_in_long : (o : Option ℕ) (x : List ℕ) (v : Val) (cs : List Bindings) → length (put_in o x v cs) ≡ length cs
put_in_long None x v cs = refl
put_in_long (Some n) x v cs = put_at_long n x v cs

enclosed_kept : {i : Differs} (x : List ℕ) (v : Val) (w : World) → KeptBut i w (put_enclosed x v w)
enclosed_kept x v w =
    kept_lasting (lasts_by_closures w (put_in (own_closure w.scopes.frames) x v w.closures)
    (omega (arith, put_in_long (own_closure w.scopes.frames) x v w.closures))) refl refl refl refl

pub own_bare : (closure : Option ℕ) (frames : List Scope) → bare (owning closure frames) ≡ bare frames
own_bare closure [] = refl
own_bare closure (s ∷ ss) = refl

-- Scopes differ in names alone from others, from which they differed in the closure too, once they have theirs.
pub own_again : (i : Differs) (old new : List Scope) → bare new ≡ bare old → but i (owning (own_closure old) new) ≡ but i old
own_again in_names [] [] e = refl
own_again in_names [] (t ∷ ts) e = absurd (cc e)
own_again in_names (s ∷ ss) [] e = absurd (cc e)
own_again in_names (s ∷ ss) (t ∷ ts) e = ap (owning s.own_closure) e
own_again in_closure_too old new e = own_bare (own_closure old) new ∙ e

more_closures : (frames : List Scope) (cs : List Bindings) → length cs ≤ length (one_closure_more frames cs)
more_closures [] cs = omega arith
more_closures (s ∷ ss) cs = omega (arith, length-append cs ([] ∷ []))

-- the innermost scope has a closure of its own
closing_kept : (o : Option ℕ) (w : World) → Kept w (closing_over o w)
closing_kept (Some n) w = kept_same w
closing_kept None w =
    let frames = owning (Some (length w.closures)) w.scopes.frames in
    let v = with_frames frames w in
    kept_then (kept_named frames w (own_bare (Some (length w.closures)) w.scopes.frames))
    (kept_lasting (lasts_by_closures v (one_closure_more w.scopes.frames w.closures) (more_closures w.scopes.frames w.closures))
    refl refl refl refl)

-- and a name more in it
pub closed_over_kept : (x : List ℕ) (v : Val) (o : Option ℕ) (w : World) → Kept w (put_enclosed x v (closing_over o w))
closed_over_kept x v o w = kept_then (closing_kept o w) (enclosed_kept x v (closing_over o w))

more_by : (b : Bool) (s : StreamId) (ts : List StreamId) → length ts ≤ length (if b then ts else ts ++ s ∷ [])
more_by true s ts = omega arith
more_by false s ts = omega (arith, length-append ts (s ∷ []))

-- a stream that declared a macro
pub stream_kept : {i : Differs} (s : StreamId) (w : World) → KeptBut i w (record w { streams = with_stream s w.streams })
stream_kept s w = kept_lasting (record {
  same_id = refl;
  same_fuel_set = refl;
  fuel = omega arith;
  loops = goes_on_same w.loops;
  namespaces = omega arith;
  closures = omega arith;
  streams = more_by (is_there s w.streams) s w.streams;
  temps = omega arith;
  loaded = names_same w.loaded;
  blocks = blocks_same w.blocks;
  same_places = refl;
}) refl refl refl refl

pub store_kept : {i : Differs} (x : List ℕ) (v : Val) (w : World) → KeptBut i w (store x v w)
store_kept {i = i} x v w =
    let frames = stored_in x v w.scopes.frames in
    kept_then (kept_named frames w (stored_but i x v w.scopes.frames)) (enclosed_kept x v (with_frames frames w))

pub kept_cleared : {i : Differs} {w world1 : World} → KeptBut i w world1 → KeptBut i w (cleared world1)
kept_cleared {i = i} {world1 = world1} k =
    kept_then k (kept_named (without_locals world1.scopes.frames) world1 (but_without i world1.scopes.frames))

-- a world with one scope more
abbrev pub within : Scope → World → World
within s w = with_frames (s ∷ w.scopes.frames) w

-- the same where there is room for it
abbrev pub one_more : Bool → Scope → World → Res (Unit {0})
one_more room s w = choose room (λ _. Good tt (within s w)) (λ _. Bad (InvalidOperation ∷ []) w)

-- what runs in a scope more, for which there was room, whatever differs in it
pub advances_over : {i j : Differs} {host : HostValue} (s : Scope) (w : World) {v : World} →
    nat_lt (depth w.scopes) host.limit ≡ true → AdvancesBut j host (within s w) v → AdvancesBut i host w v
advances_over {i = i} {j = j} {host = host} s w {v = v} room k = record {
  lasts = lasts_then (lasts_anywhere (record w.scopes { frames = s ∷ w.scopes.frames }) w.stream w.block w.escape w) k.lasts;
  scopes = lie_above i j s w.scopes.frames v.scopes.frames k.scopes;
  outer = k.outer;
  within_limit = λ d most here. k.within_limit d most (omega (arith, ltb-true (depth w.scopes) host.limit room, most));
  same_stream = k.same_stream;
  same_block = k.same_block;
}

-- without it, after what keeps it
pub kept_popped : {i j : Differs} (s : Scope) (w world1 : World) → KeptBut j (within s w) world1 → KeptBut i w (pop world1)
kept_popped {i = i} {j = j} s w world1 k =
    let below = below_but j s w.scopes.frames world1.scopes.frames k.same_scopes in
    let frames : without_first world1.scopes.frames ≡ w.scopes.frames = ap without_first below.1 in
    record {
      lasts =
          lasts_then (lasts_then (lasts_anywhere (record w.scopes { frames = s ∷ w.scopes.frames }) w.stream w.block w.escape w) k.lasts)
          (lasts_anywhere (record world1.scopes { frames = without_first world1.scopes.frames }) world1.stream world1.block world1.escape
          world1);
      same_scopes = ap (but i) frames;
      outer = k.outer;
      same_stream = k.same_stream;
      same_block = k.same_block;
      same_escape = k.same_escape;
    }

pub advances_escaped : {i : Differs} {host : HostValue} (e : AutoEscape) (w : World) → AdvancesBut i host w (with_escape e w)
advances_escaped {i = i} e w = record {
  lasts = lasts_anywhere w.scopes w.stream w.block e w;
  scopes = lie_same i w.scopes.frames w.scopes.frames refl;
  outer = refl;
  within_limit = λ d most here. here;
  same_stream = refl;
  same_block = refl;
}

-- the escape put back, after what keeps another
pub kept_unescaped : {i : Differs} (e : AutoEscape) (w world1 : World) → KeptBut i (with_escape e w) world1 →
    KeptBut i w (with_escape w.escape world1)
kept_unescaped e w world1 k = record {
  lasts =
      lasts_then (lasts_then (lasts_anywhere w.scopes w.stream w.block e w) k.lasts)
      (lasts_anywhere world1.scopes world1.stream world1.block w.escape world1);
  same_scopes = k.same_scopes;
  outer = k.outer;
  same_stream = k.same_stream;
  same_block = k.same_block;
  same_escape = refl;
}
