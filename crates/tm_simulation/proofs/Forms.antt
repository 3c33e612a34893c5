-- What is written, and runs that are nested, in place and as a value.
use Rattle.std.proofs.Common.{◌≡◌, ℕ, suc, ◌+◌, ◌<◌, ◌≤◌, ◌⊎◌, inl, inr, List, [], ◌∷◌, ◌++◌, length, nat_lt, Option, None, Some, Bool, true, false}
use Rattle.std.proofs.Common.{refl, sym, ◌∙◌, subst, arith, lt-ltb, le-ltb}
use Rattle.tm_values.specs.Val.{Val}
use Rattle.tm_meaning.specs.World.{choose, World}
use Rattle.tm_meaning.specs.Calls.{Callee, NestedCall, undone, wrapped, run_value, runs}
use Rattle.tm_meaning.specs.Meaning.{Run, Outcome, Ending, done, leave, next, fault, Under, audible as heard_here, say, after, in_place_of}
use Rattle.tm_meaning.specs.Meaning.{left_by, value_after, value_of, capturing}
use Rattle.tm_meaning.specs.Machine.{Activation, Finished, Failed, Back, More, Program, audible, put_in, put_out, writes, back_to}
use Rattle.tm_meaning.specs.Machine.{Capture, base_of, first_run, nested, new_capture, waiting, pushed, nested_in_place, nested_as_value}
use Rattle.tm_meaning.specs.Steps.{begun, begins, Final, final, Leads, over, more, nest}
use Rattle.tm_meaning.proofs.Ends.{one_end}
use Rattle.tm_simulation.proofs.Follow.{RunContext, LeadsToEnd, Bed, air, inside, capture_in, captures_of, told_by, Spot, told, cfg, later}
use Rattle.tm_simulation.proofs.Follow.{Follows, Then, Ends, whole_of, so_far_then, fault_then, Go, silent}
use Rattle.tm_meaning.specs.declared.stream.TemplateId.{TemplateId}
use Rattle.tm_meaning.specs.declared.base.Base.{Base}

-- How the place of a run's text and the run of a meaning fit together.
abbrev pub Fits : Base → Run → Bed → Type 0
Fits f run air = (run.inside ≡ false) × (f.captures ≡ 0) × (run.heard ≡ f.heard)
Fits f run (inside h t ks) =
    ((run.inside ≡ false) × (f.captures ≡ suc (length ks)) × (run.heard ≡ f.heard)) ⊎
    ((run.inside ≡ true) × (f.captures < suc (length ks)) × (run.heard ≡ h))

-- the captures of a run's start stand, in a capture of its own too
pub captures_stand : (f : Base) (run : Run) (b : Bed) (out : List ℕ) → Fits f run b → f.captures ≤ length (captures_of b out)
captures_stand f run air out (i, n, h) = omega (arith, n)
captures_stand f run (inside x t ks) out (inl (i, n, h)) = omega (arith, n)
captures_stand f run (inside x t ks) out (inr (i, n, h)) = omega (arith, n)

pub fits_captured : (heard : Bool) (f : Base) (run : Run) (b : Bed) (out : List ℕ) → Fits f run b →
    Fits f (capturing heard run) (capture_in heard b out)
fits_captured heard f run b out fits = inr (refl, omega (arith, captures_stand f run b out fits), refl)

-- the machine is inside a capture of its run where the meaning is
pub inside_is : (f : Base) (run : Run) (b : Bed) (out : List ℕ) → Fits f run b →
    nat_lt f.captures (length (captures_of b out)) ≡ run.inside
inside_is f run air out (i, n, h) = le-ltb f.captures 0 (omega arith) ∙ sym i
inside_is f run (inside x t ks) out (inl (i, n, h)) = le-ltb f.captures (suc (length ks)) (omega (arith, n)) ∙ sym i
inside_is f run (inside x t ks) out (inr (i, n, h)) = lt-ltb f.captures (suc (length ks)) n ∙ sym i

-- How a spot of the machine and the run of a meaning stand to each other: the escape at the start, the captures that stay, and where the
-- text goes.
abbrev pub Stands : Base → Run → Spot → Type 0
Stands f run s = (run.first ≡ f.first) × (s.run.floor ≤ length (captures_of s.bed s.out)) × Fits f run s.bed

-- ---------------------------------------------------------------- what is heard
-- The machine hears where the meaning does.
pub audible_is : (f : Base) (run : Run) (a : Activation) (q : Option TemplateId) (b : Bed) (out : List ℕ) (pc : ℕ) (stack : List Val)
    (w : World) → q ≡ run.parent → Fits f run b →
    audible f (cfg (record { run = a; parent = q; bed = b; out = out }) pc stack w) ≡ heard_here run
audible_is f run a q air out pc stack w e (i, n, h) = rw (e, n, i, h) refl
audible_is f run a q (inside x t ks) out pc stack w e (inl (i, n, h)) =
    let l : nat_lt f.captures (suc (length ks)) ≡ false = le-ltb _ _ (omega (arith, n)) in rw (e, l, i, h) refl
audible_is f run a q (inside x t ks) out pc stack w e (inr (i, n, h)) =
    let l : nat_lt f.captures (suc (length ks)) ≡ true = lt-ltb _ _ n in rw (l, i, h) refl

module _ (context : RunContext) where
  writes_by : (x : Bool) (t : List ℕ) (a : Activation) (q : Option TemplateId) (b : Bed) (out : List ℕ) (pc : ℕ) (stack : List Val)
      (w : World) →
      Go context (record { run = a; parent = q; bed = b; out = choose x (λ _. out ++ t) (λ _. out) }) pc stack w →
      LeadsToEnd context (told_by b out)
      (choose x
      (λ _. More (put_out (captures_of b out) t) (record (cfg (record { run = a; parent = q; bed = b; out = out }) pc stack w)
      { captures = put_in (captures_of b out) t }))
      (λ _. More [] (cfg (record { run = a; parent = q; bed = b; out = out }) pc stack w)))
  writes_by true t a q air out pc stack w g = more refl g
  writes_by true t a q (inside h u ks) out pc stack w g = silent context u _ g
  writes_by false t a q b out pc stack w g = silent context (told_by b out) _ g

  -- What is said is written.
  pub writes_then : (run : Run) (t : List ℕ) (s : Spot) (pc : ℕ) (stack : List Val) (w : World) → s.parent ≡ run.parent →
      Fits context.base run s.bed →
      Go context (later s s.parent (say run t s.out)) pc stack w → LeadsToEnd context (told s) (writes context.base t (cfg s pc stack w))
  writes_then run t s pc stack w q fits g =
      subst (λ x. LeadsToEnd context (told s) (choose x (λ _. More (put_out (captures_of s.bed s.out) t)
      (record (cfg s pc stack w) { captures = put_in (captures_of s.bed s.out) t })) (λ _. More [] (cfg s pc stack w))))
      (sym (audible_is context.base run s.run s.parent s.bed s.out pc stack w q fits))
      (writes_by (heard_here run) t s.run s.parent s.bed s.out pc stack w g)

-- ---------------------------------------------------------------- nested runs
-- the end of a run that an outcome stands for
abbrev pub end_by : Ending → Bed → List ℕ → World → Final
end_by (fault chain) b out w = final (told_by b out) (Failed chain w)
end_by e b out w = final (told_by b out) (Finished (left_by e) (captures_of b out) w)

abbrev pub end_of : Bed → Outcome → Final
end_of b o = end_by o.ending b o.text o.world

-- A callee's run comes to what it means.
abbrev pub Entered : Program → Callee → Bool → Bed → List ℕ → World → Outcome → Type 0
Entered p k heard b out w o =
    let f = base_of heard (captures_of b out) w in Leads p f (told_by b out) (begins p f k (captures_of b out) w) (end_of b o)

module _ (context : RunContext) where
  -- a callee's run, and then what its end leads to; one that has none is refused
  nested_then : (a : Option Activation) (heard : Bool) (ks : List Capture) (w : World) (back : Back) (t : List ℕ) (e : Final) →
      (let f = base_of heard ks w in Leads context.program f t (begun context.program f a ks w) e) →
      LeadsToEnd context e.text (back_to back e.end) → LeadsToEnd context t (nested a heard ks w back)
  nested_then None heard ks w back t e inner rest =
      subst (λ (o : Final). LeadsToEnd context o.text (back_to back o.end)) (one_end inner (over refl refl)) rest
  nested_then (Some a) heard ks w back t e inner rest = nest refl inner rest

  in_place_by : (k : NestedCall) (run : Run) (a : Activation) (b : Bed) (e : Ending) (parent : Option TemplateId) (out : List ℕ) (w : World)
      (D L N : Then) →
      Ends context b (after e k run (whole_of e parent out w)) D L N → (D run.parent out (undone k.undo w) →
      LeadsToEnd context (told_by b out) (More [] (record { run = a; captures = captures_of b out; world = undone k.undo w }))) →
      LeadsToEnd context (end_by e b out w).text (back_to (record { run = a; call = k; value = false }) (end_by e b out w).end)
  in_place_by k run a b (done vs) parent out w D L N h g = g (so_far_then context b run out _ D L N h)
  in_place_by k run a b leave parent out w D L N h g = g (so_far_then context b run out _ D L N h)
  in_place_by k run a b next parent out w D L N h g = g (so_far_then context b run out _ D L N h)
  in_place_by k run a b (fault chain) parent out w D L N h g = over refl (fault_then context b run out (undone k.undo w)
      (wrapped k.wrap chain) D L N h)

  -- a call in place: its text is heard where the call is
  pub call_in_place : (u : Under) (k : NestedCall) (run : Run) (s : Spot) (pc : ℕ) (stack vs : List Val) (w v : World) (D L N : Then) →
      s.parent ≡ run.parent → Fits context.base run s.bed →
      Entered context.program k.callee (heard_here run) s.bed s.out v (u.nests k.callee (heard_here run) s.out v) →
      Ends context s.bed (in_place_of u run s.out (runs k v)) D L N →
      ((out1 : List ℕ) (world1 : World) → D run.parent out1 world1 → Go context (later s s.parent out1) (pc + 1) vs world1) →
      LeadsToEnd context (told s) (nested_in_place context.program context.base vs (cfg s pc stack w) k v)
  call_in_place u k run s pc stack vs w v D L N q fits entered h g =
      let o = u.nests k.callee (heard_here run) s.out v in
      let back : Back = record { run = waiting vs (cfg s pc stack w); call = k; value = false } in
      let rest = in_place_by k run back.run s.bed o.ending o.parent o.text o.world D L N h
      (λ d. silent context _ _ (g o.text (undone k.undo o.world) d)) in
      let e = audible_is context.base run s.run s.parent s.bed s.out pc stack w q fits in
      let a = first_run context.program k.callee (length (captures_of s.bed s.out)) in
      subst (λ x. LeadsToEnd context (told s) (nested a x (captures_of s.bed s.out) v back)) (sym e)
      (nested_then a (heard_here run) (captures_of s.bed s.out) v back (told s) _ entered rest)

  value_by : (k : NestedCall) (a : Activation) (b : Bed) (out0 : List ℕ) (e : Ending) (o : Outcome) (K : Val → World → Type 0) →
      Follows context (told_by b out0) (value_after e k o) K →
      (K (run_value k.text o.text (undone k.undo o.world)) (undone k.undo o.world) →
      LeadsToEnd context (told_by b out0) (More [] (record {
        run = pushed (run_value k.text o.text (undone k.undo o.world)) a;
        captures = captures_of b out0;
        world = undone k.undo o.world;
      }))) →
      LeadsToEnd context (end_by e (inside true (told_by b out0) (captures_of b out0)) o.text o.world).text
      (back_to (record { run = a; call = k; value = true }) (end_by e (inside true (told_by b out0) (captures_of b out0)) o.text
      o.world).end)
  value_by k a b out0 (done vs) o K h g = g h
  value_by k a b out0 leave o K h g = g h
  value_by k a b out0 next o K h g = g h
  value_by k a b out0 (fault chain) o K h g = over refl h

  -- a call whose text is a value
  pub call_as_value : (u : Under) (run : Run) (k : NestedCall) (s : Spot) (pc : ℕ) (stack vs : List Val) (w v : World)
      (K : Val → World → Type 0) →
      Entered context.program k.callee true (inside true (told s) (captures_of s.bed s.out)) [] v (u.nests k.callee true [] v) →
      Follows context (told s) (value_of u run (runs k v)) K →
      ((x : Val) (world1 : World) → K x world1 → Go context s (pc + 1) (x ∷ vs) world1) →
      LeadsToEnd context (told s) (nested_as_value context.program vs (cfg s pc stack w) k v)
  call_as_value u run k s pc stack vs w v K entered h g =
      let o = u.nests k.callee true [] v in
      let back : Back = record { run = waiting vs (cfg s pc stack w); call = k; value = true } in
      let ks = new_capture true ∷ captures_of s.bed s.out in
      nested_then (first_run context.program k.callee (length ks)) true ks v back (told s) _ entered
      (value_by k back.run s.bed s.out o.ending o K h (λ d. silent context _ _ (g _ _ d)))
