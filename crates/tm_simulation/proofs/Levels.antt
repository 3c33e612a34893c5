-- What stands while code runs: how many levels are left, and what calls come to.
use Rattle.std.proofs.Common.{◌≡◌, ℕ, zero, suc, ◌+◌, ◌≤◌, List, [], ◌∷◌, length, Option, Bool}
use Rattle.std.proofs.Common.{true, false, refl, subst, arith, ltb-true}
use Rattle.std.specs.Prelude.{nat_lt}
use Rattle.tm_values.specs.Val.{Val}
use Rattle.tm_values.specs.declared.escape.AutoEscape.{AutoEscape}
use Rattle.tm_meaning.specs.World.{World, Scope}
use Rattle.tm_meaning.specs.World.{depth}
use Rattle.tm_meaning.specs.World.{with_escape}
use Rattle.tm_meaning.specs.Calls.{Callee, Asked, has, refused, runs, recurs}
use Rattle.tm_meaning.specs.Tree.{Trees}
use Rattle.tm_meaning.specs.Meaning.{Again, text_after, Run}
use Rattle.tm_meaning.specs.Runs.{over}
use Rattle.tm_meaning.specs.Meaning.{Under, value_of, in_place_of}
use Rattle.tm_meaning.specs.Meaning.{audible as heard_here}
use Rattle.tm_meaning.specs.Meaning.{capturing}
use Rattle.tm_meaning.specs.Runs.{nests_of}
use Rattle.tm_meaning.specs.Machine.{new_capture, recursion, place_of_loop}
use Rattle.tm_meaning.specs.Machine.{Program, asked, asked_in_place}
use Rattle.tm_meaning.specs.Steps.{over as is_over}
use Rattle.tm_simulation.specs.Reached.{HasLevels}
use Rattle.tm_simulation.proofs.Advances.{Kept, kept_frames, kept_depth}
use Rattle.tm_simulation.proofs.Advances.{within}
use Rattle.tm_simulation.proofs.Gives.{RunEnds, OutcomeKeeps}
use Rattle.tm_simulation.proofs.Asks.{Asks}
use Rattle.tm_simulation.proofs.Keeps.{nests_end}
use Rattle.tm_simulation.proofs.Follow.{RunContext, LeadsToEnd}
use Rattle.tm_simulation.proofs.Follow.{Bed, air, inside, captures_of, Spot, told, cfg}
use Rattle.tm_simulation.proofs.Follow.{later, Follows, Then, Ends, so_far_then}
use Rattle.tm_simulation.proofs.Follow.{fault_then}
use Rattle.tm_simulation.proofs.Follow.{Go, silent}
use Rattle.tm_simulation.proofs.Forms.{Fits, Stands, Entered}
use Rattle.tm_simulation.proofs.Forms.{call_in_place, call_as_value}
use Rattle.tm_meaning.specs.declared.stream.TemplateId.{TemplateId}
use Rattle.tm_meaning.specs.declared.stream.StreamId.{StreamId}
use Rattle.tm_meaning.specs.declared.base.Base.{Base}

-- the run of a meaning, with the parent that waits at a spot
abbrev pub as_at : Run → Spot → Run
as_at run s = record run { parent = s.parent }

pub same_captures : (b : Bed) (out out1 : List ℕ) → length (captures_of b out) ≡ length (captures_of b out1)
same_captures air out out1 = refl
same_captures (inside x t ks) out out1 = refl

-- the same at another text
pub stands_later : (f : Base) (run : Run) (s : Spot) → Stands f run s → (q : Option TemplateId) (out : List ℕ) →
    Stands f run (later s q out)
stands_later f run s stands q out = (stands.0, subst (λ n. s.run.floor ≤ n) (same_captures s.bed s.out out) stands.1, stands.2)

-- Runs that nest, with so many levels, come to what they mean, from worlds within the limit.
abbrev pub AllNested : Program → Trees → ℕ → Type 0
AllNested p trees n =
    (k : Callee) (heard : Bool) (b : Bed) (out : List ℕ) (w : World) → HasLevels p.host n w → depth w.scopes ≤ p.host.limit →
    Entered p k heard b out w (nests_of p.host trees n k heard out w)

-- So many levels are left for what nests and for loops that are called, and the scopes of the run's start stand.
-- A loop that is called opens its scope within the limit, so in it the depth is. Before any call it may be more, where the run began so;
-- then no loop has room for its scope.
pub record Levels (context : RunContext) (n level : ℕ) (w : World) : Type 0 where
  pub nests : HasLevels context.program.host (suc n) w
  pub scopes : context.base.scopes ≤ length w.scopes.frames
  pub calls : HasLevels context.program.host level w
  pub within_call : level ≤ context.program.host.limit → depth w.scopes ≤ context.program.host.limit

-- Nothing stands where no level is left.
pub none_left : (context : RunContext) (n : ℕ) (w : World) → Levels context n zero w → ⊥
none_left context n w l = omega (arith, l.calls, l.within_call)

-- So many levels are left, and the text goes where the meaning's does, in code of this stream.
abbrev pub DeepIn : RunContext → ℕ → StreamId → ℕ → Run → Spot → World → Type 0
DeepIn context n id level run s w = Levels context n level w × Stands context.base run s × (s.run.stream ≡ id)

-- And the same parent waits for both.
abbrev pub HereIn : RunContext → ℕ → StreamId → ℕ → Run → Spot → World → Type 0
HereIn context n id level run s w = Levels context n level w × Stands context.base run s × (s.run.stream ≡ id) × (run.parent ≡ s.parent)

-- A loop that is called, in place and as a value, comes after its call with what its rounds mean.
abbrev pub CalledInPlace : RunContext → ℕ → StreamId → ℕ → Again → Type 1
CalledInPlace context n id level again =
    (m : ℕ) (items : List Val) (run : Run) (s : Spot) (pc : ℕ) (stack old : List Val) (w0 w : World) (D L N : Then) →
    DeepIn context n id level run s w →
    Ends context s.bed (again m items (as_at run s) s.out w) D L N → ((q : Option TemplateId) (out1 : List ℕ) (x : World) → D q out1 x →
    Go context (later s q out1) (pc + 1) stack x) →
    LeadsToEnd context (told s) (recursion context.program (cfg s pc old w0) false stack (captures_of s.bed s.out) m
    (place_of_loop context.program (cfg s pc old w0) m) items w)

abbrev pub CalledAsValue : RunContext → ℕ → StreamId → ℕ → Again → Type 1
CalledAsValue context n id level again =
    (m : ℕ) (items : List Val) (run : Run) (s : Spot) (pc : ℕ) (stack old : List Val) (w0 w : World) (K : Val → World → Type 0) →
    HereIn context n id level run s w →
    (let o = again m items (capturing true run) [] w in Follows context (told s) (text_after o.ending o) K) →
    ((v : Val) (x : World) → K v x → Go context s (pc + 1) (v ∷ stack) x) →
    LeadsToEnd context (told s) (recursion context.program (cfg s pc old w0) true stack (new_capture true ∷ captures_of s.bed s.out) m
    (place_of_loop context.program (cfg s pc old w0) m) items w)

levels_kept : (context : RunContext) (n level : ℕ) (w world1 : World) → Kept w world1 → Levels context n level w →
    Levels context n level world1
levels_kept context n level w world1 k l = record {
  nests = omega (arith, kept_depth k, l.nests);
  scopes = omega (arith, kept_frames k, l.scopes);
  calls = omega (arith, kept_depth k, l.calls);
  within_call = λ called. omega (arith, kept_depth k, l.within_call called);
}

-- in a scope more, for which there was room
levels_within : (context : RunContext) (n level : ℕ) (a : Scope) (w : World) → nat_lt (depth w.scopes) context.program.host.limit ≡ true →
    Levels context n level w → Levels context n level (within a w)
levels_within context n level a w room l = record {
  nests = omega (arith, l.nests);
  scopes = omega (arith, l.scopes);
  calls = omega (arith, l.calls);
  within_call = λ _. omega (arith, ltb-true (depth w.scopes) context.program.host.limit room);
}

-- The scope of a loop that is called takes a level.
pub levels_called : (context : RunContext) (n level : ℕ) (a : Scope) (w : World) →
    nat_lt (depth w.scopes) context.program.host.limit ≡ true → Levels context n (suc level) w → Levels context n level (within a w)
levels_called context n level a w room l = record {
  nests = omega (arith, l.nests);
  scopes = omega (arith, l.scopes);
  calls = omega (arith, l.calls);
  within_call = λ _. omega (arith, ltb-true (depth w.scopes) context.program.host.limit room);
}

-- Where code runs: what nests and what is called in it, at so many levels, comes to what it means.
pub record Setting : Type 1 where
  pub context : RunContext
  pub trees : Trees
  pub n : ℕ
  pub entered : AllNested context.program trees n
  pub id : StreamId
  pub level : ℕ
  pub again : Again
  pub again_kept : (m : ℕ) (items : List Val) (run : Run) (out : List ℕ) (w : World) →
      OutcomeKeeps context.program.host run.parent w (again m items run out w)
  pub called_in_place : CalledInPlace context n id level again
  pub called_as_value : CalledAsValue context n id level again

abbrev pub meaning : Setting → Under
meaning setting = over setting.context.program.host (nests_of setting.context.program.host setting.trees setting.n) setting.again

module _ (setting : Setting) where
  open setting use {context, trees, n, entered, id, level, again, again_kept, called_in_place, called_as_value}

  abbrev u : Under
  u = meaning setting

  pub nest_ends : (k : Callee) (heard : Bool) (out : List ℕ) (w : World) → RunEnds context.program.host w
      (nests_of context.program.host trees n k heard out w)
  nest_ends k heard out w = nests_end context.program.host trees n k heard out w

  abbrev pub Deep : Run → Spot → World → Type 0
  Deep run s w = DeepIn context n id level run s w

  pub deep_kept : (run : Run) (s : Spot) {w world1 : World} → Kept w world1 → Deep run s w → Deep run s world1
  deep_kept run s {w = w} {world1 = world1} k d = (levels_kept context n level w world1 k d.0, d.1, d.2)

  pub deep_within : (run : Run) (s : Spot) (a : Scope) (w : World) → nat_lt (depth w.scopes) context.program.host.limit ≡ true →
      Deep run s w → Deep run s (within a w)
  deep_within run s a w room d = (levels_within context n level a w room d.0, d.1, d.2)

  pub deep_escaped : (run : Run) (s : Spot) (e : AutoEscape) (w : World) → Deep run s w → Deep run s (with_escape e w)
  deep_escaped run s e w d = (record { nests = d.0.nests; scopes = d.0.scopes; calls = d.0.calls; within_call = d.0.within_call }, d.1, d.2)

  abbrev pub Here : Run → Spot → World → Type 0
  Here run s w = HereIn context n id level run s w

  pub here_kept : (run : Run) (s : Spot) {w world1 : World} → Kept w world1 → Here run s w → Here run s world1
  here_kept run s {w = w} {world1 = world1} k d = (levels_kept context n level w world1 k d.0, d.1, d.2, d.3)

  pub here_within : (run : Run) (s : Spot) (a : Scope) (w : World) → nat_lt (depth w.scopes) context.program.host.limit ≡ true →
      Here run s w → Here run s (within a w)
  here_within run s a w room d = (levels_within context n level a w room d.0, d.1, d.2, d.3)

  -- at the spot's own parent
  pub here : (run : Run) (s : Spot) (w : World) → Deep run s w → Here (as_at run s) s w
  here run s w d = (d.0, d.1, d.2, refl)

  -- the same at another text
  pub deep_later : (run : Run) (s : Spot) (w : World) (q : Option TemplateId) (out : List ℕ) → Deep run s w → Deep run (later s q out) w
  deep_later run s w q out d = (d.0, stands_later context.base run s d.1 q out, d.2)

  -- what a call comes to, as a value
  pub asked_then : (run : Run) (s : Spot) (pc : ℕ) (stack old : List Val) (w world1 : World) (q : Asked) →
      Asks context.program.host world1 q → Here run s world1 →
      Follows context (told s) (value_of u run q) (λ v world2. Go context s (pc + 1) (v ∷ stack) world2) →
      LeadsToEnd context (told s) (asked context.program (cfg s pc old w) stack q)
  asked_then run s pc stack old w world1 (has v world2) e d h = silent context (told s) _ h
  asked_then run s pc stack old w world1 (refused chain world2) e d h = is_over refl h
  asked_then run s pc stack old w world1 (recurs m items world2) e d h =
      called_as_value m items run s pc stack old w world2 _ (here_kept run s e d) h (λ v x g. g)
  asked_then run s pc stack old w world1 (runs c world2) e d h =
      call_as_value context u run c s pc old stack w world2 _ (entered c.callee true (inside true (told s) (captures_of s.bed s.out)) []
      world2 (omega (arith, e.0, d.0.nests)) e.1) h (λ x world3 g. g)

  -- and in place
  pub placed_then : (run : Run) (s : Spot) (pc : ℕ) (stack old : List Val) (w world1 : World) (q : Asked) (D L N : Then) →
      Fits context.base run s.bed → Asks context.program.host world1 q → Deep run s world1 →
      Ends context s.bed (in_place_of u (as_at run s) s.out q) D L N → ((q1 : Option TemplateId) (out1 : List ℕ) (world2 : World) →
      D q1 out1 world2 → Go context (later s q1 out1) (pc + 1) stack world2) →
      LeadsToEnd context (told s) (asked_in_place context.program context.base (cfg s pc old w) stack q)
  placed_then run s pc stack old w world1 (has v world2) D L N fits e d h g = silent context (told s) _
      (g s.parent s.out world2 (so_far_then context s.bed (as_at run s) s.out world2 D L N h))
  placed_then run s pc stack old w world1 (refused chain world2) D L N fits e d h g = is_over refl
      (fault_then context s.bed (as_at run s) s.out world2 chain D L N h)
  placed_then run s pc stack old w world1 (recurs m items world2) D L N fits e d h g = called_in_place m items run s pc stack old w world2
      D L N (deep_kept run s e d) h g
  placed_then run s pc stack old w world1 (runs c world2) D L N fits e d h g =
      call_in_place context u c (as_at run s) s pc old stack w world2 D L N refl fits
      (entered c.callee (heard_here (as_at run s)) s.bed s.out world2 (omega (arith, e.0, d.0.nests)) e.1) h (g s.parent)
