-- What a result, an outcome or a step is followed by, on the way to an end.
use Rattle.std.proofs.Common.{◌≡◌, ℕ, ◌+◌, List, [], ◌∷◌, Option, Some, Bool, true, false, refl, sym, subst}
use Rattle.std.proofs.lemmas.List.{append-nil}
use Rattle.std.specs.Prelude.{slice_get}
use Rattle.tm_values.specs.Val.{Val}
use Rattle.tm_values.specs.declared.error.ErrorKind.{ErrorKind}
use Rattle.tm_trees.specs.Instructions.{Instruction, LoopFlags}
use Rattle.tm_meaning.specs.World.{choose, World, HostValue, Scope, Res, Good, Bad, bind, tick, leave_loop, loop_scope}
use Rattle.tm_meaning.specs.Meaning.{Run, Outcome, Ending, done, leave, next, fault, ended, so_far, use_it, then_do, closing_by, closing}
use Rattle.tm_meaning.specs.Meaning.{captured_by, captured, round_end}
use Rattle.tm_simulation.proofs.Advances.{Kept, within, one_more}
use Rattle.tm_simulation.proofs.RunAdvances.{mark_after, recorded, opened}
use Rattle.tm_simulation.proofs.Gives.{Gives, EndingKeeps, OutcomeKeeps, ends_as}
use Rattle.tm_meaning.specs.Machine.{Capture, Activation, Config, Failed, Next, More, Program, after, goes}
use Rattle.tm_meaning.specs.Steps.{act, step, Final, final, Leads, over, more}
use Rattle.tm_meaning.specs.declared.stream.TemplateId.{TemplateId}
use Rattle.tm_meaning.specs.declared.base.Base.{Base}

-- Where what is heard goes: out, or into the innermost capture, over the text that the writer has and the captures below.
pub data Bed : Type 0 where
  air : Bed
  inside : Bool → List ℕ → List Capture → Bed

abbrev pub captures_of : Bed → List ℕ → List Capture
captures_of air out = []
captures_of (inside h t ks) out = record { heard = h; text = out } ∷ ks

abbrev pub told_by : Bed → List ℕ → List ℕ
told_by air out = out
told_by (inside h t ks) out = t

-- Where a run stands beside its place and operands: what of it stays, the parent that waits, where its text goes, and the text so far.
pub record Spot : Type 0 where
  pub run : Activation
  pub parent : Option TemplateId
  pub bed : Bed
  pub out : List ℕ

abbrev pub told : Spot → List ℕ
told s = told_by s.bed s.out

abbrev pub cfg : Spot → ℕ → List Val → World → Config
cfg s pc stack w = record {
  run = record s.run { place = pc; operands = stack; parent = s.parent };
  captures = captures_of s.bed s.out;
  world = w;
}

-- the same run, at another text and parent
abbrev pub later : Spot → Option TemplateId → List ℕ → Spot
later s q out = record s { parent = q; out = out }

-- What all lemmas of a run share: its program, its base, and the end that it comes to.
pub record RunContext : Type 0 where
  pub program : Program
  pub base : Base
  pub final : Final

-- what a step gave leads to the end, once the writer has got this text
abbrev pub LeadsToEnd : RunContext → List ℕ → Next → Type 0
LeadsToEnd context t n = Leads context.program context.base t n context.final

-- K holds of the value and the world, or the end is the fault
abbrev pub Follows : {A : Type 0} → RunContext → List ℕ → Res A → (A → World → Type 0) → Type 0
Follows context t (Good a w) K = K a w
Follows context t (Bad chain w) K = context.final ≡ final t (Failed chain w)

-- what a statement goes on with: after itself, after its loop, at the next item
abbrev pub Then : Type 1
Then = Option TemplateId → List ℕ → World → Type 0

abbrev pub EndsBy : RunContext → Bed → Ending → Outcome → Then → Then → Then → Type 0
EndsBy context b (done vs) o D L N = D o.parent o.text o.world
EndsBy context b leave o D L N = L o.parent o.text o.world
EndsBy context b next o D L N = N o.parent o.text o.world
EndsBy context b (fault chain) o D L N = context.final ≡ final (told_by b o.text) (Failed chain o.world)

-- sealed, so that a proof needs no outcome spelled out
unfoldable pub Ends : RunContext → Bed → Outcome → Then → Then → Then → Type 0
Ends context b o D L N = EndsBy context b o.ending o D L N

pub follows_map : {A : Type 0} (context : RunContext) (t : List ℕ) (m : Res A) (K L : A → World → Type 0) → Follows context t m K →
    ((a : A) (w : World) → K a w → L a w) → Follows context t m L
follows_map context t (Good a w) K L h g = g a w h
follows_map context t (Bad chain w) K L h g = h

-- the same of what keeps the scopes
pub follows_map_kept : {A : Type 0} (context : RunContext) (t : List ℕ) (w : World) (m : Res A) (K L : A → World → Type 0) →
    Gives context.program.host w m → Follows context t m K → ((a : A) (world1 : World) → Kept w world1 → K a world1 → L a world1) →
    Follows context t m L
follows_map_kept context t w (Good a world1) K L e h g = g a world1 e h
follows_map_kept context t w (Bad chain world1) K L e h g = h

-- what is bound, of its parts
pub follows_bind : {A B : Type 0} (context : RunContext) (t : List ℕ) (m : Res A) (g : A → World → Res B) (K : B → World → Type 0) →
    Follows context t m (λ a w. Follows context t (g a w) K) → Follows context t (bind m g) K
follows_bind context t (Good a w) g K h = h
follows_bind context t (Bad chain w) g K h = h

-- and the parts of what is bound
pub bound_follows : {A B : Type 0} (context : RunContext) (t : List ℕ) (m : Res A) (g : A → World → Res B) (K : B → World → Type 0) →
    Follows context t (bind m g) K → Follows context t m (λ a w. Follows context t (g a w) K)
bound_follows context t (Good a w) g K h = h
bound_follows context t (Bad chain w) g K h = h

-- what is bound twice, from the left
pub bound_twice : {A B C : Type 0} (context : RunContext) (t : List ℕ) (m : Res A) (f : A → World → Res B) (g : B → World → Res C)
    (K : C → World → Type 0) → Follows context t (bind (bind m f) g) K → Follows context t (bind m (λ a w. bind (f a w) g)) K
bound_twice context t (Good a w) f g K h = h
bound_twice context t (Bad chain w) f g K h = h

-- the first part of what is bound, and what it keeps
pub bind_then : {A B : Type 0} (context : RunContext) (t : List ℕ) (w : World) (m : Res A) (g : A → World → Res B) (K : B → World → Type 0)
    (L : A → World → Type 0) →
    Gives context.program.host w m → Follows context t (bind m g) K → ((a : A) (world1 : World) → Kept w world1 →
    Follows context t (g a world1) K → L a world1) → Follows context t m L
bind_then context t w (Good a world1) g K L e h k = k a world1 e h
bind_then context t w (Bad chain world1) g K L e h k = h

pub use_then : {A : Type 0} (context : RunContext) (b : Bed) (w : World) (m : Res A) (run : Run) (out : List ℕ) (g : A → World → Outcome)
    (D L N : Then) (K : A → World → Type 0) →
    Gives context.program.host w m → Ends context b (use_it m run out g) D L N →
    ((a : A) (world1 : World) → Kept w world1 → Ends context b (g a world1) D L N → K a world1) → Follows context (told_by b out) m K
unfolding Ends
use_then context b w (Good a world1) run out g D L N K e h k = k a world1 e h
use_then context b w (Bad chain world1) run out g D L N K e h k = h

-- what is done goes on
pub so_far_then : (context : RunContext) (b : Bed) (run : Run) (out : List ℕ) (w : World) (D L N : Then) →
    Ends context b (so_far run out w) D L N → D run.parent out w
unfolding Ends
so_far_then context b run out w D L N h = h

pub so_far_ends : (context : RunContext) (b : Bed) (run : Run) (out : List ℕ) (w : World) (D L N : Then) → D run.parent out w →
    Ends context b (so_far run out w) D L N
unfolding Ends
so_far_ends context b run out w D L N h = h

pub fault_then : (context : RunContext) (b : Bed) (run : Run) (out : List ℕ) (w : World) (chain : List ErrorKind) (D L N : Then) →
    Ends context b (ended (fault chain) run out w) D L N → context.final ≡ final (told_by b out) (Failed chain w)
unfolding Ends
fault_then context b run out w chain D L N h = h

-- an outcome by its parts
abbrev pub whole_of : Ending → Option TemplateId → List ℕ → World → Outcome
whole_of e parent out w = record { ending = e; parent = parent; text = out; world = w }

kept_by : (host : HostValue) {q : Option TemplateId} (w : World) (e : Ending) (parent : Option TemplateId) (out : List ℕ)
    (world1 : World) → OutcomeKeeps host q w (whole_of e parent out world1) → EndingKeeps host w e world1
kept_by host w e parent out world1 h = ends_as host w (whole_of e parent out world1) h

do_by : (context : RunContext) (b : Bed) (run : Run) (w : World) (e : Ending) (parent : Option TemplateId) (out : List ℕ) (world1 : World)
    (g : Run → List ℕ → World → Outcome) (D L N : Then) (K : Then) → EndingKeeps context.program.host w e world1 →
    Ends context b (then_do run (whole_of e parent out world1) g) D L N → (Kept w world1 →
    Ends context b (g (record run { parent = parent }) out world1) D L N → K parent out world1) →
    Ends context b (whole_of e parent out world1) K L N
unfolding Ends
do_by context b run w (done vs) parent out world1 g D L N K e h k = k e h
do_by context b run w leave parent out world1 g D L N K e h k = h
do_by context b run w next parent out world1 g D L N K e h k = h
do_by context b run w (fault chain) parent out world1 g D L N K e h k = h

pub do_then : (context : RunContext) {q : Option TemplateId} (b : Bed) (run : Run) (w : World) (o : Outcome) (g : Run → List ℕ → World → Outcome) (D L N : Then)
    (K : Then) → OutcomeKeeps context.program.host q w o →
    Ends context b (then_do run o g) D L N → ((parent : Option TemplateId) (out : List ℕ) (world1 : World) → Kept w world1 →
    Ends context b (g (record run { parent = parent }) out world1) D L N → K parent out world1) → Ends context b o K L N
do_then context b run w o g D L N K e h k =
    do_by context b run w o.ending o.parent o.text o.world g D L N K (kept_by context.program.host w o.ending o.parent o.text o.world e) h
    (k o.parent o.text o.world)

-- what runs in a scope more, where there is room for it
pub within_then : (context : RunContext) (b : Bed) (w : World) (s : Scope) (room : Bool) (run : Run) (out : List ℕ)
    (g : Unit {0} → World → Outcome) (D L N : Then) (K : World → Type 0) →
    Ends context b (use_it (one_more room s w) run out g) D L N → (room ≡ true → Ends context b (g tt (within s w)) D L N →
    K (within s w)) → Follows context (told_by b out) (one_more room s w) (λ _ world1. K world1)
unfolding Ends
within_then context b w s true run out g D L N K h k = k refl h
within_then context b w s false run out g D L N K h k = h

-- what follows once something is closed
abbrev pub Closed : (World → World) → Then → Then
Closed close D parent out w = D parent out (close w)

closed_then_by : (context : RunContext) (b : Bed) (w : World) (close : World → World) (e : Ending) (parent : Option TemplateId)
    (out : List ℕ) (world1 : World) (D L N K : Then) → EndingKeeps context.program.host w e world1 →
    Ends context b (closing_by e close (whole_of e parent out world1)) D L N →
    (Kept w world1 → Closed close D parent out world1 → K parent out world1) →
    Ends context b (whole_of e parent out world1) K (Closed close L) (Closed close N)
unfolding Ends
closed_then_by context b w close (done vs) parent out world1 D L N K e h k = k e h
closed_then_by context b w close leave parent out world1 D L N K e h k = h
closed_then_by context b w close next parent out world1 D L N K e h k = h
closed_then_by context b w close (fault chain) parent out world1 D L N K e h k = h

pub closed_then : (context : RunContext) {q : Option TemplateId} (b : Bed) (w : World) (close : World → World) (o : Outcome) (D L N K : Then) →
    OutcomeKeeps context.program.host q w o → Ends context b (closing close o) D L N →
    ((parent : Option TemplateId) (out : List ℕ) (world1 : World) → Kept w world1 → Closed close D parent out world1 →
    K parent out world1) →
    Ends context b o K (Closed close L) (Closed close N)
closed_then context b w close o D L N K e h k =
    closed_then_by context b w close o.ending o.parent o.text o.world D L N K
    (kept_by context.program.host w o.ending o.parent o.text o.world e) h (k o.parent o.text o.world)

-- the bed of what runs in a capture of its own, which takes what is written or not
abbrev pub capture_in : Bool → Bed → List ℕ → Bed
capture_in heard b out = inside heard (told_by b out) (captures_of b out)

abbrev pub captured_in : Bed → List ℕ → Bed
captured_in b out = capture_in true b out

-- what follows once a capture's end is charged and its text dropped
abbrev pub Dropped : RunContext → Bed → List ℕ → Then → Then
Dropped context b out L parent x w = Follows context (told_by b out) (tick w) (λ _ world1. L parent out world1)

dropped_by : (context : RunContext) (b : Bed) (run : Run) (out : List ℕ) (w : World) (m : Res (Unit {0})) (D L N : Then) →
    Ends context b (use_it m run out (λ _ world1. ended leave run out world1)) D L N →
    Follows context (told_by b out) m (λ _ world1. L run.parent out world1)
unfolding Ends
dropped_by context b run out w (Good a world1) D L N h = h
dropped_by context b run out w (Bad chain world1) D L N h = h

skipped_by : (context : RunContext) (b : Bed) (run : Run) (out : List ℕ) (w : World) (m : Res (Unit {0})) (D L N : Then) →
    Ends context b (use_it m run out (λ _ world1. ended next run out world1)) D L N →
    Follows context (told_by b out) m (λ _ world1. N run.parent out world1)
unfolding Ends
skipped_by context b run out w (Good a world1) D L N h = h
skipped_by context b run out w (Bad chain world1) D L N h = h

captured_then_by : (context : RunContext) (b : Bed) (run : Run) (out : List ℕ) (w : World) (f : Run → List ℕ → World → Outcome) (e : Ending)
    (parent : Option TemplateId) (x : List ℕ) (world1 : World) (D L N K : Then) → EndingKeeps context.program.host w e world1 →
    Ends context b (captured_by e (whole_of e parent x world1) (record run { parent = parent }) out f) D L N →
    (Kept w world1 → Ends context b (f (record run { parent = parent }) x world1) D L N → K parent x world1) →
    Ends context (captured_in b out) (whole_of e parent x world1) K (Dropped context b out L) (Dropped context b out N)
unfolding Ends
captured_then_by context b run out w f (done vs) parent x world1 D L N K e h k = k e h
captured_then_by context b run out w f leave parent x world1 D L N K e h k = dropped_by context b (record run { parent = parent }) out
    world1 (tick world1) D L N h
captured_then_by context b run out w f next parent x world1 D L N K e h k = skipped_by context b (record run { parent = parent }) out
    world1 (tick world1) D L N h
captured_then_by context b run out w f (fault chain) parent x world1 D L N K e h k = h

pub captured_then : (context : RunContext) {q : Option TemplateId} (b : Bed) (run : Run) (out : List ℕ) (w : World) (o : Outcome)
    (f : Run → List ℕ → World → Outcome) (D L N K : Then) → OutcomeKeeps context.program.host q w o →
    Ends context b (captured o run out f) D L N →
    ((parent : Option TemplateId) (x : List ℕ) (world1 : World) → Kept w world1 →
    Ends context b (f (record run { parent = parent }) x world1) D L N → K parent x world1) →
    Ends context (captured_in b out) o K (Dropped context b out L) (Dropped context b out N)
captured_then context b run out w o f D L N K e h k =
    captured_then_by context b run out w f o.ending o.parent o.text o.world D L N K
    (kept_by context.program.host w o.ending o.parent o.text o.world e) h (k o.parent o.text o.world)

-- what follows, in other words
ends_by_map : (context : RunContext) (b : Bed) (e : Ending) (parent : Option TemplateId) (out : List ℕ) (w : World) (D K L N : Then) →
    Ends context b (whole_of e parent out w) D L N →
    (D parent out w → K parent out w) → Ends context b (whole_of e parent out w) K L N
unfolding Ends
ends_by_map context b (done vs) parent out w D K L N h k = k h
ends_by_map context b leave parent out w D K L N h k = h
ends_by_map context b next parent out w D K L N h k = h
ends_by_map context b (fault chain) parent out w D K L N h k = h

pub ends_map : (context : RunContext) (b : Bed) (o : Outcome) (D K L N : Then) → Ends context b o D L N →
    ((parent : Option TemplateId) (out : List ℕ) (w : World) → D parent out w → K parent out w) → Ends context b o K L N
ends_map context b o D K L N h k = ends_by_map context b o.ending o.parent o.text o.world D K L N h (k o.parent o.text o.world)

-- the same of what keeps the scopes
ends_by_map_kept : (context : RunContext) (b : Bed) (w : World) (e : Ending) (parent : Option TemplateId) (out : List ℕ) (world1 : World)
    (D K L N : Then) → EndingKeeps context.program.host w e world1 → Ends context b (whole_of e parent out world1) D L N →
    (Kept w world1 → D parent out world1 → K parent out world1) → Ends context b (whole_of e parent out world1) K L N
unfolding Ends
ends_by_map_kept context b w (done vs) parent out world1 D K L N e h k = k e h
ends_by_map_kept context b w leave parent out world1 D K L N e h k = h
ends_by_map_kept context b w next parent out world1 D K L N e h k = h
ends_by_map_kept context b w (fault chain) parent out world1 D K L N e h k = h

pub ends_map_kept : (context : RunContext) {q : Option TemplateId} (b : Bed) (w : World) (o : Outcome) (D K L N : Then) → OutcomeKeeps context.program.host q w o →
    Ends context b o D L N →
    ((parent : Option TemplateId) (out : List ℕ) (world1 : World) → Kept w world1 → D parent out world1 → K parent out world1) →
    Ends context b o K L N
ends_map_kept context b w o D K L N e h k =
    ends_by_map_kept context b w o.ending o.parent o.text o.world D K L N (kept_by context.program.host w o.ending o.parent o.text o.world
    e) h (k o.parent o.text o.world)

pub leave_then : (context : RunContext) (b : Bed) (run : Run) (out : List ℕ) (w : World) (D L N : Then) →
    Ends context b (ended leave run out w) D L N → L run.parent out w
unfolding Ends
leave_then context b run out w D L N h = h

pub next_then : (context : RunContext) (b : Bed) (run : Run) (out : List ℕ) (w : World) (D L N : Then) →
    Ends context b (ended next run out w) D L N → N run.parent out w
unfolding Ends
next_then context b run out w D L N h = h

-- ---------------------------------------------------------------- loops
-- what follows after a round, charged: what comes next
abbrev pub Goes : RunContext → Bed → Run → (Run → List ℕ → World → Outcome) → Then → Then → Then → Then
Goes context b run g D L N q out w = Ends context b (use_it (tick w) (record run { parent = q }) out
    (λ _ world1. g (record run { parent = q }) out world1)) D L N

-- a round's end, of its body's
round_by : (context : RunContext) (b : Bed) (run : Run) (e : Ending) (parent : Option TemplateId) (out : List ℕ) (w : World)
    (g : Run → List ℕ → World → Outcome) (D L N : Then) →
    Ends context b (round_end e (record run { parent = parent }) (whole_of e parent out w) g) D L N →
    Ends context b (whole_of e parent out w) (Goes context b run g D L N) (Goes context b run
    (λ run1 out1 world1. so_far run1 out1 (leave_loop world1)) D L N) (Goes context b run g D L N)
unfolding Ends
round_by context b run (done vs) parent out w g D L N h = h
round_by context b run leave parent out w g D L N h = h
round_by context b run next parent out w g D L N h = h
round_by context b run (fault chain) parent out w g D L N h = h

pub round_then : (context : RunContext) (b : Bed) (run : Run) (o : Outcome) (g : Run → List ℕ → World → Outcome) (D L N : Then) →
    Ends context b (round_end o.ending (record run { parent = o.parent }) o g) D L N →
    Ends context b o (Goes context b run g D L N) (Goes context b run (λ run1 out1 world1. so_far run1 out1 (leave_loop world1)) D L N)
    (Goes context b run g D L N)
round_then context b run o g D L N h = round_by context b run o.ending o.parent o.text o.world g D L N h

-- a loop opened, where there is room for its scope
pub opened_then : (context : RunContext) (b : Bed) (g0 : LoopFlags) (n : ℕ) (w : World) (vs : List Val) (room : Bool) (run : Run)
    (out : List ℕ) (g : Unit {0} → World → Outcome) (D L N : Then) (K : World → Type 0) →
    Ends context b (use_it (bind (one_more room (loop_scope (mark_after g0 w)) w) (λ _ world1. recorded g0 n vs w world1)) run out g) D L
    N → (room ≡ true → Ends context b (g tt (opened g0 n w vs)) D L N → K (opened g0 n w vs)) →
    Follows context (told_by b out) (bind (one_more room (loop_scope (mark_after g0 w)) w) (λ _ world1. recorded g0 n vs w world1))
    (λ _ world1. K world1)
unfolding Ends
opened_then context b g0 n w vs true run out g D L N K h k = k refl h
opened_then context b g0 n w vs false run out g D L N K h k = h

-- the same before values
pub opened_follows : {A : Type 0} (context : RunContext) (t : List ℕ) (g : LoopFlags) (n : ℕ) (w : World) (vs : List Val) (room : Bool)
    (rest : World → Res A) (K : A → World → Type 0) (L : World → Type 0) →
    Follows context t (bind (bind (one_more room (loop_scope (mark_after g w)) w) (λ _ world1. recorded g n vs w world1))
    (λ _ x. rest x)) K → (room ≡ true → Follows context t (rest (opened g n w vs)) K → L (opened g n w vs)) →
    Follows context t (bind (one_more room (loop_scope (mark_after g w)) w) (λ _ world1. recorded g n vs w world1)) (λ _ world1. L world1)
opened_follows context t g n w vs true rest K L h k = k refl h
opened_follows context t g n w vs false rest K L h k = h

module _ (context : RunContext) where
  -- the machine comes from here to the end
  abbrev pub Go : Spot → ℕ → List Val → World → Type 0
  Go s pc stack w = LeadsToEnd context (told s) (step context.program context.base (cfg s pc stack w))

  -- a step that writes nothing
  pub silent : (t : List ℕ) (c : Config) → LeadsToEnd context t (step context.program context.base c) → LeadsToEnd context t (More [] c)
  silent t c l = more refl (subst (λ u. LeadsToEnd context u (step context.program context.base c)) (sym (append-nil t)) l)

  -- an instruction at its place
  pub at : (i : Instruction) (s : Spot) (pc : ℕ) (stack : List Val) (w : World) →
      slice_get (context.program.code s.run.stream) pc ≡ Some i →
      LeadsToEnd context (told s) (act context.program context.base (Some i) (cfg s pc stack w)) → Go s pc stack w
  at i s pc stack w e l = subst (λ o. LeadsToEnd context (told s) (act context.program context.base o (cfg s pc stack w))) (sym e) l

  pub after_then : {A : Type 0} (t : List ℕ) (m : Res A) (g : A → World → Next) →
      Follows context t m (λ a w. LeadsToEnd context t (g a w)) →
      LeadsToEnd context t (after m g)
  after_then t (Good a w) g h = h
  after_then t (Bad chain w) g h = over refl h

  pub move : (s : Spot) (m n : ℕ) (stack : List Val) (w : World) → m ≡ n → Go s n stack w → Go s m stack w
  move s m n stack w e g = subst (λ k. Go s k stack w) (sym e) g

  -- a value is pushed, and the next place follows
  pub pushes : (s : Spot) (pc : ℕ) (stack old : List Val) (w : World) (m : Res Val) →
      Follows context (told s) m (λ v world1. Go s (pc + 1) (v ∷ stack) world1) →
      LeadsToEnd context (told s) (after m (λ v world1. goes (v ∷ stack) world1 (cfg s pc old w)))
  pushes s pc stack old w m h = after_then (told s) m _ (follows_map context (told s) m _ _ h (λ v world1 g. silent (told s) _ g))

  -- one of two, by a truth value
  pub choose_then : {A : Type 0} (b : Bool) (m1 m2 : Res A) (n1 n2 : Next) (t : List ℕ) (K : A → World → Type 0) →
      Follows context t (choose b (λ _. m1) (λ _. m2)) K → (Follows context t m1 K → LeadsToEnd context t n1) →
      (Follows context t m2 K → LeadsToEnd context t n2) → LeadsToEnd context t (choose b (λ _. n1) (λ _. n2))
  choose_then true m1 m2 n1 n2 t K h k l = k h
  choose_then false m1 m2 n1 n2 t K h k l = l h

  pub choose_ends : (b : Bool) (o1 o2 : Outcome) (n1 n2 : Next) (t : List ℕ) (bed : Bed) (D L N : Then) →
      Ends context bed (choose b (λ _. o1) (λ _. o2)) D L N → (Ends context bed o1 D L N → LeadsToEnd context t n1) →
      (Ends context bed o2 D L N → LeadsToEnd context t n2) → LeadsToEnd context t (choose b (λ _. n1) (λ _. n2))
  choose_ends true o1 o2 n1 n2 t bed D L N h k l = k h
  choose_ends false o1 o2 n1 n2 t bed D L N h k l = l h
