-- What results and outcomes keep, and of which kinds their faults are.
use Rattle.std.proofs.Common.{◌≡◌, ℕ, ◌+◌, ◌≤◌, List, [], ◌∷◌, Option, Some, None, Bool, true, false, Ok, Err, nat_lt, refl, sym, subst, ap, arith}
use Rattle.tm_values.specs.Answer.{Answer}
use Rattle.tm_values.specs.Val.{Val}
use Rattle.tm_values.specs.declared.error.ErrorKind.{ErrorKind}
use Rattle.tm_values.specs.declared.error.ErrorKind.TheVariants.{InvalidOperation}
use Rattle.tm_trees.specs.Instructions.{LoopFlags}
use Rattle.tm_syntax.specs.Code.{for_flags}
use Rattle.tm_meaning.specs.World.{choose, World, HostValue, Scope, loop_scope, next_turn, cleared, Res, Good, Bad, bind, answered, can_be_paid, charged}
use Rattle.tm_meaning.specs.World.{with_fuel, tick, leave_loop, leaving_of, depth, ticked, top_mark, turned_of}
use Rattle.tm_meaning.specs.declared.mark.LoopMark.{LoopMark}
use Rattle.tm_meaning.specs.Inheritance.{count_left, names_left}
use Rattle.tm_meaning.specs.Meaning.{Run, Outcome, Ending, done, leave, next, fault, use_it, then_do, so_far, ended}
use Rattle.tm_meaning.specs.Meaning.{closing_by, closing, captured_by, captured, round_end, rounds, loop_over}
use Rattle.tm_meaning.specs.declared.stream.TemplateId.{TemplateId}
use Rattle.tm_simulation.specs.Chains.{is_raised, Arises, raised, AnswersOnly}
use Rattle.tm_simulation.proofs.Raised.{Raises, raised_arise}
use Rattle.tm_simulation.specs.Kept.{Differs, in_closure_too}
use Rattle.tm_simulation.proofs.Advances.{AdvancesBut, KeptBut, Kept, advances_then, lasts_by_fuel, advances_same, kept_same}
use Rattle.tm_simulation.proofs.Advances.{kept_then, Lasts, kept_advances, kept_wider, advances_over}
use Rattle.tm_simulation.proofs.Advances.{kept_lasting, within, one_more, kept_cleared}
use Rattle.tm_simulation.proofs.RunAdvances.{in_stream, mark_after, in_loop_of}
use Rattle.tm_simulation.proofs.RunAdvances.{kept_left, kept_turned, kept_in, names_last}
use Rattle.tm_meaning.specs.declared.stream.StreamId.{StreamId}
use Rattle.tm_simulation.proofs.RunAdvances.{advances_around, opened, opened_kept, recorded, NoMore, charged_by}

-- Where evaluation gives a value the world is kept, and where it ends in a fault that advances it, by a chain that arises.
abbrev pub GivesBut : {A : Type 0} → Differs → HostValue → World → Res A → Type 0
GivesBut i host w (Good a world1) = KeptBut i w world1
GivesBut i host w (Bad chain world1) = AdvancesBut i host w world1 × Arises host chain

-- the same where closures may be made too
abbrev pub Gives : {A : Type 0} → HostValue → World → Res A → Type 0
Gives host w m = GivesBut in_closure_too host w m

-- So do statements, by their ending.
abbrev pub EndingKeepsBut : Differs → HostValue → World → Ending → World → Type 0
EndingKeepsBut i host w (done vs) world1 = KeptBut i w world1
EndingKeepsBut i host w leave world1 = KeptBut i w world1
EndingKeepsBut i host w next world1 = KeptBut i w world1
EndingKeepsBut i host w (fault chain) world1 = AdvancesBut i host w world1 × Arises host chain

abbrev pub EndingKeeps : HostValue → World → Ending → World → Type 0
EndingKeeps host w e world1 = EndingKeepsBut in_closure_too host w e world1

-- how many parents may be asked for from here on, and one more where one waits
abbrev pub waiting : Option TemplateId → ℕ
waiting None = 0
waiting (Some t) = 1

abbrev pub parents_left : HostValue → Option TemplateId → World → ℕ
parents_left host q w = waiting q + names_left host w

-- And statements that begin where this parent waits ask for a parent only where a name fewer is left.
pub record OutcomeKeepsBut (i : Differs) (host : HostValue) (q : Option TemplateId) (w : World) (o : Outcome) : Type 0 where
  pub keeps : EndingKeepsBut i host w o.ending o.world
  pub parents : parents_left host o.parent o.world ≤ parents_left host q w

abbrev pub OutcomeKeeps : HostValue → Option TemplateId → World → Outcome → Type 0
OutcomeKeeps host q w o = OutcomeKeepsBut in_closure_too host q w o

pub ends_as : {i : Differs} (host : HostValue) {q : Option TemplateId} (w : World) (o : Outcome) → OutcomeKeepsBut i host q w o →
    EndingKeepsBut i host w o.ending o.world
ends_as host w o h = h.keeps

pub ends_parents : {i : Differs} (host : HostValue) {q : Option TemplateId} (w : World) (o : Outcome) → OutcomeKeepsBut i host q w o →
    parents_left host o.parent o.world ≤ parents_left host q w
ends_parents host w o h = h.parents

-- by its parts
pub ends_from : {i : Differs} (host : HostValue) {q : Option TemplateId} (w : World) (o : Outcome) →
    EndingKeepsBut i host w o.ending o.world → parents_left host o.parent o.world ≤ parents_left host q w → OutcomeKeepsBut i host q w o
ends_from host w o h p = record { keeps = h; parents = p }

-- no more are left after what lasts
pub parents_last : (host : HostValue) (q : Option TemplateId) {w world1 : World} → Lasts w world1 →
    parents_left host q world1 ≤ parents_left host q w
parents_last host q h = omega (arith, names_last host h)

pub ends_advance : {i : Differs} (host : HostValue) (w : World) (e : Ending) (world1 : World) → EndingKeepsBut i host w e world1 →
    AdvancesBut i host w world1
ends_advance host w (done vs) world1 h = kept_advances h
ends_advance host w leave world1 h = kept_advances h
ends_advance host w next world1 h = kept_advances h
ends_advance host w (fault chain) world1 h = h.0

-- A run ends so too, but for the stream in which it ends.
unfoldable pub RunEnds : HostValue → World → Outcome → Type 0
RunEnds host w o = EndingKeeps host (in_stream o.world.stream w) o.ending o.world

pub run_ends_as : (host : HostValue) (w : World) (o : Outcome) → RunEnds host w o →
    EndingKeeps host (in_stream o.world.stream w) o.ending o.world
unfolding RunEnds
run_ends_as host w o h = h

pub run_ends_by : (host : HostValue) (w : World) (o : Outcome) → EndingKeeps host w o.ending o.world → RunEnds host w o
unfolding RunEnds
run_ends_by host w o h =
    subst (λ s. EndingKeeps host (in_stream s w) o.ending o.world) (sym (ends_advance host w o.ending o.world h).same_stream) h

pub run_ends : (host : HostValue) {q : Option TemplateId} (w : World) (o : Outcome) → OutcomeKeeps host q w o → RunEnds host w o
run_ends host w o h = run_ends_by host w o (ends_as host w o h)

pub run_ends_from : (host : HostValue) (w : World) (o : Outcome) → EndingKeeps host (in_stream o.world.stream w) o.ending o.world →
    RunEnds host w o
unfolding RunEnds
run_ends_from host w o h = h

after_kept : (host : HostValue) (w v : World) (e : Ending) (world1 : World) → Kept w v → EndingKeeps host v e world1 →
    EndingKeeps host w e world1
after_kept host w v (done vs) world1 h k = kept_then h k
after_kept host w v leave world1 h k = kept_then h k
after_kept host w v next world1 h k = kept_then h k
after_kept host w v (fault chain) world1 h k = (advances_then (kept_advances h) k.0, k.1)

-- and after another one, in whichever stream it begins
pub run_ends_after : (host : HostValue) (w v : World) (s : StreamId) (o : Outcome) → Kept w v → RunEnds host (in_stream s v) o →
    RunEnds host w o
run_ends_after host w v s o h k =
    let there = o.world.stream in
    run_ends_from host w o (after_kept host (in_stream there w) (in_stream there v) o.ending o.world (kept_in there h)
    (run_ends_as host (in_stream s v) o k))

-- asking a loop for its next item loads nothing
turned_loaded : (o : Option LoopMark) (w : World) → (turned_of o w).loaded ≡ w.loaded
turned_loaded None w = refl
turned_loaded (Some m) w = refl

next_names : (host : HostValue) (w : World) → names_left host (next_turn w) ≡ names_left host w
next_names host w = ap (count_left host.templates) (turned_loaded (top_mark w.scopes.frames) w)

-- leaving a loop loads nothing either
leaving_loaded : (o : Option LoopMark) (w : World) → (leaving_of o w).loaded ≡ w.loaded
leaving_loaded None w = refl
leaving_loaded (Some m) w = refl

leaving_names : (host : HostValue) (w : World) → names_left host (leave_loop w) ≡ names_left host w
leaving_names host w = ap (count_left host.templates) (leaving_loaded (top_mark w.scopes.frames) w)

-- ---------------------------------------------------------------- results
module _ {i : Differs} (host : HostValue) where
  pub refused_arises : (w : World) (kind : ErrorKind) → is_raised kind ≡ true → AdvancesBut i host w w × Arises host (kind ∷ [])
  refused_arises w kind e = (advances_same w, raised e)

  pub gives_then : {A : Type 0} (w world1 : World) (m : Res A) → KeptBut i w world1 → GivesBut i host world1 m → GivesBut i host w m
  gives_then w world1 (Good a world2) h k = kept_then h k
  gives_then w world1 (Bad chain world2) h k = (advances_then (kept_advances h) k.0, k.1)

  -- what follows from what the first part keeps
  pub gives_kept : {A B : Type 0} (w world1 : World) (m : Res A) (g : A → World → Res B) → AdvancesBut i host w world1 →
      GivesBut i host world1 m → ((a : A) (world2 : World) → KeptBut i world1 world2 → GivesBut i host w (g a world2)) →
      GivesBut i host w (bind m g)
  gives_kept w world1 (Good a world2) g l h k = k a world2 h
  gives_kept w world1 (Bad chain world2) g l h k = (advances_then l h.0, h.1)

-- The same of results whose type doesn't tell what may differ.
module _ (i : Differs) (host : HostValue) where
  pub gives_bind : {A B : Type 0} (w : World) (m : Res A) (g : A → World → Res B) → GivesBut i host w m →
      ((a : A) (world1 : World) → GivesBut i host world1 (g a world1)) → GivesBut i host w (bind m g)
  gives_bind w (Good a world1) g h k = gives_then host w world1 (g a world1) h (k a world1)
  gives_bind w (Bad chain world1) g h k = h

  pub choose_gives : {A : Type 0} (w : World) (b : Bool) (m n : Res A) → GivesBut i host w m → GivesBut i host w n →
      GivesBut i host w (choose b (λ _. m) (λ _. n))
  choose_gives w true m n h k = h
  choose_gives w false m n h k = k

  fuel_gives : (left : Option ℕ) (w : World) → NoMore left w.fuel → GivesBut i host w (with_fuel left w)
  fuel_gives (Some left) w less = kept_lasting (lasts_by_fuel w left less) refl refl refl refl
  fuel_gives None w less = (kept_advances (kept_lasting (lasts_by_fuel w 0 (omega arith)) refl refl refl refl), raised refl)

  pub tick_gives : (w : World) → GivesBut i host w (tick w)
  tick_gives w = fuel_gives (charged 1 w.fuel) w (charged_by false (can_be_paid 1 w.fuel) 1 w.fuel)

  pub ticked_gives : {A : Type 0} (w : World) (f : World → Res A) → ((world1 : World) → GivesBut i host world1 (f world1)) →
      GivesBut i host w (ticked w f)
  ticked_gives w f k = gives_bind w (tick w) (λ _ world1. f world1) (tick_gives w) (λ _ world1. k world1)

  -- what an operation answers, where each fault of it arises, as each that it raises does
  pub answered_gives : {A : Type 0} (answer : Answer A) (w : World) → AnswersOnly (Arises host) answer →
      GivesBut i host w (answered answer w)
  answered_gives (Ok a) w h = kept_same w
  answered_gives (Err chain) w h = (advances_same w, h)

  pub operation_gives : {A : Type 0} (answer : Answer A) (w : World) → Raises answer → GivesBut i host w (answered answer w)
  operation_gives answer w h = answered_gives answer w (raised_arise host answer h)

  -- in a scope more, where there is room for it
  pub room_gives : {A B : Type 0} (w : World) (s : Scope) (room : Bool) (rest : World → Res A) (g : A → World → Res B) →
      (room ≡ true → GivesBut i host w (bind (rest (within s w)) g)) →
      GivesBut i host w (bind (bind (one_more room s w) (λ _ x. rest x)) g)
  room_gives w s true rest g h = h refl
  room_gives w s false rest g h = refused_arises host w InvalidOperation refl

-- ---------------------------------------------------------------- outcomes
module _ {i : Differs} (host : HostValue) where
  ends_by_then : (w world1 : World) (e : Ending) (world2 : World) → KeptBut i w world1 → EndingKeepsBut i host world1 e world2 →
      EndingKeepsBut i host w e world2
  ends_by_then w world1 (done vs) world2 h k = kept_then h k
  ends_by_then w world1 leave world2 h k = kept_then h k
  ends_by_then w world1 next world2 h k = kept_then h k
  ends_by_then w world1 (fault chain) world2 h k = (advances_then (kept_advances h) k.0, k.1)

  pub ends_here : (w world1 : World) (run : Run) (out : List ℕ) → KeptBut i w world1 →
      OutcomeKeepsBut i host run.parent w (so_far run out world1)
  ends_here w world1 run out h = ends_from host w (so_far run out world1) h (parents_last host run.parent h.lasts)

  pub ends_fault : (w world1 : World) (run : Run) (out : List ℕ) (chain : List ErrorKind) → AdvancesBut i host w world1 →
      Arises host chain → OutcomeKeepsBut i host run.parent w (ended (fault chain) run out world1)
  ends_fault w world1 run out chain h a =
      ends_from host w (ended (fault chain) run out world1) (h, a) (parents_last host run.parent h.lasts)

  pub ends_refused : (w : World) (run : Run) (out : List ℕ) (kind : ErrorKind) → is_raised kind ≡ true →
      OutcomeKeepsBut i host run.parent w (ended (fault (kind ∷ [])) run out w)
  ends_refused w run out kind e = ends_fault w w run out (kind ∷ []) (advances_same w) (raised e)

  -- after what keeps the world and leaves as many parents
  pub ends_after : {q q1 : Option TemplateId} (w world1 : World) (o : Outcome) → KeptBut i w world1 →
      parents_left host q1 world1 ≤ parents_left host q w → OutcomeKeepsBut i host q1 world1 o → OutcomeKeepsBut i host q w o
  ends_after w world1 o h p k =
      ends_from host w o (ends_by_then w world1 o.ending o.world h (ends_as host world1 o k)) (omega (arith, p, ends_parents host world1 o k))

  pub ends_then : {q : Option TemplateId} (w world1 : World) (o : Outcome) → KeptBut i w world1 → OutcomeKeepsBut i host q world1 o →
      OutcomeKeepsBut i host q w o
  ends_then {q = q} w world1 o h k = ends_after w world1 o h (parents_last host q h.lasts) k

  pub ends_use : {A : Type 0} (w : World) (m : Res A) (run : Run) (out : List ℕ) (g : A → World → Outcome) → GivesBut i host w m →
      ((a : A) (world1 : World) → OutcomeKeepsBut i host run.parent world1 (g a world1)) →
      OutcomeKeepsBut i host run.parent w (use_it m run out g)
  ends_use w (Good a world1) run out g h k = ends_then w world1 (g a world1) h (k a world1)
  ends_use w (Bad chain world1) run out g h k = ends_fault w world1 run out chain h.0 h.1

  ends_on_done : {q : Option TemplateId} (w : World) (run : Run) (e : Ending) (parent : Option TemplateId) (out : List ℕ) (world1 : World)
      (g : Run → List ℕ → World → Outcome) → EndingKeepsBut i host w e world1 →
      parents_left host parent world1 ≤ parents_left host q w →
      ((run1 : Run) (out1 : List ℕ) (world2 : World) → OutcomeKeepsBut i host run1.parent world2 (g run1 out1 world2)) →
      OutcomeKeepsBut i host q w (then_do run (record { ending = e; parent = parent; text = out; world = world1 }) g)
  ends_on_done w run (done vs) parent out world1 g h p k =
      ends_after w world1 (g (record run { parent = parent }) out world1) h p (k (record run { parent = parent }) out world1)
  ends_on_done w run leave parent out world1 g h p k = ends_from host w _ h p
  ends_on_done w run next parent out world1 g h p k = ends_from host w _ h p
  ends_on_done w run (fault chain) parent out world1 g h p k = ends_from host w _ h p

  pub ends_do : {q : Option TemplateId} (w : World) (run : Run) (o : Outcome) (g : Run → List ℕ → World → Outcome) →
      OutcomeKeepsBut i host q w o →
      ((run1 : Run) (out1 : List ℕ) (world2 : World) → OutcomeKeepsBut i host run1.parent world2 (g run1 out1 world2)) →
      OutcomeKeepsBut i host q w (then_do run o g)
  ends_do w run o g h k =
      ends_on_done w run o.ending o.parent o.text o.world g (ends_as host w o h) (ends_parents host w o h) k

  pub ends_leave : (w : World) (run : Run) (out : List ℕ) → OutcomeKeepsBut i host run.parent w (ended leave run out w)
  ends_leave w run out = ends_from host w (ended leave run out w) (kept_same w) (omega arith)

  pub ends_next : (w : World) (run : Run) (out : List ℕ) → OutcomeKeepsBut i host run.parent w (ended next run out w)
  ends_next w run out = ends_from host w (ended next run out w) (kept_same w) (omega arith)

  pub choose_ends : {q : Option TemplateId} (w : World) (b : Bool) (o p : Outcome) → OutcomeKeepsBut i host q w o →
      OutcomeKeepsBut i host q w p → OutcomeKeepsBut i host q w (choose b (λ _. o) (λ _. p))
  choose_ends w true o p h k = h
  choose_ends w false o p h k = k

  -- what follows from what is kept
  ends_kept_at : {A : Type 0} {q : Option TemplateId} (w world1 : World) (m : Res A) (run : Run) (out : List ℕ)
      (g : A → World → Outcome) → AdvancesBut i host w world1 → parents_left host run.parent world1 ≤ parents_left host q w →
      GivesBut i host world1 m → ((a : A) (world2 : World) → KeptBut i world1 world2 → OutcomeKeepsBut i host q w (g a world2)) →
      OutcomeKeepsBut i host q w (use_it m run out g)
  ends_kept_at w world1 (Good a world2) run out g l p h k = k a world2 h
  ends_kept_at w world1 (Bad chain world2) run out g l p h k =
      ends_from host w (ended (fault chain) run out world2) (advances_then l h.0, h.1)
      (omega (arith, p, parents_last host run.parent h.0.lasts))

  pub ends_kept : {A : Type 0} (w world1 : World) (m : Res A) (run : Run) (out : List ℕ) (g : A → World → Outcome) →
      AdvancesBut i host w world1 → GivesBut i host world1 m →
      ((a : A) (world2 : World) → KeptBut i world1 world2 → OutcomeKeepsBut i host run.parent w (g a world2)) →
      OutcomeKeepsBut i host run.parent w (use_it m run out g)
  ends_kept w world1 m run out g l h k = ends_kept_at w world1 m run out g l (parents_last host run.parent l.lasts) h k

  -- in a scope more, where there is room for it
  pub ends_within : (w : World) (s : Scope) (room : Bool) (run : Run) (out : List ℕ) (g : Unit {0} → World → Outcome) →
      (room ≡ true → OutcomeKeepsBut i host run.parent w (g tt (within s w))) →
      OutcomeKeepsBut i host run.parent w (use_it (one_more room s w) run out g)
  ends_within w s true run out g h = h refl
  ends_within w s false run out g h = ends_refused w run out InvalidOperation refl

  -- and after it, whatever the ending
  closed_parents : (q : Option TemplateId) (w v : World) (close : World → World) → AdvancesBut i host w v →
      ((x : World) → (close x).loaded ≡ x.loaded) → (parent : Option TemplateId) (world1 : World) →
      parents_left host parent world1 ≤ parents_left host q v → parents_left host parent (close world1) ≤ parents_left host q w
  closed_parents q w v close l same parent world1 p =
      let left : names_left host (close world1) ≡ names_left host world1 = ap (count_left host.templates) (same world1) in
      omega (arith, p, parents_last host q l.lasts, left)

  closing_by_ends : {q : Option TemplateId} (w v : World) (close : World → World) → AdvancesBut i host w v →
      ((x : World) → KeptBut i v x → KeptBut i w (close x)) → ((x : World) → (close x).loaded ≡ x.loaded) →
      (e : Ending) (parent : Option TemplateId) (out : List ℕ) (world1 : World) → EndingKeepsBut i host v e world1 →
      parents_left host parent world1 ≤ parents_left host q v →
      OutcomeKeepsBut i host q w (closing_by e close (record { ending = e; parent = parent; text = out; world = world1 }))
  closing_by_ends {q = q} w v close l k same (fault chain) parent out world1 h p =
      ends_from host w _ (advances_then l h.0, h.1) (omega (arith, p, parents_last host q l.lasts))
  closing_by_ends {q = q} w v close l k same (done vs) parent out world1 h p =
      ends_from host w _ (k world1 h) (closed_parents q w v close l same parent world1 p)
  closing_by_ends {q = q} w v close l k same leave parent out world1 h p =
      ends_from host w _ (k world1 h) (closed_parents q w v close l same parent world1 p)
  closing_by_ends {q = q} w v close l k same next parent out world1 h p =
      ends_from host w _ (k world1 h) (closed_parents q w v close l same parent world1 p)

  pub closing_ends : {q : Option TemplateId} (w v : World) (close : World → World) → AdvancesBut i host w v →
      ((x : World) → KeptBut i v x → KeptBut i w (close x)) → ((x : World) → (close x).loaded ≡ x.loaded) →
      (o : Outcome) → OutcomeKeepsBut i host q v o → OutcomeKeepsBut i host q w (closing close o)
  closing_ends w v close l k same o h =
      closing_by_ends w v close l k same o.ending o.parent o.text o.world (ends_as host v o h) (ends_parents host v o h)

  -- after a capture
  captured_by_ends : {q : Option TemplateId} (w : World) (run : Run) (out : List ℕ) (f : Run → List ℕ → World → Outcome) →
      ((run1 : Run) (x : List ℕ) (world1 : World) → OutcomeKeepsBut i host run1.parent world1 (f run1 x world1)) →
      (e : Ending) (x : List ℕ) (world1 : World) → EndingKeepsBut i host w e world1 →
      parents_left host run.parent world1 ≤ parents_left host q w →
      OutcomeKeepsBut i host q w (captured_by e (record { ending = e; parent = run.parent; text = x; world = world1 }) run out f)
  captured_by_ends w run out f k (done vs) x world1 h p = ends_after w world1 (f run x world1) h p (k run x world1)
  captured_by_ends w run out f k leave x world1 h p =
      ends_kept_at w world1 (tick world1) run out _ (kept_advances h) p (tick_gives i host world1)
      (λ _ world2 h2. ends_from host w _ (kept_then h h2) (omega (arith, p, parents_last host run.parent h2.lasts)))
  captured_by_ends w run out f k next x world1 h p =
      ends_kept_at w world1 (tick world1) run out _ (kept_advances h) p (tick_gives i host world1)
      (λ _ world2 h2. ends_from host w _ (kept_then h h2) (omega (arith, p, parents_last host run.parent h2.lasts)))
  captured_by_ends w run out f k (fault chain) x world1 h p = ends_from host w (ended (fault chain) run out world1) h p

  pub captured_ends : {q : Option TemplateId} (w : World) (run : Run) (out : List ℕ) (o : Outcome)
      (f : Run → List ℕ → World → Outcome) → OutcomeKeepsBut i host q w o →
      ((run1 : Run) (x : List ℕ) (world1 : World) → OutcomeKeepsBut i host run1.parent world1 (f run1 x world1)) →
      OutcomeKeepsBut i host q w (captured o run out f)
  captured_ends w run out o f h k =
      captured_by_ends w (record run { parent = o.parent }) out f k o.ending o.text o.world (ends_as host w o h) (ends_parents host w o h)

  -- ---------------------------------------------------------------- loops
  -- In a loop's scope, for which there was room, closures may be made: around it none differs.
  module _ (w : World) (room : nat_lt (depth w.scopes) host.limit ≡ true) where
    -- a round's end
    round_end_ends : {q : Option TemplateId} (x : World) (run : Run) (f : Run → List ℕ → World → Outcome) →
        ((run1 : Run) (out1 : List ℕ) (world1 : World) → Kept (in_loop_of (for_flags false) w) world1 →
        parents_left host run1.parent world1 ≤ parents_left host q w → OutcomeKeepsBut i host q w (f run1 out1 world1)) →
        (e : Ending) (out : List ℕ) (world1 : World) → Kept (in_loop_of (for_flags false) w) x →
        EndingKeeps host x e world1 → parents_left host run.parent world1 ≤ parents_left host q w → OutcomeKeepsBut i host q w
        (round_end e run (record { ending = e; parent = run.parent; text = out; world = world1 }) f)
    round_end_ends x run f k (done vs) out world1 j h p =
        ends_kept_at w world1 (tick world1) run out _ (advances_around (for_flags false) w world1 room (kept_then j h)) p
        (tick_gives i host world1)
        (λ _ world2 h2. k run out world2 (kept_then j (kept_then h (kept_wider h2)))
        (omega (arith, p, parents_last host run.parent h2.lasts)))
    round_end_ends x run f k leave out world1 j h p =
        ends_kept_at w world1 (tick world1) run out _ (advances_around (for_flags false) w world1 room (kept_then j h)) p
        (tick_gives i host world1)
        (λ _ world2 h2. ends_from host w _
        (kept_left (for_flags false) w world2 (kept_then j (kept_then h (kept_wider h2))))
        (omega (arith, p, parents_last host run.parent h2.lasts, leaving_names host world2)))
    round_end_ends x run f k next out world1 j h p =
        ends_kept_at w world1 (tick world1) run out _ (advances_around (for_flags false) w world1 room (kept_then j h)) p
        (tick_gives i host world1)
        (λ _ world2 h2. k run out world2 (kept_then j (kept_then h (kept_wider h2)))
        (omega (arith, p, parents_last host run.parent h2.lasts)))
    round_end_ends x run f k (fault chain) out world1 j h p =
        ends_from host w _
        (advances_over (loop_scope (mark_after (for_flags false) w)) w room (advances_then (kept_advances j) h.0), h.1) p

    -- A loop's rounds leave what lies around it.
    rounds_end : {q : Option TemplateId} (turn : Val → Run → List ℕ → World → Outcome) →
        ((v : Val) (run : Run) (out : List ℕ) (x : World) → OutcomeKeeps host run.parent x (turn v run out x)) →
        (vs : List Val) (run : Run) (out : List ℕ) (world1 : World) → Kept (in_loop_of (for_flags false) w) world1 →
        parents_left host run.parent world1 ≤ parents_left host q w → OutcomeKeepsBut i host q w (rounds turn vs run out world1)
    rounds_end turn k [] run out world1 j p =
        ends_kept_at w world1 (tick world1) run out _ (advances_around (for_flags false) w world1 room j) p (tick_gives i host world1)
        (λ _ world2 h.
        let x = next_turn world2 in
        let turned = kept_turned (for_flags false) w world2 (kept_then j (kept_wider h)) in
        ends_from host w (so_far run out (leave_loop x)) (kept_left (for_flags false) w x turned)
        (omega (arith, p, parents_last host run.parent h.lasts, next_names host world2, leaving_names host x)))
    rounds_end {q = q} turn k (v ∷ vs) run out world1 j p =
        ends_kept_at w world1 (tick world1) run out _ (advances_around (for_flags false) w world1 room j) p (tick_gives i host world1)
        (λ _ world2 h.
        let x = cleared (next_turn world2) in
        let o = turn v run out x in
        let ends = k v run out x in
        round_end_ends x (record run { parent = o.parent }) _ (λ run1 out1 world3 j1 p1. rounds_end turn k vs run1 out1 world3 j1 p1)
        o.ending o.text o.world (kept_cleared (kept_turned (for_flags false) w world2 (kept_then j (kept_wider h)))) (ends_as host x o ends)
        (omega (arith, p, parents_last host run.parent h.lasts, next_names host world2, ends_parents host x o ends)))

  opened_ends : (n : ℕ) (recursive : Bool) (w : World) (vs : List Val) (turn : Val → Run → List ℕ → World → Outcome) →
      ((v : Val) (run : Run) (out : List ℕ) (x : World) → OutcomeKeeps host run.parent x (turn v run out x)) →
      (run : Run) (out : List ℕ) (room : Bool) → nat_lt (depth w.scopes) host.limit ≡ room →
      let opening = one_more room (loop_scope (mark_after (for_flags false) w)) w in
      OutcomeKeepsBut i host run.parent w (use_it (bind opening (λ _ world1. recorded (for_flags recursive) n vs w world1)) run out
      (λ _ world1. rounds turn vs run out world1))
  opened_ends n recursive w vs turn k run out true is =
      rounds_end w is turn k vs run out _ (opened_kept (for_flags recursive) n w vs) (omega arith)
  opened_ends n recursive w vs turn k run out false is = ends_refused w run out InvalidOperation refl

module _ (i : Differs) (host : HostValue) where
  -- what stands in a loop that was opened, where there is room for it
  pub opened_gives : {A : Type 0} (g : LoopFlags) (n : ℕ) (w : World) (vs : List Val) (room : Bool) (rest : World → Res A) →
      (room ≡ true → GivesBut i host w (rest (opened g n w vs))) →
      let opening = one_more room (loop_scope (mark_after g w)) w in
      GivesBut i host w (bind (bind opening (λ _ world1. recorded g n vs w world1)) (λ _ x. rest x))
  opened_gives g n w vs true rest k = k refl
  opened_gives g n w vs false rest k = refused_arises host w InvalidOperation refl

pub loop_ends : {i : Differs} (host : HostValue) (n : ℕ) (recursive : Bool) (w : World) (turn : Val → Run → List ℕ → World → Outcome) →
    ((v : Val) (run : Run) (out : List ℕ) (x : World) → OutcomeKeeps host run.parent x (turn v run out x)) →
    (vs : List Val) (run : Run) (out : List ℕ) → OutcomeKeepsBut i host run.parent w (loop_over host n recursive turn vs run out w)
loop_ends host n recursive w turn k vs run out =
    opened_ends host n recursive w vs turn k run out (nat_lt (depth w.scopes) host.limit) refl
