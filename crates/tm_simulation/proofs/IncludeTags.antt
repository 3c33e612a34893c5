-- The code of statements that run another template does what they mean.
use Rattle.std.proofs.Common.{◌≡◌, ℕ, ◌+◌, ◌≤◌, List, [], ◌∷◌, length, nat_lt, Option, Some, Bool, true, false, refl, sym, subst, arith}
use Rattle.std.specs.Prelude.{slice_get}
use Rattle.tm_values.specs.Val.{Val, undefined}
use Rattle.tm_trees.specs.Trees.{Expr, AssignmentTarget, Imported}
use Rattle.tm_trees.specs.Instructions.{CaptureMode, Instruction}
use Rattle.tm_trees.specs.Instructions.modes.{Capture, Discard}
use Rattle.tm_trees.specs.Instructions.instructions as i
use Rattle.tm_syntax.specs.Fragments.{◌⨾◌, straight, Labels, beyond}
use Rattle.tm_syntax.specs.Code.{expr_code, target_code, included_code, lookups_code, stores_code}
use Rattle.tm_meaning.specs.declared.stream.TemplateId.{TemplateId}
use Rattle.tm_meaning.specs.World.{World, Scope, Res, Good, Bad, bind, tick, pop, push, depth, plain_scope, looked_up, module_of}
use Rattle.tm_meaning.specs.World.{captured_text}
use Rattle.tm_meaning.specs.Calls.{enter_include, include_call, in_template}
use Rattle.tm_meaning.specs.Meaning.{Run, Outcome, Under, use_it, in_place_of, audible, eval, capturing}
use Rattle.tm_meaning.specs.Meaning.{include, heard_after, included, import, give_each, import_names}
use Rattle.tm_meaning.specs.Machine.{after, goes, with_world}
use Rattle.tm_meaning.specs.Instructions.{include_of}
use Rattle.tm_simulation.proofs.Advances.{Kept, kept_top, kept_frames, kept_then, kept_popped, within, one_more}
use Rattle.tm_simulation.proofs.Gives.{tick_gives}
use Rattle.tm_simulation.proofs.Asks.{include_asks, include_asks_by}
use Rattle.tm_simulation.proofs.Evaluates.{eval_gives, looked_up_gives}
use Rattle.tm_simulation.proofs.Includes.{include_ends, give_each_gives}
use Rattle.tm_simulation.proofs.Follow.{RunContext, LeadsToEnd, capture_in, Spot, told, cfg, later, Follows, Then, Ends}
use Rattle.tm_simulation.proofs.Follow.{bind_then, use_then, follows_map, ends_map_kept, Go, silent, at, after_then}
use Rattle.tm_simulation.proofs.Forms.{Stands}
use Rattle.tm_simulation.proofs.Levels.{Deep, Setting, as_at, deep_kept, deep_within, here, meaning, nest_ends, placed_then}
use Rattle.tm_simulation.proofs.Arguments.{In}
use Rattle.tm_simulation.proofs.Expressions.{expr_runs}
use Rattle.tm_simulation.proofs.BlockTags.{after_parent, capture_ended_then, stands_in_capture, HeardThen, heard_then}
use Rattle.tm_simulation.proofs.Targets.{popped_then, target_runs}

-- ---------------------------------------------------------------- the parent that waits after it
use_parent : {A : Type 0} (m : Res A) (run : Run) (out : List ℕ) (g : A → World → Outcome) →
    ((a : A) (w : World) → (g a w).parent ≡ run.parent) → (use_it m run out g).parent ≡ run.parent
use_parent (Good a w) run out g h = h a w
use_parent (Bad chain w) run out g h = refl

include_parent : (u : Under) (run : Run) (apart : Bool) (e : Expr) (missing : Bool) (out : List ℕ) (w : World) →
    (include u run apart e missing out w).parent ≡ run.parent
include_parent u run apart e missing out w =
    use_parent (eval u run e w) run out _ (λ v world1. use_parent (tick world1) run out _ (λ _ world2.
    include_asks_by (λ q. (in_place_of u run out q).parent ≡ run.parent) u.host world2 (λ chain h. refl) refl apart (λ t room.
    let c = include_call t world2 in
    let o = u.nests c.callee (audible run) out (in_template u.host apart t world2) in
    after_parent o.ending c run o) v missing))

-- a scope more, where there is room for it, before what is bound twice
room_then : {A B : Type 0} (context : RunContext) (t : List ℕ) (w : World) (s : Scope) (room : Bool) (rest : World → Res A)
    (g : A → World → Res B) (K : B → World → Type 0) (L : World → Type 0) →
    Follows context t (bind (bind (one_more room s w) (λ _ x. rest x)) g) K →
    (room ≡ true → Follows context t (bind (rest (within s w)) g) K → L (within s w)) →
    Follows context t (one_more room s w) (λ _ world1. L world1)
room_then context t w s true rest g K L h k = k refl h
room_then context t w s false rest g K L h k = h

-- how a capture opens that takes what is written, or not
abbrev mode_of : Bool → CaptureMode
mode_of true = Capture
mode_of false = Discard

module _ (setting : Setting) where
  open setting use {context, trees, n, entered, id, level, again, again_kept, called_in_place, called_as_value}

  abbrev u : Under
  u = meaning setting

  abbrev blank : Scope
  blank = plain_scope (undefined false)

  abbrev captured_at : Bool → Spot → Spot
  captured_at heard s = record s { bed = capture_in heard s.bed s.out; out = [] }

  -- The template that a value names runs in place, by an instruction that does that.
  pub include_runs : (apart : Bool) (x : Instruction) (e : Expr) (missing : Bool) (run : Run) (s : Spot) (l : Labels) (pc : ℕ) (stack : List Val) (w : World)
      (D L N : Then) → ((at : ℕ) (v : Val) (world1 : World) → slice_get (context.program.code s.run.stream) at ≡ Some x →
      LeadsToEnd context (told s) (after (tick world1) (λ _ world2.
      include_of context.program context.base apart missing (with_world world2 (cfg s at (v ∷ stack) world1)))) →
      Go context s at (v ∷ stack) world1) → Stands context.base run s → Deep setting run s w →
      In setting s l pc (expr_code e ⨾ straight (x ∷ [])) →
      Ends context s.bed (include u (as_at run s) apart e missing s.out w) D L N →
      ((q : Option TemplateId) (out : List ℕ) (world1 : World) → D q out world1 →
      Go context (later s q out) (beyond pc (expr_code e) + 1) stack world1) → Go context s pc stack w
  include_runs apart x e missing run s l pc stack w D L N does fits d is h g =
      expr_runs setting e (as_at run s) s l pc stack w (here setting run s w d) is.0
      (use_then context s.bed w (eval u (as_at run s) e w) (as_at run s) s.out _ D L N _
      (eval_gives u (nest_ends setting) again_kept (as_at run s) e w) h (λ v world1 k1 h1.
      does _ v world1 is.1.0 (after_then context (told s) (tick world1) _
      (use_then context s.bed world1 (tick world1) (as_at run s) s.out _ D L N _ (tick_gives _ _ world1) h1 (λ _ world2 k2 h2.
      placed_then setting run s _ stack (v ∷ stack) world2 world2 (enter_include context.program.host apart v missing world2) D L N fits.2
      (include_asks _ context.program.host apart v missing world2) (deep_kept setting run s k2 (deep_kept setting run s k1 d)) h2 g)))))

  -- ---------------------------------------------------------------- what is heard of it
  begins_then : (heard : Bool) (s : Spot) (pc : ℕ) (stack : List Val) (w : World) →
      slice_get (context.program.code s.run.stream) pc ≡ Some (i.BeginCapture (mode_of heard)) →
      Go context (captured_at heard s) (pc + 1) stack w → Go context s pc stack w
  begins_then true s pc stack w e g = at context (i.BeginCapture Capture) s pc stack w e (silent context (told s) _ g)
  begins_then false s pc stack w e g = at context (i.BeginCapture Discard) s pc stack w e (silent context (told s) _ g)

  -- It runs in a capture and a scope of its own, which stand after it.
  included_runs : {A : Type 0} (heard : Bool) (e : Expr) (run : Run) (s : Spot) (l : Labels) (pc : ℕ) (stack : List Val) (w : World)
      (g : List ℕ → World → Res A) (K : A → World → Type 0) → Deep setting run s w →
      slice_get (context.program.code s.run.stream) pc ≡ Some (i.BeginCapture (mode_of heard)) →
      In setting s l (pc + 1) (included_code e) →
      Follows context (told s) (bind (included u (capturing heard (as_at run s)) e w) g) K →
      ((x : List ℕ) (world1 : World) → nat_lt (depth w.scopes) context.program.host.limit ≡ true → Kept (within blank w) world1 →
      Follows context (told s) (g x world1) K →
      Go context (later (captured_at heard s) s.parent x) (beyond (pc + 1) (included_code e)) stack world1) → Go context s pc stack w
  included_runs heard e run s l pc stack w g K d begins is h k =
      let host = context.program.host in
      let inner = captured_at heard s in
      let run1 = capturing heard run in
      let run2 = capturing heard (as_at run s) in
      let fits = stands_in_capture setting heard run s d.1 in
      let x = within blank w in
      let o = include u run2 false e false [] x in
      let heard_of : World → Res (List ℕ) = λ y. let q = include u run2 false e false [] y in heard_after q.ending q in
      let T = HeardThen setting s g K in
      let D : Then = λ q out world1. Kept x world1 × T q out world1 in
      begins_then heard s pc stack w begins
      (at context i.PushWith inner (pc + 1) stack w is.0.0 (after_then context (told s) (push host blank w) _
      (room_then context (told s) w blank (nat_lt (depth w.scopes) host.limit) heard_of g K
      (λ y. LeadsToEnd context (told s) (goes stack y (cfg inner (pc + 1) stack w))) h (λ room h1.
      silent context (told s) _
      (include_runs false i.IncludeModule e false run1 inner l (pc + 1 + 1) stack x D T T
      (λ at1 v world1 found leads. at context i.IncludeModule inner at1 (v ∷ stack) world1 found leads) fits (deep_within setting run1 inner blank w room (d.0, fits, d.2)) is.1
      (ends_map_kept context inner.bed x o T D T T (include_ends u (nest_ends setting) again_kept run2 false e false [] x)
      (heard_then setting heard s g K o.ending o.parent o.text o.world (include_parent u run2 false e false [] x) h1)
      (λ q out world1 k1 t. (k1, t)))
      (λ q out world1 t.
      subst (λ p. Go context (later inner p out) (beyond (pc + 1) (included_code e)) stack world1) (sym t.1.0)
      (k out world1 room t.0 t.1.1)))))))

  -- ---------------------------------------------------------------- imports
  -- the scope of a template that was included is left
  left_then : (s : Spot) (pc : ℕ) (stack : List Val) (w0 w : World) → context.base.scopes ≤ length w0.scopes.frames →
      Kept (within blank w0) w → slice_get (context.program.code s.run.stream) pc ≡ Some i.PopFrame → Go context s (pc + 1) stack (pop w) →
      Go context s pc stack w
  left_then s pc stack w0 w stands k e g = popped_then setting s pc stack w (omega (arith, kept_frames k, stands)) (kept_top k) e g

  pub import_runs : (e : Expr) (t : AssignmentTarget) (run : Run) (s : Spot) (l : Labels) (pc : ℕ) (stack : List Val) (w : World) →
      Deep setting run s w →
      In setting s l pc (straight (i.BeginCapture Capture ∷ []) ⨾ included_code e
      ⨾ straight (i.EndCapture ∷ i.ExportLocals ∷ i.PopFrame ∷ []) ⨾ target_code t) →
      Follows context (told s) (import u (as_at run s) e t w)
      (λ _ world1. Go context s (beyond (beyond (pc + 1) (included_code e) + 1 + 1 + 1) (target_code t)) stack world1) →
      Go context s pc stack w
  import_runs e t run s l pc stack w d is h =
      let after = beyond (pc + 1) (included_code e) in
      included_runs true e run s l pc stack w _ _ d is.0.0 is.1.0 h (λ x world1 room k1 h1.
      at context i.EndCapture (later (captured_at true s) s.parent x) after stack world1 is.1.1.0.0
      (after_then context (told s) (tick world1) _
      (bind_then context (told s) world1 (tick world1) _ _ _ (tick_gives _ _ world1) h1 (λ _ world2 k2 h2.
      let m = module_of world2 x in
      let k = kept_then k1 k2 in
      capture_ended_then setting true s s.parent x after stack world2 (omega (arith, d.1.1))
      (at context i.ExportLocals s (after + 1) (captured_text x world2 ∷ stack) world2 is.1.1.0.1.0 (silent context (told s) _
      (left_then s (after + 1 + 1) (m ∷ stack) w world2 d.0.scopes k is.1.1.0.1.1.0
      (target_runs setting t (as_at run s) s l (after + 1 + 1 + 1) m stack (pop world2)
      (here setting run s (pop world2) (deep_kept setting run s (kept_popped blank w world2 k) d)) is.1.1.1 h2))))))))

  -- Names are looked up, the scope is left, and the values are given to names where the code of that stands.
  names_run : (xs : List Imported) (s : Spot) (l : Labels) (stores pc : ℕ) (stack : List Val) (w0 w : World) →
      context.base.scopes ≤ length w0.scopes.frames → nat_lt (depth w0.scopes) context.program.host.limit ≡ true →
      Kept (within blank w0) w → In setting s l pc (lookups_code xs) →
      slice_get (context.program.code s.run.stream) (beyond pc (lookups_code xs)) ≡ Some i.PopFrame →
      stores ≡ beyond pc (lookups_code xs) + 1 → In setting s l stores (stores_code xs) →
      Follows context (told s) (give_each context.program.host xs w)
      (λ _ world1. Go context s (beyond stores (stores_code xs)) stack world1) → Go context s pc stack w
  names_run [] s l stores pc stack w0 w stands room k is pops follows given h =
      left_then s pc stack w0 w stands k pops (subst (λ n. Go context s n stack (pop w)) follows h)
  names_run (x ∷ xs) s l stores pc stack w0 w stands room k is pops follows given h =
      let host = context.program.host in
      at context (i.Lookup x.name) s pc stack w is.0.0 (after_then context (told s) (tick w) _
      (bind_then context (told s) w (tick w) _ _ _ (tick_gives _ _ w) h (λ _ world1 k1 h1.
      after_then context (told s) (looked_up host x.name world1) _
      (bind_then context (told s) world1 (looked_up host x.name world1) _ _ _ (looked_up_gives _ host x.name world1) h1 (λ v world2 k2 h2.
      let k3 = kept_then k (kept_then k1 k2) in
      silent context (told s) _
      (names_run xs s l stores (pc + 1) (v ∷ stack) w0 world2 stands room k3 is.1 pops follows given.0
      (bind_then context (told s) w0 (give_each host xs world2) _ _ _ (give_each_gives host blank w0 room xs world2 k3) h2
      (λ _ world3 k4 h3.
      at context (i.StoreLocal x.target) s (beyond stores (stores_code xs)) (v ∷ stack) world3 given.1.0
      (after_then context (told s) (tick world3) _
      (bind_then context (told s) world3 (tick world3) _ _ _ (tick_gives _ _ world3) h3 (λ _ world4 k5 h4.
      silent context (told s) _ h4)))))))))))

  pub import_names_run : (e : Expr) (xs : List Imported) (run : Run) (s : Spot) (l : Labels) (pc : ℕ) (stack : List Val) (w : World) →
      Deep setting run s w →
      In setting s l pc (straight (i.BeginCapture Discard ∷ []) ⨾ included_code e ⨾ lookups_code xs ⨾ straight (i.PopFrame ∷ [])
      ⨾ stores_code xs ⨾ straight (i.EndCapture ∷ i.DiscardTop ∷ [])) →
      Follows context (told s) (import_names u (as_at run s) e xs w) (λ _ world1.
      Go context s (beyond (beyond (beyond (pc + 1) (included_code e)) (lookups_code xs) + 1) (stores_code xs) + 1 + 1) stack world1) →
      Go context s pc stack w
  import_names_run e xs run s l pc stack w d is h =
      let host = context.program.host in
      let after = beyond (pc + 1) (included_code e) in
      let stores = beyond after (lookups_code xs) + 1 in
      let last = beyond stores (stores_code xs) in
      included_runs false e run s l pc stack w _ _ d is.0.0 is.1.0 h (λ x world1 room k1 h1.
      let inner = later (captured_at false s) s.parent x in
      names_run xs inner l stores after stack w world1 d.0.scopes room k1 is.1.1.0 is.1.1.1.0.0 refl is.1.1.1.1.0
      (bind_then context (told s) w (give_each host xs world1) _ _ _ (give_each_gives host blank w room xs world1 k1) h1 (λ _ world2 k2 h2.
      at context i.EndCapture inner last stack world2 is.1.1.1.1.1.0 (after_then context (told s) (tick world2) _
      (follows_map context (told s) (tick world2) _ _ h2 (λ _ world3 g.
      capture_ended_then setting false s s.parent x last stack world3 (omega (arith, d.1.1))
      (at context i.DiscardTop s (last + 1) (undefined false ∷ stack) world3 is.1.1.1.1.1.1.0 (silent context (told s) _ g))))))))
