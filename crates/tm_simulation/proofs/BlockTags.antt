-- What a block's tag does in place, and its text as a value.
use Rattle.std.proofs.Common.{◌≡◌, ℕ, suc, ◌+◌, ◌<◌, List, [], ◌∷◌, length, Option, Some, Bool, true, false, refl, sym, ap, subst, arith, lt-ltb}
use Rattle.std.specs.Prelude.{slice_get, ◌&&◌}
use Rattle.tm_values.specs.Val.{Val, text}
use Rattle.tm_values.specs.declared.escape.AutoEscape.{AutoEscape}
use Rattle.tm_trees.specs.Instructions.modes.{Capture}
use Rattle.tm_trees.specs.Instructions.instructions as i
use Rattle.tm_meaning.specs.World.{choose, World, Res, Good, Bad, bind, tick, ticked, captured_text, is_escaping}
use Rattle.tm_meaning.specs.Calls.{whole, NestedCall, enter_block, block_call}
use Rattle.tm_meaning.specs.Meaning.{Run, Outcome, Ending, done, leave, next, fault, Under, so_far, use_it, after, in_place_of, block_tag}
use Rattle.tm_meaning.specs.Meaning.{audible as heard_here, none_waits, capturing, heard_after, text_after}
use Rattle.tm_meaning.specs.Machine.{captured_value, goes, asked_in_place, stuck}
use Rattle.tm_meaning.specs.Instructions.{end_capture_of}
use Rattle.tm_syntax.proofs.Standing.{HasAt}
use Rattle.tm_simulation.proofs.Advances.{Kept}
use Rattle.tm_simulation.proofs.Gives.{tick_gives}
use Rattle.tm_simulation.proofs.Asks.{in_block, block_asks, block_asks_by}
use Rattle.tm_simulation.proofs.Follow.{capture_in}
use Rattle.tm_simulation.proofs.Follow.{LeadsToEnd, captured_in, captures_of, Spot, told, cfg, later, Follows, Then, Ends, whole_of}
use Rattle.tm_simulation.proofs.Follow.{bound_twice, bind_then, use_then, so_far_then, choose_ends, Go, silent, at, after_then}
use Rattle.tm_simulation.proofs.Forms.{Stands, fits_captured, audible_is}
use Rattle.tm_meaning.specs.declared.stream.TemplateId.{TemplateId}
use Rattle.tm_simulation.proofs.Levels.{Deep, Here, Setting, as_at, deep_kept, meaning, placed_then}

-- ---------------------------------------------------------------- the parent that waits after it
pub after_parent : (e : Ending) (c : NestedCall) (run : Run) (o : Outcome) → (after e c run o).parent ≡ run.parent
after_parent (done vs) c run o = refl
after_parent leave c run o = refl
after_parent next c run o = refl
after_parent (fault chain) c run o = refl

choose_parent : (b : Bool) (o p : Outcome) (q : Option TemplateId) → o.parent ≡ q → p.parent ≡ q → (choose b (λ _. o) (λ _. p)).parent ≡ q
choose_parent true o p q h k = h
choose_parent false o p q h k = k

tag_parent : (u : Under) (run : Run) (b : List ℕ) (out : List ℕ) (w : World) → (block_tag u run b out w).parent ≡ run.parent
tag_parent u run b out w =
    choose_parent (none_waits run.parent && heard_here run) (in_place_of u run out (enter_block u.host b w)) (so_far run out w) run.parent
    (block_asks_by (λ q. (in_place_of u run out q).parent ≡ run.parent) u.host b w (λ kind e. refl) (λ stream room.
    let o = u.nests (whole stream) (heard_here run) out (in_block stream b w) in
    after_parent o.ending (block_call stream w) run o)) refl

module _ (setting : Setting) where
  open setting use {context, trees, n, entered, id, level, again, again_kept, called_in_place, called_as_value}

  abbrev u : Under
  u = meaning setting

  -- A capture above the run's floor is ended, and what it is then pushed.
  pub capture_ended_then : (heard : Bool) (s : Spot) (q : Option TemplateId) (x : List ℕ) (pc : ℕ) (stack : List Val) (w : World) →
      s.run.floor < suc (length (captures_of s.bed s.out)) →
      let v = captured_value (record { heard = heard; text = x }) w in
      Go context (later s q s.out) (pc + 1) (v ∷ stack) w →
      LeadsToEnd context (told s) (end_capture_of (cfg (later (record s { bed = capture_in heard s.bed s.out; out = [] }) q x) pc stack w))
  capture_ended_then heard s q x pc stack w stands g =
      let v = captured_value (record { heard = heard; text = x }) w in
      subst (λ b. LeadsToEnd context (told s) (choose b (λ _. goes (v ∷ stack) w (cfg (later s q s.out) pc stack w)) (λ _. stuck w)))
      (sym (lt-ltb s.run.floor (suc (length (captures_of s.bed s.out))) stands)) (silent context (told s) _ g)

  pub ended_then : (s : Spot) (q : Option TemplateId) (x : List ℕ) (pc : ℕ) (stack : List Val) (w : World) →
      s.run.floor < suc (length (captures_of s.bed s.out)) →
      Go context (later s q s.out) (pc + 1) (captured_text x w ∷ stack) w →
      LeadsToEnd context (told s) (end_capture_of (cfg (later (record s { bed = captured_in s.bed s.out; out = [] }) q x) pc stack w))
  ended_then s q x pc stack w stands g = capture_ended_then true s q x pc stack w stands g

  -- a run in a capture of its own
  pub stands_in_capture : (heard : Bool) (run : Run) (s : Spot) → Stands context.base run s →
      Stands context.base (capturing heard run) (record s { bed = capture_in heard s.bed s.out; out = [] })
  stands_in_capture heard run s stands =
      (stands.0, omega (arith, stands.1), fits_captured heard context.base run s.bed s.out stands.2)

  pub stands_captured : (run : Run) (s : Spot) → Stands context.base run s →
      Stands context.base (capturing true run) (record s { bed = captured_in s.bed s.out; out = [] })
  stands_captured run s stands = stands_in_capture true run s stands

  -- a block's tag: where it is heard the block is run in place, and else nothing is
  pub tag_then : (run : Run) (s : Spot) (pc : ℕ) (b : List ℕ) (stack : List Val) (w : World) (D L N : Then) → Stands context.base run s →
      Deep setting run s w → slice_get (context.program.code s.run.stream) pc ≡ Some (i.CallBlock b) →
      Ends context s.bed (use_it (tick w) (as_at run s) s.out (λ _ world1. block_tag u (as_at run s) b s.out world1)) D L N →
      ((q1 : Option TemplateId) (out1 : List ℕ) (world1 : World) → D q1 out1 world1 → Go context (later s q1 out1) (pc + 1) stack world1)
      → Go context s pc stack w
  tag_then run s pc b stack w D L N fits d e h g =
      at context (i.CallBlock b) s pc stack w e (after_then context (told s) (tick w) _
      (use_then context s.bed w (tick w) (as_at run s) s.out _ D L N _ (tick_gives _ _ w) h (λ _ world1 k h1.
      subst (λ x. LeadsToEnd context (told s) (choose (none_waits s.parent && x)
      (λ _. asked_in_place context.program context.base (cfg s pc stack world1) stack (enter_block context.program.host b world1))
      (λ _. goes stack world1 (cfg s pc stack world1))))
      (sym (audible_is context.base (as_at run s) s.run s.parent s.bed s.out pc stack world1 refl fits.2))
      (choose_ends context (none_waits s.parent && heard_here (as_at run s))
      (in_place_of u (as_at run s) s.out (enter_block context.program.host b world1)) (so_far (as_at run s) s.out world1) _ _ (told s)
      s.bed D L N h1
      (λ h2. placed_then setting run s pc stack stack world1 world1 (enter_block context.program.host b world1) D L N fits.2
      (block_asks _ context.program.host b world1) (deep_kept setting run s k d) h2 g)
      (λ h2. silent context (told s) _ (g s.parent s.out world1 (so_far_then context s.bed (as_at run s) s.out world1 D L N h2)))))))

  -- ---------------------------------------------------------------- what is heard in a capture
  -- what follows after it, where the same parent waits
  abbrev pub HeardThen : {A : Type 0} → Spot → (List ℕ → World → Res A) → (A → World → Type 0) → Then
  HeardThen s g K q out x = (q ≡ s.parent) × Follows context (told s) (g out x) K

  pub heard_then : {A : Type 0} (heard : Bool) (s : Spot) (g : List ℕ → World → Res A) (K : A → World → Type 0) (e : Ending)
      (q : Option TemplateId) (out : List ℕ) (x : World) → q ≡ s.parent →
      Follows context (told s) (bind (heard_after e (whole_of e q out x)) g) K →
      Ends context (capture_in heard s.bed s.out) (whole_of e q out x) (HeardThen s g K) (HeardThen s g K) (HeardThen s g K)
  unfolding Ends
  heard_then heard s g K (done vs) q out x same h = (same, h)
  heard_then heard s g K leave q out x same h = (same, h)
  heard_then heard s g K next q out x same h = (same, h)
  heard_then heard s g K (fault chain) q out x same h = h

  -- the same of its text as a value
  abbrev TextThen : Spot → (Val → World → Res Val) → (Val → World → Type 0) → Then
  TextThen s g K = HeardThen s (λ out x. g (captured_text out x) x) K

  text_then : (s : Spot) (g : Val → World → Res Val) (K : Val → World → Type 0) (e : Ending) (q : Option TemplateId) (out : List ℕ)
      (x : World) → q ≡ s.parent → Follows context (told s) (bind (text_after e (whole_of e q out x)) g) K →
      Ends context (captured_in s.bed s.out) (whole_of e q out x) (TextThen s g K) (TextThen s g K) (TextThen s g K)
  text_then s g K e q out x same h =
      heard_then true s _ K e q out x same (bound_twice context (told s) (heard_after e (whole_of e q out x)) _ g K h)

  charged_text : (s : Spot) (run : Run) (m : Res (Unit {0})) (f : World → Outcome) (g : Val → World → Res Val) (K : Val → World → Type 0) →
      ((world1 : World) → (f world1).parent ≡ s.parent) →
      Follows context (told s) (bind m (λ _ world1. bind (text_after (f world1).ending (f world1)) g)) K →
      Ends context (captured_in s.bed s.out) (use_it m run [] (λ _ world1. f world1)) (TextThen s g K) (TextThen s g K) (TextThen s g K)
  unfolding Ends
  charged_text s run (Good _ world1) f g K same h =
      let o = f world1 in text_then s g K o.ending o.parent o.text o.world (same world1) h
  charged_text s run (Bad chain world1) f g K same h = h

  -- a capture's text is the same after a charge
  same_text : (out : List ℕ) {w world1 : World} → Kept w world1 → captured_text out w ≡ captured_text out world1
  same_text out k = ap (λ (e : AutoEscape). text out (is_escaping e)) (sym k.same_escape)

  -- A block's text is pushed.
  pub self_then : (run : Run) (s : Spot) (pc : ℕ) (b : List ℕ) (stack : List Val) (w : World) → Here setting run s w →
      HasAt (context.program.code s.run.stream) pc (i.BeginCapture Capture ∷ i.CallBlock b ∷ i.EndCapture ∷ []) →
      (let tag : World → Outcome = λ world1. block_tag u (capturing true run) b [] world1 in
      Follows context (told s)
      (ticked w (λ world1. bind (text_after (tag world1).ending (tag world1)) (λ v world2. ticked world2 (λ world3. Good v world3))))
      (λ v world1. Go context s (pc + 1 + 1 + 1) (v ∷ stack) world1)) → Go context s pc stack w
  self_then run s pc b stack w d is h =
      let inner : Spot = record s { bed = captured_in s.bed s.out; out = [] } in
      let run1 : Run = record (capturing true run) { parent = s.parent } in
      let g : Val → World → Res Val = λ v world2. ticked world2 (λ world3. Good v world3) in
      let K : Val → World → Type 0 = λ v world1. Go context s (pc + 1 + 1 + 1) (v ∷ stack) world1 in
      let tag : Option TemplateId → World → Outcome = λ q world1. block_tag u (record (capturing true run) { parent = q }) b [] world1 in
      let placed = subst (λ q. Follows context (told s)
      (ticked w (λ world1. bind (text_after (tag q world1).ending (tag q world1)) g)) K) d.3 h in
      let stands = stands_captured run s d.1 in
      at context (i.BeginCapture Capture) s pc stack w is.0 (silent context (told s) _
      (tag_then (capturing true run) inner (pc + 1) b stack w (TextThen s g K) (TextThen s g K) (TextThen s g K) stands
      (d.0, stands, d.2) is.1.0
      (charged_text s run1 (tick w) (tag s.parent) g K (λ world1. tag_parent u run1 b [] world1) placed)
      (λ q out world1 there.
      at context i.EndCapture (later inner q out) (pc + 1 + 1) stack world1 is.1.1.0 (after_then context (told s) (tick world1) _
      (bind_then context (told s) world1 (tick world1) _ _ _ (tick_gives _ _ world1) there.1 (λ _ world2 k g1.
      ended_then s q out (pc + 1 + 1) stack world2 (omega (arith, d.1.1))
      (subst (λ p. Go context (later s p s.out) (pc + 1 + 1 + 1) (captured_text out world2 ∷ stack) world2) (sym there.0)
      (subst (λ v. Go context s (pc + 1 + 1 + 1) (v ∷ stack) world2) (same_text out k) g1))))))))
