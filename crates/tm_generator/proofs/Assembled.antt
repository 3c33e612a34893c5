-- A builder makes the instructions into which code is assembled.
use Rattle.std.proofs.Common.{◌≡◌, ℕ, ◌+◌, List, [], ◌∷◌, ◌++◌, length, refl, sym, ap, ◌∙◌, arith, append_assoc, length-append}
use Rattle.std.specs.Prelude.{slice_set}
use Rattle.std.proofs.Math.Seq.{set-append_seam}
use Rattle.std.proofs.lemmas.List.{append-nil}
use Rattle.tm_trees.specs.Instructions.{Instruction, LoopFlags}
use Rattle.tm_trees.specs.Instructions.instructions as i
use Rattle.tm_syntax.specs.Fragments.{Fragment, straight, ◌⨾◌, jump_out, bounded, fork, looped, break_loop, next_round, declares}
use Rattle.tm_syntax.specs.Fragments.{beyond, Labels, outward, inward, ending_at, assemble, assembled, MacroHead, building}
use Rattle.tm_syntax.proofs.Standing.{beyond_is}
use Rattle.tm_generator.specs.declared.builder.Out.{Out}
use Rattle.tm_generator.specs.declared.builder.Exit.{Exit}
use Rattle.tm_generator.specs.Building.{Builder, put, with_one, with_all, jumped, left, continued, begun, bound, joined, place_of, outs_of}
use Rattle.tm_generator.specs.Building.{outer_of, loop_begun, rounds_ended}
use Rattle.tm_generator.specs.Building.{settled, led, finished, body_begun, body_ended, around_of}
use Rattle.tm_generator.proofs.Settled.{outs_in, exits_in, settles, leads}

abbrev unset : Labels
unset = ending_at 0

-- a builder after it has added code
abbrev added : Fragment → Builder → Builder
added c b =
    let pc = length b.code in
    record b { code = b.code ++ assemble unset pc c; outs = b.outs ++ outs_in pc c; exits = b.exits ++ exits_in pc c }

built : {code code1 : List Instruction} {outs outs1 : List Out} {exits exits1 : List Exit} → (b : Builder) → code ≡ code1 → outs ≡ outs1 →
    exits ≡ exits1 →
    ◌≡◌ {A = Builder} (record b { code = code; outs = outs; exits = exits }) (record b { code = code1; outs = outs1; exits = exits1 })
built {code1 = code1} {outs = outs} {outs1 = outs1} {exits = exits} b x y z =
    ap {B = Builder} (λ c. record b { code = c; outs = outs; exits = exits }) x
    ∙ ap {B = Builder} (λ o. record b { code = code1; outs = o; exits = exits }) y
    ∙ ap {B = Builder} (λ e. record b { code = code1; outs = outs1; exits = e }) z

-- the end of code that was added
long : (l : Labels) (xs : List Instruction) (c : Fragment) → length (xs ++ assemble l (length xs) c) ≡ beyond (length xs) c
long l xs c = length-append xs (assemble l (length xs) c) ∙ sym (beyond_is l (length xs) c)

all_added : (is : List Instruction) (b : Builder) → with_all is b ≡ added (straight is) b
unfolding with_one
all_added [] b = sym (built b (append-nil b.code) (append-nil b.outs) (append-nil b.exits))
all_added (x ∷ is) b = all_added is (with_one x b) ∙ built b (append_assoc b.code (x ∷ []) is) refl refl

-- one part after another
both_added : (c d : Fragment) (b : Builder) → added d (added c b) ≡ added (c ⨾ d) b
both_added c d b =
    let pc = length b.code in
    ap {A = ℕ} {B = Builder} (λ m. record b {
      code = (b.code ++ assemble unset pc c) ++ assemble unset m d;
      outs = (b.outs ++ outs_in pc c) ++ outs_in m d;
      exits = (b.exits ++ exits_in pc c) ++ exits_in m d;
    }) (long unset b.code c)
    ∙ built b (append_assoc b.code (assemble unset pc c) (assemble unset (beyond pc c) d))
    (append_assoc b.outs (outs_in pc c) (outs_in (beyond pc c) d)) (append_assoc b.exits (exits_in pc c) (exits_in (beyond pc c) d))

-- sets the jumps out of the code that was added last
settled_here : (c : Fragment) (base tail : List Instruction) (to : ℕ) →
    settled (base ++ (assemble unset (length base) c ++ tail)) (outs_in (length base) c) to
    ≡ base ++ (assemble (outward to unset) (length base) c ++ tail)
settled_here c base tail to = (settles to unset (length base) c).set base tail refl

bounded_added : (c : Fragment) (b : Builder) → bound (outs_of b) (added c (begun b)) ≡ added (bounded c) b
unfolding bound outs_of begun
bounded_added c b =
    let pc = length b.code in
    let a = assemble unset pc c in
    built b
    (ap (λ l. settled l (outs_in pc c) (length (b.code ++ a))) (ap (λ l. b.code ++ l) (sym (append-nil a)))
    ∙ settled_here c b.code [] (length (b.code ++ a))
    ∙ ap (λ l. b.code ++ l) (append-nil (assemble (outward (length (b.code ++ a)) unset) pc c))
    ∙ ap (λ n. b.code ++ assemble (outward n unset) pc c) (long unset b.code c))
    (sym (append-nil b.outs)) refl

-- the first of two parts, with the jump over the second, whose target isn't set yet
abbrev first_of : Fragment → Builder → Builder
first_of c b =
    let pc = length b.code in
    record b { code = b.code ++ (assemble (outward (beyond pc c + 1) unset) pc c ++ i.Jump 0 ∷ []); exits = b.exits ++ exits_in pc c }

first_added : (c : Fragment) (b : Builder) → bound (outs_of b) (with_one (i.Jump 0) (added c (begun b))) ≡ first_of c b
unfolding bound outs_of begun with_one
first_added c b =
    let pc = length b.code in
    let a = assemble unset pc c in
    let whole = (b.code ++ a) ++ i.Jump 0 ∷ [] in
    let end : length whole ≡ beyond pc c + 1 = length-append (b.code ++ a) (i.Jump 0 ∷ []) ∙ ap (λ n. n + 1) (long unset b.code c) in
    built b
    (ap (λ l. settled l (outs_in pc c) (length whole)) (append_assoc b.code a (i.Jump 0 ∷ []))
    ∙ settled_here c b.code (i.Jump 0 ∷ []) (length whole)
    ∙ ap (λ n. b.code ++ (assemble (outward n unset) pc c ++ i.Jump 0 ∷ [])) end)
    refl refl

fork_added : (c d : Fragment) (b : Builder) → joined (place_of (added c (begun b))) (added d (first_of c b)) ≡ added (fork c d) b
unfolding joined place_of begun
fork_added c d b =
    let pc = length b.code in
    let second = beyond pc c + 1 in
    let a = assemble (outward second unset) pc c in
    let rest = assemble unset second d in
    let base = b.code ++ a in
    let front = b.code ++ (a ++ i.Jump 0 ∷ []) in
    let at : length base ≡ beyond pc c = long (outward second unset) b.code c in
    let n : length front ≡ second = omega
    (arith, length-append b.code (a ++ i.Jump 0 ∷ []), length-append a (i.Jump 0 ∷ []), length-append b.code a, at) in
    let is : front ++ assemble unset (length front) d ≡ base ++ i.Jump 0 ∷ rest =
    ap (λ m. front ++ assemble unset m d) n ∙ append_assoc b.code (a ++ i.Jump 0 ∷ []) rest
    ∙ ap (λ x. b.code ++ x) (append_assoc a (i.Jump 0 ∷ []) rest) ∙ sym (append_assoc b.code a (i.Jump 0 ∷ rest)) in
    let end : length (front ++ assemble unset (length front) d) ≡ beyond second d = long unset front d ∙ ap (λ m. beyond m d) n in
    built b
    (ap (λ k. slice_set (front ++ assemble unset (length front) d) k (i.Jump (length (front ++ assemble unset (length front) d))))
    (long unset b.code c ∙ sym at)
    ∙ ap (λ e. slice_set (front ++ assemble unset (length front) d) (length base) (i.Jump e)) end
    ∙ ap (λ x. slice_set x (length base) (i.Jump (beyond second d))) is
    ∙ set-append_seam base (i.Jump 0) rest (i.Jump (beyond second d))
    ∙ append_assoc b.code a (i.Jump (beyond second d) ∷ rest))
    (ap (λ m. b.outs ++ outs_in m d) n)
    (ap (λ m. (b.exits ++ exits_in pc c) ++ exits_in m d) n ∙ append_assoc b.exits (exits_in pc c) (exits_in second d))

-- ---------------------------------------------------------------- loops
abbrev rounds_of : LoopFlags → Fragment → Builder → Builder
rounds_of g c b =
    let again = length b.code + 1 in
    let after = beyond (again + 1) c + 1 in
    record b {
      code = b.code ++ i.PushLoop g ∷ i.Iterate after ∷ (assemble (inward again after unset) (again + 1) c ++ i.Jump again ∷ []);
      outs = b.outs ++ outs_in (again + 1) c;
    }

-- sets the exits of the round that was added last
led_here : (c : Fragment) (base tail : List Instruction) (pc again after : ℕ) → length base ≡ pc →
    led (base ++ (assemble unset pc c ++ tail)) (exits_in pc c) again after ≡ base ++ (assemble (inward again after unset) pc c ++ tail)
led_here c base tail pc again after at = (leads again after unset pc c).set base tail at

rounds_code : (g : LoopFlags) (c : Fragment) (base : List Instruction) → (
    let again = length base + 1 in
    let code = ((base ++ i.PushLoop g ∷ i.Iterate 0 ∷ []) ++ assemble unset (again + 1) c) ++ i.Jump again ∷ [] in
    led (slice_set code again (i.Iterate (length code))) (exits_in (again + 1) c) again (length code)
    ≡ base ++ i.PushLoop g ∷ i.Iterate (beyond (again + 1) c + 1) ∷
    (assemble (inward again (beyond (again + 1) c + 1) unset) (again + 1) c ++ i.Jump again ∷ []))
rounds_code g c base =
    let again = length base + 1 in
    let first = again + 1 in
    let a = assemble unset first c in
    let back = i.Jump again ∷ [] in
    let head = i.PushLoop g ∷ i.Iterate 0 ∷ [] in
    let code = ((base ++ head) ++ a) ++ back in
    let base2 = base ++ i.PushLoop g ∷ [] in
    let long2 : length base2 ≡ again = length-append base (i.PushLoop g ∷ []) in
    let flat : code ≡ base2 ++ i.Iterate 0 ∷ (a ++ back) =
    append_assoc (base ++ head) a back ∙ append_assoc base head (a ++ back)
    ∙ sym (append_assoc base (i.PushLoop g ∷ []) (i.Iterate 0 ∷ (a ++ back))) in
    let end : length code ≡ beyond first c + 1 = omega
    (arith, ap length flat, length-append base2 (i.Iterate 0 ∷ (a ++ back)), length-append a back, long2, beyond_is unset first c) in
    let after = length code in
    let base3 = base2 ++ i.Iterate after ∷ [] in
    let long3 : length base3 ≡ first = omega (arith, length-append base2 (i.Iterate after ∷ []), long2) in
    let loop : ℕ → List Instruction = λ n. i.PushLoop g ∷ i.Iterate n ∷ (assemble (inward again n unset) first c ++ back) in
    let b1 = assemble (inward again after unset) first c ++ back in
    ap (λ l. led (slice_set l again (i.Iterate after)) (exits_in first c) again after) flat
    ∙ ap (λ n. led (slice_set (base2 ++ i.Iterate 0 ∷ (a ++ back)) n (i.Iterate after)) (exits_in first c) again after) (sym long2)
    ∙ ap (λ l. led l (exits_in first c) again after) (set-append_seam base2 (i.Iterate 0) (a ++ back) (i.Iterate after)
    ∙ sym (append_assoc base2 (i.Iterate after ∷ []) (a ++ back)))
    ∙ led_here c base3 back first again after long3
    ∙ append_assoc base2 (i.Iterate after ∷ []) b1 ∙ append_assoc base (i.PushLoop g ∷ []) (i.Iterate after ∷ b1)
    ∙ ap (λ n. base ++ loop n) end

rounds_added : (g : LoopFlags) (c : Fragment) (b : Builder) → rounds_ended (outer_of b) (added c (loop_begun g b)) ≡ rounds_of g c b
unfolding rounds_ended outer_of loop_begun
rounds_added g c b =
    let again = length b.code + 1 in
    let head = b.code ++ i.PushLoop g ∷ i.Iterate 0 ∷ [] in
    let n : length head ≡ again + 1 = omega (arith, length-append b.code (i.PushLoop g ∷ i.Iterate 0 ∷ [])) in
    let code : ℕ → List Instruction = λ m. (head ++ assemble unset m c) ++ i.Jump again ∷ [] in
    built b
    (ap (λ m. led (slice_set (code m) again (i.Iterate (length (code m)))) (exits_in m c) again (length (code m))) n
    ∙ rounds_code g c b.code)
    (ap (λ m. b.outs ++ outs_in m c) n) refl

loop_added : (g : LoopFlags) (c d : Fragment) (b : Builder) → added d (rounds_of g c b) ≡ added (looped g c d) b
loop_added g c d b =
    let pc = length b.code in
    let first = pc + 1 + 1 in
    let end = beyond first c + 1 in
    let a = assemble (inward (pc + 1) end unset) first c in
    let back = i.Jump (pc + 1) ∷ [] in
    let loop = i.PushLoop g ∷ i.Iterate end ∷ (a ++ back) in
    let front : length (b.code ++ loop)
    ≡ end = omega (arith, length-append b.code loop, length-append a back, beyond_is (inward (pc + 1) end unset) first c) in
    let rest = assemble unset end d in
    ap {A = ℕ} {B = Builder} (λ n. record b {
      code = (b.code ++ loop) ++ assemble unset n d;
      outs = (b.outs ++ outs_in first c) ++ outs_in n d;
      exits = b.exits ++ exits_in n d;
    }) front
    ∙ built b (append_assoc b.code loop rest
    ∙ ap (λ l. b.code ++ i.PushLoop g ∷ i.Iterate end ∷ l) (append_assoc a back rest))
    (append_assoc b.outs (outs_in first c) (outs_in end d)) refl

-- ---------------------------------------------------------------- code on its own
finished_here : (c : Fragment) (base : List Instruction) → (
    let code = base ++ assemble unset (length base) c in
    led (settled code (outs_in (length base) c) (length code)) (exits_in (length base) c) (length code) (length code)
    ≡ base ++ assemble (ending_at (beyond (length base) c)) (length base) c)
finished_here c base =
    let pc = length base in
    let a = assemble unset pc c in
    let end = length (base ++ a) in
    let a1 = assemble (outward end unset) pc c in
    ap (λ l. led (settled (base ++ l) (outs_in pc c) end) (exits_in pc c) end end) (sym (append-nil a))
    ∙ ap (λ l. led l (exits_in pc c) end end) (settled_here c base [] end)
    ∙ (leads end end (outward end unset) pc c).set base [] refl
    ∙ ap (λ l. base ++ l) (append-nil (assemble (ending_at end) pc c))
    ∙ ap (λ n. base ++ assemble (ending_at n) pc c) (long unset base c)

-- ---------------------------------------------------------------- the bodies of macros
-- a body with the jump over it and its `Return`
abbrev body_of : Fragment → Builder → Builder
body_of c b =
    let pc = length b.code in
    let end = beyond (pc + 1) c in
    record b { code = b.code ++ i.Jump (end + 1) ∷ (assemble (ending_at end) (pc + 1) c ++ i.Return ∷ []) }

body_added : (c : Fragment) (b : Builder) → body_ended (around_of b) (added c (body_begun b)) ≡ body_of c b
unfolding body_ended body_begun around_of
body_added c b =
    let pc = length b.code in
    let base = b.code ++ i.Jump 0 ∷ [] in
    let n : length base ≡ pc + 1 = length-append b.code (i.Jump 0 ∷ []) in
    let end = beyond (pc + 1) c in
    let a = assemble (ending_at end) (pc + 1) c in
    let rest = a ++ i.Return ∷ [] in
    let returns : List Instruction → List Instruction = λ l. slice_set (l ++ i.Return ∷ []) pc (i.Jump (length (l ++ i.Return ∷ []))) in
    let flat : (base ++ a) ++ i.Return ∷ [] ≡ b.code ++ i.Jump 0 ∷ rest =
    append_assoc base a (i.Return ∷ []) ∙ append_assoc b.code (i.Jump 0 ∷ []) rest in
    let after : length (b.code ++ i.Jump 0 ∷ rest) ≡ end + 1 = omega
    (arith, length-append b.code (i.Jump 0 ∷ rest), length-append a (i.Return ∷ []), beyond_is (ending_at end) (pc + 1) c) in
    built b
    (ap returns (finished_here c base ∙ ap (λ m. base ++ assemble (ending_at (beyond m c)) m c) n)
    ∙ ap (λ l. slice_set l pc (i.Jump (length l))) flat
    ∙ ap (λ m. slice_set (b.code ++ i.Jump 0 ∷ rest) pc (i.Jump m)) after
    ∙ set-append_seam b.code (i.Jump 0) rest (i.Jump (end + 1)))
    refl refl

declared_added : (m : MacroHead) (c : Fragment) (b : Builder) →
    with_all (building m.free m (around_of b).entry) (body_of c b) ≡ added (declares m c) b
unfolding around_of
declared_added m c b =
    let pc = length b.code in
    let end = beyond (pc + 1) c in
    let a = assemble (ending_at end) (pc + 1) c in
    let bs = building m.free m (pc + 1) in
    all_added bs (body_of c b)
    ∙ built b
    (append_assoc b.code (i.Jump (end + 1) ∷ (a ++ i.Return ∷ [])) bs
    ∙ ap (λ l. b.code ++ i.Jump (end + 1) ∷ l) (append_assoc a (i.Return ∷ []) bs))
    refl refl

-- ---------------------------------------------------------------- all code
pub put_is : (c : Fragment) (b : Builder) → put c b ≡ added c b
unfolding jumped left continued
put_is (straight is) b = all_added is b
put_is (c ⨾ d) b = ap {B = Builder} (λ m. put d m) (put_is c b) ∙ put_is d (added c b) ∙ both_added c d b
put_is (jump_out j) b = built b refl refl (sym (append-nil b.exits))
put_is (bounded c) b = ap {B = Builder} (λ m. bound (outs_of b) m) (put_is c (begun b)) ∙ bounded_added c b
put_is (fork c d) b =
    ap {B = Builder} (λ m. joined (place_of m) (put d (bound (outs_of b) (with_one (i.Jump 0) m)))) (put_is c (begun b))
    ∙ ap {B = Builder} (λ m. joined (place_of (added c (begun b))) (put d m)) (first_added c b)
    ∙ ap {B = Builder} (λ m. joined (place_of (added c (begun b))) m) (put_is d (first_of c b))
    ∙ fork_added c d b
put_is (looped g c d) b =
    ap {B = Builder} (λ m. put d (rounds_ended (outer_of b) m)) (put_is c (loop_begun g b))
    ∙ ap {B = Builder} (λ m. put d m) (rounds_added g c b) ∙ put_is d (rounds_of g c b) ∙ loop_added g c d b
put_is break_loop b = built b refl (sym (append-nil b.outs)) refl
put_is next_round b = built b refl (sym (append-nil b.outs)) refl
put_is (declares m c) b =
    ap {B = Builder} (λ k. with_all (building m.free m (around_of b).entry) (body_ended (around_of b) k)) (put_is c (body_begun b))
    ∙ ap {B = Builder} (λ k. with_all (building m.free m (around_of b).entry) k) (body_added c b) ∙ declared_added m c b

-- the code of an empty builder, after all jumps out of it were set to its end
pub made_whole : (c : Fragment) (b : Builder) → b.code ≡ [] → b.outs ≡ [] → b.exits ≡ [] → finished (put c b) ≡ assembled c
made_whole c b x y z =
    ap (λ (m : Builder). finished m) (put_is c b ∙ built b
    (ap (λ l. l ++ assemble unset (length l) c) x) (ap (λ n. b.outs ++ outs_in n c) (ap length x)
    ∙ ap (λ l. l ++ outs_in 0 c) y) (ap (λ n. b.exits ++ exits_in n c) (ap length x) ∙ ap (λ l. l ++ exits_in 0 c) z))
    ∙ finished_here c []
