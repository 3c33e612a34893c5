-- Where the instructions of assembled code lead: within it, and never between instructions that stand together.
use Rattle.std.proofs.Common.{◌≡◌, ℕ, ◌+◌, ◌≤◌, List, [], ◌∷◌, ◌++◌, length, Option, Some, None, refl, sym, ap, ◌∙◌, subst, arith, length-append}
use Rattle.tm_trees.specs.Instructions.{Instruction}
use Rattle.tm_trees.specs.Instructions.instructions as i
use Rattle.tm_syntax.specs.declared.jump.JumpKind.{JumpKind}
use Rattle.tm_syntax.specs.declared.jump.JumpKind.TheVariants as kinds
use Rattle.tm_syntax.specs.Fragments.{Fragment, straight, ◌⨾◌, jump_out, bounded, fork, looped, break_loop, next_round, declares, MacroHead}
use Rattle.tm_syntax.specs.Fragments.{beyond_all, beyond, Labels, outward, inward, ending_at}
use Rattle.tm_syntax.specs.Fragments.{jump, assemble, after_body, building, whole_labels, assembled}
use Rattle.tm_shapes.specs.Placed.{target}
use Rattle.tm_accepted.specs.Sites.{Piece, ordinary, names_of_macro, one_of_row, building_pieces, pieces}
use Rattle.tm_accepted.proofs.Chunks.{Chunk, alone, drops, joins, builds_one, flat, flat_pieces, Chunked, Tidy, AllLeadOn, chunked, chunked_building}

-- ---------------------------------------------------------------- targets
abbrev pub OnTarget : (ℕ → Type 0) → Option ℕ → Type 0
OnTarget P None = Unit {0}
OnTarget P (Some t) = P t

-- Each target is one of these places.
abbrev pub AllTargets : (ℕ → Type 0) → List Instruction → Type 0
AllTargets P [] = Unit {0}
AllTargets P (x ∷ is) = OnTarget P (target x) × AllTargets P is

targets_both : (P : ℕ → Type 0) (is js : List Instruction) → AllTargets P is → AllTargets P js → AllTargets P (is ++ js)
targets_both P [] js h k = k
targets_both P (x ∷ is) js h k = (h.0, targets_both P is js h.1 k)

on_weaker : (P Q : ℕ → Type 0) (o : Option ℕ) → ((t : ℕ) → P t → Q t) → OnTarget P o → OnTarget Q o
on_weaker P Q None f h = tt
on_weaker P Q (Some t) f h = f t h

pub targets_weaker : (P Q : ℕ → Type 0) (is : List Instruction) → ((t : ℕ) → P t → Q t) → AllTargets P is → AllTargets Q is
targets_weaker P Q [] f h = tt
targets_weaker P Q (x ∷ is) f h = (on_weaker P Q (target x) f h.0, targets_weaker P Q is f h.1)

lead_on : (P : ℕ → Type 0) (is : List Instruction) → AllLeadOn is → AllTargets P is
lead_on P [] h = tt
lead_on P (x ∷ is) h = (subst (OnTarget P) (sym h.0) tt, lead_on P is h.1)

-- ---------------------------------------------------------------- places between
-- A place is neither that of an instruction of this piece nor the next, where nothing may lead there.
abbrev pub Off : Piece → ℕ → ℕ → Type 0
Off names_of_macro t n = (t ≡ n → ⊥) × (t ≡ n + 1 → ⊥)
Off one_of_row t n = (t ≡ n → ⊥) × (t ≡ n + 1 → ⊥)
Off p t n = Unit {0}

abbrev pub Misses : ℕ → ℕ → List Piece → Type 0
Misses t n [] = Unit {0}
Misses t n (p ∷ ps) = Off p t n × Misses t (n + 1) ps

flat_before : (cs : List Chunk) (t n : ℕ) → t ≤ n → Misses t n (flat_pieces cs)
flat_before [] t n h = tt
flat_before (alone x ∷ cs) t n h = (tt, flat_before cs t (n + 1) (omega (arith, h)))
flat_before (drops ∷ cs) t n h = (tt, (tt, flat_before cs t (n + 1 + 1) (omega (arith, h))))
flat_before (joins ∷ cs) t n h = (
  tt,
  ((λ e. omega (arith, h, e), λ e. omega (arith, h, e)), (tt, flat_before cs t (n + 1 + 1 + 1) (omega (arith, h)))),
)
flat_before (builds_one xs x m caller ∷ cs) t n h = (
  tt,
  ((λ e. omega (arith, h, e), λ e. omega (arith, h, e)), (tt, flat_before cs t (n + 1 + 1 + 1) (omega (arith, h)))),
)

flat_after : (cs : List Chunk) (t n : ℕ) → n + length (flat_pieces cs) ≤ t → Misses t n (flat_pieces cs)
flat_after [] t n h = tt
flat_after (alone x ∷ cs) t n h = (tt, flat_after cs t (n + 1) (omega (arith, h)))
flat_after (drops ∷ cs) t n h = (tt, (tt, flat_after cs t (n + 1 + 1) (omega (arith, h))))
flat_after (joins ∷ cs) t n h = (
  tt,
  ((λ e. omega (arith, h, e), λ e. omega (arith, h, e)), (tt, flat_after cs t (n + 1 + 1 + 1) (omega (arith, h)))),
)
flat_after (builds_one xs x m caller ∷ cs) t n h = (
  tt,
  ((λ e. omega (arith, h, e), λ e. omega (arith, h, e)), (tt, flat_after cs t (n + 1 + 1 + 1) (omega (arith, h)))),
)

misses_both : (ps qs : List Piece) (t n m : ℕ) → m ≡ n + length ps → Misses t n ps → Misses t m qs → Misses t n (ps ++ qs)
misses_both [] qs t n m e h k = subst (λ j. Misses t j qs) (let x : m ≡ n = omega (arith, e) in x) k
misses_both (p ∷ ps) qs t n m e h k = (h.0, misses_both ps qs t (n + 1) m (omega (arith, e)) h.1 k)

-- ---------------------------------------------------------------- how long code is
beyond_all_long : (is : List Instruction) (pc : ℕ) → beyond_all pc is ≡ pc + length is
beyond_all_long [] pc = omega arith
beyond_all_long (x ∷ is) pc = omega (arith, beyond_all_long is (pc + 1))

pub beyond_long : (c : Fragment) (l : Labels) (pc : ℕ) → beyond pc c ≡ pc + length (assemble l pc c)
beyond_long (straight is) l pc = beyond_all_long is pc
beyond_long (c ⨾ d) l pc =
    omega (arith, beyond_long c l pc, beyond_long d l (beyond pc c), length-append (assemble l pc c) (assemble l (beyond pc c) d))
beyond_long (jump_out j) l pc = refl
beyond_long (bounded c) l pc = beyond_long c (outward (beyond pc c) l) pc
beyond_long (fork c d) l pc =
    let second = beyond pc c + 1 in
    omega (
      arith,
      beyond_long c (outward second l) pc,
      beyond_long d l second,
      length-append (assemble (outward second l) pc c) (i.Jump (beyond second d) ∷ assemble l second d),
    )
beyond_long (looped g c d) l pc =
    let again = pc + 1 in
    let after = beyond (again + 1) c + 1 in
    let in_loop = inward again after l in
    omega (
      arith,
      beyond_long c in_loop (again + 1),
      beyond_long d l after,
      length-append (assemble in_loop (again + 1) c) (i.Jump again ∷ assemble l after d),
    )
beyond_long break_loop l pc = refl
beyond_long next_round l pc = refl
beyond_long (declares m c) l pc =
    let end = beyond (pc + 1) c in
    omega (
      arith,
      beyond_long c (ending_at end) (pc + 1),
      beyond_all_long (after_body m (pc + 1)) end,
      length-append (assemble (ending_at end) (pc + 1) c) (after_body m (pc + 1)),
    )

flat_long : (cs : List Chunk) → length (flat_pieces cs) ≡ length (flat cs)
flat_long [] = refl
flat_long (alone x ∷ cs) = omega (arith, flat_long cs)
flat_long (drops ∷ cs) = omega (arith, flat_long cs)
flat_long (joins ∷ cs) = omega (arith, flat_long cs)
flat_long (builds_one xs x m caller ∷ cs) = omega (arith, flat_long cs)

pub chunked_long : (is : List Instruction) (ps : List Piece) → Chunked is ps → length ps ≡ length is
chunked_long is ps h = ap length h.parts ∙ flat_long h.chunks ∙ sym (ap length h.code)

pub pieces_long : (c : Fragment) → Tidy c → (pc : ℕ) → beyond pc c ≡ pc + length (pieces c)
pieces_long c h pc =
    let l = ending_at 0 in omega (arith, beyond_long c l pc, chunked_long (assemble l pc c) (pieces c) (chunked c h l pc))

-- ---------------------------------------------------------------- places around code
before_code : (c : Fragment) → Tidy c → (t pc : ℕ) → t ≤ pc → Misses t pc (pieces c)
before_code c h t pc e =
    let all = chunked c h (ending_at 0) pc in subst (Misses t pc) (sym all.parts) (flat_before all.chunks t pc e)

after_code : (c : Fragment) → Tidy c → (t pc : ℕ) → beyond pc c ≤ t → Misses t pc (pieces c)
after_code c h t pc e =
    let all = chunked c h (ending_at 0) pc in
    let size = pieces_long c h pc in
    let same = ap length all.parts in
    subst (Misses t pc) (sym all.parts) (flat_after all.chunks t pc (omega (arith, e, size, same)))

before_building : (m : MacroHead) (t n : ℕ) → t ≤ n → Misses t n (building_pieces m.free)
before_building m t n e =
    let all = chunked_building m.free m 0 in subst (Misses t n) (sym all.parts) (flat_before all.chunks t n e)

-- ---------------------------------------------------------------- the targets of code
jump_target : (P : ℕ → Type 0) (j : JumpKind) (n : ℕ) → P n → AllTargets P (jump j n ∷ [])
jump_target P kinds.IfFalse n h = (h, tt)
jump_target P kinds.IfFalseOrPop n h = (h, tt)
jump_target P kinds.IfTrueOrPop n h = (h, tt)

building_targets : (P : ℕ → Type 0) (free : List (List ℕ)) (m : MacroHead) (place : ℕ) → P place → AllTargets P (building free m place)
building_targets P [] m place h = (tt, (tt, (h, tt)))
building_targets P (x ∷ xs) m place h = (tt, building_targets P xs m place h)

-- What holds of the labels, and of each place from code's first to that beyond it, between no two instructions that stand together.
module _ (P : ℕ → Type 0) where
  pub code_targets : (c : Fragment) → Tidy c → (l : Labels) (pc : ℕ) → P l.out → P l.again → P l.after →
      ((t : ℕ) → pc ≤ t → t ≤ beyond pc c → Misses t pc (pieces c) → P t) → AllTargets P (assemble l pc c)
  code_targets (straight is) h l pc o a r inside = lead_on P is h.1
  code_targets (c ⨾ d) h l pc o a r inside =
      let mid = beyond pc c in
      let size = pieces_long c h.0 pc in
      let far = pieces_long d h.1 mid in
      let join = λ (t : ℕ) (m : Misses t pc (pieces c)) (k : Misses t mid (pieces d)). misses_both (pieces c) (pieces d) t pc mid size m k in
      targets_both P (assemble l pc c) (assemble l mid d)
      (code_targets c h.0 l pc o a r (λ t from to m. inside t from (omega (arith, to, far)) (join t m (before_code d h.1 t mid to))))
      (code_targets d h.1 l mid o a r (λ t from to m. inside t (omega (arith, from, size)) to (join t (after_code c h.0 t pc from) m)))
  code_targets (jump_out j) h l pc o a r inside = jump_target P j l.out o
  code_targets (bounded c) h l pc o a r inside =
      let end = beyond pc c in
      let size = pieces_long c h pc in
      code_targets c h (outward end l) pc (inside end (omega (arith, size)) (omega arith) (after_code c h end pc (omega arith))) a r inside
  code_targets (fork c d) h l pc o a r inside =
      let mid = beyond pc c in
      let second = mid + 1 in
      let end = beyond second d in
      let size = pieces_long c h.0 pc in
      let far = pieces_long d h.1 second in
      let join = λ (t : ℕ) (m : Misses t pc (pieces c)) (k : Misses t second (pieces d)).
      misses_both (pieces c) (ordinary ∷ pieces d) t pc mid size m (tt, k) in
      let at_second = inside second (omega (arith, size)) (omega (arith, far))
      (join second (after_code c h.0 second pc (omega arith)) (before_code d h.1 second second (omega arith))) in
      let at_end = inside end (omega (arith, size, far)) (omega arith)
      (join end (after_code c h.0 end pc (omega (arith, far))) (after_code d h.1 end second (omega arith))) in
      targets_both P (assemble (outward second l) pc c) (i.Jump end ∷ assemble l second d)
      (code_targets c h.0 (outward second l) pc at_second a r (λ t from to m. inside t from (omega (arith, to, far))
      (join t m (before_code d h.1 t second (omega (arith, to)))))) (
        at_end,
        code_targets d h.1 l second o a r (λ t from to m. inside t (omega (arith, from, size)) to
            (join t (after_code c h.0 t pc (omega (arith, from))) m)),
      )
  code_targets (looped g c d) h l pc o a r inside =
      let again = pc + 1 in
      let body = again + 1 in
      let mid = beyond body c in
      let after = mid + 1 in
      let end = beyond after d in
      let size = pieces_long c h.0 body in
      let far = pieces_long d h.1 after in
      let join = λ (t : ℕ) (m : Misses t body (pieces c)) (k : Misses t after (pieces d)).
      misses_both (pieces c) (ordinary ∷ pieces d) t body mid size m (tt, k) in
      let at_again = inside again (omega arith) (omega (arith, size, far))
      (tt, (tt, join again (before_code c h.0 again body (omega arith)) (before_code d h.1 again after (omega (arith, size))))) in
      let at_after = inside after (omega (arith, size)) (omega (arith, far))
      (tt, (tt, join after (after_code c h.0 after body (omega arith)) (before_code d h.1 after after (omega arith)))) in (
        tt,
        (
          at_after,
          targets_both P (assemble (inward again after l) body c) (i.Jump again ∷ assemble l after d)
              (code_targets c h.0 (inward again after l) body o at_again at_after (λ t from to m. inside t (omega (arith, from))
              (omega (arith, to, far)) (tt, (tt, join t m (before_code d h.1 t after (omega (arith, to))))))) (
                at_again,
                code_targets d h.1 l after o a r (λ t from to m. inside t (omega (arith, from, size)) to
                    (tt, (tt, join t (after_code c h.0 t body (omega (arith, from))) m))),
              ),
        ),
      )
  code_targets break_loop h l pc o a r inside = (r, tt)
  code_targets next_round h l pc o a r inside = (a, tt)
  code_targets (declares m c) (allowed, h) l pc o a r inside =
      let entry = pc + 1 in
      let end = beyond entry c in
      let built = building m.free m entry in
      let size = pieces_long c h entry in
      let far = beyond_all_long built (end + 1) in
      let join = λ (t : ℕ) (n : Misses t entry (pieces c)) (k : Misses t (end + 1) (building_pieces m.free)).
      misses_both (pieces c) (ordinary ∷ building_pieces m.free) t entry end size n (tt, k) in
      let at_entry = inside entry (omega arith) (omega (arith, size, far))
      (tt, join entry (before_code c h entry entry (omega arith)) (before_building m entry (end + 1) (omega (arith, size)))) in
      let at_end = inside end (omega (arith, size)) (omega (arith, far))
      (tt, join end (after_code c h end entry (omega arith)) (before_building m end (end + 1) (omega arith))) in
      let at_next = inside (end + 1) (omega (arith, size)) (omega (arith, far))
      (tt, join (end + 1) (after_code c h (end + 1) entry (omega arith)) (before_building m (end + 1) (end + 1) (omega arith))) in (
        at_next,
        targets_both P (assemble (ending_at end) entry c) (i.Return ∷ built)
            (code_targets c h (ending_at end) entry at_end at_end at_end (λ t from to n. inside t (omega (arith, from))
            (omega (arith, to, far)) (tt, join t n (before_building m t (end + 1) (omega (arith, to))))))
            (tt, building_targets P m.free m entry at_entry),
      )

-- A place of code, or its end, between no two instructions that stand together.
abbrev pub Free : ℕ → List Piece → ℕ → Type 0
Free size ps t = (t ≤ size) × Misses t 0 ps

pub whole_targets : (c : Fragment) → Tidy c → AllTargets (Free (length (assembled c)) (pieces c)) (assembled c)
whole_targets c h =
    let end = beyond 0 c in
    let long = beyond_long c (whole_labels c) 0 in
    let P = Free (length (assembled c)) (pieces c) in
    let last : P end = (omega (arith, long), after_code c h end 0 (omega arith)) in
    code_targets P c h (whole_labels c) 0 last last last (λ t from to m. (omega (arith, to, long), m))
