-- Where the instructions of chunks stand.
use Rattle.std.proofs.Common.{◌≡◌, ℕ, zero, suc, ◌+◌, List, [], ◌∷◌, length, Option, Some, None, Bool, true, false, refl, sym, ap, ◌∙◌, subst, arith}
use Rattle.std.specs.Prelude.{pos, drop, slice_get, option_and_then, not, ◌&&◌, ◌||◌}
use Rattle.std.proofs.lemmas.Bool.Decides.{nat_tests}
use Rattle.tm_values.specs.Val.{Val, number}
use Rattle.tm_syntax.specs.Choices.{choose}
use Rattle.tm_syntax.specs.Entries.{names_in}
use Rattle.tm_trees.specs.Instructions.{Instruction}
use Rattle.tm_trees.specs.Instructions.instructions as i
use Rattle.tm_syntax.specs.Fragments.{name_list}
use Rattle.tm_shapes.specs.declared.kind.Kind.{Kind}
use Rattle.tm_shapes.specs.declared.kind.Kind.TheVariants.{Value as value, Zero as nothing, Group as group, Closure as closure, Names as names}
use Rattle.tm_shapes.specs.declared.kind.Kind.TheVariants.{Opened as opened, One as one}
use Rattle.tm_shapes.specs.Shapes.{Shape, entry_shape}
use Rattle.tm_shapes.specs.Flows.{Flow, both, leads, takes, refused, Site, flow_of}
use Rattle.tm_shapes.specs.Flows.{is_value, pop, next, adds_one, builds, builds_after, is_one, load_names}
use Rattle.tm_shapes.specs.Flows.{load_value, in_row, swap_over, build_macro}
use Rattle.tm_shapes.specs.Placed.{target, is_at, is_entered}
use Rattle.tm_shapes.specs.Accepts.{Asked, site_of, swaps, adds, before_it, is_between}
use Rattle.tm_accepted.specs.Sites.{Piece, ordinary, rest_of, is_one_of_row, site_by}
use Rattle.tm_accepted.proofs.Chunks.{Chunk, alone, drops, joins, builds_one, flat, flat_pieces, is_alone, AllGood}
use Rattle.tm_accepted.proofs.Targets.{OnTarget, AllTargets, targets_weaker, Misses, Free}
use Rattle.tm_accepted.proofs.Numbers.{InChunks}

-- ---------------------------------------------------------------- places that aren't entered
not_at : (o : Option ℕ) (n : ℕ) → OnTarget (λ t. t ≡ n → ⊥) o → is_at o n ≡ false
not_at None n h = refl
not_at (Some t) n h = grind (arith, nat_tests, h)

pub not_entered : (code : List Instruction) (n : ℕ) → AllTargets (λ t. t ≡ n → ⊥) code → is_entered code n ≡ false
not_entered [] n h = refl
not_entered (x ∷ more) n h = rw (not_at (target x) n h.0, not_entered more n h.1) refl

-- the second and third of instructions that stand together
pub second_free : (code : List Instruction) (n : ℕ) (cs : List Chunk) → AllTargets (λ t. Misses t n (flat_pieces (joins ∷ cs))) code →
    is_entered code (n + 1) ≡ false
second_free code n cs h =
    not_entered code (n + 1)
    (targets_weaker (λ t. Misses t n (flat_pieces (joins ∷ cs))) (λ t. t ≡ n + 1 → ⊥) code (λ t m e. m.1.0.0 e) h)

pub third_free : (code : List Instruction) (n : ℕ) (cs : List Chunk) → AllTargets (λ t. Misses t n (flat_pieces (joins ∷ cs))) code →
    is_entered code (n + 1 + 1) ≡ false
third_free code n cs h =
    not_entered code (n + 1 + 1)
    (targets_weaker (λ t. Misses t n (flat_pieces (joins ∷ cs))) (λ t. t ≡ n + 1 + 1 → ⊥) code (λ t m e. m.1.0.1 e) h)

-- ---------------------------------------------------------------- what stands around a place
-- What a flow asks of the code around an instruction is as at its piece.
abbrev pub InPlace : List Instruction → ℕ → Instruction → Piece → Type 0
InPlace code n (i.LoadConst v) p = (builds (drop (n + 1) code) ≡ builds (rest_of p)) × (is_between code n ≡ is_one_of_row p)
InPlace code n i.GetClosure p = builds_after (drop (n + 1) code) ≡ builds_after (rest_of p)
InPlace code n i.Swap p =
    (adds_one (drop (n + 1) code) && not (is_entered code (n + 1) || is_entered code (n + 2))) ≡ (adds_one (rest_of p) && not false)
InPlace code n x p = Unit {0}

abbrev pub AllInPlace : List Instruction → ℕ → List Instruction → List Piece → Type 0
AllInPlace code n [] ps = Unit {0}
AllInPlace code n (x ∷ is) [] = Unit {0}
AllInPlace code n (x ∷ is) (p ∷ ps) = InPlace code n x p × AllInPlace code (n + 1) is ps

drop_one : (code : List Instruction) (n : ℕ) (x : Instruction) (is : List Instruction) → drop n code ≡ x ∷ is →
    (slice_get code n ≡ Some x) × (drop (n + 1) code ≡ is)
drop_one [] zero x is e = absurd (cc e)
drop_one [] (suc n) x is e = absurd (cc e)
drop_one (y ∷ ys) zero x is e = let same : y ≡ x = cc e in let rest : ys ≡ is = cc e in (ap (λ z. Some z) same, rest)
drop_one (y ∷ ys) (suc n) x is e =
    let r = drop_one ys n x is e in
    let next : suc n + 1 ≡ suc (n + 1) = omega arith in
    (r.0, ap (λ k. drop k (y ∷ ys)) next ∙ r.1)

-- what stands before the next place
abbrev before_next : List Instruction → ℕ → Bool
before_next code n = swaps (option_and_then (slice_get code) (before_it n))

before_is : (code : List Instruction) (n : ℕ) (x : Instruction) → slice_get code n ≡ Some x → before_next code (n + 1) ≡ swaps (Some x)
before_is code n x at =
    let e : n + 1 ≡ suc n = omega arith in
    let there : before_next code (suc n) ≡ swaps (Some x) = ap swaps at in
    ap (before_next code) e ∙ there

alone_swaps : (x : Instruction) → is_alone x ≡ true → swaps (Some x) ≡ false
alone_swaps i.Swap h = absurd (cc h)
alone_swaps x h = refl

pub alone_builds : (x : Instruction) (is : List Instruction) → is_alone x ≡ true → builds (x ∷ is) ≡ false
alone_builds (i.BuildMacro x n caller) is h = absurd (cc h)
alone_builds x is h = refl

none_builds : (cs : List Chunk) → AllGood cs → builds (flat cs) ≡ false
none_builds [] h = refl
none_builds (alone x ∷ cs) h = alone_builds x (flat cs) h.0
none_builds (drops ∷ cs) h = refl
none_builds (joins ∷ cs) h = refl
none_builds (builds_one xs x n caller ∷ cs) h = refl

not_between : (code : List Instruction) (n : ℕ) → before_next code n ≡ false → is_between code n ≡ false
not_between code n h =
    ap (λ b. b && adds (slice_get code (n + 1)) && not (is_entered code n || is_entered code (n + 1))) h

all_between : (a b c d : Bool) → a ≡ true → b ≡ true → c ≡ false → d ≡ false → (a && b && not (c || d)) ≡ true
all_between a b c d e f g h = rw (e, f, g, h) refl

row_free : (a c d : Bool) → a ≡ true → c ≡ false → d ≡ false → (a && not (c || d)) ≡ true
row_free a c d e g h = rw (e, g, h) refl

alone_in_place : (code : List Instruction) (n : ℕ) (x : Instruction) (cs : List Chunk) → is_alone x ≡ true → AllGood cs →
    drop (n + 1) code ≡ flat cs → before_next code n ≡ false → InPlace code n x ordinary
alone_in_place code n (i.LoadConst v) cs h good d b = (ap builds d ∙ none_builds cs good, not_between code n b)
alone_in_place code n i.GetClosure cs h good d b = absurd (cc h)
alone_in_place code n i.Swap cs h good d b = absurd (cc h)
alone_in_place code n x cs h good d b = tt

all_in_place : (code : List Instruction) (cs : List Chunk) (n : ℕ) → AllGood cs → drop n code ≡ flat cs → before_next code n ≡ false →
    AllTargets (λ t. Misses t n (flat_pieces cs)) code → AllInPlace code n (flat cs) (flat_pieces cs)
all_in_place code [] n h d b t = tt
all_in_place code (alone x ∷ cs) n h d b t =
    let one = drop_one code n x (flat cs) d in (
      alone_in_place code n x cs h.0 h.1 one.1 b,
      all_in_place code cs (n + 1) h.1 one.1 (before_is code n x one.0 ∙ alone_swaps x h.0)
          (targets_weaker (λ t. Misses t n (ordinary ∷ flat_pieces cs)) (λ t. Misses t (n + 1) (flat_pieces cs)) code (λ t m. m.1) t),
    )
all_in_place code (drops ∷ cs) n h d b t =
    let one = drop_one code n i.Swap (i.DiscardTop ∷ flat cs) d in
    let two = drop_one code (n + 1) i.DiscardTop (flat cs) one.1 in (
      ap (λ is. adds_one is && not (is_entered code (n + 1) || is_entered code (n + 2))) one.1,
      (
        tt,
        all_in_place code cs (n + 1 + 1) h.1 two.1 (before_is code (n + 1) i.DiscardTop two.0)
            (targets_weaker (λ t. Misses t n (ordinary ∷ ordinary ∷ flat_pieces cs)) (λ t. Misses t (n + 1 + 1) (flat_pieces cs)) code
            (λ t m. m.1.1) t),
      ),
    )
all_in_place code (joins ∷ cs) n h d b t =
    let load = i.LoadConst (number (pos 1)) in
    let one = drop_one code n i.Swap (load ∷ i.Add ∷ flat cs) d in
    let two = drop_one code (n + 1) load (i.Add ∷ flat cs) one.1 in
    let three = drop_one code (n + 1 + 1) i.Add (flat cs) two.1 in
    let second = second_free code n cs t in
    let third = third_free code n cs t in
    let place : n + 2 ≡ n + 1 + 1 = omega arith in (
      row_free (adds_one (drop (n + 1) code)) (is_entered code (n + 1)) (is_entered code (n + 2)) (ap adds_one one.1) second
          (ap (is_entered code) place ∙ third),
      (
        (
          ap builds two.1,
          all_between (before_next code (n + 1)) (adds (slice_get code (n + 1 + 1))) (is_entered code (n + 1)) (is_entered code (n + 1 + 1))
              (before_is code n i.Swap one.0) (ap adds three.0) second third,
        ),
        (
          tt,
          all_in_place code cs (n + 1 + 1 + 1) h.1 three.1 (before_is code (n + 1 + 1) i.Add three.0)
              (targets_weaker (λ t. Misses t n (flat_pieces (joins ∷ cs))) (λ t. Misses t (n + 1 + 1 + 1) (flat_pieces cs)) code
              (λ t m. m.1.1.1) t),
        ),
      ),
    )
all_in_place code (builds_one xs x place caller ∷ cs) n h d b t =
    let load = i.LoadConst (name_list xs) in
    let build = i.BuildMacro x place caller in
    let one = drop_one code n i.GetClosure (load ∷ build ∷ flat cs) d in
    let two = drop_one code (n + 1) load (build ∷ flat cs) one.1 in
    let three = drop_one code (n + 1 + 1) build (flat cs) two.1 in (
      ap builds_after one.1,
      (
        (ap builds two.1, not_between code (n + 1) (before_is code n i.GetClosure one.0)),
        (
          tt,
          all_in_place code cs (n + 1 + 1 + 1) h.1 three.1 (before_is code (n + 1 + 1) build three.0)
              (targets_weaker (λ t. Misses t n (flat_pieces (builds_one xs x place caller ∷ cs)))
              (λ t. Misses t (n + 1 + 1 + 1) (flat_pieces cs)) code (λ t m. m.1.1.1) t),
        ),
      ),
    )

at_place : (code is : List Instruction) (ps : List Piece) (n k : ℕ) (x : Instruction) (p : Piece) → AllInPlace code n is ps →
    slice_get is k ≡ Some x → slice_get ps k ≡ Some p → InPlace code (n + k) x p
at_place code [] ps n k x p h e f = absurd (cc e)
at_place code (y ∷ is) [] n k x p h e f = absurd (cc f)
at_place code (y ∷ is) (q ∷ ps) n zero x p h e f =
    let one : y ≡ x = cc e in
    let two : q ≡ p = cc f in
    let here : n ≡ n + 0 = omega arith in
    subst (λ m. InPlace code m x p) here (subst (λ z. InPlace code n z p) one (subst (λ z. InPlace code n y z) two h.0))
at_place code (y ∷ is) (q ∷ ps) n (suc k) x p h e f =
    let there : n + 1 + k ≡ n + suc k = omega arith in
    subst (λ m. InPlace code m x p) there (at_place code is ps (n + 1) k x p h.1 e f)

pub made_in_place : (code : List Instruction) (ps : List Piece) → InChunks code ps → (n : ℕ) (x : Instruction) (p : Piece) →
    slice_get code n ≡ Some x → slice_get ps n ≡ Some p → InPlace code n x p
made_in_place code ps h n x p e f =
    let cs = h.chunked.chunks in
    let free = targets_weaker (Free (length code) ps) (λ t. Misses t 0 (flat_pieces cs)) code
    (λ t m. subst (Misses t 0) h.chunked.parts m.1) h.targets in
    let all = all_in_place code cs 0 h.chunked.good h.chunked.code refl free in
    let here : 0 + n ≡ n = omega arith in
    subst (λ m. InPlace code m x p) here
    (at_place code (flat cs) (flat_pieces cs) 0 n x p all (sym (ap (λ is. slice_get is n) h.chunked.code) ∙ e)
    (sym (ap (λ qs. slice_get qs n) h.chunked.parts) ∙ f))

-- ---------------------------------------------------------------- the same flows
module _ (a : Asked) (code : List Instruction) (n : ℕ) (p : Piece) (s : Shape) where
  abbrev real : Site
  real = site_of a code n

  abbrev by_piece : Site
  by_piece = site_by p (a.read n) a.returned n

  names_same : (o : Option (List (List ℕ))) → load_names o real s ≡ load_names o by_piece s
  names_same None = refl
  names_same (Some xs) = refl

  abbrev loads : Site → Val → Bool → Bool → Flow
  loads at v b c =
      choose b (λ _. load_names (names_in v) at s)
      (λ _. choose (c && is_one v) (λ _. next at (one ∷ s.part.operands) s) (λ _. load_value at v s))

  loads_same : (v : Val) (b c : Bool) → loads real v b c ≡ loads by_piece v b c
  loads_same v true c = names_same (names_in v)
  loads_same v false c = refl

  over_same : (ks : List Kind) → in_row real ≡ in_row by_piece → swap_over real s ks ≡ swap_over by_piece s ks
  over_same [] h = refl
  over_same (group o ∷ ks) h = ap (λ b. choose b (λ _. next real (opened o ∷ ks) s) (λ _. refused)) h
  over_same (nothing q ∷ ks) h =
      ap (λ b. choose b (λ _. takes q (next real (opened (Some q) ∷ ks) s)) (λ _. next real (value ∷ value ∷ ks) s)) h
  over_same ks h = refl

  swap_same : (ks : List Kind) → in_row real ≡ in_row by_piece → pop ks (swap_over real s) ≡ pop ks (swap_over by_piece s)
  swap_same [] h = refl
  swap_same (k ∷ ks) h = ap (λ f. choose (is_value k) (λ _. f) (λ _. refused)) (over_same ks h)

  build_same : (place : ℕ) (ks : List Kind) → a.enters ≡ true → build_macro real place s ks ≡ build_macro by_piece place s ks
  build_same place (names m ∷ closure ∷ ks) h =
      let f = next real (value ∷ ks) s in ap (λ b. choose b (λ _. both f (leads place (entry_shape m))) (λ _. f)) h
  build_same place ks h = refl

  pub flow_same : (x : Instruction) → InPlace code n x p → a.enters ≡ true → flow_of real x s ≡ flow_of by_piece x s
  flow_same (i.LoadConst v) h e =
      ap (λ b. loads real v b (is_between code n)) h.0 ∙ ap (λ c. loads real v (builds (rest_of p)) c) h.1
      ∙ loads_same v (builds (rest_of p)) (is_one_of_row p)
  flow_same i.GetClosure h e =
      ap (λ b. choose b (λ _. next real (closure ∷ s.part.operands) s) (λ _. next real (value ∷ s.part.operands) s)) h
  flow_same i.Swap h e = swap_same s.part.operands h
  flow_same (i.BuildMacro x place caller) h e = build_same place s.part.operands e
  flow_same x h e = refl
