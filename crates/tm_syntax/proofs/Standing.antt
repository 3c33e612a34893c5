-- Where code stands in a stream.
use Rattle.std.proofs.Common.{◌≡◌, ℕ, ◌+◌, ◌<◌, List, [], ◌∷◌, ◌++◌, length, Some, refl, sym, ap, ◌∙◌, subst, arith, length-append}
use Rattle.std.proofs.Common.{append_assoc, Bool, true}
use Rattle.std.specs.Prelude.{slice_get}
use Rattle.std.proofs.lemmas.Option.{slice_get-get_or}
use Rattle.std.proofs.Math.Seq.{get_or-append_seam}
use Rattle.tm_syntax.specs.declared.instruction.Instruction.{Instruction}
use Rattle.tm_syntax.specs.declared.instruction.Instruction.TheVariants as i
use Rattle.tm_syntax.specs.Fragments.{Fragment, straight, ◌⨾◌, jump_out, bounded, fork, looped, break_loop, next_round, beyond_all}
use Rattle.tm_syntax.specs.Fragments.{beyond, Labels, outward, inward, jump, assemble, ending_at, declares, after_body, whole_labels, assembled}

-- the instructions stand in the stream at this place
abbrev pub HasAt : List Instruction → ℕ → List Instruction → Type 0
HasAt all pc [] = Unit {0}
HasAt all pc (i ∷ is) = (slice_get all pc ≡ Some i) × HasAt all (pc + 1) is

-- And so does code, with these labels, where the place of each of its macros is marked so.
abbrev pub AtWhere : (ℕ → Bool) → List Instruction → Labels → ℕ → Fragment → Type 0
AtWhere marks all l pc (straight is) = HasAt all pc is
AtWhere marks all l pc (c ⨾ d) = AtWhere marks all l pc c × AtWhere marks all l (beyond pc c) d
AtWhere marks all l pc (jump_out j) = slice_get all pc ≡ Some (jump j l.out)
AtWhere marks all l pc (bounded c) = AtWhere marks all (outward (beyond pc c) l) pc c
AtWhere marks all l pc (fork c d) =
    AtWhere marks all (outward (beyond pc c + 1) l) pc c × (slice_get all (beyond pc c) ≡ Some (i.Jump (beyond (beyond pc c + 1) d)))
    × AtWhere marks all l (beyond pc c + 1) d
AtWhere marks all l pc (looped g c d) =
    (slice_get all pc ≡ Some (i.PushLoop g)) × (slice_get all (pc + 1) ≡ Some (i.Iterate (beyond (pc + 1 + 1) c + 1)))
    × AtWhere marks all (inward (pc + 1) (beyond (pc + 1 + 1) c + 1) l) (pc + 1 + 1) c
    × (slice_get all (beyond (pc + 1 + 1) c) ≡ Some (i.Jump (pc + 1))) × AtWhere marks all l (beyond (pc + 1 + 1) c + 1) d
AtWhere marks all l pc break_loop = slice_get all pc ≡ Some (i.Jump l.after)
AtWhere marks all l pc next_round = slice_get all pc ≡ Some (i.Jump l.again)
AtWhere marks all l pc (declares m c) =
    (slice_get all pc ≡ Some (i.Jump (beyond (pc + 1) c + 1))) × AtWhere (λ _. true) all (ending_at (beyond (pc + 1) c)) (pc + 1) c
    × HasAt all (beyond (pc + 1) c) (after_body m (pc + 1)) × (marks pc ≡ true)

-- whatever its place is
abbrev pub everywhere : ℕ → Bool
everywhere pc = true

abbrev pub At : List Instruction → Labels → ℕ → Fragment → Type 0
At all l pc c = AtWhere everywhere all l pc c

-- ---------------------------------------------------------------- how long code is
pub beyond_all_is : (pc : ℕ) (is : List Instruction) → beyond_all pc is ≡ pc + length is
beyond_all_is pc [] = omega arith
beyond_all_is pc (x ∷ is) = beyond_all_is (pc + 1) is ∙ omega arith

pub beyond_is : (l : Labels) (pc : ℕ) (c : Fragment) → beyond pc c ≡ pc + length (assemble l pc c)
beyond_is l pc (straight is) = beyond_all_is pc is
beyond_is l pc (c ⨾ d) =
    let a = assemble l pc c in
    let b = assemble l (beyond pc c) d in
    omega (arith, length-append a b, beyond_is l pc c, beyond_is l (beyond pc c) d)
beyond_is l pc (jump_out j) = refl
beyond_is l pc (bounded c) = beyond_is (outward (beyond pc c) l) pc c
beyond_is l pc (fork c d) =
    let second = beyond pc c + 1 in
    let a = assemble (outward second l) pc c in
    let b = assemble l second d in
    omega (arith, length-append a (i.Jump (beyond second d) ∷ b), beyond_is (outward second l) pc c, beyond_is l second d)
beyond_is l pc (looped g c d) =
    let end = beyond (pc + 1 + 1) c + 1 in
    let k = inward (pc + 1) end l in
    let a = assemble k (pc + 1 + 1) c in
    let b = assemble l end d in
    omega (arith, length-append a (i.Jump (pc + 1) ∷ b), beyond_is k (pc + 1 + 1) c, beyond_is l end d)
beyond_is l pc break_loop = refl
beyond_is l pc next_round = refl
beyond_is l pc (declares m c) =
    let k = ending_at (beyond (pc + 1) c) in
    let a = assemble k (pc + 1) c in
    let b = after_body m (pc + 1) in
    omega (arith, length-append a b, beyond_is k (pc + 1) c, beyond_all_is (beyond (pc + 1) c) b)

-- ---------------------------------------------------------------- code that is assembled stands
has_front : (all : List Instruction) (pc : ℕ) (a b : List Instruction) → HasAt all pc (a ++ b) → HasAt all pc a
has_front all pc [] b h = tt
has_front all pc (i ∷ a) b h = (h.0, has_front all (pc + 1) a b h.1)

has_after : (all : List Instruction) (pc : ℕ) (a b : List Instruction) → HasAt all pc (a ++ b) → HasAt all (pc + length a) b
has_after all pc [] b h = let e : pc ≡ pc + 0 = omega arith in subst (λ n. HasAt all n b) e h
has_after all pc (i ∷ a) b h =
    let e : pc + 1 + length a ≡ pc + length (i ∷ a) = omega arith in
    subst (λ n. HasAt all n b) e (has_after all (pc + 1) a b h.1)

stands_front : (all : List Instruction) (l : Labels) (pc : ℕ) (c : Fragment) (b : List Instruction) →
    HasAt all pc (assemble l pc c ++ b) → HasAt all pc (assemble l pc c)
stands_front all l pc c b h = has_front all pc (assemble l pc c) b h

stands_after : (all : List Instruction) (l : Labels) (pc : ℕ) (c : Fragment) (b : List Instruction) →
    HasAt all pc (assemble l pc c ++ b) → HasAt all (beyond pc c) b
stands_after all l pc c b h = subst (λ n. HasAt all n b) (sym (beyond_is l pc c)) (has_after all pc (assemble l pc c) b h)

pub stands : (all : List Instruction) (l : Labels) (pc : ℕ) (c : Fragment) → HasAt all pc (assemble l pc c) → At all l pc c
stands all l pc (straight is) h = h
stands all l pc (c ⨾ d) h = (stands all l pc c (stands_front all l pc c _ h), stands all l (beyond pc c) d (stands_after all l pc c _ h))
stands all l pc (jump_out j) h = h.0
stands all l pc (bounded c) h = stands all (outward (beyond pc c) l) pc c h
stands all l pc (fork c d) h =
    let k = outward (beyond pc c + 1) l in
    let rest = stands_after all k pc c (i.Jump (beyond (beyond pc c + 1) d) ∷ assemble l (beyond pc c + 1) d) h in
    (stands all k pc c (stands_front all k pc c _ h), rest.0, stands all l (beyond pc c + 1) d rest.1)
stands all l pc (looped g c d) h =
    let end = beyond (pc + 1 + 1) c + 1 in
    let k = inward (pc + 1) end l in
    let rest = stands_after all k (pc + 1 + 1) c (i.Jump (pc + 1) ∷ assemble l end d) h.1.1 in
    (h.0, h.1.0, stands all k (pc + 1 + 1) c (stands_front all k (pc + 1 + 1) c _ h.1.1), rest.0, stands all l end d rest.1)
stands all l pc break_loop h = h.0
stands all l pc next_round h = h.0
stands all l pc (declares m c) h =
    let k = ending_at (beyond (pc + 1) c) in
    let b = after_body m (pc + 1) in
    (h.0, stands all k (pc + 1) c (stands_front all k (pc + 1) c b h.1), stands_after all k (pc + 1) c b h.1, refl)

has_all : (is before : List Instruction) → HasAt (before ++ is) (length before) is
has_all [] before = tt
has_all (i ∷ is) before =
    let within : length before < length (before ++ i ∷ is) = omega (arith, length-append before (i ∷ is)) in
    let here = slice_get-get_or (before ++ i ∷ is) (length before) i within ∙ ap Some (get_or-append_seam before i is i) in
    let n : length (before ++ i ∷ []) ≡ length before + 1 = omega (arith, length-append before (i ∷ [])) in
    let rest = subst (λ l. HasAt l (length (before ++ i ∷ [])) is) (append_assoc before (i ∷ []) is) (has_all is (before ++ i ∷ [])) in
    (here, subst (λ m. HasAt (before ++ i ∷ is) m is) n rest)

-- a stream stands at its start
pub stands_whole : (c : Fragment) → At (assembled c) (whole_labels c) 0 c
stands_whole c = stands (assembled c) (whole_labels c) 0 c (has_all (assembled c) [])
