-- Code whose jumps are set is the code that is assembled with their targets.
use Rattle.std.proofs.Common.{◌≡◌, ℕ, ◌+◌, List, [], ◌∷◌, ◌++◌, length, refl, sym, ap, ◌∙◌, arith, append_assoc, length-append}
use Rattle.std.specs.Prelude.{slice_set}
use Rattle.std.proofs.Math.Seq.{set-append_seam}
use Rattle.tm_trees.specs.Instructions.{Instruction}
use Rattle.tm_trees.specs.Instructions.instructions as i
use Rattle.tm_syntax.specs.Fragments.{Fragment, straight, ◌⨾◌, jump_out, bounded, fork, looped, break_loop, next_round, declares}
use Rattle.tm_syntax.specs.Fragments.{beyond, Labels, outward, inward, jump, assemble}
use Rattle.tm_syntax.proofs.Standing.{beyond_is}
use Rattle.tm_generator.specs.declared.builder.Out.{Out}
use Rattle.tm_generator.specs.declared.builder.Exit.{Exit}
use Rattle.tm_generator.specs.declared.builder.Exit.TheVariants.{Leave, Next}
use Rattle.tm_generator.specs.Building.{patched, out_place, out_jump, exit_place, exit_jump}

-- ---------------------------------------------------------------- jumps without targets
-- the jumps out of code, and its exits from the innermost loop around it, with their places
abbrev pub outs_in : ℕ → Fragment → List Out
outs_in pc (straight is) = []
outs_in pc (c ⨾ d) = outs_in pc c ++ outs_in (beyond pc c) d
outs_in pc (jump_out j) = (record { kind = j; place = pc }) ∷ []
outs_in pc (bounded c) = []
outs_in pc (fork c d) = outs_in (beyond pc c + 1) d
outs_in pc (looped g c d) = outs_in (pc + 1 + 1) c ++ outs_in (beyond (pc + 1 + 1) c + 1) d
outs_in pc break_loop = []
outs_in pc next_round = []
outs_in pc (declares m c) = []

abbrev pub exits_in : ℕ → Fragment → List Exit
exits_in pc (straight is) = []
exits_in pc (c ⨾ d) = exits_in pc c ++ exits_in (beyond pc c) d
exits_in pc (jump_out j) = []
exits_in pc (bounded c) = exits_in pc c
exits_in pc (fork c d) = exits_in pc c ++ exits_in (beyond pc c + 1) d
exits_in pc (looped g c d) = exits_in (beyond (pc + 1 + 1) c + 1) d
exits_in pc break_loop = Leave pc ∷ []
exits_in pc next_round = Next pc ∷ []
exits_in pc (declares m c) = []

module _ {E : Type 0} (place : E → ℕ) (made : E → Instruction) where
  patched-append : (code : List Instruction) (es fs : List E) →
      patched place made code (es ++ fs) ≡ patched place made (patched place made code es) fs
  patched-append code [] fs = refl
  patched-append code (e ∷ es) fs = patched-append (slice_set code (place e) (made e)) es fs

  -- Setting jumps turns the instructions `xs` at the place `pc` into `ys`.
  pub record Becomes (pc : ℕ) (xs : List Instruction) (es : List E) (ys : List Instruction) : Type 0 where
    pub set : (base tail : List Instruction) → length base ≡ pc → patched place made (base ++ (xs ++ tail)) es ≡ base ++ (ys ++ tail)

  pub as_is : (pc : ℕ) (xs : List Instruction) → Becomes pc xs [] xs
  as_is pc xs = record { set = λ base tail m. refl }

  -- one jump
  pub one_set : (pc : ℕ) (x y : Instruction) (e : E) → place e ≡ pc → made e ≡ y → Becomes pc (x ∷ []) (e ∷ []) (y ∷ [])
  one_set pc x y e here is = record {
    set = λ base tail m. ap (λ n. slice_set (base ++ x ∷ tail) n (made e)) (here ∙ sym m) ∙ set-append_seam base x tail (made e)
        ∙ ap (λ z. base ++ z ∷ tail) is;
  }

  -- one part after another
  pub both : (pc m : ℕ) (xs xs1 ys ys1 : List Instruction) {es fs : List E} → m ≡ pc + length xs1 → Becomes pc xs es xs1 →
      Becomes m ys fs ys1 → Becomes pc (xs ++ ys) (es ++ fs) (xs1 ++ ys1)
  both pc m xs xs1 ys ys1 {es = es} {fs = fs} there x y = record {
    set = λ base tail n.
        let at : length (base ++ xs1) ≡ m = omega (arith, length-append base xs1, n, there) in
        ap (λ l. patched place made (base ++ l) (es ++ fs)) (append_assoc xs ys tail)
        ∙ patched-append (base ++ (xs ++ (ys ++ tail))) es fs
        ∙ ap (λ l. patched place made l fs) (x.set base (ys ++ tail) n ∙ sym (append_assoc base xs1 (ys ++ tail)))
        ∙ y.set (base ++ xs1) tail at
        ∙ append_assoc base xs1 (ys1 ++ tail)
        ∙ ap (λ l. base ++ l) (sym (append_assoc xs1 ys1 tail));
  }

-- ---------------------------------------------------------------- the jumps out
abbrev pub Settles : ℕ → ℕ → List Instruction → List Out → List Instruction → Type 0
Settles to pc xs es ys = Becomes out_place (out_jump to) pc xs es ys

same : (to pc : ℕ) (xs : List Instruction) → Settles to pc xs [] xs
same to pc xs = as_is out_place (out_jump to) pc xs

two : (to pc m : ℕ) (xs xs1 ys ys1 : List Instruction) {es fs : List Out} → m ≡ pc + length xs1 → Settles to pc xs es xs1 →
    Settles to m ys fs ys1 → Settles to pc (xs ++ ys) (es ++ fs) (xs1 ++ ys1)
two to pc m xs xs1 ys ys1 there x y = both out_place (out_jump to) pc m xs xs1 ys ys1 there x y

pub settles : (to : ℕ) (l : Labels) (pc : ℕ) (c : Fragment) →
    Settles to pc (assemble (outward 0 l) pc c) (outs_in pc c) (assemble (outward to l) pc c)
settles to l pc (straight is) = same to pc is
settles to l pc (c ⨾ d) = two to pc (beyond pc c) (assemble (outward 0 l) pc c) (assemble (outward to l) pc c) _ _
    (beyond_is (outward to l) pc c) (settles to l pc c) (settles to l (beyond pc c) d)
settles to l pc (jump_out j) = one_set out_place (out_jump to) pc (jump j 0) (jump j to) (record { kind = j; place = pc }) refl refl
settles to l pc (bounded c) = same to pc (assemble (outward (beyond pc c) l) pc c)
settles to l pc (fork c d) =
    let second = beyond pc c + 1 in
    let a = assemble (outward second l) pc c in
    let one = i.Jump (beyond second d) ∷ [] in
    two to pc (beyond pc c) a a _ _ (beyond_is (outward second l) pc c) (same to pc a)
    (two to (beyond pc c) second one one (assemble (outward 0 l) second d) (assemble (outward to l) second d) refl
    (same to (beyond pc c) one) (settles to l second d))
settles to l pc (looped g c d) =
    let first = pc + 1 + 1 in
    let end = beyond first c + 1 in
    let k = inward (pc + 1) end l in
    let front = i.PushLoop g ∷ i.Iterate end ∷ [] in
    let back = i.Jump (pc + 1) ∷ [] in
    let front_long : first ≡ pc + length front = omega arith in
    two to pc first front front _ _ front_long (same to pc front)
    (two to first (beyond first c) (assemble (outward 0 k) first c) (assemble (outward to k) first c) _ _ (beyond_is (outward to k) first c)
    (settles to k first c)
    (two to (beyond first c) end back back (assemble (outward 0 l) end d) (assemble (outward to l) end d) refl
    (same to (beyond first c) back) (settles to l end d)))
settles to l pc break_loop = same to pc (i.Jump l.after ∷ [])
settles to l pc next_round = same to pc (i.Jump l.again ∷ [])
settles to l pc (declares m c) = same to pc (assemble l pc (declares m c))

-- ---------------------------------------------------------------- the exits of a loop
abbrev pub Leads : ℕ → ℕ → ℕ → List Instruction → List Exit → List Instruction → Type 0
Leads x y pc xs es ys = Becomes exit_place (exit_jump x y) pc xs es ys

stays : (x y pc : ℕ) (xs : List Instruction) → Leads x y pc xs [] xs
stays x y pc xs = as_is exit_place (exit_jump x y) pc xs

goes : (x y pc m : ℕ) (xs xs1 ys ys1 : List Instruction) {es fs : List Exit} → m ≡ pc + length xs1 → Leads x y pc xs es xs1 →
    Leads x y m ys fs ys1 → Leads x y pc (xs ++ ys) (es ++ fs) (xs1 ++ ys1)
goes x y pc m xs xs1 ys ys1 there a b = both exit_place (exit_jump x y) pc m xs xs1 ys ys1 there a b

pub leads : (x y : ℕ) (l : Labels) (pc : ℕ) (c : Fragment) →
    Leads x y pc (assemble (inward 0 0 l) pc c) (exits_in pc c) (assemble (inward x y l) pc c)
leads x y l pc (straight is) = stays x y pc is
leads x y l pc (c ⨾ d) = goes x y pc (beyond pc c) (assemble (inward 0 0 l) pc c) (assemble (inward x y l) pc c) _ _
    (beyond_is (inward x y l) pc c) (leads x y l pc c) (leads x y l (beyond pc c) d)
leads x y l pc (jump_out j) = stays x y pc (jump j l.out ∷ [])
leads x y l pc (bounded c) = leads x y (outward (beyond pc c) l) pc c
leads x y l pc (fork c d) =
    let second = beyond pc c + 1 in
    let k = outward second l in
    let one = i.Jump (beyond second d) ∷ [] in
    goes x y pc (beyond pc c) (assemble (inward 0 0 k) pc c) (assemble (inward x y k) pc c) _ _ (beyond_is (inward x y k) pc c)
    (leads x y k pc c)
    (goes x y (beyond pc c) second one one (assemble (inward 0 0 l) second d) (assemble (inward x y l) second d) refl
    (stays x y (beyond pc c) one) (leads x y l second d))
leads x y l pc (looped g c d) =
    let first = pc + 1 + 1 in
    let end = beyond first c + 1 in
    let k = inward (pc + 1) end l in
    let a = assemble k first c in
    let front = i.PushLoop g ∷ i.Iterate end ∷ [] in
    let back = i.Jump (pc + 1) ∷ [] in
    let front_long : first ≡ pc + length front = omega arith in
    goes x y pc first front front _ _ front_long (stays x y pc front)
    (goes x y first (beyond first c) a a _ _ (beyond_is k first c) (stays x y first a)
    (goes x y (beyond first c) end back back (assemble (inward 0 0 l) end d) (assemble (inward x y l) end d) refl
    (stays x y (beyond first c) back) (leads x y l end d)))
leads x y l pc break_loop = one_set exit_place (exit_jump x y) pc (i.Jump 0) (i.Jump y) (Leave pc) refl refl
leads x y l pc next_round = one_set exit_place (exit_jump x y) pc (i.Jump 0) (i.Jump x) (Next pc) refl refl
leads x y l pc (declares m c) = stays x y pc (assemble l pc (declares m c))
