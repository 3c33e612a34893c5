-- Where loops begin in code: in order, within it, and as many before a place as are counted.
use Rattle.std.proofs.Common.{◌≡◌, ◌≤◌, ◌<◌, ◌+◌, ◌-◌, ◌++◌, ℕ, zero, suc, List, [], ◌∷◌, length, get_or, drop, append_assoc, Option}
use Rattle.std.proofs.Common.{Some, None, true, false, ltb, refl, sym, ap, subst, ◌∙◌, arith, slice_get}
use Rattle.std.proofs.Math.Seq.{drop-cons}
use Rattle.std.proofs.lemmas.Bool.Decides.{nat_tests}
use Rattle.std.proofs.lemmas.List.Sums.{prefix_len_is}
use Rattle.std.specs.List.{prefix_len}
use Rattle.std.specs.List.Sorted.{IsNonDecreasingBy, IsPartitionPoint}
use Rattle.tm_trees.specs.Instructions.{Instruction, LoopFlags, LoopPlace}
use Rattle.tm_syntax.specs.Loops.{begins, with_place, loop_places, one_more_loop, loops_before}

-- ---------------------------------------------------------------- in order
-- none begins before a place
abbrev AreFrom : ℕ → List LoopPlace → Type 0
AreFrom pc ls = (k : ℕ) (d : LoopPlace) → k < length ls → pc ≤ (get_or ls k d).place

first_from : (b : Option LoopFlags) (pc : ℕ) (ls : List LoopPlace) → AreFrom (pc + 1) ls → AreFrom pc (with_place b pc ls)
first_from None pc ls later k d h = let l = later k d h in omega (arith, l)
first_from (Some flags) pc ls later zero d h = omega arith
first_from (Some flags) pc ls later (suc k) d h = let l = later k d (omega (arith, h)) in omega (arith, l)

not_before : (pc : ℕ) (is : List Instruction) → AreFrom pc (loop_places pc is)
not_before pc [] k d h = absurd (omega (arith, h))
not_before pc (x ∷ is) k d h = first_from (begins x) pc (loop_places (pc + 1) is) (not_before (pc + 1) is) k d h

abbrev Rise : List LoopPlace → Type 0
Rise ls = IsNonDecreasingBy (λ (l : LoopPlace). l.place) ls

first_rises : (b : Option LoopFlags) (pc : ℕ) (ls : List LoopPlace) → AreFrom (pc + 1) ls → Rise ls → Rise (with_place b pc ls)
first_rises None pc ls later rise i j d below h = rise i j d below h
first_rises (Some flags) pc ls later rise zero zero d below h = omega arith
first_rises (Some flags) pc ls later rise zero (suc j) d below h = let l = later j d (omega (arith, h)) in omega (arith, l)
first_rises (Some flags) pc ls later rise (suc i) zero d below h = absurd (omega (arith, below))
first_rises (Some flags) pc ls later rise (suc i) (suc j) d below h = rise i j d (omega (arith, below)) (omega (arith, h))

-- the places rise
in_order : (pc : ℕ) (is : List Instruction) → Rise (loop_places pc is)
in_order pc [] i j d below h = absurd (omega (arith, h))
in_order pc (x ∷ is) i j d below h = first_rises (begins x) pc (loop_places (pc + 1) is) (not_before (pc + 1) is) (in_order (pc + 1) is) i
    j d below h

pub made_in_order : (is : List Instruction) (ls : List LoopPlace) → ls ≡ loop_places 0 is → Rise ls
made_in_order is ls same i j d below h = subst Rise (sym same) (in_order 0 is) i j d below h

-- ---------------------------------------------------------------- numbers
abbrev below : ℕ → List LoopPlace → ℕ
below m ls = prefix_len (λ (l : LoopPlace). ltb l.place m) ls

none_below : (b : Option LoopFlags) (m pc : ℕ) (ls : List LoopPlace) → m ≤ pc → below m ls ≡ 0 → below m (with_place b pc ls) ≡ 0
none_below None m pc ls h e = e
none_below (Some flags) m pc ls h e = let no : ltb pc m ≡ false = grind (arith, nat_tests) in rw no refl

one_below : (b : Option LoopFlags) (m pc n : ℕ) (ls : List LoopPlace) → pc < m → below m ls ≡ n →
    below m (with_place b pc ls) ≡ one_more_loop b n
one_below None m pc n ls h e = e
one_below (Some flags) m pc n ls h e = let yes : ltb pc m ≡ true = grind (arith, nat_tests) in rw (yes, e) (omega arith)

counted_none : (n : ℕ) → loops_before n [] ≡ 0
counted_none zero = refl
counted_none (suc n) = refl

counted_first : (n m pc : ℕ) (x : Instruction) (is : List Instruction) → m - pc ≡ n →
    below m (loop_places (pc + 1) is) ≡ loops_before (m - (pc + 1)) is →
    below m (with_place (begins x) pc (loop_places (pc + 1) is)) ≡ loops_before n (x ∷ is)
counted_first zero m pc x is e later =
    let none : m - (pc + 1) ≡ 0 = omega (arith, e) in
    none_below (begins x) m pc (loop_places (pc + 1) is) (omega (arith, e)) (later ∙ ap (λ k. loops_before k is) none)
counted_first (suc n) m pc x is e later =
    let fewer : m - (pc + 1) ≡ n = omega (arith, e) in
    one_below (begins x) m pc (loops_before n is) (loop_places (pc + 1) is) (omega (arith, e)) (later ∙ ap (λ k. loops_before k is) fewer)

-- as many loops begin before a place
counted : (pc m : ℕ) (is : List Instruction) → below m (loop_places pc is) ≡ loops_before (m - pc) is
counted pc m [] = sym (counted_none (m - pc))
counted pc m (x ∷ is) = counted_first (m - pc) m pc x is refl (counted (pc + 1) m is)

no_loop : LoopPlace
no_loop = record { place = 0; flags = record { variable = false; recursive = false } }

-- where the places below one end, as many lie before it
pub numbered : (is : List Instruction) (ls : List LoopPlace) (m i : ℕ) → ls ≡ loop_places 0 is → i ≤ length ls →
    IsPartitionPoint (λ (l : LoopPlace). ltb l.place m ≡ true) (λ (l : LoopPlace). ltb l.place m ≡ false) ls i → i ≡ loops_before m is
numbered is ls m i same bound point =
    let first = prefix_len_is (λ (l : LoopPlace). ltb l.place m) ls i no_loop bound (λ k h. point.0 k no_loop (omega arith) h)
    (λ h. point.1 i no_loop (omega arith) h) in
    let whole : m - 0 ≡ m = omega arith in
    sym first ∙ ap (below m) same ∙ counted 0 m is ∙ ap (λ k. loops_before k is) whole

-- ---------------------------------------------------------------- places
first_within : (b : Option LoopFlags) (pc size : ℕ) (ls : List LoopPlace) →
    ((n : ℕ) (l : LoopPlace) → slice_get ls n ≡ Some l → l.place < pc + 1 + size) →
    (n : ℕ) (l : LoopPlace) → slice_get (with_place b pc ls) n ≡ Some l → l.place < pc + (size + 1)
first_within None pc size ls later n l e = let h = later n l e in omega (arith, h)
first_within (Some flags) pc size ls later zero l e =
    let same : l ≡ record { place = pc; flags = flags } = cc in subst (λ (k : LoopPlace). k.place < pc + (size + 1)) (sym same)
    (omega arith)
first_within (Some flags) pc size ls later (suc n) l e = let h = later n l e in omega (arith, h)

-- where a loop begins there is an instruction
pub within : (pc : ℕ) (is : List Instruction) (n : ℕ) (l : LoopPlace) → slice_get (loop_places pc is) n ≡ Some l → l.place < pc + length is
within pc [] n l e = absurd cc
within pc (x ∷ is) n l e =
    let h = first_within (begins x) pc (length is) (loop_places (pc + 1) is) (within (pc + 1) is) n l e in omega (arith, h)

there_at : (ls : List LoopPlace) (n : ℕ) (l d : LoopPlace) → n < length ls → l ≡ get_or ls n d → slice_get ls n ≡ Some l
there_at [] n l d h e = absurd (omega (arith, h))
there_at (k ∷ ls) zero l d h e = ap Some (sym e)
there_at (k ∷ ls) (suc n) l d h e = there_at ls n l d (omega (arith, h)) e

-- a loop's place that was read
pub read_at : (ls all : List LoopPlace) (n : ℕ) (l d : LoopPlace) → ls ≡ all → true ≡ ltb n (length ls) → l ≡ get_or ls n d →
    slice_get all n ≡ Some l
read_at ls all n l d same h e = ap (λ ks. slice_get ks n) (sym same) ∙ there_at ls n l d (grind (arith, nat_tests, sym h)) e

-- what stands at a place of code begins a loop there, or none
pub found_then : (ps all : List LoopPlace) (k : ℕ) (is : List Instruction) (x : Instruction) → k < length is → x ≡ get_or is k x →
    ps ++ loop_places k (drop k is) ≡ all →
    ps ++ with_place (begins x) k (loop_places (k + 1) (drop (k + 1) is)) ≡ all
found_then ps all k is x h same e =
    let next : suc k ≡ k + 1 = omega arith in
    let there : drop k is ≡ x ∷ drop (k + 1) is = drop-cons is k x h ∙ ap (λ y. y ∷ drop (suc k) is) (sym same) ∙ ap (λ n. x ∷ drop n is)
    next in
    ap (λ rest. ps ++ loop_places k rest) (sym there) ∙ e

pub one_found : (ps all : List LoopPlace) (l : LoopPlace) (rest : List LoopPlace) → ps ++ l ∷ rest ≡ all → (ps ++ l ∷ []) ++ rest ≡ all
one_found ps all l rest e = append_assoc ps (l ∷ []) rest ∙ e
