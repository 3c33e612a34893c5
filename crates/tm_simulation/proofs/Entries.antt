-- Where the macros of code are entered.
use Rattle.std.proofs.Common.{◌≡◌, ◌≤◌, ◌<◌, ℕ, suc, ◌+◌, List, [], ◌∷◌, ◌++◌, length, Option, Some, None, Bool, true, false, refl}
use Rattle.std.proofs.Common.{sym, ap, subst, ◌∙◌, arith, length-append, append_assoc, ltb, lt-ltb, le-ltb, ne_eqb, eq-eqb}
use Rattle.std.specs.Prelude.{nat_lt, nat_eq}
use Rattle.std.specs.Prelude.{map as each}
use Rattle.std.specs.List.{prefix_len}
use Rattle.std.specs.BTreeMap.{insert_entry}
use Rattle.std.specs.Ordering.{nat_cmp}
use Rattle.std.proofs.lemmas.List.{append-nil}
use Rattle.tm_values.specs.Val.{text}
use Rattle.tm_values.proofs.Lists.{list_of-vals_of}
use Rattle.tm_trees.specs.Instructions.{Instruction}
use Rattle.tm_trees.specs.Instructions.instructions as i
use Rattle.tm_syntax.specs.Loops.{loops_before, Numbers, first_numbers, within_macro}
use Rattle.tm_syntax.specs.Fragments.{Fragment, straight, ◌⨾◌, jump_out, bounded, fork, looped, break_loop, next_round, declares}
use Rattle.tm_syntax.specs.Fragments.{MacroHead, name_list, building, after_body, beyond, Labels, outward, inward, jump}
use Rattle.tm_syntax.specs.Fragments.{assemble, ending_at, whole_labels, assembled}
use Rattle.tm_syntax.specs.Entries.{Entries, entries_from, entries, entry_number, name_count}
use Rattle.tm_syntax.proofs.Standing.{At, AtWhere, beyond_is, beyond_all_is, stands_whole}
use Rattle.tm_simulation.proofs.Counts.{builds, simple_builds, NoneBegins, Unbegun, Loopless, jump_none, marked_so, Has, after_one}
use Rattle.tm_simulation.proofs.Counts.{one_begins, one_loop_more, counted, counted_none, loops_counted, it, front, back}

-- ---------------------------------------------------------------- where macros are entered
-- the entries of code that stands at a place, outer ones before those in them
abbrev pub entered : ℕ → Fragment → Entries
entered pc (straight is) = []
entered pc (c ⨾ d) = entered pc c ++ entered (beyond pc c) d
entered pc (jump_out j) = []
entered pc (bounded c) = entered pc c
entered pc (fork c d) = entered pc c ++ entered (beyond pc c + 1) d
entered pc (looped g c d) = entered (pc + 1 + 1) c ++ entered (beyond (pc + 1 + 1) c + 1) d
entered pc break_loop = []
entered pc next_round = []
entered pc (declares m c) = (pc + 1, length m.parameters) ∷ entered (pc + 1) c

pub entered_none : (pc : ℕ) (c : Fragment) → Loopless c → entered pc c ≡ []
entered_none pc (straight is) h = refl
entered_none pc (c ⨾ d) h = rw (entered_none pc c h.0) (entered_none (beyond pc c) d h.1)
entered_none pc (jump_out j) h = refl
entered_none pc (bounded c) h = entered_none pc c h
entered_none pc (fork c d) h = rw (entered_none pc c h.0) (entered_none (beyond pc c + 1) d h.1)
entered_none pc (looped g c d) h = absurd h
entered_none pc break_loop h = refl
entered_none pc next_round h = refl
entered_none pc (declares m c) h = absurd h

macros_counted : (at : Numbers) (pc : ℕ) (c : Fragment) → (counted at c).macros ≡ at.macros + length (entered pc c)
macros_counted at pc (straight is) = omega arith
macros_counted at pc (c ⨾ d) =
    omega (arith, macros_counted at pc c, macros_counted (counted at c) (beyond pc c) d, length-append (entered pc c) (entered (beyond pc c) d))
macros_counted at pc (jump_out j) = omega arith
macros_counted at pc (bounded c) = macros_counted at pc c
macros_counted at pc (fork c d) =
    let second = beyond pc c + 1 in
    omega (arith, macros_counted at pc c, macros_counted (counted at c) second d, length-append (entered pc c) (entered second d))
macros_counted at pc (looped g c d) =
    let more = one_loop_more at in
    let end = beyond (pc + 1 + 1) c + 1 in
    omega (arith, macros_counted more (pc + 1 + 1) c, macros_counted (counted more c) end d, length-append (entered (pc + 1 + 1) c) (entered end d))
macros_counted at pc break_loop = omega arith
macros_counted at pc next_round = omega arith
macros_counted at pc (declares m c) = omega (arith, macros_counted (within_macro at) (pc + 1) c)

-- entries up to a place, and beyond one
abbrev UpTo : ℕ → Entries → Type 0
UpTo pc [] = Unit {0}
UpTo pc (e ∷ es) = (e.0 ≤ pc) × UpTo pc es

abbrev Beyond : ℕ → Entries → Type 0
Beyond pc [] = Unit {0}
Beyond pc (e ∷ es) = (pc < e.0) × Beyond pc es

up_to_more : (pc n : ℕ) (es : Entries) → pc ≤ n → UpTo pc es → UpTo n es
up_to_more pc n [] less h = tt
up_to_more pc n (e ∷ es) less h = (omega (arith, less, h.0), up_to_more pc n es less h.1)

up_to_both : (pc : ℕ) (a b : Entries) → UpTo pc a → UpTo pc b → UpTo pc (a ++ b)
up_to_both pc [] b h k = k
up_to_both pc (e ∷ a) b h k = (h.0, up_to_both pc a b h.1 k)

beyond_less : (pc n : ℕ) (es : Entries) → pc ≤ n → Beyond n es → Beyond pc es
beyond_less pc n [] less h = tt
beyond_less pc n (e ∷ es) less h = (omega (arith, less, h.0), beyond_less pc n es less h.1)

beyond_both : (pc : ℕ) (a b : Entries) → Beyond pc a → Beyond pc b → Beyond pc (a ++ b)
beyond_both pc [] b h k = k
beyond_both pc (e ∷ a) b h k = (h.0, beyond_both pc a b h.1 k)

grows : (pc : ℕ) (c : Fragment) → pc ≤ beyond pc c
grows pc c = omega (arith, beyond_is (ending_at 0) pc c)

entered_beyond : (pc : ℕ) (c : Fragment) → Beyond pc (entered pc c)
entered_beyond pc (straight is) = tt
entered_beyond pc (c ⨾ d) =
    beyond_both pc (entered pc c) (entered (beyond pc c) d) (entered_beyond pc c)
    (beyond_less pc (beyond pc c) (entered (beyond pc c) d) (grows pc c) (entered_beyond (beyond pc c) d))
entered_beyond pc (jump_out j) = tt
entered_beyond pc (bounded c) = entered_beyond pc c
entered_beyond pc (fork c d) =
    let second = beyond pc c + 1 in
    beyond_both pc (entered pc c) (entered second d) (entered_beyond pc c)
    (beyond_less pc second (entered second d) (omega (arith, grows pc c)) (entered_beyond second d))
entered_beyond pc (looped g c d) =
    let end = beyond (pc + 1 + 1) c + 1 in
    beyond_both pc (entered (pc + 1 + 1) c) (entered end d)
    (beyond_less pc (pc + 1 + 1) (entered (pc + 1 + 1) c) (omega arith) (entered_beyond (pc + 1 + 1) c))
    (beyond_less pc end (entered end d) (omega (arith, grows (pc + 1 + 1) c)) (entered_beyond end d))
entered_beyond pc break_loop = tt
entered_beyond pc next_round = tt
entered_beyond pc (declares m c) =
    (omega arith, beyond_less pc (pc + 1) (entered (pc + 1) c) (omega arith) (entered_beyond (pc + 1) c))

entered_up_to : (pc : ℕ) (c : Fragment) → UpTo (beyond pc c) (entered pc c)
entered_up_to pc (straight is) = tt
entered_up_to pc (c ⨾ d) =
    up_to_both (beyond (beyond pc c) d) (entered pc c) (entered (beyond pc c) d)
    (up_to_more (beyond pc c) (beyond (beyond pc c) d) (entered pc c) (grows (beyond pc c) d) (entered_up_to pc c))
    (entered_up_to (beyond pc c) d)
entered_up_to pc (jump_out j) = tt
entered_up_to pc (bounded c) = entered_up_to pc c
entered_up_to pc (fork c d) =
    let second = beyond pc c + 1 in
    up_to_both (beyond second d) (entered pc c) (entered second d)
    (up_to_more (beyond pc c) (beyond second d) (entered pc c) (omega (arith, grows second d)) (entered_up_to pc c))
    (entered_up_to second d)
entered_up_to pc (looped g c d) =
    let end = beyond (pc + 1 + 1) c + 1 in
    up_to_both (beyond end d) (entered (pc + 1 + 1) c) (entered end d)
    (up_to_more (beyond (pc + 1 + 1) c) (beyond end d) (entered (pc + 1 + 1) c) (omega (arith, grows end d))
    (entered_up_to (pc + 1 + 1) c)) (entered_up_to end d)
entered_up_to pc break_loop = tt
entered_up_to pc next_round = tt
entered_up_to pc (declares m c) =
    let following = beyond pc (declares m c) in
    let less : beyond (pc + 1) c ≤ following = omega (arith, beyond_all_is (beyond (pc + 1) c) (after_body m (pc + 1))) in
    (omega (arith, less, grows (pc + 1) c), up_to_more (beyond (pc + 1) c) following (entered (pc + 1) c) less (entered_up_to (pc + 1) c))

-- ---------------------------------------------------------------- the entries of assembled code
insert_last : (k : ℕ × ℕ) (ks : Entries) (place n : ℕ) → place < k.0 →
    insert_entry nat_cmp (k ∷ ks) place n ≡ (place, n) ∷ k ∷ ks
insert_last k ks place n less = let b : nat_lt place k.0 ≡ true = lt-ltb place k.0 less in rw b refl

insert_after : (e : ℕ × ℕ) (es : Entries) (place n : ℕ) → e.0 < place →
    insert_entry nat_cmp (e ∷ es) place n ≡ e ∷ insert_entry nat_cmp es place n
insert_after e es place n less =
    let b : nat_lt place e.0 ≡ false = le-ltb place e.0 (omega (arith, less)) in
    let c : nat_eq place e.0 ≡ false = ne_eqb place e.0 (λ same. absurd (omega (arith, less, same))) in
    rw (b, c) refl

-- an entry between those before its place and those after it
insert_between : (es ks : Entries) (pc n : ℕ) → UpTo pc es → Beyond (pc + 1) ks →
    insert_entry nat_cmp (es ++ ks) (pc + 1) n ≡ es ++ (pc + 1, n) ∷ ks
insert_between [] [] pc n h b = refl
insert_between [] (k ∷ ks) pc n h b = insert_last k ks (pc + 1) n b.0
insert_between (e ∷ es) ks pc n h b =
    insert_after e (es ++ ks) (pc + 1) n (omega (arith, h.0)) ∙ ap (λ r. e ∷ r) (insert_between es ks pc n h.1 b)

-- Instructions after which the entries are these and new ones, where these stand up to a place.
abbrev Adds : List Instruction → ℕ → Entries → Type 0
Adds is pc new =
    (es : Entries) → UpTo pc es → (b : Option ℕ) (rest : List Instruction) →
    (b1 : Option ℕ) × (entries_from es b (is ++ rest) ≡ entries_from (es ++ new) b1 rest)

one_passed : (x : Instruction) → builds x ≡ false → (es : Entries) (b : Option ℕ) (is : List Instruction) →
    (b1 : Option ℕ) × (entries_from es b (x ∷ is) ≡ entries_from es b1 is)
one_passed (i.LoadConst v) e es b is = (Some (name_count v), refl)
one_passed (i.BuildMacro x place caller) e es b is = absurd (cc e)
one_passed _ e es b is = (None, refl)

all_passed : (is : List Instruction) → NoneBegins is → (es : Entries) (b : Option ℕ) (rest : List Instruction) →
    (b1 : Option ℕ) × (entries_from es b (is ++ rest) ≡ entries_from es b1 rest)
all_passed [] n es b rest = (b, refl)
all_passed (x ∷ is) n es b rest =
    let a = one_passed x (simple_builds x n.0) es b (is ++ rest) in
    let c = all_passed is n.1 es a.0 rest in
    (c.0, a.1 ∙ c.1)

adds_none : (is : List Instruction) (pc : ℕ) → NoneBegins is → Adds is pc []
adds_none is pc n = λ es up b rest.
    let a = all_passed is n es b rest in
    (a.0, a.1 ∙ ap (λ k. entries_from k a.0 rest) (sym (append-nil es)))

adds_one : (x : Instruction) (is : List Instruction) (pc : ℕ) (new : Entries) → builds x ≡ false → Adds is pc new → Adds (x ∷ is) pc new
adds_one x is pc new e f = λ es up b rest.
    let a = one_passed x e es b (is ++ rest) in
    let c = f es up a.0 rest in
    (c.0, a.1 ∙ c.1)

adds_later : (is : List Instruction) (pc n : ℕ) (new : Entries) → pc ≤ n → Adds is n new → Adds is pc new
adds_later is pc n new less f = λ es up b rest. f es (up_to_more pc n es less up) b rest

adds_both : (is js : List Instruction) (pc n : ℕ) (new more : Entries) → pc ≤ n → UpTo n new → Adds is pc new → Adds js n more →
    Adds (is ++ js) pc (new ++ more)
adds_both is js pc n new more less within f g = λ es up b rest.
    let a = f es up b (js ++ rest) in
    let c = g (es ++ new) (up_to_both n es new (up_to_more pc n es less up) within) a.0 rest in
    (c.0, ap (entries_from es b) (append_assoc is js rest) ∙ a.1 ∙ c.1 ∙ ap (λ k. entries_from k c.0 rest) (append_assoc es new more))

texts_long : (xs : List (List ℕ)) → length (each (λ (x : List ℕ). text x false) xs) ≡ length xs
texts_long [] = refl
texts_long (x ∷ xs) = ap suc (texts_long xs)

names_long : (xs : List (List ℕ)) → name_count (name_list xs) ≡ length xs
names_long xs = ap length (list_of-vals_of (each (λ (x : List ℕ). text x false) xs)) ∙ texts_long xs

building_passed : (xs : List (List ℕ)) (m : MacroHead) (place : ℕ) (es : Entries) (b : Option ℕ) (rest : List Instruction) →
    entries_from es b (building xs m place ++ rest) ≡ entries_from (insert_entry nat_cmp es place (length m.parameters)) None rest
building_passed [] m place es b rest =
    ap (λ n. entries_from (insert_entry nat_cmp es place n) None rest) (names_long m.parameters)
building_passed (x ∷ xs) m place es b rest = building_passed xs m place es None rest

declares_adds : (a : List Instruction) (m : MacroHead) (pc to : ℕ) (new : Entries) → Beyond (pc + 1) new → Adds a (pc + 1) new →
    Adds (i.Jump to ∷ (a ++ after_body m (pc + 1))) pc ((pc + 1, length m.parameters) ∷ new)
declares_adds a m pc to new later f = λ es up b rest.
    let following = after_body m (pc + 1) in
    let inner = f es (up_to_more pc (pc + 1) es (omega arith) up) None (following ++ rest) in
    let built = building_passed m.free m (pc + 1) (es ++ new) None rest in (
      None,
      ap (entries_from es None) (append_assoc a following rest) ∙ inner.1 ∙ built
          ∙ ap (λ k. entries_from k None rest) (insert_between es new pc (length m.parameters) up later),
    )

entered_adds : (l : Labels) (pc : ℕ) (c : Fragment) → Unbegun c → Adds (assemble l pc c) pc (entered pc c)
entered_adds l pc (straight is) h = adds_none is pc h
entered_adds l pc (c ⨾ d) h =
    adds_both (assemble l pc c) (assemble l (beyond pc c) d) pc (beyond pc c) (entered pc c) (entered (beyond pc c) d) (grows pc c)
    (entered_up_to pc c) (entered_adds l pc c h.0) (entered_adds l (beyond pc c) d h.1)
entered_adds l pc (jump_out j) h = adds_none (jump j l.out ∷ []) pc (jump_none j l.out, tt)
entered_adds l pc (bounded c) h = entered_adds (outward (beyond pc c) l) pc c h
entered_adds l pc (fork c d) h =
    let second = beyond pc c + 1 in
    adds_both (assemble (outward second l) pc c) (i.Jump (beyond second d) ∷ assemble l second d) pc (beyond pc c) (entered pc c)
    (entered second d) (grows pc c) (entered_up_to pc c) (entered_adds (outward second l) pc c h.0)
    (adds_one (i.Jump (beyond second d)) (assemble l second d) (beyond pc c) (entered second d) refl
    (adds_later (assemble l second d) (beyond pc c) second (entered second d) (omega arith) (entered_adds l second d h.1)))
entered_adds l pc (looped g c d) h =
    let start = pc + 1 + 1 in
    let round = beyond start c in
    let end = round + 1 in
    let k = inward (pc + 1) end l in
    let a = assemble k start c in
    let b = assemble l end d in
    adds_one (i.PushLoop g) (i.Iterate end ∷ (a ++ i.Jump (pc + 1) ∷ b)) pc _ refl
    (adds_one (i.Iterate end) (a ++ i.Jump (pc + 1) ∷ b) pc _ refl
    (adds_later (a ++ i.Jump (pc + 1) ∷ b) pc start _ (omega arith)
    (adds_both a (i.Jump (pc + 1) ∷ b) start round (entered start c) (entered end d) (grows start c) (entered_up_to start c)
    (entered_adds k start c h.0)
    (adds_one (i.Jump (pc + 1)) b round (entered end d) refl
    (adds_later b round end (entered end d) (omega arith) (entered_adds l end d h.1))))))
entered_adds l pc break_loop h = adds_none (i.Jump l.after ∷ []) pc (refl, tt)
entered_adds l pc next_round h = adds_none (i.Jump l.again ∷ []) pc (refl, tt)
entered_adds l pc (declares m c) h =
    let end = beyond (pc + 1) c in
    declares_adds (assemble (ending_at end) (pc + 1) c) m pc (end + 1) (entered (pc + 1) c) (entered_beyond (pc + 1) c)
    (entered_adds (ending_at end) (pc + 1) c h)

-- a stream's entries are those of its code
pub entries_are : (c : Fragment) → Unbegun c → entries (assembled c) ≡ entered 0 c
entries_are c h =
    let a = entered_adds (whole_labels c) 0 c h [] tt None [] in
    ap entries (sym (append-nil (assembled c))) ∙ a.1

-- ---------------------------------------------------------------- what stands before each part of code
-- So many loops and macros stand before each part of code, and each of its macros is entered by its number.
abbrev pub Counts : List Instruction → Numbers → ℕ → Fragment → Type 0
Counts all at pc (straight is) = Unit {0}
Counts all at pc (c ⨾ d) = Counts all at pc c × Counts all (counted at c) (beyond pc c) d
Counts all at pc (jump_out j) = Unit {0}
Counts all at pc (bounded c) = Counts all at pc c
Counts all at pc (fork c d) = Counts all at pc c × Counts all (counted at c) (beyond pc c + 1) d
Counts all at pc (looped g c d) =
    (loops_before pc all ≡ at.loops) × Counts all (one_loop_more at) (pc + 1 + 1) c
    × Counts all (counted (one_loop_more at) c) (beyond (pc + 1 + 1) c + 1) d
Counts all at pc break_loop = Unit {0}
Counts all at pc next_round = Unit {0}
Counts all at pc (declares m c) = (entry_number (pc + 1) all ≡ at.macros) × Counts all (within_macro at) (pc + 1) c

-- what stands before code that stands after code without loops and macros
pub counts_after : (all : List Instruction) (at : Numbers) (pc : ℕ) (c d : Fragment) → Loopless c → Counts all at pc (c ⨾ d) →
    Counts all at (beyond pc c) d
counts_after all at pc c d h n = subst (λ m. Counts all m (beyond pc c) d) (counted_none at c h) n.1

-- The place of a macro with this number.
abbrev pub of_number : List Instruction → ℕ → ℕ → Bool
of_number all n pc = nat_eq (entry_number (pc + 1) all) n

-- The one macro of such code is entered by the number of the next.
pub one_marked : {m : MacroHead} {x : Fragment} (all : List Instruction) (at : Numbers) (l : Labels) (pc : ℕ) (c : Fragment) →
    Has (declares m x) c → At all l pc c → Counts all at pc c → AtWhere (of_number all at.macros) all l pc c
one_marked all at l pc _ it h n = (h.0, h.1, h.2, eq-eqb (entry_number (pc + 1) all) at.macros n.0)
one_marked all at l pc (c ⨾ d) (front one none) h n =
    (one_marked all at l pc c one h.0 n.0, marked_so (of_number all at.macros) all l (beyond pc c) d none h.1)
one_marked all at l pc (c ⨾ d) (back none one) h n =
    (marked_so (of_number all at.macros) all l pc c none h.0, one_marked all at l (beyond pc c) d one h.1 (counts_after all at pc c d none n))

before_it : (before : Entries) (pc n : ℕ) (rest : Entries) → UpTo pc before →
    prefix_len (λ (e : ℕ × ℕ). ltb e.0 (pc + 1)) (before ++ (pc + 1, n) ∷ rest) ≡ length before
before_it [] pc n rest h = let b : ltb (pc + 1) (pc + 1) ≡ false = le-ltb (pc + 1) (pc + 1) (omega arith) in rw b refl
before_it (e ∷ es) pc n rest h =
    let b : ltb e.0 (pc + 1) ≡ true = lt-ltb e.0 (pc + 1) (omega (arith, h.0)) in
    rw (b, before_it es pc n rest h.1) (omega arith)

-- Code stands among the entries of its stream.
counts_by : (all : List Instruction) (l : Labels) (at : Numbers) (pc : ℕ) (c : Fragment) → At all l pc c → Unbegun c →
    loops_before pc all ≡ at.loops → (before after : Entries) → entries all ≡ before ++ (entered pc c ++ after) →
    length before ≡ at.macros → UpTo pc before → Counts all at pc c
counts_by all l at pc (straight is) h p e before after es n up = tt
counts_by all l at pc (c ⨾ d) h p e before after es n up =
    let ec = entered pc c in
    let ed = entered (beyond pc c) d in (
      counts_by all l at pc c h.0 p.0 e before (ed ++ after) (es ∙ ap (λ k. before ++ k) (append_assoc ec ed after)) n up,
      counts_by all l (counted at c) (beyond pc c) d h.1 p.1 (loops_counted all l at pc c h.0 p.0 e) (before ++ ec) after
          (es ∙ ap (λ k. before ++ k) (append_assoc ec ed after) ∙ sym (append_assoc before ec (ed ++ after)))
          (omega (arith, n, macros_counted at pc c, length-append before ec))
          (up_to_both (beyond pc c) before ec (up_to_more pc (beyond pc c) before (grows pc c) up) (entered_up_to pc c)),
    )
counts_by all l at pc (jump_out j) h p e before after es n up = tt
counts_by all l at pc (bounded c) h p e before after es n up = counts_by all (outward (beyond pc c) l) at pc c h p e before after es n up
counts_by all l at pc (fork c d) h p e before after es n up =
    let second = beyond pc c + 1 in
    let k = outward second l in
    let ec = entered pc c in
    let ed = entered second d in (
      counts_by all k at pc c h.0 p.0 e before (ed ++ after) (es ∙ ap (λ k. before ++ k) (append_assoc ec ed after)) n up,
      counts_by all l (counted at c) second d h.2 p.1
          (one_begins all (beyond pc c) (counted at c).loops (i.Jump (beyond second d)) refl h.1 (loops_counted all k at pc c h.0 p.0 e))
          (before ++ ec) after
          (es ∙ ap (λ k. before ++ k) (append_assoc ec ed after) ∙ sym (append_assoc before ec (ed ++ after)))
          (omega (arith, n, macros_counted at pc c, length-append before ec))
          (up_to_both second before ec (up_to_more pc second before (omega (arith, grows pc c)) up)
          (up_to_more (beyond pc c) second ec (omega arith) (entered_up_to pc c))),
    )
counts_by all l at pc (looped g c d) h p e before after es n up =
    let start = pc + 1 + 1 in
    let end = beyond start c + 1 in
    let k = inward (pc + 1) end l in
    let more = one_loop_more at in
    let first : loops_before start all ≡ at.loops + 1 =
    after_one (pc + 1) all (i.Iterate end) h.1 ∙ after_one pc all (i.PushLoop g) h.0 ∙ ap (λ n. n + 1) e in
    let ec = entered start c in
    let ed = entered end d in (
      e,
      counts_by all k more start c h.2 p.0 first before (ed ++ after) (es ∙ ap (λ k. before ++ k) (append_assoc ec ed after)) n
          (up_to_more pc start before (omega arith) up),
      counts_by all l (counted more c) end d h.4 p.1
          (one_begins all (beyond start c) (counted more c).loops (i.Jump (pc + 1)) refl h.3
          (loops_counted all k more start c h.2 p.0 first))
          (before ++ ec) after
          (es ∙ ap (λ k. before ++ k) (append_assoc ec ed after) ∙ sym (append_assoc before ec (ed ++ after)))
          (omega (arith, n, macros_counted more start c, length-append before ec))
          (up_to_both end before ec (up_to_more pc end before (omega (arith, grows start c)) up)
          (up_to_more (beyond start c) end ec (omega arith) (entered_up_to start c))),
    )
counts_by all l at pc break_loop h p e before after es n up = tt
counts_by all l at pc next_round h p e before after es n up = tt
counts_by all l at pc (declares m c) h p e before after es n up =
    let end = beyond (pc + 1) c in
    let here : Entries = (pc + 1, length m.parameters) ∷ [] in
    let ec = entered (pc + 1) c in (
      ap (prefix_len (λ (e : ℕ × ℕ). ltb e.0 (pc + 1))) es ∙ before_it before pc (length m.parameters) (ec ++ after) up ∙ n,
      counts_by all (ending_at end) (within_macro at) (pc + 1) c h.1 p (one_begins all pc at.loops (i.Jump (end + 1)) refl h.0 e)
          (before ++ here) after (es ∙ sym (append_assoc before here (ec ++ after)))
          (omega (arith, n, length-append before here))
          (up_to_both (pc + 1) before here (up_to_more pc (pc + 1) before (omega arith) up) (omega arith, tt)),
    )

pub counts_whole : (c : Fragment) → Unbegun c → Counts (assembled c) first_numbers 0 c
counts_whole c p =
    counts_by (assembled c) (whole_labels c) first_numbers 0 c (stands_whole c) p refl [] []
    (entries_are c p ∙ sym (append-nil (entered 0 c))) refl tt
