-- What picking characters writes.
use Rattle.std.proofs.Common.{◌≡◌, ◌<◌, ◌+◌, ℕ, List, ◌∷◌, ◌++◌, length, take, drop, map, slice_index, refl, sym, ap, ◌∙◌, arith, zero, suc}
use Rattle.std.proofs.Common.{subst, append_assoc, drop-cons, add-one, Result, Ok, Err, IfOk}
use Rattle.std.specs.Char.{encode_utf8}
use Rattle.std.specs.List.{All, range_with_len}
use Rattle.std.proofs.lemmas.Str.{encodes-chars}
use Rattle.std.specs.Str.{chars, IsUtf8, encode_utf8_all}
use Rattle.std.specs.String.{string_bytes}
use Rattle.tm_primitives.specs.Characters.{picked}
use Rattle.std.specs.declared.string.String.{String}

pub inside_first : (n p : ℕ) (ps qs : List ℕ) → ps ≡ p ∷ qs → All (λ q. q < n) ps → p < n
inside_first n p ps qs e h =
    let whole : All (λ q. q < n) (p ∷ qs) = subst (All (λ q. q < n)) e h in
    whole 0 0 (omega arith)

pub inside_more : (n p : ℕ) (ps qs : List ℕ) → ps ≡ p ∷ qs → All (λ q. q < n) ps → All (λ q. q < n) qs
inside_more n p ps qs e h k d l =
    let whole : All (λ q. q < n) (p ∷ qs) = subst (All (λ q. q < n)) e h in
    whole (suc k) d (omega (arith, l))

-- one more character
pub picked_more : (table ps qs out new whole : List ℕ) (p : ℕ) → ps ≡ p ∷ qs → new ≡ out ++ encode_utf8 (slice_index table p)
    → out ++ picked table ps ≡ whole → new ++ picked table qs ≡ whole
picked_more table ps qs out new whole p e f h =
    let step : out ++ (encode_utf8 (slice_index table p) ++ picked table qs) ≡ whole = rw e at h in
    ap (λ (s : List ℕ). s ++ picked table qs) f ∙ (append_assoc out (encode_utf8 (slice_index table p)) (picked table qs) ∙ step)

-- a run of places takes a part of the list
run_picked : (cs : List ℕ) (a n : ℕ) → All (λ q. q < length cs) (range_with_len a n) →
    map (slice_index cs) (range_with_len a n) ≡ take n (drop a cs)
run_picked cs a zero h = refl
run_picked cs a (suc n) h =
    let here : drop a cs ≡ slice_index cs a ∷ drop (suc a) cs = drop-cons cs a 0 (h 0 0 (omega arith)) in
    let more : map (slice_index cs) (range_with_len (a + 1) n)
    ≡ take n (drop (a + 1) cs) = run_picked cs (a + 1) n
    (inside_more (length cs) a (range_with_len a (suc n)) (range_with_len (a + 1) n) refl h) in
    let next : drop (a + 1) cs ≡ drop (suc a) cs = ap (λ (k : ℕ). drop k cs) (add-one a) in
    ap (λ (l : List ℕ). slice_index cs a ∷ l) (more ∙ ap (take n) next) ∙ ap (take (suc n)) (sym here)

pub part_picked : (cs ps part rest : List ℕ) (a n : ℕ) → All (λ q. q < length cs) ps → ps ≡ range_with_len a n → IsUtf8 part
    → chars part ≡ take n (chars rest) → chars rest ≡ drop a cs → part ≡ picked cs ps
part_picked cs ps part rest a n h e u f g =
    let inside : All (λ q. q < length cs) (range_with_len a n) = subst (All (λ q. q < length cs)) e h in
    let taken : chars part ≡ map (slice_index cs) ps = f
    ∙ (ap (take n) g ∙ (sym (run_picked cs a n inside) ∙ ap (map (slice_index cs)) (sym e))) in
    sym (encodes-chars part u) ∙ ap encode_utf8_all taken

-- a table of the characters serves as well
pub table_inside : (table cs ps : List ℕ) → table ≡ cs → All (λ q. q < length cs) ps → All (λ q. q < length table) ps
table_inside table cs ps e h = subst (λ (t : List ℕ). All (λ q. q < length t) ps) (sym e) h

pub table_picked : {E Z : Type 0} (r : Result (String Z) E) (table cs ps : List ℕ) → table ≡ cs →
    IfOk r (λ s. string_bytes s ≡ picked table ps) → IfOk r (λ s. string_bytes s ≡ picked cs ps)
table_picked (Ok s) table cs ps e h = h ∙ ap (λ (t : List ℕ). picked t ps) e
table_picked (Err x) table cs ps e h = tt

pub copied : {E Z : Type 0} (r : Result (String Z) E) (bs cs : List ℕ) → bs ≡ cs → IfOk r (λ s. string_bytes s ≡ bs) →
    IfOk r (λ s. string_bytes s ≡ cs)
copied (Ok s) bs cs e h = h ∙ e
copied (Err x) bs cs e h = tt
