-- The closure of a number among others.
use Rattle.std.proofs.Common.{◌≡◌, ℕ, zero, suc, ◌<◌, ◌≤◌, List, [], ◌∷◌, length, slice_set, get_or, arith, refl, sym, ap, ◌∙◌, Bool, true}
use Rattle.std.proofs.Common.{false, true≢false, Option, None, Some, cond, is_some, not, Bor, Result, Ok, Err, OnErr}
use Rattle.tm_values.specs.Answer.{IsLent}
use Rattle.std.specs.BTreeMap.{is_at}
use Rattle.std.specs.Ordering.{match_ordering, is_eq}
use Rattle.std.specs.declared.cmp.Ordering.{Ordering}
use Rattle.std.specs.declared.cmp.Ordering.TheVariants.{Less, Equal, Greater}
use Rattle.tm_syntax.specs.Named.{find, name_cmp, put}
use Rattle.tm_values.specs.Val.{Val}
use Rattle.tm_meaning.specs.World.{Bindings, put_at, read_closure}
use Rattle.tm_scopes.specs.Closures.{others_at, others_than, IsReplaced, IsReplacedAt}
use Rattle.tm_scopes.proofs.Ordered.{at_itself}

pub put_past : (n : ℕ) (x : List ℕ) (v : Val) (cs : List Bindings) → length cs ≤ n → cs ≡ put_at n x v cs
put_past n x v [] h = refl
put_past zero x v (c ∷ cs) h = absurd (omega (arith, h))
put_past (suc n) x v (c ∷ cs) h = ap (λ l. c ∷ l) (put_past n x v cs (omega (arith, h)))

pub put_there : (n : ℕ) (x : List ℕ) (v : Val) (cs : List Bindings) (old : Bindings) → n < length cs → old ≡ get_or cs n old →
    slice_set cs n (put x v old) ≡ put_at n x v cs
put_there n x v [] old h e = absurd (omega (arith, h))
put_there zero x v (c ∷ cs) old h e = ap (λ (l : Bindings). put x v l ∷ cs) e
put_there (suc n) x v (c ∷ cs) old h e = ap (λ l. c ∷ l) (put_there n x v cs old (omega (arith, h)) e)

pub others_past : (n : ℕ) (x : List ℕ) (cs : List Bindings) → length cs ≤ n → cs ≡ others_at n x cs
others_past n x [] h = refl
others_past zero x (c ∷ cs) h = absurd (omega (arith, h))
others_past (suc n) x (c ∷ cs) h = ap (λ l. c ∷ l) (others_past n x cs (omega (arith, h)))

pub others_there : (n : ℕ) (x : List ℕ) (cs : List Bindings) (old : Bindings) → n < length cs → old ≡ get_or cs n old →
    slice_set cs n (others_than x old) ≡ others_at n x cs
others_there n x [] old h e = absurd (omega (arith, h))
others_there zero x (c ∷ cs) old h e = ap (λ (l : Bindings). others_than x l ∷ cs) e
others_there (suc n) x (c ∷ cs) old h e = ap (λ l. c ∷ l) (others_there n x cs old (omega (arith, h)) e)

-- ---------------------------------------------------------------- a name that is put and forgotten
found_none : {A : Type 0} (b : Bool) (a : A) (o : Option A) → cond b (Some a) o ≡ None → (b ≡ false) × (o ≡ None)
found_none true a o h = absurd (true≢false (ap is_some h))
found_none false a o h = (refl, h)

without_it : (x : List ℕ) (c : Bindings) → find x c ≡ None → others_than x c ≡ c
without_it x [] h = refl
without_it x (p ∷ ps) h =
    let first = found_none (is_at (name_cmp x) p.0) p.1 (find x ps) h in
    ap (λ b. cond (not b) (p ∷ others_than x ps) (others_than x ps)) first.0 ∙ ap (λ l. p ∷ l) (without_it x ps first.1)

forgotten_first : (x : List ℕ) (v : Val) (p : List ℕ × Val) (ps : Bindings) → find x (p ∷ ps) ≡ None →
    is_at (name_cmp x) p.0 ≡ false → others_than x (put x v ps) ≡ ps → (r : Ordering) → name_cmp x p.0 ≡ r →
    others_than x (match_ordering r ((x, v) ∷ p ∷ ps) ((p.0, v) ∷ ps) (p ∷ put x v ps)) ≡ p ∷ ps
forgotten_first x v p ps h apart more Less e =
    ap (λ b. cond (not b) ((x, v) ∷ others_than x (p ∷ ps)) (others_than x (p ∷ ps))) (at_itself x x refl) ∙ without_it x (p ∷ ps) h
forgotten_first x v p ps h apart more Equal e = absurd (true≢false (sym (ap is_eq e) ∙ apart))
forgotten_first x v p ps h apart more Greater e =
    ap (λ b. cond (not b) (p ∷ others_than x (put x v ps)) (others_than x (put x v ps))) apart ∙ ap (λ l. p ∷ l) more

-- a name that stood for nothing, and is put and then forgotten
pub forgotten : (x : List ℕ) (v : Val) (c : Bindings) → find x c ≡ None → others_than x (put x v c) ≡ c
forgotten x v [] h = ap (λ b. cond (not b) ((x, v) ∷ []) []) (at_itself x x refl)
forgotten x v (p ∷ ps) h =
    let first = found_none (is_at (name_cmp x) p.0) p.1 (find x ps) h in
    forgotten_first x v p ps h first.0 (forgotten x v ps first.1) (name_cmp x p.0) refl

pub forgotten_at : (n : ℕ) (x : List ℕ) (v : Val) (cs : List Bindings) → read_closure cs (Some n) x ≡ None →
    others_at n x (put_at n x v cs) ≡ cs
forgotten_at n x v [] h = refl
forgotten_at zero x v (c ∷ cs) h = ap (λ l. l ∷ cs) (forgotten x v c h)
forgotten_at (suc n) x v (c ∷ cs) h = ap (λ l. c ∷ l) (forgotten_at n x v cs h)

-- ---------------------------------------------------------------- a name that is replaced
read_past : (n : ℕ) (x : List ℕ) (cs : List Bindings) → length cs ≤ n → read_closure cs (Some n) x ≡ None
read_past n x [] h = refl
read_past zero x (c ∷ cs) h = absurd (omega (arith, h))
read_past (suc n) x (c ∷ cs) h = read_past n x cs (omega (arith, h))

read_there : (n : ℕ) (x : List ℕ) (cs : List Bindings) (old : Bindings) → n < length cs → old ≡ get_or cs n old →
    read_closure cs (Some n) x ≡ find x old
read_there n x [] old h e = absurd (omega (arith, h))
read_there zero x (c ∷ cs) old h e = ap (find x) (sym e)
read_there (suc n) x (c ∷ cs) old h e = read_there n x cs old (omega (arith, h)) e

same_there : (n : ℕ) (cs : List Bindings) (old : Bindings) → n < length cs → old ≡ get_or cs n old → slice_set cs n old ≡ cs
same_there n [] old h e = absurd (omega (arith, h))
same_there zero (c ∷ cs) old h e = ap (λ l. l ∷ cs) e
same_there (suc n) (c ∷ cs) old h e = ap (λ l. c ∷ l) (same_there n cs old (omega (arith, h)) e)

pub replaced_past : (n : ℕ) (x : List ℕ) (v : Val) (cs : List Bindings) → length cs ≤ n → IsReplacedAt false n x v cs cs
replaced_past n x v cs h = (refl, read_past n x cs h)

pub replaced_there : (done : Bool) (n : ℕ) (x : List ℕ) (v : Val) (cs : List Bindings) (old new : Bindings) → n < length cs →
    old ≡ get_or cs n old → IsReplaced done x v old new → IsReplacedAt done n x v cs (slice_set cs n new)
replaced_there true n x v cs old new h e is = ap (slice_set cs n) is ∙ put_there n x v cs old h e
replaced_there false n x v cs old new h e is =
    (ap (slice_set cs n) is.0 ∙ same_there n cs old h e, read_there n x cs old h e ∙ is.1)

-- ---------------------------------------------------------------- what was lent, and what is said of an error
pub lent_none : (r : Option (Bor Val)) (o : Option Val) → IsLent r o → is_some r ≡ false → o ≡ None
lent_none None o lent e = lent
lent_none (Some v) o lent e = absurd (true≢false e)

pub always : {T E P : Type 0} (r : Result T E) → P → OnErr r P
always (Ok x) p = tt
always (Err e) p = p
