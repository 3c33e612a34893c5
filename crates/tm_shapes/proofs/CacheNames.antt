-- Names that are taken one after the other fit exactly where no two of one number differ.
use Rattle.std.proofs.Common.{◌≡◌, ◌⊎◌, inl, inr, ◌<◌, ◌≤◌, ℕ, zero, suc, List, [], ◌∷◌, ◌++◌, length, Option, None, Some, Bool, true, false, nat_eq, nat_lt, not}
use Rattle.std.proofs.Common.{◌&&◌, ◌||◌, refl, sym, ap, ◌∙◌, subst, arith, eqb-true, slice_set, replicate}
use Rattle.std.specs.Borrow.{Bor}
use Rattle.std.specs.Prelude.{is_some, option_and_then, slice_get}
use Rattle.std.proofs.lemmas.Bool.Decides.{nat_tests}
use Rattle.std.proofs.lemmas.Slice.Eq.{bytes_eq-Decides}
use Rattle.tm_syntax.specs.Choices.{choose}
use Rattle.tm_syntax.specs.CacheNumbers.{no_cache, cache_count}
use Rattle.tm_syntax.specs.Named.{same_name}
use Rattle.tm_shapes.specs.CacheNames.{Names, all_taken, name_of, names_of, no_names, taken, taken_by, told}
use Rattle.tm_shapes.specs.Placed.{Numbered, agrees, caches_fit}

-- a name is that of its number, if that has one
abbrev fits_by : Option (Option (List ℕ)) → List ℕ → Bool
fits_by (Some (Some y)) x = same_name x y
fits_by o x = true

abbrev fits_one : Names → List ℕ × ℕ → Bool
fits_one t u = fits_by (slice_get t u.1) u.0

abbrev fits_all : Names → Numbered → Bool
fits_all t [] = true
fits_all t (u ∷ us) = fits_one t u && fits_all t us

both_ways : (a b : Bool) → (a ≡ true → b ≡ true) → (b ≡ true → a ≡ true) → a ≡ b
both_ways true b h k = sym (h refl)
both_ways false true h k = k refl
both_ways false false h k = refl

and_is : (a b : Bool) → (a && b) ≡ true → (a ≡ true) × (b ≡ true)
and_is true b e = (refl, e)
and_is false b e = absurd (cc e)

and_are : (a b : Bool) → a ≡ true → b ≡ true → (a && b) ≡ true
and_are a b e f = rw e f

and_true : (b : Bool) → (b && true) ≡ b
and_true true = refl
and_true false = refl

name_itself : (x : List ℕ) → same_name x x ≡ true
name_itself x = (bytes_eq-Decides x x).1 refl

name_is : (x y : List ℕ) → same_name x y ≡ true → x ≡ y
name_is x y e = (bytes_eq-Decides x y).0 e

-- what a number has after one is set
set_at : {A : Type 0} (t : List A) (k n : ℕ) (x y : A) → slice_get t k ≡ Some y →
    ((n ≡ k) × (slice_get (slice_set t k x) n ≡ Some x)) ⊎ ((nat_eq n k ≡ false) × (slice_get (slice_set t k x) n ≡ slice_get t n))
set_at [] k n x y e = absurd (cc e)
set_at (z ∷ t) zero zero x y e = inl (refl, refl)
set_at (z ∷ t) zero (suc n) x y e = inr (grind (arith, nat_tests), refl)
set_at (z ∷ t) (suc k) zero x y e = inr (grind (arith, nat_tests), refl)
set_at (z ∷ t) (suc k) (suc n) x y e = set_on (nat_eq n k) refl (set_at t k n x y e)
  where
    set_on : (b : Bool) → nat_eq n k ≡ b →
        ((n ≡ k) × (slice_get (slice_set t k x) n ≡ Some x)) ⊎ ((nat_eq n k ≡ false) × (slice_get (slice_set t k x) n ≡ slice_get t n)) →
        ((suc n ≡ suc k) × (slice_get (slice_set t k x) n ≡ Some x)) ⊎ ((nat_eq (suc n) (suc k) ≡ false) × (slice_get (slice_set t k x) n ≡ slice_get t n))
    set_on b f (inl h) = inl (ap suc h.0, h.1)
    set_on b f (inr h) = inr (let g : nat_eq (suc n) (suc k) ≡ nat_eq n k = grind (arith, nat_tests) in g ∙ h.0, h.1)

-- where a free number gets a name, another name fits if it fitted, and isn't another one of that number
set_fits : (t : Names) (k : ℕ) (x : List ℕ) (v : List ℕ × ℕ) → slice_get t k ≡ Some None →
    fits_one (slice_set t k (Some x)) v ≡ ((not (nat_eq v.1 k) || same_name v.0 x) && fits_one t v)
set_fits t k x v e = by_place (set_at t k v.1 (Some x) None e)
  where
    by_place : ((v.1 ≡ k) × (slice_get (slice_set t k (Some x)) v.1 ≡ Some (Some x))) ⊎
        ((nat_eq v.1 k ≡ false) × (slice_get (slice_set t k (Some x)) v.1 ≡ slice_get t v.1)) →
        fits_one (slice_set t k (Some x)) v ≡ ((not (nat_eq v.1 k) || same_name v.0 x) && fits_one t v)
    by_place (inl (is, new)) =
        let same : nat_eq v.1 k ≡ true = grind (arith, nat_tests, is) in
        let old : slice_get t v.1 ≡ Some None = ap (slice_get t) is ∙ e in
        ap (λ o. fits_by o v.0) new ∙ sym (and_true (same_name v.0 x))
        ∙ sym (ap (λ o. (not (nat_eq v.1 k) || same_name v.0 x) && fits_by o v.0) old ∙ ap (λ b. (not b || same_name v.0 x) && true) same)
    by_place (inr (apart, new)) = ap (λ o. fits_by o v.0) new ∙ sym (ap (λ b. (not b || same_name v.0 x) && fits_one t v) apart)

shuffle : (a b c d : Bool) → ((a && b) && (c && d)) ≡ ((a && c) && (b && d))
shuffle true true c d = refl
shuffle true false true d = refl
shuffle true false false d = refl
shuffle false b c d = refl

set_fits_all : (t : Names) (k : ℕ) (x : List ℕ) (us : Numbered) → slice_get t k ≡ Some None →
    fits_all (slice_set t k (Some x)) us ≡ (agrees x k us && fits_all t us)
set_fits_all t k x [] e = refl
set_fits_all t k x (v ∷ us) e =
    let new = slice_set t k (Some x) in
    let apart = not (nat_eq v.1 k) || same_name v.0 x in
    ap (λ b. b && fits_all new us) (set_fits t k x v e) ∙ ap (λ b. (apart && fits_one t v) && b) (set_fits_all t k x us e)
    ∙ shuffle apart (fits_one t v) (agrees x k us) (fits_all t us)

agrees_by : (b : Bool) (v : List ℕ × ℕ) (y : List ℕ) (k : ℕ) (t : Names) → nat_eq v.1 k ≡ b → slice_get t k ≡ Some (Some y) → fits_one t v ≡ true →
    (not b || same_name v.0 y) ≡ true
agrees_by false v y k t e at f = refl
agrees_by true v y k t e at f =
    let old : slice_get t v.1 ≡ Some (Some y) = ap (slice_get t) (eqb-true v.1 k e) ∙ at in
    sym (ap (λ o. fits_by o v.0) old) ∙ f

-- names that fit a number's name agree with it
fits_agree : (t : Names) (k : ℕ) (y : List ℕ) (us : Numbered) → slice_get t k ≡ Some (Some y) → fits_all t us ≡ true → agrees y k us ≡ true
fits_agree t k y [] at e = refl
fits_agree t k y (v ∷ us) at e =
    let h = and_is (fits_one t v) (fits_all t us) e in
    and_are (not (nat_eq v.1 k) || same_name v.0 y) (agrees y k us) (agrees_by (nat_eq v.1 k) v y k t refl at h.0) (fits_agree t k y us at h.1)

past_end : {A : Type 0} (t : List A) (k : ℕ) → length t ≤ k → slice_get t k ≡ None
past_end [] k h = refl
past_end (x ∷ t) zero h = absurd (omega (arith, h))
past_end (x ∷ t) (suc k) h = past_end t k (omega (arith, h))

within : {A : Type 0} (t : List A) (k : ℕ) (x : A) → slice_get t k ≡ Some x → k < length t
within [] k x e = absurd (cc e)
within (y ∷ t) zero x e = omega arith
within (y ∷ t) (suc k) x e = omega (arith, within t k x e)

beyond : {A : Type 0} (t : List A) (k : ℕ) → slice_get t k ≡ None → length t ≤ k
beyond [] k e = omega arith
beyond (y ∷ t) zero e = absurd (cc e)
beyond (y ∷ t) (suc k) e = omega (arith, beyond t k e)

length-set : {A : Type 0} (t : List A) (k : ℕ) (x : A) → length (slice_set t k x) ≡ length t
length-set [] k x = refl
length-set (y ∷ t) zero x = refl
length-set (y ∷ t) (suc k) x = ap suc (length-set t k x)

free_last : (a b c d : Bool) → a ≡ true → (c && (b && d)) ≡ (((false || (a && b)) && c) && (true && d))
free_last true true true d e = refl
free_last true true false d e = refl
free_last true false true d e = refl
free_last true false false d e = refl
free_last false b c d e = absurd (cc e)

known_last : (a b c d : Bool) → a ≡ true → (d ≡ true → b ≡ true) → (c && d) ≡ (((false || (a && b)) && c) && (true && d))
known_last true true c d e h = refl
known_last true false true true e h = absurd (cc (h refl))
known_last true false true false e h = refl
known_last true false false d e h = refl
known_last false b c d e h = absurd (cc e)

other_last : (a b c d : Bool) → false ≡ (((false || (a && b)) && c) && (false && d))
other_last true true true d = refl
other_last true true false d = refl
other_last true false c d = refl
other_last false b c d = refl

none_last : (b c d : Bool) → false ≡ (((false || (false && b)) && c) && d)
none_last b c d = refl

-- what holds of all later names, whatever names there are by then
abbrev Later : Numbered → Type 0
Later us = (t : Names) → length t ≡ 50 → is_some (all_taken us t) ≡ (caches_fit us && fits_all t us)

by_known : (t : Names) (u : List ℕ × ℕ) (us : Numbered) (l : length t ≡ 50) → Later us → (y : List ℕ) (b : Bool) → slice_get t u.1 ≡ Some (Some y) →
    same_name u.0 y ≡ b → is_some (option_and_then (all_taken us) (choose b (λ _. Some t) (λ _. None)))
    ≡ (((false || (nat_lt u.1 cache_count && agrees u.0 u.1 us)) && caches_fit us) && (b && fits_all t us))
by_known t u us l later y true at same =
    let near : nat_lt u.1 cache_count ≡ true = grind (arith, nat_tests, l, within t u.1 (Some y) at) in
    let is : u.0 ≡ y = name_is u.0 y same in
    later t l ∙ known_last (nat_lt u.1 cache_count) (agrees u.0 u.1 us) (caches_fit us) (fits_all t us) near
    (λ h. ap (λ x. agrees x u.1 us) is ∙ fits_agree t u.1 y us at h)
by_known t u us l later y false at apart = other_last (nat_lt u.1 cache_count) (agrees u.0 u.1 us) (caches_fit us) (fits_all t us)

by_slot : (t : Names) (u : List ℕ × ℕ) (us : Numbered) (l : length t ≡ 50) → Later us → (o : Option (Option (List ℕ))) → slice_get t u.1 ≡ o →
    is_some (option_and_then (all_taken us) (taken_by o u.0 u.1 t))
    ≡ (((false || (nat_lt u.1 cache_count && agrees u.0 u.1 us)) && caches_fit us) && (fits_by o u.0 && fits_all t us))
by_slot t u us l later None at =
    let far : nat_lt u.1 cache_count ≡ false = grind (arith, nat_tests, l, beyond t u.1 at) in
    sym (ap (λ b. ((false || (b && agrees u.0 u.1 us)) && caches_fit us) && (true && fits_all t us)) far)
by_slot t u us l later (Some None) at =
    let near : nat_lt u.1 cache_count ≡ true = grind (arith, nat_tests, l, within t u.1 None at) in
    let new = slice_set t u.1 (Some u.0) in
    later new (length-set t u.1 (Some u.0) ∙ l) ∙ ap (λ b. caches_fit us && b) (set_fits_all t u.1 u.0 us at)
    ∙ free_last (nat_lt u.1 cache_count) (agrees u.0 u.1 us) (caches_fit us) (fits_all t us) near
by_slot t u us l later (Some (Some y)) at = by_known t u us l later y (same_name u.0 y) at refl

by_none : (t : Names) (u : List ℕ × ℕ) (us : Numbered) (l : length t ≡ 50) → Later us → (b : Bool) → nat_eq u.1 no_cache ≡ b →
    is_some (option_and_then (all_taken us) (choose b (λ _. Some t) (λ _. taken_by (slice_get t u.1) u.0 u.1 t)))
    ≡ (((b || (nat_lt u.1 cache_count && agrees u.0 u.1 us)) && caches_fit us) && (fits_one t u && fits_all t us))
by_none t u us l later true e =
    let far : length t ≤ u.1 = omega (arith, l, eqb-true u.1 no_cache e) in
    later t l ∙ sym (ap (λ o. caches_fit us && (fits_by o u.0 && fits_all t us)) (past_end t u.1 far))
by_none t u us l later false e = by_slot t u us l later (slice_get t u.1) refl

all_fit : (us : Numbered) → Later us
all_fit [] t l = refl
all_fit (u ∷ us) t l = by_none t u us l (all_fit us) (nat_eq u.1 no_cache) refl

abbrev empty : ℕ → Names
empty k = replicate k None

none_at : (k n : ℕ) → (slice_get (empty k) n ≡ None) ⊎ (slice_get (empty k) n ≡ Some None)
none_at zero n = inl refl
none_at (suc k) zero = inr refl
none_at (suc k) (suc n) = none_at k n

none_fits_by : (k : ℕ) (u : List ℕ × ℕ) → (slice_get (empty k) u.1 ≡ None) ⊎ (slice_get (empty k) u.1 ≡ Some None) → fits_one (empty k) u ≡ true
none_fits_by k u (inl h) = ap (λ o. fits_by o u.0) h
none_fits_by k u (inr h) = ap (λ o. fits_by o u.0) h

none_fit : (k : ℕ) (us : Numbered) → fits_all (empty k) us ≡ true
none_fit k [] = refl
none_fit k (u ∷ us) = and_are (fits_one (empty k) u) (fits_all (empty k) us) (none_fits_by k u (none_at k u.1)) (none_fit k us)

-- From no names they are all taken exactly where they fit.
pub taken_fit : (us : Numbered) → is_some (all_taken us no_names) ≡ caches_fit us
taken_fit us = all_fit us no_names refl ∙ ap (λ b. caches_fit us && b) (none_fit 50 us) ∙ and_true (caches_fit us)

after_one : (us vs : Numbered) → ((t : Names) → all_taken (us ++ vs) t ≡ option_and_then (all_taken vs) (all_taken us t)) → (o : Option Names) →
    option_and_then (all_taken (us ++ vs)) o ≡ option_and_then (all_taken vs) (option_and_then (all_taken us) o)
after_one us vs h None = refl
after_one us vs h (Some t) = h t

-- those before, and then the others
pub taken_after : (us vs : Numbered) (t : Names) → all_taken (us ++ vs) t ≡ option_and_then (all_taken vs) (all_taken us t)
taken_after [] vs t = refl
taken_after (u ∷ us) vs t = after_one us vs (taken_after us vs) (taken u.0 u.1 t)

-- ---------------------------------------------------------------- in memory
pub none_named : (os : List (Option (Bor (List ℕ)))) (n : ℕ) → length os ≤ n → slice_get (names_of os) n ≡ None
none_named [] n h = refl
none_named (o ∷ os) zero h = absurd (omega (arith, h))
none_named (o ∷ os) (suc n) h = none_named os n (omega (arith, h))

pub one_named : (os : List (Option (Bor (List ℕ)))) (n : ℕ) (o : Option (Bor (List ℕ))) → slice_get os n ≡ Some o →
    slice_get (names_of os) n ≡ Some (name_of o)
one_named [] n o e = absurd (cc e)
one_named (p ∷ os) zero o e = let is : p ≡ o = cc e in ap (λ q. Some (name_of q)) is
one_named (p ∷ os) (suc n) o e = one_named os n o e

pub set_named : (os : List (Option (Bor (List ℕ)))) (n : ℕ) (o : Option (Bor (List ℕ))) →
    names_of (slice_set os n o) ≡ slice_set (names_of os) n (name_of o)
set_named [] n o = refl
set_named (p ∷ os) zero o = refl
set_named (p ∷ os) (suc n) o = ap (λ t. name_of p ∷ t) (set_named os n o)

-- a number that isn't none is taken as what it has tells
pub taken_so : (x : List ℕ) (k : ℕ) (t : Names) (o : Option (Option (List ℕ))) (r : Option Names) → (k ≡ no_cache → ⊥) → slice_get t k ≡ o →
    taken_by o x k t ≡ r → taken x k t ≡ r
taken_so x k t o r apart at e = by_none (nat_eq k no_cache) refl
  where
    by_none : (b : Bool) → nat_eq k no_cache ≡ b → choose b (λ _. Some t) (λ _. taken_by (slice_get t k) x k t) ≡ r
    by_none true h = absurd (apart (eqb-true k no_cache h))
    by_none false h = ap (λ p. taken_by p x k t) at ∙ e

pub told_by : (b : Bool) (t : Names) → choose b (λ _. Some t) (λ _. None) ≡ told b t
told_by true t = refl
told_by false t = refl

-- after names that are taken the others are as from there, and after names that aren't none are
pub goes_on : (us vs : Numbered) (t t1 : Names) → all_taken us t ≡ Some t1 → all_taken (us ++ vs) t ≡ all_taken vs t1
goes_on us vs t t1 e = taken_after us vs t ∙ ap (option_and_then (all_taken vs)) e

pub stops : (us vs : Numbered) (t : Names) → all_taken us t ≡ None → all_taken (us ++ vs) t ≡ None
stops us vs t e = taken_after us vs t ∙ ap (option_and_then (all_taken vs)) e

pub unfit : (us : Numbered) → all_taken us no_names ≡ None → caches_fit us ≡ false
unfit us e = sym (taken_fit us) ∙ ap is_some e

pub fit : (us : Numbered) (t : Names) → Some t ≡ all_taken us no_names → caches_fit us ≡ true
fit us t e = sym (taken_fit us) ∙ ap is_some (sym e)

pub either_unfit : (us vs : Numbered) → (all_taken us no_names ≡ None) ⊎ (all_taken vs no_names ≡ None) → false ≡ (caches_fit us && caches_fit vs)
either_unfit us vs (inl e) = sym (ap (λ b. b && caches_fit vs) (unfit us e))
either_unfit us vs (inr e) = sym (ap (λ b. caches_fit us && b) (unfit vs e) ∙ and_false (caches_fit us))
  where
    and_false : (b : Bool) → (b && false) ≡ false
    and_false true = refl
    and_false false = refl
