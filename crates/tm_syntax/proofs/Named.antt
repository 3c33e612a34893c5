-- Maps by name, whose keys lie in memory, against the pairs that contracts see.
use Rattle.std.proofs.Common.{◌≡◌, ◌≢◌, ◌∙◌, ℕ, List, [], ◌∷◌, map, refl, sym, ap, Option, Some, None, MatchOption, Bor, Bool, true}
use Rattle.std.proofs.Common.{false, cond, ◌⊎◌, inl, inr}
use Rattle.std.proofs.lemmas.Map.Text.{is_eq-slice_cmp}
use Rattle.std.proofs.lemmas.Slice.Eq.{bytes_eq-Decides}
use Rattle.std.specs.Option.{option_copied}
use Rattle.std.specs.Rc.{rc_str_bytes}
use Rattle.std.specs.declared.rc.RcStr.{RcStr}
use Rattle.std.specs.declared.alloc.Global.{Global}
use Rattle.std.specs.declared.cmp.Ordering.{Ordering}
use Rattle.std.specs.declared.cmp.Ordering.TheVariants.{Less, Equal, Greater}
use Rattle.std.specs.Ordering.{match_ordering, is_eq}
use Rattle.std.specs.BTreeMap.{insert_entry, is_at}
use Rattle.std.specs.Map.{keys_of, lookup, remove_entry}
use Rattle.tm_syntax.specs.Named.{Named, name_cmp, find, put, without, named_of}

map_match_ordering : {A B : Type 0} (f : A → B) (o : Ordering) (x y z : List A) →
    map f (match_ordering o x y z) ≡ match_ordering o (map f x) (map f y) (map f z)
map_match_ordering f Less x y z = refl
map_match_ordering f Equal x y z = refl
map_match_ordering f Greater x y z = refl

pub put_named : {A : Type 0} (es : List (RcStr Global × A)) (k : RcStr Global) (a : A) →
    named_of (insert_entry (λ x y. name_cmp (rc_str_bytes x) (rc_str_bytes y)) es k a) ≡ put (rc_str_bytes k) a (named_of es)
put_named [] k a = refl
put_named (e ∷ es) k a = rw map_match_ordering (rw (put_named es k a) refl)

pub find_named : {A : Type 0} (es : List (RcStr Global × A)) (name : List ℕ) →
    lookup (is_at (λ k. name_cmp name (rc_str_bytes k))) es ≡ find name (named_of es)
find_named [] name = refl
find_named (e ∷ es) name = ap (cond (is_at (name_cmp name) (rc_str_bytes e.0)) (Some e.1)) (find_named es name)

pub found_there : {A : Type 0} (r : Option (Bor A)) (o : Option A) → option_copied r ≡ o → MatchOption r (o ≡ None) (λ a. o ≡ Some a.now)
found_there None o e = sym e
found_there (Some a) o e = sym e

pub keys_named : {A : Type 0} (es : List (RcStr Global × A)) → map rc_str_bytes (keys_of es) ≡ keys_of (named_of es)
keys_named [] = refl
keys_named (e ∷ es) = ap (λ l. rc_str_bytes e.0 ∷ l) (keys_named es)

map_cond : {A B : Type 0} (f : A → B) (b : Bool) (x y : List A) → map f (cond b x y) ≡ cond b (map f x) (map f y)
map_cond f true x y = refl
map_cond f false x y = refl

pub without_named : {A : Type 0} (es : List (RcStr Global × A)) (name : List ℕ) →
    named_of (remove_entry (is_at (λ k. name_cmp name (rc_str_bytes k))) es) ≡ without name (named_of es)
without_named [] name = refl
without_named (e ∷ es) name = rw map_cond (rw (without_named es name) refl)

pub same_text : (x y : List ℕ) → is_at (name_cmp x) y ≡ true → x ≡ y
same_text x y h = (bytes_eq-Decides x y).0 (sym (is_eq-slice_cmp x y) ∙ h)

other_text : (x y : List ℕ) → x ≢ y → (b : Bool) → is_at (name_cmp x) y ≡ b → b ≡ false
other_text x y apart true h = absurd (apart (same_text x y h))
other_text x y apart false h = refl

kept_by : {A : Type 0} (x y : List ℕ) → x ≢ y → (p : List ℕ × A) (ps : Named A) → find x (without y ps) ≡ find x ps →
    (b : Bool) → is_at (name_cmp y) p.0 ≡ b → find x (cond b ps (p ∷ without y ps)) ≡ find x (p ∷ ps)
kept_by x y apart p ps more true h =
    let after = other_text x p.0 (λ same. apart (same ∙ sym (same_text y p.0 h))) (is_at (name_cmp x) p.0) refl in
    sym (ap (λ b. cond b (Some p.1) (find x ps)) after)
kept_by x y apart p ps more false h = ap (cond (is_at (name_cmp x) p.0) (Some p.1)) more

is_itself : (x : List ℕ) → is_at (name_cmp x) x ≡ true
is_itself x = is_eq-slice_cmp x x ∙ (bytes_eq-Decides x x).1 refl

same_by : (x y : List ℕ) (b : Bool) → is_at (name_cmp x) y ≡ b → (x ≡ y) ⊎ (x ≢ y)
same_by x y true h = inl (same_text x y h)
same_by x y false h = inr (λ same.
    let is : false ≡ true = sym h ∙ ap (is_at (name_cmp x)) (sym same) ∙ is_itself x in
    cc)

pub same_or_not : (x y : List ℕ) → (x ≡ y) ⊎ (x ≢ y)
same_or_not x y = same_by x y (is_at (name_cmp x) y) refl

put_by : {A : Type 0} (o : Ordering) (x : List ℕ) (a : A) (p : List ℕ × A) (ps qs : Named A) → name_cmp x p.0 ≡ o →
    find x qs ≡ Some a → find x (match_ordering o ((x, a) ∷ p ∷ ps) ((p.0, a) ∷ ps) (p ∷ qs)) ≡ Some a
put_by Less x a p ps qs e h = ap (λ b. cond b (Some a) (find x (p ∷ ps))) (is_itself x)
put_by Equal x a p ps qs e h = ap (λ o. cond (is_eq o) (Some a) (find x ps)) e
put_by Greater x a p ps qs e h = ap (λ o. cond (is_eq o) (Some p.1) (find x qs)) e ∙ h

-- a name stands for what it was put with
pub find_put : {A : Type 0} (x : List ℕ) (a : A) (ps : Named A) → find x (put x a ps) ≡ Some a
find_put x a [] = ap (λ b. cond b (Some a) None) (is_itself x)
find_put x a (p ∷ ps) = put_by (name_cmp x p.0) x a p ps (put x a ps) refl (find_put x a ps)

other_by : {A : Type 0} (o : Ordering) (x y : List ℕ) → x ≢ y → (a : A) (p : List ℕ × A) (ps qs : Named A) → name_cmp y p.0 ≡ o →
    find x qs ≡ find x ps → find x (match_ordering o ((y, a) ∷ p ∷ ps) ((p.0, a) ∷ ps) (p ∷ qs)) ≡ find x (p ∷ ps)
other_by Less x y apart a p ps qs e h =
    ap (λ b. cond b (Some a) (find x (p ∷ ps))) (other_text x y apart (is_at (name_cmp x) y) refl)
other_by Equal x y apart a p ps qs e h =
    let there = other_text x p.0 (λ same. apart (same ∙ sym (same_text y p.0 (ap is_eq e)))) (is_at (name_cmp x) p.0) refl in
    ap (λ b. cond b (Some a) (find x ps)) there ∙ sym (ap (λ b. cond b (Some p.1) (find x ps)) there)
other_by Greater x y apart a p ps qs e h = ap (cond (is_at (name_cmp x) p.0) (Some p.1)) h

-- and another one for what it did
pub find_put_other : {A : Type 0} (x y : List ℕ) → x ≢ y → (a : A) (ps : Named A) → find x (put y a ps) ≡ find x ps
find_put_other x y apart a [] = ap (λ b. cond b (Some a) None) (other_text x y apart (is_at (name_cmp x) y) refl)
find_put_other x y apart a (p ∷ ps) = other_by (name_cmp y p.0) x y apart a p ps (put y a ps) refl (find_put_other x y apart a ps)

-- a name that is left stands for what it did
pub find_others : {A : Type 0} (x y : List ℕ) → x ≢ y → (ps : Named A) → find x (without y ps) ≡ find x ps
find_others x y apart [] = refl
find_others x y apart (p ∷ ps) = kept_by x y apart p ps (find_others x y apart ps) (is_at (name_cmp y) p.0) refl

kept_whole : {A : Type 0} (x : List ℕ) (p : List ℕ × A) (ps : Named A) (b : Bool) → (find x ps ≡ None → without x ps ≡ ps) →
    cond b (Some p.1) (find x ps) ≡ None → cond b ps (p ∷ without x ps) ≡ p ∷ ps
kept_whole x p ps true more h = absurd (let e = h in cc)
kept_whole x p ps false more h = ap (λ qs. p ∷ qs) (more h)

-- without a name that isn't there nothing changes
pub without_absent : {A : Type 0} (x : List ℕ) (ps : Named A) → find x ps ≡ None → without x ps ≡ ps
without_absent x [] h = refl
without_absent x (p ∷ ps) h = kept_whole x p ps (is_at (name_cmp x) p.0) (without_absent x ps) h
