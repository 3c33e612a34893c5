-- What the arguments of macros are bound to.
use Rattle.std.proofs.Common.{◌≡◌, ◌<◌, ◌≤◌, ◌+◌, ◌-◌, ◌&&◌, ◌||◌, ℕ, zero, suc, List, [], ◌∷◌, ◌++◌, length, get_or, drop, map as each, Option}
use Rattle.std.proofs.Common.{Some, None, Bool, true, false, refl, sym, ap, ◌∙◌, arith, append_assoc}
use Rattle.std.proofs.Math.Seq.{drop-cons}
use Rattle.std.proofs.lemmas.List.{append-nil}
use Rattle.std.specs.Prelude.{slice_get, is_none}
use Rattle.std.specs.Rc.{rc_str_bytes}
use Rattle.std.specs.declared.rc.RcStr.{RcStr}
use Rattle.std.specs.declared.alloc.Global.{Global}
use Rattle.tm_values.specs.Map.{find as find_key}
use Rattle.tm_values.specs.Val.{MacroData, Val, text, text_in, undefined}
use Rattle.tm_syntax.specs.Named.{same_name}
use Rattle.tm_meaning.specs.World.{choose}
use Rattle.tm_meaning.specs.Calls.{all_used, after_first, bound, is_argument, is_used}
use Rattle.tm_records.specs.Macros.{argument_of, before_all, after_all}

-- ---------------------------------------------------------------- lists that are read one after the other
pub get_dropped : {A : Type 0} (k : ℕ) (xs : List A) → slice_get (drop k xs) 0 ≡ slice_get xs k
get_dropped zero xs = refl
get_dropped (suc k) [] = refl
get_dropped (suc k) (x ∷ xs) = get_dropped k xs

pub drop_next : {A : Type 0} (k : ℕ) (xs : List A) → drop 1 (drop k xs) ≡ drop (suc k) xs
drop_next zero [] = refl
drop_next zero (x ∷ xs) = refl
drop_next (suc k) [] = refl
drop_next (suc k) (x ∷ xs) = drop_next k xs

pub drop_past : {A : Type 0} (k : ℕ) (xs : List A) → length xs ≤ k → drop k xs ≡ []
drop_past zero [] h = refl
drop_past (suc k) [] h = refl
drop_past zero (x ∷ xs) h = absurd (omega (arith, h))
drop_past (suc k) (x ∷ xs) h = drop_past k xs (omega (arith, h))

-- what is left begins with the element at the place
left_at : {A : Type 0} (k : ℕ) (xs : List A) (x : A) → k < length xs → x ≡ get_or xs k x → drop k xs ≡ x ∷ drop (k + 1) xs
left_at k xs x h e =
    let next : suc k ≡ k + 1 = omega arith in
    drop-cons xs k x h ∙ ap (λ y. y ∷ drop (suc k) xs) (sym e) ∙ ap (λ n. x ∷ drop n xs) next

-- ---------------------------------------------------------------- names
pub named_here : (k : ℕ) (x : List ℕ) (names : List (RcStr Global)) (r : RcStr Global) → k < length names → r ≡ get_or names k r →
    same_name x (rc_str_bytes r) ≡ true → is_argument x (each rc_str_bytes (drop k names)) ≡ true
named_here k x names r h e same =
    ap (λ l. is_argument x (each rc_str_bytes l)) (left_at k names r h e) ∙ ap (λ b. b || is_argument x (each rc_str_bytes (drop (k + 1) names))) same

pub not_named_here : (k : ℕ) (x : List ℕ) (names : List (RcStr Global)) (r : RcStr Global) → k < length names → r ≡ get_or names k r →
    same_name x (rc_str_bytes r) ≡ false →
    is_argument x (each rc_str_bytes (drop k names)) ≡ is_argument x (each rc_str_bytes (drop (k + 1) names))
not_named_here k x names r h e apart =
    ap (λ l. is_argument x (each rc_str_bytes l)) (left_at k names r h e) ∙ ap (λ b. b || is_argument x (each rc_str_bytes (drop (k + 1) names))) apart

-- ---------------------------------------------------------------- values that are used
pub unused_here : (k : ℕ) (m : MacroData) (ps : List (Val × Val)) (p : Val × Val) → k < length ps → p ≡ get_or ps k p →
    is_used m (text_in p.0) ≡ false → all_used m (drop k ps) ≡ false
unused_here k m ps p h e not_used =
    ap (all_used m) (left_at k ps p h e) ∙ ap (λ b. b && all_used m (drop (k + 1) ps)) not_used

pub used_here : (k : ℕ) (m : MacroData) (ps : List (Val × Val)) (p : Val × Val) → k < length ps → p ≡ get_or ps k p →
    is_used m (text_in p.0) ≡ true → all_used m (drop k ps) ≡ all_used m (drop (k + 1) ps)
used_here k m ps p h e used =
    ap (all_used m) (left_at k ps p h e) ∙ ap (λ b. b && all_used m (drop (k + 1) ps)) used

-- ---------------------------------------------------------------- what is bound
pub too_many : (xs : List (List ℕ)) (vs : List Val) (given : List (Val × Val)) → length xs < length vs → bound xs vs given ≡ None
too_many [] [] given h = absurd (omega (arith, h))
too_many [] (v ∷ vs) given h = refl
too_many (x ∷ xs) [] given h = absurd (omega (arith, h))
too_many (x ∷ xs) (v ∷ vs) given h = by (is_none (find_key (text x false) given)) (too_many xs vs given (omega (arith, h)))
  where
    by : (b : Bool) → bound xs vs given ≡ None → choose b (λ _. after_first v (bound xs vs given)) (λ _. None) ≡ None
    by true e = ap (after_first v) e
    by false e = refl

as_many : (rs : List (RcStr Global)) → length (each rc_str_bytes rs) ≡ length rs
as_many [] = refl
as_many (r ∷ rs) = ap suc (as_many rs)

pub too_many_for : (names : List (RcStr Global)) (vs : List Val) (given : List (Val × Val)) → length names < length vs →
    bound (each rc_str_bytes names) vs given ≡ None
too_many_for names vs given h = too_many (each rc_str_bytes names) vs given (omega (arith, h, as_many names))

one_by_one : (x : List ℕ) (xs : List (List ℕ)) (vs : List Val) (given : List (Val × Val)) →
    bound (x ∷ xs) vs given ≡ before_all (argument_of (slice_get vs 0) (find_key (text x false) given)) (bound xs (drop 1 vs) given)
one_by_one x xs [] given = refl
one_by_one x xs (v ∷ vs) given = by (find_key (text x false) given)
  where
    by : (named : Option Val) → choose (is_none named) (λ _. after_first v (bound xs vs given)) (λ _. None)
        ≡ before_all (argument_of (Some v) named) (bound xs vs given)
    by None = refl
    by (Some w) = refl

pub none_before : (o : Option (List Val)) → o ≡ after_all [] o
none_before None = refl
none_before (Some vs) = refl

one_more : (before : List Val) (v : Val) (o : Option (List Val)) → after_all before (after_first v o) ≡ after_all (before ++ v ∷ []) o
one_more before v None = refl
one_more before v (Some vs) = ap Some (sym (append_assoc before (v ∷ []) vs))

-- ---------------------------------------------------------------- values by their places alone
-- so many times no value
abbrev pub undefineds : ℕ → List Val
undefineds zero = []
undefineds (suc n) = undefined false ∷ undefineds n

-- one value more is taken over
pub taken_over : (k : ℕ) (xs before : List Val) (x : Val) → k < length xs → x ≡ get_or xs k x → before ++ drop k xs ≡ xs →
    (before ++ x ∷ []) ++ drop (k + 1) xs ≡ xs
taken_over k xs before x h e so_far =
    append_assoc before (x ∷ []) (drop (k + 1) xs) ∙ ap (λ l. before ++ l) (sym (left_at k xs x h e)) ∙ so_far

-- one more has no value
pub one_undefined : (n k : ℕ) (before all : List Val) → k < n → before ++ undefineds (n - k) ≡ all →
    (before ++ undefined false ∷ []) ++ undefineds (n - (k + 1)) ≡ all
one_undefined n k before all h so_far =
    let next : n - k ≡ suc (n - (k + 1)) = omega (arith, h) in
    append_assoc before (undefined false ∷ []) (undefineds (n - (k + 1)))
    ∙ ap (λ m. before ++ undefineds m) (sym next) ∙ so_far

-- what is left without a value
bound_to_rest : (xs : List (List ℕ)) (vs : List Val) → length vs ≤ length xs →
    bound xs vs [] ≡ Some (vs ++ undefineds (length xs - length vs))
bound_to_rest [] [] h = refl
bound_to_rest [] (v ∷ vs) h = absurd (omega (arith, h))
bound_to_rest (x ∷ xs) [] h =
    let none : length xs - 0 ≡ length xs = omega arith in
    let more : suc (length xs) - 0 ≡ suc (length xs) = omega arith in
    ap (after_first (undefined false)) (bound_to_rest xs [] (omega arith))
    ∙ ap (λ n. Some (undefined false ∷ undefineds n)) none ∙ ap (λ n. Some (undefineds n)) (sym more)
bound_to_rest (x ∷ xs) (v ∷ vs) h =
    let same : length xs - length vs ≡ suc (length xs) - suc (length vs) = omega arith in
    ap (after_first v) (bound_to_rest xs vs (omega (arith, h))) ∙ ap (λ n. Some (v ∷ (vs ++ undefineds n))) same

pub bound_plainly : (names : List (RcStr Global)) (vs given : List Val) (k : ℕ) → length vs ≤ length names → length names ≤ k → k ≤ length names →
    given ++ undefineds (length names - k) ≡ vs ++ undefineds (length names - length vs) → bound (each rc_str_bytes names) vs [] ≡ Some given
bound_plainly names vs given k fits all within is =
    let none : length names - k ≡ 0 = omega (arith, all) in
    bound_to_rest (each rc_str_bytes names) vs (omega (arith, fits, as_many names))
    ∙ ap (λ n. Some (vs ++ undefineds (n - length vs))) (as_many names)
    ∙ ap Some (sym is ∙ ap (λ n. given ++ undefineds n) none ∙ append-nil given)

module _ (names : List (RcStr Global)) (plain : List Val) (given : List (Val × Val)) where
  -- what is bound from a place on
  abbrev pub bound_from : ℕ → Option (List Val)
  bound_from k = bound (each rc_str_bytes (drop k names)) (drop k plain) given

  next_bound : (k : ℕ) (r : RcStr Global) → k < length names → r ≡ get_or names k r →
      bound_from k ≡ before_all (argument_of (slice_get plain k) (find_key (text (rc_str_bytes r) false) given)) (bound_from (k + 1))
  next_bound k r h e =
      let next : suc k ≡ k + 1 = omega arith in
      ap (λ l. bound (each rc_str_bytes l) (drop k plain) given) (left_at k names r h e)
      ∙ one_by_one (rc_str_bytes r) (each rc_str_bytes (drop (k + 1) names)) (drop k plain) given
      ∙ ap (λ o. before_all (argument_of o (find_key (text (rc_str_bytes r) false) given))
      (bound (each rc_str_bytes (drop (k + 1) names)) (drop 1 (drop k plain)) given)) (get_dropped k plain)
      ∙ ap (λ vs. before_all (argument_of (slice_get plain k) (find_key (text (rc_str_bytes r) false) given))
      (bound (each rc_str_bytes (drop (k + 1) names)) vs given)) (drop_next k plain ∙ ap (λ n. drop n plain) next)

  -- one argument more is bound
  pub bound_more : (k : ℕ) (r : RcStr Global) (before : List Val) (v : Val) → k < length names → r ≡ get_or names k r →
      argument_of (slice_get plain k) (find_key (text (rc_str_bytes r) false) given) ≡ Some v →
      after_all before (bound_from k) ≡ after_all (before ++ v ∷ []) (bound_from (k + 1))
  bound_more k r before v h e is =
      ap (after_all before) (next_bound k r h e ∙ ap (λ o. before_all o (bound_from (k + 1))) is) ∙ one_more before v (bound_from (k + 1))

  -- or one isn't, and so none are
  pub bound_none : (k : ℕ) (r : RcStr Global) (before : List Val) → k < length names → r ≡ get_or names k r →
      argument_of (slice_get plain k) (find_key (text (rc_str_bytes r) false) given) ≡ None → after_all before (bound_from k) ≡ None
  bound_none k r before h e is = ap (after_all before) (next_bound k r h e ∙ ap (λ o. before_all o (bound_from (k + 1))) is)

  pub bound_all : (k : ℕ) (before : List Val) → length names ≤ k → length plain ≤ length names → after_all before (bound_from k) ≡ Some before
  bound_all k before h fits =
      ap (λ l. after_all before (bound (each rc_str_bytes l) (drop k plain) given)) (drop_past k names h)
      ∙ ap (λ vs. after_all before (bound [] vs given)) (drop_past k plain (omega (arith, h, fits))) ∙ ap Some (append-nil before)
