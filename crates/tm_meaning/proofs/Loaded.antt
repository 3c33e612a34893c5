-- Names of templates that are left to be loaded: the more are loaded, the fewer are left.
use Rattle.std.proofs.Common.{◌≡◌, ℕ, suc, ◌+◌, ◌≤◌, List, [], ◌∷◌, ◌++◌, Some, Bool, true, false, refl, sym}
use Rattle.std.proofs.Common.{ap, ◌∙◌, arith, cond}
use Rattle.std.specs.Prelude.{◌||◌, if◌then◌else◌}
use Rattle.std.specs.BTreeMap.{is_at}
use Rattle.std.proofs.lemmas.Slice.Eq.{bytes_eq-Decides}
use Rattle.tm_syntax.specs.Named.{Named, name_cmp, same_name, find}
use Rattle.tm_syntax.specs.Names.{is_among}
use Rattle.tm_syntax.proofs.Named.{same_text}
use Rattle.tm_meaning.specs.World.{Template}
use Rattle.tm_meaning.specs.Inheritance.{count_left}

either_more : (b c d : Bool) → (c ≡ true → d ≡ true) → (b || c) ≡ true → (b || d) ≡ true
either_more true c d h e = refl
either_more false c d h e = h e

among_more : (x : List ℕ) (names more : List (List ℕ)) → is_among x names ≡ true → is_among x (names ++ more) ≡ true
among_more x [] more h = absurd (cc h)
among_more x (y ∷ ys) more h = either_more (same_name x y) (is_among x ys) (is_among x (ys ++ more)) (among_more x ys more) h

either_last : (b c : Bool) → c ≡ true → (b || c) ≡ true
either_last true c h = refl
either_last false c h = h

among_last : (x : List ℕ) (names : List (List ℕ)) → is_among x (names ++ x ∷ []) ≡ true
among_last x [] = ap (λ b. b || false) ((bytes_eq-Decides x x).1 refl)
among_last x (y ∷ ys) = either_last (same_name x y) (is_among x (ys ++ x ∷ [])) (among_last x ys)

fewer_by : (b c : Bool) (n m : ℕ) → (b ≡ true → c ≡ true) → m ≤ n → (if c then m else suc m) ≤ (if b then n else suc n)
fewer_by true true n m h l = l
fewer_by true false n m h l = let e = h refl in absurd (cc e)
fewer_by false true n m h l = omega (arith, l)
fewer_by false false n m h l = omega (arith, l)

-- where more names are loaded, no more are left
pub count_fewer : (ts : Named Template) (names more : List (List ℕ)) → count_left ts (names ++ more) ≤ count_left ts names
count_fewer [] names more = omega arith
count_fewer (t ∷ ts) names more =
    fewer_by (is_among t.0 names) (is_among t.0 (names ++ more)) (count_left ts names) (count_left ts (names ++ more))
    (among_more t.0 names more) (count_fewer ts names more)

one_by : (b c : Bool) (n m : ℕ) → b ≡ false → c ≡ true → m ≤ n → (if c then m else suc m) + 1 ≤ (if b then n else suc n)
one_by true c n m h k l = absurd (cc h)
one_by false true n m h k l = omega (arith, l)
one_by false false n m h k l = absurd (cc k)

less_by : (b c : Bool) (n m : ℕ) → (b ≡ true → c ≡ true) → m + 1 ≤ n → (if c then m else suc m) + 1 ≤ (if b then n else suc n)
less_by true true n m h l = l
less_by true false n m h l = let e = h refl in absurd (cc e)
less_by false true n m h l = omega (arith, l)
less_by false false n m h l = omega (arith, l)

loaded_by : (p : List ℕ × Template) (ts : Named Template) (x : List ℕ) (t : Template) (names : List (List ℕ)) (b : Bool) →
    is_at (name_cmp x) p.0 ≡ b → cond b (Some p.1) (find x ts) ≡ Some t → is_among x names ≡ false →
    (find x ts ≡ Some t → count_left ts (names ++ x ∷ []) + 1 ≤ count_left ts names) →
    count_left (p ∷ ts) (names ++ x ∷ []) + 1 ≤ count_left (p ∷ ts) names
loaded_by p ts x t names true at found fresh more =
    let same = same_text x p.0 at in
    one_by (is_among p.0 names) (is_among p.0 (names ++ x ∷ [])) (count_left ts names) (count_left ts (names ++ x ∷ []))
    (ap (λ y. is_among y names) (sym same) ∙ fresh) (ap (λ y. is_among y (names ++ x ∷ [])) (sym same) ∙ among_last x names)
    (count_fewer ts names (x ∷ []))
loaded_by p ts x t names false at found fresh more =
    less_by (is_among p.0 names) (is_among p.0 (names ++ x ∷ [])) (count_left ts names) (count_left ts (names ++ x ∷ []))
    (among_more p.0 names (x ∷ [])) (more found)

-- a template that is there and was not loaded is one less
pub count_loaded : (ts : Named Template) (x : List ℕ) (t : Template) (names : List (List ℕ)) → find x ts ≡ Some t →
    is_among x names ≡ false → count_left ts (names ++ x ∷ []) + 1 ≤ count_left ts names
count_loaded [] x t names found fresh = absurd (cc found)
count_loaded (p ∷ ts) x t names found fresh =
    loaded_by p ts x t names (is_at (name_cmp x) p.0) refl found fresh (λ e. count_loaded ts x t names e fresh)
