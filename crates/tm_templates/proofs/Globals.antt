-- The names of globals, kept once more in their order.
use Rattle.std.proofs.Common.{◌≡◌, ◌≤◌, ◌<◌, ℕ, zero, suc, List, [], ◌∷◌, length, get_or, set, insert, slice_get, Some, refl, sym, ap, subst}
use Rattle.std.proofs.Common.{◌∙◌, arith, false, Result, Ok, Err, MatchResult}
use Rattle.std.proofs.lemmas.List.{get_or-map, length-map}
use Rattle.std.proofs.lemmas.Option.{slice_get_read}
use Rattle.std.specs.Cmp.Lexicographic.{bytes_decides}
use Rattle.std.specs.List.{remove}
use Rattle.std.specs.List.Sorted.{IsSearchInRange, IsBinarySearchResult}
use Rattle.std.specs.Map.{keys_of}
use Rattle.tm_values.specs.Val.{Val, undefined}
use Rattle.tm_meaning.specs.World.{Bindings}
use Rattle.tm_syntax.specs.Named.{find, name_cmp, put, without}
use Rattle.tm_scopes.specs.Places.{AreOrdered, IsNameAt, IsNameGap}
use Rattle.tm_scopes.proofs.Places.{added, held, ordered-none, ordered-put, searched_in, taken, taken-ordered, written}
use Rattle.tm_templates.specs.Globals.{AreNamesOf}

-- ---------------------------------------------------------------- names of what is put in and taken out
keys-insert : (ps : Bindings) (i : ℕ) (x : List ℕ) (v : Val) → insert (keys_of ps) i x ≡ keys_of (insert ps i (x, v))
keys-insert [] zero x v = refl
keys-insert [] (suc i) x v = refl
keys-insert (p ∷ ps) zero x v = refl
keys-insert (p ∷ ps) (suc i) x v = ap (λ l. p.0 ∷ l) (keys-insert ps i x v)

keys-remove : (ps : Bindings) (i : ℕ) → remove (keys_of ps) i ≡ keys_of (remove ps i)
keys-remove [] zero = refl
keys-remove [] (suc i) = refl
keys-remove (p ∷ ps) zero = refl
keys-remove (p ∷ ps) (suc i) = ap (λ l. p.0 ∷ l) (keys-remove ps i)

keys-set : (ps : Bindings) (i : ℕ) (d : List ℕ × Val) (v : Val) → keys_of (set ps i ((get_or ps i d).0, v)) ≡ keys_of ps
keys-set [] zero d v = refl
keys-set [] (suc i) d v = refl
keys-set (p ∷ ps) zero d v = refl
keys-set (p ∷ ps) (suc i) d v = ap (λ l. p.0 ∷ l) (keys-set ps i d v)

remove-insert : (xs : List (List ℕ)) (i : ℕ) (x : List ℕ) → i ≤ length xs → remove (insert xs i x) i ≡ xs
remove-insert [] zero x h = refl
remove-insert [] (suc i) x h = absurd (omega (arith, h))
remove-insert (y ∷ xs) zero x h = refl
remove-insert (y ∷ xs) (suc i) x h = ap (λ l. y ∷ l) (remove-insert xs i x (omega (arith, h)))

-- what stands at a place, whatever is read beyond the end
read_again : (ps : Bindings) (i : ℕ) (d e : List ℕ × Val) → i < length ps → get_or ps i d ≡ get_or ps i e
read_again [] i d e h = absurd (omega (arith, h))
read_again (p ∷ ps) zero d e h = refl
read_again (p ∷ ps) (suc i) d e h = read_again ps i d e (omega (arith, h))

abbrev nothing : List ℕ × Val
nothing = ([], undefined false)

pub names_none : (names : List (List ℕ)) (ps : Bindings) → names ≡ [] → ps ≡ [] → AreNamesOf names ps
names_none names ps e f = record {
  names_are = e ∙ ap keys_of (sym f);
  ordered = subst AreOrdered (sym f) (ordered-none Val);
}

-- a name that is there takes another value
pub put_over : (names : List (List ℕ)) (x y : List ℕ) (v : Val) (ps seen new : Bindings) (i : ℕ) → AreNamesOf names ps → ps ≡ seen → y ≡ x →
    IsNameAt y seen i → new ≡ put x v ps → AreNamesOf names new
put_over names x y v ps seen new i are e f there is =
    let at = subst (λ (z : List ℕ). IsNameAt z ps i) f (subst (λ (l : Bindings). IsNameAt y l i) (sym e) there) in
    let p = get_or ps i nothing in
    let written_is = written x x v ps ps i p refl refl are.ordered at (read_again ps i nothing p at.in_range) in record {
      names_are = are.names_are ∙ sym (keys-set ps i nothing v) ∙ ap keys_of (written_is ∙ sym is);
      ordered = subst AreOrdered (sym is) (ordered-put x v ps are.ordered);
    }

-- a new name is put into the gap
pub put_new : (names new_names : List (List ℕ)) (x y z : List ℕ) (v : Val) (ps seen new : Bindings) (i : ℕ) → AreNamesOf names ps → ps ≡ seen →
    y ≡ x → z ≡ x → IsNameGap y seen i → new_names ≡ insert names i z → new ≡ put x v ps → AreNamesOf new_names new
put_new names new_names x y z v ps seen new i are e f g gap names_is is =
    let at = subst (λ (w : List ℕ). IsNameGap w ps i) f (subst (λ (l : Bindings). IsNameGap y l i) (sym e) gap) in record {
      names_are =
          names_is ∙ ap (λ w. insert names i w) g ∙ ap (λ l. insert l i x) are.names_are ∙ keys-insert ps i x v
          ∙ ap keys_of (added x x v ps ps i refl refl at ∙ sym is);
      ordered = subst AreOrdered (sym is) (ordered-put x v ps are.ordered);
    }

-- and taken out again
pub undone : (names more less : List (List ℕ)) (y z : List ℕ) (ps seen new : Bindings) (i : ℕ) → AreNamesOf names ps → ps ≡ seen →
    IsNameGap y seen i → more ≡ insert names i z → less ≡ remove more i → new ≡ ps → AreNamesOf less new
undone names more less y z ps seen new i are e gap more_is less_is is =
    let long : length names ≡ length seen = ap length are.names_are ∙ length-map ps (λ p. p.0) ∙ ap length e in
    let within : i ≤ length names = subst (λ (n : ℕ). i ≤ n) (sym long) gap.in_range in
    let same : names ≡ less = sym (less_is ∙ ap (λ l. remove l i) more_is ∙ remove-insert names i z within) in
    subst (λ (l : List (List ℕ)). AreNamesOf l new) same (subst (λ (l : Bindings). AreNamesOf names l) (sym is) are)

-- a name that is there is dropped
pub taken_out : (names less : List (List ℕ)) (x : List ℕ) (ps seen new : Bindings) (i : ℕ) → AreNamesOf names ps → ps ≡ seen →
    IsNameAt x seen i → less ≡ remove names i → new ≡ without x ps → AreNamesOf less new
taken_out names less x ps seen new i are e there less_is is =
    let at = subst (λ (l : Bindings). IsNameAt x l i) (sym e) there in
    let taken_is = taken x ps ps i refl are.ordered at in record {
      names_are = less_is ∙ ap (λ l. remove l i) are.names_are ∙ keys-remove ps i ∙ ap keys_of (taken_is ∙ sym is);
      ordered = subst AreOrdered (taken_is ∙ sym is) (taken-ordered x ps ps i refl are.ordered at);
    }

-- ---------------------------------------------------------------- places
key-at : (ps : Bindings) (i : ℕ) (d : List ℕ × Val) (x : List ℕ) → i < length ps → get_or (keys_of ps) i x ≡ (get_or ps i d).0
key-at ps i d x h = get_or-map (λ (p : List ℕ × Val). p.0) ps i d x h

keys-long : (ps : Bindings) → length (keys_of ps) ≡ length ps
keys-long ps = length-map ps (λ p. p.0)

-- what a search among the names answers is what one among the pairs does
of_names : (x : List ℕ) (ps : Bindings) (r : Result ℕ ℕ) → IsSearchInRange r (length ps) → IsBinarySearchResult (λ y. name_cmp y x) (keys_of ps) r →
    IsBinarySearchResult (λ (p : List ℕ × Val). name_cmp p.0 x) ps r
of_names x ps (Ok i) h found = λ d. ap (λ y. name_cmp y x) (sym (key-at ps i d d.0 h)) ∙ found d.0
of_names x ps (Err i) h found = λ rise.
    let parted = found (λ j k y le below.
    let within : k < length ps = subst (λ (n : ℕ). k < n) (keys-long ps) below in
    let d : List ℕ × Val = (y, undefined false) in
    rw (key-at ps j d y (omega (arith, within)), key-at ps k d y within) (rise j k d le within)) in (
      λ j d from to. ap (λ y. name_cmp y x) (sym (key-at ps j d d.0 (omega (arith, h)))) ∙ parted.0 j d.0 from to,
      λ j d from to. ap (λ y. name_cmp y x) (sym (key-at ps j d d.0 to))
          ∙ parted.1 j d.0 from (subst (λ (n : ℕ). j < n) (sym (keys-long ps)) to),
    )

pub searched_names : (x : List ℕ) (names lent : List (List ℕ)) (ps seen : Bindings) → AreNamesOf names ps → lent ≡ names → ps ≡ seen →
    (r : Result ℕ ℕ) → IsSearchInRange r (length lent) → IsBinarySearchResult (λ y. name_cmp y x) lent r →
    MatchResult r (IsNameAt x seen) (IsNameGap x seen)
searched_names x names lent ps seen are e f r h found =
    let all : lent ≡ keys_of ps = e ∙ are.names_are in
    let within = subst (λ (n : ℕ). IsSearchInRange r n) (ap length all ∙ keys-long ps) h in
    searched_in x ps ps seen refl f are.ordered r within
    (of_names x ps r within (subst (λ (l : List (List ℕ)). IsBinarySearchResult (λ y. name_cmp y x) l r) all found))

-- what stands at a place, and is found by its name
pub named_value : (names : List (List ℕ)) (ps seen : Bindings) (i : ℕ) (x y : List ℕ) → AreNamesOf names ps → ps ≡ seen → i < length seen →
    x ≡ get_or names i x → y ≡ x → (v : Val) × (slice_get seen i ≡ Some (y, v)) × (find y ps ≡ Some v)
named_value names ps seen i x y are f h e g =
    let within : i < length ps = subst (λ (l : Bindings). i < length l) (sym f) h in
    let p = get_or ps i nothing in
    let key : y ≡ p.0 = g ∙ e ∙ ap (λ l. get_or l i x) are.names_are ∙ key-at ps i nothing x within in
    let at : slice_get ps i ≡ Some p = slice_get_read ps (length ps) i p refl within (read_again ps i nothing p within) in (
      p.1,
      ap (λ l. slice_get l i) (sym f) ∙ at ∙ ap (λ (z : List ℕ). Some (z, p.1)) (sym key),
      ap (λ (z : List ℕ). find z ps) key ∙ held p.0 ps ps ps i p refl refl are.ordered at ((bytes_decides p.0 p.0).1 refl),
    )
