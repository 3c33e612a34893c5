-- Scopes whose names stand in one list of pairs, innermost first.
use Rattle.std.proofs.Common.{◌≡◌, ◌∙◌, ◌<◌, ◌≤◌, ◌+◌, ◌-◌, ◌++◌, ℕ, zero, suc, List, [], ◌∷◌, length, get_or, slice_get, slice_set, take, drop, reverse}
use Rattle.std.proofs.Common.{Bool, true, false, true≢false, Option, None, Some, is_some, unwrap_or, Bor, Result, Ok, Err, is_ok, inl, inr, ◌||◌, refl, sym, ap, subst, arith}
use Rattle.std.specs.Prelude.{IfSome, IsErrAnd}
use Rattle.std.proofs.lemmas.Grind.{reverse_onto}
use Rattle.std.proofs.lemmas.List.{append_assoc, set-get_or, length-reverse}
use Rattle.std.proofs.lemmas.List.Folds.{list_any_at}
use Rattle.std.proofs.lemmas.List.Sorted.{list_any-IsPermutation, IsPermutation-reverse}
use Rattle.std.proofs.lemmas.Map.Made.{is_some-lookup}
use Rattle.std.specs.BTreeMap.{is_at}
use Rattle.std.specs.List.{list_any}
use Rattle.std.specs.Map.{keys_of}
use Rattle.tm_syntax.specs.Named.{find, name_cmp, texts_of}
use Rattle.tm_values.specs.Answer.{Answer, IsLent}
use Rattle.tm_values.specs.declared.error.ErrorKind.{ErrorKind}
use Rattle.tm_values.specs.Val.{Val}
use Rattle.tm_meaning.specs.World.{Bindings, Scope, Scopes, View, in_frames, innermost, number_of, or_else, owning, stored_in, top_locals}
use Rattle.tm_meaning.specs.World.{context_member, in_scope, marked_loop, or_on, or_on_answer, read_closure, without_first, without_locals}
use Rattle.tm_meaning.specs.Calls.{outermost, root_context}
use Rattle.tm_scopes.specs.Marks.{AreMarked, AreScopes, IsIndex, IsIndexed, KeepsOthers, Stores, framed, index_of, scope_of, scanned, top_of}
use Rattle.tm_scopes.specs.Pairs.{IsPlace, in_order}
use Rattle.tm_scopes.specs.Scopes.{exported_among, exported_of}
use Rattle.tm_values.specs.Records.{RecordData}
use Rattle.tm_scopes.specs.Found.{IsFound}
use Rattle.tm_scopes.specs.Known.{AddsFound, NamingFails, is_among, is_found, lacks_record, one_lacks_record, or_else_found}
use Rattle.tm_scopes.specs.declared.frame.Found.{Found}
use Rattle.tm_scopes.specs.declared.mark.ScopeMark.{ScopeMark}
use Rattle.tm_scopes.proofs.Marks.{drop-take, get-drop, index_few, kept_few, kept_set, none_indexed, rest-of, stored_more, stored_set, take-long}
use Rattle.tm_scopes.proofs.Marks.{take-length, take-twice}
use Rattle.tm_scopes.proofs.Known.{among-both, or-false}
use Rattle.tm_scopes.proofs.Ordered.{find-in_order, the_name}

-- ---------------------------------------------------------------- the last of a list is the first of it reversed
module _ {X : Type 0} where
  pub last-set : (xs : List X) (n : ℕ) (x : X) → length xs ≡ suc n → reverse (slice_set xs n x) ≡ x ∷ reverse (take n xs)
  last-set [] n x h = absurd (omega (arith, h))
  last-set (y ∷ []) zero x h = refl
  last-set (y ∷ []) (suc n) x h = absurd (omega (arith, h))
  last-set (y ∷ z ∷ xs) zero x h = absurd (omega (arith, h))
  last-set (y ∷ z ∷ xs) (suc n) x h =
      let more : length (z ∷ xs) ≡ suc n = omega (arith, h) in
      reverse_onto (slice_set (z ∷ xs) n x) y [] ∙ ap (λ l. l ++ y ∷ []) (last-set (z ∷ xs) n x more)
      ∙ ap (λ l. x ∷ l) (sym (reverse_onto (take n (z ∷ xs)) y []))

  pub last-is : (xs : List X) (n : ℕ) (x : X) → length xs ≡ suc n → x ≡ get_or xs n x → reverse xs ≡ x ∷ reverse (take n xs)
  last-is xs n x h e = ap reverse (sym (ap (slice_set xs n) e ∙ set-get_or xs n x)) ∙ last-set xs n x h

  -- of so many from the start
  pub taken-is : (xs : List X) (n : ℕ) (x : X) → n < length xs → x ≡ get_or xs n x → reverse (take (suc n) xs) ≡ x ∷ reverse (take n xs)
  taken-is [] n x h e = absurd (omega (arith, h))
  taken-is (y ∷ xs) zero x h e = ap (λ z. z ∷ []) (sym e)
  taken-is (y ∷ xs) (suc n) x h e =
      reverse_onto (take (suc n) xs) y [] ∙ ap (λ l. l ++ y ∷ []) (taken-is xs n x (omega (arith, h)) e)
      ∙ ap (λ l. x ∷ l) (sym (reverse_onto (take n xs) y []))

  pub part-of : (f e : ℕ) (xs : List X) → f ≤ e → take (e - f) (drop f xs) ≡ drop f (take e xs)
  part-of zero e xs h = let same : e - 0 ≡ e = omega arith in ap (λ k. take k xs) same
  part-of (suc f) zero xs h = absurd (omega (arith, h))
  part-of (suc f) (suc e) [] h = take-long (suc e - suc f) [] (omega arith)
  part-of (suc f) (suc e) (x ∷ xs) h =
      let same : suc e - suc f ≡ e - f = omega arith in
      ap (λ k. take k (drop f xs)) same ∙ part-of f e xs (omega (arith, h))

  pub take-less : (f e : ℕ) (xs : List X) → f ≤ e → take f (take e xs) ≡ take f xs
  take-less zero e xs h = refl
  take-less (suc f) zero xs h = absurd (omega (arith, h))
  take-less (suc f) (suc e) [] h = refl
  take-less (suc f) (suc e) (x ∷ xs) h = ap (λ l. x ∷ l) (take-less f e xs (omega (arith, h)))

  pub take-fits : (f : ℕ) (xs : List X) → length (take f xs) ≤ f
  take-fits zero xs = omega arith
  take-fits (suc f) [] = omega arith
  take-fits (suc f) (x ∷ xs) = omega (arith, take-fits f xs)

  take-fewer : (f : ℕ) (xs : List X) → length (take f xs) ≤ length xs
  take-fewer zero xs = omega arith
  take-fewer (suc f) [] = omega arith
  take-fewer (suc f) (x ∷ xs) = omega (arith, take-fewer f xs)

  nothing-before : (f : ℕ) (xs : List X) → take f xs ≡ [] → drop f xs ≡ xs
  nothing-before zero xs h = refl
  nothing-before (suc f) [] h = refl
  nothing-before (suc f) (x ∷ xs) h = absurd (omega (arith, ap length h))

-- ---------------------------------------------------------------- what is seen
pub length-framed : (rs : List ScopeMark) (all : Bindings) → length (framed rs all) ≡ length rs
length-framed [] all = refl
length-framed (m ∷ rs) all = ap suc (length-framed rs (take m.first all))

pub height-framed : (ms : List ScopeMark) (all : Bindings) → length (framed (reverse ms) all) ≡ length ms
height-framed ms all = length-framed (reverse ms) all ∙ length-reverse ms

pub top_names : (rs : List ScopeMark) (all : Bindings) → AreMarked rs all → top_locals (framed rs all) ≡ in_order (drop (top_of rs) all)
top_names [] all h = ap in_order (sym h)
top_names (m ∷ rs) all h = refl

pub top_within : (rs : List ScopeMark) (all : Bindings) → AreMarked rs all → top_of rs ≤ length all
top_within [] all h = omega arith
top_within (m ∷ rs) all h = h.0.within

pub top-found : (rs : List ScopeMark) (all : Bindings) (x : List ℕ) → AreMarked rs all →
    find x (top_locals (framed rs all)) ≡ find x (drop (top_of rs) all)
top-found rs all x h = ap (find x) (top_names rs all h) ∙ find-in_order x (drop (top_of rs) all)

-- what the innermost scope finds is what all find
pub own-found : (view : View) (x : List ℕ) (ss : List Scope) (v : Val) → find x (top_locals ss) ≡ Some v → in_frames view x ss ≡ Ok (Some v)
own-found view x [] v h = absurd (true≢false (ap is_some (sym h)))
own-found view x (s ∷ ss) v h =
    ap (λ o. or_on (or_else o (or_else (marked_loop view.records.state s.mark x) (read_closure view.closures s.reads x)))
    (λ _. or_on_answer (context_member view.records x s.context) (λ _. in_frames view x ss))) h

-- ---------------------------------------------------------------- what changes in the innermost scope
module _ (m new : ScopeMark) (rs : List ScopeMark) (before after : Bindings) (kept : KeepsOthers m new before after) where
  pub kept-first : new.first ≡ m.first
  kept-first = ap (λ (k : ScopeMark). k.first) kept.same

  kept-frame : new.frame ≡ m.frame
  kept-frame = ap (λ (k : ScopeMark). k.frame) kept.same

  pub kept-marked : AreMarked (m ∷ rs) before → AreMarked (new ∷ rs) after
  kept-marked h = (
    kept.marked,
    subst (AreMarked rs) (sym kept.below) h.1,
  )

  framed-as : framed (new ∷ rs) after ≡ record m.frame { locals = in_order (drop m.first after) } ∷ framed rs (take m.first before)
  framed-as =
      ap (λ (ps : Bindings). scope_of new after ∷ framed rs ps) kept.below
      ∙ ap (λ (s : Scope). record s { locals = in_order (drop new.first after) } ∷ framed rs (take m.first before)) kept-frame
      ∙ ap (λ f. record m.frame { locals = in_order (drop f after) } ∷ framed rs (take m.first before)) kept-first

  pub kept-stored : (x : List ℕ) (v : Val) → Stores x v m before after →
      framed (new ∷ rs) after ≡ stored_in x v (framed (m ∷ rs) before)
  kept-stored x v h =
      framed-as ∙ ap (λ (ls : Bindings). record m.frame { locals = ls } ∷ framed rs (take m.first before)) h

  pub kept-same : after ≡ before → framed (new ∷ rs) after ≡ framed (m ∷ rs) before
  kept-same h =
      framed-as ∙ ap (λ (ps : Bindings). record m.frame { locals = in_order (drop m.first ps) } ∷ framed rs (take m.first before)) h

-- ---------------------------------------------------------------- the innermost scope has a name from here on
-- still in their places, and the innermost one has the name
abbrev Put : List ℕ → Val → List ScopeMark → Bindings → Bindings → ℕ → Type 0
Put x v rs before after top = AreScopes rs after top × (framed rs after ≡ stored_in x v (framed rs before))

put-kept : (x : List ℕ) (v : Val) (m : ScopeMark) (rs : List ScopeMark) (before after : Bindings) (top : ℕ) → AreScopes (m ∷ rs) before top →
    KeepsOthers m m before after → Stores x v m before after → Put x v (m ∷ rs) before after top
put-kept x v m rs before after top h kept stores = (
  record { marked = kept-marked m m rs before after kept h.marked; at_top = h.at_top },
  kept-stored m m rs before after kept x v stores,
)

pub put-replaced : (x : List ℕ) (v : Val) (rs : List ScopeMark) (all : Bindings) (top n : ℕ) (k : List ℕ) → AreScopes rs all top →
    0 < length rs → k ≡ x → IsPlace x (drop top all) (Some n) → Put x v rs all (slice_set all (top + n) (k, v)) top
put-replaced x v [] all top n k h some same place = absurd (omega (arith, some))
put-replaced x v (m ∷ rs) all top n k h some same place =
    let at : IsPlace x (drop m.first all) (Some n) = subst (λ f. IsPlace x (drop f all) (Some n)) h.at_top place in
    subst (λ f. Put x v (m ∷ rs) all (slice_set all (f + n) (k, v)) top) (sym h.at_top)
    (put-kept x v m rs all (slice_set all (m.first + n) (k, v)) top h
    (kept_set m all x v n k h.marked.0 same at) (stored_set m all x v n k same at))

pub put-added : (x : List ℕ) (v : Val) (rs : List ScopeMark) (all : Bindings) (top : ℕ) → AreScopes rs all top → 0 < length rs →
    length (drop top all) < scanned → find x (drop top all) ≡ None → Put x v rs all (all ++ (x, v) ∷ []) top
put-added x v [] all top h some few none = absurd (omega (arith, some))
put-added x v (m ∷ rs) all top h some few none =
    put-kept x v m rs all (all ++ (x, v) ∷ []) top h
    (kept_few m all x v h.marked.0 (subst (λ f. length (drop f all) < scanned) h.at_top few))
    (stored_more m all x v h.marked.0 (subst (λ f. find x (drop f all) ≡ None) h.at_top none))

-- ---------------------------------------------------------------- the innermost scope loses its names
cleared-marked : (m new : ScopeMark) (rs : List ScopeMark) (all : Bindings) → AreMarked (m ∷ rs) all → new ≡ record m { index = new.index } →
    IsIndex (index_of new) [] → AreMarked (new ∷ rs) (take m.first all)
cleared-marked m new rs all h same empty =
    let first : new.first ≡ m.first = ap (λ (k : ScopeMark). k.first) same in
    let frame : new.frame ≡ m.frame = ap (λ (k : ScopeMark). k.frame) same in
    let none : drop new.first (take m.first all) ≡ [] = ap (λ f. drop f (take m.first all)) first ∙ drop-take m.first all in
    let rest : take new.first (take m.first all) ≡ take m.first all = ap (λ f. take f (take m.first all)) first ∙ take-twice m.first all in (
      record {
        within = omega (arith, first, take-length m.first all h.0.within);
        indexed = subst (IsIndex (index_of new)) (sym none) empty;
        bare = ap (λ (s : Scope). s.locals) frame ∙ h.0.bare;
      },
      subst (AreMarked rs) (sym rest) h.1,
    )

cleared-framed : (m new : ScopeMark) (rs : List ScopeMark) (all : Bindings) → new ≡ record m { index = new.index } →
    framed (new ∷ rs) (take m.first all) ≡ without_locals (framed (m ∷ rs) all)
cleared-framed m new rs all same =
    let first : new.first ≡ m.first = ap (λ (k : ScopeMark). k.first) same in
    ap (λ f. record new.frame { locals = in_order (drop f (take m.first all)) } ∷ framed rs (take f (take m.first all))) first
    ∙ ap (λ (ps : Bindings). record new.frame { locals = in_order ps } ∷ framed rs (take m.first (take m.first all))) (drop-take m.first all)
    ∙ ap (λ (ps : Bindings). record new.frame { locals = [] } ∷ framed rs ps) (take-twice m.first all)
    ∙ ap (λ (k : ScopeMark). record k.frame { locals = [] } ∷ framed rs (take m.first all)) same

-- still in their places, and the innermost one has no names
abbrev Cleared : List ScopeMark → List ScopeMark → Bindings → ℕ → Type 0
Cleared rs new all top = AreScopes new (take top all) top × (framed new (take top all) ≡ without_locals (framed rs all))

cleared-by : (m new : ScopeMark) (rs : List ScopeMark) (all : Bindings) (top : ℕ) → AreScopes (m ∷ rs) all top →
    new ≡ record m { index = new.index } → IsIndex (index_of new) [] → Cleared (m ∷ rs) (new ∷ rs) all top
cleared-by m new rs all top h same empty =
    subst (λ f. AreScopes (new ∷ rs) (take f all) top × (framed (new ∷ rs) (take f all) ≡ without_locals (framed (m ∷ rs) all)))
    (sym h.at_top) (
      record { marked = cleared-marked m new rs all h.marked same empty; at_top = h.at_top ∙ sym (ap (λ (k : ScopeMark). k.first) same) },
      cleared-framed m new rs all same,
    )

pub cleared-few : (rs : List ScopeMark) (all : Bindings) (top : ℕ) → AreScopes rs all top → length (drop top all) ≤ scanned →
    Cleared rs rs all top
cleared-few [] all top h few = (record { marked = ap (take top) h.marked ∙ take-long top [] (omega arith); at_top = h.at_top }, refl)
cleared-few (m ∷ rs) all top h few =
    cleared-by m m rs all top h refl
    (index_few (index_of m) (drop m.first all) [] (subst (λ f. length (drop f all) ≤ scanned) h.at_top few) (omega arith) h.marked.0.indexed)

pub cleared-many : (m new : ScopeMark) (rs : List ScopeMark) (all : Bindings) (top : ℕ) → AreScopes (m ∷ rs) all top →
    new ≡ record m { index = new.index } → index_of new ≡ [] → Cleared (m ∷ rs) (new ∷ rs) all top
cleared-many m new rs all top h same none = cleared-by m new rs all top h same (none_indexed (index_of new) [] none (omega arith))

-- ---------------------------------------------------------------- the innermost scope owns a closure
pub owned-marked : (m : ScopeMark) (frame : Scope) (k : Option ℕ) (rs : List ScopeMark) (all : Bindings) (top : ℕ) →
    frame ≡ record m.frame { own_closure = k } → AreScopes (m ∷ rs) all top → AreScopes (record m { frame = frame } ∷ rs) all top
owned-marked m frame k rs all top same h = record {
  marked = (
    record { within = h.marked.0.within; indexed = h.marked.0.indexed; bare = ap (λ (s : Scope). s.locals) same ∙ h.marked.0.bare },
    h.marked.1,
  );
  at_top = h.at_top;
}

pub owned-framed : (m : ScopeMark) (frame : Scope) (k : Option ℕ) (rs : List ScopeMark) (all : Bindings) →
    frame ≡ record m.frame { own_closure = k } → framed (record m { frame = frame } ∷ rs) all ≡ owning k (framed (m ∷ rs) all)
owned-framed m frame k rs all same =
    ap (λ (s : Scope). record s { locals = in_order (drop m.first all) } ∷ framed rs (take m.first all)) same

-- ---------------------------------------------------------------- what is lent of the innermost scope
pub lent-found : (r : Option (Bor Val)) (x : List ℕ) (ss : List Scope) → IsLent r (find x (top_locals ss)) →
    IfSome r (λ v. (view : View) → in_frames view x ss ≡ Ok (Some v.now))
lent-found None x ss h = tt
lent-found (Some v) x ss h = λ view. own-found view x ss v.now h

pub lent-top : (r : Option (Bor Val)) (x : List ℕ) (rs : List ScopeMark) (lent all : Bindings) (top : ℕ) → AreScopes rs all top → lent ≡ all →
    IsLent r (find x (take (length lent - top) (drop top lent))) → IsLent r (find x (top_locals (framed rs all)))
lent-top r x rs lent all top h same is =
    subst (IsLent r) (ap (find x) (rest-of top lent all same ∙ ap (λ f. drop f all) h.at_top) ∙ sym (top-found rs all x h.marked)) is

-- ---------------------------------------------------------------- the outermost scope
root-last : (rs : List ScopeMark) (r : ScopeMark) (all : Bindings) → root_context (framed (rs ++ r ∷ []) all) ≡ r.frame.context
root-last [] r all = refl
root-last (m ∷ []) r all = refl
root-last (m ∷ n ∷ rs) r all = root-last (n ∷ rs) r (take m.first all)

pub root-framed : (ms : List ScopeMark) (r : ScopeMark) (all : Bindings) → Some r ≡ slice_get ms 0 →
    root_context (framed (reverse ms) all) ≡ r.frame.context
root-framed [] r all h = absurd (true≢false (ap is_some h))
root-framed (m ∷ ms) r all h =
    ap (λ (rs : List ScopeMark). root_context (framed rs all)) (reverse_onto ms m []) ∙ root-last (reverse ms) m all
    ∙ ap (λ (o : Option ScopeMark). (unwrap_or o r).frame.context) (sym h)

-- ---------------------------------------------------------------- scopes that are left
pub outermost-inner : (n : ℕ) (ss : List Scope) → n < length ss → outermost n (without_first ss) ≡ outermost n ss
outermost-inner n [] h = absurd (omega (arith, h))
outermost-inner n (s ∷ ss) h =
    let e : suc (length ss - n) ≡ length (s ∷ ss) - n = omega (arith, h) in ap (λ k. drop k (s ∷ ss)) e

pub outermost-all : (n : ℕ) (ss : List Scope) → length ss ≤ n → outermost n ss ≡ ss
outermost-all n ss h = let e : length ss - n ≡ 0 = omega (arith, h) in ap (λ k. drop k ss) e

-- ---------------------------------------------------------------- for `put`: what is lent of the pairs
pub replaced-there : (x : List ℕ) (v : Val) (rs : List ScopeMark) (lent all : Bindings) (top n : ℕ) (pair : List ℕ × Val) →
    AreScopes rs all top → 0 < length rs → lent ≡ all → IsPlace x (take (length lent - top) (drop top lent)) (Some n) →
    pair ≡ get_or all (top + n) pair → Put x v rs all (slice_set all (top + n) (pair.0, v)) top
replaced-there x v rs lent all top n pair h some same place is =
    let at = subst (λ ps. IsPlace x ps (Some n)) (rest-of top lent all same) place in
    put-replaced x v rs all top n pair.0 h some (the_name x (drop top all) n pair at (is ∙ sym (get-drop top n pair all))) at

pub added-there : (x y : List ℕ) (v : Val) (rs : List ScopeMark) (lent all after : Bindings) (top : ℕ) → AreScopes rs all top →
    0 < length rs → lent ≡ all → length (take (length lent - top) (drop top lent)) < scanned →
    find x (take (length lent - top) (drop top lent)) ≡ None → y ≡ x → after ≡ all ++ (y, v) ∷ [] → Put x v rs all after top
added-there x y v rs lent all after top h some same few none name is =
    subst (λ ps. Put x v rs all ps top) (sym (is ∙ ap (λ z. all ++ (z, v) ∷ []) name))
    (put-added x v rs all top h some (subst (λ (ps : Bindings). length ps < scanned) (rest-of top lent all same) few)
    (subst (λ (ps : Bindings). find x ps ≡ None) (rest-of top lent all same) none))

-- the scopes as they are seen, with those that were seen before
pub seen-as : (f : List Scope → List Scope) (frames new : List Scope) (outer : ℕ) (scopes : Scopes) → new ≡ f frames →
    record { frames = frames; outer = outer } ≡ scopes → record { frames = new; outer = outer } ≡ record scopes { frames = f scopes.frames }
seen-as f frames new outer scopes is seen =
    ap (λ fs. record { frames = fs; outer = outer }) is ∙ ap (λ (ss : Scopes). record ss { frames = f ss.frames }) seen

-- ---------------------------------------------------------------- the innermost scope, which is the last to be entered
module _ (marks : List ScopeMark) (n : ℕ) (m : ScopeMark) (long : length marks ≡ suc n) (there : m ≡ get_or marks n m) where
  inner : reverse marks ≡ m ∷ reverse (take n marks)
  inner = last-is marks n m long there

  module _ (new : ScopeMark) (before after : Bindings) (top : ℕ) (h : AreScopes (reverse marks) before top) where
    changed : reverse (slice_set marks n new) ≡ new ∷ reverse (take n marks)
    changed = last-set marks n new long

    pub last-kept : KeepsOthers m new before after → AreScopes (reverse (slice_set marks n new)) after top
    last-kept kept =
        let was : AreScopes (m ∷ reverse (take n marks)) before top = subst (λ rs. AreScopes rs before top) inner h in
        subst (λ rs. AreScopes rs after top) (sym changed) (record {
          marked = kept-marked m new (reverse (take n marks)) before after kept was.marked;
          at_top = was.at_top ∙ sym (kept-first m new (reverse (take n marks)) before after kept);
        })

    pub last-stored : (x : List ℕ) (v : Val) → KeepsOthers m new before after → Stores x v m before after →
        framed (reverse (slice_set marks n new)) after ≡ stored_in x v (framed (reverse marks) before)
    last-stored x v kept stores =
        ap (λ rs. framed rs after) changed ∙ kept-stored m new (reverse (take n marks)) before after kept x v stores
        ∙ ap (λ rs. stored_in x v (framed rs before)) (sym inner)

    pub last-same : KeepsOthers m new before after → after ≡ before →
        framed (reverse (slice_set marks n new)) after ≡ framed (reverse marks) before
    last-same kept same =
        ap (λ rs. framed rs after) changed ∙ kept-same m new (reverse (take n marks)) before after kept same
        ∙ ap (λ rs. framed rs before) (sym inner)

    pub last-cleared : new ≡ record m { index = new.index } → index_of new ≡ [] → after ≡ take top before →
        AreScopes (reverse (slice_set marks n new)) after top
        × (framed (reverse (slice_set marks n new)) after ≡ without_locals (framed (reverse marks) before))
    last-cleared same none is =
        let was : AreScopes (m ∷ reverse (take n marks)) before top = subst (λ rs. AreScopes rs before top) inner h in
        let cleared = cleared-many m new (reverse (take n marks)) before top was same none in
        subst (λ ps. AreScopes (reverse (slice_set marks n new)) ps top
        × (framed (reverse (slice_set marks n new)) ps ≡ without_locals (framed (reverse marks) before))) (sym is) (
          subst (λ rs. AreScopes rs (take top before) top) (sym changed) cleared.0,
          ap (λ rs. framed rs (take top before)) changed ∙ cleared.1 ∙ ap (λ rs. without_locals (framed rs before)) (sym inner),
        )

  module _ (frame : Scope) (k : Option ℕ) (all : Bindings) (top : ℕ) (same : frame ≡ record m.frame { own_closure = k }) where
    pub last-owned : AreScopes (reverse marks) all top → AreScopes (reverse (slice_set marks n (record m { frame = frame }))) all top
    last-owned h =
        subst (λ rs. AreScopes rs all top) (sym (last-set marks n (record m { frame = frame }) long))
        (owned-marked m frame k (reverse (take n marks)) all top same (subst (λ rs. AreScopes rs all top) inner h))

    pub last-owning : framed (reverse (slice_set marks n (record m { frame = frame }))) all ≡ owning k (framed (reverse marks) all)
    last-owning =
        ap (λ rs. framed rs all) (last-set marks n (record m { frame = frame }) long)
        ∙ owned-framed m frame k (reverse (take n marks)) all same ∙ ap (λ rs. owning k (framed rs all)) (sym inner)

-- ---------------------------------------------------------------- the last one, as it is lent
module _ {X : Type 0} where
  got-at : (xs : List X) (n : ℕ) (x : X) → Some x ≡ slice_get xs n → x ≡ get_or xs n x
  got-at [] n x h = absurd (true≢false (ap is_some h))
  got-at (y ∷ xs) zero x h = ap (λ o. unwrap_or o x) h
  got-at (y ∷ xs) (suc n) x h = got-at xs n x h

  pub last-lent : (xs : List X) (x : X) → Some x ≡ slice_get xs (length xs - 1) → reverse xs ≡ x ∷ reverse (take (length xs - 1) xs)
  last-lent [] x h = absurd (true≢false (ap is_some h))
  last-lent (y ∷ xs) x h =
      last-is (y ∷ xs) (length (y ∷ xs) - 1) x (omega arith) (got-at (y ∷ xs) (length (y ∷ xs) - 1) x h)

pub lent-last : (r : Option (Bor Val)) (x : List ℕ) (marks : List ScopeMark) (m : ScopeMark) (lent all : Bindings) →
    AreMarked (reverse marks) all → Some m ≡ slice_get marks (length marks - 1) → lent ≡ all →
    IsLent r (find x (take (length lent - m.first) (drop m.first lent))) → IsLent r (find x (top_locals (framed (reverse marks) all)))
lent-last r x marks m lent all h last same is =
    lent-top r x (reverse marks) lent all m.first (record { marked = h; at_top = sym (ap top_of (last-lent marks m last)) }) same is

-- ---------------------------------------------------------------- loops
pub innermost-framed : (rs : List ScopeMark) (all other : Bindings) → innermost (framed rs all) ≡ innermost (framed rs other)
innermost-framed [] all other = refl
innermost-framed (m ∷ rs) all other =
    ap (or_else (number_of m.frame.mark)) (innermost-framed rs (take m.first all) (take m.first other))

-- ---------------------------------------------------------------- scope by scope, from the innermost one outwards
abbrev some_in : Answer (Option Val) → Bool
some_in (Ok o) = is_some o
some_in (Err e) = false

module _ (view : View) (x : List ℕ) where
  passes : (own : Option Val) (member rest : Answer (Option Val)) → or_on own (λ _. or_on_answer member (λ _. Ok None)) ≡ Ok None →
      or_on own (λ _. or_on_answer member (λ _. rest)) ≡ rest
  passes (Some v) member rest h = absurd (true≢false (ap some_in h))
  passes None (Ok (Some v)) rest h = absurd (true≢false (ap some_in h))
  passes None (Ok None) rest h = refl
  passes None (Err chain) rest h = absurd (true≢false (sym (ap is_ok h)))

  stops : (own : Option Val) (member rest : Answer (Option Val)) (v : Val) →
      or_on own (λ _. or_on_answer member (λ _. Ok None)) ≡ Ok (Some v) → or_on own (λ _. or_on_answer member (λ _. rest)) ≡ Ok (Some v)
  stops (Some w) member rest v h = h
  stops None (Ok (Some w)) rest v h = h
  stops None (Ok None) rest v h = absurd (true≢false (sym (ap some_in h)))
  stops None (Err chain) rest v h = absurd (true≢false (sym (ap is_ok h)))

  fails : (own : Option Val) (member rest : Answer (Option Val)) (chain : List ErrorKind) →
      or_on own (λ _. or_on_answer member (λ _. Ok None)) ≡ Err chain → or_on own (λ _. or_on_answer member (λ _. rest)) ≡ Err chain
  fails (Some w) member rest chain h = absurd (true≢false (ap is_ok h))
  fails None (Ok (Some w)) rest chain h = absurd (true≢false (ap is_ok h))
  fails None (Ok None) rest chain h = absurd (true≢false (ap is_ok h))
  fails None (Err e) rest chain h = h

  module _ (s : Scope) (ss : List Scope) where
    pub scope-passes : in_frames view x (s ∷ []) ≡ Ok None → in_frames view x (s ∷ ss) ≡ in_frames view x ss
    scope-passes h = passes (in_scope view x s) (context_member view.records x s.context) (in_frames view x ss) h

    pub scope-stops : (v : Val) → in_frames view x (s ∷ []) ≡ Ok (Some v) → in_frames view x (s ∷ ss) ≡ Ok (Some v)
    scope-stops v h = stops (in_scope view x s) (context_member view.records x s.context) (in_frames view x ss) v h

    pub scope-fails : (chain : List ErrorKind) → in_frames view x (s ∷ []) ≡ Err chain → in_frames view x (s ∷ ss) ≡ Err chain
    scope-fails chain h = fails (in_scope view x s) (context_member view.records x s.context) (in_frames view x ss) chain h

    -- what is none of its own names is looked up as if it had none
    pub own-passes : (own : Bindings) → s.locals ≡ [] → find x own ≡ None →
        in_frames view x (record s { locals = own } ∷ ss) ≡ in_frames view x (s ∷ ss)
    own-passes own bare none =
        ap (λ o. or_on (or_else o (or_else (marked_loop view.records.state s.mark x) (read_closure view.closures s.reads x)))
        (λ _. or_on_answer (context_member view.records x s.context) (λ _. in_frames view x ss)))
        (none ∙ sym (ap (find x) bare))

-- an error is passed on
pub failed-as : (id : ℕ) (r : Result (Option Found) (List ErrorKind)) (a : Answer (Option Val)) (e : List ErrorKind) →
    IsErrAnd r (λ y. y ≡ e) → a ≡ Err e → IsFound id r a
failed-as id (Ok o) a e p h = absurd p
failed-as id (Err y) a e p h = h ∙ ap Err (sym p)

module _ (marks : List ScopeMark) (i : ℕ) (m : ScopeMark) (all : Bindings) (end : ℕ) (some : 0 < i) (fits : i ≤ length marks)
    (there : m ≡ get_or marks (i - 1) m) (h : AreMarked (reverse (take i marks)) (take end all)) where
  abbrev pub rest : List ScopeMark
  rest = reverse (take (i - 1) marks)

  split : reverse (take i marks) ≡ m ∷ rest
  split =
      let e : i ≡ suc (i - 1) = omega (arith, some) in
      ap (λ k. reverse (take k marks)) e ∙ taken-is marks (i - 1) m (omega (arith, some, fits)) there

  here : AreMarked (m ∷ rest) (take end all)
  here = subst (λ rs. AreMarked rs (take end all)) split h

  first-fits : m.first ≤ end
  first-fits = omega (arith, here.0.within, take-fits end all)

  pub rest-within : m.first ≤ length all
  rest-within = omega (arith, here.0.within, take-fewer end all)

  pub rest-marked : AreMarked (reverse (take (i - 1) marks)) (take m.first all)
  rest-marked = subst (AreMarked rest) (take-less m.first end all first-fits) here.1

  rest-framed : framed (reverse (take i marks)) (take end all) ≡ scope_of m (take end all) ∷ framed rest (take m.first all)
  rest-framed =
      ap (λ rs. framed rs (take end all)) split ∙ ap (λ ps. scope_of m (take end all) ∷ framed rest ps) (take-less m.first end all first-fits)

  module _ (lent : Bindings) (same : lent ≡ all) where
    own-part : take (end - m.first) (drop m.first lent) ≡ drop m.first (take end all)
    own-part = ap (λ ps. take (end - m.first) (drop m.first ps)) same ∙ part-of m.first end all first-fits

    pub own-indexed : IsIndexed m (take (end - m.first) (drop m.first lent))
    own-indexed = subst (IsIndexed m) (sym own-part) here.0.indexed

    own-found-in : (x : List ℕ) → find x (scope_of m (take end all)).locals ≡ find x (take (end - m.first) (drop m.first lent))
    own-found-in x = find-in_order x (drop m.first (take end all)) ∙ ap (find x) (sym own-part)

    module _ (view : View) (x : List ℕ) where
      pub found-own : (v : Val) → find x (take (end - m.first) (drop m.first lent)) ≡ Some v →
          in_frames view x (framed (reverse (take i marks)) (take end all)) ≡ Ok (Some v)
      found-own v is =
          ap (in_frames view x) rest-framed
          ∙ own-found view x (scope_of m (take end all) ∷ framed rest (take m.first all)) v (own-found-in x ∙ is)

      pub found-further : find x (take (end - m.first) (drop m.first lent)) ≡ None →
          in_frames view x (framed (reverse (take i marks)) (take end all)) ≡ in_frames view x (m.frame ∷ framed rest (take m.first all))
      found-further is =
          ap (in_frames view x) rest-framed
          ∙ own-passes view x m.frame (framed rest (take m.first all)) (in_order (drop m.first (take end all))) here.0.bare (own-found-in x ∙ is)

-- ---------------------------------------------------------------- names, scope by scope
-- whether a name was found before, or is found further on
abbrev pub found_then : Bool → Answer Bool → Answer Bool
found_then true more = Ok true
found_then false more = more

abbrev value : Answer Bool → Bool
value (Ok b) = b
value (Err chain) = false

pub all-found : (b : Bool) → found_then b (Ok false) ≡ Ok b
all-found true = refl
all-found false = refl

one-scope : (before : Bool) (o : Option Val) (after : Bool) (own : Option Val) (member more : Answer (Option Val)) →
    or_else_found (before || is_some o) (is_found (or_on own (λ _. or_on_answer member (λ _. Ok None)))) ≡ Ok after →
    found_then before (is_found (or_on (or_else o own) (λ _. or_on_answer member (λ _. more)))) ≡ found_then after (is_found more)
one-scope true o after (Some w) member more h = ap (λ a. found_then a (is_found more)) (ap value h)
one-scope true o after None (Ok (Some w)) more h = ap (λ a. found_then a (is_found more)) (ap value h)
one-scope true o after None (Ok None) more h = ap (λ a. found_then a (is_found more)) (ap value h)
one-scope true o after None (Err chain) more h = absurd (true≢false (sym (ap is_ok h)))
one-scope false (Some v) after (Some w) member more h = ap (λ a. found_then a (is_found more)) (ap value h)
one-scope false (Some v) after None (Ok (Some w)) more h = ap (λ a. found_then a (is_found more)) (ap value h)
one-scope false (Some v) after None (Ok None) more h = ap (λ a. found_then a (is_found more)) (ap value h)
one-scope false (Some v) after None (Err chain) more h = absurd (true≢false (sym (ap is_ok h)))
one-scope false None after (Some w) member more h = ap (λ a. found_then a (is_found more)) (ap value h)
one-scope false None after None (Ok (Some w)) more h = ap (λ a. found_then a (is_found more)) (ap value h)
one-scope false None after None (Ok None) more h = ap (λ a. found_then a (is_found more)) (ap value h)
one-scope false None after None (Err chain) more h = absurd (true≢false (sym (ap is_ok h)))

-- one scope's names after those that were there
scope-step : (view : View) (x : List ℕ) (f : Scope) (own : Bindings) (ss : List Scope) (before joined after : Bool) → f.locals ≡ [] →
    joined ≡ (before || is_some (find x own)) → or_else_found joined (is_found (in_frames view x (f ∷ []))) ≡ Ok after →
    found_then before (is_found (in_frames view x (record f { locals = own } ∷ ss))) ≡ found_then after (is_found (in_frames view x ss))
scope-step view x f own ss before joined after bare is h =
    one-scope before (find x own) after (or_else (marked_loop view.records.state f.mark x) (read_closure view.closures f.reads x))
    (context_member view.records x f.context) (in_frames view x ss)
    (ap (λ b. or_else_found b (is_found (in_frames view x (record f { locals = [] } ∷ [])))) (sym is)
    ∙ ap (λ (ls : Bindings). or_else_found joined (is_found (in_frames view x (record f { locals = ls } ∷ [])))) (sym bare) ∙ h)

module _ (marks : List ScopeMark) (i : ℕ) (m : ScopeMark) (all : Bindings) (end : ℕ) (some : 0 < i) (fits : i ≤ length marks)
    (there : m ≡ get_or marks (i - 1) m) (h : AreMarked (reverse (take i marks)) (take end all)) (lent : Bindings) (same : lent ≡ all) where
  pub names-step : (r : RecordData) (cs : List Bindings) (names own joined after : List (Bor (List ℕ))) →
      texts_of own ≡ keys_of (in_order (take (end - m.first) (drop m.first lent))) → joined ≡ names ++ own →
      AddsFound r cs (m.frame ∷ []) (texts_of joined) (texts_of after) →
      (view : View) → view.records ≡ r → view.closures ≡ cs → (x : List ℕ) →
      found_then (is_among x (texts_of names)) (is_found (in_frames view x (framed (reverse (take i marks)) (take end all))))
      ≡ found_then (is_among x (texts_of after))
      (is_found (in_frames view x (framed (reverse (take (i - 1) marks)) (take m.first all))))
  names-step r cs names own joined after of_own both adds view records closures x =
      let locals = in_order (drop m.first (take end all)) in
      let own_is : is_among x (texts_of own) ≡ is_some (find x locals) =
      ap (is_among x) (of_own ∙ ap (λ ps. keys_of (in_order ps)) (own-part marks i m all end some fits there h lent same))
      ∙ sym (is_some-lookup (is_at (name_cmp x)) locals) in
      let joined_is : is_among x (texts_of joined) ≡ (is_among x (texts_of names) || is_some (find x locals)) =
      ap (λ l. is_among x (texts_of l)) both ∙ among-both x names own ∙ ap (λ b. is_among x (texts_of names) || b) own_is in
      ap (λ ss. found_then (is_among x (texts_of names)) (is_found (in_frames view x ss))) (rest-framed marks i m all end some fits there h)
      ∙ scope-step view x m.frame locals (framed (reverse (take (i - 1) marks)) (take m.first all)) (is_among x (texts_of names))
      (is_among x (texts_of joined)) (is_among x (texts_of after)) (here marks i m all end some fits there h).0.bare joined_is
      (adds view records closures x)

-- a scope over a namespace without a record is among the scopes
lacks-framed : (r : RecordData) (rs : List ScopeMark) (all : Bindings) →
    one_lacks_record r (framed rs all) ≡ list_any (λ (m : ScopeMark). lacks_record r m.frame.context) rs
lacks-framed r [] all = refl
lacks-framed r (m ∷ rs) all = ap (λ b. lacks_record r m.frame.context || b) (lacks-framed r rs (take m.first all))

pub fails-framed : (r : RecordData) (marks : List ScopeMark) (all : Bindings) (scopes : Scopes) (outer n : ℕ) (m : ScopeMark)
    (chain : List ErrorKind) → n < length marks → m ≡ get_or marks n m →
    record { frames = framed (reverse marks) all; outer = outer } ≡ scopes → NamingFails r (m.frame ∷ []) chain →
    NamingFails r scopes.frames chain
fails-framed r marks all scopes outer n m chain lt is seen (inl memory) = inl memory
fails-framed r marks all scopes outer n m chain lt is seen (inr (kind, unknown)) =
    let test : ScopeMark → Bool = λ (k : ScopeMark). lacks_record r k.frame.context in inr (
      kind,
      ap (λ (ss : Scopes). one_lacks_record r ss.frames) (sym seen) ∙ lacks-framed r (reverse marks) all
          ∙ sym (list_any-IsPermutation test marks (reverse marks) (IsPermutation-reverse marks))
          ∙ list_any_at test marks n m lt (ap test (sym is) ∙ sym (or-false (test m)) ∙ unknown),
    )

-- ---------------------------------------------------------------- what the outermost scope exports
first-within : (rs : List ScopeMark) (s : ScopeMark) (more : List ScopeMark) (all : Bindings) → AreMarked (rs ++ s ∷ more) all →
    s.first ≤ length all
first-within [] s more all h = h.0.within
first-within (m ∷ rs) s more all h =
    let inner = first-within rs s more (take m.first all) h.1 in omega (arith, inner, take-fewer m.first all)

-- the pairs before those of these scopes
abbrev below : List ScopeMark → Bindings → Bindings
below [] all = all
below (m ∷ rs) all = below rs (take m.first all)

below-is : (rs : List ScopeMark) (s : ScopeMark) (more : List ScopeMark) (all : Bindings) → AreMarked (rs ++ s ∷ more) all →
    below (rs ++ s ∷ []) all ≡ take s.first all
below-is [] s more all h = refl
below-is (m ∷ rs) s more all h =
    let inner = first-within rs s more (take m.first all) h.1 in
    below-is rs s more (take m.first all) h.1 ∙ take-less s.first m.first all (omega (arith, inner, take-fits m.first all))

exported-below : (rs : List ScopeMark) (r : ScopeMark) (all : Bindings) → AreMarked (rs ++ r ∷ []) all →
    exported_of (framed (rs ++ r ∷ []) all) ≡ exported_among (below rs all)
exported-below [] r all h = ap exported_among (nothing-before r.first all h.1)
exported-below (m ∷ []) r all h = exported-below [] r (take m.first all) h.1
exported-below (m ∷ n ∷ rs) r all h = exported-below (n ∷ rs) r (take m.first all) h.1

module _ (r s : ScopeMark) (more : List ScopeMark) (all : Bindings) (h : AreMarked (reverse (r ∷ s ∷ more)) all) where
  two-first : reverse (r ∷ s ∷ more) ≡ (reverse more ++ s ∷ []) ++ r ∷ []
  two-first = reverse_onto (s ∷ more) r [] ∙ ap (λ l. l ++ r ∷ []) (reverse_onto more s [])

  before-both : AreMarked (reverse more ++ s ∷ r ∷ []) all
  before-both = subst (λ rs. AreMarked rs all) (two-first ∙ append_assoc (reverse more) (s ∷ []) (r ∷ [])) h

  two-exported : exported_of (framed (reverse (r ∷ s ∷ more)) all) ≡ exported_among (take s.first all)
  two-exported =
      ap (λ rs. exported_of (framed rs all)) two-first
      ∙ exported-below (reverse more ++ s ∷ []) r all (subst (λ rs. AreMarked rs all) two-first h)
      ∙ ap exported_among (below-is (reverse more) s (r ∷ []) all before-both)

pub outer-within : (marks : List ScopeMark) (all : Bindings) (next : ScopeMark) → 1 < length marks → next ≡ get_or marks 1 next →
    AreMarked (reverse marks) all → next.first ≤ length all
outer-within [] all next lt is h = absurd (omega (arith, lt))
outer-within (r ∷ []) all next lt is h = absurd (omega (arith, lt))
outer-within (r ∷ s ∷ more) all next lt is h =
    subst (λ (k : ScopeMark). k.first ≤ length all) (sym is) (first-within (reverse more) s (r ∷ []) all (before-both r s more all h))

pub outer-exported : (marks : List ScopeMark) (all : Bindings) (next : ScopeMark) → 1 < length marks → next ≡ get_or marks 1 next →
    AreMarked (reverse marks) all → exported_of (framed (reverse marks) all) ≡ exported_among (take next.first all)
outer-exported [] all next lt is h = absurd (omega (arith, lt))
outer-exported (r ∷ []) all next lt is h = absurd (omega (arith, lt))
outer-exported (r ∷ s ∷ more) all next lt is h =
    two-exported r s more all h ∙ ap (λ (k : ScopeMark). exported_among (take k.first all)) (sym is)

pub only-exported : (marks : List ScopeMark) (all : Bindings) → length marks ≤ 1 → AreMarked (reverse marks) all →
    exported_of (framed (reverse marks) all) ≡ exported_among all
only-exported [] all lt h = ap exported_among (sym h)
only-exported (r ∷ []) all lt h = exported-below [] r all h
only-exported (r ∷ s ∷ more) all lt h = absurd (omega (arith, lt))
