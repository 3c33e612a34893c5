-- The entries of macros have their shapes, where every instruction stands at a place with a shape.
use Rattle.std.proofs.Common.{◌≡◌, ℕ, zero, suc, ◌+◌, List, [], ◌∷◌, length, Option, Some, None, Bool, true, false, refl, sym, ap, ◌∙◌, subst, arith}
use Rattle.std.specs.Prelude.{slice_get, ◌&&◌}
use Rattle.tm_values.specs.Val.{Val, list, list_of, text_in}
use Rattle.tm_syntax.specs.Entries.{names_in, texts_in, and_text}
use Rattle.tm_syntax.specs.Choices.{choose}
use Rattle.tm_trees.specs.Instructions.{Instruction}
use Rattle.tm_trees.specs.Instructions.instructions as i
use Rattle.tm_syntax.specs.Entries.{name_count}
use Rattle.tm_shapes.specs.declared.kind.Kind.{Kind}
use Rattle.tm_shapes.specs.declared.kind.Kind.TheVariants.{Value as value, Closure as closure, Names as names, One as one}
use Rattle.tm_shapes.specs.declared.kind.Reading.{Reading}
use Rattle.tm_shapes.specs.declared.kind.Reading.TheVariants as readings
use Rattle.tm_shapes.specs.Shapes.{Shape, Shapes, shape_at, entry_shape}
use Rattle.tm_shapes.specs.Flows.{Site, flow_of, next, build_macro, builds, is_one, is_zero, load, load_on, load_value}
use Rattle.tm_shapes.specs.Flows.{load_names, load_zero, zero_of, with_operands}
use Rattle.tm_shapes.specs.Search.{Has}
use Rattle.tm_shapes.specs.Accepts.{Seeds, entry_seed, entry_seeds_from, entry_seeds}
use Rattle.tm_accepted.specs.Sites.{Piece, site_by}

-- ---------------------------------------------------------------- as many names
text_by : (o : Option (List ℕ)) (r : Option (List (List ℕ))) (vs : List Val) (xs : List (List ℕ)) → and_text o r ≡ Some xs →
    ((ys : List (List ℕ)) → r ≡ Some ys → length ys ≡ length vs) → length xs ≡ suc (length vs)
text_by None r vs xs e k = absurd (cc e)
text_by (Some x) None vs xs e k = absurd (cc e)
text_by (Some x) (Some ys) vs xs e k = let one : x ∷ ys ≡ xs = cc e in ap length (sym one) ∙ ap suc (k ys refl)

texts_long : (vs : List Val) (xs : List (List ℕ)) → texts_in vs ≡ Some xs → length xs ≡ length vs
texts_long [] xs e = let one : xs ≡ [] = cc (sym e) in ap length one
texts_long (v ∷ vs) xs e = text_by (text_in v) (texts_in vs) vs xs e (λ ys q. texts_long vs ys q)

names_long : (v : Val) (xs : List (List ℕ)) → names_in v ≡ Some xs → length xs ≡ name_count v
names_long (list vs) xs e = texts_long (list_of vs) xs e
names_long v xs e = absurd (cc e)

-- 0 is no list of names, however it is read
zero_not : (q : Reading) (place k : ℕ) (ks : List Kind) → zero_of q place ks ≡ names k → ⊥
zero_not readings.Value place k ks e = cc e
zero_not readings.Group place k ks e = cc e
zero_not readings.Open place k [] e = cc e
zero_not readings.Open place k (j ∷ ks) e = cc e

-- so many instructions before these
abbrev From : List Instruction → ℕ → List Instruction → Type 0
From code n is = (j : ℕ) → slice_get code (n + j) ≡ slice_get is j

from_next : (code : List Instruction) (n : ℕ) (x : Instruction) (is : List Instruction) → From code n (x ∷ is) → From code (n + 1) is
from_next code n x is h j = let e : n + 1 + j ≡ n + suc j = omega arith in ap (slice_get code) e ∙ h (suc j)

from_here : (code : List Instruction) (n : ℕ) (x : Instruction) (is : List Instruction) → From code n (x ∷ is) → slice_get code n ≡ Some x
from_here code n x is h = let e : n ≡ n + 0 = omega arith in ap (slice_get code) e ∙ h 0

-- a literal with so many names stands before a place
abbrev Before : List Instruction → ℕ → Option ℕ → Type 0
Before code n None = Unit {0}
Before code n (Some c) = (m : ℕ) × (v : Val) × (n ≡ m + 1) × (slice_get code m ≡ Some (i.LoadConst v)) × (c ≡ name_count v)

module _ (sh : Shapes) where
  -- the places have these shapes
  abbrev pub Meets_seeds : Seeds → Type 0
  Meets_seeds [] = Unit {0}
  Meets_seeds (e ∷ es) = (shape_at sh e.0 ≡ Some e.1) × Meets_seeds es

  pub held_at : (es : Seeds) (k : ℕ) (e : ℕ × Shape) → Meets_seeds es → slice_get es k ≡ Some e → shape_at sh e.0 ≡ Some e.1
  held_at [] k e h is = absurd (cc is)
  held_at (x ∷ es) zero e h is = let one : x ≡ e = cc is in subst (λ (y : ℕ × Shape). shape_at sh y.0 ≡ Some y.1) one h.0
  held_at (x ∷ es) (suc k) e h is = held_at es k e h.1 is

  -- ---------------------------------------------------------------- the shape before a macro is built
  -- only a macro's names are read as such
  top_is : (n : ℕ) (s t : Shape) (j : Kind) (js : List Kind) (k : ℕ) (ks : List Kind) → shape_at sh n ≡ Some (with_operands (j ∷ js) s) →
      shape_at sh n ≡ Some t → t.part.operands ≡ names k ∷ ks → j ≡ names k
  top_is n s t j js k ks h there is =
      let same : with_operands (j ∷ js) s ≡ t = cc (sym h ∙ there) in
      let ops : j ∷ js ≡ names k ∷ ks = ap (λ (u : Shape). u.part.operands) same ∙ is in cc ops

  loaded_names : (o : Option (List (List ℕ))) (at : Site) (v : Val) (s t : Shape) (k : ℕ) (ks : List Kind) → names_in v ≡ o →
      Has sh (load_names o at s) → shape_at sh (at.place + 1) ≡ Some t → t.part.operands ≡ names k ∷ ks → k ≡ name_count v
  loaded_names None at v s t k ks e h there is = absurd h
  loaded_names (Some xs) at v s t k ks e h there is =
      let same : length xs ≡ k = cc (top_is (at.place + 1) s t (names (length xs)) s.part.operands k ks h there is) in
      sym same ∙ names_long v xs e

  loaded_value : (b : Bool) (at : Site) (s t : Shape) (k : ℕ) (ks : List Kind) (n : ℕ) →
      Has sh (choose b (λ _. load_zero at s) (λ _. next at (value ∷ s.part.operands) s)) →
      shape_at sh (at.place + 1) ≡ Some t → t.part.operands ≡ names k ∷ ks → k ≡ n
  loaded_value true at s t k ks n h there is =
      absurd (zero_not at.reading at.place k s.part.operands
      (top_is (at.place + 1) s t (zero_of at.reading at.place s.part.operands) s.part.operands k ks h there is))
  loaded_value false at s t k ks n h there is = absurd (cc (top_is (at.place + 1) s t value s.part.operands k ks h there is))

  loaded_one : (b : Bool) (at : Site) (v : Val) (s t : Shape) (k : ℕ) (ks : List Kind) →
      Has sh (choose b (λ _. next at (one ∷ s.part.operands) s) (λ _. load_value at v s)) →
      shape_at sh (at.place + 1) ≡ Some t → t.part.operands ≡ names k ∷ ks → k ≡ name_count v
  loaded_one true at v s t k ks h there is = absurd (cc (top_is (at.place + 1) s t one s.part.operands k ks h there is))
  loaded_one false at v s t k ks h there is = loaded_value (is_zero v) at s t k ks (name_count v) h there is

  loaded_by : (at : Site) (v : Val) (s t : Shape) (k : ℕ) (ks : List Kind) (b : Bool) →
      Has sh (choose b (λ _. load_names (names_in v) at s) (λ _. load_on at v s)) → shape_at sh (at.place + 1) ≡ Some t →
      t.part.operands ≡ names k ∷ ks → k ≡ name_count v
  loaded_by at v s t k ks true h there is = loaded_names (names_in v) at v s t k ks refl h there is
  loaded_by at v s t k ks false h there is = loaded_one (at.between && is_one v) at v s t k ks h there is

  -- what a literal leaves where a macro's names are on top after it
  loaded : (at : Site) (v : Val) (s t : Shape) (k : ℕ) (ks : List Kind) → Has sh (load at v s) → shape_at sh (at.place + 1) ≡ Some t →
      t.part.operands ≡ names k ∷ ks → k ≡ name_count v
  loaded at v s t k ks h there is = loaded_by at v s t k ks (builds at.rest) h there is

  entered : (at : Site) (place : ℕ) (s : Shape) (ks : List Kind) → at.enters ≡ true → Has sh (build_macro at place s ks) →
      (k : ℕ) × (more : List Kind) × (ks ≡ names k ∷ more) × (shape_at sh place ≡ Some (entry_shape k))
  entered at place s (names n ∷ closure ∷ ks) e h =
      let f = next at (value ∷ ks) s in
      let g = Rattle.tm_shapes.specs.Flows.both f (Rattle.tm_shapes.specs.Flows.leads place (entry_shape n)) in
      (n, closure ∷ ks, refl, (subst (λ b. Has sh (choose b (λ _. g) (λ _. f))) e h).1)
  entered at place s ks e h = absurd h

  -- each instruction of the code stands at a place with a shape, from which it leads on
  module _ (r : Option ℕ) (code : List Instruction)
      (all : (n : ℕ) (x : Instruction) → slice_get code n ≡ Some x → (s : Shape) × (shape_at sh n ≡ Some s))
      (steps : (n : ℕ) (x : Instruction) (s : Shape) → slice_get code n ≡ Some x → shape_at sh n ≡ Some s →
      (p : Piece) × (q : Reading) × Has sh (flow_of (site_by p q r n) x s)) where
    with_seed : (n : ℕ) (before : Option ℕ) (x : List ℕ) (place : ℕ) (caller : Bool) (es : Seeds) → Before code n before →
        slice_get code n ≡ Some (i.BuildMacro x place caller) → Meets_seeds es → Meets_seeds (entry_seed before place es)
    with_seed n None x place caller es b at h = h
    with_seed n (Some c) x place caller es (m, v, is, there, count) at h =
        let s = all m (i.LoadConst v) there in
        let t = all n (i.BuildMacro x place caller) at in
        let one = steps m (i.LoadConst v) s.0 there s.1 in
        let two = steps n (i.BuildMacro x place caller) t.0 at t.1 in
        let k = entered (site_by two.0 two.1 r n) place t.0 t.0.part.operands refl two.2 in
        let same : k.0 ≡ c =
        loaded (site_by one.0 one.1 r m) v s.0 t.0 k.0 k.1 one.2 (ap (shape_at sh) (sym is) ∙ t.1) k.2 ∙ sym count in
        (subst (λ n. shape_at sh place ≡ Some (entry_shape n)) same k.3, h)

    seeds_from : (is : List Instruction) (n : ℕ) (before : Option ℕ) → From code n is → Before code n before → Meets_seeds (entry_seeds_from before is)
    seeds_from [] n before f b = tt
    seeds_from (i.BuildMacro x place caller ∷ is) n before f b =
        with_seed n before x place caller (entry_seeds_from None is) b (from_here code n (i.BuildMacro x place caller) is f)
        (seeds_from is (n + 1) None (from_next code n (i.BuildMacro x place caller) is f) tt)
    seeds_from (i.LoadConst v ∷ is) n before f b =
        seeds_from is (n + 1) (Some (name_count v)) (from_next code n (i.LoadConst v) is f)
        (n, v, refl, from_here code n (i.LoadConst v) is f, refl)
    seeds_from (x ∷ is) n before f b = seeds_from is (n + 1) None (from_next code n x is f) tt

    pub seeds_held : Meets_seeds (entry_seeds code)
    seeds_held = seeds_from code 0 None (λ j. let q : 0 + j ≡ j = omega arith in ap (slice_get code) q) tt
