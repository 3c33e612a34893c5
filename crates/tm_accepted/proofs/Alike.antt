-- Shapes fit under other demands too, where no instruction meets what differs.
use Rattle.std.proofs.Common.{◌≡◌, ◌⊎◌, inl, inr, ℕ, zero, suc, List, [], ◌∷◌, Option, Some, None, Bool, true, false, refl, sym, ap, subst}
use Rattle.std.specs.Prelude.{slice_get, ◌&&◌, ◌||◌}
use Rattle.tm_values.specs.Val.{Val}
use Rattle.tm_syntax.specs.Entries.{names_in}
use Rattle.tm_syntax.specs.Choices.{choose}
use Rattle.tm_trees.specs.Instructions.{Instruction}
use Rattle.tm_trees.specs.Instructions.instructions as i
use Rattle.tm_shapes.specs.declared.kind.Form.{Form}
use Rattle.tm_shapes.specs.declared.kind.Form.TheVariants as forms
use Rattle.tm_shapes.specs.declared.kind.Kind.{Kind}
use Rattle.tm_shapes.specs.declared.kind.Kind.TheVariants.{Value as value, Zero as nothing, Group as group, Closure as closure, Names as names}
use Rattle.tm_shapes.specs.declared.kind.Kind.TheVariants.{One as one}
use Rattle.tm_shapes.specs.Shapes.{Shape, Shapes, shape_at, entry_shape, first_shape}
use Rattle.tm_shapes.specs.Flows.{Flow, both, ends, leads, refused, Site, are, builds, flow_of, is_closed, is_one, is_value, is_zero, next}
use Rattle.tm_shapes.specs.Flows.{build_macro, load_names, load_value, load_zero, pop, swap_over, zero_of}
use Rattle.tm_shapes.specs.Search.{Has}
use Rattle.tm_shapes.specs.Accepts.{Asked, Fits, HasSome, Readings, ReturnsFit, Seeds, all_seeds, all_values, ask_all, ask_some, ends_with}
use Rattle.tm_shapes.specs.Accepts.{has_zero, is_between, loads_zero, no_shapes, site_of, start_seed}
use Rattle.tm_accepted.proofs.Accepted.{no_shape_at}
use Rattle.tm_accepted.proofs.Chunks.{is_bare}
use Rattle.tm_accepted.proofs.Bare.{BareIn, bare_at, no_entries}

-- Two demands say the same to this instruction.
abbrev Alike : Asked → Asked → ℕ → Instruction → Type 0
Alike a b n (i.LoadConst v) = (a.read n ≡ b.read n) ⊎ (is_zero v ≡ false)
Alike a b n (i.BuildMacro x place caller) = a.enters ≡ b.enters
Alike a b n i.Return = a.returned ≡ b.returned
Alike a b n x = Unit {0}

module _ (a b : Asked) (code : List Instruction) (n : ℕ) (s : Shape) where
  abbrev one_site : Site
  one_site = site_of a code n

  abbrev other_site : Site
  other_site = site_of b code n

  zero_alike : (z : Bool) → (a.read n ≡ b.read n) ⊎ (z ≡ false) →
      choose z (λ _. load_zero one_site s) (λ _. next one_site (value ∷ s.part.operands) s)
      ≡ choose z (λ _. load_zero other_site s) (λ _. next other_site (value ∷ s.part.operands) s)
  zero_alike false h = refl
  zero_alike true (inl e) = ap (λ q. next one_site (zero_of q n s.part.operands ∷ s.part.operands) s) e
  zero_alike true (inr e) = absurd (cc e)

  names_alike : (o : Option (List (List ℕ))) → load_names o one_site s ≡ load_names o other_site s
  names_alike None = refl
  names_alike (Some xs) = refl

  abbrev loads : Site → Val → Bool → Bool → Flow
  loads at v c d =
      choose c (λ _. load_names (names_in v) at s)
      (λ _. choose d (λ _. next at (one ∷ s.part.operands) s) (λ _. load_value at v s))

  loads_alike : (v : Val) (c d : Bool) → (a.read n ≡ b.read n) ⊎ (is_zero v ≡ false) → loads one_site v c d ≡ loads other_site v c d
  loads_alike v true d h = names_alike (names_in v)
  loads_alike v false true h = refl
  loads_alike v false false h = zero_alike (is_zero v) h

  over_alike : (ks : List Kind) → swap_over one_site s ks ≡ swap_over other_site s ks
  over_alike [] = refl
  over_alike (group o ∷ ks) = refl
  over_alike (nothing q ∷ ks) = refl
  over_alike ks = refl

  swap_alike : (ks : List Kind) → pop ks (swap_over one_site s) ≡ pop ks (swap_over other_site s)
  swap_alike [] = refl
  swap_alike (k ∷ ks) = ap (λ f. choose (is_value k) (λ _. f) (λ _. refused)) (over_alike ks)

  build_alike : (place : ℕ) (ks : List Kind) → a.enters ≡ b.enters → build_macro one_site place s ks ≡ build_macro other_site place s ks
  build_alike place (names m ∷ closure ∷ ks) h =
      let f = next one_site (value ∷ ks) s in ap (λ b. choose b (λ _. both f (leads place (entry_shape m))) (λ _. f)) h
  build_alike place ks h = refl

  flow_alike : (x : Instruction) → Alike a b n x → flow_of one_site x s ≡ flow_of other_site x s
  flow_alike (i.LoadConst v) h = loads_alike v (builds one_site.rest) (is_between code n && is_one v) h
  flow_alike i.Swap h = swap_alike s.part.operands
  flow_alike (i.BuildMacro x place caller) h = build_alike place s.part.operands h
  flow_alike i.Return h = ap (λ r. choose (is_closed s && are r s.part.operands) (λ _. ends) (λ _. refused)) h
  flow_alike x h = refl

-- the same shapes
fits_alike : (a b : Asked) (code : List Instruction) (before seeds : Seeds) (shapes : Shapes) → a.left ≡ b.left →
    ((n : ℕ) (x : Instruction) → slice_get code n ≡ Some x → Alike a b n x) →
    ((k : ℕ) (e : ℕ × Shape) → slice_get seeds k ≡ Some e → shape_at shapes e.0 ≡ Some e.1) → Fits a code before shapes →
    Fits b code seeds shapes
fits_alike a b code before seeds shapes left alike starts h = record {
  long = h.long;
  starts = starts;
  steps = λ n x s at there. subst (Has shapes) (flow_alike a b code n s x (alike n x at)) (h.steps n x s at there);
  last = λ n s at there.
      let l = h.last n s at there in (l.0, subst (λ m. ends_with m s ≡ true) left l.1);
}

-- ---------------------------------------------------------------- code that loads no 0
neither : (a b : Bool) → (a || b) ≡ false → (a ≡ false) × (b ≡ false)
neither true b e = absurd (cc e)
neither false b e = (refl, e)

none_zero : (code : List Instruction) (n : ℕ) (x : Instruction) → has_zero code ≡ false → slice_get code n ≡ Some x → loads_zero x ≡ false
none_zero [] n x h e = absurd (cc e)
none_zero (y ∷ more) zero x h e =
    let one : y ≡ x = cc e in subst (λ z. loads_zero z ≡ false) one (neither (loads_zero y) (has_zero more) h).0
none_zero (y ∷ more) (suc n) x h e = none_zero more n x (neither (loads_zero y) (has_zero more) h).1 e

zeroless : (a b : Asked) (n : ℕ) (x : Instruction) → a.enters ≡ b.enters → a.returned ≡ b.returned → loads_zero x ≡ false → Alike a b n x
zeroless a b n (i.LoadConst v) e r h = inr h
zeroless a b n (i.BuildMacro x place caller) e r h = e
zeroless a b n i.Return e r h = r
zeroless a b n x e r h = tt

-- however each 0 would be read
pub fits_without : (read : Readings) (form : Form) (code : List Instruction) (shapes : Shapes) → has_zero code ≡ false →
    Fits (ask_all read form) code (all_seeds code) shapes → Fits (ask_all all_values form) code (all_seeds code) shapes
fits_without read forms.Template code shapes none h =
    let a = ask_all read forms.Template in
    let b = ask_all all_values forms.Template in
    fits_alike a b code (all_seeds code) (all_seeds code) shapes refl
    (λ n x at. zeroless a b n x refl refl (none_zero code n x none at)) h.starts h
fits_without read forms.Expression code shapes none h =
    let a = ask_all read forms.Expression in
    let b = ask_all all_values forms.Expression in
    fits_alike a b code (all_seeds code) (all_seeds code) shapes refl
    (λ n x at. zeroless a b n x refl refl (none_zero code n x none at)) h.starts h

-- ---------------------------------------------------------------- code without macros
bare_alike : (a b : Asked) (n : ℕ) (x : Instruction) → a.read n ≡ b.read n → is_bare x ≡ true → Alike a b n x
bare_alike a b n (i.LoadConst v) e h = inl e
bare_alike a b n (i.BuildMacro x place caller) e h = absurd (cc h)
bare_alike a b n i.Return e h = absurd (cc h)
bare_alike a b n x e h = tt

start_alone : (code : List Instruction) (shapes : Shapes) → shape_at shapes 0 ≡ Some first_shape → (k : ℕ) (e : ℕ × Shape) →
    slice_get start_seed k ≡ Some e → shape_at shapes e.0 ≡ Some e.1
start_alone code shapes h zero e q =
    let one : (0, first_shape) ≡ e = cc q in subst (λ (d : ℕ × Shape). shape_at shapes d.0 ≡ Some d.1) one h
start_alone code shapes h (suc k) e q = absurd (cc q)

-- nothing is reached from nowhere
from_nowhere : (a : Asked) (code : List Instruction) → HasSome a code []
from_nowhere a code = (
  no_shapes code,
  record {
    long = refl;
    starts = λ k e q. absurd (cc q);
    steps = λ n x s at there. absurd (no_shape_at code n s there);
    last = λ n s at there. absurd (no_shape_at code n s there);
  },
)

-- Where an expression's code is of no macro, all of it is reached from the start, and returns nowhere.
pub returns_anyway : (read : Readings) (form : Form) (code : List Instruction) → BareIn form code →
    HasSome (ask_all read form) code (all_seeds code) → ReturnsFit read form code
returns_anyway read forms.Template code bare some = tt
returns_anyway read forms.Expression code bare (shapes, h) =
    let a = ask_all read forms.Expression in
    let b = ask_some read 1 in (
      (
        shapes,
        fits_alike a b code (all_seeds code) start_seed shapes refl (λ n x at. bare_alike a b n x refl (bare_at code n x bare at))
            (start_alone code shapes (h.starts 0 (0, first_shape) refl)) h,
      ),
      subst (HasSome (ask_some read 0) code) (sym (no_entries None code bare)) (from_nowhere (ask_some read 0) code),
    )
