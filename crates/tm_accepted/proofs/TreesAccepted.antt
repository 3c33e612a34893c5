-- The code of every tree is accepted.
use Rattle.std.proofs.Common.{◌≡◌, ℕ, zero, suc, ◌≤◌, List, [], ◌∷◌, length, Some, None, Bool, true, false, refl, sym, ap, ◌∙◌, subst, arith}
use Rattle.std.specs.Prelude.{slice_get, not, ◌&&◌}
use Rattle.tm_trees.specs.Instructions.{Instruction}
use Rattle.tm_trees.specs.Instructions.instructions as i
use Rattle.tm_syntax.specs.Blocks.{StreamTree, fragment_of}
use Rattle.tm_syntax.specs.CacheNumbers.{numbered}
use Rattle.tm_syntax.specs.Fragments.{assembled, whole_labels}
use Rattle.tm_shapes.specs.declared.kind.Form.{Form}
use Rattle.tm_shapes.specs.declared.kind.Form.TheVariants as forms
use Rattle.tm_shapes.specs.declared.kind.Kind.{Kind}
use Rattle.tm_shapes.specs.declared.kind.Kind.TheVariants.{Value as value, Group as group}
use Rattle.tm_shapes.specs.Shapes.{Shape, Shapes, shape_at, first_shape}
use Rattle.tm_shapes.specs.Flows.{adds_one, flow_of, in_row}
use Rattle.tm_shapes.specs.Placed.{is_placed}
use Rattle.tm_shapes.specs.Search.{Has}
use Rattle.tm_shapes.specs.Accepts.{Fits, HasSome, Readings, accepts, all_seeds, all_values, ask_all, ends_with, fits, groups_in}
use Rattle.tm_shapes.specs.Accepts.{has_zero, left_by, read_groups, site_of}
use Rattle.tm_accepted.specs.Laid.{Laid, form_of}
use Rattle.tm_accepted.specs.Sites.{Piece, ordinary, closure_of_macro, names_of_macro, row_start, one_of_row, pieces, rest_of, site_by}
use Rattle.tm_accepted.proofs.Accepted.{accepted, rules_fit}
use Rattle.tm_accepted.proofs.Alike.{fits_without, returns_anyway}
use Rattle.tm_accepted.proofs.Bare.{BareIn, tree_bare}
use Rattle.tm_accepted.proofs.Discovers.{takes_fit}
use Rattle.tm_accepted.proofs.Made.{item_at, within, no_more, unknown_long, tree_shapes}
use Rattle.tm_accepted.proofs.Numbers.{same_flow, same_long, same_seeds, tree_made}
use Rattle.tm_accepted.proofs.Pieces.{as_many}
use Rattle.tm_accepted.proofs.Placing.{tree_placed}
use Rattle.tm_accepted.proofs.Sited.{flow_same, made_in_place}

-- ---------------------------------------------------------------- what is asked
all_enter : (read : Readings) (form : Form) → (ask_all read form).enters ≡ true
all_enter read forms.Template = refl
all_enter read forms.Expression = refl

all_read : (read : Readings) (form : Form) → (ask_all read form).read ≡ read
all_read read forms.Template = refl
all_read read forms.Expression = refl

all_left : (read : Readings) (form : Form) → left_by form ≡ (ask_all read form).left
all_left read forms.Template = refl
all_left read forms.Expression = refl

past_end : {A : Type 0} (xs : List A) (n : ℕ) → length xs ≤ n → slice_get xs n ≡ None
past_end [] n h = refl
past_end (x ∷ xs) zero h = absurd (omega (arith, h))
past_end (x ∷ xs) (suc n) h = past_end xs n (omega (arith, h))

-- where 1 and `Add` stand next a row begins
row_piece : (p : Piece) → (adds_one (rest_of p) && not false) ≡ true → p ≡ row_start
row_piece ordinary h = absurd (cc h)
row_piece closure_of_macro h = absurd (cc h)
row_piece names_of_macro h = absurd (cc h)
row_piece row_start h = refl
row_piece one_of_row h = absurd (cc h)

-- ---------------------------------------------------------------- shapes that fit where each instruction stands
module _ (tree : StreamTree) (read : Readings) (shapes : Shapes)
    (laid : Laid read (form_of tree) (fragment_of tree) (assembled (fragment_of tree)) shapes) where
  abbrev before : List Instruction
  before = assembled (fragment_of tree)

  abbrev stream : List Instruction
  stream = numbered before

  abbrev its_form : Form
  its_form = form_of tree

  as_long : length stream ≡ length before
  as_long = same_long [] [] before

  piece_of : (n : ℕ) (x : Instruction) → slice_get stream n ≡ Some x → (p : Piece) × (slice_get (pieces (fragment_of tree)) n ≡ Some p)
  piece_of n x at =
      let many = as_many (whole_labels (fragment_of tree)) 0 (fragment_of tree) in
      item_at (pieces (fragment_of tree)) n (omega (arith, within stream n x at, as_long, many))

  real_steps : (n : ℕ) (x : Instruction) (s : Shape) → slice_get stream n ≡ Some x → shape_at shapes n ≡ Some s →
      Has shapes (flow_of (site_of (ask_all read its_form) stream n) x s)
  real_steps n x s at there =
      let a = ask_all read its_form in
      let p = piece_of n x at in
      let y = item_at before n (omega (arith, within stream n x at, as_long)) in
      let old = laid.steps n y.0 p.0 s y.1 p.1 there in
      let site = site_by p.0 (read n) a.returned n in
      let renumbered : Has shapes (flow_of site x s) = subst (Has shapes) (same_flow [] [] before n y.0 x site s y.1 at) old in
      let asked : Has shapes (flow_of (site_by p.0 (a.read n) a.returned n) x s) =
      subst (λ (r : Readings). Has shapes (flow_of (site_by p.0 (r n) a.returned n) x s)) (sym (all_read read its_form)) renumbered in
      let in_place = made_in_place stream (pieces (fragment_of tree)) (tree_made tree) n x p.0 at p.1 in
      subst (Has shapes) (sym (flow_same a stream n p.0 s x in_place (all_enter read its_form))) asked

  real_fits : Fits (ask_all read its_form) stream (all_seeds stream) shapes
  real_fits = record {
    long = omega (arith, laid.long, unknown_long before, unknown_long stream, as_long);
    starts = λ k e q. laid.starts k e (sym (ap (λ es. slice_get ((0, first_shape) ∷ es) k) (same_seeds [] [] None before)) ∙ q);
    steps = real_steps;
    last = λ n s at there.
        let l = laid.last n s (past_end before n (omega (arith, no_more stream n at, as_long))) there in
        (l.0 ∙ sym as_long, subst (λ m. ends_with m s ≡ true) (all_left read its_form) l.1);
  }

  -- a value goes by a row into a group alone
  never : (n : ℕ) (s : Shape) (k : Kind) (ks : List Kind) → slice_get stream n ≡ Some i.Swap →
      in_row (site_of (ask_all read its_form) stream n) ≡ true → shape_at shapes n ≡ Some s → s.part.operands ≡ k ∷ value ∷ ks → ⊥
  never n s k ks at row there is =
      let p = piece_of n i.Swap at in
      let in_place = made_in_place stream (pieces (fragment_of tree)) (tree_made tree) n i.Swap p.0 at p.1 in
      let begins : p.0 ≡ row_start = row_piece p.0 (sym in_place ∙ row) in
      let g = laid.rows n s (p.1 ∙ ap (λ x. Some x) begins) there in
      let same : k ∷ value ∷ ks ≡ g.0 ∷ group g.1 ∷ g.2 = sym is ∙ g.3 in
      cc same

-- ---------------------------------------------------------------- all of it
with_zero : (form : Form) (code : List Instruction) → is_placed code ≡ true → has_zero code ≡ true →
    fits (read_groups (groups_in code)) form code ≡ true → accepts form code ≡ true
with_zero form code placed some h = rw (placed, some, h) refl

accepted_by : (form : Form) (code : List Instruction) (read : Readings) (shapes : Shapes) (b : Bool) → has_zero code ≡ b →
    is_placed code ≡ true → BareIn form code → Fits (ask_all read form) code (all_seeds code) shapes →
    HasSome (ask_all (read_groups (groups_in code)) form) code (all_seeds code) → accepts form code ≡ true
accepted_by form code read shapes true e placed bare h some =
    let taken = read_groups (groups_in code) in
    with_zero form code placed e (rules_fit taken form code (some, returns_anyway taken form code bare some))
accepted_by form code read shapes false e placed bare h some =
    let values : HasSome (ask_all all_values form) code (all_seeds code) = (shapes, fits_without read form code shapes e h) in
    accepted form code placed (values, returns_anyway all_values form code bare values)

pub tree_accepted : (tree : StreamTree) → accepts (form_of tree) (numbered (assembled (fragment_of tree))) ≡ true
tree_accepted tree =
    let found = tree_shapes tree in
    let code = numbered (assembled (fragment_of tree)) in
    let form = form_of tree in
    let fit : Fits (ask_all found.0 form) code (all_seeds code) found.1 = real_fits tree found.0 found.1 found.4 in
    accepted_by form code found.0 found.1 (has_zero code) refl (tree_placed tree) (tree_bare tree) fit
    (takes_fit code found.0 form found.1 found.2 found.3 (never tree found.0 found.1 found.4) fit)
