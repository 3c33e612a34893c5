-- Shapes that fit the code of a tree, with each instruction's surroundings as the structure of the
-- code says.
use Rattle.std.specs.Prelude.{◌≡◌, ℕ, List, ◌∷◌, length, Option, Some, None, slice_get, true}
use Rattle.tm_trees.specs.Instructions.{Instruction}
use Rattle.tm_syntax.specs.Blocks.{StreamTree, statements, expression}
use Rattle.tm_syntax.specs.Fragments.{Fragment}
use Rattle.tm_shapes.specs.declared.kind.Form.{Form}
use Rattle.tm_shapes.specs.declared.kind.Form.TheVariants as forms
use Rattle.tm_shapes.specs.declared.kind.Kind.{Kind}
use Rattle.tm_shapes.specs.declared.kind.Kind.TheVariants.{Group as group}
use Rattle.tm_shapes.specs.Shapes.{Shape, Shapes, shape_at}
use Rattle.tm_shapes.specs.Flows.{flow_of}
use Rattle.tm_shapes.specs.Search.{Has}
use Rattle.tm_shapes.specs.Accepts.{Readings, all_seeds, ask_all, ends_with, left_by, no_shapes}
use Rattle.tm_accepted.specs.Sites.{Piece, row_start, pieces, site_by}

-- the form of a tree's code
abbrev pub form_of : StreamTree → Form
form_of (statements body) = forms.Template
form_of (expression x) = forms.Expression

-- The shapes meet the rules, with each 0 read in the given way, and each instruction in the piece
-- that the fragment says. A value goes into a group only by a row.
pub record Laid (read : Readings) (form : Form) (c : Fragment) (code : List Instruction) (shapes : Shapes) : Type 0 where
  pub long : length shapes ≡ length (no_shapes code)
  pub starts : (k : ℕ) (e : ℕ × Shape) → slice_get (all_seeds code) k ≡ Some e → shape_at shapes e.0 ≡ Some e.1
  pub steps : (n : ℕ) (x : Instruction) (p : Piece) (s : Shape) → slice_get code n ≡ Some x → slice_get (pieces c) n ≡ Some p →
      shape_at shapes n ≡ Some s → Has shapes (flow_of (site_by p (read n) (ask_all read form).returned n) x s)
  pub last : (n : ℕ) (s : Shape) → slice_get code n ≡ None → shape_at shapes n ≡ Some s →
      (n ≡ length code) × (ends_with (left_by form) s ≡ true)
  pub rows : (n : ℕ) (s : Shape) → slice_get (pieces c) n ≡ Some row_start → shape_at shapes n ≡ Some s →
      (k : Kind) × (o : Option ℕ) × (ks : List Kind) × (s.part.operands ≡ k ∷ group o ∷ ks)
