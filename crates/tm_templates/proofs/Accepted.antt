-- All that templates run is accepted.
use Rattle.std.proofs.Common.{◌≡◌, ℕ, List, [], ◌∷◌, refl, subst, Option, Some, None, Bool, true, false, cond}
use Rattle.std.specs.BTreeMap.{is_at}
use Rattle.std.specs.List.{AllByRecursion}
use Rattle.std.specs.Ordering.{match_ordering}
use Rattle.std.specs.declared.cmp.Ordering.{Ordering}
use Rattle.std.specs.declared.cmp.Ordering.TheVariants.{Less, Equal, Greater}
use Rattle.tm_trees.specs.Instructions.{Instruction}
use Rattle.tm_trees.specs.Trees.{Tree}
use Rattle.tm_trees.specs.Trees.tree_forms as trees
use Rattle.tm_syntax.specs.Blocks.{FoundBlock, StreamTree, code_of, statements, stream_blocks, stream_of}
use Rattle.tm_syntax.specs.CacheNumbers.{numbered}
use Rattle.tm_syntax.specs.Named.{Named, by_name, find, name_cmp, put, put_each, without}
use Rattle.tm_shapes.specs.Accepts.{accepts}
use Rattle.tm_shapes.specs.BlockCodes.{compiled_blocks}
use Rattle.tm_shapes.specs.Verified.{IsAccepted}
use Rattle.tm_shapes.specs.declared.code.BlockCode.{BlockCode}
use Rattle.tm_shapes.specs.declared.kind.Form.{Form}
use Rattle.tm_shapes.specs.declared.kind.Form.TheVariants as forms
use Rattle.tm_accepted.specs.Laid.{form_of}
use Rattle.tm_templates.specs.Templates.{AllAccepted, AreAccepted, Compiled, EachAccepted, block_codes, code_or_none, part_code}

-- ---------------------------------------------------------------- maps by name
module _ {A : Type 0} (Is : A → Type 0) where
  abbrev Each : Named A → Type 0
  Each ps = AllByRecursion (λ (p : List ℕ × A). Is p.1) ps

  by_order : (o : Ordering) (x y z : Named A) → Each x → Each y → Each z → Each (match_ordering o x y z)
  by_order Less x y z a b c = a
  by_order Equal x y z a b c = b
  by_order Greater x y z a b c = c

  pub put_all : (x : List ℕ) (a : A) (ps : Named A) → Is a → Each ps → Each (put x a ps)
  put_all x a [] is all = (is, tt)
  put_all x a (p ∷ ps) is all =
      by_order (name_cmp x p.0) ((x, a) ∷ p ∷ ps) ((p.0, a) ∷ ps) (p ∷ put x a ps) (is, all) (is, all.1) (all.0, put_all x a ps is all.1)

  pub put_each_all : (ps qs : Named A) → Each ps → Each qs → Each (put_each ps qs)
  put_each_all [] qs all given = given
  put_each_all (p ∷ ps) qs all given = put_each_all ps (put p.0 p.1 qs) all.1 (put_all p.0 p.1 qs all.0 given)

  by_cond : (b : Bool) (x y : Named A) → Each x → Each y → Each (cond b x y)
  by_cond true x y a b = a
  by_cond false x y a b = b

  pub without_all : (x : List ℕ) (ps : Named A) → Each ps → Each (without x ps)
  without_all x [] all = all
  without_all x (p ∷ ps) all = by_cond (is_at (name_cmp x) p.0) ps (p ∷ without x ps) all.1 (all.0, without_all x ps all.1)

  found_by : (b : Bool) (p : A) (rest : Option A) (a : A) → Is p → (rest ≡ Some a → Is a) → cond b (Some p) rest ≡ Some a → Is a
  found_by true p rest a is more e = subst Is (cc e) is
  found_by false p rest a is more e = more e

  pub find_all : (x : List ℕ) (ps : Named A) (a : A) → Each ps → find x ps ≡ Some a → Is a
  find_all x [] a all e = absurd (cc e)
  find_all x (p ∷ ps) a all e = found_by (is_at (name_cmp x) p.0) p.1 (find x ps) a all.0 (find_all x ps a all.1) e

-- ---------------------------------------------------------------- trees
module _ (law : (tree : StreamTree) → accepts (form_of tree) (code_of tree) ≡ true) where
  blocks_all : (bs : Named FoundBlock) → AllAccepted (compiled_blocks bs)
  blocks_all [] = tt
  blocks_all (b ∷ bs) = ((forms.Template, law (statements b.1.body)), blocks_all bs)

  pub tree_blocks : (tree : Tree) → AllAccepted (block_codes tree)
  tree_blocks tree =
      put_each_all (λ (b : BlockCode). IsAccepted b.code) (compiled_blocks (stream_blocks (stream_of tree))) []
      (blocks_all (stream_blocks (stream_of tree))) tt

  pub tree_root : (tree : Tree) → IsAccepted (code_of (stream_of tree))
  tree_root tree = (form_of (stream_of tree), law (stream_of tree))

-- ---------------------------------------------------------------- parts
found_accepted : (o : Option BlockCode) → ((b : BlockCode) → o ≡ Some b → IsAccepted b.code) → IsAccepted (code_or_none o)
found_accepted None all = (forms.Template, refl)
found_accepted (Some b) all = all b refl

pub parts_accepted : (t : Compiled) → IsAccepted t.root → AllAccepted t.blocks → AreAccepted t
parts_accepted t root blocks None = root
parts_accepted t root blocks (Some x) =
    found_accepted (find x t.blocks) (λ b e. find_all (λ (b : BlockCode). IsAccepted b.code) x t.blocks b blocks e)

-- ---------------------------------------------------------------- templates by name
pub put_accepted : (x : List ℕ) (a : Compiled) (ps : Named Compiled) → AreAccepted a → EachAccepted ps → EachAccepted (put x a ps)
put_accepted x a ps is all = put_all AreAccepted x a ps is all

pub without_accepted : (x : List ℕ) (ps : Named Compiled) → EachAccepted ps → EachAccepted (without x ps)
without_accepted x ps all = without_all AreAccepted x ps all
