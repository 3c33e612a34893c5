-- The code of an expression has no macro, nor the end of one.
use Rattle.std.proofs.Common.{◌≡◌, ℕ, zero, suc, ◌+◌, List, [], ◌∷◌, ◌++◌, Option, Some, None, true, false, refl, subst}
use Rattle.std.specs.Prelude.{slice_get}
use Rattle.tm_trees.specs.Instructions.{Instruction}
use Rattle.tm_trees.specs.Instructions.instructions as i
use Rattle.tm_syntax.specs.declared.jump.JumpKind.{JumpKind}
use Rattle.tm_syntax.specs.declared.jump.JumpKind.TheVariants as kinds
use Rattle.tm_syntax.specs.Blocks.{StreamTree, statements, expression, fragment_of}
use Rattle.tm_syntax.specs.CacheNumbers.{joined, numbered_from, numbered}
use Rattle.tm_syntax.specs.Code.{expr_code}
use Rattle.tm_syntax.specs.Entries.{name_count}
use Rattle.tm_syntax.specs.Fragments.{Fragment, straight, ◌⨾◌, jump_out, bounded, fork, looped, break_loop, next_round, declares}
use Rattle.tm_syntax.specs.Fragments.{beyond, Labels, outward, inward, jump, assemble, whole_labels, assembled}
use Rattle.tm_shapes.specs.declared.kind.Form.{Form}
use Rattle.tm_shapes.specs.declared.kind.Form.TheVariants as forms
use Rattle.tm_shapes.specs.Accepts.{entry_seeds_from}
use Rattle.tm_accepted.specs.Laid.{form_of}
use Rattle.tm_accepted.proofs.Chunks.{is_bare, AllBare, TidyBy}
use Rattle.tm_accepted.proofs.Tidied.{expr_tidy}

bare_both : (is js : List Instruction) → AllBare is → AllBare js → AllBare (is ++ js)
bare_both [] js h k = k
bare_both (x ∷ is) js h k = (h.0, bare_both is js h.1 k)

bare_jump : (j : JumpKind) (n : ℕ) → AllBare (jump j n ∷ [])
bare_jump kinds.IfFalse n = (refl, tt)
bare_jump kinds.IfFalseOrPop n = (refl, tt)
bare_jump kinds.IfTrueOrPop n = (refl, tt)

-- code that declares no macro
all_bare : (c : Fragment) → TidyBy false c → (l : Labels) (pc : ℕ) → AllBare (assemble l pc c)
all_bare (straight is) h l pc = h.2
all_bare (c ⨾ d) h l pc =
    bare_both (assemble l pc c) (assemble l (beyond pc c) d) (all_bare c h.0 l pc) (all_bare d h.1 l (beyond pc c))
all_bare (jump_out j) h l pc = bare_jump j l.out
all_bare (bounded c) h l pc = all_bare c h (outward (beyond pc c) l) pc
all_bare (fork c d) h l pc =
    let second = beyond pc c + 1 in
    bare_both (assemble (outward second l) pc c) (i.Jump (beyond second d) ∷ assemble l second d) (all_bare c h.0 (outward second l) pc)
    (refl, all_bare d h.1 l second)
all_bare (looped g c d) h l pc =
    let again = pc + 1 in
    let after = beyond (again + 1) c + 1 in (
      refl,
      (
        refl,
        bare_both (assemble (inward again after l) (again + 1) c) (i.Jump again ∷ assemble l after d)
            (all_bare c h.0 (inward again after l) (again + 1)) (refl, all_bare d h.1 l after),
      ),
    )
all_bare break_loop h l pc = (refl, tt)
all_bare next_round h l pc = (refl, tt)
all_bare (declares m c) h l pc = absurd (cc h.0)

bare_numbered : (fs ts : List (List ℕ)) (is : List Instruction) → AllBare is → AllBare (numbered_from fs ts is)
bare_numbered fs ts [] h = tt
bare_numbered fs ts (i.ApplyFilter x n k ∷ is) h = (refl, bare_numbered (joined x fs) ts is h.1)
bare_numbered fs ts (i.PerformTest x n k ∷ is) h = (refl, bare_numbered fs (joined x ts) is h.1)
bare_numbered fs ts (x ∷ is) h = (h.0, bare_numbered fs ts is h.1)

pub bare_at : (code : List Instruction) (n : ℕ) (x : Instruction) → AllBare code → slice_get code n ≡ Some x → is_bare x ≡ true
bare_at [] n x h e = absurd (cc e)
bare_at (y ∷ more) zero x h e = let one : y ≡ x = cc e in subst (λ z. is_bare z ≡ true) one h.0
bare_at (y ∷ more) (suc n) x h e = bare_at more n x h.1 e

pub no_entries : (before : Option ℕ) (code : List Instruction) → AllBare code → entry_seeds_from before code ≡ []
no_entries before [] h = refl
no_entries before (i.BuildMacro x place caller ∷ more) h = absurd (cc h.0)
no_entries before (i.LoadConst v ∷ more) h = no_entries (Some (name_count v)) more h.1
no_entries before (x ∷ more) h = no_entries None more h.1

abbrev pub BareIn : Form → List Instruction → Type 0
BareIn forms.Template code = Unit {0}
BareIn forms.Expression code = AllBare code

pub tree_bare : (tree : StreamTree) → BareIn (form_of tree) (numbered (assembled (fragment_of tree)))
tree_bare (statements body) = tt
tree_bare (expression x) =
    let c = expr_code x in bare_numbered [] [] (assembled c) (all_bare c (expr_tidy false x) (whole_labels c) 0)
