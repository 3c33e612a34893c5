-- What is put for targets, in the program's representation.
use Rattle.std.proofs.Common.{◌≡◌, ℕ, List, [], ◌∷◌, length, refl, sym, ap, ◌∙◌, arith}
use denote.Hole.Carrier.{hidden}
use Rattle.tm_trees.specs.Trees.{AssignmentTarget}
use Rattle.tm_trees.specs.Trees.{targets, targets_shape}
use Rattle.tm_trees.specs.Trees.target_forms as t
use Rattle.tm_trees.specs.Instructions.instructions as i
use Rattle.tm_syntax.specs.Code.{target_code, targets_code, count_targets}
use Rattle.tm_generator.specs.Building.{Builder, put, with_one}
use Rattle.tm_generator.proofs.PutExpressions.{more, no_more}

count-targets : (xs : List AssignmentTarget) → count_targets (targets xs) ≡ length xs
unfolding hidden targets targets_shape
count-targets [] = refl
count-targets (x ∷ xs) = omega (arith, count-targets xs)

put-unpack : (b : Builder) (ts : List AssignmentTarget) →
    put (target_code (t.Unpack ts)) b ≡ put (targets_code (targets ts)) (with_one (i.UnpackList (count_targets (targets ts))) b)
unfolding hidden targets
put-unpack b ts = refl

pub made-unpack : (b m1 m2 : Builder) (n : ℕ) (ts : List AssignmentTarget) → n ≡ length ts → m1 ≡ with_one (i.UnpackList n) b →
    m2 ≡ put (targets_code (targets ts)) m1 → m2 ≡ put (target_code (t.Unpack ts)) b
made-unpack b m1 m2 n ts k p q =
    q ∙ ap {B = Builder} (λ m. put (targets_code (targets ts)) m) (p
    ∙ ap {B = Builder} (λ j. with_one (i.UnpackList j) b) (k ∙ sym (count-targets ts))) ∙ sym (put-unpack b ts)

put-targets-nil : (b : Builder) → put (targets_code (targets [])) b ≡ b
unfolding hidden targets targets_shape
put-targets-nil b = refl

put-targets-cons : (b : Builder) (x : AssignmentTarget) (xs : List AssignmentTarget) →
    put (targets_code (targets (x ∷ xs))) b ≡ put (targets_code (targets xs)) (put (target_code x) b)
unfolding hidden targets targets_shape
put-targets-cons b x xs = refl

pub more-targets : (all rest : List AssignmentTarget) (x : AssignmentTarget) (m m1 goal : Builder) → all ≡ x ∷ rest →
    m1 ≡ put (target_code x) m → put (targets_code (targets all)) m ≡ goal → put (targets_code (targets rest)) m1 ≡ goal
more-targets = more target_code (λ xs. targets_code (targets xs)) put-targets-cons

pub no_more-targets : (rest : List AssignmentTarget) (m goal : Builder) → rest ≡ [] → put (targets_code (targets rest)) m ≡ goal → m ≡ goal
no_more-targets = no_more target_code (λ xs. targets_code (targets xs)) put-targets-nil
