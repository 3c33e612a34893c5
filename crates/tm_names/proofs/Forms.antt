-- The forms of a tree as the program holds them.
use Rattle.std.proofs.Common.{◌≡◌, ℕ, ◌+◌, ◌<◌, List, [], ◌∷◌, length, drop, refl, sym, ap, ◌∙◌, arith, drop-cons}
use Rattle.std.specs.Prelude.{get_or, Bool, true, false, cond, Option, Some, None}
use denote.Hole.Carrier.{hidden}
use Rattle.tm_trees.specs.Trees.{UnaryOperator, BinaryOperator, Expr, Pair, Argument, Keyword, Condition, Comparison, Step}
use Rattle.tm_trees.specs.Trees.{hidden_expr, exprs, pairs, arguments, keywords, steps, conditions, comparisons, exprs_shape, pairs_shape}
use Rattle.tm_trees.specs.Trees.{arguments_shape, keywords_shape, steps_shape, conditions_shape, comparisons_shape, targets, targets_shape}
use Rattle.tm_trees.specs.Trees.{statements, statements_shape}
use Rattle.tm_trees.specs.Trees.{AssignmentTarget, Stmt}
use Rattle.tm_trees.specs.Trees.expr_forms as e
use Rattle.tm_trees.specs.Trees.argument_forms as a
use Rattle.tm_trees.specs.Trees.keyword_forms as k
use Rattle.tm_trees.specs.Trees.step_forms as s
use Rattle.tm_syntax.specs.Names.{Walk, name_of, read_first, walk_expr, walk_exprs, walk_pairs, walk_argument, walk_arguments, walk_keyword}
use Rattle.tm_syntax.specs.Names.{walk_keywords, walk_conditions, walk_step, walk_steps, walk_comparisons}
use Rattle.tm_syntax.specs.Names.{attribute_of, dot, dotted, dotted_on, method_of}
use Rattle.tm_syntax.specs.Names.{walk, walk_all, walk_target, walk_targets}
use Rattle.tm_syntax.specs.Names.{read, read_as, read_chain, with_member}

-- ---------------------------------------------------------------- expressions
pub walk-unary : (n : Bool) (op : UnaryOperator) (x : Expr) (w : Walk) → walk_expr n (e.Unary op x) w ≡ walk_expr n x w
unfolding hidden hidden_expr
walk-unary n op x w = refl

pub walk-chain : (n : Bool) (x : Expr) (ss : List Step) (w : Walk) →
    walk_expr n (e.Chain x ss) w ≡ walk_steps n (steps ss) (read_first n (name_of x) (steps ss) w (walk_expr n x w))
unfolding hidden hidden_expr
walk-chain n x ss w = refl

pub walk-conditional : (n : Bool) (x : Expr) (cs : List Condition) (w : Walk) →
    walk_expr n (e.Conditional x cs) w ≡ walk_conditions n (conditions cs) (walk_expr n x w)
unfolding hidden hidden_expr
walk-conditional n x cs w = refl

pub walk-plain : (n : Bool) (x : Expr) (w : Walk) → walk_argument n (a.Plain x) w ≡ walk_expr n x w
unfolding hidden hidden_expr
walk-plain n x w = refl

pub walk-spread : (n : Bool) (x : Expr) (w : Walk) → walk_argument n (a.Spread x) w ≡ walk_expr n x w
unfolding hidden hidden_expr
walk-spread n x w = refl

pub walk-named : (n : Bool) (name : List ℕ) (x : Expr) (w : Walk) → walk_keyword n (k.Named name x) w ≡ walk_expr n x w
unfolding hidden hidden_expr
walk-named n name x w = refl

pub walk-spread_keywords : (n : Bool) (x : Expr) (w : Walk) → walk_keyword n (k.Spread x) w ≡ walk_expr n x w
unfolding hidden hidden_expr
walk-spread_keywords n x w = refl

pub walk-item : (n : Bool) (x : Expr) (w : Walk) → walk_step n (s.Item x) w ≡ walk_expr n x w
unfolding hidden hidden_expr
walk-item n x w = refl

pub walk-slice : (n : Bool) (x y z : Expr) (w : Walk) →
    walk_step n (s.Slice x y z) w ≡ walk_expr n z (walk_expr n y (walk_expr n x w))
unfolding hidden hidden_expr
walk-slice n x y z w = refl

pub walk-binary : (n : Bool) (op : BinaryOperator) (x : Expr) (w : Walk) → walk_step n (s.Binary op x) w ≡ walk_expr n x w
unfolding hidden hidden_expr
walk-binary n op x w = refl

pub walk-compare : (n : Bool) (op : BinaryOperator) (x : Expr) (cs : List Comparison) (w : Walk) →
    walk_step n (s.Compare op x cs) w ≡ walk_comparisons n (comparisons cs) (walk_expr n x w)
unfolding hidden hidden_expr
walk-compare n op x cs w = refl

pub walk-and : (n : Bool) (x : Expr) (w : Walk) → walk_step n (s.And x) w ≡ walk_expr n x w
unfolding hidden hidden_expr
walk-and n x w = refl

pub walk-or : (n : Bool) (x : Expr) (w : Walk) → walk_step n (s.Or x) w ≡ walk_expr n x w
unfolding hidden hidden_expr
walk-or n x w = refl

pub ruleset forms = (walk-plain, walk-spread, walk-spread_keywords, walk-item, walk-and, walk-or)

-- one part of a form after another
pub made-chain : (n : Bool) (x : Expr) (ss : List Step) (w w1 w2 : Walk) →
    w1 ≡ read_first n (name_of x) (steps ss) w (walk_expr n x w) → w2 ≡ walk_steps n (steps ss) w1 → w2 ≡ walk_expr n (e.Chain x ss) w
made-chain n x ss w w1 w2 p q = q ∙ ap {B = Walk} (λ m. walk_steps n (steps ss) m) p ∙ sym (walk-chain n x ss w)

pub made-conditional : (n : Bool) (x : Expr) (cs : List Condition) (w w1 w2 : Walk) → w1 ≡ walk_expr n x w →
    w2 ≡ walk_conditions n (conditions cs) w1 → w2 ≡ walk_expr n (e.Conditional x cs) w
made-conditional n x cs w w1 w2 p q = q ∙ ap {B = Walk} (λ m. walk_conditions n (conditions cs) m) p ∙ sym (walk-conditional n x cs w)

pub made-compare : (n : Bool) (op : BinaryOperator) (x : Expr) (cs : List Comparison) (w w1 w2 : Walk) → w1 ≡ walk_expr n x w →
    w2 ≡ walk_comparisons n (comparisons cs) w1 → w2 ≡ walk_step n (s.Compare op x cs) w
made-compare n op x cs w w1 w2 p q = q ∙ ap {B = Walk} (λ m. walk_comparisons n (comparisons cs) m) p ∙ sym (walk-compare n op x cs w)

pub two : (n : Bool) (x y : Expr) (w w1 w2 : Walk) → w1 ≡ walk_expr n x w → w2 ≡ walk_expr n y w1 → w2 ≡ walk_expr n y (walk_expr n x w)
two n x y w w1 w2 p q = q ∙ ap {B = Walk} (λ m. walk_expr n y m) p

pub made-slice : (n : Bool) (x y z : Expr) (w w1 w2 w3 : Walk) → w1 ≡ walk_expr n x w → w2 ≡ walk_expr n y w1 → w3 ≡ walk_expr n z w2 →
    w3 ≡ walk_step n (s.Slice x y z) w
made-slice n x y z w w1 w2 w3 p q r = r ∙ ap {B = Walk} (λ m. walk_expr n z m) (two n x y w w1 w2 p q) ∙ sym (walk-slice n x y z w)

-- ---------------------------------------------------------------- rows
pub next : {X : Type 0} → (xs : List X) (k : ℕ) (x : X) → k < length xs → x ≡ get_or xs k x → drop k xs ≡ x ∷ drop (k + 1) xs
next xs k x lt d = grind (arith, drop-cons xs k x lt, d)

-- one more of a row, and no more
module _ {X : Type 0} (one : X → Walk → Walk) (row : List X → Walk → Walk) where
  pub more : ((w : Walk) (x : X) (xs : List X) → row (x ∷ xs) w ≡ row xs (one x w)) →
      (all rest : List X) (x : X) (w w1 goal : Walk) → all ≡ x ∷ rest → w1 ≡ one x w → row all w ≡ goal → row rest w1 ≡ goal
  more cons all rest x w w1 goal left p g =
      ap {B = Walk} (λ b. row rest b) p ∙ sym (cons w x rest) ∙ ap {B = Walk} (λ l. row l w) (sym left) ∙ g

  pub no_more : ((w : Walk) → row [] w ≡ w) → (rest : List X) (w goal : Walk) → rest ≡ [] → row rest w ≡ goal → w ≡ goal
  no_more nil rest w goal none g = sym (nil w) ∙ ap {B = Walk} (λ l. row l w) (sym none) ∙ g

exprs-nil : (n : Bool) (w : Walk) → walk_exprs n (exprs []) w ≡ w
unfolding hidden exprs exprs_shape
exprs-nil n w = refl

exprs-cons : (n : Bool) (w : Walk) (x : Expr) (xs : List Expr) → walk_exprs n (exprs (x ∷ xs)) w ≡ walk_exprs n (exprs xs) (walk_expr n x w)
unfolding hidden exprs exprs_shape
exprs-cons n w x xs = refl

pub more-exprs : (n : Bool) (all rest : List Expr) (x : Expr) (w w1 goal : Walk) → all ≡ x ∷ rest → w1 ≡ walk_expr n x w →
    walk_exprs n (exprs all) w ≡ goal → walk_exprs n (exprs rest) w1 ≡ goal
more-exprs n = more (λ x w. walk_expr n x w) (λ xs w. walk_exprs n (exprs xs) w) (exprs-cons n)

pub no_more-exprs : (n : Bool) (rest : List Expr) (w goal : Walk) → rest ≡ [] → walk_exprs n (exprs rest) w ≡ goal → w ≡ goal
no_more-exprs n = no_more (λ x w. walk_expr n x w) (λ xs w. walk_exprs n (exprs xs) w) (exprs-nil n)

pairs-nil : (n : Bool) (w : Walk) → walk_pairs n (pairs []) w ≡ w
unfolding hidden pairs pairs_shape
pairs-nil n w = refl

pairs-cons : (n : Bool) (w : Walk) (x : Pair) (xs : List Pair) → walk_pairs n (pairs (x ∷ xs)) w ≡ walk_pairs n (pairs xs) (walk_expr n x.value (walk_expr n x.key w))
unfolding hidden pairs pairs_shape
pairs-cons n w x xs = refl

pub more-pairs : (n : Bool) (all rest : List Pair) (x : Pair) (w w1 goal : Walk) → all ≡ x ∷ rest → w1 ≡ walk_expr n x.value (walk_expr n x.key w) →
    walk_pairs n (pairs all) w ≡ goal → walk_pairs n (pairs rest) w1 ≡ goal
more-pairs n = more (λ x w. walk_expr n x.value (walk_expr n x.key w)) (λ xs w. walk_pairs n (pairs xs) w) (pairs-cons n)

pub no_more-pairs : (n : Bool) (rest : List Pair) (w goal : Walk) → rest ≡ [] → walk_pairs n (pairs rest) w ≡ goal → w ≡ goal
no_more-pairs n = no_more (λ x w. walk_expr n x.value (walk_expr n x.key w)) (λ xs w. walk_pairs n (pairs xs) w) (pairs-nil n)

arguments-nil : (n : Bool) (w : Walk) → walk_arguments n (arguments []) w ≡ w
unfolding hidden arguments arguments_shape
arguments-nil n w = refl

arguments-cons : (n : Bool) (w : Walk) (x : Argument) (xs : List Argument) → walk_arguments n (arguments (x ∷ xs)) w ≡ walk_arguments n (arguments xs) (walk_argument n x w)
unfolding hidden arguments arguments_shape
arguments-cons n w x xs = refl

pub more-arguments : (n : Bool) (all rest : List Argument) (x : Argument) (w w1 goal : Walk) → all ≡ x ∷ rest → w1 ≡ walk_argument n x w →
    walk_arguments n (arguments all) w ≡ goal → walk_arguments n (arguments rest) w1 ≡ goal
more-arguments n = more (λ x w. walk_argument n x w) (λ xs w. walk_arguments n (arguments xs) w) (arguments-cons n)

pub no_more-arguments : (n : Bool) (rest : List Argument) (w goal : Walk) → rest ≡ [] → walk_arguments n (arguments rest) w ≡ goal → w ≡ goal
no_more-arguments n = no_more (λ x w. walk_argument n x w) (λ xs w. walk_arguments n (arguments xs) w) (arguments-nil n)

keywords-nil : (n : Bool) (w : Walk) → walk_keywords n (keywords []) w ≡ w
unfolding hidden keywords keywords_shape
keywords-nil n w = refl

keywords-cons : (n : Bool) (w : Walk) (x : Keyword) (xs : List Keyword) → walk_keywords n (keywords (x ∷ xs)) w ≡ walk_keywords n (keywords xs) (walk_keyword n x w)
unfolding hidden keywords keywords_shape
keywords-cons n w x xs = refl

pub more-keywords : (n : Bool) (all rest : List Keyword) (x : Keyword) (w w1 goal : Walk) → all ≡ x ∷ rest → w1 ≡ walk_keyword n x w →
    walk_keywords n (keywords all) w ≡ goal → walk_keywords n (keywords rest) w1 ≡ goal
more-keywords n = more (λ x w. walk_keyword n x w) (λ xs w. walk_keywords n (keywords xs) w) (keywords-cons n)

pub no_more-keywords : (n : Bool) (rest : List Keyword) (w goal : Walk) → rest ≡ [] → walk_keywords n (keywords rest) w ≡ goal → w ≡ goal
no_more-keywords n = no_more (λ x w. walk_keyword n x w) (λ xs w. walk_keywords n (keywords xs) w) (keywords-nil n)

steps-nil : (n : Bool) (w : Walk) → walk_steps n (steps []) w ≡ w
unfolding hidden steps steps_shape
steps-nil n w = refl

steps-cons : (n : Bool) (w : Walk) (x : Step) (xs : List Step) → walk_steps n (steps (x ∷ xs)) w ≡ walk_steps n (steps xs) (walk_step n x w)
unfolding hidden steps steps_shape
steps-cons n w x xs = refl

pub more-steps : (n : Bool) (all rest : List Step) (x : Step) (w w1 goal : Walk) → all ≡ x ∷ rest → w1 ≡ walk_step n x w →
    walk_steps n (steps all) w ≡ goal → walk_steps n (steps rest) w1 ≡ goal
more-steps n = more (λ x w. walk_step n x w) (λ xs w. walk_steps n (steps xs) w) (steps-cons n)

pub no_more-steps : (n : Bool) (rest : List Step) (w goal : Walk) → rest ≡ [] → walk_steps n (steps rest) w ≡ goal → w ≡ goal
no_more-steps n = no_more (λ x w. walk_step n x w) (λ xs w. walk_steps n (steps xs) w) (steps-nil n)

conditions-nil : (n : Bool) (w : Walk) → walk_conditions n (conditions []) w ≡ w
unfolding hidden conditions conditions_shape
conditions-nil n w = refl

conditions-cons : (n : Bool) (w : Walk) (x : Condition) (xs : List Condition) → walk_conditions n (conditions (x ∷ xs)) w ≡ walk_conditions n (conditions xs) (walk_expr n x.otherwise (walk_expr n x.test w))
unfolding hidden conditions conditions_shape
conditions-cons n w x xs = refl

pub more-conditions : (n : Bool) (all rest : List Condition) (x : Condition) (w w1 goal : Walk) → all ≡ x ∷ rest → w1 ≡ walk_expr n x.otherwise (walk_expr n x.test w) →
    walk_conditions n (conditions all) w ≡ goal → walk_conditions n (conditions rest) w1 ≡ goal
more-conditions n = more (λ x w. walk_expr n x.otherwise (walk_expr n x.test w)) (λ xs w. walk_conditions n (conditions xs) w) (conditions-cons n)

pub no_more-conditions : (n : Bool) (rest : List Condition) (w goal : Walk) → rest ≡ [] → walk_conditions n (conditions rest) w ≡ goal → w ≡ goal
no_more-conditions n = no_more (λ x w. walk_expr n x.otherwise (walk_expr n x.test w)) (λ xs w. walk_conditions n (conditions xs) w) (conditions-nil n)

comparisons-nil : (n : Bool) (w : Walk) → walk_comparisons n (comparisons []) w ≡ w
unfolding hidden comparisons comparisons_shape
comparisons-nil n w = refl

comparisons-cons : (n : Bool) (w : Walk) (x : Comparison) (xs : List Comparison) → walk_comparisons n (comparisons (x ∷ xs)) w ≡ walk_comparisons n (comparisons xs) (walk_expr n x.right w)
unfolding hidden comparisons comparisons_shape
comparisons-cons n w x xs = refl

pub more-comparisons : (n : Bool) (all rest : List Comparison) (x : Comparison) (w w1 goal : Walk) → all ≡ x ∷ rest → w1 ≡ walk_expr n x.right w →
    walk_comparisons n (comparisons all) w ≡ goal → walk_comparisons n (comparisons rest) w1 ≡ goal
more-comparisons n = more (λ x w. walk_expr n x.right w) (λ xs w. walk_comparisons n (comparisons xs) w) (comparisons-cons n)

pub no_more-comparisons : (n : Bool) (rest : List Comparison) (w goal : Walk) → rest ≡ [] → walk_comparisons n (comparisons rest) w ≡ goal → w ≡ goal
no_more-comparisons n = no_more (λ x w. walk_expr n x.right w) (λ xs w. walk_comparisons n (comparisons xs) w) (comparisons-nil n)

targets-nil : (n : Bool) (w : Walk) → walk_targets n (targets []) w ≡ w
unfolding hidden targets targets_shape
targets-nil n w = refl

targets-cons : (n : Bool) (w : Walk) (x : AssignmentTarget) (xs : List AssignmentTarget) → walk_targets n (targets (x ∷ xs)) w ≡ walk_targets n (targets xs) (walk_target n x w)
unfolding hidden targets targets_shape
targets-cons n w x xs = refl

pub more-targets : (n : Bool) (all rest : List AssignmentTarget) (x : AssignmentTarget) (w w1 goal : Walk) → all ≡ x ∷ rest → w1 ≡ walk_target n x w →
    walk_targets n (targets all) w ≡ goal → walk_targets n (targets rest) w1 ≡ goal
more-targets n = more (λ x w. walk_target n x w) (λ xs w. walk_targets n (targets xs) w) (targets-cons n)

pub no_more-targets : (n : Bool) (rest : List AssignmentTarget) (w goal : Walk) → rest ≡ [] → walk_targets n (targets rest) w ≡ goal → w ≡ goal
no_more-targets n = no_more (λ x w. walk_target n x w) (λ xs w. walk_targets n (targets xs) w) (targets-nil n)

statements-nil : (n : Bool) (w : Walk) → walk_all n (statements []) w ≡ w
unfolding hidden statements statements_shape
statements-nil n w = refl

statements-cons : (n : Bool) (w : Walk) (x : Stmt) (xs : List Stmt) → walk_all n (statements (x ∷ xs)) w ≡ walk_all n (statements xs) (walk n x w)
unfolding hidden statements statements_shape
statements-cons n w x xs = refl

pub more-statements : (n : Bool) (all rest : List Stmt) (x : Stmt) (w w1 goal : Walk) → all ≡ x ∷ rest → w1 ≡ walk n x w →
    walk_all n (statements all) w ≡ goal → walk_all n (statements rest) w1 ≡ goal
more-statements n = more (λ x w. walk n x w) (λ xs w. walk_all n (statements xs) w) (statements-cons n)

pub no_more-statements : (n : Bool) (rest : List Stmt) (w goal : Walk) → rest ≡ [] → walk_all n (statements rest) w ≡ goal → w ≡ goal
no_more-statements n = no_more (λ x w. walk n x w) (λ xs w. walk_all n (statements xs) w) (statements-nil n)

-- ---------------------------------------------------------------- dotted names
dotted-nil : (x : List ℕ) → dotted x (steps []) ≡ x
unfolding hidden steps steps_shape
dotted-nil x = refl

dotted-cons : (x : List ℕ) (f : Step) (fs : List Step) →
    dotted x (steps (f ∷ fs)) ≡ dotted_on (attribute_of f) (method_of f) x (λ y. dotted y (steps fs))
unfolding hidden steps steps_shape
dotted-cons x f fs = refl

dotted-after : (all rest : List Step) (f : Step) (o : Option (List ℕ)) (x goal : List ℕ) → all ≡ f ∷ rest → o ≡ attribute_of f →
    dotted x (steps all) ≡ goal → dotted_on o (method_of f) x (λ y. dotted y (steps rest)) ≡ goal
dotted-after all rest f o x goal left is g =
    ap (λ a. dotted_on a (method_of f) x (λ y. dotted y (steps rest))) is ∙ sym (dotted-cons x f rest)
    ∙ ap (λ l. dotted x (steps l)) (sym left) ∙ g

pub more-dotted : (all rest : List Step) (f : Step) (a x y goal : List ℕ) → all ≡ f ∷ rest → Some a ≡ attribute_of f → y ≡ dot x a →
    dotted x (steps all) ≡ goal → dotted y (steps rest) ≡ goal
more-dotted all rest f a x y goal left is p g =
    ap (λ z. dotted z (steps rest)) p ∙ dotted-after all rest f (Some a) x goal left is g

pub last-dotted : (all rest : List Step) (f : Step) (x y goal : List ℕ) → all ≡ f ∷ rest → None ≡ attribute_of f →
    y ≡ with_member (method_of f) x → dotted x (steps all) ≡ goal → y ≡ goal
last-dotted all rest f x y goal left is p g = p ∙ dotted-after all rest f None x goal left is g

pub no_more-dotted : (rest : List Step) (x goal : List ℕ) → rest ≡ [] → dotted x (steps rest) ≡ goal → x ≡ goal
no_more-dotted rest x goal none g = sym (dotted-nil x) ∙ ap (λ l. dotted x (steps l)) (sym none) ∙ g

-- ---------------------------------------------------------------- names with steps
pub plain-chain : (n : Bool) (x : List ℕ) (fs : List Step) (w w1 : Walk) → n ≡ false → w1 ≡ read x w → w1 ≡ read_chain n x (steps fs) w
plain-chain n x fs w w1 flat p = p ∙ sym (ap {B = Walk} (λ m. read_as x (cond m (dotted x (steps fs)) x) w) flat)

pub nested-chain : (n : Bool) (x text : List ℕ) (fs : List Step) (w w1 : Walk) → n ≡ true → text ≡ dotted x (steps fs) →
    w1 ≡ read_as x text w → w1 ≡ read_chain n x (steps fs) w
nested-chain n x text fs w w1 deep same p =
    p ∙ ap {B = Walk} (λ t. read_as x t w) same ∙ sym (ap {B = Walk} (λ m. read_as x (cond m (dotted x (steps fs)) x) w) deep)
