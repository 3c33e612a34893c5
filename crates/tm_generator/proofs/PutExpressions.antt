-- What is put for the forms of an expression, in the program's representation.
use Rattle.std.proofs.Common.{◌≡◌, ℕ, ◌+◌, ◌<◌, List, [], ◌∷◌, ◌++◌, length, drop, refl, sym, ap, ◌∙◌, arith, drop-cons, reverse}
use Rattle.std.specs.Prelude.{get_or, Option, Some}
use Rattle.std.proofs.lemmas.List.{reverse-reverse}
use denote.Hole.Carrier.{hidden}
use Rattle.tm_trees.specs.Trees.{UnaryOperator, BinaryOperator, Expr, Pair, Argument, Keyword, Condition, Comparison, Step}
use Rattle.tm_trees.specs.Trees.{hidden_expr, exprs, pairs, steps, conditions, comparisons, exprs_shape, pairs_shape, steps_shape}
use Rattle.tm_trees.specs.Trees.{conditions_shape, comparisons_shape}
use Rattle.tm_trees.specs.Trees.{arguments, keywords}
use Rattle.tm_trees.specs.Trees.{Application}
use Rattle.tm_trees.specs.Trees.expr_forms as e
use Rattle.tm_trees.specs.Trees.step_forms as s
use Rattle.tm_trees.specs.Instructions.{Instruction}
use Rattle.tm_trees.specs.Instructions.instructions as i
use Rattle.tm_syntax.specs.declared.jump.JumpKind.TheVariants.{IfFalseOrPop, IfTrueOrPop}
use Rattle.tm_syntax.specs.Fragments.{Fragment, straight, ◌⨾◌, over, either}
use Rattle.tm_syntax.specs.Code.{unary_code, binary_code, application_code, count_exprs, count_pairs, passed_count, row_end}
use Rattle.tm_syntax.specs.Code.{expr_code, exprs_code, pairs_code, passing_code}
use Rattle.tm_syntax.specs.Code.{conditions_code, step_code, steps_code, row_code, links_code}
use Rattle.tm_generator.specs.declared.builder.Out.{Out}
use Rattle.tm_generator.specs.Building.{Builder, put, with_one, jumped, asked, kept, answered}

-- ---------------------------------------------------------------- how many there are
count-exprs : (xs : List Expr) → count_exprs (exprs xs) ≡ length xs
unfolding hidden exprs exprs_shape
count-exprs [] = refl
count-exprs (x ∷ xs) = omega (arith, count-exprs xs)

count-pairs : (xs : List Pair) → count_pairs (pairs xs) ≡ length xs
unfolding hidden pairs pairs_shape
count-pairs [] = refl
count-pairs (x ∷ xs) = omega (arith, count-pairs xs)

-- ---------------------------------------------------------------- expressions
pub put-list : (b : Builder) (xs : List Expr) →
    put (expr_code (e.List xs)) b ≡ with_one (i.BuildList (Some (length xs))) (put (exprs_code (exprs xs)) b)
unfolding hidden
put-list b xs = ap {B = Builder} (λ n. with_one (i.BuildList (Some n)) (put (exprs_code (exprs xs)) b)) (count-exprs xs)

pub put-tuple : (b : Builder) (xs : List Expr) →
    put (expr_code (e.Tuple xs)) b ≡ with_one (i.BuildTuple (length xs)) (put (exprs_code (exprs xs)) b)
unfolding hidden
put-tuple b xs = ap {B = Builder} (λ n. with_one (i.BuildTuple n) (put (exprs_code (exprs xs)) b)) (count-exprs xs)

pub put-map : (b : Builder) (xs : List Pair) →
    put (expr_code (e.Map xs)) b ≡ with_one (i.BuildMap (length xs)) (put (pairs_code (pairs xs)) b)
unfolding hidden
put-map b xs = ap {B = Builder} (λ n. with_one (i.BuildMap n) (put (pairs_code (pairs xs)) b)) (count-pairs xs)

pub put-call : (b : Builder) (f : List ℕ) (xs : List Argument) (ks : List Keyword) → put (expr_code (e.Call f xs ks)) b ≡
    with_one (i.CallFunction f (passed_count row_end 0 (arguments xs) (keywords ks))) (put (passing_code row_end 0 (arguments xs) (keywords ks)) b)
unfolding hidden
put-call b f xs ks = refl

pub put-unary : (b : Builder) (op : UnaryOperator) (x : Expr) →
    put (expr_code (e.Unary op x)) b ≡ with_one (unary_code op) (put (expr_code x) b)
unfolding hidden hidden_expr
put-unary b op x = refl

pub put-chain : (b : Builder) (x : Expr) (ss : List Step) →
    put (expr_code (e.Chain x ss)) b ≡ put (steps_code (steps ss)) (put (expr_code x) b)
unfolding hidden hidden_expr
put-chain b x ss = refl

-- ---------------------------------------------------------------- steps
pub put-apply : (b : Builder) (k : Application) (f : List ℕ) (xs : List Argument) (ks : List Keyword) →
    put (step_code (s.Apply k f xs ks)) b ≡ put (straight (application_code k f (passed_count row_end 1 (arguments xs) (keywords ks))))
    (put (passing_code row_end 1 (arguments xs) (keywords ks)) b)
unfolding hidden
put-apply b k f xs ks = refl

pub put-call_object : (b : Builder) (xs : List Argument) (ks : List Keyword) → put (step_code (s.Call xs ks)) b ≡
    with_one (i.CallObject (passed_count row_end 1 (arguments xs) (keywords ks))) (put (passing_code row_end 1 (arguments xs) (keywords ks)) b)
unfolding hidden
put-call_object b xs ks = refl

pub put-item : (b : Builder) (x : Expr) → put (step_code (s.Item x)) b ≡ with_one i.GetItem (put (expr_code x) b)
unfolding hidden hidden_expr
put-item b x = refl

pub put-slice : (b : Builder) (x y z : Expr) →
    put (step_code (s.Slice x y z)) b ≡ with_one i.Slice (put (expr_code z) (put (expr_code y) (put (expr_code x) b)))
unfolding hidden hidden_expr
put-slice b x y z = refl

pub put-binary : (b : Builder) (op : BinaryOperator) (x : Expr) →
    put (step_code (s.Binary op x)) b ≡ put (straight (binary_code op)) (put (expr_code x) b)
unfolding hidden hidden_expr
put-binary b op x = refl

pub put-compare : (b : Builder) (op : BinaryOperator) (x : Expr) (cs : List Comparison) →
    put (step_code (s.Compare op x cs)) b ≡ put (row_code op (comparisons cs)) (put (expr_code x) b)
unfolding hidden hidden_expr
put-compare b op x cs = refl

pub put-and : (b : Builder) (x : Expr) → put (step_code (s.And x)) b ≡ put (over IfFalseOrPop (expr_code x)) b
unfolding hidden hidden_expr
put-and b x = refl

pub put-or : (b : Builder) (x : Expr) → put (step_code (s.Or x)) b ≡ put (over IfTrueOrPop (expr_code x)) b
unfolding hidden hidden_expr
put-or b x = refl

pub ruleset expressions = (put-list, put-tuple, put-map, put-item, put-and, put-or)

-- ---------------------------------------------------------------- parts of a form, one after the other
pub made-call : (b m1 m2 : Builder) (f g : List ℕ) (n : Option ℕ) (xs : List Argument) (ks : List Keyword) →
    m1 ≡ put (passing_code row_end 0 (arguments xs) (keywords ks)) b → n ≡ passed_count row_end 0 (arguments xs) (keywords ks) → g ≡ f →
    m2 ≡ with_one (i.CallFunction g n) m1 → m2 ≡ put (expr_code (e.Call f xs ks)) b
made-call b m1 m2 f g n xs ks p l h r =
    r ∙ ap {B = Builder} (λ k. with_one (i.CallFunction k n) m1) h ∙ ap {B = Builder} (λ k. with_one (i.CallFunction f k) m1) l
    ∙ ap {B = Builder} (λ m. with_one (i.CallFunction f (passed_count row_end 0 (arguments xs) (keywords ks))) m) p ∙ sym (put-call b f xs ks)

pub made-apply : (b m1 m2 : Builder) (k : Application) (f : List ℕ) (n : Option ℕ) (xs : List Argument) (ks : List Keyword) →
    m1 ≡ put (passing_code row_end 1 (arguments xs) (keywords ks)) b → n ≡ passed_count row_end 1 (arguments xs) (keywords ks) →
    m2 ≡ put (straight (application_code k f n)) m1 → m2 ≡ put (step_code (s.Apply k f xs ks)) b
made-apply b m1 m2 k f n xs ks p l r =
    r ∙ ap {B = Builder} (λ c. put (straight (application_code k f c)) m1) l
    ∙ ap {B = Builder} (λ m. put (straight (application_code k f (passed_count row_end 1 (arguments xs) (keywords ks)))) m) p
    ∙ sym (put-apply b k f xs ks)

pub made-call_object : (b m1 m2 : Builder) (n : Option ℕ) (xs : List Argument) (ks : List Keyword) →
    m1 ≡ put (passing_code row_end 1 (arguments xs) (keywords ks)) b → n ≡ passed_count row_end 1 (arguments xs) (keywords ks) →
    m2 ≡ with_one (i.CallObject n) m1 → m2 ≡ put (step_code (s.Call xs ks)) b
made-call_object b m1 m2 n xs ks p l r =
    r ∙ ap {B = Builder} (λ c. with_one (i.CallObject c) m1) l
    ∙ ap {B = Builder} (λ m. with_one (i.CallObject (passed_count row_end 1 (arguments xs) (keywords ks))) m) p ∙ sym (put-call_object b xs ks)

pub made-unary : (b m1 m2 : Builder) (o : Instruction) (op : UnaryOperator) (x : Expr) → m1 ≡ put (expr_code x) b → o ≡ unary_code op →
    m2 ≡ with_one o m1 → m2 ≡ put (expr_code (e.Unary op x)) b
made-unary b m1 m2 o op x p h q = q ∙ ap {B = Builder} (λ k. with_one k m1) h ∙ ap {B = Builder} (λ m. with_one (unary_code op) m) p
    ∙ sym (put-unary b op x)

pub made-chain : (b m1 m2 : Builder) (x : Expr) (ss : List Step) → m1 ≡ put (expr_code x) b → m2 ≡ put (steps_code (steps ss)) m1 →
    m2 ≡ put (expr_code (e.Chain x ss)) b
made-chain b m1 m2 x ss p q = q ∙ ap {B = Builder} (λ m. put (steps_code (steps ss)) m) p ∙ sym (put-chain b x ss)

pub made-slice : (b m1 m2 m3 m4 : Builder) (x y z : Expr) → m1 ≡ put (expr_code x) b → m2 ≡ put (expr_code y) m1 →
    m3 ≡ put (expr_code z) m2 → m4 ≡ with_one i.Slice m3 → m4 ≡ put (step_code (s.Slice x y z)) b
made-slice b m1 m2 m3 m4 x y z p q r t =
    t ∙ ap {B = Builder} (λ m. with_one i.Slice m) (r
    ∙ ap {B = Builder} (λ m. put (expr_code z) m) (q ∙ ap {B = Builder} (λ m. put (expr_code y) m) p)) ∙ sym (put-slice b x y z)

pub made-binary : (b m1 m2 : Builder) (op : BinaryOperator) (x : Expr) → m1 ≡ put (expr_code x) b →
    m2 ≡ put (straight (binary_code op)) m1 → m2 ≡ put (step_code (s.Binary op x)) b
made-binary b m1 m2 op x p q = q ∙ ap {B = Builder} (λ m. put (straight (binary_code op)) m) p ∙ sym (put-binary b op x)

pub made-compare : (b m1 m2 : Builder) (op : BinaryOperator) (x : Expr) (cs : List Comparison) → m1 ≡ put (expr_code x) b →
    m2 ≡ put (row_code op (comparisons cs)) m1 → m2 ≡ put (step_code (s.Compare op x cs)) b
made-compare b m1 m2 op x cs p q = q ∙ ap {B = Builder} (λ m. put (row_code op (comparisons cs)) m) p ∙ sym (put-compare b op x cs)

-- one part after another
pub put_two : (c d : Fragment) (b m1 m2 : Builder) → m1 ≡ put c b → m2 ≡ put d m1 → m2 ≡ put (c ⨾ d) b
put_two c d b m1 m2 p q = q ∙ ap {B = Builder} (λ m. put d m) p

-- ---------------------------------------------------------------- conditions
conditions-nil : (v : Fragment) → conditions_code (conditions []) v ≡ v
unfolding hidden conditions conditions_shape
conditions-nil v = refl

conditions-cons : (v : Fragment) (c : Condition) (cs : List Condition) →
    conditions_code (conditions (c ∷ cs)) v ≡ conditions_code (conditions cs) (expr_code c.test ⨾ either v (expr_code c.otherwise))
unfolding hidden conditions conditions_shape
conditions-cons v c cs = refl

-- the tests, the value, and the alternatives
put-conditions : (b : Builder) (v : Fragment) (cs : List Condition) →
    put (conditions_code (conditions cs) v) b ≡ answered (kept cs b) cs (put v (asked cs b))
put-conditions b v [] = ap {B = Builder} (λ c. put c b) (conditions-nil v)
put-conditions b v (c ∷ cs) = ap {B = Builder} (λ k. put k b) (conditions-cons v c cs)
    ∙ put-conditions b (expr_code c.test ⨾ either v (expr_code c.otherwise)) cs

code-conditional : (x : Expr) (cs : List Condition) → expr_code (e.Conditional x cs) ≡ conditions_code (conditions cs) (expr_code x)
unfolding hidden hidden_expr
code-conditional x cs = refl

pub made-conditional : (b m1 m2 m3 : Builder) (outers0 outers : List (List Out)) (x : Expr) (cs : List Condition) → m1 ≡ asked cs b →
    outers0 ≡ [] → outers ≡ outers0 ++ reverse (kept cs b) → m2 ≡ put (expr_code x) m1 → m3 ≡ answered (reverse outers) cs m2 →
    m3 ≡ put (expr_code (e.Conditional x cs)) b
made-conditional b m1 m2 m3 outers0 outers x cs p n o q r =
    r ∙ ap {B = Builder} (λ os. answered (reverse os) cs m2) (o ∙ ap (λ os. os ++ reverse (kept cs b)) n)
    ∙ ap {B = Builder} (λ os. answered os cs m2) (reverse-reverse (kept cs b))
    ∙ ap {B = Builder} (λ m. answered (kept cs b) cs m) (q ∙ ap {B = Builder} (λ m. put (expr_code x) m) p)
    ∙ sym (ap {B = Builder} (λ c. put c b) (code-conditional x cs) ∙ put-conditions b (expr_code x) cs)

-- ---------------------------------------------------------------- rows
pub next : {X : Type 0} → (xs : List X) (k : ℕ) (x : X) → k < length xs → x ≡ get_or xs k x → drop k xs ≡ x ∷ drop (k + 1) xs
next xs k x lt d = grind (arith, drop-cons xs k x lt, d)

-- one more element of a row, and the end of the row
module _ {X : Type 0} (one : X → Fragment) (row : List X → Fragment) where
  pub more : ((b : Builder) (x : X) (xs : List X) → put (row (x ∷ xs)) b ≡ put (row xs) (put (one x) b)) →
      (all rest : List X) (x : X) (m m1 goal : Builder) → all ≡ x ∷ rest → m1 ≡ put (one x) m → put (row all) m ≡ goal →
      put (row rest) m1 ≡ goal
  more cons all rest x m m1 goal left p g = ap {B = Builder} (λ b. put (row rest) b) p ∙ sym (cons m x rest)
      ∙ ap {B = Builder} (λ l. put (row l) m) (sym left) ∙ g

  pub no_more : ((b : Builder) → put (row []) b ≡ b) → (rest : List X) (m goal : Builder) → rest ≡ [] → put (row rest) m ≡ goal → m ≡ goal
  no_more nil rest m goal none g = sym (nil m) ∙ ap {B = Builder} (λ l. put (row l) m) (sym none) ∙ g

put-exprs-nil : (b : Builder) → put (exprs_code (exprs [])) b ≡ b
unfolding hidden exprs exprs_shape
put-exprs-nil b = refl

put-exprs-cons : (b : Builder) (x : Expr) (xs : List Expr) →
    put (exprs_code (exprs (x ∷ xs))) b ≡ put (exprs_code (exprs xs)) (put (expr_code x) b)
unfolding hidden exprs exprs_shape
put-exprs-cons b x xs = refl

pub more-exprs : (all rest : List Expr) (x : Expr) (m m1 goal : Builder) → all ≡ x ∷ rest → m1 ≡ put (expr_code x) m →
    put (exprs_code (exprs all)) m ≡ goal → put (exprs_code (exprs rest)) m1 ≡ goal
more-exprs = more expr_code (λ xs. exprs_code (exprs xs)) put-exprs-cons

pub no_more-exprs : (rest : List Expr) (m goal : Builder) → rest ≡ [] → put (exprs_code (exprs rest)) m ≡ goal → m ≡ goal
no_more-exprs = no_more expr_code (λ xs. exprs_code (exprs xs)) put-exprs-nil

put-pairs-nil : (b : Builder) → put (pairs_code (pairs [])) b ≡ b
unfolding hidden pairs pairs_shape
put-pairs-nil b = refl

put-pairs-cons : (b : Builder) (x : Pair) (xs : List Pair) →
    put (pairs_code (pairs (x ∷ xs))) b ≡ put (pairs_code (pairs xs)) (put (expr_code x.key ⨾ expr_code x.value) b)
unfolding hidden pairs pairs_shape
put-pairs-cons b x xs = refl

pub more-pairs : (all rest : List Pair) (x : Pair) (m m1 goal : Builder) → all ≡ x ∷ rest →
    m1 ≡ put (expr_code x.key ⨾ expr_code x.value) m → put (pairs_code (pairs all)) m ≡ goal → put (pairs_code (pairs rest)) m1 ≡ goal
more-pairs = more (λ x. expr_code x.key ⨾ expr_code x.value) (λ xs. pairs_code (pairs xs)) put-pairs-cons

pub no_more-pairs : (rest : List Pair) (m goal : Builder) → rest ≡ [] → put (pairs_code (pairs rest)) m ≡ goal → m ≡ goal
no_more-pairs = no_more (λ x. expr_code x.key ⨾ expr_code x.value) (λ xs. pairs_code (pairs xs)) put-pairs-nil

put-steps-nil : (b : Builder) → put (steps_code (steps [])) b ≡ b
unfolding hidden steps steps_shape
put-steps-nil b = refl

put-steps-cons : (b : Builder) (x : Step) (xs : List Step) →
    put (steps_code (steps (x ∷ xs))) b ≡ put (steps_code (steps xs)) (put (step_code x) b)
unfolding hidden steps steps_shape
put-steps-cons b x xs = refl

pub more-steps : (all rest : List Step) (x : Step) (m m1 goal : Builder) → all ≡ x ∷ rest → m1 ≡ put (step_code x) m →
    put (steps_code (steps all)) m ≡ goal → put (steps_code (steps rest)) m1 ≡ goal
more-steps = more step_code (λ xs. steps_code (steps xs)) put-steps-cons

pub no_more-steps : (rest : List Step) (m goal : Builder) → rest ≡ [] → put (steps_code (steps rest)) m ≡ goal → m ≡ goal
no_more-steps = no_more step_code (λ xs. steps_code (steps xs)) put-steps-nil

-- ---------------------------------------------------------------- comparisons in a row
links-nil : (op : BinaryOperator) → links_code op (comparisons []) ≡ straight (binary_code op)
unfolding hidden comparisons comparisons_shape
links-nil op = refl

put-links-cons : (b : Builder) (op : BinaryOperator) (x : Comparison) (xs : List Comparison) →
    put (links_code op (comparisons (x ∷ xs))) b ≡
    put (links_code x.operator (comparisons xs)) (put (expr_code x.right) (jumped IfFalseOrPop (with_one (i.CompareAndPreserve op) b)))
unfolding hidden comparisons comparisons_shape
put-links-cons b op x xs = refl

pub more-links : (all rest : List Comparison) (x : Comparison) (op : BinaryOperator) (m m1 m2 m3 goal : Builder) → all ≡ x ∷ rest →
    m1 ≡ with_one (i.CompareAndPreserve op) m → m2 ≡ jumped IfFalseOrPop m1 → m3 ≡ put (expr_code x.right) m2 →
    put (links_code op (comparisons all)) m ≡ goal → put (links_code x.operator (comparisons rest)) m3 ≡ goal
more-links all rest x op m m1 m2 m3 goal left p q r g =
    ap {B = Builder} (λ b. put (links_code x.operator (comparisons rest)) b) (r
    ∙ ap {B = Builder} (λ b. put (expr_code x.right) b) (q ∙ ap {B = Builder} (λ b. jumped IfFalseOrPop b) p))
    ∙ sym (put-links-cons m op x rest) ∙ ap {B = Builder} (λ l. put (links_code op (comparisons l)) m) (sym left) ∙ g

pub no_more-links : (rest : List Comparison) (op : BinaryOperator) (m m1 goal : Builder) → rest ≡ [] →
    put (links_code op (comparisons rest)) m ≡ goal → m1 ≡ put (straight (binary_code op)) m → m1 ≡ goal
no_more-links rest op m m1 goal none g p = p
    ∙ ap {B = Builder} (λ c. put c m) (sym (ap (λ l. links_code op (comparisons l)) none ∙ links-nil op)) ∙ g
