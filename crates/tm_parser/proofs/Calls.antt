-- The last step of a value, as the program goes through its steps, and the call of a loop.
use Rattle.std.proofs.Common.{◌≡◌, ℕ, ◌+◌, ◌<◌, List, [], ◌∷◌, ◌++◌, length, drop, Bool, true, false, refl, sym, ap, ◌∙◌, arith}
use Rattle.std.proofs.Common.{drop-cons, length-append}
use Rattle.std.proofs.Math.Dec.{eqb-suc-zero}
use Rattle.std.specs.Prelude.{get_or, Option, Some, None, is_some, if◌then◌else◌, ◌&&◌, ◌==◌, nat_eq, codes}
use Rattle.std.specs.Cmp.Lexicographic.{pointwise}
use denote.Hole.Carrier.{hidden}
use Rattle.tm_trees.specs.Trees.{hidden_expr, arguments as row_of_arguments, keywords as row_of_keywords, steps as row_of_steps}
use Rattle.tm_trees.specs.Trees.{arguments_shape, keywords_shape, steps_shape}
use Rattle.tm_trees.specs.Trees.{Argument, Keyword, Step, Expr}
use Rattle.tm_trees.specs.Trees.argument_forms as arguments
use Rattle.tm_trees.specs.Trees.expr_forms as exprs
use Rattle.tm_trees.specs.Trees.statement_forms as stmts
use Rattle.tm_syntax.specs.Forms.{plain, spread}
use Rattle.tm_parser.specs.Statements.{is_call, is_plain, calls, last_calls, only_one, are_none, are_unnamed, loop_argument, call_or_emit}
use Rattle.tm_parser.specs.Statements.{emit_value}

pub last-nil : (b : Bool) → last_calls b (row_of_steps []) ≡ b
unfolding hidden row_of_steps steps_shape
last-nil b = refl

pub last-cons : (b : Bool) (s : Step) (ss : List Step) → last_calls b (row_of_steps (s ∷ ss)) ≡ last_calls (calls s)
    (row_of_steps ss)
unfolding hidden row_of_steps steps_shape
last-cons b s ss = refl

-- one step more
pub one_more : (b c : Bool) (ss : List Step) (k : ℕ) (s : Step) (r : Bool) → k < length ss → s ≡ get_or ss k s → c ≡ calls s →
    last_calls b (row_of_steps (drop k ss)) ≡ r → last_calls c (row_of_steps (drop (k + 1) ss)) ≡ r
one_more b c ss k s r lt is same h =
    let e : drop k ss ≡ s ∷ drop (k + 1) ss = grind (arith, drop-cons ss k s lt, is) in
    ap (λ x. last_calls x (row_of_steps (drop (k + 1) ss))) same ∙ sym (last-cons b s (drop (k + 1) ss)) ∙ ap
    (λ xs. last_calls b (row_of_steps xs)) (sym e) ∙ h

pub no_more : (b : Bool) (ss : List Step) (r : Bool) → ss ≡ [] → last_calls b (row_of_steps ss) ≡ r → b ≡ r
no_more b ss r e h = sym (last-nil b) ∙ ap (λ xs. last_calls b (row_of_steps xs)) (sym e) ∙ h

pub is_call_of_chain : (x : Expr) (ss : List Step) → is_call (exprs.Chain x ss) ≡ last_calls false (row_of_steps ss)
unfolding hidden hidden_expr
is_call_of_chain x ss = refl

-- what a call is called with, where its name is `loop` or is another one
abbrev argument_of : Bool → List Argument → List Keyword → Option Expr
argument_of same given named = if same && are_unnamed (row_of_keywords named) then only_one (row_of_arguments given) else None

named_argument : (same : Bool) (given : List Argument) (k : Keyword) (ks : List Keyword) → argument_of same given (k ∷ ks) ≡ None
unfolding hidden row_of_keywords keywords_shape
named_argument true given k ks = refl
named_argument false given k ks = refl

argument_is : (f : List ℕ) (given : List Argument) (named : List Keyword) →
    loop_argument (exprs.Call f given named) ≡ argument_of (pointwise nat_eq f (codes "loop")) given named
unfolding loop_argument
argument_is f given named = refl

-- what is passed, where no name is
abbrev one_in : Bool → List Argument → Option Expr
one_in same given = if same then only_one (row_of_arguments given) else None

unnamed_argument : (same : Bool) (given : List Argument) → argument_of same given [] ≡ one_in same given
unfolding hidden row_of_keywords keywords_shape
unnamed_argument true given = refl
unnamed_argument false given = refl

-- the call of another name, or with arguments by their names, or of `loop` with those by their places alone
module _ (f : List ℕ) (given : List Argument) (named : List Keyword) where
  pub other_name : pointwise nat_eq f (codes "loop") ≡ false → is_some (loop_argument (exprs.Call f given named)) ≡ false
  other_name h = ap is_some (argument_is f given named) ∙ ap (λ same. is_some (argument_of same given named)) h

  pub unnamed : pointwise nat_eq f (codes "loop") ≡ true → named ≡ [] →
      loop_argument (exprs.Call f given named) ≡ only_one (row_of_arguments given)
  unnamed h none = argument_is f given named ∙ ap (λ ks. argument_of (pointwise nat_eq f (codes "loop")) given ks) none
      ∙ unnamed_argument (pointwise nat_eq f (codes "loop")) given ∙ ap (λ same. one_in same given) h

  pub one_unnamed : pointwise nat_eq f (codes "loop") ≡ true → named ≡ [] →
      is_some (loop_argument (exprs.Call f given named)) ≡ is_some (only_one (row_of_arguments given))
  one_unnamed h none = ap is_some (unnamed h none)

pub with_names : (f : List ℕ) (given : List Argument) (named : List Keyword) → ¬ (named ≡ []) →
    is_some (loop_argument (exprs.Call f given named)) ≡ false
with_names f given [] h = absurd (h refl)
with_names f given (k ∷ ks) h = ap is_some (argument_is f given (k ∷ ks) ∙ named_argument _ given k ks)

pub ruleset calls_of_loop = (other_name, with_names, one_unnamed)

-- whether anything is passed to a call
pub none-is : (given : List Argument) → are_none (row_of_arguments given) ≡ (length given == 0)
unfolding hidden row_of_arguments arguments_shape
none-is [] = refl
none-is (a ∷ given) = sym (eqb-suc-zero (length given))

pub unnamed-is : (named : List Keyword) → are_unnamed (row_of_keywords named) ≡ (length named == 0)
unfolding hidden row_of_keywords keywords_shape
unnamed-is [] = refl
unnamed-is (k ∷ named) = sym (eqb-suc-zero (length named))

pub ruleset nothing_passed = (none-is, unnamed-is)

-- which arguments are one value
none_of_none : is_some (only_one (row_of_arguments [])) ≡ false
unfolding hidden row_of_arguments arguments_shape
none_of_none = refl

one_of_spread : (x : Expr) (more : List Argument) → only_one (row_of_arguments (spread x ∷ more)) ≡ None
unfolding hidden row_of_arguments arguments_shape
one_of_spread x more = refl

one_of_plain : (x : Expr) → only_one (row_of_arguments (plain x ∷ [])) ≡ Some x
unfolding hidden row_of_arguments arguments_shape
one_of_plain x = refl

one_of_more : (x : Expr) (y : Argument) (more : List Argument) → only_one (row_of_arguments (plain x ∷ y ∷ more)) ≡ None
unfolding hidden row_of_arguments arguments_shape
one_of_more x y more = refl

pub not_one : (given : List Argument) → ¬ (length given ≡ 1) → false ≡ is_some (only_one (row_of_arguments given))
not_one [] h = sym none_of_none
not_one (spread x ∷ more) h = sym (ap is_some (one_of_spread x more))
not_one (plain x ∷ []) h = absurd (h refl)
not_one (plain x ∷ y ∷ more) h = sym (ap is_some (one_of_more x y more))

pub one : (given : List Argument) (a : Argument) (plainly : Bool) → length given ≡ 1 → a ≡ get_or given 0 a → plainly ≡ is_plain a →
    plainly ≡ is_some (only_one (row_of_arguments given))
one [] a plainly long is same = absurd (omega (arith, long))
one (x ∷ y ∷ more) a plainly long is same = absurd (omega (arith, long))
one (plain x ∷ []) a plainly long is same = same ∙ ap is_plain is ∙ sym (ap is_some (one_of_plain x))
one (spread x ∷ []) a plainly long is same = same ∙ ap is_plain is ∙ sym (ap is_some (one_of_spread x []))

-- ---------------------------------------------------------------- what the program takes out of the call of a loop
if_some : (b : Bool) (o : Option Expr) → is_some (if b then o else None) ≡ true → (if b then o else None) ≡ o
if_some true o h = refl
if_some false o h = absurd (cc h)

module _ (x : Expr) (f : List ℕ) (given : List Argument) (named : List Keyword) (some : is_some (loop_argument x) ≡ true)
    (is : x ≡ exprs.Call f given named) where
  its_argument : loop_argument x ≡ only_one (row_of_arguments given)
  its_argument =
      let e = ap loop_argument is ∙ argument_is f given named in
      e ∙ if_some (pointwise nat_eq f (codes "loop") && are_unnamed (row_of_keywords named)) (only_one (row_of_arguments given))
      (sym (ap is_some e) ∙ some)

  has_one : is_some (only_one (row_of_arguments given)) ≡ true
  has_one = sym (ap is_some its_argument) ∙ some

  pub is_called : ¬ (given ≡ [])
  is_called none = absurd (let e : false ≡ true = sym none_of_none ∙ ap (λ g. is_some (only_one (row_of_arguments g))) (sym none) ∙ has_one in
      cc e)

  -- before the last there is none
  last_alone : (left : List Argument) (a : Argument) → given ≡ left ++ a ∷ [] → given ≡ a ∷ []
  last_alone [] a e = e
  last_alone (y ∷ ys) a e =
      let more : ¬ (length given ≡ 1) = λ long. omega (arith, ap length e, length-append (y ∷ ys) (a ∷ []), long) in
      absurd (let e : false ≡ true = not_one given more ∙ has_one in cc e)

  pub not_spread : (left : List Argument) (a : Argument) (y : Expr) → given ≡ left ++ a ∷ [] → ¬ (a ≡ spread y)
  not_spread left a y last e =
      let alone : given ≡ spread y ∷ [] = last_alone left a last ∙ ap (λ b. b ∷ []) e in
      absurd (let f : false ≡ true = sym (ap is_some (one_of_spread y [])) ∙ ap (λ g. is_some (only_one (row_of_arguments g))) (sym alone)
      ∙ has_one in cc f)

  pub called_with : (left : List Argument) (a : Argument) (y : Expr) → given ≡ left ++ a ∷ [] → a ≡ plain y →
      stmts.EmitLoop y ≡ emit_value x
  called_with left a y last e =
      let alone : given ≡ plain y ∷ [] = last_alone left a last ∙ ap (λ b. b ∷ []) e in
      let found : loop_argument x ≡ Some y = its_argument ∙ ap (λ g. only_one (row_of_arguments g)) alone ∙ one_of_plain y in
      sym (ap (λ o. call_or_emit o x) found)

pub plain-is : (x : Expr) → is_plain (arguments.Plain x) ≡ true
unfolding hidden hidden_expr
plain-is x = refl

pub spread-is : (x : Expr) → is_plain (arguments.Spread x) ≡ false
unfolding hidden hidden_expr
spread-is x = refl

pub plain-form : (x : Expr) → arguments.Plain x ≡ plain x
unfolding hidden hidden_expr
plain-form x = refl

pub spread-form : (x : Expr) → arguments.Spread x ≡ spread x
unfolding hidden hidden_expr
spread-form x = refl
