-- The code of expressions pushes a value, from any shape.
use Rattle.std.proofs.Common.{◌≡◌, ℕ, zero, suc, ◌+◌, List, [], ◌∷◌, Option, Some, None, Bool, true, false, refl, sym, ap, ◌∙◌, subst, arith}
use Rattle.tm_trees.specs.Trees.{UnaryOperator, BinaryOperator, Application, Expr, Var, Const, List', Tuple', Map', Call', SelfBlock, Row_of-Expr}
use Rattle.tm_trees.specs.Trees.{no_expr, expr, Row_of-Pair, no_pair, Row_of-Argument, no_argument, argument, Row_of-Keyword, no_keyword}
use Rattle.tm_trees.specs.Trees.{keyword_and, Row_of-Step, no_step, step, Row_of-Condition, no_condition, Argument, Keyword, Step, Attribute, Apply'}
use Rattle.tm_trees.specs.Trees.{Called, Row_of-Comparison, no_comparison}
use Rattle.tm_trees.specs.Trees.unaries
use Rattle.tm_trees.specs.Trees.binaries
use Rattle.tm_trees.specs.Trees.applications
use Rattle.tm_trees.specs.Instructions.modes.{Capture}
use Rattle.tm_trees.specs.Instructions.{Instruction}
use Rattle.tm_trees.specs.Instructions.instructions as i
use Rattle.tm_syntax.specs.Forms.{unary, chained, conditional, with_condition, with_comparison, with_pair, plain, spread, keyword}
use Rattle.tm_syntax.specs.Forms.{spread_keywords, item, slice, binary, compare, and_then, or_else}
use Rattle.tm_syntax.specs.Code.{unary_code, binary_code, application_code, rows_of, list_of_row, map_of_row, count, lists_at, row_after, count_lists}
use Rattle.tm_syntax.specs.Code.{has_spread, has_spread_keyword, keywords_after, maps_at, RowEnd, row_end, count_maps}
use Rattle.tm_syntax.specs.Code.{merged_code, merged_count, together}
use Rattle.tm_syntax.specs.Code.{count_by, passed_count, merging, passing_by, passing, count_exprs, count_pairs, expr_code, conditions_code}
use Rattle.tm_syntax.specs.Code.{exprs_code, pairs_code, argument_code, arguments_code, listed_code, lists_code, keyword_code, keywords_code}
use Rattle.tm_syntax.specs.Code.{step_code, links_code, steps_code}
use Rattle.tm_syntax.specs.Fragments.{Fragment, straight, ◌⨾◌, beyond, either}
use Rattle.tm_shapes.specs.declared.kind.Kind.{Kind}
use Rattle.tm_shapes.specs.declared.kind.Kind.TheVariants.{Value as value, Group as group}
use Rattle.tm_shapes.specs.declared.kind.Reading.TheVariants.{Value as as_value}
use Rattle.tm_shapes.specs.Shapes.{Shape, pushed}
use Rattle.tm_shapes.specs.Flows.{Flow, Site, flow_of, is_zero, leads, pops, pop_counted, with_operands, replaces, replaces_counted}
use Rattle.tm_syntax.specs.Choices.{choose}
use Rattle.tm_accepted.specs.Sites.{ordinary, pieces_of, site_by}
use Rattle.tm_accepted.proofs.Lays.{Around, StraightBy, Types}

-- ---------------------------------------------------------------- values on others
pub pops_pushed : (n : ℕ) (ks : List Kind) (F : List Kind → Flow) → pops n (pushed n ks) F ≡ F ks
pops_pushed zero ks F = refl
pops_pushed (suc n) ks F = pops_pushed n ks F

pub pushed_both : (m n : ℕ) (ks : List Kind) → pushed m (pushed n ks) ≡ pushed (m + n) ks
pushed_both zero n ks = ap (λ k. pushed k ks) (omega arith)
pushed_both (suc m) n ks =
    let e : suc (m + n) ≡ suc m + n = omega arith in ap (λ x. value ∷ x) (pushed_both m n ks) ∙ ap (λ k. pushed k ks) e

-- so many values lie over others
abbrev pub Over : ℕ → List Kind → Shape → Shape
Over n ks s = with_operands (pushed n ks) s

pub over_both : (m n k : ℕ) (ks : List Kind) (s : Shape) → m + n ≡ k → Over m (pushed n ks) s ≡ Over k ks s
over_both m n k ks s e = ap (λ x. with_operands x s) (pushed_both m n ks ∙ ap (λ k. pushed k ks) e)

-- code that pushes so many, over any
abbrev pub Pushes : ℕ → Fragment → Type 0
Pushes n c = (e : Around) (s : Shape) (ks : List Kind) (pc : ℕ) → Types pc e c (with_operands ks s) (Over n ks s)

-- code that replaces so many by so many
abbrev pub Replaces : ℕ → ℕ → Fragment → Type 0
Replaces n m c = (e : Around) (s : Shape) (ks : List Kind) (pc : ℕ) → Types pc e c (Over n ks s) (Over m ks s)

-- an instruction alone is in no row
single : (x : Instruction) → pieces_of (x ∷ []) ≡ ordinary ∷ []
single i.Swap = refl
single x = refl

pub one_step : (x : Instruction) (n m : ℕ) → ((at : Site) (s : Shape) → flow_of at x s ≡ replaces at n m s) → Replaces n m (straight (x ∷ []))
one_step x n m h e s ks pc =
    subst (λ ps. StraightBy ps pc (x ∷ []) (Over n ks s) (Over m ks s)) (sym (single x))
    (Over m ks s, (as_value, tt, tt, λ r. h (site_by ordinary as_value r pc) (Over n ks s) ∙ pops_pushed n ks _), refl)

-- the kinds over which a call's values lie
abbrev pub left : Option ℕ → List Kind → List Kind
left (Some n) ks = pushed n ks
left None ks = group None ∷ ks

pub counted_left : (n : Option ℕ) (ks : List Kind) (F : List Kind → Flow) → pop_counted n (left n ks) F ≡ F ks
counted_left (Some n) ks F = pops_pushed n ks F
counted_left None ks F = refl

pub call_step : (x : Instruction) (n : Option ℕ) → ((at : Site) (s : Shape) → flow_of at x s ≡ replaces_counted at n s) → (e : Around) (s : Shape)
    (ks : List Kind) (pc : ℕ) → Types pc e (straight (x ∷ [])) (with_operands (left n ks) s) (Over 1 ks s)
call_step x n h e s ks pc =
    subst (λ ps. StraightBy ps pc (x ∷ []) (with_operands (left n ks) s) (Over 1 ks s)) (sym (single x))
    (Over 1 ks s, (as_value, tt, tt, λ r. h (site_by ordinary as_value r pc) (with_operands (left n ks) s) ∙ counted_left n ks _), refl)

pub application_types : (k : Application) (x : List ℕ) (n : Option ℕ) (e : Around) (s : Shape) (ks : List Kind) (pc : ℕ) →
    Types pc e (straight (application_code k x n)) (with_operands (left n ks) s) (Over 1 ks s)
application_types applications.Method x n e s ks pc = call_step (i.CallMethod x n) n (λ at s. refl) e s ks pc
application_types applications.Filter x n e s ks pc =
    call_step (i.ApplyFilter x n Rattle.tm_syntax.specs.CacheNumbers.no_cache) n (λ at s. refl) e s ks pc
application_types applications.Test x n e s ks pc =
    call_step (i.PerformTest x n Rattle.tm_syntax.specs.CacheNumbers.no_cache) n (λ at s. refl) e s ks pc
application_types applications.NegatedTest x n e s ks pc =
    (Over 1 ks s, (as_value, tt, tt, λ r. counted_left n ks _), one_step i.Not 1 1 (λ at s. refl) e s ks (pc + 1))

unary_types : (op : UnaryOperator) → Replaces 1 1 (straight (unary_code op ∷ []))
unary_types unaries.Not = one_step i.Not 1 1 (λ at s. refl)
unary_types unaries.Negate = one_step i.Neg 1 1 (λ at s. refl)

add_step : Replaces 2 1 (straight (i.Add ∷ []))
add_step e s ks pc = (Over 1 ks s, (as_value, tt, tt, λ r. refl), refl)

-- the first instruction of code, or this one
abbrev first_of : Instruction → List Instruction → Instruction
first_of x [] = x
first_of x (y ∷ ys) = y

binary_types : (op : BinaryOperator) → Replaces 2 1 (straight (binary_code op))
binary_types binaries.NotIn = λ e s ks pc.
    (Over 1 ks s, (as_value, tt, tt, λ r. refl), one_step i.Not 1 1 (λ at s. refl) e s ks (pc + 1))
binary_types binaries.Add = add_step
binary_types op = one_step (first_of i.Not (binary_code op)) 2 1 (λ at s. refl)

-- a row of values becomes a list, and one of pairs a map, where there are any
row_types : (n : ℕ) → Replaces n (rows_of n) (straight (list_of_row n))
row_types zero = λ e s ks pc. refl
row_types (suc n) = one_step (i.BuildList (Some (suc n))) (suc n) 1 (λ at s. refl)

pub map_types : (n : ℕ) → Replaces (n + n) (rows_of n) (straight (map_of_row n))
map_types zero = λ e s ks pc. refl
map_types (suc n) = one_step (i.BuildKwargs (suc n)) (suc n + suc n) 1 (λ at s. refl)

-- How a row of arguments by their names ends.
abbrev pub Ends : RowEnd → Type 0
Ends end = (n : ℕ) → Replaces (n + n) (end.maps n) (end.code n)

pub row_ends : Ends row_end
row_ends n = map_types n

merged_types : (b : Bool) (n : ℕ) → Replaces n (merged_count b n) (straight (merged_code b n))
merged_types false n = λ e s ks pc. refl
merged_types true n = one_step (i.MergeKwargs n) n 1 (λ at s. refl)

-- one after the other
pub both_push : (m n k : ℕ) (c d : Fragment) → n + m ≡ k → Pushes m c → Pushes n d → Pushes k (c ⨾ d)
both_push m n k c d is h j e s ks pc =
    (Over m ks s, h e s ks pc, subst (λ t. Types (beyond pc c) e d (Over m ks s) t) (over_both n m k ks s is) (j e s (pushed m ks) (beyond pc c)))

-- what is pushed over so many, and then replaced with them
pub then_replace : (m n k l : ℕ) (c d : Fragment) → n + m ≡ k → Pushes n c → Replaces k l d → Replaces m l (c ⨾ d)
then_replace m n k l c d is h j e s ks pc =
    (Over k ks s, subst (λ t. Types pc e c (Over m ks s) t) (over_both n m k ks s is) (h e s (pushed m ks) pc), j e s ks (beyond pc c))

-- a text of a block as a value
pub self_block : (x : List ℕ) (e : Around) (s : Shape) (pc : ℕ) → Types pc e (straight (i.BeginCapture Capture ∷ i.CallBlock x ∷ i.EndCapture ∷ [])) s
    (with_operands (value ∷ s.part.operands) s)
self_block x e s pc =
    let inside = Rattle.tm_shapes.specs.Flows.with_captures (Capture ∷ s.part.captures) s in
    let pushed_one = with_operands (value ∷ s.part.operands) s in
    (inside, (as_value, tt, tt, λ r. refl), (inside, (as_value, tt, tt, λ r. refl), (pushed_one, (as_value, tt, tt, λ r. refl), refl)))

-- What a call is passed, given its parts.
passed_by : {n m : _} (end : RowEnd) (b : Bool) (before : ℕ) (given : Row_of-Argument n) (named : Row_of-Keyword m) (by_place by_name : Fragment)
    (lists : Fragment → Fragment) → Pushes (count given) by_place → Pushes (together end named) by_name →
    ((e : Around) (s : Shape) (ks : List Kind) (pc : ℕ) → Types pc e (lists by_name) (Over before ks s)
    (Over (count_lists before given (together end named)) ks s)) → (e : Around) (s : Shape) (ks : List Kind) (pc : ℕ) →
    Types pc e (passing_by end b before given named by_place by_name lists) (Over before ks s)
    (with_operands (left (count_by b (count given + together end named + before)) ks) s)
passed_by end false before given named by_place by_name lists h k l e s ks pc =
    let n = count given in
    let m = together end named in
    let then = beyond pc by_place in (
      Over (n + before) ks s,
      subst (λ t. Types pc e by_place (Over before ks s) t) (over_both n before (n + before) ks s refl) (h e s (pushed before ks) pc),
      subst (λ t. Types then e by_name (Over (n + before) ks s) t) (over_both m (n + before) (n + m + before) ks s (omega arith))
          (k e s (pushed (n + before) ks) then),
    )
passed_by end true before given named by_place by_name lists h k l e s ks pc =
    let n = count_lists before given (together end named) in
    (Over n ks s, l e s ks pc, (with_operands (group None ∷ ks) s, (as_value, tt, tt, λ r. pops_pushed n ks _), refl))

merging_types : {m : _} (end : RowEnd) (named : Row_of-Keyword m) (maps : Fragment) → Pushes (count_maps end 0 named) maps →
    Pushes (together end named) (merging end named maps)
merging_types end named maps h e s ks pc =
    (Over (count_maps end 0 named) ks s, h e s ks pc, merged_types (has_spread_keyword named) (count_maps end 0 named) e s ks (beyond pc maps))

pub passing_types : {n m : _} (end : RowEnd) (before : ℕ) (given : Row_of-Argument n) (named : Row_of-Keyword m) →
    Pushes (count given) (arguments_code given) → Pushes (count_maps end 0 named) (keywords_code end 0 named) →
    ((more : ℕ) (by_name : Fragment) → Pushes more by_name → (e : Around) (s : Shape) (ks : List Kind) (pc : ℕ) →
    Types pc e (lists_code before given more by_name) (Over before ks s) (Over (count_lists before given more) ks s)) →
    (e : Around) (s : Shape) (ks : List Kind) (pc : ℕ) → Types pc e (passing end before given named (arguments_code given) (keywords_code end 0 named)
    (λ by_name. lists_code before given (together end named) by_name)) (Over before ks s)
    (with_operands (left (passed_count end before given named) ks) s)
passing_types end before given named h k l e s ks pc =
    let by_name = merging end named (keywords_code end 0 named) in
    let named_one = merging_types end named (keywords_code end 0 named) k in
    passed_by end (has_spread given) before given named (arguments_code given) by_name _ h named_one
    (l (together end named) by_name named_one) e s ks pc

chosen : (b : Bool) (F : Flow) → choose b (λ _. F) (λ _. F) ≡ F
chosen true F = refl
chosen false F = refl

mutual
  pub expr_types : (x : Expr) → Pushes 1 (expr_code x)
  expr_types (Var x) = one_step (i.Lookup x) 0 1 (λ at s. refl)
  expr_types (Const v) = λ e s ks pc. (Over 1 ks s, (as_value, tt, tt, λ r. chosen (is_zero v) (leads (pc + 1) (Over 1 ks s))), refl)
  expr_types (List' _ es) =
      then_replace 0 (count_exprs es) (count_exprs es) 1 (exprs_code es) (straight (i.BuildList (Some (count_exprs es)) ∷ [])) (omega arith)
      (exprs_types es)
      (one_step (i.BuildList (Some (count_exprs es))) (count_exprs es) 1 (λ at s. refl))
  expr_types (Tuple' _ es) =
      then_replace 0 (count_exprs es) (count_exprs es) 1 (exprs_code es) (straight (i.BuildTuple (count_exprs es) ∷ [])) (omega arith)
      (exprs_types es)
      (one_step (i.BuildTuple (count_exprs es)) (count_exprs es) 1 (λ at s. refl))
  expr_types (Map' _ ps) =
      let n = count_pairs ps in
      then_replace 0 (n + n) (n + n) 1 (pairs_code ps) (straight (i.BuildMap n ∷ [])) (omega arith) (pairs_types ps)
      (one_step (i.BuildMap n) (n + n) 1 (λ at s. refl))
  expr_types (Call' f _ given _ named) = λ e s ks pc. (
    with_operands (left (passed_count row_end 0 given named) ks) s,
    passing_types row_end 0 given named (arguments_types given) (keywords_types row_end row_ends 0 named)
        (λ more by_name h. lists_types 0 given more by_name h) e s ks pc,
    call_step (i.CallFunction f (passed_count row_end 0 given named)) (passed_count row_end 0 given named) (λ at s. refl) e s ks _,
  )
  expr_types (SelfBlock x) = λ e s ks pc. self_block x e (with_operands ks s) pc
  expr_types (unary op a) = then_replace 0 1 1 1 (expr_code a) (straight (unary_code op ∷ [])) (omega arith) (expr_types a) (unary_types op)
  expr_types (chained a _ ss) = then_replace 0 1 1 1 (expr_code a) (steps_code ss) (omega arith) (expr_types a) (steps_types ss)
  expr_types (conditional a _ cs) = conditions_types cs (expr_code a) (expr_types a)

  conditions_types : {n : _} (cs : Row_of-Condition n) (c : Fragment) → Pushes 1 c → Pushes 1 (conditions_code cs c)
  conditions_types no_condition c h = h
  conditions_types (with_condition x y more) c h =
      conditions_types more (expr_code x ⨾ either c (expr_code y)) (λ e s ks pc. (
        Over 1 ks s,
        expr_types x e s ks pc,
        (
          with_operands ks s,
          Over 1 ks s,
          (
            with_operands ks s,
            (value, ks, refl, refl, refl, refl),
            h (record e { out = with_operands ks s }) s ks _,
          ),
          refl,
          expr_types y e s ks _,
        ),
      ))

  pub exprs_types : {n : _} (es : Row_of-Expr n) → Pushes (count_exprs es) (exprs_code es)
  exprs_types no_expr = λ e s ks pc. refl
  exprs_types (expr x more) =
      both_push 1 (count_exprs more) (count_exprs more + 1) (expr_code x) (exprs_code more) refl (expr_types x) (exprs_types more)

  pairs_types : {n : _} (ps : Row_of-Pair n) → Pushes (count_pairs ps + count_pairs ps) (pairs_code ps)
  pairs_types no_pair = λ e s ks pc. refl
  pairs_types (with_pair x y more) =
      let n = count_pairs more in
      both_push 1 (n + n + 1) (n + 1 + (n + 1)) (expr_code x) (expr_code y ⨾ pairs_code more) (omega arith) (expr_types x)
      (both_push 1 (n + n) (n + n + 1) (expr_code y) (pairs_code more) refl (expr_types y) (pairs_types more))

  argument_types : (a : Argument) → Pushes 1 (argument_code a)
  argument_types (plain a) = expr_types a
  argument_types (spread a) = expr_types a

  pub arguments_types : {n : _} (given : Row_of-Argument n) → Pushes (count given) (arguments_code given)
  arguments_types no_argument = λ e s ks pc. refl
  arguments_types (argument a more) =
      both_push 1 (count more) (count more + 1) (argument_code a) (arguments_code more) refl (argument_types a) (arguments_types more)

  listed_types : (before : ℕ) (a : Argument) (e : Around) (s : Shape) (ks : List Kind) (pc : ℕ) →
      Types pc e (listed_code before a) (Over before ks s) (Over (row_after before a) (pushed (lists_at before a) ks) s)
  listed_types before (plain a) e s ks pc =
      subst (λ t. Types pc e (expr_code a) (Over before ks s) t) (over_both 1 before (before + 1) ks s (omega arith))
      (expr_types a e s (pushed before ks) pc)
  listed_types before (spread a) e s ks pc =
      let then = beyond pc (straight (list_of_row before)) in (
        Over (rows_of before) ks s,
        row_types before e s ks pc,
        subst (λ t. Types then e (expr_code a) (Over (rows_of before) ks s) t) (over_both 1 (rows_of before) (rows_of before + 1) ks s (omega arith))
            (expr_types a e s (pushed (rows_of before) ks) then),
      )

  pub lists_types : {n : _} (before : ℕ) (given : Row_of-Argument n) (more : ℕ) (by_name : Fragment) → Pushes more by_name → (e : Around) (s : Shape)
      (ks : List Kind) (pc : ℕ) → Types pc e (lists_code before given more by_name) (Over before ks s) (Over (count_lists before given more) ks s)
  lists_types before no_argument more by_name h e s ks pc =
      then_replace before more (before + more) (rows_of (before + more)) by_name (straight (list_of_row (before + more))) (omega arith) h
      (row_types (before + more)) e s ks pc
  lists_types before (argument a rest) more by_name h e s ks pc =
      let below = pushed (lists_at before a) ks in
      let then = beyond pc (listed_code before a) in
      let n = count_lists (row_after before a) rest more in (
        Over (row_after before a) below s,
        listed_types before a e s ks pc,
        subst (λ t. Types then e (lists_code (row_after before a) rest more by_name) (Over (row_after before a) below s) t)
            (over_both n (lists_at before a) (lists_at before a + n) ks s (omega arith))
            (lists_types (row_after before a) rest more by_name h e s below then),
      )

  keyword_types : (before : ℕ) (k : Keyword) (e : Around) (s : Shape) (ks : List Kind) (pc : ℕ) → Types pc e (keyword_code before k)
      (Over (before + before) ks s) (Over (keywords_after before k + keywords_after before k) (pushed (maps_at before k) ks) s)
  keyword_types before (keyword x a) e s ks pc =
      let n = before + before in (
        Over 1 (pushed n ks) s,
        (Over 1 (pushed n ks) s, (as_value, tt, tt, λ r. refl), refl),
        subst (λ t. Types (pc + 1) e (expr_code a) (Over 1 (pushed n ks) s) t)
            (ap (λ x. with_operands x s) (pushed_both 2 n ks ∙ ap (λ k. pushed k ks) (omega arith)))
            (expr_types a e s (value ∷ pushed n ks) (pc + 1)),
      )
  keyword_types before (spread_keywords a) e s ks pc =
      let then = beyond pc (straight (map_of_row before)) in (
        Over (rows_of before) ks s,
        map_types before e s ks pc,
        subst (λ t. Types then e (expr_code a) (Over (rows_of before) ks s) t) (over_both 1 (rows_of before) (rows_of before + 1) ks s (omega arith))
            (expr_types a e s (pushed (rows_of before) ks) then),
      )

  pub keywords_types : {n : _} (end : RowEnd) → Ends end → (before : ℕ) (named : Row_of-Keyword n) (e : Around) (s : Shape)
      (ks : List Kind) (pc : ℕ) → Types pc e (keywords_code end before named) (Over (before + before) ks s) (Over (count_maps end before named) ks s)
  keywords_types end h before no_keyword e s ks pc = h before e s ks pc
  keywords_types end h before (keyword_and k more) e s ks pc =
      let below = pushed (maps_at before k) ks in
      let now = keywords_after before k in
      let then = beyond pc (keyword_code before k) in
      let n = count_maps end now more in (
        Over (now + now) below s,
        keyword_types before k e s ks pc,
        subst (λ t. Types then e (keywords_code end now more) (Over (now + now) below s) t)
            (over_both n (maps_at before k) (maps_at before k + n) ks s (omega arith)) (keywords_types end h now more e s below then),
      )

  links_types : {n : _} (op : BinaryOperator) (cs : Row_of-Comparison n) (e : Around) (s : Shape) (ks : List Kind) (pc : ℕ) →
      Types pc (record e { out = Over 2 ks s }) (links_code op cs) (Over 2 ks s) (Over 1 ks s)
  links_types op no_comparison e s ks pc = binary_types op (record e { out = Over 2 ks s }) s ks pc
  links_types op (with_comparison op1 a more) e s ks pc =
      let out = record e { out = Over 2 ks s } in (
        Over 2 ks s,
        (Over 2 ks s, (as_value, tt, tt, λ r. refl), refl),
        (
          Over 1 ks s,
          (value, value ∷ ks, refl, refl, refl, refl),
          (Over 2 ks s, expr_types a out s (value ∷ ks) (pc + 1 + 1), links_types op1 more e s ks (beyond (pc + 1 + 1) (expr_code a))),
        ),
      )

  pub steps_types : {n : _} (ss : Row_of-Step n) → Replaces 1 1 (steps_code ss)
  steps_types no_step = λ e s ks pc. refl
  steps_types (step x more) = λ e s ks pc. (Over 1 ks s, step_types x e s ks pc, steps_types more e s ks (beyond pc (step_code x)))

  pub step_types : (x : Step) → Replaces 1 1 (step_code x)
  step_types (Attribute x) = one_step (i.GetAttr x) 1 1 (λ at s. refl)
  step_types (item a) = then_replace 1 1 2 1 (expr_code a) (straight (i.GetItem ∷ [])) refl (expr_types a) (one_step i.GetItem 2 1 (λ at s. refl))
  step_types (Apply' k x _ given _ named) = λ e s ks pc. (
    with_operands (left (passed_count row_end 1 given named) ks) s,
    passing_types row_end 1 given named (arguments_types given) (keywords_types row_end row_ends 0 named)
        (λ more by_name h. lists_types 1 given more by_name h) e s ks pc,
    application_types k x (passed_count row_end 1 given named) e s ks _,
  )
  step_types (Called _ given _ named) = λ e s ks pc. (
    with_operands (left (passed_count row_end 1 given named) ks) s,
    passing_types row_end 1 given named (arguments_types given) (keywords_types row_end row_ends 0 named)
        (λ more by_name h. lists_types 1 given more by_name h) e s ks pc,
    call_step (i.CallObject (passed_count row_end 1 given named)) (passed_count row_end 1 given named) (λ at s. refl) e s ks _,
  )
  step_types (slice a b c) =
      then_replace 1 1 2 1 (expr_code a) (expr_code b ⨾ expr_code c ⨾ straight (i.Slice ∷ [])) refl (expr_types a)
      (then_replace 2 1 3 1 (expr_code b) (expr_code c ⨾ straight (i.Slice ∷ [])) refl (expr_types b)
      (then_replace 3 1 4 1 (expr_code c) (straight (i.Slice ∷ [])) refl (expr_types c) (one_step i.Slice 4 1 (λ at s. refl))))
  step_types (binary op a) = then_replace 1 1 2 1 (expr_code a) (straight (binary_code op)) refl (expr_types a) (binary_types op)
  step_types (compare op a _ cs) = λ e s ks pc.
      let then = beyond pc (expr_code a) in
      let other = beyond then (links_code op cs) + 1 in (
        Over 2 ks s,
        expr_types a e s (value ∷ ks) pc,
        (
          Over 2 ks s,
          Over 1 ks s,
          links_types op cs e s ks then,
          refl,
          (Over 2 ks s, (as_value, tt, tt, λ r. refl), one_step i.DiscardTop 1 0 (λ at s. refl) e s (value ∷ ks) (other + 1)),
        ),
      )
  step_types (and_then a) = λ e s ks pc. (
    with_operands ks s,
    (value, ks, refl, refl, refl, refl),
    expr_types a (record e { out = Over 1 ks s }) s ks (pc + 1),
  )
  step_types (or_else a) = λ e s ks pc. (
    with_operands ks s,
    (value, ks, refl, refl, refl, refl),
    expr_types a (record e { out = Over 1 ks s }) s ks (pc + 1),
  )
