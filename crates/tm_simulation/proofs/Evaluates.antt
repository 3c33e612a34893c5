-- What expressions and targets keep, and of which kinds their faults are.
use Rattle.std.proofs.Common.{◌≡◌, ℕ, zero, suc, ◌+◌, List, [], ◌∷◌, length, Option, Some, None, Bool, true, false, Ok, nat_lt, ◌++◌}
use Rattle.std.proofs.Common.{refl, ap, arith}
use Rattle.std.specs.Prelude.{if◌then◌else◌}
use Rattle.tm_values.specs.Answer.{invalid}
use Rattle.tm_values.specs.Val.{Val, text}
use Rattle.tm_values.specs.declared.error.ErrorKind.{ErrorKind}
use Rattle.tm_trees.specs.Trees.{UnaryOperator, BinaryOperator, Expr, Var, Const, List', Tuple', Map', Call', SelfBlock, Row_of-Expr, no_expr, expr}
use Rattle.tm_trees.specs.Trees.{Row_of-Pair, no_pair, Row_of-Argument, no_argument, argument, Row_of-Keyword, no_keyword, keyword_and, Row_of-Step}
use Rattle.tm_trees.specs.Trees.{no_step, step, Row_of-Condition, no_condition, Argument, Application, Step, Attribute, Apply', Called}
use Rattle.tm_trees.specs.Trees.{Row_of-Comparison, no_comparison, AssignmentTarget, To, Items, Member, Row_of-AssignmentTarget, no_target, target}
use Rattle.tm_trees.specs.Trees.{Assignment}
use Rattle.tm_trees.specs.Trees.unaries
use Rattle.tm_trees.specs.Trees.binaries
use Rattle.tm_trees.specs.Trees.applications
use Rattle.tm_syntax.specs.Code.{pass_flags, has_spread, has_spread_keyword}
use Rattle.tm_syntax.specs.Forms.{unary, chained, conditional, with_condition, with_comparison, with_pair, plain, spread, keyword}
use Rattle.tm_syntax.specs.Forms.{spread_keywords, item, slice, binary, compare, and_then, or_else}
use Rattle.tm_definitions.specs.Spread.{merged}
use Rattle.tm_definitions.specs.Members.{settable}
use Rattle.tm_meaning.specs.World.{World, HostValue, loop_scope, next_turn, cleared, items_over, Res, bind, answered, tick, depth}
use Rattle.tm_meaning.specs.World.{looked_up}
use Rattle.tm_meaning.specs.World.{lookup, records_of, with_member, set_member}
use Rattle.tm_meaning.specs.Calls.{Callee, NestedCall, undone, wrapped, Asked, has, refused, runs, recurs, applied}
use Rattle.tm_meaning.specs.Meaning.{RowValues, text_after, Run, Outcome, Ending, done, leave, next, fault, Under, audible, value_of, value_after}
use Rattle.tm_meaning.specs.Meaning.{in_place_of, after, block_tag, eval, eval_all, eval_pairs}
use Rattle.tm_meaning.specs.Operators.{truth, applied_unary, operated, applied_binary}
use Rattle.tm_meaning.specs.Meaning.{eval_argument, eval_arguments, eval_keywords, eval_lists, one_counted, selected, loop_items}
use Rattle.tm_meaning.specs.Operators.{listed, mapped, merged_by, merged_values, items_of_lists, named_by, passed_by}
use Rattle.tm_meaning.specs.Meaning.{under_condition, eval_conditions, eval_step, eval_links, eval_steps, assign, assign_all, set_to}
use Rattle.tm_meaning.specs.Meaning.{filtered, set_each, capturing}
use Rattle.tm_meaning.specs.Operators.{turned}
use Rattle.tm_meaning.specs.declared.wrapping.Wrapping.{Wrapping}
use Rattle.tm_simulation.specs.Chains.{Arises, wrapped as wraps}
use Rattle.tm_simulation.proofs.Raised.{truth_raises, unary_raises, binary_raises, attribute_raises, item_raises, settable_raises}
use Rattle.tm_simulation.proofs.Raised.{Raises, sliced_raises, merged_raises, spread_items_raises}
use Rattle.tm_simulation.specs.Kept.{Differs, in_closure_too}
use Rattle.tm_simulation.proofs.Advances.{AdvancesBut, Advances, KeptBut, advances_then, lasts_by_namespaces, kept_same, kept_then}
use Rattle.tm_simulation.proofs.Advances.{kept_lasting, kept_advances}
use Rattle.tm_simulation.proofs.RunAdvances.{in_stream}
use Rattle.tm_simulation.proofs.Advances.{store_kept, kept_cleared}
use Rattle.tm_simulation.proofs.RunAdvances.{mark_after, in_loop_of, kept_left, kept_turned, advances_around}
use Rattle.tm_simulation.proofs.RunAdvances.{opened, opened_kept}
use Rattle.tm_simulation.proofs.Gives.{GivesBut, RunEnds, run_ends_as, EndingKeepsBut, EndingKeeps, OutcomeKeepsBut, ends_as, gives_bind}
use Rattle.tm_simulation.proofs.Gives.{gives_kept}
use Rattle.tm_simulation.proofs.Gives.{choose_gives, tick_gives}
use Rattle.tm_simulation.proofs.Gives.{ticked_gives}
use Rattle.tm_simulation.proofs.Gives.{operation_gives, ends_here, ends_fault, ends_then, choose_ends, opened_gives}
use Rattle.tm_simulation.proofs.Asks.{unpacked_gives, applied_asks, AsksBut, lookup_gives, items_give, named_asks, callee_asks, block_asks}
use Rattle.tm_meaning.specs.declared.wrapping.Wrapping.TheVariants as wrapping

-- ---------------------------------------------------------------- operators
pub truth_gives : (i : Differs) (host : HostValue) (v : Val) (w : World) → GivesBut i host w (truth host v w)
truth_gives i host v w = operation_gives _ host _ w (truth_raises host.undefined v)

pub unary_gives : (i : Differs) (host : HostValue) (op : UnaryOperator) (v : Val) (w : World) →
    GivesBut i host w (applied_unary host op v w)
unary_gives i host op v w = operation_gives _ host _ w (unary_raises op host.undefined v)

pub operated_gives : (i : Differs) (host : HostValue) (op : BinaryOperator) (x y : Val) (w : World) →
    GivesBut i host w (operated host op x y w)
operated_gives i host op x y w = operation_gives _ host _ w (binary_raises op host.undefined (records_of w) x y)

pub binary_gives : (i : Differs) (host : HostValue) (op : BinaryOperator) (x y : Val) (w : World) →
    GivesBut i host w (applied_binary host op x y w)
binary_gives i host binaries.NotIn x y w =
    gives_bind _ host w (operated host binaries.In x y w) _ (operated_gives _ host binaries.In x y w) (λ v world1.
    ticked_gives _ host world1 _ (λ world2. unary_gives _ host unaries.Not v world2))
binary_gives i host op x y w = operated_gives _ host op x y w

pub looked_up_gives : (i : Differs) (host : HostValue) (x : List ℕ) (w : World) → GivesBut i host w (looked_up host x w)
looked_up_gives i host x w = gives_bind _ host w (lookup host x w) _ (lookup_gives _ host x w) (λ found world1. kept_same world1)

-- ---------------------------------------------------------------- members of namespaces
member_long : (n : ℕ) (x : List ℕ) (v : Val) (ns : List (List (Val × Val))) → length (with_member n x v ns) ≡ length ns
member_long n x v [] = refl
member_long zero x v (ps ∷ more) = refl
member_long (suc n) x v (ps ∷ more) = ap suc (member_long n x v more)

pub member_gives : (i : Differs) (host : HostValue) (x : List ℕ) (v o : Val) (w : World) → GivesBut i host w (set_member x v o w)
member_gives i host x v o w =
    gives_bind _ host w (answered (settable (records_of w) o) w) _ (operation_gives _ host _ w (settable_raises (records_of w) o))
    (λ n world1.
    kept_lasting (lasts_by_namespaces world1 (with_member n x v world1.namespaces) (omega (arith, member_long n x v world1.namespaces)))
    refl refl refl refl)

-- ---------------------------------------------------------------- items under a condition
one_more_raises : (fits : Bool) (v : Val) → Raises (if fits then Ok v else invalid)
one_more_raises true v = tt
one_more_raises false v = refl

pub one_counted_gives : (i : Differs) (host : HostValue) (n : ℕ) (w : World) → GivesBut i host w (one_counted n w)
one_counted_gives i host n w =
    ticked_gives _ host w _ (λ world1. ticked_gives _ host world1 _
    (λ world2. ticked_gives _ host world2 _ (λ world3. operation_gives _ host _ world3 (one_more_raises _ _))))

-- The pass over items leaves what lies around its loop, for whose scope there was room.
pub selected_gives : {i : Differs} (host : HostValue) (w : World) → nat_lt (depth w.scopes) host.limit ≡ true →
    (condition : Val → World → Res Val) → ((v : Val) (x : World) → GivesBut i host x (condition v x)) →
    (n : ℕ) (vs : List Val) (x : World) → KeptBut i (in_loop_of pass_flags w) x →
    GivesBut i host w (selected host condition n vs x)
selected_gives host w room condition given n [] x j =
    gives_kept host w x (tick x) _ (advances_around pass_flags w x room j) (tick_gives _ host x) (λ _ world1 h.
    kept_left pass_flags w (next_turn world1) (kept_turned pass_flags w world1 (kept_then j h)))
selected_gives {i = i} host w room condition given n (v ∷ vs) x j =
    gives_kept host w x (tick x) _ (advances_around pass_flags w x room j) (tick_gives _ host x) (λ _ world1 h1.
    let y = cleared (next_turn world1) in
    let kept_y : KeptBut i (in_loop_of pass_flags w) y = kept_cleared (kept_turned pass_flags w world1 (kept_then j h1)) in
    let around : (z : World) → KeptBut i y z → AdvancesBut i host w z =
    λ z kz. advances_around pass_flags w z room (kept_then kept_y kz) in
    gives_kept host w y (condition v y) _ (around y (kept_same y)) (given v y) (λ c world2 h2.
    gives_kept host w world2 (tick world2) _ (around world2 h2) (tick_gives _ host world2) (λ _ world3 h3.
    gives_kept host w world3 (truth host c world3) _ (around world3 (kept_then h2 h3)) (truth_gives _ host c world3) (λ b world4 h4.
    let kept4 = kept_then kept_y (kept_then h2 (kept_then h3 h4)) in
    let around4 : AdvancesBut i host w world4 = advances_around pass_flags w world4 room kept4 in
    choose_gives _ host w b _ _
    (gives_kept host w world4 (one_counted n world4) _ around4 (one_counted_gives _ host n world4) (λ _ world5 h5.
    gives_kept host w world5 (tick world5) _ (advances_then around4 (kept_advances h5)) (tick_gives _ host world5) (λ _ world6 h6.
    gives_bind _ host w (selected host condition (n + 1) vs world6) _
    (selected_gives host w room condition given (n + 1) vs world6 (kept_then kept4 (kept_then h5 h6))) (λ us world7. kept_same world7))))
    (gives_kept host w world4 (tick world4) _ around4 (tick_gives _ host world4)
    (λ _ world5 h5. selected_gives host w room condition given n vs world5 (kept_then kept4 h5)))))))

-- ---------------------------------------------------------------- after a run
wrap_arises : (host : HostValue) (wrap : Option Wrapping) (chain : List ErrorKind) → Arises host chain → Arises host (wrapped wrap chain)
wrap_arises host None chain h = h
wrap_arises host (Some wrapping.EvalBlock) chain h = wraps refl h
wrap_arises host (Some wrapping.BadInclude) chain h = wraps refl h

value_by : {i : Differs} (host : HostValue) (w world1 : World) (c : NestedCall) (e : Ending) (o : Outcome) →
    EndingKeeps host (in_stream o.world.stream world1) e o.world →
    ((world2 : World) → Advances host (in_stream world2.stream world1) world2 → KeptBut i w (undone c.undo world2)) →
    GivesBut i host w (value_after e c o)
value_by host w world1 c (done vs) o h k = k o.world (kept_advances h)
value_by host w world1 c leave o h k = k o.world (kept_advances h)
value_by host w world1 c next o h k = k o.world (kept_advances h)
value_by host w world1 c (fault chain) o h k = (kept_advances (k o.world h.0), wrap_arises host c.wrap chain h.1)

text_by : {i : Differs} (host : HostValue) (w world1 : World) (e : Ending) (o : Outcome) → KeptBut i w world1 →
    EndingKeepsBut i host world1 e o.world → GivesBut i host w (text_after e o)
text_by host w world1 (done vs) o h k = kept_then h k
text_by host w world1 leave o h k = kept_then h k
text_by host w world1 next o h k = kept_then h k
text_by host w world1 (fault chain) o h k = (advances_then (kept_advances h) k.0, k.1)

place_by : {i : Differs} (host : HostValue) (w world1 : World) (c : NestedCall) (run : Run) (e : Ending) (o : Outcome) →
    EndingKeeps host (in_stream o.world.stream world1) e o.world →
    ((world2 : World) → Advances host (in_stream world2.stream world1) world2 → KeptBut i w (undone c.undo world2)) →
    OutcomeKeepsBut i host run.parent w (after e c run o)
place_by host w world1 c run (done vs) o h k = ends_here host w _ run o.text (k o.world (kept_advances h))
place_by host w world1 c run leave o h k = ends_here host w _ run o.text (k o.world (kept_advances h))
place_by host w world1 c run next o h k = ends_here host w _ run o.text (k o.world (kept_advances h))
place_by host w world1 c run (fault chain) o h k =
    ends_fault host w _ run o.text (wrapped c.wrap chain) (kept_advances (k o.world h.0)) (wrap_arises host c.wrap chain h.1)

-- ---------------------------------------------------------------- arguments
pub merged_values_give : (i : Differs) (host : HostValue) (vs : List Val) (w : World) → GivesBut i host w (merged_values host vs w)
merged_values_give i host vs w =
    gives_bind _ host w (answered (merged host.undefined (records_of w) vs) w) _
    (operation_gives _ host _ w (merged_raises host.undefined (records_of w) vs)) (λ ps world1. kept_same world1)

pub list_items_give : (i : Differs) (host : HostValue) (vs : List Val) (w : World) → GivesBut i host w (items_of_lists host vs w)
list_items_give i host vs w = operation_gives _ host _ w (spread_items_raises host.undefined (records_of w) vs)

pub listed_gives : (i : Differs) (host : HostValue) (vs : List Val) (w : World) → GivesBut i host w (listed vs w)
listed_gives i host [] w = kept_same w
listed_gives i host (v ∷ vs) w = ticked_gives _ host w _ (λ world1. kept_same world1)

pub mapped_gives : (i : Differs) (host : HostValue) (ps : List (Val × Val)) (w : World) → GivesBut i host w (mapped ps w)
mapped_gives i host [] w = kept_same w
mapped_gives i host (p ∷ ps) w = ticked_gives _ host w _ (λ world1. kept_same world1)

pub merged_by_gives : (i : Differs) (b : Bool) (host : HostValue) (ms : List Val) (w : World) → GivesBut i host w (merged_by b host ms w)
merged_by_gives i false host ms w = kept_same w
merged_by_gives i true host ms w =
    ticked_gives _ host w _ (λ world1.
    gives_bind _ host world1 (merged_values host ms world1) _ (merged_values_give _ host ms world1) (λ v world2. kept_same world2))

-- what values of arguments give, whatever the world
abbrev pub GivenBut : Differs → HostValue → (World → Res (List Val)) → Type 0
GivenBut i host value = (w : World) → GivesBut i host w (value w)

abbrev pub Given : HostValue → (World → Res (List Val)) → Type 0
Given host value = GivenBut in_closure_too host value

pub named_by_gives : (i : Differs) {n : _} → (host : HostValue) (ks : Row_of-Keyword n) (maps : World → Res (List Val)) →
    GivenBut i host maps →
    GivenBut i host (named_by host ks maps)
named_by_gives i host ks maps given w =
    gives_bind _ host w (maps w) _ (given w) (λ ms world1. merged_by_gives _ (has_spread_keyword ks) host ms world1)

pub passed_by_gives : (i : Differs) (b : Bool) (host : HostValue) (before : List Val) (by_place by_name : World → Res (List Val))
    (lists : (World → Res (List Val)) → World → Res (List Val)) → GivenBut i host by_place → GivenBut i host by_name →
    GivenBut i host (lists by_name) →
    GivenBut i host (passed_by b host before by_place by_name lists)
passed_by_gives i false host before by_place by_name lists h k m w =
    gives_bind _ host w (by_place w) _ (h w) (λ vs world1.
    gives_bind _ host world1 (by_name world1) _ (k world1) (λ ks world2. kept_same world2))
passed_by_gives i true host before by_place by_name lists h k m w =
    gives_bind _ host w (lists by_name w) _ (m w) (λ ls world1.
    ticked_gives _ host world1 _ (λ world2. list_items_give _ host ls world2))

-- what a test answered, turned round or not
pub turned_gives : (i : Differs) (host : HostValue) (k : Application) (v : Val) (w : World) → GivesBut i host w (turned host k v w)
turned_gives i host applications.Method v w = kept_same w
turned_gives i host applications.Filter v w = kept_same w
turned_gives i host applications.Test v w = kept_same w
turned_gives i host applications.NegatedTest v w = ticked_gives _ host w _ (λ world1. unary_gives _ host unaries.Not v world1)

-- What every expression gives by: its parts, each of which keeps what it has to.
ruleset gives = (
  gives_bind,
  ticked_gives,
  choose_gives,
  kept_same,
  operation_gives,
  truth_gives,
  unary_gives,
  operated_gives,
  binary_gives,
  looked_up_gives,
  member_gives,
  listed_gives,
  mapped_gives,
  turned_gives,
  attribute_raises,
  item_raises,
  sliced_raises,
  named_asks,
  callee_asks,
  applied_asks,
  unpacked_gives,
  items_give,
  store_kept,
)

-- ---------------------------------------------------------------- trees
-- where the test, what is guarded and what stands for it do
pub condition_gives : (i : Differs) (host : HostValue) (test guarded other : World → Res Val) → ((w : World) → GivesBut i host w (test w)) →
    ((w : World) → GivesBut i host w (guarded w)) → ((w : World) → GivesBut i host w (other w)) →
    (w : World) → GivesBut i host w (under_condition host test guarded other w)
condition_gives i host test guarded other first given last w =
    gives_bind _ host w (test w) _ (first w) (λ v world1.
    ticked_gives _ host world1 _ (λ world2.
    gives_bind _ host world2 (truth host v world2) _ (truth_gives _ host v world2) (λ b world3.
    choose_gives _ host world3 b _ _ (gives_bind _ host world3 (guarded world3) _ (given world3)
    (λ x world4. ticked_gives _ host world4 _ (λ world5. kept_same world5))) (last world3))))

module _ {i : Differs} (u : Under)
    (nest_ends : (k : Callee) (heard : Bool) (out : List ℕ) (w : World) → RunEnds u.host w (u.nests k heard out w))
    (again_ends : (n : ℕ) (items : List Val) (run : Run) (out : List ℕ) (w : World) →
    OutcomeKeepsBut i u.host run.parent w (u.again n items run out w)) where
  pub value_gives : (w : World) (run : Run) (q : Asked) → AsksBut i u.host w q → GivesBut i u.host w (value_of u run q)
  value_gives w run (has v world1) h = h
  value_gives w run (refused chain world1) h = h
  value_gives w run (recurs n items world1) h =
      let o = u.again n items (capturing true run) [] world1 in
      text_by u.host w world1 o.ending o h (ends_as u.host world1 o (again_ends n items (capturing true run) [] world1))
  value_gives w run (runs c world1) h =
      let o = u.nests c.callee true [] world1 in
      value_by u.host w world1 c o.ending o (run_ends_as u.host world1 o (nest_ends c.callee true [] world1)) h.2

  pub place_ends : (w : World) (run : Run) (out : List ℕ) (q : Asked) → AsksBut i u.host w q →
      OutcomeKeepsBut i u.host run.parent w (in_place_of u run out q)
  place_ends w run out (has v world1) h = ends_here u.host w world1 run out h
  place_ends w run out (refused chain world1) h = ends_fault u.host w world1 run out chain h.0 h.1
  place_ends w run out (recurs n items world1) h =
      ends_then u.host w world1 (u.again n items run out world1) h (again_ends n items run out world1)
  place_ends w run out (runs c world1) h =
      let o = u.nests c.callee (audible run) out world1 in
      place_by u.host w world1 c run o.ending o (run_ends_as u.host world1 o (nest_ends c.callee (audible run) out world1)) h.2

  pub tag_ends : (run : Run) (b : List ℕ) (out : List ℕ) (w : World) → OutcomeKeepsBut i u.host run.parent w (block_tag u run b out w)
  tag_ends run b out w =
      choose_ends u.host w _ _ _ (place_ends w run out _ (block_asks _ u.host b w)) (ends_here u.host w w run out (kept_same w))

  mutual
    pub eval_gives : (run : Run) (e : Expr) (w : World) → GivesBut i u.host w (eval u run e w)
    eval_gives run (Var x) w = search gives
    eval_gives run (Const v) w = search gives
    eval_gives run (List' _ es) w = let items = all_give run es in search (gives, items)
    eval_gives run (Tuple' _ es) w = let items = all_give run es in search (gives, items)
    eval_gives run (Map' _ ps) w = let pairs = pairs_give run ps in search (gives, pairs)
    eval_gives run (Call' f _ given _ named) w =
        let by_name = named_by u.host named (λ world1. eval_keywords u run mapped [] named world1) in
        let names = named_by_gives _ u.host named _ (λ world1. keywords_give run mapped (mapped_gives _ u.host) [] named world1) in
        gives_bind _ u.host w (passed_by (has_spread given) u.host [] (λ world1. eval_arguments u run given world1) by_name
        (λ by_name1 world1. eval_lists u run [] given by_name1 world1) w) _
        (passed_by_gives _ (has_spread given) u.host [] _ by_name _ (λ world1. arguments_give run given world1) names
        (λ world1. lists_give run [] given by_name names world1) w) (λ vs world1.
        ticked_gives _ u.host world1 _ (λ world2. value_gives world2 run _ (named_asks _ u.host f vs world2)))
    eval_gives run (SelfBlock b) w =
        ticked_gives _ u.host w _ (λ world1.
        let o = block_tag u (capturing true run) b [] world1 in
        gives_bind _ u.host world1 (text_after o.ending o) _
        (text_by u.host world1 world1 o.ending o (kept_same world1) (ends_as u.host world1 o (tag_ends (capturing true run) b [] world1)))
        (λ v world2. ticked_gives _ u.host world2 _ (λ world3. kept_same world3)))
    eval_gives run (unary op a) w = let value = eval_gives run a in search (gives, value)
    eval_gives run (chained a _ ss) w = let value = eval_gives run a in let rest = steps_give run ss in search (gives, value, rest)
    eval_gives run (conditional a _ cs) w = conditions_give run cs (λ world1. eval u run a world1) (λ world1. eval_gives run a world1) w

    pub conditions_give : {n : _} → (run : Run) (cs : Row_of-Condition n) (guarded : World → Res Val) →
        ((w : World) → GivesBut i u.host w (guarded w)) → (w : World) → GivesBut i u.host w (eval_conditions u run cs guarded w)
    conditions_give run no_condition guarded given w = given w
    conditions_give run (with_condition c e more) guarded given w =
        conditions_give run more (λ world1. under_condition u.host (λ world2. eval u run c world2) guarded (λ world2. eval u run e world2)
        world1)
        (λ world1. condition_gives _ u.host _ _ _ (λ world2. eval_gives run c world2) given (λ world2. eval_gives run e world2) world1) w

    pub all_give : {n : _} → (run : Run) (es : Row_of-Expr n) (w : World) → GivesBut i u.host w (eval_all u run es w)
    all_give run no_expr w = kept_same w
    all_give run (expr e more) w = let value = eval_gives run e in let rest = all_give run more in search (gives, value, rest)

    pub pairs_give : {n : _} → (run : Run) (ps : Row_of-Pair n) (w : World) → GivesBut i u.host w (eval_pairs u run ps w)
    pairs_give run no_pair w = kept_same w
    pairs_give run (with_pair k v more) w =
        let key = eval_gives run k in let value = eval_gives run v in let rest = pairs_give run more in search (gives, key, value, rest)

    pub argument_gives : (run : Run) (a : Argument) (w : World) → GivesBut i u.host w (eval_argument u run a w)
    argument_gives run (plain a) w = eval_gives run a w
    argument_gives run (spread a) w = eval_gives run a w

    pub arguments_give : {n : _} → (run : Run) (given : Row_of-Argument n) (w : World) → GivesBut i u.host w (eval_arguments u run given w)
    arguments_give run no_argument w = kept_same w
    arguments_give run (argument a more) w =
        let value = argument_gives run a in let rest = arguments_give run more in search (gives, value, rest)

    pub lists_give : {n : _} → (run : Run) (row : List Val) (given : Row_of-Argument n) (by_name : World → Res (List Val)) →
        GivenBut i u.host by_name → (w : World) → GivesBut i u.host w (eval_lists u run row given by_name w)
    lists_give run row no_argument by_name h w = search (gives, h)
    lists_give run row (argument (plain a) more) by_name h w =
        gives_bind _ u.host w (eval u run a w) _ (eval_gives run a w) (λ v world1. lists_give run (row ++ v ∷ []) more by_name h world1)
    lists_give run row (argument (spread a) more) by_name h w =
        let value = eval_gives run a in let rest = lists_give run [] more by_name h in search (gives, value, rest)

    pub keywords_give : {n : _} → (run : Run) (end : RowValues) → ((row : List (Val × Val)) (w : World) → GivesBut i u.host w (end row w)) →
        (row : List (Val × Val)) (ks : Row_of-Keyword n) (w : World) → GivesBut i u.host w (eval_keywords u run end row ks w)
    keywords_give run end last row no_keyword w = last row w
    keywords_give run end last row (keyword_and (keyword x a) more) w =
        ticked_gives _ u.host w _ (λ world1. gives_bind _ u.host world1 (eval u run a world1) _ (eval_gives run a world1)
        (λ v world2. keywords_give run end last (row ++ (text x false, v) ∷ []) more world2))
    keywords_give run end last row (keyword_and (spread_keywords a) more) w =
        let value = eval_gives run a in let rest = keywords_give run end last [] more in search (gives, value, rest)

    pub step_gives : (run : Run) (s : Step) (v : Val) (w : World) → GivesBut i u.host w (eval_step u run s v w)
    step_gives run (Attribute x) v w = search gives
    step_gives run (Apply' k x _ given _ named) v w =
        let by_name = named_by u.host named (λ world1. eval_keywords u run mapped [] named world1) in
        let names = named_by_gives _ u.host named _ (λ world1. keywords_give run mapped (mapped_gives _ u.host) [] named world1) in
        gives_bind _ u.host w (passed_by (has_spread given) u.host (v ∷ []) (λ world1. eval_arguments u run given world1) by_name
        (λ by_name1 world1. eval_lists u run (v ∷ []) given by_name1 world1) w) _
        (passed_by_gives _ (has_spread given) u.host (v ∷ []) _ by_name _ (λ world1. arguments_give run given world1) names
        (λ world1. lists_give run (v ∷ []) given by_name names world1) w) (λ vs world1.
        ticked_gives _ u.host world1 _ (λ world2.
        let q = applied u.host k x vs world2 in
        gives_bind _ u.host world2 (value_of u run q) _ (value_gives world2 run q (applied_asks _ u.host k x vs world2))
        (λ y world3. turned_gives _ u.host k y world3)))
    step_gives run (Called _ given _ named) v w =
        let by_name = named_by u.host named (λ world1. eval_keywords u run mapped [] named world1) in
        let names = named_by_gives _ u.host named _ (λ world1. keywords_give run mapped (mapped_gives _ u.host) [] named world1) in
        gives_bind _ u.host w (passed_by (has_spread given) u.host (v ∷ []) (λ world1. eval_arguments u run given world1) by_name
        (λ by_name1 world1. eval_lists u run (v ∷ []) given by_name1 world1) w) _
        (passed_by_gives _ (has_spread given) u.host (v ∷ []) _ by_name _ (λ world1. arguments_give run given world1) names
        (λ world1. lists_give run (v ∷ []) given by_name names world1) w) (λ vs world1.
        ticked_gives _ u.host world1 _ (λ world2. value_gives world2 run _ (callee_asks _ u.host vs world2)))
    step_gives run (item a) v w = let value = eval_gives run a in search (gives, value)
    step_gives run (slice a b c) v w =
        let start = eval_gives run a in let stop = eval_gives run b in let by = eval_gives run c in search (gives, start, stop, by) depth 9
    step_gives run (binary op a) v w = let value = eval_gives run a in search (gives, value)
    step_gives run (compare op a _ cs) v w = let value = eval_gives run a in let rest = links_give run op cs in search (gives, value, rest)
    step_gives run (and_then a) v w = let value = eval_gives run a in search (gives, value)
    step_gives run (or_else a) v w = let value = eval_gives run a in search (gives, value)

    pub links_give : {n : _} → (run : Run) (op : BinaryOperator) (cs : Row_of-Comparison n) (x y : Val) (w : World) →
        GivesBut i u.host w (eval_links u run op cs x y w)
    links_give run op no_comparison x y w = search gives
    links_give run op (with_comparison op1 a more) x y w =
        let value = eval_gives run a in let rest = links_give run op1 more in search (gives, value, rest) depth 14

    pub steps_give : {n : _} → (run : Run) (ss : Row_of-Step n) (v : Val) (w : World) → GivesBut i u.host w (eval_steps u run ss v w)
    steps_give run no_step v w = kept_same w
    steps_give run (step s ss) v w = let value = step_gives run s in let rest = steps_give run ss in search (gives, value, rest)

  mutual
    pub assign_gives : (run : Run) (t : AssignmentTarget) (v : Val) (w : World) → GivesBut i u.host w (assign u run t v w)
    assign_gives run (To x) v w = search gives
    assign_gives run (Items _ ts) v w = let each = assign_all_gives run ts in search (gives, each)
    assign_gives run (Member e x) v w = let value = eval_gives run e in search (gives, value)

    pub assign_all_gives : {n : _} → (run : Run) (ts : Row_of-AssignmentTarget n) (vs : List Val) (w : World) →
        GivesBut i u.host w (assign_all u run ts vs w)
    assign_all_gives run no_target vs w = kept_same w
    assign_all_gives run (target t ts) [] w = kept_same w
    assign_all_gives run (target t ts) (v ∷ vs) w =
        let one = assign_gives run t in let rest = assign_all_gives run ts in search (gives, one, rest)

  pub set_gives : (run : Run) (t : AssignmentTarget) (e : Expr) (w : World) → GivesBut i u.host w (set_to u run t e w)
  set_gives run t e w = gives_bind _ u.host w (eval u run e w) _ (eval_gives run e w) (λ v world1. assign_gives run t v world1)

  pub filtered_gives : (run : Run) (filters : List Step) (v : Val) (w : World) → GivesBut i u.host w (filtered u run filters v w)
  filtered_gives run [] v w = kept_same w
  filtered_gives run (f ∷ more) v w = gives_bind _ u.host w (eval_step u run f v w) _ (step_gives run f v w)
      (λ x world1. filtered_gives run more x world1)

  pub set_each_gives : (run : Run) (given : List Assignment) (w : World) → GivesBut i u.host w (set_each u run given w)
  set_each_gives run [] w = kept_same w
  set_each_gives run (a ∷ more) w = gives_bind _ u.host w (set_to u run a.target a.value w) _ (set_gives run a.target a.value w)
      (λ _ world1. set_each_gives run more world1)

  pub condition_of_gives : (run : Run) (t : AssignmentTarget) (c : Expr) (v : Val) (w : World) →
      GivesBut i u.host w (bind (assign u run t v w) (λ _ world1. eval u run c world1))
  condition_of_gives run t c v w =
      gives_bind _ u.host w (assign u run t v w) _ (assign_gives run t v w) (λ _ world1. eval_gives run c world1)

  pub loop_items_give : (at : ℕ) (run : Run) (t : AssignmentTarget) (e : Expr) (c : Option Expr) (w : World) →
      GivesBut i u.host w (loop_items u at run t e c w)
  loop_items_give at run t e None w =
      gives_bind _ u.host w (eval u run e w) _ (eval_gives run e w) (λ v world1. items_give _ u.host v world1)
  loop_items_give at run t e (Some c) w =
      ticked_gives _ u.host w _ (λ world1.
      gives_bind _ u.host world1 (eval u run e world1) _ (eval_gives run e world1) (λ v world2.
      gives_bind _ u.host world2 (items_over u.host v world2) _ (items_give _ u.host v world2) (λ vs world3.
      opened_gives _ u.host pass_flags at world3 vs (nat_lt (depth world3.scopes) u.host.limit) _ (λ room.
      gives_bind _ u.host world3 (selected u.host (λ x world5. bind (assign u run t x world5) (λ _ world6. eval u run c world6)) 0 vs
      (opened pass_flags at world3 vs)) _
      (selected_gives u.host world3 room _ (λ x world5. condition_of_gives run t c x world5) 0 vs (opened pass_flags at world3 vs)
      (opened_kept pass_flags at world3 vs)) (λ us world5.
      ticked_gives _ u.host world5 _ (λ world6. kept_same world6))))))
