-- What the declaration of a macro keeps, and what its parameters do with their values.
use Rattle.std.proofs.Common.{ℕ, List, [], ◌∷◌, ◌++◌, Option, Some, None, Bool, false}
use Rattle.std.specs.Prelude.{codes}
use Rattle.tm_values.specs.Val.{Val, text}
use Rattle.tm_trees.specs.Trees.{Expr, Call', Row_of-Argument, Row_of-Keyword, Row_of-Step, no_step, step, Step, Apply', Called, Parameter, To}
use Rattle.tm_syntax.specs.Forms.{chained}
use Rattle.tm_syntax.specs.Code.{has_spread}
use Rattle.tm_syntax.specs.Fragments.{MacroHead}
use Rattle.tm_meaning.specs.World.{World, HostValue, has_enclosed, looked_up, own_closure, enclose, make_macro}
use Rattle.tm_meaning.specs.Calls.{Callee, applied}
use Rattle.tm_meaning.specs.Meaning.{Run, Under, enclose_each, declared, or_default, take_parameter, take_parameters, eval}
use Rattle.tm_meaning.specs.Meaning.{RowValues, with_caller, passed_so, call_alone, step_call, steps_call, call, value_of}
use Rattle.tm_meaning.specs.Meaning.{eval_keywords, eval_step}
use Rattle.tm_meaning.specs.Operators.{named_by}
use Rattle.tm_values.specs.Truth.{is_undefined}
use Rattle.tm_simulation.proofs.Advances.{kept_same, closed_over_kept, stream_kept}
use Rattle.tm_simulation.proofs.Gives.{Gives, OutcomeKeeps, RunEnds, gives_bind, choose_gives, ticked_gives}
use Rattle.tm_simulation.proofs.Asks.{applied_asks, callee_asks, named_asks}
use Rattle.tm_simulation.proofs.Evaluates.{looked_up_gives, eval_gives, assign_gives, mapped_gives, named_by_gives, passed_by_gives}
use Rattle.tm_simulation.proofs.Evaluates.{arguments_give, keywords_give, lists_give, step_gives, value_gives, turned_gives}

-- ---------------------------------------------------------------- declarations
pub enclose_gives : (host : HostValue) (x : List ℕ) (w : World) → Gives host w (enclose host x w)
enclose_gives host x w =
    choose_gives _ host w (has_enclosed x w) _ _ (kept_same w)
    (gives_bind _ host w (looked_up host x w) _ (looked_up_gives _ host x w)
    (λ v world1. closed_over_kept x v (own_closure world1.scopes.frames) world1))

pub enclose_each_gives : (host : HostValue) (xs : List (List ℕ)) (w : World) → Gives host w (enclose_each host xs w)
enclose_each_gives host [] w = kept_same w
enclose_each_gives host (x ∷ xs) w =
    ticked_gives _ host w _ (λ world1. gives_bind _ host world1 (enclose host x world1) _ (enclose_gives host x world1)
    (λ _ world2. enclose_each_gives host xs world2))

pub made_gives : (host : HostValue) (n : ℕ) (o : Option ℕ) (m : MacroHead) (w : World) →
    Gives host w (make_macro n o m.name m.parameters m.caller w)
made_gives host n o m w = stream_kept w.stream w

pub declared_gives : (host : HostValue) (n : ℕ) (m : MacroHead) (w : World) → Gives host w (declared host n m w)
declared_gives host n m w =
    ticked_gives _ host w _ (λ world1.
    gives_bind _ host world1 (enclose_each host m.free world1) _ (enclose_each_gives host m.free world1) (λ _ world2.
    ticked_gives _ host world2 _ (λ world3. ticked_gives _ host world3 _ (λ world4.
    made_gives host n (own_closure world3.scopes.frames) m world4))))

pub caller_gives : (host : HostValue) (n : ℕ) (m : MacroHead) (row : List (Val × Val)) (w : World) →
    Gives host w (with_caller host n m row w)
caller_gives host n m row w =
    ticked_gives _ host w _ (λ world1. gives_bind _ host world1 (declared host n m world1) _ (declared_gives host n m world1)
    (λ v world2. mapped_gives _ host (row ++ (text (codes "caller") false, v) ∷ []) world2))

-- ---------------------------------------------------------------- parameters
module _ (u : Under) (nest_ends : (k : Callee) (heard : Bool) (out : List ℕ) (w : World) → RunEnds u.host w (u.nests k heard out w))
    (again_ends : (n : ℕ) (items : List Val) (run : Run) (out : List ℕ) (w : World) →
    OutcomeKeeps u.host run.parent w (u.again n items run out w)) where
  pub or_default_gives : (run : Run) (default : Option Expr) (v : Val) (w : World) → Gives u.host w (or_default u run default v w)
  or_default_gives run None v w = kept_same w
  or_default_gives run (Some e) v w =
      ticked_gives _ u.host w _ (λ world1. ticked_gives _ u.host world1 _ (λ world2.
      choose_gives _ u.host world2 (is_undefined v) _ _ (eval_gives u nest_ends again_ends run e world2) (kept_same world2)))

  pub take_parameter_gives : (run : Run) (p : Parameter) (v : Val) (w : World) → Gives u.host w (take_parameter u run p v w)
  take_parameter_gives run p v w =
      gives_bind _ u.host w (or_default u run p.default v w) _ (or_default_gives run p.default v w)
      (λ x world1. assign_gives u nest_ends again_ends run (To p.name) x world1)

  pub take_parameters_give : (run : Run) (ps : List Parameter) (vs : List Val) (w : World) → Gives u.host w (take_parameters u run ps vs w)
  take_parameters_give run [] vs w = kept_same w
  take_parameters_give run (p ∷ ps) [] w = kept_same w
  take_parameters_give run (p ∷ ps) (v ∷ vs) w =
      gives_bind _ u.host w (take_parameters u run ps vs w) _ (take_parameters_give run ps vs w)
      (λ _ world1. take_parameter_gives run p v world1)

  -- ---------------------------------------------------------------- calls that are given a macro
  module _ (end : RowValues) (last : (row : List (Val × Val)) (w : World) → Gives u.host w (end row w)) where
    pub passed_so_gives : {n m : _} → (run : Run) (before : List Val) (given : Row_of-Argument n) (named : Row_of-Keyword m) (w : World) →
        Gives u.host w (passed_so u run end before given named w)
    passed_so_gives run before given named w =
        let by_name = named_by u.host named (λ world1. eval_keywords u run end [] named world1) in
        let names = named_by_gives _ u.host named _ (λ world1. keywords_give u nest_ends again_ends run end last [] named world1) in
        passed_by_gives _ (has_spread given) u.host before _ by_name _
        (λ world1. arguments_give u nest_ends again_ends run given world1) names
        (λ world1. lists_give u nest_ends again_ends run before given by_name names world1) w

    alone_gives : (run : Run) (v : Val) (w : World) → Gives u.host w (call_alone u run end v w)
    alone_gives run v w =
        gives_bind _ u.host w (end [] w) _ (last [] w) (λ ks world1. ticked_gives _ u.host world1 _ (λ world2.
        value_gives u nest_ends again_ends world2 run _ (callee_asks _ u.host (v ∷ ks) world2)))

    pub step_call_gives : (run : Run) (s : Step) (v : Val) (w : World) → Gives u.host w (step_call u run end s v w)
    step_call_gives run (Apply' k x _ given _ named) v w =
        gives_bind _ u.host w (passed_so u run end (v ∷ []) given named w) _ (passed_so_gives run (v ∷ []) given named w) (λ vs world1.
        ticked_gives _ u.host world1 _ (λ world2.
        let q = applied u.host k x vs world2 in
        gives_bind _ u.host world2 (value_of u run q) _ (value_gives u nest_ends again_ends world2 run q
        (applied_asks _ u.host k x vs world2))
        (λ y world3. turned_gives _ u.host k y world3)))
    step_call_gives run (Called _ given _ named) v w =
        gives_bind _ u.host w (passed_so u run end (v ∷ []) given named w) _ (passed_so_gives run (v ∷ []) given named w) (λ vs world1.
        ticked_gives _ u.host world1 _ (λ world2. value_gives u nest_ends again_ends world2 run _ (callee_asks _ u.host vs world2)))
    step_call_gives run s v w =
        gives_bind _ u.host w (eval_step u run s v w) _ (step_gives u nest_ends again_ends run s v w) (λ x world1. alone_gives run x world1)

    steps_call_give : {n : _} → (run : Run) (ss : Row_of-Step n) (v : Val) (w : World) → Gives u.host w (steps_call u run end ss v w)
    steps_call_give run no_step v w = alone_gives run v w
    steps_call_give run (step s no_step) v w = step_call_gives run s v w
    steps_call_give run (step s (step t more)) v w =
        gives_bind _ u.host w (eval_step u run s v w) _ (step_gives u nest_ends again_ends run s v w)
        (λ x world1. steps_call_give run (step t more) x world1)

    pub call_gives : (run : Run) (e : Expr) (w : World) → Gives u.host w (call u run end e w)
    call_gives run (Call' f _ given _ named) w =
        gives_bind _ u.host w (passed_so u run end [] given named w) _ (passed_so_gives run [] given named w) (λ vs world1.
        ticked_gives _ u.host world1 _ (λ world2. value_gives u nest_ends again_ends world2 run _ (named_asks _ u.host f vs world2)))
    call_gives run (chained a _ ss) w =
        gives_bind _ u.host w (eval u run a w) _ (eval_gives u nest_ends again_ends run a w) (λ v world1. steps_call_give run ss v world1)
    call_gives run e w =
        gives_bind _ u.host w (eval u run e w) _ (eval_gives u nest_ends again_ends run e w) (λ v world1. alone_gives run v world1)
