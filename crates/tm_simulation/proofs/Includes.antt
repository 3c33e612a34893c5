-- What statements keep that run another template, and of which kinds their faults are.
use Rattle.std.proofs.Common.{◌≡◌, ℕ, List, [], ◌∷◌, Bool, true, false, nat_lt}
use Rattle.tm_values.specs.Val.{Val, undefined}
use Rattle.tm_trees.specs.Trees.{Expr, AssignmentTarget, Imported}
use Rattle.tm_meaning.specs.World.{World, HostValue, Scope, Res, bind, tick, pop, depth, plain_scope, looked_up, module_of}
use Rattle.tm_meaning.specs.Calls.{Callee}
use Rattle.tm_meaning.specs.Meaning.{Run, Outcome, Ending, done, leave, next, fault, Under, eval, capturing, assign, give, include}
use Rattle.tm_meaning.specs.Meaning.{heard_after, import, give_each, import_names}
use Rattle.tm_simulation.specs.Kept.{Differs}
use Rattle.tm_simulation.proofs.Advances.{KeptBut, kept_advances, kept_then, kept_popped, store_kept, within, advances_over, advances_same}
use Rattle.tm_simulation.proofs.Gives.{GivesBut, RunEnds, EndingKeepsBut, OutcomeKeepsBut, ends_as, ends_use, tick_gives, ticked_gives}
use Rattle.tm_simulation.proofs.Gives.{gives_bind}
use Rattle.tm_simulation.proofs.Gives.{gives_kept, gives_then, room_gives}
use Rattle.tm_simulation.proofs.Asks.{include_asks}
use Rattle.tm_simulation.proofs.Evaluates.{eval_gives, place_ends, assign_gives, looked_up_gives}

-- what was heard
heard_gives : (i : Differs) (host : HostValue) (w : World) (e : Ending) (o : Outcome) → EndingKeepsBut i host w e o.world →
    GivesBut i host w (heard_after e o)
heard_gives i host w (done vs) o h = h
heard_gives i host w leave o h = h
heard_gives i host w next o h = h
heard_gives i host w (fault chain) o h = h

pub give_gives : (i : Differs) (host : HostValue) (x : List ℕ) (v : Val) (w : World) → GivesBut i host w (give x v w)
give_gives i host x v w = ticked_gives _ host w _ (λ world1. store_kept x v world1)

-- Names are looked up in a scope, for which there was room, and which is left.
pub give_each_gives : {i : Differs} (host : HostValue) (s : Scope) (w : World) → nat_lt (depth w.scopes) host.limit ≡ true →
    (xs : List Imported) (world1 : World) → KeptBut i (within s w) world1 → GivesBut i host w (give_each host xs world1)
give_each_gives host s w room [] world1 k = kept_popped s w world1 k
give_each_gives host s w room (x ∷ xs) world1 k =
    gives_kept host w world1 (tick world1) _ (advances_over s w room (kept_advances k)) (tick_gives _ host world1) (λ _ world2 k2.
    gives_kept host w world2 (looked_up host x.name world2) _ (advances_over s w room (kept_advances (kept_then k k2)))
    (looked_up_gives _ host x.name world2) (λ v world3 k3.
    gives_bind _ host w (give_each host xs world3) _ (give_each_gives host s w room xs world3 (kept_then k (kept_then k2 k3)))
    (λ _ world4. give_gives _ host x.target v world4)))

module _ {i : Differs} (u : Under)
    (nest_ends : (k : Callee) (heard : Bool) (out : List ℕ) (w : World) → RunEnds u.host w (u.nests k heard out w))
    (again_ends : (n : ℕ) (items : List Val) (run : Run) (out : List ℕ) (w : World) →
    OutcomeKeepsBut i u.host run.parent w (u.again n items run out w)) where
  pub include_ends : (run : Run) (apart : Bool) (e : Expr) (missing : Bool) (out : List ℕ) (w : World) →
      OutcomeKeepsBut i u.host run.parent w (include u run apart e missing out w)
  include_ends run apart e missing out w =
      ends_use u.host w (eval u run e w) run out _ (eval_gives u nest_ends again_ends run e w) (λ v world1.
      ends_use u.host world1 (tick world1) run out _ (tick_gives _ u.host world1) (λ _ world2.
      place_ends u nest_ends again_ends world2 run out _ (include_asks _ u.host apart v missing world2)))

  -- what is heard of a template in a scope of its own, for which there was room, and what comes of it where that is left
  in_scope_gives : {A : Type 0} (run : Run) (e : Expr) (w : World) (s : Scope) (g : List ℕ → World → Res A) →
      nat_lt (depth w.scopes) u.host.limit ≡ true →
      ((x : List ℕ) (world1 : World) → KeptBut i (within s w) world1 → GivesBut i u.host w (g x world1)) →
      let o = include u run false e false [] (within s w) in GivesBut i u.host w (bind (heard_after o.ending o) g)
  in_scope_gives run e w s g room k =
      let o = include u run false e false [] (within s w) in
      let ends = ends_as u.host (within s w) o (include_ends run false e false [] (within s w)) in
      gives_kept u.host w (within s w) (heard_after o.ending o) g (advances_over {j = i} s w room (advances_same (within s w)))
      (heard_gives _ u.host (within s w) o.ending o ends) k

  pub import_gives : (run : Run) (e : Expr) (t : AssignmentTarget) (w : World) → GivesBut i u.host w (import u run e t w)
  import_gives run e t w =
      let s = plain_scope (undefined false) in
      room_gives _ u.host w s (nat_lt (depth w.scopes) u.host.limit) _ _ (λ room.
      in_scope_gives (capturing true run) e w s _ room (λ x world1 k.
      gives_kept u.host w world1 (tick world1) _ (advances_over s w room (kept_advances k)) (tick_gives _ u.host world1) (λ _ world2 k2.
      gives_then u.host w (pop world2) (assign u run t (module_of world2 x) (pop world2)) (kept_popped s w world2 (kept_then k k2))
      (assign_gives u nest_ends again_ends run t (module_of world2 x) (pop world2)))))

  pub import_names_gives : (run : Run) (e : Expr) (xs : List Imported) (w : World) → GivesBut i u.host w (import_names u run e xs w)
  import_names_gives run e xs w =
      let s = plain_scope (undefined false) in
      room_gives _ u.host w s (nat_lt (depth w.scopes) u.host.limit) _ _ (λ room.
      in_scope_gives (capturing false run) e w s _ room (λ x world1 k.
      gives_bind _ u.host w (give_each u.host xs world1) _ (give_each_gives u.host s w room xs world1 k)
      (λ _ world2. tick_gives _ u.host world2)))
