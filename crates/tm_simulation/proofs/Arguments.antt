-- What operators, calls, arguments and conditions do with the operands before them.
use Rattle.std.proofs.Common.{◌≡◌, ℕ, zero, suc, ◌+◌, Bool, List, [], ◌∷◌, ◌++◌, length, Some}
use Rattle.std.proofs.Common.{true, false, refl, sym, ap, ◌∙◌, subst, arith, length-append}
use Rattle.std.specs.Prelude.{slice_get}
use Rattle.tm_values.specs.Val.{Val}
use Rattle.tm_trees.specs.Trees.{UnaryOperator, BinaryOperator, Row_of-Argument, Row_of-Keyword, Application}
use Rattle.tm_trees.specs.Trees.unaries
use Rattle.tm_trees.specs.Trees.binaries
use Rattle.tm_syntax.specs.CacheNumbers.{no_cache}
use Rattle.tm_trees.specs.Trees.applications
use Rattle.tm_trees.specs.Instructions.{Instruction}
use Rattle.tm_trees.specs.Instructions.instructions as i
use Rattle.tm_syntax.specs.Code.{RowEnd, row_end, together, count, count_lists, count_maps, count_by}
use Rattle.tm_syntax.specs.Code.{unary_code, binary_code, application_code, list_of_row, map_of_row, merged_code, merging, passing_by}
use Rattle.tm_syntax.specs.Code.{has_spread_keyword}
use Rattle.tm_syntax.specs.Fragments.{Fragment, ◌⨾◌, Labels, beyond_all, beyond}
use Rattle.tm_syntax.specs.Fragments.{either}
use Rattle.tm_meaning.specs.World.{World}
use Rattle.tm_meaning.specs.World.{Res, Good, bind, tick, ticked}
use Rattle.tm_meaning.specs.Calls.{Asked, applied}
use Rattle.tm_meaning.specs.Meaning.{Run}
use Rattle.tm_meaning.specs.Meaning.{Under, value_of}
use Rattle.tm_meaning.specs.Operators.{truth, applied_unary, operated, turned}
use Rattle.tm_meaning.specs.Operators.{applied_binary, list_of_values}
use Rattle.tm_meaning.specs.Meaning.{under_condition}
use Rattle.tm_meaning.specs.Operators.{keyword_map, listed, mapped, merged_by}
use Rattle.tm_meaning.specs.Operators.{merged_values, items_of_lists, named_by, passed_by}
use Rattle.tm_meaning.specs.Machine.{Config, Next, onto}
use Rattle.tm_meaning.specs.Machine.{after, goes, taken, on_taken, asked}
use Rattle.tm_meaning.specs.Machine.{with_world}
use Rattle.tm_meaning.specs.Instructions.{binary_of, apply_of, paired, group_on, take_counted}
use Rattle.tm_meaning.specs.Steps.{act}
use Rattle.tm_syntax.proofs.Standing.{HasAt, AtWhere, everywhere}
use Rattle.tm_simulation.proofs.Gives.{Gives, tick_gives}
use Rattle.tm_simulation.proofs.Advances.{Kept, kept_then}
use Rattle.tm_simulation.proofs.Asks.{Asks, applied_asks}
use Rattle.tm_simulation.proofs.Evaluates.{value_gives, Given}
use Rattle.tm_simulation.proofs.Evaluates.{merged_values_give, list_items_give}
use Rattle.tm_simulation.proofs.Evaluates.{truth_gives, operated_gives}
use Rattle.tm_simulation.proofs.Follow.{LeadsToEnd}
use Rattle.tm_simulation.proofs.Follow.{Spot, told, cfg}
use Rattle.tm_simulation.proofs.Follow.{Follows, follows_map_kept, bound_follows, bound_twice, bind_then}
use Rattle.tm_simulation.proofs.Follow.{Go, silent, at, after_then, pushes, choose_then}
use Rattle.tm_simulation.proofs.Operands.{IsLong, bind_long, flat, flat_long, mapped_long}
use Rattle.tm_meaning.specs.Meaning.{RowValues}
use Rattle.tm_simulation.proofs.Evaluates.{mapped_gives}
use Rattle.tm_simulation.proofs.Operands.{onto_both, paired_flat, taken_all}
use Rattle.tm_simulation.proofs.Levels.{Setting, Here, asked_then, here_kept, meaning, nest_ends}

module _ (setting : Setting) where
  open setting use {context, trees, n, entered, id, level, again, again_kept, called_in_place, called_as_value}

  abbrev u : Under
  u = meaning setting

  -- an operator after its operands
  pub unary_then : (op : UnaryOperator) (s : Spot) (pc : ℕ) (v : Val) (stack : List Val) (w : World) →
      slice_get (context.program.code s.run.stream) pc ≡ Some (unary_code op) →
      Follows context (told s) (bind (tick w) (λ _ world1. applied_unary context.program.host op v world1))
      (λ x world1. Go context s (pc + 1) (x ∷ stack) world1) → Go context s pc (v ∷ stack) w
  unary_then unaries.Not s pc v stack w e h =
      at context i.Not s pc (v ∷ stack) w e (after_then context (told s) (tick w) _
      (bind_then context (told s) w (tick w) _ _ _ (tick_gives _ _ w) h (λ _ world1 k h1.
      pushes context s pc stack (v ∷ stack) world1 (applied_unary context.program.host unaries.Not v world1) h1)))
  unary_then op s pc v stack w e h =
      at context _ s pc (v ∷ stack) w e (after_then context (told s) (tick w) _
      (bind_then context (told s) w (tick w) _ _ _ (tick_gives _ _ w) h (λ _ world1 k h1.
      pushes context s pc stack (v ∷ stack) world1 (applied_unary context.program.host op v world1) h1)))

  -- an instruction that is an operator
  operates : (op : BinaryOperator) (x : Instruction) → ((c : Config) → act context.program context.base (Some x) c ≡ after (tick c.world)
      (λ _ world1. binary_of context.program.host op (with_world world1 c))) →
      (s : Spot) (pc : ℕ) (a b : Val) (stack : List Val) (w : World) → slice_get (context.program.code s.run.stream) pc ≡ Some x →
      Follows context (told s) (bind (tick w) (λ _ world1. operated context.program.host op a b world1))
      (λ y world1. Go context s (pc + 1) (y ∷ stack) world1) → Go context s pc (b ∷ a ∷ stack) w
  operates op x is s pc a b stack w e h =
      at context x s pc (b ∷ a ∷ stack) w e (subst (λ n. LeadsToEnd context (told s) n) (sym (is (cfg s pc (b ∷ a ∷ stack) w)))
      (after_then context (told s) (tick w) _ (bind_then context (told s) w (tick w) _ _ _ (tick_gives _ _ w) h (λ _ world1 k h1.
      pushes context s pc stack (b ∷ a ∷ stack) world1 (operated context.program.host op a b world1) h1))))

  pub binary_then : (op : BinaryOperator) (s : Spot) (pc : ℕ) (a b : Val) (stack : List Val) (w : World) →
      HasAt (context.program.code s.run.stream) pc (binary_code op) →
      Follows context (told s) (bind (tick w) (λ _ world1. applied_binary context.program.host op a b world1))
      (λ x world1. Go context s (beyond_all pc (binary_code op)) (x ∷ stack) world1) → Go context s pc (b ∷ a ∷ stack) w
  binary_then binaries.NotIn s pc a b stack w is h =
      at context i.In s pc (b ∷ a ∷ stack) w is.0 (after_then context (told s) (tick w) _
      (bind_then context (told s) w (tick w) _ _ _ (tick_gives _ _ w) h (λ _ world1 k h1.
      pushes context s pc stack (b ∷ a ∷ stack) world1 (operated context.program.host binaries.In a b world1)
      (bind_then context (told s) world1 (operated context.program.host binaries.In a b world1) _ _ _
      (operated_gives _ context.program.host binaries.In a b world1) h1 (λ v world2 k2 h2.
      unary_then unaries.Not s (pc + 1) v stack world2 is.1.0 h2)))))
  binary_then op s pc a b stack w is h = operates op _ (λ c. refl) s pc a b stack w is.0 h

  -- What a call is passed, on others: one by one, or as a group.
  abbrev pub passed_on : Bool → List Val → List Val → List Val
  passed_on false vs stack = onto vs stack
  passed_on true vs stack = group_on vs stack

  -- a group knows how many it has
  abbrev pub Counted : Bool → ℕ → List Val → Type 0
  Counted false m vs = length vs ≡ m
  Counted true m vs = Unit {0}

  taken_by : (b : Bool) (m : ℕ) (vs stack : List Val) (w : World) (f : List Val → List Val → Next) → Counted b m vs →
      take_counted (count_by b m) (passed_on b vs stack) w f ≡ f vs stack
  taken_by false m vs stack w f e = ap (λ t. on_taken t w f) (taken_all vs m stack e)
  taken_by true m vs stack w f e = ap (λ t. on_taken t w f) (taken_all vs (length vs) stack refl)

  -- an instruction that passes values to what a name stands for
  passes : (k : Application) (x : Instruction) (f : List ℕ) (b : Bool) (m : ℕ) →
      ((c : Config) → act context.program context.base (Some x) c ≡ after (tick c.world)
      (λ _ world1. apply_of context.program k f (count_by b m) (with_world world1 c))) →
      (run : Run) (s : Spot) (pc : ℕ) (vs stack : List Val) (w : World) (P : Val → World → Type 0) → Counted b m vs → Here setting run s w →
      slice_get (context.program.code s.run.stream) pc ≡ Some x →
      Follows context (told s) (bind (tick w) (λ _ world1. bind (value_of u run (applied context.program.host k f vs world1))
      (λ y world2. turned context.program.host k y world2))) P →
      ((y : Val) (world1 : World) → Follows context (told s) (turned context.program.host k y world1) P →
      Go context s (pc + 1) (y ∷ stack) world1) → Go context s pc (passed_on b vs stack) w
  passes k x f b m is run s pc vs stack w P long d e h go =
      let us = passed_on b vs stack in
      at context x s pc us w e (subst (λ q. LeadsToEnd context (told s) q) (sym (is (cfg s pc us w)))
      (after_then context (told s) (tick w) _ (bind_then context (told s) w (tick w) _ _ _ (tick_gives _ _ w) h (λ _ world1 k1 h1.
      let q = applied context.program.host k f vs world1 in
      let asks = applied_asks _ context.program.host k f vs world1 in
      subst (λ t. LeadsToEnd context (told s) t)
      (sym (taken_by b m vs stack world1 (λ xs rest. asked context.program
      (cfg s pc us world1) rest (applied context.program.host k f xs world1)) long))
      (asked_then setting run s pc stack us world1 world1 q asks (here_kept setting run s k1 d)
      (bind_then context (told s) world1 (value_of u run q) _ _ _ (value_gives u (nest_ends setting) again_kept world1 run q asks) h1
      (λ y world2 k2 h2. go y world2 h2)))))))

  pub passed_then : (k : Application) (f : List ℕ) (b : Bool) (m : ℕ) (run : Run) (s : Spot) (pc : ℕ) (vs stack : List Val) (w : World) →
      Counted b m vs → Here setting run s w → HasAt (context.program.code s.run.stream) pc (application_code k f (count_by b m)) →
      Follows context (told s) (bind (tick w) (λ _ world1. bind (value_of u run (applied context.program.host k f vs world1))
      (λ y world2. turned context.program.host k y world2)))
      (λ y world1. Go context s (beyond_all pc (application_code k f (count_by b m))) (y ∷ stack) world1) →
      Go context s pc (passed_on b vs stack) w
  passed_then applications.Method f b m run s pc vs stack w long d is h =
      passes applications.Method (i.CallMethod f (count_by b m)) f b m (λ c. refl) run s pc vs stack w _ long d is.0 h (λ y world1 g. g)
  passed_then applications.Filter f b m run s pc vs stack w long d is h =
      passes applications.Filter (i.ApplyFilter f (count_by b m) no_cache) f b m (λ c. refl) run s pc vs stack w _ long d is.0 h (λ y world1 g. g)
  passed_then applications.Test f b m run s pc vs stack w long d is h =
      passes applications.Test (i.PerformTest f (count_by b m) no_cache) f b m (λ c. refl) run s pc vs stack w _ long d is.0 h (λ y world1 g. g)
  passed_then applications.NegatedTest f b m run s pc vs stack w long d is h =
      passes applications.NegatedTest (i.PerformTest f (count_by b m) no_cache) f b m (λ c. refl) run s pc vs stack w _ long d is.0 h
      (λ y world1 g. unary_then unaries.Not s (pc + 1) y stack world1 is.1.0 g)

  -- an instruction that makes a call
  pub calls : (x : Instruction) (b : Bool) (m : ℕ) (call : List Val → World → Asked) →
      ((c : Config) → act context.program context.base (Some x) c ≡ after (tick c.world) (λ _ world1.
      take_counted (count_by b m) c.run.operands world1
      (λ vs rest. asked context.program (with_world world1 c) rest (call vs world1)))) →
      ((vs : List Val) (w : World) → Asks context.program.host w (call vs w)) →
      (run : Run) (s : Spot) (pc : ℕ) (vs stack : List Val) (w : World) → Counted b m vs → Here setting run s w →
      slice_get (context.program.code s.run.stream) pc ≡ Some x →
      Follows context (told s) (bind (tick w) (λ _ world1. value_of u run (call vs world1)))
      (λ y world1. Go context s (pc + 1) (y ∷ stack) world1) → Go context s pc (passed_on b vs stack) w
  calls x b m call is asks run s pc vs stack w long d e h =
      let us = passed_on b vs stack in
      at context x s pc us w e (subst (λ q. LeadsToEnd context (told s) q) (sym (is (cfg s pc us w)))
      (after_then context (told s) (tick w) _ (bind_then context (told s) w (tick w) _ _ _ (tick_gives _ _ w) h (λ _ world1 k1 h1.
      subst (λ t. LeadsToEnd context (told s) t)
      (sym (taken_by b m vs stack world1 (λ xs rest. asked context.program (cfg s pc us world1) rest (call xs world1)) long))
      (asked_then setting run s pc stack us world1 world1 (call vs world1) (asks vs world1) (here_kept setting run s k1 d) h1)))))

  -- values become one
  pub built_then : (made : List Val → Val) (s : Spot) (pc n : ℕ) (vs stack : List Val) (w : World) → length vs ≡ n →
      Go context s (pc + 1) (made vs ∷ stack) w →
      LeadsToEnd context (told s) (on_taken (taken n [] (onto vs stack)) w
      (λ xs rest. goes (made xs ∷ rest) w (cfg s pc (onto vs stack) w)))
  built_then made s pc n vs stack w l g =
      subst (λ t. LeadsToEnd context (told s) (on_taken t w (λ xs rest. goes (made xs ∷ rest) w (cfg s pc (onto vs stack) w))))
      (sym (taken_all vs n stack l)) (silent context (told s) _ g)

  -- ---------------------------------------------------------------- arguments
  pub listed_then : (s : Spot) (pc n : ℕ) (vs stack : List Val) (w : World) → length vs ≡ n →
      HasAt (context.program.code s.run.stream) pc (list_of_row n) →
      Follows context (told s) (listed vs w) (λ ls world1. Go context s (beyond_all pc (list_of_row n)) (onto ls stack) world1) →
      Go context s pc (onto vs stack) w
  listed_then s pc zero [] stack w e is h = h
  listed_then s pc zero (v ∷ vs) stack w e is h = absurd (omega (arith, e))
  listed_then s pc (suc n) [] stack w e is h = absurd (omega (arith, e))
  listed_then s pc (suc n) (v ∷ vs) stack w e is h =
      at context (i.BuildList (Some (suc n))) s pc (onto (v ∷ vs) stack) w is.0 (after_then context (told s) (tick w) _
      (bind_then context (told s) w (tick w) _ _ _ (tick_gives _ _ w) h (λ _ world1 k h1.
      built_then list_of_values s pc (suc n) (v ∷ vs) stack world1 e h1)))

  pub mapped_then : (s : Spot) (pc n : ℕ) (ps : List (Val × Val)) (stack : List Val) (w : World) → length ps ≡ n →
      HasAt (context.program.code s.run.stream) pc (map_of_row n) →
      Follows context (told s) (mapped ps w) (λ ms world1. Go context s (beyond_all pc (map_of_row n)) (onto ms stack) world1) →
      Go context s pc (onto (flat ps) stack) w
  mapped_then s pc zero [] stack w e is h = h
  mapped_then s pc zero (p ∷ ps) stack w e is h = absurd (omega (arith, e))
  mapped_then s pc (suc n) [] stack w e is h = absurd (omega (arith, e))
  mapped_then s pc (suc n) (p ∷ ps) stack w e is h =
      at context (i.BuildKwargs (suc n)) s pc (onto (flat (p ∷ ps)) stack) w is.0 (after_then context (told s) (tick w) _
      (bind_then context (told s) w (tick w) _ _ _ (tick_gives _ _ w) h (λ _ world1 k h1.
      built_then (λ vs. keyword_map (paired vs)) s pc (suc n + suc n) (flat (p ∷ ps)) stack world1 (flat_long (suc n) (p ∷ ps) e)
      (subst (λ zs. Go context s (pc + 1) (keyword_map zs ∷ stack) world1) (sym (paired_flat (p ∷ ps))) h1))))

  merged_then : (b : Bool) (s : Spot) (pc n : ℕ) (ms stack : List Val) (w : World) → length ms ≡ n →
      HasAt (context.program.code s.run.stream) pc (merged_code b n) →
      Follows context (told s) (merged_by b context.program.host ms w)
      (λ ks world1. Go context s (beyond_all pc (merged_code b n)) (onto ks stack) world1) → Go context s pc (onto ms stack) w
  merged_then false s pc n ms stack w e is h = h
  merged_then true s pc n ms stack w e is h =
      at context (i.MergeKwargs n) s pc (onto ms stack) w is.0 (after_then context (told s) (tick w) _
      (bind_then context (told s) w (tick w) _ _ _ (tick_gives _ _ w) h (λ _ world1 k h1.
      subst (λ t. LeadsToEnd context (told s) (on_taken t world1 (λ vs rest. after (merged_values context.program.host vs world1)
      (λ v world2. goes (v ∷ rest) world2 (cfg s pc (onto ms stack) world1))))) (sym (taken_all ms n stack e))
      (pushes context s pc stack (onto ms stack) world1 (merged_values context.program.host ms world1)
      (bind_then context (told s) world1 (merged_values context.program.host ms world1) _ _ _
      (merged_values_give _ context.program.host ms world1) h1 (λ v world2 k2 g. g))))))

  -- the items of lists become a group
  grouped_then : (s : Spot) (pc n : ℕ) (ls stack : List Val) (w : World) (K : List Val → World → Type 0) → length ls ≡ n →
      slice_get (context.program.code s.run.stream) pc ≡ Some (i.UnpackLists n) →
      Follows context (told s) (bind (tick w) (λ _ world1. items_of_lists context.program.host ls world1)) K →
      ((vs : List Val) (world1 : World) → Kept w world1 → K vs world1 → Go context s (pc + 1) (group_on vs stack) world1) →
      Go context s pc (onto ls stack) w
  grouped_then s pc n ls stack w K e is h go =
      at context (i.UnpackLists n) s pc (onto ls stack) w is (after_then context (told s) (tick w) _
      (bind_then context (told s) w (tick w) _ _ _ (tick_gives _ _ w) h (λ _ world1 k h1.
      subst (λ t. LeadsToEnd context (told s) (on_taken t world1 (λ vs rest. after (items_of_lists context.program.host vs world1)
      (λ us world2. goes (group_on us rest) world2 (cfg s pc (onto ls stack) world1))))) (sym (taken_all ls n stack e))
      (after_then context (told s) (items_of_lists context.program.host ls world1) _
      (follows_map_kept context (told s) world1 (items_of_lists context.program.host ls world1) K _
      (list_items_give _ context.program.host ls world1) h1
      (λ vs world2 k2 g. silent context (told s) _ (go vs world2 (kept_then k k2) g)))))))

  -- after a false comparison its right side is dropped, which is free
  pub dropped_then : (s : Spot) (end : ℕ) (v y : Val) (stack : List Val) (w : World) →
      HasAt (context.program.code s.run.stream) end (i.Swap ∷ i.DiscardTop ∷ []) →
      Follows context (told s) (bind (tick w) (λ _ world1. Good v world1)) (λ x world1. Go context s (end + 1 + 1) (x ∷ stack) world1) →
      Go context s end (v ∷ y ∷ stack) w
  dropped_then s end v y stack w is h =
      at context i.Swap s end (v ∷ y ∷ stack) w is.0 (after_then context (told s) (tick w) _
      (bind_then context (told s) w (tick w) _ _ _ (tick_gives _ _ w) h (λ _ world1 k g.
      silent context (told s) _ (at context i.DiscardTop s (end + 1) (y ∷ v ∷ stack) world1 is.1.0 (silent context (told s) _ g)))))

  -- code that stands in the stream of a spot, the place of each macro of which is marked so
  abbrev pub InWhere : (ℕ → Bool) → Spot → Labels → ℕ → Fragment → Type 0
  InWhere marks s l pc c = AtWhere marks (context.program.code s.run.stream) l pc c

  abbrev pub In : Spot → Labels → ℕ → Fragment → Type 0
  In s l pc c = InWhere everywhere s l pc c

  -- Wherever this code stands it pushes this value.
  abbrev pub Runs : Run → Fragment → (World → Res Val) → Type 0
  Runs run code value =
      (s : Spot) (l : Labels) (pc : ℕ) (stack : List Val) (w : World) → Here setting run s w → In s l pc code →
      Follows context (told s) (value w) (λ v world1. Go context s (beyond pc code) (v ∷ stack) world1) → Go context s pc stack w

  -- Wherever this code stands, with its macros marked so, it pushes these values.
  abbrev pub Pushes : (ℕ → Bool) → Run → Fragment → (World → Res (List Val)) → Type 0
  Pushes marks run code values =
      (s : Spot) (l : Labels) (pc : ℕ) (stack : List Val) (w : World) → Here setting run s w → InWhere marks s l pc code →
      Follows context (told s) (values w) (λ vs world1. Go context s (beyond pc code) (onto vs stack) world1) → Go context s pc stack w

  -- what has as many values as are asked for, whatever the world
  abbrev pub Long : ℕ → (World → Res (List Val)) → Type 0
  Long n values = (w : World) → IsLong n (values w)

  -- How arguments by their names end, and that code of theirs pushes what they become.
  pub record RowRuns (marks : ℕ → Bool) (run : Run) : Type 0 where
    pub end : RowEnd
    pub values : RowValues
    pub gives : (row : List (Val × Val)) → Given context.program.host (values row)
    pub long : (row : List (Val × Val)) → Long (end.maps (length row)) (values row)
    pub runs : (n : ℕ) (row : List (Val × Val)) (s : Spot) (l : Labels) (pc : ℕ) (stack : List Val) (w : World) → length row ≡ n →
        Here setting run s w → InWhere marks s l pc (end.code n) →
        Follows context (told s) (values row w) (λ ms world1. Go context s (beyond pc (end.code n)) (onto ms stack) world1) →
        Go context s pc (onto (flat row) stack) w

  -- by a map
  abbrev pub row_runs : (run : Run) → RowRuns everywhere run
  row_runs run = record {
    end = row_end;
    values = mapped;
    gives = mapped_gives _ context.program.host;
    long = mapped_long;
    runs = λ n row s l pc stack w e d is h. mapped_then s pc n row stack w e is h;
  }

  -- keyword maps become one argument
  pub named_runs : {m : _} → (marks : ℕ → Bool) (end : RowEnd) (ks : Row_of-Keyword m) (run : Run) (code : Fragment)
      (maps : World → Res (List Val)) → Given context.program.host maps → Long (count_maps end 0 ks) maps → Pushes marks run code maps →
      Pushes marks run (merging end ks code) (named_by context.program.host ks maps)
  named_runs marks end ks run code maps given long part s l pc stack w d is h =
      part s l pc stack w d is.0
      (bind_long context (told s) w (count_maps end 0 ks) (maps w) _ _ _ (given w) (long w) h (λ ms world1 k m h1.
      merged_then (has_spread_keyword ks) s _ (count_maps end 0 ks) ms stack world1 m is.1 h1))

  -- The code of arguments leaves them on others, from where a call takes them.
  pub passing_runs : {n m : _} → (marks : ℕ → Bool) (end : RowEnd) (b : Bool) (before : List Val) (given : Row_of-Argument n) (named : Row_of-Keyword m) (run : Run)
      (by_place by_name : Fragment) (lists : Fragment → Fragment) (places names : World → Res (List Val))
      (rows : (World → Res (List Val)) → World → Res (List Val)) →
      Given context.program.host places → Long (count given) places → Pushes marks run by_place places →
      Given context.program.host names → Long (together end named) names → Pushes marks run by_name names →
      Given context.program.host (rows names) → Long (count_lists (length before) given (together end named)) (rows names) →
      ((s : Spot) (l : Labels) (pc : ℕ) (stack : List Val) (w : World) → Here setting run s w → InWhere marks s l pc (lists by_name) →
      Follows context (told s) (rows names w) (λ ls world1. Go context s (beyond pc (lists by_name)) (onto ls stack) world1) →
      Go context s pc (onto before stack) w) →
      (s : Spot) (l : Labels) (pc : ℕ) (stack : List Val) (w : World) (g : List Val → World → Res Val) (K : Val → World → Type 0) →
      Here setting run s w → InWhere marks s l pc (passing_by end b (length before) given named by_place by_name lists) →
      Follows context (told s) (bind (passed_by b context.program.host before places names rows w) g) K →
      ((vs : List Val) (world1 : World) → Kept w world1 → Counted b (count given + together end named + length before) vs →
      Follows context (told s) (g vs world1) K →
      Go context s (beyond pc (passing_by end b (length before) given named by_place by_name lists)) (passed_on b vs stack) world1) →
      Go context s pc (onto before stack) w
  passing_runs marks end false before given named run by_place by_name lists places names rows pg pl pp ng nl np rg rl rp s l pc stack w g K d is h go =
      pp s l pc (onto before stack) w d is.0
      (bind_long context (told s) w (count given) (places w) _ _ _ (pg w) (pl w)
      (bound_twice context (told s) (places w) (λ vs world1. bind (names world1) (λ ks world2. Good (before ++ (vs ++ ks)) world2)) g K h)
      (λ vs world1 k m h1.
      np s l _ (onto vs (onto before stack)) world1 (here_kept setting run s k d) is.1
      (bind_long context (told s) world1 (together end named) (names world1) _ _ _ (ng world1) (nl world1)
      (bound_twice context (told s) (names world1) (λ ks world2. Good (before ++ (vs ++ ks)) world2) g K h1)
      (λ ks world2 k2 m2 h2.
      let all = before ++ (vs ++ ks) in
      let long : length all ≡ count given + together end named + length before =
      omega (arith, length-append before (vs ++ ks), length-append vs ks, m, m2) in
      subst (λ us. Go context s (beyond (beyond pc by_place) by_name) us world2)
      (onto_both before (vs ++ ks) stack ∙ onto_both vs ks (onto before stack)) (go all world2 (kept_then k k2) long h2)))))
  passing_runs marks end true before given named run by_place by_name lists places names rows pg pl pp ng nl np rg rl rp s l pc stack w g K d is h go =
      let n = count_lists (length before) given (together end named) in
      rp s l pc stack w d is.0
      (bind_long context (told s) w n (rows names w) _ _ _ (rg w) (rl w)
      (bound_twice context (told s) (rows names w) (λ ls world1. ticked world1 (λ world2. items_of_lists context.program.host ls world2)) g
      K h)
      (λ ls world1 k m h1.
      grouped_then s _ n ls stack world1 _ m is.1.0
      (bound_follows context (told s) (ticked world1 (λ world2. items_of_lists context.program.host ls world2)) g K h1)
      (λ vs world2 k2 h2. go vs world2 (kept_then k k2) tt h2)))

  -- a condition before code that pushes a value, and what stands for that after it
  pub condition_runs : (run : Run) (first code last : Fragment) (test guarded other : World → Res Val) →
      ((w : World) → Gives context.program.host w (test w)) → ((w : World) → Gives context.program.host w (guarded w)) →
      Runs run first test → Runs run code guarded → Runs run last other →
      Runs run (first ⨾ either code last) (under_condition context.program.host test guarded other)
  condition_runs run first code last test guarded other tested given before part following s l pc stack w d is h =
      before s l pc stack w d is.0
      (bind_then context (told s) w (test w) _ _ _ (tested w) h (λ v world1 k1 h1.
      at context _ s _ (v ∷ stack) world1 is.1.0.0 (after_then context (told s) (tick world1) _
      (bind_then context (told s) world1 (tick world1) _ _ _ (tick_gives _ _ world1) h1 (λ _ world2 k2 h2.
      after_then context (told s) (truth context.program.host v world2) _ (bind_then context (told s) world2
      (truth context.program.host v world2) _ _ _ (truth_gives _ context.program.host v world2) h2 (λ b world3 k3 h3.
      let deep3 = here_kept setting run s k3 (here_kept setting run s k2 (here_kept setting run s k1 d)) in
      choose_then context b (bind (guarded world3) (λ x world4. bind (tick world4) (λ _ world5. Good x world5))) (other world3) _ _
      (told s) _ h3
      (λ h4. silent context (told s) _ (part s _ _ stack world3 deep3 is.1.0.1
      (bind_then context (told s) world3 (guarded world3) _ _ _ (given world3) h4 (λ x world4 k4 h5.
      at context _ s _ (x ∷ stack) world4 is.1.1 (after_then context (told s) (tick world4) _
      (bind_then context (told s) world4 (tick world4) _ _ _ (tick_gives _ _ world4) h5 (λ _ world5 k5 g. silent context (told s) _ g)))))))
      (λ h4. silent context (told s) _ (following s _ _ stack world3 deep3 is.1.2 h4)))))))))
