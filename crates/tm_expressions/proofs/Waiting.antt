-- What is left to be read after operators that wait for their right sides.
use Rattle.std.specs.Prelude.{is_some, nat_lt, option_and_then, option_map, Result, Ok, Err, IfOk}
use Rattle.std.proofs.Common.{◌≡◌, ℕ, ◌+◌, ◌-◌, ◌<◌, ◌≤◌, true, false, List, [], ◌∷◌, ◌++◌, length, Option, None, Some}
use Rattle.std.proofs.Common.{refl, sym, ap, subst, arith, ◌∙◌, length-append}
use Rattle.std.proofs.lemmas.Bool.{lt-ltb}
use Rattle.tm_values.specs.declared.error.ErrorKind.{ErrorKind}
use Rattle.tm_syntax.specs.declared.token.Token.{Token}
use Rattle.tm_trees.specs.Trees.{Expr, Step, BinaryOperator, Comparison}
use Rattle.tm_expressions.specs.declared.tables.Link.{Link}
use Rattle.tm_expressions.specs.declared.tables.Link.TheVariants as links
use Rattle.tm_expressions.specs.declared.operators.Reached.{Reached}
use Rattle.tm_expressions.specs.declared.operators.Reading.{Reading}
use Rattle.tm_expressions.specs.declared.operators.Row.{Row}
use Rattle.tm_expressions.specs.declared.operators.Role.{Role}
use Rattle.tm_expressions.specs.declared.operators.Role.TheVariants as roles
use Rattle.tm_expressions.specs.declared.operators.Waiting.{Waiting}
use Rattle.tm_expressions.specs.declared.operators.Made.{Made}
use Rattle.tm_expressions.specs.declared.operators.Made.TheVariants as makes
use Rattle.tm_expressions.specs.declared.operators.Turn.{Turn}
use Rattle.tm_expressions.specs.declared.operators.Turn.TheVariants as turns
use Rattle.tm_expressions.specs.Parses.{Leads}
use Rattle.tm_grammar.specs.Meanings.{Read, got}
use Rattle.tm_grammar.specs.Rule.{Rule, Look}
use Rattle.tm_grammar.specs.Growth as growth
use Rattle.tm_grammar.specs.Combinators.{◌>>=◌, pure, grow, one_more, many_from}
use Rattle.tm_expressions.specs.Tokens.{link, postfix_level}
use Rattle.tm_expressions.specs.Grammar.{Inside, operand, step, steps_from, chained, compared, comparisons_from, after_comparison}
use Rattle.tm_expressions.specs.Grammar.{operation, comparison, conjunction, disjunction, another_comparison}
use Rattle.tm_expressions.specs.Levels.{levels, climbed, operand_start, postfixed, GoesOnAt, EndsBefore}
use Rattle.tm_expressions.specs.Waiting.{role_of, made, again, step_of, completed, gone_on, after_made, resumed, resumed_all, reached_from}
use Rattle.tm_expressions.specs.Waiting.{after_postfix, AllAbove, size, IsLess}
use Rattle.tm_expressions.specs.declared.expressions.OperandStart.{OperandStart}
use Rattle.tm_expressions.proofs.Levels.{at_found, climbs, ends_climb, operand_from}

-- one part after another, and that after a third
regrouped : {T A B C : Type 0} (f : A → List T → Read T B) (g : B → List T → Read T C) (o : Read T A) →
    option_and_then (λ y. g y.0 y.1) (option_and_then (λ x. f x.0 x.1) o) ≡
    option_and_then (λ x. option_and_then (λ y. g y.0 y.1) (f x.0 x.1)) o
regrouped f g None = refl
regrouped f g (Some x) = refl

same_after : {T A B : Type 0} (f g : A → List T → Read T B) → ((x : A) (ts : List T) → f x ts ≡ g x ts) → (o : Read T A) →
    option_and_then (λ x. f x.0 x.1) o ≡ option_and_then (λ x. g x.0 x.1) o
same_after f g same None = refl
same_after f g same (Some x) = same x.0 x.1

itself : {T A : Type 0} (o : Read T A) → option_and_then (λ x. got x.0 x.1) o ≡ o
itself None = refl
itself (Some x) = refl

-- a value that grows by a part
module _ {T A B : Type 0} (p : Look T A) (part : A → B → Rule T B) where
  grows : (x : B) (ts : List T) (a : A) (after : List T) → p.sees ts ≡ got a after →
      (grow p part x).reads ts ≡ option_and_then (λ y. (grow p part y.0).reads y.1) ((part a x).reads after)
  grows x ts a after seen = by_part ((part a x).reads after) refl
    where
      by_part : (o : Read T B) → (part a x).reads after ≡ o →
          (grow p part x).reads ts ≡ option_and_then (λ y. (grow p part y.0).reads y.1) ((part a x).reads after)
      by_part None e = growth.grow_fails p part x ts a after seen e ∙ sym (ap (option_and_then (λ y. (grow p part y.0).reads y.1)) e)
      by_part (Some y) e =
          growth.grow_some p part x ts a after y.0 y.1 seen e ∙ sym (ap (option_and_then (λ y. (grow p part y.0).reads y.1)) e)

-- a list that grows by an item
longer : {T A B : Type 0} (p : Look T A) (item : A → Rule T B) (xs : List B) (ts : List T) (a : A) (after : List T) →
    p.sees ts ≡ got a after →
    (many_from p item xs).reads ts ≡ (item a >>= (λ x. many_from p item (xs ++ x ∷ []))).reads after
longer p item xs ts a after seen =
    grows p (λ a ys. one_more (item a) ys) xs ts a after seen
    ∙ regrouped (λ x rest. got (xs ++ x ∷ []) rest) (λ ys rest. (many_from p item ys).reads rest) ((item a).reads after)

pub above_more : (ws : List Waiting) (w : Waiting) → AllAbove ws → postfix_level < w.before.level → AllAbove (ws ++ w ∷ [])
above_more [] w all above = (above, tt)
above_more (v ∷ ws) w all above = (all.0, above_more ws w all.1 above)

pub above_less : (ws : List Waiting) (w : Waiting) → AllAbove (ws ++ w ∷ []) → AllAbove ws × (postfix_level < w.before.level)
above_less [] w all = (tt, all.0)
above_less (v ∷ ws) w all = let rest = above_less ws w all.1 in ((all.0, rest.0), rest.1)

abbrev stepped : Reading → Step → Role → Waiting
stepped r s role = record { before = record r { steps = r.steps ++ s ∷ [] }; role = role }

pub again_level : (r : Reading) (m : Made) (k : Link) (next : Waiting) → again r m k ≡ Some next → next.before.level ≡ r.level
again_level r (makes.Step s) k next h = by_role (role_of k) h
  where
    by_role : (o : Option Role) → option_map (stepped r s) o ≡ Some next → next.before.level ≡ r.level
    by_role None g = absurd (cc g)
    by_role (Some role) g = let same : stepped r s role ≡ next = cc in ap (λ (w : Waiting). w.before.level) (sym same)
again_level r (makes.Row row) (links.Comparison op) next h =
    let same : record { before = r; role = roles.After row op } ≡ next = cc in ap (λ (w : Waiting). w.before.level) (sym same)
again_level r (makes.Row row) links.Member next h = absurd (cc h)
again_level r (makes.Row row) links.Item next h = absurd (cc h)
again_level r (makes.Row row) links.Call next h = absurd (cc h)
again_level r (makes.Row row) links.Filter next h = absurd (cc h)
again_level r (makes.Row row) links.Test next h = absurd (cc h)
again_level r (makes.Row row) (links.Operator op) next h = absurd (cc h)
again_level r (makes.Row row) links.And next h = absurd (cc h)
again_level r (makes.Row row) links.Or next h = absurd (cc h)

module _ (i : Inside) where
  role_step : (l : ℕ) (k : Link) (role : Role) (ts : List Token) → role_of k ≡ Some role →
      (step i (operand i l) l k).reads ts ≡ (operand i l >>= (λ y. completed i l (made role y))).reads ts
  unfolding operation comparison conjunction disjunction
  role_step l links.Member role ts h = absurd (cc h)
  role_step l links.Item role ts h = absurd (cc h)
  role_step l links.Call role ts h = absurd (cc h)
  role_step l links.Filter role ts h = absurd (cc h)
  role_step l links.Test role ts h = absurd (cc h)
  role_step l (links.Operator op) role ts h =
      let same : roles.Operator op ≡ role = cc in ap (λ r. (operand i l >>= (λ y. completed i l (made r y))).reads ts) same
  role_step l (links.Comparison op) role ts h =
      let same : roles.Comparison op ≡ role = cc in ap (λ r. (operand i l >>= (λ y. completed i l (made r y))).reads ts) same
  role_step l links.And role ts h =
      let same : roles.And ≡ role = cc in ap (λ r. (operand i l >>= (λ y. completed i l (made r y))).reads ts) same
  role_step l links.Or role ts h =
      let same : roles.Or ≡ role = cc in ap (λ r. (operand i l >>= (λ y. completed i l (made r y))).reads ts) same

  -- after an operator of the level
  gone_more : (r : Reading) (ss : List Step) (k : Link) (role : Role) (ts after : List Token) →
      (link r.level).sees ts ≡ got k after → role_of k ≡ Some role →
      (gone_on i r ss).reads ts ≡
      (operand i r.level >>= (λ y. completed i r.level (made role y) >>= (λ s. gone_on i r (ss ++ s ∷ [])))).reads after
  gone_more r ss k role ts after seen h =
      ap (option_and_then (λ a. (levels i r.next r.end (chained r.value a.0)).reads a.1))
      (longer (link r.level) (step i (operand i r.level) r.level) ss ts k after seen)
      ∙ regrouped (λ s. (steps_from i (operand i r.level) r.level (ss ++ s ∷ [])).reads)
      (λ a. (levels i r.next r.end (chained r.value a)).reads) ((step i (operand i r.level) r.level k).reads after)
      ∙ ap (option_and_then (λ s. (gone_on i r (ss ++ s.0 ∷ [])).reads s.1)) (role_step r.level k role after h)
      ∙ regrouped (λ y. (completed i r.level (made role y)).reads) (λ s. (gone_on i r (ss ++ s ∷ [])).reads)
      ((operand i r.level).reads after)

  -- where no other one of the level stands
  gone_none : (r : Reading) (ss : List Step) (ts : List Token) → (link r.level).sees ts ≡ None →
      (gone_on i r ss).reads ts ≡ (levels i r.next r.end (chained r.value ss)).reads ts
  gone_none r ss ts none = ap (option_and_then (λ a. (levels i r.next r.end (chained r.value a.0)).reads a.1))
      (growth.grow_none (link r.level) (λ a. one_more (step i (operand i r.level) r.level a)) ss ts none)

  completed_none : (l : ℕ) (m : Made) (ts : List Token) → (link l).sees ts ≡ None → (completed i l m).reads ts ≡ got (step_of m) ts
  completed_none l (makes.Step s) ts none = refl
  completed_none l (makes.Row row) ts none = ap (option_and_then (λ cs. got (compared row.operator row.right cs.0) cs.1))
      (growth.grow_none (link l) (λ a. one_more (after_comparison (operand i l) a)) row.after ts none)

  made_ends : (r : Reading) (m : Made) (ts : List Token) → (link r.level).sees ts ≡ None →
      (after_made i r m).reads ts ≡ (levels i r.next r.end (chained r.value (r.steps ++ step_of m ∷ []))).reads ts
  made_ends r m ts none =
      ap (option_and_then (λ s. (gone_on i r (r.steps ++ s.0 ∷ [])).reads s.1)) (completed_none r.level m ts none)
      ∙ gone_none r (r.steps ++ step_of m ∷ []) ts none

  row_more : (l : ℕ) (row : Row) (op : BinaryOperator) (ts after : List Token) → (link l).sees ts ≡ got (links.Comparison op) after →
      (completed i l (makes.Row row)).reads ts ≡ (operand i l >>= (λ y. completed i l (made (roles.After row op) y))).reads after
  unfolding another_comparison
  row_more l row op ts after seen =
      ap (option_and_then (λ cs. got (compared row.operator row.right cs.0) cs.1))
      (longer (link l) (after_comparison (operand i l)) row.after ts (links.Comparison op) after seen)
      ∙ regrouped (λ c. (comparisons_from (operand i l) l (row.after ++ c ∷ [])).reads)
      (λ cs. got (compared row.operator row.right cs)) ((another_comparison (operand i l) op).reads after)
      ∙ regrouped (λ y rest. got (record { operator = op; right = y }) rest)
      (λ (c : Comparison). (comparisons_from (operand i l) l (row.after ++ c ∷ [])
      >>= (λ cs. pure (compared row.operator row.right cs))).reads) ((operand i l).reads after)

  made_again : (r : Reading) (m : Made) (k : Link) (next : Waiting) (ts after : List Token) → (link r.level).sees ts ≡ got k after →
      again r m k ≡ Some next → (after_made i r m).reads ts ≡ (operand i r.level >>= resumed i next).reads after
  made_again r (makes.Step s) k next ts after seen h = by_role (role_of k) refl h
    where
      by_role : (o : Option Role) → role_of k ≡ o → option_map (stepped r s) o ≡ Some next →
          (after_made i r (makes.Step s)).reads ts ≡ (operand i r.level >>= resumed i next).reads after
      by_role None e g = absurd (cc g)
      by_role (Some role) e g =
          let same : stepped r s role ≡ next = cc in
          gone_more r (r.steps ++ s ∷ []) k role ts after seen e ∙ ap (λ w. (operand i r.level >>= resumed i w).reads after) same
  made_again r (makes.Row row) (links.Comparison op) next ts after seen h =
      let same : record { before = r; role = roles.After row op } ≡ next = cc in
      ap (option_and_then (λ s. (gone_on i r (r.steps ++ s.0 ∷ [])).reads s.1)) (row_more r.level row op ts after seen)
      ∙ regrouped (λ y. (completed i r.level (made (roles.After row op) y)).reads) (λ s. (gone_on i r (r.steps ++ s ∷ [])).reads)
      ((operand i r.level).reads after)
      ∙ ap (λ w. (operand i r.level >>= resumed i w).reads after) same
  made_again r (makes.Row row) links.Member next ts after seen h = absurd (cc h)
  made_again r (makes.Row row) links.Item next ts after seen h = absurd (cc h)
  made_again r (makes.Row row) links.Call next ts after seen h = absurd (cc h)
  made_again r (makes.Row row) links.Filter next ts after seen h = absurd (cc h)
  made_again r (makes.Row row) links.Test next ts after seen h = absurd (cc h)
  made_again r (makes.Row row) (links.Operator op) next ts after seen h = absurd (cc h)
  made_again r (makes.Row row) links.And next ts after seen h = absurd (cc h)
  made_again r (makes.Row row) links.Or next ts after seen h = absurd (cc h)

  -- where another link of the level may not stand
  row_fails : (r : Reading) (row : Row) (k : Link) (ts after : List Token) → (link r.level).sees ts ≡ got k after →
      (after_comparison (operand i r.level) k).reads after ≡ None → (after_made i r (makes.Row row)).reads ts ≡ None
  row_fails r row k ts after seen none =
      ap (λ (cs : Read Token (List Comparison)). option_and_then (λ s. (gone_on i r (r.steps ++ s.0 ∷ [])).reads s.1)
      (option_and_then (λ cs. got (compared row.operator row.right cs.0) cs.1) cs))
      (growth.grow_fails (link r.level) (λ a. one_more (after_comparison (operand i r.level) a)) row.after ts k after seen
      (ap (option_and_then (λ c. got (row.after ++ c.0 ∷ []) c.1)) none))

  made_fails : (r : Reading) (m : Made) (k : Link) (ts after : List Token) → (link r.level).sees ts ≡ got k after →
      is_some (role_of k) ≡ true → again r m k ≡ None → (after_made i r m).reads ts ≡ None
  made_fails r (makes.Step s) k ts after seen some h = by_role (role_of k) some h
    where
      by_role : (o : Option Role) → is_some o ≡ true → option_map (stepped r s) o ≡ None → (after_made i r (makes.Step s)).reads ts ≡ None
      by_role None e g = absurd (cc e)
      by_role (Some role) e g = absurd (cc g)
  made_fails r (makes.Row row) (links.Comparison op) ts after seen some h = absurd (cc h)
  made_fails r (makes.Row row) links.Member ts after seen some h = row_fails r row links.Member ts after seen refl
  made_fails r (makes.Row row) links.Item ts after seen some h = row_fails r row links.Item ts after seen refl
  made_fails r (makes.Row row) links.Call ts after seen some h = row_fails r row links.Call ts after seen refl
  made_fails r (makes.Row row) links.Filter ts after seen some h = row_fails r row links.Filter ts after seen refl
  made_fails r (makes.Row row) links.Test ts after seen some h = row_fails r row links.Test ts after seen refl
  made_fails r (makes.Row row) (links.Operator op) ts after seen some h = row_fails r row (links.Operator op) ts after seen refl
  made_fails r (makes.Row row) links.And ts after seen some h = row_fails r row links.And ts after seen refl
  made_fails r (makes.Row row) links.Or ts after seen some h = row_fails r row links.Or ts after seen refl

  -- the last one that waits takes the right side
  last_first : (ws : List Waiting) (w : Waiting) (y : Expr) (ts : List Token) →
      (resumed_all i (ws ++ w ∷ []) y).reads ts ≡ (resumed i w y >>= resumed_all i ws).reads ts
  last_first [] w y ts = sym (itself ((resumed i w y).reads ts))
  last_first (v ∷ ws) w y ts =
      ap (option_and_then (λ x. (resumed i v x.0).reads x.1)) (last_first ws w y ts)
      ∙ regrouped (λ x. (resumed_all i ws x).reads) (λ x. (resumed i v x).reads) ((resumed i w y).reads ts)

  -- what is read after a right side of the last one that waits
  pushed : (ws new : List Waiting) (next : Waiting) (l : ℕ) (ts : List Token) → new ≡ ws ++ next ∷ [] →
      (operand i l >>= resumed_all i new).reads ts ≡
      option_and_then (λ x. (resumed_all i ws x.0).reads x.1) ((operand i l >>= resumed i next).reads ts)
  pushed ws new next l ts e =
      ap (λ all. (operand i l >>= resumed_all i all).reads ts) e
      ∙ same_after (λ x. (resumed_all i (ws ++ next ∷ []) x).reads) (λ x. (resumed i next x >>= resumed_all i ws).reads)
      (λ x rest. last_first ws next x rest) ((operand i l).reads ts)
      ∙ sym (regrouped (λ x. (resumed i next x).reads) (λ x. (resumed_all i ws x).reads) ((operand i l).reads ts))

  popped : (ws all : List Waiting) (w : Waiting) (y : Expr) (ts : List Token) → all ≡ ws ++ w ∷ [] →
      (resumed_all i all y).reads ts ≡
      option_and_then (λ x. (resumed_all i ws x.0).reads x.1) ((after_made i w.before (made w.role y)).reads ts)
  popped ws all w y ts e = ap (λ all. (resumed_all i all y).reads ts) e ∙ last_first ws w y ts

  -- after a right side, where no other operator of the level stands
  pub right_ends : (ws all : List Waiting) (w : Waiting) (m : Made) (y : Expr) (r : Reached) (ts rest : List Token) →
      all ≡ ws ++ w ∷ [] → m ≡ made w.role y → ((link w.before.level).sees ts ≡ None) × (rest ≡ ts) →
      r ≡ record { value = chained w.before.value (w.before.steps ++ step_of m ∷ []); level = w.before.next; end = w.before.end } →
      (reached_from i ws r).reads rest ≡ (resumed_all i all y).reads ts
  right_ends ws all w m y r ts rest e makes none is =
      ap (λ ts. (reached_from i ws r).reads ts) none.1
      ∙ ap (λ r. (reached_from i ws r).reads ts) is
      ∙ sym (ap (option_and_then (λ x. (resumed_all i ws x.0).reads x.1)) (made_ends w.before m ts none.0))
      ∙ ap (λ m. option_and_then (λ x. (resumed_all i ws x.0).reads x.1) ((after_made i w.before m).reads ts)) makes
      ∙ sym (popped ws all w y ts e)

  -- where another one stands
  pub right_again : (ws all new : List Waiting) (w next : Waiting) (m : Made) (y : Expr) (k : Link) (ts after : List Token) →
      all ≡ ws ++ w ∷ [] → m ≡ made w.role y → (link w.before.level).sees ts ≡ got k after → again w.before m k ≡ Some next →
      new ≡ ws ++ next ∷ [] → (operand i next.before.level >>= resumed_all i new).reads after ≡ (resumed_all i all y).reads ts
  right_again ws all new w next m y k ts after e makes seen h f =
      pushed ws new next next.before.level after f
      ∙ ap (λ l. option_and_then (λ x. (resumed_all i ws x.0).reads x.1) ((operand i l >>= resumed i next).reads after))
      (again_level w.before m k next h)
      ∙ sym (ap (option_and_then (λ x. (resumed_all i ws x.0).reads x.1)) (made_again w.before m k next ts after seen h))
      ∙ ap (λ m. option_and_then (λ x. (resumed_all i ws x.0).reads x.1) ((after_made i w.before m).reads ts)) makes
      ∙ sym (popped ws all w y ts e)

  -- where one stands that may not
  pub right_fails : (ws all : List Waiting) (w : Waiting) (m : Made) (y : Expr) (k : Link) (ts after : List Token) → AllAbove all →
      all ≡ ws ++ w ∷ [] → m ≡ made w.role y → (link w.before.level).sees ts ≡ got k after →
      is_some (role_of k) ≡ nat_lt postfix_level w.before.level →
      again w.before m k ≡ None → (resumed_all i all y).reads ts ≡ None
  right_fails ws all w m y k ts after above e makes seen operator h =
      popped ws all w y ts e
      ∙ ap (λ m. option_and_then (λ x. (resumed_all i ws x.0).reads x.1) ((after_made i w.before m).reads ts)) (sym makes)
      ∙ ap (option_and_then (λ x. (resumed_all i ws x.0).reads x.1)) (made_fails w.before m k ts after seen
      (operator ∙ lt-ltb postfix_level w.before.level (above_less ws w (subst AllAbove e above)).1) h)

  -- a value, where something goes on with it at a level
  opened : (r : Reached) (found : ℕ) (ts : List Token) → GoesOnAt (Some found) r.level r.end ts →
      (levels i r.level r.end r.value).reads ts ≡
      (gone_on i (record { value = r.value; steps = []; level = found; next = found + 1; end = r.end }) []).reads ts
  unfolding climbed
  opened r found ts goes =
      at_found i r.level r.end found r.value ts goes
      ∙ ap (λ l. (steps_from i (operand i found) found [] >>= (λ ss. climbed i (r.end - (found + 1)) l (chained r.value ss))).reads ts)
      (omega arith)

  -- the first operator there
  pub first_one : (ws new : List Waiting) (next : Waiting) (r : Reached) (found : ℕ) (ss : List Step) (k : Link) (role : Role)
      (ts after : List Token) → GoesOnAt (Some found) r.level r.end ts → (link found).sees ts ≡ got k after → role_of k ≡ Some role →
      ss ≡ [] → next ≡ record {
        before = record { value = r.value; steps = ss; level = found; next = found + 1; end = r.end };
        role = role;
      } →
      new ≡ ws ++ next ∷ [] → (operand i found >>= resumed_all i new).reads after ≡ (reached_from i ws r).reads ts
  first_one ws new next r found ss k role ts after goes seen h none is e =
      pushed ws new next found after e
      ∙ ap (λ w. option_and_then (λ x. (resumed_all i ws x.0).reads x.1) ((operand i found >>= resumed i w).reads after)) is
      ∙ ap (λ ss. option_and_then (λ x. (resumed_all i ws x.0).reads x.1) ((operand i found >>= resumed i (record {
        before = record { value = r.value; steps = ss; level = found; next = found + 1; end = r.end };
        role = role;
      })).reads after)) none
      ∙ sym (ap (option_and_then (λ x. (resumed_all i ws x.0).reads x.1)) (opened r found ts goes
      ∙ gone_more (record { value = r.value; steps = []; level = found; next = found + 1; end = r.end }) [] k role ts after seen h))

  -- where none goes on with it there
  pub none_there : (ws : List Waiting) (r : Reached) (found : ℕ) (ts rest : List Token) → GoesOnAt (Some found) r.level r.end ts →
      ((link found).sees ts ≡ None) × (rest ≡ ts) →
      (reached_from i ws (record r { level = found + 1 })).reads rest ≡ (reached_from i ws r).reads ts
  none_there ws r found ts rest goes none =
      ap (λ ts. (reached_from i ws (record r { level = found + 1 })).reads ts) none.1
      ∙ sym (ap (option_and_then (λ x. (resumed_all i ws x.0).reads x.1)) (climbs i r.level r.end found r.value ts goes [] ts
      (growth.grow_none (link found) (λ a. one_more (step i (operand i found) found a)) [] ts none.0)))

  -- where what is no operator goes on with it
  postfix_opens : (r : Reached) (found : ℕ) (ts : List Token) → GoesOnAt (Some found) r.level r.end ts → found ≡ postfix_level →
      (levels i r.level r.end r.value).reads ts ≡ (after_postfix i r.value r.end).reads ts
  postfix_opens r found ts goes e =
      opened r found ts goes
      ∙ ap (λ l. (gone_on i (record { value = r.value; steps = []; level = l; next = l + 1; end = r.end }) []).reads ts) e
      ∙ sym (regrouped (λ ss rest. got (chained r.value ss) rest) (λ y. (levels i (postfix_level + 1) r.end y).reads)
      ((steps_from i (operand i postfix_level) postfix_level []).reads ts))

  pub postfix_there : (ws : List Waiting) (r : Reached) (found : ℕ) (ts : List Token) → GoesOnAt (Some found) r.level r.end ts →
      found ≡ postfix_level → (after_postfix i r.value r.end >>= resumed_all i ws).reads ts ≡ (reached_from i ws r).reads ts
  postfix_there ws r found ts goes e =
      sym (ap (option_and_then (λ x. (resumed_all i ws x.0).reads x.1)) (postfix_opens r found ts goes e))

  pub postfix_climbs : (level end found : ℕ) (x y : Expr) (ts rest : List Token) → GoesOnAt (Some found) level end ts →
      found ≡ postfix_level → (postfixed i x).reads ts ≡ got y rest →
      (levels i (found + 1) end y).reads rest ≡ (levels i level end x).reads ts
  postfix_climbs level end found x y ts rest goes e h =
      ap (λ l. (levels i (l + 1) end y).reads rest) e
      ∙ sym (postfix_opens (record { value = x; level = level; end = end }) found ts goes e
      ∙ ap (option_and_then (λ y. (levels i (postfix_level + 1) end y.0).reads y.1)) h)

  pub postfix_fails : (level end found : ℕ) (x : Expr) (ts : List Token) → GoesOnAt (Some found) level end ts →
      found ≡ postfix_level → (postfixed i x).reads ts ≡ None → (levels i level end x).reads ts ≡ None
  postfix_fails level end found x ts goes e h =
      postfix_opens (record { value = x; level = level; end = end }) found ts goes e
      ∙ ap (option_and_then (λ y. (levels i (postfix_level + 1) end y.0).reads y.1)) h

  -- what a right side begins with
  pub right_leads : (level : ℕ) (s : OperandStart) (ts rest : List Token) → (operand_start i level).reads ts ≡ got s rest →
      (levels i s.level level s.value).reads rest ≡ (operand i level).reads ts
  right_leads level s ts rest h =
      sym (operand_from i level ts ∙ ap (option_and_then (λ s. (levels i s.0.level level s.0.value).reads s.1)) h)

  pub right_not : (level : ℕ) (ts : List Token) → (operand_start i level).reads ts ≡ None → (operand i level).reads ts ≡ None
  right_not level ts h = operand_from i level ts ∙ ap (option_and_then (λ s. (levels i s.0.level level s.0.value).reads s.1)) h

  pub right_no_more : (level : ℕ) (s : OperandStart) (ts rest : List Token) → (operand_start i level).reads ts ≡ got s rest →
      length rest ≤ length ts
  right_no_more level s ts rest h = (operand_start i level).shorter ts s rest ((operand_start i level).sound ts s rest h)

  -- a value with the steps of the tightest level
  pub postfix_leads : (x y : Expr) (end : ℕ) (ts rest : List Token) → (postfixed i x).reads ts ≡ got y rest →
      (levels i (postfix_level + 1) end y).reads rest ≡ (after_postfix i x end).reads ts
  postfix_leads x y end ts rest h = sym (ap (option_and_then (λ y. (levels i (postfix_level + 1) end y.0).reads y.1)) h)

  pub postfix_not : (x : Expr) (end : ℕ) (ts : List Token) → (postfixed i x).reads ts ≡ None → (after_postfix i x end).reads ts ≡ None
  postfix_not x end ts h = ap (option_and_then (λ y. (levels i (postfix_level + 1) end y.0).reads y.1)) h

  pub postfix_no_more : (x y : Expr) (ts rest : List Token) → (postfixed i x).reads ts ≡ got y rest → length rest ≤ length ts
  postfix_no_more x y ts rest h = (postfixed i x).shorter ts y rest ((postfixed i x).sound ts y rest h)

  -- after what a turn reads
  pub after_same : (ws : List Waiting) (r : Reached) (rest : List Token) (a : Read Token Expr) →
      (levels i r.level r.end r.value).reads rest ≡ a →
      (reached_from i ws r).reads rest ≡ option_and_then (λ x. (resumed_all i ws x.0).reads x.1) a
  after_same ws r rest a h = ap (option_and_then (λ x. (resumed_all i ws x.0).reads x.1)) h

  -- where nothing goes on with it
  pub nothing_there : (ws : List Waiting) (r : Reached) (ts : List Token) → EndsBefore r.level r.end ts →
      (resumed_all i ws r.value).reads ts ≡ (reached_from i ws r).reads ts
  nothing_there ws r ts none =
      sym (ap (option_and_then (λ x. (resumed_all i ws x.0).reads x.1)) (ends_climb i r.level r.end r.value ts none))

  -- at the start none waits
  pub none_waits : (ws : List Waiting) (r : Reached) (ts : List Token) → ws ≡ [] →
      (reached_from i ws r).reads ts ≡ (levels i r.level r.end r.value).reads ts
  none_waits ws r ts e = ap (λ ws. (reached_from i ws r).reads ts) e ∙ itself ((levels i r.level r.end r.value).reads ts)

-- a link of the tightest level has no right side
pub no_role : (k : Link) (level : ℕ) → is_some (role_of k) ≡ nat_lt 0 level → level ≡ 0 → role_of k ≡ None
no_role k level h e = not_some (role_of k) (h ∙ ap (nat_lt 0) e)
  where
    not_some : (o : Option Role) → is_some o ≡ false → o ≡ None
    not_some None g = refl
    not_some (Some role) g = absurd (cc g)

pub ruleset right_starts = (right_leads, right_not, right_no_more)

pub ruleset postfix_starts = (postfix_leads, postfix_not, postfix_no_more)

-- the operators that wait after another one
pub right_above : (ws all new : List Waiting) (w next : Waiting) (m : Made) (k : Link) → all ≡ ws ++ w ∷ [] → new ≡ ws ++ next ∷ [] →
    again w.before m k ≡ Some next → AllAbove all → AllAbove new
right_above ws all new w next m k e f h above =
    let old = above_less ws w (subst AllAbove e above) in
    subst AllAbove (sym f) (above_more ws next old.0 (subst (λ l. postfix_level < l) (sym (again_level w.before m k next h)) old.1))

pub first_above : (ws new : List Waiting) (next : Waiting) → AllAbove ws → postfix_level < next.before.level → new ≡ ws ++ next ∷ [] →
    AllAbove new
first_above ws new next above low e = subst AllAbove (sym e) (above_more ws next above low)

-- less is left
pub right_less : (ws all new : List Waiting) (w next : Waiting) (l : ℕ) (k : Link) (ts after : List Token) → all ≡ ws ++ w ∷ [] →
    new ≡ ws ++ next ∷ [] → (link l).sees ts ≡ got k after → size after new postfix_level < size ts all 256
right_less ws all new w next l k ts after e f seen =
    omega (arith, ap length e, ap length f, length-append ws (w ∷ []), length-append ws (next ∷ []), (link l).nearer ts k after seen)

pub first_less : (ws new : List Waiting) (next : Waiting) (l level : ℕ) (k : Link) (ts after : List Token) → new ≡ ws ++ next ∷ [] →
    (link l).sees ts ≡ got k after → size after new postfix_level < size ts ws level
first_less ws new next l level k ts after f seen =
    omega (arith, ap length f, length-append ws (next ∷ []), (link l).nearer ts k after seen)

pub still_less : (t : Turn) (ts : List Token) (ws : List Waiting) (n m : ℕ) → IsLess t ts ws n → n ≤ m → IsLess t ts ws m
still_less (turns.After r) ts ws n m h more = omega (arith, h, more)
still_less (turns.Postfix x end) ts ws n m h more = omega (arith, h, more)
still_less (turns.Operand level) ts ws n m h more = omega (arith, h, more)
still_less (turns.Whole x) ts ws n m h more = tt

pub all_less : (r : Result Turn (List ErrorKind)) (ts : List Token) (ws : List Waiting) (n m : ℕ) → IfOk r (λ t. IsLess t ts ws n) →
    n ≤ m → IfOk r (λ t. IsLess t ts ws m)
all_less (Ok t) ts ws n m h more = still_less t ts ws n m h more
all_less (Err e) ts ws n m h more = tt

-- the same left after an answer
pub leads_same : {T A B : Type 0} (r : Result A (List ErrorKind)) (rest : List T) (left : A → List T → Read T B) (a b : Read T B) →
    Leads r rest left a → a ≡ b → Leads r rest left b
leads_same r rest left a b h e = subst (λ x. Leads r rest left x) e h
