-- Levels of operators, read in one go.
use Rattle.std.specs.Prelude.{nat_eq, nat_le, nat_lt, ◌&&◌, is_some, option_and_then, if◌then◌else◌}
use Rattle.std.proofs.Common.{◌≡◌, ℕ, zero, suc, ◌+◌, ◌-◌, ◌<◌, ◌≤◌, Bool, true, false, List, [], ◌∷◌, Option, None, Some, refl, sym}
use Rattle.std.proofs.Common.{ap, arith, ◌∙◌}
use Rattle.std.proofs.lemmas.Bool.{leb-true, leb-false, ltb-true, ltb-false, eqb-true, eq-eqb, ne_eqb, and_from, and_parts}
use Rattle.tm_syntax.specs.declared.token.Token.{Token}
use Rattle.tm_syntax.specs.declared.token.Token.TheVariants as tokens
use Rattle.tm_syntax.specs.declared.token.Sign.TheVariants as sign
use Rattle.tm_trees.specs.Trees.{Expr, Step, UnaryOperator}
use Rattle.tm_trees.specs.Trees.expr_forms as exprs
use Rattle.tm_grammar.specs.Meanings.{Read, got, known, first_sees, branch_reads}
use Rattle.tm_grammar.specs.Laws.{not_got, same_got}
use Rattle.tm_grammar.specs.Growth as growth
use Rattle.tm_grammar.specs.Combinators.{first, ◌>>=◌, pure, one_more}
use Rattle.tm_expressions.specs.Tokens.{is, prefix, prefix_of, link, at_level, postfix_level, or_level}
use Rattle.tm_expressions.specs.Grammar.{Inside, primary, operand, expr_at, whole, step, steps_from, chained, condition, conditions_from}
use Rattle.tm_expressions.specs.declared.expressions.OperandStart.{OperandStart}
use Rattle.tm_expressions.specs.Levels.{up_to, prefix_up_to, operand_start, climbed, levels, EndsBefore, GoesOnAt}

-- what is found at a level
module _ {A : Type 0} where
  beyond : (level m : ℕ) (o : Option (ℕ × A)) → up_to level o ≡ None → 0 < m → m ≤ level → at_level m o ≡ None
  beyond level m None h low high = refl
  beyond level m (Some x) h low high = by_tests (nat_lt 0 x.0) refl (nat_le x.0 level) refl (nat_eq x.0 m) refl
    where
      by_tests : (a : Bool) → nat_lt 0 x.0 ≡ a → (b : Bool) → nat_le x.0 level ≡ b → (c : Bool) → nat_eq x.0 m ≡ c →
          at_level m (Some x) ≡ None
      by_tests a d b e false f = ap (λ t. if t then Some x.1 else None) f
      by_tests true d true e true f =
          absurd (let g = sym (ap (λ t. if t then Some x else None) (and_from (nat_lt 0 x.0) (nat_le x.0 level) d e)) ∙ h in cc)
      by_tests false d b e true f = absurd (omega (arith, ltb-false 0 x.0 d, eqb-true x.0 m f, low))
      by_tests true d false e true f = absurd (omega (arith, leb-false x.0 level e, eqb-true x.0 m f, high))

  within : (level : ℕ) (o : Option (ℕ × A)) (x : ℕ × A) → up_to level o ≡ Some x → (o ≡ Some x) × (0 < x.0) × (x.0 ≤ level)
  within level None x h = absurd (let g : ◌≡◌ {A = Option (ℕ × A)} None (Some x) = h in cc)
  within level (Some y) x h = by_test (nat_lt 0 y.0 && nat_le y.0 level) refl
    where
      by_test : (b : Bool) → (nat_lt 0 y.0 && nat_le y.0 level) ≡ b → (Some y ≡ Some x) × (0 < x.0) × (x.0 ≤ level)
      by_test true e =
          let same : Some y ≡ Some x = sym (ap (λ t. if t then Some y else None) e) ∙ h in
          let first : y ≡ x = cc in
          let parts = and_parts (nat_lt 0 y.0) (nat_le y.0 level) e in
          let level_is : y.0 ≡ x.0 = ap (λ (z : ℕ × A). z.0) first in
          (same, omega (arith, ltb-true 0 y.0 parts.0, level_is), omega (arith, leb-true y.0 level parts.1, level_is))
      by_test false e = absurd (let g = sym (ap (λ t. if t then Some y else None) e) ∙ h in cc)

  here : (x : ℕ × A) → at_level x.0 (Some x) ≡ Some x.1
  here x = ap (λ t. if t then Some x.1 else None) (eq-eqb x.0 x.0 refl)

  elsewhere : (m : ℕ) (x : ℕ × A) → (x.0 ≡ m → ⊥) → at_level m (Some x) ≡ None
  elsewhere m x other = ap (λ t. if t then Some x.1 else None) (ne_eqb x.0 m other)

  not_known : {T : Type 0} (ts : List T) (o : Option A) → known ts o ≡ None → o ≡ None
  not_known ts None h = refl
  not_known ts (Some x) h = absurd (not_got x ts (sym h))

  is_known : {T : Type 0} (ts rest : List T) (o : Option A) (x : A) → known ts o ≡ got x rest → (o ≡ Some x) × (ts ≡ rest)
  is_known ts rest None x h = absurd (not_got x rest h)
  is_known ts rest (Some y) x h =
      let same = same_got y x ts rest h in
      (ap Some same.0, same.1)

no_prefix : (level m : ℕ) (ts : List Token) → first_sees (prefix_up_to level) ts ≡ None → 0 < m → m ≤ level → (prefix m).sees ts ≡ None
no_prefix level m [] h low high = refl
no_prefix level m (tokens.Raw text ∷ ts) h low high = refl
no_prefix level m (tokens.Tag tag ∷ ts) h low high = refl
no_prefix level m (tokens.Name name ∷ ts) h low high = refl
no_prefix level m (tokens.Literal v ∷ ts) h low high = refl
no_prefix level m (tokens.Sign s ∷ ts) h low high = ap (known ts) (beyond level m (prefix_of s) (not_known ts (up_to level (prefix_of s)) h)
    low high)

-- what a prefix is at each level
a_prefix : (level m : ℕ) (ts rest : List Token) (x : ℕ × UnaryOperator) → first_sees (prefix_up_to level) ts ≡ got x rest →
    ((prefix m).sees ts ≡ known rest (at_level m (Some x))) × (0 < x.0) × (x.0 ≤ level)
a_prefix level m [] rest x h = absurd (not_got x rest h)
a_prefix level m (tokens.Raw text ∷ ts) rest x h = absurd (not_got x rest h)
a_prefix level m (tokens.Tag tag ∷ ts) rest x h = absurd (not_got x rest h)
a_prefix level m (tokens.Name name ∷ ts) rest x h = absurd (not_got x rest h)
a_prefix level m (tokens.Literal v ∷ ts) rest x h = absurd (not_got x rest h)
a_prefix level m (tokens.Sign s ∷ ts) rest x h =
    let same = is_known ts rest (up_to level (prefix_of s)) x h in
    let found = within level (prefix_of s) x same.0 in
    (ap (λ o. known ts (at_level m o)) found.0 ∙ ap (λ left. known left (at_level m (Some x))) same.1, found.1, found.2)

module _ (i : Inside) where
  -- where no prefix stands, an operand of a level begins with one of the level below
  below : (k : ℕ) (ts : List Token) → (prefix (suc k)).sees ts ≡ None → (operand i (suc k)).reads ts ≡ (expr_at i k).reads ts
  unfolding operand expr_at
  below k ts none =
      ap (λ seen. branch_reads (λ op. (i.operand (suc k) >>= (λ x. pure (exprs.Unary op x))).reads) (expr_at i k).reads seen ts)
      none

  all_of : (o : Read Token Expr) → o ≡ option_and_then (λ x. got x.0 x.1) o
  all_of None = refl
  all_of (Some x) = refl

  moved : {A B : Type 0} (f : Expr → A) (go : A → List Token → Read Token B) (o : Read Token Expr) →
      option_and_then (λ y. go y.0 y.1) (option_and_then (λ x. got (f x.0) x.1) o) ≡ option_and_then (λ x. go (f x.0) x.1) o
  moved f go None = refl
  moved f go (Some x) = refl

  regrouped : (steps : List Token → Read Token (List Step)) (go : Expr → List Token → Read Token Expr) (o : Read Token Expr) →
      option_and_then (λ y. go y.0 y.1) (option_and_then (λ x. option_and_then (λ s. got (chained x.0 s.0) s.1) (steps x.1)) o) ≡
      option_and_then (λ x. option_and_then (λ s. go (chained x.0 s.0) s.1) (steps x.1)) o
  regrouped steps go None = refl
  regrouped steps go (Some x) = after (steps x.1)
    where
      after : (o : Read Token (List Step)) →
          option_and_then (λ y. go y.0 y.1) (option_and_then (λ s. got (chained x.0 s.0) s.1) o) ≡
          option_and_then (λ s. go (chained x.0 s.0) s.1) o
      after None = refl
      after (Some s) = refl

  -- an operand of a level, and the steps of levels after it, from an operand of a lower level on
  down : (n all m level k : ℕ) (ts : List Token) → all ≡ n + m → level ≡ n + k →
      ((j : ℕ) → k < j → j ≤ level → (prefix j).sees ts ≡ None) →
      (operand i level >>= climbed i m level).reads ts ≡ (operand i k >>= climbed i all k).reads ts
  unfolding climbed expr_at
  down zero all m level k ts c e none =
      let same : level ≡ k = omega (arith, e) in
      let count : m ≡ all = omega (arith, c) in
      ap (λ l. (operand i l >>= climbed i m l).reads ts) same ∙ ap (λ n. (operand i k >>= climbed i n k).reads ts) count
  down (suc n) all m level k ts c e none =
      let count : suc (n + m) ≡ all = omega (arith, c) in
      down n (n + m) m level (suc k) ts refl (omega (arith, e)) (λ j above most. none j (omega (arith, above)) most)
      ∙ ap (option_and_then (λ x. (climbed i (n + m) (suc k) x.0).reads x.1)) (below k ts (none (suc k) (omega arith) (omega (arith, e))))
      ∙ regrouped ((steps_from i (operand i k) k []).reads) (λ x. (climbed i (n + m) (suc k) x).reads) ((operand i k).reads ts)
      ∙ ap (λ n. (operand i k >>= climbed i n k).reads ts) count

  taken : (found : ℕ) (op : UnaryOperator) (ts rest : List Token) → 0 < found → (prefix found).sees ts ≡ got op rest →
      (operand i found).reads ts ≡ (i.operand found >>= (λ x. pure (exprs.Unary op x))).reads rest
  unfolding operand expr_at
  taken zero op ts rest above is = absurd (omega (arith, above))
  taken (suc k) op ts rest above is =
      ap (λ seen. branch_reads (λ op. (i.operand (suc k) >>= (λ x. pure (exprs.Unary op x))).reads) (expr_at i k).reads seen ts) is

  abbrev plain : Expr → OperandStart
  plain x = record { value = x; level = postfix_level }

  abbrev prefixed : ℕ × UnaryOperator → Expr → OperandStart
  prefixed p x = record { value = exprs.Unary p.1 x; level = p.0 }

  -- from a start on, up to the end
  abbrev onward : ℕ → OperandStart → List Token → Read Token Expr
  onward end s = (levels i s.level end s.value).reads

  abbrev started : ℕ → List Token → Read Token (ℕ × UnaryOperator) → Read Token Expr
  started end ts seen = option_and_then (λ y. onward end y.0 y.1)
      (branch_reads (λ p. (i.operand p.0 >>= (λ x. pure (prefixed p x))).reads) (primary i >>= (λ x. pure (plain x))).reads seen ts)

  -- the same from its start on
  from_start : (m end level : ℕ) (ts : List Token) → end ≡ level + m →
      (operand i level >>= climbed i m level).reads ts ≡ (operand_start i level >>= (λ s. levels i s.level end s.value)).reads ts
  unfolding operand operand_start
  from_start m end level ts e = by_prefix (first_sees (prefix_up_to level) ts) refl
    where
      by_prefix : (seen : Read Token (ℕ × UnaryOperator)) → first_sees (prefix_up_to level) ts ≡ seen →
          (operand i level >>= climbed i m level).reads ts ≡ (operand_start i level >>= (λ s. levels i s.level end s.value)).reads ts
      by_prefix None h =
          down level (end - postfix_level) m level 0 ts (omega (arith, e)) (omega arith) (λ j low high. no_prefix level j ts h low high)
          ∙ sym (moved plain (onward end) ((primary i).reads ts)) ∙ sym (ap (started end ts) h)
      by_prefix (Some x) h =
          let at : (j : ℕ) → ((prefix j).sees ts ≡ known x.1 (at_level j (Some x.0))) × (0 < x.0.0) × (x.0.0 ≤ level) =
          λ j. a_prefix level j ts x.1 x.0 h in
          let low : 0 < x.0.0 = (at 0).1 in
          let high : x.0.0 ≤ level = (at 0).2 in
          down (level - x.0.0) (end - x.0.0) m level x.0.0 ts (omega (arith, e, high)) (omega (arith, high))
          (λ j more less. (at j).0 ∙ ap (known x.1) (elsewhere j x.0 (λ is. omega (arith, is, more))))
          ∙ ap (option_and_then (λ y. (levels i x.0.0 end y.0).reads y.1)) (taken x.0.0 x.0.1 ts x.1 low
          ((at x.0.0).0 ∙ ap (known x.1) (here x.0)))
          ∙ moved (exprs.Unary x.0.1) (λ y. (levels i x.0.0 end y).reads) ((i.operand x.0.0).reads x.1)
          ∙ sym (moved (prefixed x.0) (onward end) ((i.operand x.0.0).reads x.1)) ∙ sym (ap (started end ts) h)

  pub operand_from : (level : ℕ) (ts : List Token) →
      (operand i level).reads ts ≡ (operand_start i level >>= (λ s. levels i s.level level s.value)).reads ts
  unfolding climbed
  operand_from level ts = all_of ((operand i level).reads ts) ∙ from_start 0 level level ts (omega arith)

  pub whole_from : (ts : List Token) →
      (whole i).reads ts ≡ (operand_start i or_level >>= (λ s. levels i s.level (or_level + 1) s.value)).reads ts
  unfolding climbed expr_at
  whole_from ts = from_start 1 (or_level + 1) or_level ts (omega arith)

  -- where nothing goes on at a level
  passes : (level : ℕ) (ts : List Token) → (link level).sees ts ≡ None → (n : ℕ) (x : Expr) →
      (climbed i (suc n) level x).reads ts ≡ (climbed i n (suc level) x).reads ts
  unfolding climbed
  passes level ts none n x =
      ap (option_and_then (λ s. (climbed i n (suc level) (chained x s.0)).reads s.1))
      (growth.grow_none (link level) (λ a. one_more (step i (operand i level) level a)) [] ts none)

  to_level : (d n all level found : ℕ) (x : Expr) (ts : List Token) → all ≡ d + n → found ≡ d + level →
      ((m : ℕ) → level ≤ m → m < found → (link m).sees ts ≡ None) → (climbed i all level x).reads ts ≡ (climbed i n found x).reads ts
  to_level zero n all level found x ts e is none =
      let count : all ≡ n = omega (arith, e) in
      let same : level ≡ found = omega (arith, is) in
      ap (λ k. (climbed i k level x).reads ts) count ∙ ap (λ l. (climbed i n l x).reads ts) same
  to_level (suc d) n all level found x ts e is none =
      let count : all ≡ suc (d + n) = omega (arith, e) in
      ap (λ k. (climbed i k level x).reads ts) count
      ∙ passes level ts (none level (omega arith) (omega (arith, is))) (d + n) x
      ∙ to_level d n (d + n) (suc level) found x ts refl (omega (arith, is)) (λ m more less. none m (omega (arith, more)) less)

  -- where nothing goes on before the end
  pub ends_climb : (level end : ℕ) (x : Expr) (ts : List Token) → EndsBefore level end ts → (levels i level end x).reads ts ≡ got x ts
  unfolding climbed
  ends_climb level end x ts none = to_level (end - level) 0 (end - level) level ((end - level) + level) x ts (omega arith) refl
      (λ m more less. none m more (omega (arith, more, less)))

  -- where something may go on at a level
  module _ (level end found : ℕ) (x : Expr) (ts : List Token) (goes : GoesOnAt (Some found) level end ts) where
    pub at_found : (levels i level end x).reads ts ≡ (climbed i (suc (end - (found + 1))) found x).reads ts
    at_found = to_level (found - level) (suc (end - (found + 1))) (end - level) level found x ts (omega (arith, goes.0, goes.1))
        (omega (arith, goes.0)) goes.2

    pub climbs : (ss : List Step) (rest : List Token) → (steps_from i (operand i found) found []).reads ts ≡ got ss rest →
        (levels i level end x).reads ts ≡ (levels i (found + 1) end (chained x ss)).reads rest
    unfolding climbed
    climbs ss rest h =
        at_found ∙ ap (option_and_then (λ s. (climbed i (end - (found + 1)) (suc found) (chained x s.0)).reads s.1)) h
        ∙ ap (λ l. (climbed i (end - (found + 1)) l (chained x ss)).reads rest) (omega arith)

    pub climb_fails : (steps_from i (operand i found) found []).reads ts ≡ None → (levels i level end x).reads ts ≡ None
    unfolding climbed
    climb_fails h = at_found ∙ ap (option_and_then (λ s. (climbed i (end - (found + 1)) (suc found) (chained x s.0)).reads s.1)) h

pub ruleset operands = (operand_from, whole_from)

pub no_condition : (i : Inside) (ts : List Token) → is_some (first_sees (is sign.If) ts) ≡ false →
    (conditions_from i []).reads ts ≡ got [] ts
no_condition i ts none =
    growth.grow_none (first (is sign.If)) (λ a. one_more (condition i)) [] ts (not_seen (first_sees (is sign.If) ts) none)
  where
    not_seen : {A : Type 0} (o : Option A) → is_some o ≡ false → o ≡ None
    not_seen None h = refl
    not_seen (Some x) h = absurd (cc h)
