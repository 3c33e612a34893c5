-- One nesting less, and what is a target.
use Rattle.std.specs.Prelude.{option_map}
use Rattle.std.proofs.Common.{◌≡◌, ℕ, zero, suc, ◌-◌, Bool, List, [], ◌∷◌, ◌++◌, None, Some, refl, sym, ap, ◌∙◌}
use Rattle.tm_syntax.specs.declared.token.Tag.{Tag}
use Rattle.tm_syntax.specs.declared.token.Token.{Token}
use Rattle.tm_trees.specs.Trees.{Expr, Step}
use Rattle.tm_trees.specs.Trees.target_forms
use Rattle.tm_expressions.specs.Grammar.{inside, filter_step, chained, target}
use Rattle.tm_expressions.specs.Grammar.{target_of, lone_target, last_target, attribute_name, split_last}
use Rattle.tm_expressions.proofs.Nesting.{suc-sub-one}
use Rattle.tm_parser.specs.Statements.{inner, body, rest, else_or_end, loop_head, parameters}

pub no_filter : (depth : ℕ) (ts : List Token) → depth ≡ 0 → (inside depth).filter.reads ts ≡ None
unfolding inside
no_filter depth ts h = ap (λ k. (inside k).filter.reads ts) h

pub inner_filter : (depth : ℕ) (ts : List Token) → ¬ (depth ≡ 0) →
    (inside depth).filter.reads ts ≡ (filter_step (inside (depth - 1))).reads ts
unfolding inside
inner_filter zero ts h = absurd (h refl)
inner_filter (suc depth) ts h = ap (λ k. (filter_step (inside k)).reads ts) (sym (suc-sub-one depth))

pub ruleset filters = (no_filter, inner_filter)

pub no_target : (depth : ℕ) (ts : List Token) → depth ≡ 0 → (inside depth).target.reads ts ≡ None
unfolding inside
no_target depth ts h = ap (λ k. (inside k).target.reads ts) h

pub inner_target : (depth : ℕ) (ts : List Token) → ¬ (depth ≡ 0) → (inside depth).target.reads ts ≡ (target (inside (depth - 1))).reads ts
unfolding inside
inner_target zero ts h = absurd (h refl)
inner_target (suc depth) ts h = ap (λ k. (target (inside k)).reads ts) (sym (suc-sub-one depth))

pub ruleset targets = (no_target, inner_target)

pub lone_of : (x : Expr) (ss : List Step) → ss ≡ [] → target_of x ss ≡ lone_target x
lone_of x ss h = ap (target_of x) h

after_all : (x : Expr) (before : List Step) (s : Step) → target_of x (before ++ s ∷ []) ≡ last_target x before s
after_all x [] s = refl
after_all x (b ∷ before) s = ap (λ (w : List Step × Step). last_target x w.0 w.1) (last_split b before s)
  where
    last_split : (b : Step) (before : List Step) (s : Step) → split_last b (before ++ s ∷ []) ≡ (b ∷ before, s)
    last_split b [] s = refl
    last_split b (c ∷ before) s = ap (λ (w : List Step × Step). (b ∷ w.0, w.1)) (last_split c before s)

pub no_attribute : (x : Expr) (ss before : List Step) (s : Step) → ss ≡ before ++ s ∷ [] → attribute_name s ≡ None → target_of x ss ≡ None
no_attribute x ss before s h none = ap (target_of x) h ∙ after_all x before s ∙ ap
    (option_map (λ name. target_forms.Attribute (chained x before) name)) none

pub an_attribute : (x : Expr) (ss before : List Step) (s : Step) (name : List ℕ) → ss ≡ before ++ s ∷ [] → attribute_name s ≡ Some name →
    target_of x ss ≡ Some (target_forms.Attribute (chained x before) name)
an_attribute x ss before s name h some = ap (target_of x) h ∙ after_all x before s ∙ ap
    (option_map (λ name. target_forms.Attribute (chained x before) name)) some

pub ruleset members = (lone_of, no_attribute, an_attribute)

pub no_body : (depth : ℕ) (looping : Bool) (ts : List Token) → depth ≡ 0 → ((inner depth).body looping).reads ts ≡ None
unfolding inner
no_body depth looping ts h = ap (λ k. ((inner k).body looping).reads ts) h

pub inner_body : (depth : ℕ) (looping : Bool) (ts : List Token) → ¬ (depth ≡ 0) →
    ((inner depth).body looping).reads ts ≡ (body (inside (depth - 1)) (inner (depth - 1)) looping).reads ts
unfolding inner
inner_body zero looping ts h = absurd (h refl)
inner_body (suc depth) looping ts h = ap (λ k. (body (inside k) (inner k) looping).reads ts) (sym (suc-sub-one depth))

pub no_rest : (depth : ℕ) (looping : Bool) (ts : List Token) → depth ≡ 0 → ((inner depth).rest looping).reads ts ≡ None
unfolding inner
no_rest depth looping ts h = ap (λ k. ((inner k).rest looping).reads ts) h

pub inner_rest : (depth : ℕ) (looping : Bool) (ts : List Token) → ¬ (depth ≡ 0) →
    ((inner depth).rest looping).reads ts ≡ (rest (inside (depth - 1)) (inner (depth - 1)) looping).reads ts
unfolding inner
inner_rest zero looping ts h = absurd (h refl)
inner_rest (suc depth) looping ts h = ap (λ k. (rest (inside k) (inner k) looping).reads ts) (sym (suc-sub-one depth))

pub no_else_or_end : (depth : ℕ) (end : Tag) (looping : Bool) (ts : List Token) → depth ≡ 0 →
    ((inner depth).else_or_end end looping).reads ts ≡ None
unfolding inner
no_else_or_end depth end looping ts h = ap (λ k. ((inner k).else_or_end end looping).reads ts) h

pub inner_else_or_end : (depth : ℕ) (end : Tag) (looping : Bool) (ts : List Token) → ¬ (depth ≡ 0) →
    ((inner depth).else_or_end end looping).reads ts ≡ (else_or_end (inner (depth - 1)) end looping).reads ts
unfolding inner
inner_else_or_end zero end looping ts h = absurd (h refl)
inner_else_or_end (suc depth) end looping ts h = ap (λ k. (else_or_end (inner k) end looping).reads ts) (sym (suc-sub-one depth))

pub ruleset statements = (no_body, inner_body, no_rest, inner_rest, no_else_or_end, inner_else_or_end)

pub none_loop_head : (depth : ℕ) (ts : List Token) → depth ≡ 0 → (inner depth).loop_head.reads ts ≡ None
unfolding inner
none_loop_head depth ts h = ap (λ k. (inner k).loop_head.reads ts) h

pub inner_loop_head : (depth : ℕ) (ts : List Token) → ¬ (depth ≡ 0) →
    (inner depth).loop_head.reads ts ≡ (loop_head (inside (depth - 1))).reads ts
unfolding inner
inner_loop_head zero ts h = absurd (h refl)
inner_loop_head (suc depth) ts h = ap (λ k. (loop_head (inside k)).reads ts) (sym (suc-sub-one depth))

pub ruleset loops = (none_loop_head, inner_loop_head)

pub no_parameters : (depth : ℕ) (ts : List Token) → depth ≡ 0 → (inner depth).parameters.reads ts ≡ None
unfolding inner
no_parameters depth ts h = ap (λ k. (inner k).parameters.reads ts) h

pub inner_parameters : (depth : ℕ) (ts : List Token) → ¬ (depth ≡ 0) →
    (inner depth).parameters.reads ts ≡ (parameters (inside (depth - 1))).reads ts
unfolding inner
inner_parameters zero ts h = absurd (h refl)
inner_parameters (suc depth) ts h = ap (λ k. (parameters (inside k)).reads ts) (sym (suc-sub-one depth))

pub ruleset macros = (no_parameters, inner_parameters)
