-- The names of the blocks of statements.
use Rattle.std.proofs.Common.{◌≡◌, ℕ, ◌+◌, ◌<◌, ◌≤◌, Bool, List, [], ◌∷◌, ◌++◌, length, drop, Option, Some, None}
use Rattle.std.proofs.Common.{refl, sym, ap, ◌∙◌, arith, append_assoc, drop-cons}
use Rattle.std.proofs.lemmas.List.{append-nil, drop_all, map-append}
use Rattle.std.specs.Prelude.{get_or}
use denote.Hole.Carrier.{hidden}
use Rattle.tm_trees.specs.Trees.{Expr, Stmt, ForLoop, Macro, CallBlock}
use Rattle.tm_trees.specs.Trees.{statements as row, statements_shape}
use Rattle.tm_trees.specs.Trees.statement_forms as stmts
use Rattle.tm_syntax.specs.Blocks.{blocks_of, blocks_in}
use Rattle.tm_syntax.specs.Named.{Named}
use Rattle.tm_parser.specs.Template.{names, names_of, block_names}

-- the names of two lists in a row
names_append : {A : Type 0} (before after : Named A) → names (before ++ after) ≡ names before ++ names after
names_append before after = map-append _ before after

-- a list of the program is a row of children
pub names-nil : block_names [] ≡ []
unfolding hidden row statements_shape
names-nil = refl

pub names-cons : (s : Stmt) (ss : List Stmt) → block_names (s ∷ ss) ≡ names_of s ++ block_names ss
unfolding hidden row statements_shape
names-cons s ss = names_append (blocks_of s) (blocks_in (row ss))

pub names_of_if : (x : Expr) (body : List Stmt) → names_of (stmts.If x body None) ≡ block_names body
unfolding hidden row statements_shape
names_of_if x body = ap names (append-nil _)

pub names_of_if_else : (x : Expr) (body other : List Stmt) → names_of (stmts.If x body (Some other)) ≡ block_names body ++ block_names other
unfolding hidden row statements_shape
names_of_if_else x body other = names_append (blocks_in (row body)) (blocks_in (row other))

pub names_after : Option (List Stmt) → List (List ℕ)
names_after None = []
names_after (Some other) = block_names other

for_either : (l : ForLoop) (other : Option (List Stmt)) → names_of (stmts.For (record l { other = other })) ≡ block_names l.body ++
    names_after other
unfolding hidden row statements_shape names_after
for_either l None = names_append (blocks_in (row l.body)) []
for_either l (Some other) = names_append (blocks_in (row l.body)) (blocks_in (row other))

pub names_of_for : (l : ForLoop) → names_of (stmts.For l) ≡ block_names l.body ++ names_after l.other
names_of_for l = for_either l l.other

pub names_of_block : (name : List ℕ) (required : Bool) (body : List Stmt) →
    names_of (stmts.Block name required body) ≡ block_names body ++ name ∷ []
unfolding hidden row statements_shape
names_of_block name required body = names_append (blocks_in (row body)) _

pub names_of_macro : (m : Macro) → names_of (stmts.Macro m) ≡ block_names m.body
unfolding hidden row statements_shape
names_of_macro m = refl

pub names_of_call : (c : CallBlock) → names_of (stmts.CallBlock c) ≡ block_names c.body
unfolding hidden row statements_shape
names_of_call c = refl

pub ruleset forms = (names_of_if, names_of_if_else, names_of_for, names_of_block, names_of_macro, names_of_call)

-- the loop over statements: what is left after one, and after the last
pub one_more : (old new goal : List (List ℕ)) (ss : List Stmt) (k : ℕ) (s : Stmt) → k < length ss → s ≡ get_or ss k s →
    new ≡ old ++ names_of s →
    old ++ block_names (drop k ss) ≡ goal → new ++ block_names (drop (k + 1) ss) ≡ goal
one_more old new goal ss k s lt is d g =
    let e : drop k ss ≡ s ∷ drop (k + 1) ss = grind (arith, drop-cons ss k s lt, is) in
    ap (λ l. l ++ block_names (drop (k + 1) ss)) d ∙ append_assoc old _ _ ∙ ap (λ l. old ++ l) (sym (names-cons s (drop (k + 1) ss))) ∙ ap
    (λ l. old ++ block_names l) (sym e) ∙ g

pub no_more : (old goal : List (List ℕ)) (ss : List Stmt) (k : ℕ) → length ss ≤ k → old ++ block_names (drop k ss) ≡ goal → old ≡ goal
no_more old goal ss k le g = sym (append-nil old) ∙ ap (λ l. old ++ l) (sym names-nil) ∙ ap (λ l. old ++ block_names l)
    (sym (drop_all k ss le)) ∙ g
