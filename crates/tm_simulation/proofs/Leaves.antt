-- What the run of an expression leaves.
use Rattle.std.proofs.Common.{◌≡◌, ℕ, zero, suc, ◌+◌, List, [], Bool, true, refl, ap, ◌∙◌, subst, arith}
use Rattle.tm_values.specs.Val.{Val}
use Rattle.tm_values.specs.declared.error.ErrorKind.TheVariants.{InvalidOperation}
use Rattle.tm_trees.specs.Trees.{Expr}
use Rattle.tm_meaning.specs.World.{World, HostValue, Res, Good, Bad, root_of}
use Rattle.tm_meaning.specs.declared.stream.StreamId.{StreamId}
use Rattle.tm_meaning.specs.declared.stream.TemplateId.{TemplateId}
use Rattle.tm_meaning.specs.Inheritance.{names_left}
use Rattle.tm_meaning.specs.Calls.{whole}
use Rattle.tm_meaning.specs.Tree.{StreamTree, expression, Trees}
use Rattle.tm_meaning.specs.Meaning.{Run, Outcome, Nests, eval}
use Rattle.tm_meaning.specs.Runs.{under, failed, new_run, leaving, stream_run, restarting, run_of}
use Rattle.tm_meaning.specs.Runs.{nests_of, evaluated, value_left}

-- no parent waits after it
no_parent : (m : Res Val) (heard : Bool) (w : World) (out : List ℕ) (f : TemplateId → Outcome) →
    let o = leaving m (new_run heard w) out in restarting o.ending o f ≡ o
no_parent (Good v x) heard w out f = refl
no_parent (Bad chain x) heard w out f = refl

run_leaves : (host : HostValue) (nests : Nests) (trees : Trees) (n : ℕ) (s : StreamId) (e : Expr) (heard : Bool) (out : List ℕ) (w : World) →
    trees s ≡ expression e →
    run_of host nests trees n s (new_run heard w) out w ≡
    leaving (eval (under host nests (expression e)) (new_run heard w) e w) (new_run heard w) out
run_leaves host nests trees zero s e heard out w is =
    let run = new_run heard w in
    let after = λ (o : Outcome). restarting o.ending o (λ t. failed InvalidOperation run o.text o.world) in
    ap (λ (t : StreamTree). after (stream_run (under host nests t) t run out w)) is
    ∙ no_parent (eval (under host nests (expression e)) run e w) heard w out _
run_leaves host nests trees (suc n) s e heard out w is =
    let run = new_run heard w in
    let after = λ (o : Outcome). restarting o.ending o
    (λ t. run_of host nests trees n (root_of t) run o.text (record o.world { stream = root_of t })) in
    ap (λ (t : StreamTree). after (stream_run (under host nests t) t run out w)) is
    ∙ no_parent (eval (under host nests (expression e)) run e w) heard w out _

-- An expression's run evaluates it.
pub nested_leaves : (host : HostValue) (trees : Trees) (n : ℕ) (s : StreamId) (e : Expr) (heard : Bool) (out : List ℕ) (w : World) →
    trees s ≡ expression e →
    nests_of host trees (suc n) (whole s) heard out w ≡
    leaving (eval (under host (nests_of host trees n) (expression e)) (new_run heard w) e w) (new_run heard w) out
nested_leaves host trees n s e heard out w is =
    run_leaves host (nests_of host trees n) trees (names_left host w) s e heard out w is

value_is : (m : Res Val) (run : Run) (out : List ℕ) → let o = leaving m run out in value_left o.ending o.world ≡ m
value_is (Good v w) run out = refl
value_is (Bad chain w) run out = refl

-- So its value is what it means.
pub evaluated_is : (host : HostValue) (trees : Trees) (e : Expr) (w : World) → trees w.stream ≡ expression e →
    evaluated host trees w ≡ eval (under host (nests_of host trees host.limit) (expression e)) (new_run true w) e w
evaluated_is host trees e w is =
    let more : suc host.limit ≡ host.limit + 1 = omega arith in
    let m = eval (under host (nests_of host trees host.limit) (expression e)) (new_run true w) e w in
    let same = subst (λ n. nests_of host trees n (whole w.stream) true [] w ≡ leaving m (new_run true w) []) more
    (nested_leaves host trees host.limit w.stream e true [] w is) in
    ap (λ (o : Outcome). value_left o.ending o.world) same ∙ value_is m (new_run true w) []
