-- Operands, and how many of them expressions push.
use Rattle.std.proofs.Common.{◌≡◌, ℕ, suc, ◌+◌, List, [], ◌∷◌, ◌++◌, length, Some, None, Bool}
use Rattle.std.proofs.Common.{true, false, refl, subst, ap, ◌∙◌, arith, eqb-true, length-append}
use Rattle.std.specs.Prelude.{ℤ, pos, ◌==◌, cond, if◌then◌else◌, Ok, Err}
use Rattle.std.proofs.lemmas.List.{append-nil}
use Rattle.tm_values.specs.Answer.{Answer, invalid}
use Rattle.tm_values.specs.Val.{Val, number, text, vals_of, list_of}
use Rattle.tm_values.specs.declared.error.ErrorKind.TheVariants.{CannotUnpack}
use Rattle.tm_definitions.specs.Iteration.{exactly}
use Rattle.tm_definitions.specs.Arithmetic.{added, number_answer}
use Rattle.tm_trees.specs.Trees.{Row_of-Expr, no_expr, expr, Row_of-Pair, no_pair, Row_of-Argument, no_argument, argument, Row_of-Keyword}
use Rattle.tm_trees.specs.Trees.{no_keyword, keyword_and}
use Rattle.tm_syntax.specs.Forms.{with_pair, plain, spread, keyword, spread_keywords}
use Rattle.tm_syntax.specs.Code.{RowEnd, count_maps, has_spread_keyword, merged_count, rows_of, together, count, count_lists, count_exprs}
use Rattle.tm_syntax.specs.Code.{count_pairs}
use Rattle.tm_meaning.specs.World.{World, HostValue}
use Rattle.tm_meaning.specs.World.{Res, Good, Bad, bind, tick}
use Rattle.tm_meaning.specs.World.{unpacked_items, answered}
use Rattle.tm_meaning.specs.Meaning.{RowValues, Run}
use Rattle.tm_meaning.specs.Meaning.{Under}
use Rattle.tm_meaning.specs.Meaning.{eval, eval_all, eval_pairs, eval_argument, eval_arguments}
use Rattle.tm_meaning.specs.Meaning.{eval_keywords, eval_lists, incremented}
use Rattle.tm_meaning.specs.Operators.{listed, mapped, merged_by, merged_values, named_by}
use Rattle.tm_meaning.specs.Machine.{taken, onto}
use Rattle.tm_meaning.specs.Instructions.{paired}
use Rattle.tm_simulation.proofs.Advances.{Kept}
use Rattle.tm_simulation.proofs.Gives.{Gives}
use Rattle.tm_simulation.proofs.Follow.{RunContext}
use Rattle.tm_simulation.proofs.Follow.{Follows}

pub onto_both : (vs ks stack : List Val) → onto (vs ++ ks) stack ≡ onto ks (onto vs stack)
onto_both [] ks stack = refl
onto_both (v ∷ vs) ks stack = onto_both vs ks (v ∷ stack)

taken_onto : (vs : List Val) (m : ℕ) (acc stack : List Val) → taken (length vs + m) acc (onto vs stack) ≡ taken m (vs ++ acc) stack
taken_onto [] m acc stack = let e : 0 + m ≡ m = omega arith in ap (λ k. taken k acc stack) e
taken_onto (v ∷ vs) m acc stack =
    let e : suc (length vs) + m ≡ length vs + suc m = omega arith in
    ap (λ k. taken k acc (onto vs (v ∷ stack))) e ∙ taken_onto vs (suc m) acc (v ∷ stack)

pub taken_all : (vs : List Val) (n : ℕ) (stack : List Val) → length vs ≡ n → taken n [] (onto vs stack) ≡ Some (vs, stack)
taken_all vs n stack e =
    let d : n ≡ length vs + 0 = omega (arith, e) in
    ap (λ k. taken k [] (onto vs stack)) d ∙ taken_onto vs 0 [] stack ∙ ap (λ l. Some (l, stack)) (append-nil vs)

-- as many as were asked for
abbrev pub IsLong : {A : Type 0} → ℕ → Res (List A) → Type 0
IsLong n (Good xs w) = length xs ≡ n
IsLong n (Bad chain w) = Unit {0}

pub long_bind : {A B : Type 0} (n : ℕ) (m : Res A) (g : A → World → Res (List B)) → ((a : A) (w : World) → IsLong n (g a w)) →
    IsLong n (bind m g)
long_bind n (Good a w) g k = k a w
long_bind n (Bad chain w) g k = tt

long_more : {A : Type 0} (x : A) (n : ℕ) (m : Res (List A)) → IsLong n m → IsLong (n + 1) (bind m (λ xs w. Good (x ∷ xs) w))
long_more x n (Good xs w) e = omega (arith, e)
long_more x n (Bad chain w) e = tt

pub arguments_long : {n : _} → (u : Under) (run : Run) (given : Row_of-Argument n) (w : World) →
    IsLong (count given) (eval_arguments u run given w)
arguments_long u run no_argument w = refl
arguments_long u run (argument a more) w =
    long_bind _ (eval_argument u run a w) _ (λ v world1. long_more v (count more) (eval_arguments u run more world1)
    (arguments_long u run more world1))

-- as many in other words
pub at_length : {A : Type 0} (n m : ℕ) (q : Res (List A)) → n ≡ m → IsLong n q → IsLong m q
at_length n m q e h = subst (λ k. IsLong k q) e h

-- the same, given how many the first part has
long_kept : {A B : Type 0} (n m : ℕ) (q : Res (List A)) (g : List A → World → Res (List B)) → IsLong n q →
    ((xs : List A) (w : World) → length xs ≡ n → IsLong m (g xs w)) → IsLong m (bind q g)
long_kept n m (Good xs w) g e k = k xs w e
long_kept n m (Bad chain w) g e k = tt

listed_long : (vs : List Val) (w : World) → IsLong (rows_of (length vs)) (listed vs w)
listed_long [] w = refl
listed_long (v ∷ vs) w = long_bind 1 (tick w) _ (λ _ world1. refl)

pub mapped_long : (ps : List (Val × Val)) (w : World) → IsLong (rows_of (length ps)) (mapped ps w)
mapped_long [] w = refl
mapped_long (p ∷ ps) w = long_bind 1 (tick w) _ (λ _ world1. refl)

-- what ends a row: the row, the value that is spread, and the rows after it
ended_long : (n m k : ℕ) (ls vs : List Val) (v : Val) → length ls ≡ n → length vs ≡ m → k ≡ n + 1 + m → length (ls ++ v ∷ vs) ≡ k
ended_long n m k ls vs v e f g = omega (arith, length-append ls (v ∷ vs), e, f, g)

pub keywords_long : {n : _} → (u : Under) (run : Run) (end : RowEnd) (values : RowValues) →
    ((row : List (Val × Val)) (w : World) → IsLong (end.maps (length row)) (values row w)) →
    (row : List (Val × Val)) (ks : Row_of-Keyword n) (w : World) →
    IsLong (count_maps end (length row) ks) (eval_keywords u run values row ks w)
keywords_long u run end values last row no_keyword w = last row w
keywords_long u run end values last row (keyword_and (keyword x a) more) w =
    long_bind _ (tick w) _ (λ _ world1. long_bind _ (eval u run a world1) _ (λ v world2.
    let row1 = row ++ (text x false, v) ∷ [] in
    let one : length row1 ≡ length row + 1 = omega (arith, length-append row ((text x false, v) ∷ [])) in
    let same : count_maps end (length row1) more ≡ count_maps end (length row + 1) more = ap (λ n. count_maps end n more) one in
    at_length _ _ _ (omega (arith, same)) (keywords_long u run end values last row1 more world2)))
keywords_long u run end values last row (keyword_and (spread_keywords a) more) w =
    long_kept (rows_of (length row)) _ (mapped row w) _ (mapped_long row w) (λ ms world1 e.
    long_bind _ (eval u run a world1) _ (λ v world2.
    long_kept (count_maps end 0 more) _ (eval_keywords u run values [] more world2) _
    (keywords_long u run end values last [] more world2) (λ ns world3 f.
    ended_long _ _ _ ms ns v e f refl)))

merged_long : (b : Bool) (n : ℕ) (host : HostValue) (ms : List Val) (w : World) → length ms ≡ n →
    IsLong (merged_count b n) (merged_by b host ms w)
merged_long false n host ms w e = e
merged_long true n host ms w e = long_bind 1 (tick w) _ (λ _ world1. long_bind 1 (merged_values host ms world1) _ (λ v world2. refl))

pub named_long : {n : _} → (host : HostValue) (end : RowEnd) (ks : Row_of-Keyword n) (maps : World → Res (List Val)) →
    ((w : World) → IsLong (count_maps end 0 ks) (maps w)) → (w : World) → IsLong (together end ks) (named_by host ks maps w)
named_long host end ks maps long w =
    long_kept (count_maps end 0 ks) _ (maps w) _ (long w) (λ ms world1 e. merged_long (has_spread_keyword ks) _ host ms world1 e)

pub lists_long : {n : _} → (u : Under) (run : Run) (row : List Val) (given : Row_of-Argument n) (m : ℕ)
    (by_name : World → Res (List Val)) → ((w : World) → IsLong m (by_name w)) → (w : World) →
    IsLong (count_lists (length row) given m) (eval_lists u run row given by_name w)
lists_long u run row no_argument m by_name long w =
    long_kept m _ (by_name w) _ (long w) (λ ks world1 e.
    at_length (rows_of (length (row ++ ks))) (rows_of (length row + m)) _
    (ap rows_of (length-append row ks ∙ ap (λ n. length row + n) e)) (listed_long (row ++ ks) world1))
lists_long u run row (argument (plain a) more) m by_name long w =
    long_bind _ (eval u run a w) _ (λ v world1.
    let one : length (row ++ v ∷ []) ≡ length row + 1 = omega (arith, length-append row (v ∷ [])) in
    let same : count_lists (length (row ++ v ∷ [])) more m ≡ count_lists (length row + 1) more m = ap (λ n. count_lists n more m) one in
    at_length _ _ _ (omega (arith, same)) (lists_long u run (row ++ v ∷ []) more m by_name long world1))
lists_long u run row (argument (spread a) more) m by_name long w =
    long_kept (rows_of (length row)) _ (listed row w) _ (listed_long row w) (λ ls world1 e.
    long_bind _ (eval u run a world1) _ (λ v world2.
    long_kept (count_lists 0 more m) _ (eval_lists u run [] more by_name world2) _ (lists_long u run [] more m by_name long world2)
    (λ vs world3 f. ended_long _ _ _ ls vs v e f refl)))

pub all_long : {n : _} → (u : Under) (run : Run) (es : Row_of-Expr n) (w : World) → IsLong (count_exprs es) (eval_all u run es w)
all_long u run no_expr w = refl
all_long u run (expr e more) w =
    long_bind _ (eval u run e w) _ (λ v world1. long_more v (count_exprs more) (eval_all u run more world1) (all_long u run more world1))

pub pairs_long : {n : _} → (u : Under) (run : Run) (ps : Row_of-Pair n) (w : World) → IsLong (count_pairs ps) (eval_pairs u run ps w)
pairs_long u run no_pair w = refl
pairs_long u run (with_pair k v more) w =
    long_bind _ (eval u run k w) _ (λ x world1. long_bind _ (eval u run v world1) _ (λ y world2.
    long_more (x, y) (count_pairs more) (eval_pairs u run more world2) (pairs_long u run more world2)))

-- so many items of a value
counted : (n : ℕ) (vs : List Val) (b : Bool) (w : World) → (length vs == n) ≡ b →
    IsLong n (answered (cond b (Ok vs) (Err (CannotUnpack ∷ []))) w)
counted n vs true w e = eqb-true (length vs) n e
counted n vs false w e = tt

exactly_long : (n : ℕ) (answer : Answer (List Val)) (w : World) → IsLong n (answered (exactly n answer) w)
exactly_long n (Ok vs) w = counted n vs (length vs == n) w refl
exactly_long n (Err chain) w = tt

pub items_long : (n : ℕ) (v : Val) (w : World) → IsLong n (unpacked_items n v w)
items_long n v w = exactly_long n _ w

-- the same as `bind_then`, of as many as were asked for
pub bind_long : {A B : Type 0} (context : RunContext) (t : List ℕ) (w : World) (n : ℕ) (m : Res (List A)) (g : List A → World → Res B)
    (K : B → World → Type 0) (L : List A → World → Type 0) →
    Gives context.program.host w m → IsLong n m → Follows context t (bind m g) K →
    ((xs : List A) (world1 : World) → Kept w world1 → length xs ≡ n → Follows context t (g xs world1) K → L xs world1) →
    Follows context t m L
bind_long context t w n (Good xs world1) g K L e l h k = k xs world1 e l h
bind_long context t w n (Bad chain world1) g K L e l h k = h

-- keys, each with its value after it
abbrev pub flat : List (Val × Val) → List Val
flat [] = []
flat (x ∷ xs) = x.0 ∷ x.1 ∷ flat xs

pub flat_more : (ps : List (Val × Val)) (k v : Val) (stack : List Val) → onto (flat (ps ++ (k, v) ∷ [])) stack ≡ v ∷ k ∷ onto (flat ps) stack
flat_more [] k v stack = refl
flat_more (p ∷ ps) k v stack = flat_more ps k v (p.1 ∷ p.0 ∷ stack)

pub flat_long : (n : ℕ) (xs : List (Val × Val)) → length xs ≡ n → length (flat xs) ≡ n + n
flat_long n [] e = omega (arith, e)
flat_long n (x ∷ xs) e = omega (arith, e, flat_long (length xs) xs refl)

pub paired_flat : (xs : List (Val × Val)) → paired (flat xs) ≡ xs
paired_flat [] = refl
paired_flat ((k, v) ∷ xs) = ap (λ l. (k, v) ∷ l) (paired_flat xs)

-- one more than a count, where that is a number still
counted_by : (context : RunContext) (t : List ℕ) (z : ℤ) (fits : Bool) (w : World) (K L : Val → World → Type 0) →
    Follows context t (answered (if fits then Ok (number z) else invalid) w) K → (K (number z) w → L (number z) w) →
    Follows context t (answered (number_answer (cond fits (Some z) None)) w) L
counted_by context t z true w K L h k = k h
counted_by context t z false w K L h k = h

pub one_more_then : (context : RunContext) (t : List ℕ) (n : ℕ) (w : World) (K L : Val → World → Type 0) →
    Follows context t (answered (incremented n) w) K → (K (number (pos (n + 1))) w → L (number (pos (n + 1))) w) →
    Follows context t (answered (added (number (pos n)) (number (pos 1))) w) L
one_more_then context t n w K L h k = counted_by context t (pos (n + 1)) _ w K L h k

pub items_back : (vs : List Val) → list_of (vals_of vs) ≡ vs
items_back [] = refl
items_back (v ∷ vs) = ap (λ us. v ∷ us) (items_back vs)
