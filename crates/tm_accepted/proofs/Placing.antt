-- What is tested at every instruction holds of the code of trees.
use Rattle.std.proofs.Common.{◌≡◌, ℕ, ◌+◌, ◌-◌, ◌≤◌, List, [], ◌∷◌, length, Option, Some, None, Bool, true, false, refl, ap, ◌∙◌, subst, arith}
use Rattle.std.proofs.Common.{map as each}
use Rattle.std.specs.Prelude.{pos, is_some, not, ◌&&◌, ◌||◌}
use Rattle.std.proofs.lemmas.Bool.Decides.{nat_tests}
use Rattle.tm_values.specs.Val.{number, text}
use Rattle.tm_values.proofs.Lists.{list_of-vals_of}
use Rattle.tm_syntax.specs.Entries.{names_in, texts_in, and_text}
use Rattle.tm_trees.specs.Instructions.{Instruction}
use Rattle.tm_trees.specs.Instructions.instructions as i
use Rattle.tm_syntax.specs.Blocks.{StreamTree, fragment_of}
use Rattle.tm_syntax.specs.CacheNumbers.{numbered}
use Rattle.tm_syntax.specs.Fragments.{name_list, assembled}
use Rattle.tm_shapes.specs.Flows.{builds}
use Rattle.tm_shapes.specs.Placed.{target, is_entered, is_within, targets_within, parts_fit, is_placed, build_fits, before_next, is_names, names_by}
use Rattle.tm_shapes.specs.declared.before.Before.{Before}
use Rattle.tm_shapes.specs.declared.before.Before.TheVariants as befores
use Rattle.tm_accepted.specs.Sites.{Piece, ordinary, pieces}
use Rattle.tm_accepted.proofs.Chunks.{Chunk, alone, drops, joins, builds_one, flat, flat_pieces, AllGood}
use Rattle.tm_accepted.proofs.Targets.{OnTarget, AllTargets, targets_weaker, Misses, Free}
use Rattle.tm_accepted.proofs.Caches.{filters_fit, tests_fit}
use Rattle.tm_accepted.proofs.Numbers.{InChunks, tree_made}
use Rattle.tm_accepted.proofs.Sited.{alone_builds, second_free, third_free}

-- ---------------------------------------------------------------- targets
on_within : (size : ℕ) (o : Option ℕ) → OnTarget (λ t. t ≤ size) o → is_within size o ≡ true
on_within size None h = refl
on_within size (Some t) h = grind (arith, nat_tests, h)

all_within : (size : ℕ) (is : List Instruction) → AllTargets (λ t. t ≤ size) is → targets_within size is ≡ true
all_within size [] h = refl
all_within size (x ∷ is) h = rw (on_within size (target x) h.0, all_within size is h.1) refl

-- ---------------------------------------------------------------- macros
texts_are : (xs : List (List ℕ)) → texts_in (each (λ x. text x false) xs) ≡ Some xs
texts_are [] = refl
texts_are (x ∷ xs) = ap (and_text (Some x)) (texts_are xs)

names_are : (xs : List (List ℕ)) → names_in (name_list xs) ≡ Some xs
names_are xs = ap texts_in (list_of-vals_of (each (λ x. text x false) xs)) ∙ texts_are xs

-- what builds no macro fits anywhere
fits_there : (code : List Instruction) (n : ℕ) (before : Before) (x : Instruction) → builds (x ∷ []) ≡ false → build_fits code n before x ≡ true
fits_there code n before (i.BuildMacro x place caller) h = absurd (cc h)
fits_there code n before x h = refl

both_fit : (a b : Bool) → a ≡ true → b ≡ true → (a && b) ≡ true
both_fit a b e f = rw (e, f) refl

built_fits : (a b c : Bool) → a ≡ true → b ≡ false → c ≡ false → (is_names (names_by a) && not (b || c)) ≡ true
built_fits a b c e f g = rw (e, f, g) refl

all_fit : (code : List Instruction) (cs : List Chunk) (n : ℕ) (before : Before) → AllGood cs →
    AllTargets (λ t. Misses t n (flat_pieces cs)) code → parts_fit code n before (flat cs) ≡ true
all_fit code [] n before h t = refl
all_fit code (alone x ∷ cs) n before h t =
    both_fit (build_fits code n before x) (parts_fit code (n + 1) (before_next before x) (flat cs))
    (fits_there code n before x (alone_builds x [] h.0))
    (all_fit code cs (n + 1) (before_next before x) h.1
    (targets_weaker (λ t. Misses t n (ordinary ∷ flat_pieces cs)) (λ t. Misses t (n + 1) (flat_pieces cs)) code (λ t m. m.1) t))
all_fit code (drops ∷ cs) n before h t =
    all_fit code cs (n + 1 + 1) befores.Nothing h.1
    (targets_weaker (λ t. Misses t n (flat_pieces (drops ∷ cs))) (λ t. Misses t (n + 1 + 1) (flat_pieces cs)) code (λ t m. m.1.1) t)
all_fit code (joins ∷ cs) n before h t =
    all_fit code cs (n + 1 + 1 + 1) befores.Nothing h.1
    (targets_weaker (λ t. Misses t n (flat_pieces (joins ∷ cs))) (λ t. Misses t (n + 1 + 1 + 1) (flat_pieces cs)) code (λ t m. m.1.1.1) t)
all_fit code (builds_one xs x place caller ∷ cs) n before h t =
    let here : n + 1 + 1 - 1 ≡ n + 1 = omega arith in
    both_fit _ (parts_fit code (n + 1 + 1 + 1) befores.Nothing (flat cs))
    (built_fits (is_some (names_in (name_list xs))) (is_entered code (n + 1 + 1)) (is_entered code (n + 1 + 1 - 1))
    (ap is_some (names_are xs)) (third_free code n cs t) (ap (is_entered code) here ∙ second_free code n cs t))
    (all_fit code cs (n + 1 + 1 + 1) befores.Nothing h.1
    (targets_weaker (λ t. Misses t n (flat_pieces (builds_one xs x place caller ∷ cs))) (λ t. Misses t (n + 1 + 1 + 1) (flat_pieces cs)) code
    (λ t m. m.1.1.1) t))

-- ---------------------------------------------------------------- all of it
made_within : (code : List Instruction) (ps : List Piece) → InChunks code ps → targets_within (length code) code ≡ true
made_within code ps h =
    all_within (length code) code (targets_weaker (Free (length code) ps) (λ t. t ≤ length code) code (λ t m. m.0) h.targets)

made_fits : (code : List Instruction) (ps : List Piece) → InChunks code ps → parts_fit code 0 befores.Nothing code ≡ true
made_fits code ps h =
    let cs = h.chunked.chunks in
    ap (parts_fit code 0 befores.Nothing) h.chunked.code
    ∙ all_fit code cs 0 befores.Nothing h.chunked.good
    (targets_weaker (Free (length code) ps) (λ t. Misses t 0 (flat_pieces cs)) code (λ t m. subst (Misses t 0) h.chunked.parts m.1) h.targets)

pub tree_placed : (tree : StreamTree) → is_placed (numbered (assembled (fragment_of tree))) ≡ true
tree_placed tree =
    let before = assembled (fragment_of tree) in
    let code = numbered before in
    let made = tree_made tree in
    rw (made_within code (pieces (fragment_of tree)) made, filters_fit before, tests_fit before, made_fits code (pieces (fragment_of tree)) made) refl
