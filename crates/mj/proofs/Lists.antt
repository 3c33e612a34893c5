-- Errors that are passed on, what holds somewhere in a list, and lists that a loop goes over or fills.
use Rattle.std.proofs.Common.{◌≡◌, ℕ, ◌+◌, ◌<◌, ◌≤◌, suc, List, [], ◌∷◌, ◌++◌, length, drop, map, get_or, Bor, Global, refl, sym, ap, subst, ◌∙◌, arith, drop-cons}
use Rattle.std.proofs.Common.{Result, Ok, Err, IsErrAnd, IfErr, MatchResult}
use Rattle.std.specs.List.{Any}
use Rattle.std.specs.Prelude.{string_bytes}
use Rattle.std.specs.declared.string.String.{String}
use Rattle.std.proofs.lemmas.List.{drop_all, map-append}
use Rattle.mj_words.specs.CommandLine.{Text}
use Rattle.mj.specs.Program.{named}

-- an error that was passed on
pub passed : {T E : Type 0} (r : Result T E) (P : T → Type 0) (Q : E → Type 0) (e : E) → IsErrAnd r (λ x. x ≡ e) → Q e → MatchResult r P Q
passed (Ok x) P Q e p q = absurd p
passed (Err y) P Q e p q = subst Q (sym p) q

pub passed_fault : {T E : Type 0} (r : Result T E) (Q : E → Type 0) (e : E) → IsErrAnd r (λ x. x ≡ e) → Q e → IfErr r Q
passed_fault (Ok x) Q e p q = tt
passed_fault (Err y) Q e p q = subst Q (sym p) q

pub any_first : {X : Type 0} (P : X → Type 0) (x : X) (xs : List X) → P x → Any P (x ∷ xs)
any_first P x xs p = (0, x, omega arith, refl, p)

pub any_later : {X : Type 0} (P : X → Type 0) (x : X) (xs : List X) → Any P xs → Any P (x ∷ xs)
any_later P x xs (k, y, below, there, p) = (suc k, y, omega (arith, below), there, p)

-- the next word is the first of those that are left
pub next_word : (words : List (String Global)) (k : ℕ) (word : String Global) → k < length words → word ≡ get_or words k word →
    map string_bytes (drop k words) ≡ string_bytes word ∷ map string_bytes (drop (k + 1) words)
next_word words k word below is =
    let next : drop k words ≡ word ∷ drop (k + 1) words = grind (arith, drop-cons words k word below, is) in
    ap (λ (left : List (String Global)). map string_bytes left) next

pub no_word : (words : List (String Global)) (k : ℕ) → length words ≤ k → map string_bytes (drop k words) ≡ []
no_word words k beyond = ap (λ (left : List (String Global)). map string_bytes left) (drop_all k words beyond)

-- a file with its source that was pushed stands after the others
pub pushed : (xs ys : List (Bor Text × String Global)) (x : Bor Text × String Global) → ys ≡ xs ++ x ∷ [] →
    map named ys ≡ map named xs ++ named x ∷ []
pushed xs ys x e = ap (λ (all : List (Bor Text × String Global)). map named all) e ∙ map-append named xs (x ∷ [])
