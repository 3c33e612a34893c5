-- The topmost operands of a stack that lies in memory with the lowest first.
use Rattle.std.proofs.Common.{◌≡◌, ◌⊎◌, inl, inr, ◌<◌, ◌≤◌, ◌-◌, ℕ, zero, suc, List, [], ◌∷◌, ◌++◌, length, take, drop, reverse, Some, None}
use Rattle.std.proofs.Common.{refl, sym, ◌∙◌, ap, subst, arith}
use Rattle.std.proofs.lemmas.List.{append-nil, append_assoc, reverse-append, reverse-reverse, length-reverse, length-drop, take-append-drop}
use Rattle.std.proofs.lemmas.List.{drop_at, drop_all, take_rest}
use Rattle.std.proofs.lemmas.Bool.{cases_lt}
use Rattle.tm_values.specs.Val.{Val}
use Rattle.tm_meaning.specs.Machine.{onto, taken}

-- put on one by one, the last is on top
onto_turned : (vs stack : List Val) → reverse vs ++ stack ≡ onto vs stack
onto_turned [] stack = refl
onto_turned (v ∷ vs) stack =
    ap (λ (l : List Val). l ++ stack) (reverse-append (v ∷ []) vs) ∙ append_assoc (reverse vs) (v ∷ []) stack ∙ onto_turned vs (v ∷ stack)

pub onto_none : (vs : List Val) → reverse vs ≡ onto vs []
onto_none vs = sym (append-nil (reverse vs)) ∙ onto_turned vs []

-- more than there are
pub taken_too_many : (n : ℕ) (acc vs : List Val) → length vs < n → taken n acc vs ≡ None
taken_too_many zero acc vs short = absurd (omega arith)
taken_too_many (suc n) acc [] short = refl
taken_too_many (suc n) acc (v ∷ vs) short = taken_too_many n (v ∷ acc) vs (omega arith)

-- all that lie above others
pub taken_above : (front acc rest : List Val) → taken (length front) acc (front ++ rest) ≡ Some (reverse front ++ acc, rest)
taken_above [] acc rest = refl
taken_above (v ∷ front) acc rest =
    let turned : reverse (v ∷ front) ++ acc ≡ reverse front ++ (v ∷ acc) =
    ap (λ (l : List Val). l ++ acc) (reverse-append (v ∷ []) front) ∙ append_assoc (reverse front) (v ∷ []) acc in
    taken_above front (v ∷ acc) rest ∙ ap (λ (l : List Val). Some (l, rest)) (sym turned)

-- the stack, cut at the lowest of n
cut : (xs : List Val) (n : ℕ) → reverse xs ≡ reverse (drop (length xs - n) xs) ++ reverse (take (length xs - n) xs)
cut xs n =
    ap reverse (sym (take-append-drop (length xs - n) xs)) ∙ reverse-append (take (length xs - n) xs) (drop (length xs - n) xs)

length_front : (xs : List Val) (n : ℕ) → n ≤ length xs → length (reverse (drop (length xs - n) xs)) ≡ n
length_front xs n within =
    let all = length-reverse (drop (length xs - n) xs) in
    let some = length-drop (length xs - n) xs in
    omega (arith, all, some)

below : (xs : List Val) (n : ℕ) → n ≤ length xs → drop n (reverse xs) ≡ reverse (take (length xs - n) xs)
below xs n within =
    ap (drop n) (cut xs n)
    ∙ drop_at (reverse (drop (length xs - n) xs)) (reverse (take (length xs - n) xs)) n (length_front xs n within)

-- The topmost n of as many as are held, the lowest first, are the last in memory, and the others are left.
pub taken_split : (xs : List Val) (held n : ℕ) → held ≡ length xs → n ≤ held →
    taken n [] (reverse xs) ≡ Some (drop (held - n) xs, reverse (take (held - n) xs))
taken_split xs held n all within =
    let front = drop (length xs - n) xs in
    let rest = reverse (take (length xs - n) xs) in
    let few : n ≤ length xs = omega (arith, all, within) in
    let whole : taken (length (reverse front)) [] (reverse front ++ rest) ≡ Some (front, rest) =
    taken_above (reverse front) [] rest
    ∙ ap (λ (l : List Val). Some (l, rest)) (append-nil (reverse (reverse front)) ∙ reverse-reverse front) in
    let counted : taken n [] (reverse front ++ rest) ≡ Some (front, rest) =
    subst (λ (k : ℕ). taken k [] (reverse front ++ rest) ≡ Some (front, rest)) (length_front xs n few) whole in
    rw all ((ap (taken n []) (cut xs n)) ∙ counted)

-- no more than are held, or none
pub taken_past : (xs : List Val) (held n : ℕ) → held ≡ length xs → held < n → taken n [] (reverse xs) ≡ None
taken_past xs held n all short =
    let turned = length-reverse xs in
    taken_too_many n [] (reverse xs) (omega (arith, turned, all, short))

left_by : (xs : List Val) (n : ℕ) → (length xs < n) ⊎ (n ≤ length xs) → reverse (take (length xs - n) xs) ≡ drop n (reverse xs)
left_by xs n (inl past) =
    let turned = length-reverse xs in
    let none : length xs - n ≡ 0 = omega (arith, past) in
    rw none (sym (drop_all n (reverse xs) (omega (arith, turned, past))))
left_by xs n (inr within) = sym (below xs n within)

-- What is left without the topmost n, or nothing.
pub left_below : (xs : List Val) (held n : ℕ) → held ≡ length xs → reverse (take (held - n) xs) ≡ drop n (reverse xs)
left_below xs held n all = rw all (left_by xs n (cases_lt (length xs) n))

-- The topmost n of as many as are held, by what was dropped of the stack.
pub taken_last : (xs : List Val) (held n : ℕ) → held ≡ length xs → n ≤ held →
    taken n [] (reverse xs) ≡ Some (take (length xs - (held - n)) (drop (held - n) xs), drop n (reverse xs))
taken_last xs held n all within =
    taken_split xs held n all within ∙ ap (λ (l : List Val). Some (drop (held - n) xs, l)) (left_below xs held n all)
    ∙ ap (λ (l : List Val). Some (l, drop n (reverse xs))) (sym (take_rest xs (held - n)))
