-- The indent of a text's last line.
use Rattle.std.proofs.Common.{◌≡◌, ℕ, zero, suc, ◌-◌, ◌<◌, ◌≤◌, List, [], ◌∷◌, Bool, true, false, length, drop, take, get_or, refl, sym}
use Rattle.std.proofs.Common.{◌∙◌, ap, arith, subst}
use Rattle.std.specs.Prelude.{◌&&◌, ◌||◌, ◌==◌, if◌then◌else◌}
use Rattle.std.proofs.lemmas.Bool.{eqb-true}
use Rattle.tm_delimiters.proofs.Places.{not_true}
use Rattle.tm_delimiters.specs.Trimming.{is_space, is_indent, without_indent}

no_newline : (c : ℕ) → is_space c ≡ true → (c == 10) ≡ false
no_newline c h = by_test (c == 32) refl h
  where
    by_test : (b : Bool) → (c == 32) ≡ b → (b || (c == 9)) ≡ true → (c == 10) ≡ false
    by_test true e h = ap (λ d. d == 10) (eqb-true c 32 e)
    by_test false e h = ap (λ d. d == 10) (eqb-true c 9 h)

both : (x y : Bool) → (x && y) ≡ true → (x ≡ true) × (y ≡ true)
both true y h = (refl, h)
both false y h = cc

neither_way : (x : Bool) → (x && false) ≡ false
neither_way true = refl
neither_way false = refl

-- an indent that begins no line stays
stays : (cs : List ℕ) → is_indent cs ≡ true → without_indent false cs ≡ cs
stays [] h = refl
stays (c ∷ cs) h =
    let parts = both (is_space c) (is_indent cs) h in
    ap (λ b. c ∷ without_indent b cs) (no_newline c parts.0) ∙ ap (λ w. c ∷ w) (stays cs parts.1)

goes : (cs : List ℕ) → is_indent cs ≡ true → without_indent true cs ≡ []
goes [] h = refl
goes (c ∷ cs) h = ap (λ b. if b then [] else (c ∷ without_indent (c == 10) cs)) h

-- where another byte stands, not all is an indent
broken : (cs : List ℕ) (k : ℕ) → k < length cs → is_space (get_or cs k 0) ≡ false → is_indent cs ≡ false
broken [] k small h = absurd (omega (arith, small))
broken (c ∷ cs) zero small h = ap (λ b. b && is_indent cs) h
broken (c ∷ cs) (suc k) small h = ap (λ b. is_space c && b) (broken cs k (omega (arith, small)) h) ∙ neither_way (is_space c)

one_kept : (b : Bool) (c : ℕ) (cs : List ℕ) → is_indent (c ∷ cs) ≡ false → without_indent b (c ∷ cs) ≡ c ∷ without_indent (c == 10) cs
one_kept b c cs h = ap (λ w. if w then [] else (c ∷ without_indent (c == 10) cs)) (ap (λ w. b && w) h ∙ neither_way b)

-- the indent goes where a line starts at its place
abbrev pub cut_at : Bool → List ℕ → ℕ → List ℕ
cut_at starts cs k = if starts then take k cs else cs

pub first_line : (b : Bool) (cs : List ℕ) → is_indent cs ≡ true → without_indent b cs ≡ cut_at b cs 0
first_line true cs h = goes cs h
first_line false cs h = stays cs h

pub last_line : (b : Bool) (cs : List ℕ) (k : ℕ) → k < length cs → is_indent (drop (suc k) cs) ≡ true → is_space (get_or cs k 0) ≡ false →
    without_indent b cs ≡ cut_at (get_or cs k 0 == 10) cs (suc k)
last_line b [] k small rest other = absurd (omega (arith, small))
last_line b (c ∷ cs) zero small rest other = one_kept b c cs (broken (c ∷ cs) zero small other)
    ∙ ap (λ w. c ∷ w) (first_line (c == 10) cs rest) ∙ by_test (c == 10)
  where
    by_test : (w : Bool) → c ∷ cut_at w cs 0 ≡ cut_at w (c ∷ cs) 1
    by_test true = refl
    by_test false = refl
last_line b (c ∷ cs) (suc k) small rest other =
    one_kept b c cs (broken (c ∷ cs) (suc k) small other)
    ∙ ap (λ w. c ∷ w) (last_line (c == 10) cs k (omega (arith, small)) rest other) ∙ by_test (get_or cs k 0 == 10)
  where
    by_test : (w : Bool) → c ∷ cut_at w cs (suc k) ≡ cut_at w (c ∷ cs) (suc (suc k))
    by_test true = refl
    by_test false = refl

-- one byte more
pub one_more : (cs : List ℕ) (k : ℕ) → k < length cs → is_space (get_or cs k 0) ≡ true → is_indent (drop (suc k) cs) ≡ true →
    is_indent (drop k cs) ≡ true
one_more [] k small here rest = absurd (omega (arith, small))
one_more (c ∷ cs) zero small here rest = ap (λ b. b && is_indent cs) here ∙ rest
one_more (c ∷ cs) (suc k) small here rest = one_more cs k (omega (arith, small)) here rest

pub first_space : (cs : List ℕ) (k : ℕ) → k < length cs → is_indent (drop k cs) ≡ true → is_space (get_or cs k 0) ≡ true
first_space [] k small h = absurd (omega (arith, small))
first_space (c ∷ cs) zero small h = (both (is_space c) (is_indent cs) h).0
first_space (c ∷ cs) (suc k) small h = first_space cs k (omega (arith, small)) h

pub space_is_ascii : (c : ℕ) → is_space c ≡ true → c < 128
space_is_ascii c h = by_test (c == 32) refl h
  where
    by_test : (b : Bool) → (c == 32) ≡ b → (b || (c == 9)) ≡ true → c < 128
    by_test true e h = omega (arith, eqb-true c 32 e)
    by_test false e h = omega (arith, eqb-true c 9 h)

-- What is left where k spaces and tabs short of the end another byte stands, or the text begins.
pub whole_gone : (b : Bool) (cs : List ℕ) (k : ℕ) → k ≡ 0 → is_indent (drop k cs) ≡ true → b ≡ true → [] ≡ without_indent b cs
whole_gone b cs k e h starts = sym (rw starts (goes cs (subst (λ (n : ℕ). is_indent (drop n cs) ≡ true) e h)))

pub whole_stays : (b : Bool) (cs : List ℕ) (k : ℕ) → k ≡ 0 → is_indent (drop k cs) ≡ true → b ≡ false → cs ≡ without_indent b cs
whole_stays b cs k e h starts = sym (rw starts (stays cs (subst (λ (n : ℕ). is_indent (drop n cs) ≡ true) e h)))

before_last : (b : Bool) (cs : List ℕ) (k : ℕ) → (k ≡ 0 → ⊥) → k ≤ length cs → is_indent (drop k cs) ≡ true →
    (0 < k → is_space (get_or cs (k - 1) 0) ≡ false) → without_indent b cs ≡ cut_at (get_or cs (k - 1) 0 == 10) cs k
before_last b cs zero some fits h other = absurd (some refl)
before_last b cs (suc k) some fits h other =
    let place : suc k - 1 ≡ k = omega arith in
    last_line b cs k (omega (arith, fits)) h (ap (λ n. is_space (get_or cs n 0)) (sym place) ∙ other (omega arith))
    ∙ ap (λ n. cut_at (get_or cs n 0 == 10) cs (suc k)) (sym place)

pub last_gone : (b : Bool) (cs : List ℕ) (k : ℕ) → (k ≡ 0 → ⊥) → k ≤ length cs → is_indent (drop k cs) ≡ true →
    (0 < k → is_space (get_or cs (k - 1) 0) ≡ false) → get_or cs (k - 1) 0 ≡ 10 → take k cs ≡ without_indent b cs
last_gone b cs k some fits h other line = sym (before_last b cs k some fits h other ∙ ap (λ c. cut_at (c == 10) cs k) line)

pub last_stays : (b : Bool) (cs : List ℕ) (k : ℕ) → (k ≡ 0 → ⊥) → k ≤ length cs → is_indent (drop k cs) ≡ true →
    (0 < k → is_space (get_or cs (k - 1) 0) ≡ false) → (get_or cs (k - 1) 0 ≡ 10 → ⊥) → cs ≡ without_indent b cs
last_stays b cs k some fits h other line =
    sym (before_last b cs k some fits h other
    ∙ ap (λ w. cut_at w cs k) (not_true (get_or cs (k - 1) 0 == 10) (λ e. line (eqb-true (get_or cs (k - 1) 0) 10 e))))
