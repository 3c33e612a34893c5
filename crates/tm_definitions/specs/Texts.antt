-- How the bytes of a text are spelled, in quotes and in HTML.
use Rattle.std.specs.Prelude.{◌≡◌, ℕ, List, [], ◌∷◌, ◌++◌, cond, ◌==◌, flat_map, codes}
use Rattle.std.proofs.Common.{refl, ap}

-- in quotes: a backslash before the quote and the backslash, and escapes for newline, carriage
-- return and tab
abbrev pub within_quotes : ℕ → List ℕ
within_quotes b =
    cond (b == 34) (codes "\\\"")
    (cond (b == 92) (codes "\\\\")
    (cond (b == 10) (codes "\\n")
    (cond (b == 13) (codes "\\r")
    (cond (b == 9) (codes "\\t") (b ∷ [])))))

-- a text in quotes
abbrev pub quoted : List ℕ → List ℕ
quoted s = 34 ∷ (flat_map within_quotes s ++ 34 ∷ [])

-- in HTML: entities for the six special bytes
abbrev pub in_html : ℕ → List ℕ
in_html b =
    cond (b == 60) (codes "&lt;")
    (cond (b == 62) (codes "&gt;")
    (cond (b == 38) (codes "&amp;")
    (cond (b == 34) (codes "&quot;")
    (cond (b == 39) (codes "&#x27;")
    (cond (b == 47) (codes "&#x2f;") (b ∷ []))))))

-- unchanged
abbrev pub as_is : ℕ → List ℕ
as_is b = b ∷ []

pub as_is_all : (s : List ℕ) → s ≡ flat_map as_is s
as_is_all [] = refl
as_is_all (b ∷ s) = ap (λ (l : List ℕ). b ∷ l) (as_is_all s)

pub as_is_quoted : (b : ℕ) → within_quotes b ≡ flat_map as_is (within_quotes b)
as_is_quoted b = as_is_all (within_quotes b)
