-- A search for the first `endraw` tag.
use Rattle.std.proofs.Common.{◌≡◌, ℕ, zero, suc, ◌+◌, ◌-◌, ◌<◌, ◌≤◌, List, Some, None, length, drop, take, refl, sym, ◌∙◌, ap, arith}
use Rattle.std.proofs.Common.{length-drop}
use Rattle.std.proofs.lemmas.List.{drop-drop}
use Rattle.memchr.specs.Find.{Nowhere, NoneBefore}
use Rattle.tm_delimiters.specs.declared.whitespace.Whitespace.{Whitespace}
use Rattle.tm_delimiters.specs.Front.{first_of}
use Rattle.tm_delimiters.specs.Syntax.{Syntax, HasAll}
use Rattle.tm_delimiters.specs.Starts.{begins, BeginsAt}
use Rattle.tm_scanner.specs.Pieces.{endraw}
use Rattle.tm_delimiters.proofs.Places.{not_true, first_of-at, first_of-nowhere}
use Rattle.tm_delimiters.proofs.Begins.{AtStart, no_block_start, never_at_end, rest_is}

pub endraws_start : (s : Syntax) → AtStart s (endraw s)
endraws_start s cs h = rw (no_block_start s cs h) refl

-- none stands before this place
abbrev pub NotYet : Syntax → List ℕ → ℕ → Type 0
NotYet s bs from = (j : ℕ) → j < from → endraw s (drop j bs) ≡ None

-- nor up to the next start delimiter
not_up_to : (s : Syntax) (bs : List ℕ) (from at : ℕ) → NotYet s bs from → Nowhere (BeginsAt s (drop from bs)) 0 at → NotYet s bs (from + at)
not_up_to s bs from at old none j less = by_place (suc j - from) refl
  where
    by_place : (d : ℕ) → suc j - from ≡ d → endraw s (drop j bs) ≡ None
    by_place zero e = old j (omega (arith, e))
    by_place (suc d) e =
        let same : drop d (drop from bs) ≡ drop j bs = drop-drop d from bs ∙ ap (λ n. drop n bs) (omega (arith, e)) in
        ap (endraw s) (sym same) ∙ endraws_start s (drop d (drop from bs))
        (not_true (begins s (drop d (drop from bs))) (none d (omega arith) (omega (arith, e, less))))

past_it : (s : Syntax) (bs : List ℕ) (k : ℕ) → NotYet s bs k → endraw s (drop k bs) ≡ None → NotYet s bs (k + 1)
past_it s bs k old none j less = by_place (k - j) refl
  where
    by_place : (d : ℕ) → k - j ≡ d → endraw s (drop j bs) ≡ None
    by_place (suc d) e = old j (omega (arith, e))
    by_place zero e = ap (λ i. endraw s (drop i bs)) (omega (arith, e, less)) ∙ none

never : (s : Syntax) (bs : List ℕ) (from : ℕ) → HasAll s → from ≤ length bs → NotYet s bs from →
    Nowhere (BeginsAt s (drop from bs)) 0 (length (drop from bs)) → first_of (endraw s) bs ≡ None
never s bs from u fits old none = first_of-nowhere (endraw s) bs (λ k within. by_place k within (length bs - k) refl)
  where
    all : NotYet s bs (from + length (drop from bs))
    all = not_up_to s bs from (length (drop from bs)) old none

    by_place : (k : ℕ) → k ≤ length bs → (left : ℕ) → length bs - k ≡ left → endraw s (drop k bs) ≡ None
    by_place k within zero e = endraws_start s (drop k bs) (never_at_end s (drop k bs) u (omega (arith, e, length-drop k bs)))
    by_place k within (suc left) e = all k (omega (arith, e, fits, length-drop from bs))

-- The same of what is left as a slice.
pub found_at : (s : Syntax) (bs : List ℕ) (from at : ℕ) (x : Whitespace × (Whitespace × List ℕ)) → from ≤ length bs → NotYet s bs from →
    NoneBefore (BeginsAt s (take (length bs - from) (drop from bs))) 0 (length (take (length bs - from) (drop from bs))) at →
    endraw s (drop (from + at) bs) ≡ Some x → first_of (endraw s) bs ≡ Some (take (from + at) bs, x)
found_at s bs from at x fits old first here =
    let next = rw (rest_is bs (take (length bs - from) (drop from bs)) from refl) at first in
    first_of-at (endraw s) bs (from + at) x (not_up_to s bs from at old next.before)
    (omega (arith, fits, next.high, length-drop from bs)) here

pub past_this : (s : Syntax) (bs : List ℕ) (from at : ℕ) → from ≤ length bs → NotYet s bs from →
    NoneBefore (BeginsAt s (take (length bs - from) (drop from bs))) 0 (length (take (length bs - from) (drop from bs))) at →
    endraw s (drop (from + at) bs) ≡ None → (from + at + 1 ≤ length bs) × NotYet s bs (from + at + 1)
past_this s bs from at fits old first here =
    let next = rw (rest_is bs (take (length bs - from) (drop from bs)) from refl) at first in
    (omega (arith, fits, next.high, length-drop from bs), past_it s bs (from + at) (not_up_to s bs from at old next.before) here)

pub found_none : (s : Syntax) (bs : List ℕ) (from : ℕ) → HasAll s → from ≤ length bs → NotYet s bs from →
    Nowhere (BeginsAt s (take (length bs - from) (drop from bs))) 0 (length (take (length bs - from) (drop from bs))) →
    first_of (endraw s) bs ≡ None
found_none s bs from u fits old none = never s bs from u fits old
    (rw (rest_is bs (take (length bs - from) (drop from bs)) from refl) at none)
