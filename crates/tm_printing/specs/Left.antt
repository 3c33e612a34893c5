-- What is left to write of the open lists and maps, and its weight.
use Rattle.std.specs.Prelude.{◌≡◌, ℕ, zero, suc, ◌+◌, ◌*◌, ◌<◌, ◌≤◌, List, [], ◌∷◌, ◌++◌, take, Option, None, Some, Result, Ok, Err}
use Rattle.tm_output.specs.declared.target.TargetFailed.{TargetFailed}
use Rattle.tm_values.specs.Records.{RecordData}
use Rattle.tm_values.specs.Val.{Val, val_size, vals_size, pairs_size, vals_of, pairs_of}
use Rattle.tm_printing.specs.declared.rest.Rest.{Rest}
use Rattle.tm_printing.specs.declared.rest.Rest.TheVariants as rest
use Rattle.tm_printing.specs.declared.rest.NextValue.{NextValue}
use Rattle.tm_printing.specs.declared.rest.Unwritten.{Unwritten}
use Rattle.tm_printing.specs.declared.rest.Unwritten.TheVariants as unwritten

-- the text of a value in which namespaces are entered to the given depth, and that of what is left
-- of one
abbrev pub ValueText : Type 0
ValueText = RecordData → ℕ → Val → List ℕ

abbrev pub RestText : Type 0
RestText = RecordData → Rest → List ℕ

-- the text of everything that is open; the innermost comes last in the list
abbrev pub left_text : (Rest → List ℕ) → List Rest → List ℕ
left_text text [] = []
left_text text (x ∷ xs) = left_text text xs ++ text x

-- a target took the whole text, or a beginning of it if it failed or memory ran out
abbrev pub Writes :
    {T U : Type 0} → (T → List ℕ → T → Type 0) → (T → List ℕ → T → Type 0)
    → Result U Unwritten → T → List ℕ → T → Type 0
Writes took stopped (Ok u) old text new = took old text new
Writes took stopped (Err unwritten.Target) old text new = stopped old text new
Writes took stopped (Err unwritten.Memory) old text new = (n : ℕ) × took old (take n text) new

-- the text before the first part of a value was written, or all of a value without parts
abbrev pub Begins :
    {T : Type 0} → (T → List ℕ → T → Type 0) → (T → List ℕ → T → Type 0)
    → Result (Option Rest) TargetFailed → T → List ℕ → (Rest → List ℕ) → T → Type 0
Begins took stopped (Ok None) old text after new = took old text new
Begins took stopped (Ok (Some x)) old text after new =
    (before : List ℕ) × (took old before new × (text ≡ before ++ after x))
Begins took stopped (Err e) old text after new = stopped old text new

-- the text before the next value was written, or everything that was left
abbrev pub Advances :
    {T : Type 0} → (T → List ℕ → T → Type 0) → (T → List ℕ → T → Type 0)
    → Result (Option NextValue) TargetFailed → T → List ℕ
    → (ℕ → Val → List ℕ) → (Rest → List ℕ) → T → Type 0
Advances took stopped (Ok None) old text value after new = took old text new
Advances took stopped (Ok (Some step)) old text value after new =
    (before : List ℕ) × (took old before new
    × (text ≡ before ++ (value step.levels step.value.now ++ after step.after)))
Advances took stopped (Err e) old text value after new = stopped old text new

-- ---- the weight: a level outweighs the content of any one namespace

-- more than twice the size of each of these maps
abbrev pub all_sizes : List (List (Val × Val)) → ℕ
all_sizes [] = 1
all_sizes (ps ∷ rest) = 2 * pairs_size (pairs_of ps) + all_sizes rest

abbrev pub weight : RecordData → ℕ
weight r = all_sizes r.namespaces

abbrev pub power : ℕ → ℕ → ℕ
power k zero = 1
power k (suc n) = k * power k n

abbrev pub rest_weight : ℕ → Rest → ℕ
rest_weight k (rest.Items left later levels) = (vals_size (vals_of left.now) + 1) * power k levels
rest_weight k (rest.Pairs left later levels) = (pairs_size (pairs_of left.now) + 1) * power k levels
rest_weight k (rest.Member value left levels) =
    (val_size value.now + pairs_size (pairs_of left.now) + 2) * power k levels

abbrev pub left_weight : ℕ → List Rest → ℕ
left_weight k [] = 0
left_weight k (x ∷ xs) = rest_weight k x + left_weight k xs

-- what is left of a value weighs no more than the value
abbrev pub IsNoHeavier : Result (Option Rest) TargetFailed → RecordData → ℕ → Val → Type 0
IsNoHeavier (Ok None) r levels v = Unit
IsNoHeavier (Ok (Some x)) r levels v = rest_weight (weight r) x ≤ val_size v * power (weight r) levels
IsNoHeavier (Err e) r levels v = Unit

-- the next value and what is left after it weigh less than what was left before
abbrev pub IsLighter : Result (Option NextValue) TargetFailed → Rest → Type 0
IsLighter (Ok None) x = (k : ℕ) → 0 < k → 0 < rest_weight k x
IsLighter (Ok (Some step)) x = (k : ℕ) → 0 < k
    → val_size step.value.now * power k step.levels + rest_weight k step.after < rest_weight k x
IsLighter (Err e) x = Unit
