-- What is left to check of a value, and what is known about the namespaces that were reached.
use Rattle.std.specs.Prelude.{◌≡◌, ℕ, suc, ◌+◌, ◌≤◌, Bool, true, false, cond, List, [], ◌∷◌, length, slice_index_or, Some, Result, Ok, Err}
use Rattle.tm_values.specs.Answer.{is_memory_alone}
use Rattle.tm_values.specs.Records.{RecordData, namespace_at}
use Rattle.tm_values.specs.Writable.{fits_json}
use Rattle.tm_values.specs.Val.{number, function, macro, loop, namespace}
use Rattle.tm_values.specs.Val.{Val, val_size, vals_size, pairs_size, vals_of, pairs_of}
use Rattle.tm_values.specs.declared.error.ErrorKind.{ErrorKind}
use Rattle.tm_definitions.specs.Verdicts.{Verdict, fine, and_then, Way, nowhere, through, verdict_within, items_verdict}
use Rattle.tm_definitions.specs.Verdicts.{NamespaceVerdicts, pairs_verdict, verdict, loop_verdict, in_json, if_holds, no_json}
use Rattle.tm_definitions.specs.declared.output_format.OutputFormat.{OutputFormat}
use Rattle.tm_printing.specs.declared.check.Unchecked.{Unchecked}
use Rattle.tm_printing.specs.declared.check.Unchecked.TheVariants as unchecked
use Rattle.tm_printing.specs.declared.check.Mark.{Mark}
use Rattle.tm_printing.specs.declared.check.Mark.TheVariants as mark

-- the verdict of a part of the value, given those of the namespaces
abbrev pub Part : Type 0
Part = NamespaceVerdicts → Verdict

abbrev pub nothing : Part
nothing inside = fine

-- for an entry of the work list; the end of a namespace counts as the namespace
abbrev pub part_of : OutputFormat → RecordData → Unchecked → Part
part_of form r (unchecked.Items items) inside = items_verdict form r inside (vals_of items.now)
part_of form r (unchecked.Pairs pairs) inside = pairs_verdict form r inside (pairs_of pairs.now)
part_of form r (unchecked.Value value) inside = verdict form r inside value.now
part_of form r (unchecked.End n) inside = inside r.state n

abbrev pub is_end : Unchecked → Bool
is_end (unchecked.End n) = true
is_end x = false

-- ---- namespaces that were reached

-- these numbers
abbrev pub among : List ℕ → Way
among [] = nowhere
among (n ∷ ns) = through n (among ns)

-- the namespaces with these numbers are fine, whatever the verdicts of others
abbrev pub AllFine : RecordData → List ℕ → NamespaceVerdicts → Type 0
AllFine r ns inside = (n : ℕ) → among ns n ≡ true → inside r.state n ≡ fine

-- the content of a namespace is fine if these namespaces are
abbrev pub HoldsFine : OutputFormat → RecordData → List ℕ → ℕ → Type 0
HoldsFine form r ns n = (ps : List (Val × Val)) × ((namespace_at r r.state n ≡ Some ps)
    × ((inside : NamespaceVerdicts) → AllFine r ns inside → pairs_verdict form r inside (pairs_of ps) ≡ fine))

-- they were found fine one after the other, the last one first
abbrev pub Settled : OutputFormat → RecordData → List ℕ → Type 0
Settled form r [] = Unit
Settled form r (n ∷ ns) = (among ns n ≡ false) × (HoldsFine form r ns n × Settled form r ns)

-- the namespaces that are open, the innermost first
abbrev pub opens : List ℕ → List Unchecked → List ℕ
opens around [] = around
opens around (unchecked.Items items ∷ xs) = opens around xs
opens around (unchecked.Pairs pairs ∷ xs) = opens around xs
opens around (unchecked.Value value ∷ xs) = opens around xs
opens around (unchecked.End n ∷ xs) = opens (n ∷ around) xs

-- no open namespace was found fine already, and none is opened inside itself
abbrev pub AllNew : List ℕ → List ℕ → Type 0
AllNew fines [] = Unit
AllNew fines (n ∷ around) = (among fines n ≡ false) × ((among around n ≡ false) × AllNew fines around)

abbrev pub mark_at : List Mark → ℕ → Mark
mark_at marks n = slice_index_or marks n mark.Unmet

abbrev pub mark_of : List ℕ → List ℕ → ℕ → Mark
mark_of fines around n = cond (among fines n) mark.Fine (cond (among around n) mark.Open mark.Unmet)

-- one namespace's mark is replaced
pub record IsMarked (m : Mark) (n : ℕ) (old new : List Mark) : Type 0 where
  pub here : mark_at new n ≡ m
  pub elsewhere : (k : ℕ) → (n ≡ k → ⊥) → mark_at new k ≡ mark_at old k

-- a namespace has a record, and wasn't reached yet
pub record IsUnmet (r : RecordData) (s n : ℕ) (ps : List (Val × Val)) (marks : List Mark) : Type 0 where
  pub there : namespace_at r s n ≡ Some ps
  pub mark : mark_at marks n ≡ mark.Unmet

-- ---- the work list

-- For the whole value and each open namespace: the part that was checked is fine if the namespaces
-- found fine are, so what is left has the verdict of the whole. The innermost comes last in the
-- list, and `top` after the list; `later` is what is left of the one around, which is checked last.
abbrev pub Remains : OutputFormat → RecordData → List ℕ → Part → Part → Part → List Unchecked → Type 0
Remains form r fines top whole later [] =
    (inside : NamespaceVerdicts) → AllFine r fines inside → and_then (top inside) (later inside) ≡ whole inside
Remains form r fines top whole later (unchecked.Items items ∷ xs) =
    Remains form r fines top whole (λ inside. and_then (items_verdict form r inside (vals_of items.now)) (later inside)) xs
Remains form r fines top whole later (unchecked.Pairs pairs ∷ xs) =
    Remains form r fines top whole (λ inside. and_then (pairs_verdict form r inside (pairs_of pairs.now)) (later inside)) xs
Remains form r fines top whole later (unchecked.Value value ∷ xs) =
    Remains form r fines top whole (λ inside. and_then (verdict form r inside value.now) (later inside)) xs
Remains form r fines top whole later (unchecked.End n ∷ xs) =
    ((inside : NamespaceVerdicts) → AllFine r fines inside → and_then (inside r.state n) (later inside) ≡ whole inside)
    × ((ps : List (Val × Val)) × ((namespace_at r r.state n ≡ Some ps)
    × Remains form r fines top (λ inside. pairs_verdict form r inside (pairs_of ps)) nothing xs))

-- a number for each namespace that hasn't been reached yet
abbrev pub if_unmet : Mark → ℕ → ℕ
if_unmet mark.Unmet n = n
if_unmet mark.Open n = 0
if_unmet mark.Fine n = 0

abbrev pub unmet : (List (Val × Val) → ℕ) → List (List (Val × Val)) → (ℕ → Mark) → ℕ
unmet size [] marks = 0
unmet size (ps ∷ nss) marks = if_unmet (marks 0) (size ps) + unmet size nss (λ n. marks (suc n))

abbrev pub one_each : List (Val × Val) → ℕ
one_each ps = 1

-- A value of which this part and that list are left to check, with these marks of namespaces. Each
-- namespace is open, found fine, or not reached yet.
pub record Stands (form : OutputFormat) (r : RecordData) (v : Val) (top : Part) (left : List Unchecked) (marks : List Mark) : Type 0 where
  pub fines : List ℕ
  pub settled : Settled form r fines
  pub new : AllNew fines (opens [] left)
  pub marked : (n : ℕ) → mark_at marks n ≡ mark_of fines (opens [] left) n
  pub counted : unmet one_each r.namespaces (mark_at marks) + (length fines + length (opens [] left)) ≡ length r.namespaces
  pub rest : Remains form r fines top (λ inside. verdict form r inside v) nothing left

-- The part was checked, and what is left of the whole is in the list; or the whole is refused.
abbrev pub Goes : {U : Type 0} → OutputFormat → RecordData → Result U (List ErrorKind) → Part
    → List Unchecked → List Mark → List Unchecked → List Mark → Type 0
Goes form r (Ok u) part left marks new_left new_marks =
    (v : Val) → Stands form r v part left marks → Stands form r v nothing new_left new_marks
Goes form r (Err chain) part left marks new_left new_marks = is_memory_alone chain ≡ false
    → (v : Val) → Stands form r v part left marks
    → verdict_within form r (length r.namespaces) nowhere v ≡ Err chain

-- ---- the weight of what is left

abbrev pub one_weight : Unchecked → ℕ
one_weight (unchecked.Items items) = vals_size (vals_of items.now) + 1
one_weight (unchecked.Pairs pairs) = pairs_size (pairs_of pairs.now) + 1
one_weight (unchecked.Value value) = val_size value.now + 1
one_weight (unchecked.End n) = 1

abbrev pub unchecked_weight : List Unchecked → ℕ
unchecked_weight [] = 0
unchecked_weight (x ∷ xs) = one_weight x + unchecked_weight xs

-- the weight of a namespace, including its end
abbrev pub held_weight : List (Val × Val) → ℕ
held_weight ps = pairs_size (pairs_of ps) + 2

-- A namespace counts until it is reached.
abbrev pub to_check : RecordData → List Unchecked → List Mark → ℕ
to_check r left marks = unchecked_weight left + unmet held_weight r.namespaces (mark_at marks)

-- ---- one value

-- the parts of a value that isn't a namespace weigh no more than the value
abbrev pub IsParts : OutputFormat → Val → Unchecked → Type 0
IsParts form v x = ((r : RecordData) (inside : NamespaceVerdicts) → verdict form r inside v ≡ part_of form r x inside)
    × ((is_end x ≡ false) × (one_weight x ≤ val_size v))

-- for a value without parts; parts are checked one by one
abbrev pub leaf_verdict : OutputFormat → RecordData → Val → Verdict
leaf_verdict form r (number z) = in_json form (if_holds (fits_json z) no_json)
leaf_verdict form r (function n) = in_json form no_json
leaf_verdict form r (macro m) = in_json form no_json
leaf_verdict form r (loop s n) = loop_verdict form r s n
leaf_verdict form r v = fine

abbrev pub is_namespace : Val → Bool
is_namespace (namespace s n) = true
is_namespace v = false

abbrev pub IsUncheckedLeaf : OutputFormat → Val → Type 0
IsUncheckedLeaf form v = (r : RecordData) (inside : NamespaceVerdicts)
    → is_namespace v ≡ false → verdict form r inside v ≡ leaf_verdict form r v
