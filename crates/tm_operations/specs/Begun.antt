-- What is left of replacing the namespaces in a value by maps.
use Rattle.std.specs.Prelude.{◌≡◌, ℕ, zero, suc, ◌+◌, List, [], ◌∷◌, ◌++◌, Ok}
use Rattle.tm_values.specs.Answer.{Answer}
use Rattle.tm_values.specs.Map.{IsMap}
use Rattle.tm_values.specs.Records.{RecordData, namespace_at}
use Rattle.tm_values.specs.Val.{Val, undefined, none, boolean, number, text, list, map, keywords, exports, function, macro, loop, namespace}
use Rattle.tm_values.specs.Val.{Vals, no_vals, val, Pairs, no_pairs, pair, vals_of, pairs_of}
use Rattle.tm_definitions.specs.Emitted.{map_ok}
use Rattle.tm_definitions.specs.Mapped.{mapped_items, mapped_pairs, mapped_within, namespace_mapped, with_ok}
use Rattle.tm_definitions.specs.Printed.{entered}
use Rattle.tm_operations.specs.declared.mapped.Begun.{Begun}
use Rattle.tm_operations.specs.declared.mapped.Begun.TheVariants as begun
use Rattle.tm_operations.specs.declared.mapped.BegunList.{BegunList}
use Rattle.tm_operations.specs.declared.mapped.BegunMap.{BegunMap}
use Rattle.tm_operations.specs.declared.mapped.Kind.{Kind}
use Rattle.tm_operations.specs.declared.mapped.Kind.TheVariants as kind
use Rattle.tm_operations.specs.declared.mapped.Ahead.{Ahead}
use Rattle.tm_operations.specs.declared.mapped.Ahead.TheVariants as next

-- ---------------------------------------------------------------- finished parts
abbrev pub before_items : List Val → Vals → Vals
before_items [] vs = vs
before_items (x ∷ xs) vs = val x (before_items xs vs)

abbrev pub before_pairs : List (Val × Val) → Pairs → Pairs
before_pairs [] ps = ps
before_pairs (q ∷ qs) ps = pair q.0 q.1 (before_pairs qs ps)

abbrev pub made_of : Kind → Pairs → Val
made_of kind.Map ps = map ps
made_of kind.Keywords ps = keywords ps
made_of (kind.Module s) ps = exports ps s

-- the list of the finished items and those that are left
abbrev pub list_after : RecordData → ℕ → List Val → Vals → Answer Val
list_after r levels done rest = map_ok (λ vs. list (before_items done vs)) (mapped_items (namespace_mapped r levels) rest)

-- the same for pairs
abbrev pub map_after : RecordData → Kind → ℕ → List (Val × Val) → Pairs → Answer Val
map_after r k levels done rest = map_ok (λ ps. made_of k (before_pairs done ps)) (mapped_pairs (namespace_mapped r levels) rest)

-- ---------------------------------------------------------------- values in progress
-- what the value becomes once its part is finished
abbrev pub resumed : RecordData → Begun → Answer Val → Answer Val
resumed r (begun.List b) part = with_ok part (λ x. list_after r b.levels (b.done.items ++ x ∷ []) (vals_of b.rest.now))
resumed r (begun.Map b) part =
    with_ok part (λ x. map_after r b.kind b.levels (b.done.items ++ (b.key, x) ∷ []) (pairs_of b.rest.now))

-- what the outermost value becomes once the part of the innermost one, the last in the list, is
-- finished
abbrev pub outermost : RecordData → List Begun → Answer Val → Answer Val
outermost r [] part = part
outermost r (b ∷ bs) part = resumed r b (outermost r bs part)

-- the next step: a part in which namespaces are entered to the given depth, or a finished part
abbrev pub part_next : RecordData → Ahead → Answer Val
part_next r (next.Part v levels) = mapped_within r levels v.now
part_next r (next.Made v) = Ok v

abbrev pub comes_to : RecordData → List Begun → Ahead → Answer Val
comes_to r bs n = outermost r bs (part_next r n)

-- the keys of a value in progress are ascending
abbrev pub Ascends : Begun → Type 0
Ascends (begun.List b) = Unit {0}
Ascends (begun.Map b) = (v : Val) → IsMap (b.done.items ++ (b.key, v) ∷ b.rest.now)

abbrev pub AllAscend : List Begun → Type 0
AllAscend [] = Unit {0}
AllAscend (b ∷ bs) = Ascends b × AllAscend bs

-- ---------------------------------------------------------------- the weight of what is left
abbrev pub NamespaceWeights : Type 0
NamespaceWeights = ℕ → ℕ → ℕ

abbrev mutual
  pub weight : NamespaceWeights → Val → ℕ
  weight inside (undefined silent) = 2
  weight inside none = 2
  weight inside (boolean truth) = 2
  weight inside (number z) = 2
  weight inside (text s safe) = 2
  weight inside (list vs) = items_weight inside vs + 2
  weight inside (map ps) = pairs_weight inside ps + 2
  weight inside (keywords ps) = pairs_weight inside ps + 2
  weight inside (exports ps s) = pairs_weight inside ps + 2
  weight inside (function n) = 2
  weight inside (macro m) = 2
  weight inside (loop s n) = 2
  weight inside (namespace s n) = inside s n

  pub items_weight : NamespaceWeights → Vals → ℕ
  items_weight inside no_vals = 0
  items_weight inside (val v vs) = weight inside v + items_weight inside vs

  pub pairs_weight : NamespaceWeights → Pairs → ℕ
  pairs_weight inside no_pairs = 0
  pairs_weight inside (pair k v ps) = weight inside v + pairs_weight inside ps

abbrev pub namespace_weight : RecordData → ℕ → NamespaceWeights
namespace_weight r zero s n = 2
namespace_weight r (suc levels) s n = entered (namespace_at r s n) 2 (λ ps. pairs_weight (namespace_weight r levels) ps + 2)

abbrev pub items_left : RecordData → ℕ → Vals → ℕ
items_left r levels vs = items_weight (namespace_weight r levels) vs + 1

abbrev pub pairs_left : RecordData → ℕ → Pairs → ℕ
pairs_left r levels ps = pairs_weight (namespace_weight r levels) ps + 1

abbrev pub left_in : RecordData → Begun → ℕ
left_in r (begun.List b) = items_left r b.levels (vals_of b.rest.now)
left_in r (begun.Map b) = pairs_left r b.levels (pairs_of b.rest.now)

abbrev pub left_in_all : RecordData → List Begun → ℕ
left_in_all r [] = 0
left_in_all r (b ∷ bs) = left_in r b + left_in_all r bs

abbrev pub left_of_next : RecordData → Ahead → ℕ
left_of_next r (next.Part v levels) = weight (namespace_weight r levels) v.now
left_of_next r (next.Made v) = 1

abbrev pub left_to_make : RecordData → List Begun → Ahead → ℕ
left_to_make r bs n = left_in_all r bs + left_of_next r n
