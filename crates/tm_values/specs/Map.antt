-- Maps: pairs whose keys ascend.
use Rattle.std.specs.Prelude.{◌≡◌, ◌≢◌, ℕ, ◌<◌, ◌≤◌, false, List, [], ◌∷◌, length, Option, None, Some, slice_index_or}
use Rattle.std.specs.Ordering.{match_ordering}
use Rattle.std.specs.declared.cmp.Ordering.TheVariants.{Less, Equal, Greater}
use Rattle.tm_values.specs.Order.{val_cmp}
use Rattle.tm_values.specs.Val.{Val, text, entries_in}

-- binds the key to the value; an existing key keeps its spelling
abbrev pub put : Val → Val → List (Val × Val) → List (Val × Val)
put k v [] = (k, v) ∷ []
put k v (p ∷ ps) = match_ordering (val_cmp k p.0) ((k, v) ∷ p ∷ ps) ((p.0, v) ∷ ps) (p ∷ put k v ps)

-- binds each of the pairs in a map, one after the other
abbrev pub put_each : List (Val × Val) → List (Val × Val) → List (Val × Val)
put_each m [] = m
put_each m (p ∷ ps) = put_each (put p.0 p.1 m) ps

-- the map of the pairs: of equal keys, the first spelling and the last value
abbrev pub put_all : List (Val × Val) → List (Val × Val)
put_all ps = put_each [] ps

-- the value at the key
abbrev pub find : Val → List (Val × Val) → Option Val
find k [] = None
find k (p ∷ ps) = match_ordering (val_cmp k p.0) None (Some p.1) (find k ps)

-- a key that was just bound yields its value
abbrev pub IsFoundWherePut : Type 0
IsFoundWherePut = (k v : Val) (ps : List (Val × Val)) → find k (put k v ps) ≡ Some v

-- and all other keys keep their values
abbrev pub KeepsOtherKeys : Type 0
KeepsOtherKeys =
    (k v l : Val) (ps : List (Val × Val))
    → val_cmp l k ≢ Equal → find l (put k v ps) ≡ find l ps

-- the value at a text in a map, a keyword map or a module; other values have none
abbrev pub member : List ℕ → Val → Option Val
member name v = find (text name false) (entries_in v)

-- each key is above k
abbrev pub IsAbove : Val → List (Val × Val) → Type 0
IsAbove k [] = Unit {0}
IsAbove k (p ∷ ps) = (val_cmp k p.0 ≡ Less) × IsAbove k ps

-- the keys strictly ascend
abbrev pub IsMap : List (Val × Val) → Type 0
IsMap [] = Unit {0}
IsMap (p ∷ ps) = IsAbove p.0 ps × IsMap ps

-- the key is at index i
pub record IsThere (k : Val) (ps : List (Val × Val)) (i : ℕ) : Type 0 where
  pub in_range : i < length ps
  pub same_key : (d : Val × Val) → val_cmp (slice_index_or ps i d).0 k ≡ Equal

-- the key would be inserted at i: the keys before it are lower, those from it on higher
pub record IsGapFor (k : Val) (ps : List (Val × Val)) (i : ℕ) : Type 0 where
  pub in_range : i ≤ length ps
  pub lower_before : (j : ℕ) (d : Val × Val) → j < i → val_cmp (slice_index_or ps j d).0 k ≡ Less
  pub higher_after : (j : ℕ) (d : Val × Val)
      → i ≤ j → j < length ps → val_cmp (slice_index_or ps j d).0 k ≡ Greater
