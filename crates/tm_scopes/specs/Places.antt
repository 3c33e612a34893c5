-- Places in an ascending list of names.
use Rattle.std.specs.Prelude.{◌≡◌, ◌<◌, ◌≤◌, ℕ, List, length, slice_index_or}
use Rattle.std.specs.List.Sorted.{IsStrictlySortedBy}
use Rattle.std.specs.Map.{keys_of}
use Rattle.std.specs.declared.cmp.Ordering.TheVariants.{Less, Equal, Greater}
use Rattle.tm_syntax.specs.Named.{Named, name_cmp}

-- the names strictly ascend
abbrev pub AreOrdered : {A : Type 0} → Named A → Type 0
AreOrdered ps = IsStrictlySortedBy name_cmp (keys_of ps)

-- the name is at place i
pub record IsNameAt {A : Type 0} (x : List ℕ) (ps : Named A) (i : ℕ) : Type 0 where
  pub in_range : i < length ps
  pub same_name : (d : List ℕ × A) → name_cmp (slice_index_or ps i d).0 x ≡ Equal

-- the name belongs at place i: lower names are before it, higher ones from it on
pub record IsNameGap {A : Type 0} (x : List ℕ) (ps : Named A) (i : ℕ) : Type 0 where
  pub in_range : i ≤ length ps
  pub lower_before : (j : ℕ) (d : List ℕ × A) → j < i → name_cmp (slice_index_or ps j d).0 x ≡ Less
  pub higher_after : (j : ℕ) (d : List ℕ × A)
      → i ≤ j → j < length ps → name_cmp (slice_index_or ps j d).0 x ≡ Greater
