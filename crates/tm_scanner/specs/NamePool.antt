-- The names that a source has used so far.
use Rattle.std.specs.Prelude.{◌≡◌, ℕ, List, Bool, ◌||◌, cond, is_some, nat_eq, map}
use Rattle.std.specs.BTreeMap.{insert_entry, is_at}
use Rattle.std.specs.Cmp.Lexicographic.{pointwise}
use Rattle.std.specs.List.{list_any}
use Rattle.std.specs.Map.{lookup}
use Rattle.std.specs.Ordering.{nat_cmp}
use Rattle.std.specs.Rc.{rc_str_bytes}
use Rattle.std.specs.declared.alloc.Global.{Global}
use Rattle.std.specs.declared.rc.RcStr.{RcStr}

-- the texts as the program holds them
abbrev pub texts_of : List (RcStr Global) → List (List ℕ)
texts_of ks = map rc_str_bytes ks

-- whether the text is one of them
abbrev pub holds : List (List ℕ) → List ℕ → Bool
holds texts text = list_any (pointwise nat_eq text) texts

-- The new texts are the old ones and this one.
abbrev pub IsWith : List ℕ → List (List ℕ) → List (List ℕ) → Type 0
IsWith text old new = (q : List ℕ) → holds new q ≡ (holds old q || pointwise nat_eq q text)

-- the names by number, with this one at a number that has none
abbrev pub with_name_at : ℕ → List ℕ → List (ℕ × List ℕ) → List (ℕ × List ℕ)
with_name_at number text names = cond (is_some (lookup (is_at (nat_cmp number)) names)) names (insert_entry nat_cmp names number text)
