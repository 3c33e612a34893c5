-- The names that were found, which lie in memory, against the names that contracts see.
use Rattle.std.proofs.Common.{◌≡◌, List, [], ◌∷◌, map, refl, ap, ℕ, Bool, ◌||◌}
use Rattle.std.specs.BTreeMap.{is_at}
use Rattle.std.specs.BTreeSet.{insert_key}
use Rattle.std.specs.List.{list_any}
use Rattle.std.specs.Ordering.{match_ordering}
use Rattle.std.specs.String.{string_bytes, string_cmp}
use Rattle.std.specs.declared.alloc.Global.{Global}
use Rattle.std.specs.declared.cmp.Ordering.{Ordering}
use Rattle.std.specs.declared.cmp.Ordering.TheVariants.{Less, Equal, Greater}
use Rattle.std.specs.declared.string.String.{String}
use Rattle.tm_syntax.specs.Named.{name_cmp}

map_match_ordering : {A B : Type 0} (f : A → B) (o : Ordering) (x y z : List A) →
    map f (match_ordering o x y z) ≡ match_ordering o (map f x) (map f y) (map f z)
map_match_ordering f Less x y z = refl
map_match_ordering f Equal x y z = refl
map_match_ordering f Greater x y z = refl

pub insert_found : (ks : List (String Global)) (k : String Global) →
    map string_bytes (insert_key string_cmp ks k) ≡ insert_key name_cmp (map string_bytes ks) (string_bytes k)
insert_found [] k = refl
insert_found (x ∷ xs) k = rw map_match_ordering (rw (insert_found xs k) refl)

pub has_found : (x : List ℕ) (ks : List (String Global)) →
    list_any (is_at (λ k. name_cmp x (string_bytes k))) ks ≡ list_any (is_at (name_cmp x)) (map string_bytes ks)
has_found x [] = refl
has_found x (k ∷ ks) = ap (λ (b : Bool). is_at (name_cmp x) (string_bytes k) || b) (has_found x ks)
