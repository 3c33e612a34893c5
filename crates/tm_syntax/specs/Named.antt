-- Names with their items, in the order of the names.
use Rattle.std.specs.Prelude.{ℕ, List, [], ◌∷◌, Option, Bool, nat_eq, map}
use Rattle.std.specs.BTreeMap.{insert_entry, is_at}
use Rattle.std.specs.Borrow.{Bor}
use Rattle.std.specs.Cmp.Lexicographic.{pointwise, slice_cmp}
use Rattle.std.specs.Map.{lookup, remove_entry}
use Rattle.std.specs.Ordering.{nat_cmp}
use Rattle.std.specs.Rc.{rc_str_bytes}
use Rattle.std.specs.declared.alloc.Global.{Global}
use Rattle.std.specs.declared.cmp.Ordering.{Ordering}
use Rattle.std.specs.declared.rc.RcStr.{RcStr}

abbrev pub Named : Type 0 → Type 0
Named A = List (List ℕ × A)

abbrev pub name_cmp : List ℕ → List ℕ → Ordering
name_cmp = slice_cmp nat_cmp

abbrev pub same_name : List ℕ → List ℕ → Bool
same_name = pointwise nat_eq

-- the item of a name
abbrev pub find : {A : Type 0} → List ℕ → Named A → Option A
find x ps = lookup (is_at (name_cmp x)) ps

-- binds the name to the item
abbrev pub put : {A : Type 0} → List ℕ → A → Named A → Named A
put x a ps = insert_entry name_cmp ps x a

-- removes the name
abbrev pub without : {A : Type 0} → List ℕ → Named A → Named A
without x ps = remove_entry (is_at (name_cmp x)) ps

-- binds each of the pairs, one after the other
abbrev pub put_each : {A : Type 0} → Named A → Named A → Named A
put_each [] ps = ps
put_each (p ∷ more) ps = put_each more (put p.0 p.1 ps)

abbrev pub by_name : {A : Type 0} → Named A → Named A
by_name ps = put_each ps []

-- the borrowed texts
abbrev pub texts_of : List (Bor (List ℕ)) → List (List ℕ)
texts_of lent = map (λ text. text.now) lent

-- the borrowed pairs
abbrev pub pairs_of : {A : Type 0} → List (Bor (List ℕ) × Bor A) → Named A
pairs_of {A = A} lent = map (λ (p : Bor (List ℕ) × Bor A). (p.0.now, p.1.now)) lent

-- the names as the program holds them
abbrev pub named_of : {A : Type 0} → List (RcStr Global × A) → Named A
named_of {A = A} es = map (λ (e : RcStr Global × A). (rc_str_bytes e.0, e.1)) es
