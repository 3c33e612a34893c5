-- The texts of names, against the keys of a set and the values of a map.
use Rattle.std.proofs.Common.{◌≡◌, ℕ, List, [], ◌∷◌, ◌++◌, Bool, true, false, cond, is_some, nat_eq, refl, sym, ap, ◌∙◌}
use Rattle.std.proofs.Common.{Option, None, Some, unwrap_or, Result, Ok, Err}
use Rattle.std.specs.Prelude.{◌||◌, OnOk}
use Rattle.std.specs.BTreeMap.{insert_entry, is_at}
use Rattle.std.specs.BTreeSet.{insert_key}
use Rattle.std.specs.Cmp.Lexicographic.{pointwise, slice_cmp, bytes_decides}
use Rattle.std.specs.List.{list_any}
use Rattle.std.specs.Map.{lookup, values_of}
use Rattle.std.specs.Ordering.{is_eq, nat_cmp, match_ordering}
use Rattle.std.specs.Rc.{rc_str_bytes}
use Rattle.std.specs.declared.alloc.Global.{Global}
use Rattle.std.specs.declared.cmp.Ordering.{Ordering}
use Rattle.std.specs.declared.cmp.Ordering.TheVariants.{Less, Equal, Greater}
use Rattle.std.specs.declared.rc.RcStr.{RcStr}
use Rattle.std.proofs.lemmas.List.Folds.{list_any-append}
use Rattle.std.proofs.lemmas.Map.Lookups.{exact_bytes}
use Rattle.std.proofs.lemmas.Map.Text.{is_eq-slice_cmp}
use Rattle.tm_scanner.specs.NamePool.{holds, texts_of, with_name_at, IsWith}

pub holds-keys : (text : List ℕ) (ks : List (RcStr Global)) →
    list_any (is_at (λ k. slice_cmp nat_cmp text (rc_str_bytes k))) ks ≡ holds (texts_of ks) text
holds-keys text [] = refl
holds-keys text (k ∷ ks) = rw (is_eq-slice_cmp text (rc_str_bytes k)) (rw (holds-keys text ks) refl)

or_within : (a b : Bool) → (b ≡ true → a ≡ true) → a ≡ (a || b)
or_within true b f = refl
or_within false true f = f refl
or_within false false f = refl

or_swapped : (a b : Bool) → (a || b) ≡ (b || a)
or_swapped true true = refl
or_swapped true false = refl
or_swapped false true = refl
or_swapped false false = refl

or_joined : (a b c : Bool) → (a || (b || c)) ≡ ((a || b) || c)
or_joined true b c = refl
or_joined false b c = refl

-- what is held already
pub with_held : (text : List ℕ) (texts : List (List ℕ)) → holds texts text ≡ true → IsWith text texts texts
with_held text texts h = λ q. or_within (holds texts q) (pointwise nat_eq q text) (λ e. ap (holds texts) ((bytes_decides q text).0 e) ∙ h)

-- a new key
pub with_key : (k : RcStr Global) (ks : List (RcStr Global)) →
    IsWith (rc_str_bytes k) (texts_of ks) (texts_of (insert_key (λ x y. slice_cmp nat_cmp (rc_str_bytes x) (rc_str_bytes y)) ks k))
with_key k [] = λ q. or_swapped (pointwise nat_eq q (rc_str_bytes k)) false
with_key k (x ∷ xs) = λ q. by_order q (with_key k xs q) (slice_cmp nat_cmp (rc_str_bytes k) (rc_str_bytes x)) refl
  where
    by_order : (q : List ℕ) → holds (texts_of (insert_key (λ y z. slice_cmp nat_cmp (rc_str_bytes y) (rc_str_bytes z)) xs k)) q
        ≡ (holds (texts_of xs) q || pointwise nat_eq q (rc_str_bytes k))
        → (o : Ordering) → slice_cmp nat_cmp (rc_str_bytes k) (rc_str_bytes x) ≡ o
        → holds (texts_of (match_ordering o (k ∷ x ∷ xs) (x ∷ xs)
        (x ∷ insert_key (λ y z. slice_cmp nat_cmp (rc_str_bytes y) (rc_str_bytes z)) xs k))) q
        ≡ (holds (texts_of (x ∷ xs)) q || pointwise nat_eq q (rc_str_bytes k))
    by_order q others Less e = or_swapped (pointwise nat_eq q (rc_str_bytes k)) (holds (texts_of (x ∷ xs)) q)
    by_order q others Equal e = or_within (holds (texts_of (x ∷ xs)) q) (pointwise nat_eq q (rc_str_bytes k))
        (λ h. ap (λ b. b || holds (texts_of xs) q) (ap (pointwise nat_eq q) (sym (exact_bytes (rc_str_bytes k) (rc_str_bytes x) e)) ∙ h))
    by_order q others Greater e = ap (λ b. pointwise nat_eq q (rc_str_bytes x) || b) others
        ∙ or_joined (pointwise nat_eq q (rc_str_bytes x)) (holds (texts_of xs) q) (pointwise nat_eq q (rc_str_bytes k))

-- a name at a number that had none
with_value : (number : ℕ) (name : List ℕ) (es : List (ℕ × List ℕ)) (others : List (List ℕ)) → lookup (is_at (nat_cmp number)) es ≡ None →
    IsWith name (values_of es ++ others) (values_of (insert_entry nat_cmp es number name) ++ others)
with_value number name [] others absent = λ q. or_swapped (pointwise nat_eq q name) (holds others q)
with_value number name (e ∷ es) others absent = λ q. by_order q (nat_cmp number e.0) (λ free. with_value number name es others free q) absent
  where
    by_order : (q : List ℕ) (o : Ordering) → (lookup (is_at (nat_cmp number)) es ≡ None →
        holds (values_of (insert_entry nat_cmp es number name) ++ others) q ≡ (holds (values_of es ++ others) q || pointwise nat_eq q name))
        → cond (is_eq o) (Some e.1) (lookup (is_at (nat_cmp number)) es) ≡ None
        → holds (values_of (match_ordering o ((number, name) ∷ e ∷ es) ((e.0, name) ∷ es) (e ∷ insert_entry nat_cmp es number name)) ++ others) q
        ≡ (holds (e.1 ∷ (values_of es ++ others)) q || pointwise nat_eq q name)
    by_order q Less more free = or_swapped (pointwise nat_eq q name) (holds (e.1 ∷ (values_of es ++ others)) q)
    by_order q Equal more free = absurd (let there = free in cc)
    by_order q Greater more free = ap (λ b. pointwise nat_eq q e.1 || b) (more free)
        ∙ or_joined (pointwise nat_eq q e.1) (holds (values_of es ++ others) q) (pointwise nat_eq q name)

or_later : (a b : Bool) → b ≡ true → (a || b) ≡ true
or_later true b h = refl
or_later false b h = h

held-value : (number : ℕ) (name : List ℕ) (es : List (ℕ × List ℕ)) (others : List (List ℕ)) → lookup (is_at (nat_cmp number)) es ≡ Some name →
    holds (values_of es ++ others) name ≡ true
held-value number name [] others there = absurd (let e = there in cc)
held-value number name (e ∷ es) others there = by (is_at (nat_cmp number) e.0) (held-value number name es others) there
  where
    by : (b : Bool) → (lookup (is_at (nat_cmp number)) es ≡ Some name → holds (values_of es ++ others) name ≡ true) →
        cond b (Some e.1) (lookup (is_at (nat_cmp number)) es) ≡ Some name →
        (pointwise nat_eq name e.1 || holds (values_of es ++ others) name) ≡ true
    by true more is =
        let same : name ≡ e.1 = cc in
        ap (λ b. b || holds (values_of es ++ others) name) ((bytes_decides name e.1).1 same)
    by false more is = or_later (pointwise nat_eq name e.1) (holds (values_of es ++ others) name) (more is)

module _ (number : ℕ) (text : List ℕ) (es : List (ℕ × List ℕ)) (others : List (List ℕ)) where
  -- the name at the number is this one
  pub with_same : unwrap_or (lookup (is_at (nat_cmp number)) es) text ≡ text →
      IsWith text (values_of es ++ others) (values_of (with_name_at number text es) ++ others)
  with_same = by (lookup (is_at (nat_cmp number)) es) refl
    where
      by : (o : Option (List ℕ)) → lookup (is_at (nat_cmp number)) es ≡ o → unwrap_or o text ≡ text →
          IsWith text (values_of es ++ others) (values_of (cond (is_some o) es (insert_entry nat_cmp es number text)) ++ others)
      by None free same = with_value number text es others free
      by (Some name) there same = with_held text (values_of es ++ others) (held-value number text es others (there ∙ ap Some same))

  -- it is another one
  pub with_other : (more : List (List ℕ)) → pointwise nat_eq (unwrap_or (lookup (is_at (nat_cmp number)) es) text) text ≡ false →
      IsWith text others more → IsWith text (values_of es ++ others) (values_of (with_name_at number text es) ++ more)
  with_other more = by (lookup (is_at (nat_cmp number)) es)
    where
      by : (o : Option (List ℕ)) → pointwise nat_eq (unwrap_or o text) text ≡ false → IsWith text others more →
          IsWith text (values_of es ++ others) (values_of (cond (is_some o) es (insert_entry nat_cmp es number text)) ++ more)
      by None apart added = absurd (let e = sym apart ∙ (bytes_decides text text).1 refl in cc)
      by (Some name) apart added = λ q.
          list_any-append (pointwise nat_eq q) (values_of es) more
          ∙ ap (λ b. holds (values_of es) q || b) (added q)
          ∙ or_joined (holds (values_of es) q) (holds others q) (pointwise nat_eq q text)
          ∙ ap (λ b. b || pointwise nat_eq q text) (sym (list_any-append (pointwise nat_eq q) (values_of es) others))

pub on_ok : {T E P Q : Type 0} (r : Result T E) → (P → Q) → OnOk r P → OnOk r Q
on_ok (Ok x) f p = f p
on_ok (Err x) f p = p
