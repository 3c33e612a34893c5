-- The order of names by hash is total, and tells names apart exactly if their texts differ.
use Rattle.std.proofs.Common.{◌≡◌, ◌∙◌, ℕ, List, ap, subst, true, true≢false, nat_eq}
use Rattle.std.specs.Bool.{one_answer}
use Rattle.std.specs.Cmp.{IsTotalOrder, IsPartialOrder, Equal-is, nat_cmp_total, on_total, po, then_total, tied_itself}
use Rattle.std.specs.Cmp.Lexicographic.{bytes_decides, nat_list_cmp_total, pointwise, texts_ties}
use Rattle.std.specs.Ordering.{eq_by_cmp, is_eq, is_gt, is_lt, nat_cmp, ordering_then}
use Rattle.std.specs.declared.cmp.Ordering.{Ordering}
use Rattle.std.specs.declared.cmp.Ordering.TheVariants.{Less, Equal, Greater}
use Rattle.std.specs.declared.option.Option.TheVariants.{Some}
use Rattle.tm_syntax.specs.Named.{name_cmp}
use Rattle.tm_syntax.specs.Hashed.{hash_of, hashed_cmp}

pub hashed_total : IsTotalOrder hashed_cmp
hashed_total = then_total (on_total hash_of nat_cmp_total) nat_list_cmp_total

after_equal : (first second : Ordering) → ordering_then first second ≡ Equal → second ≡ Equal
after_equal Less second e = absurd (true≢false (ap is_lt e))
after_equal Equal second e = e
after_equal Greater second e = absurd (true≢false (ap is_gt e))

pub hashed_ties : (x y : List ℕ) → pointwise nat_eq x y ≡ eq_by_cmp hashed_cmp x y
hashed_ties x y =
    let alike : pointwise nat_eq x y ≡ true → hashed_cmp x y ≡ Equal = λ same. subst (λ z. hashed_cmp x z ≡ Equal)
    ((bytes_decides x y).0 same) (tied_itself hashed_total x) in
    let told : hashed_cmp x y ≡ Equal → pointwise nat_eq x y ≡ true = λ e. texts_ties x y ∙ ap is_eq
    (after_equal (nat_cmp (hash_of x) (hash_of y)) (name_cmp x y) e) in
    one_answer (pointwise nat_eq x y) (eq_by_cmp hashed_cmp x y) (alike, told) (Equal-is (hashed_cmp x y))

pub hashed_po : IsPartialOrder (pointwise nat_eq) (λ x y. Some (hashed_cmp x y))
hashed_po = po hashed_total hashed_ties
