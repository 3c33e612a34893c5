-- The attributes of a namespace among others.
use Rattle.std.proofs.Common.{◌≡◌, ℕ, zero, suc, ◌<◌, ◌≤◌, List, [], ◌∷◌, length, slice_set, get_or, false, arith, refl, ap}
use Rattle.tm_values.specs.Map as maps
use Rattle.tm_values.specs.Val.{Val, text}
use Rattle.tm_meaning.specs.World.{with_member}

pub past : (n : ℕ) (x : List ℕ) (v : Val) (ns : List (List (Val × Val))) → length ns ≤ n → ns ≡ with_member n x v ns
past n x v [] h = refl
past zero x v (ps ∷ more) h = absurd (omega (arith, h))
past (suc n) x v (ps ∷ more) h = ap (λ l. ps ∷ l) (past n x v more (omega (arith, h)))

pub there : (n : ℕ) (x : List ℕ) (v : Val) (ns : List (List (Val × Val))) (old : List (Val × Val)) → n < length ns → old ≡ get_or ns n old →
    slice_set ns n (maps.put (text x false) v old) ≡ with_member n x v ns
there n x v [] old h e = absurd (omega (arith, h))
there zero x v (ps ∷ more) old h e = ap (λ l. maps.put (text x false) v l ∷ more) e
there (suc n) x v (ps ∷ more) old h e = ap (λ l. ps ∷ l) (there n x v more old (omega (arith, h)) e)
