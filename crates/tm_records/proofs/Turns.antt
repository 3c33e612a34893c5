-- The record of a number is asked for its next item, is left, or keeps other arguments.
use Rattle.std.proofs.Common.{◌≡◌, ℕ, zero, suc, ◌<◌, ◌≤◌, List, [], ◌∷◌, length, get_or, slice_set, refl, ap, arith}
use Rattle.tm_values.specs.Val.{Val}
use Rattle.tm_meaning.specs.World.{Loop, left_loop, leaving_at, turned, turned_at}
use Rattle.tm_meaning.specs.Calls.{keeping, keeping_at}

pub turned_past : (n : ℕ) (ls : List Loop) → length ls ≤ n → ls ≡ turned_at n ls
turned_past n [] h = refl
turned_past zero (l ∷ ls) h = absurd (omega (arith, h))
turned_past (suc n) (l ∷ ls) h = ap (λ m. l ∷ m) (turned_past n ls (omega (arith, h)))

pub turned_there : (n : ℕ) (ls : List Loop) (l : Loop) → n < length ls → l ≡ get_or ls n l → slice_set ls n (turned l) ≡ turned_at n ls
turned_there n [] l h e = absurd (omega (arith, h))
turned_there zero (x ∷ ls) l h e = ap (λ (m : Loop). turned m ∷ ls) e
turned_there (suc n) (x ∷ ls) l h e = ap (λ m. x ∷ m) (turned_there n ls l (omega (arith, h)) e)

-- The record of a number is left.
pub leaving_past : (n : ℕ) (ls : List Loop) → length ls ≤ n → ls ≡ leaving_at n ls
leaving_past n [] h = refl
leaving_past zero (l ∷ ls) h = absurd (omega (arith, h))
leaving_past (suc n) (l ∷ ls) h = ap (λ m. l ∷ m) (leaving_past n ls (omega (arith, h)))

pub leaving_there : (n : ℕ) (ls : List Loop) (l : Loop) → n < length ls → l ≡ get_or ls n l → slice_set ls n (left_loop l) ≡ leaving_at n ls
leaving_there n [] l h e = absurd (omega (arith, h))
leaving_there zero (x ∷ ls) l h e = ap (λ (m : Loop). left_loop m ∷ ls) e
leaving_there (suc n) (x ∷ ls) l h e = ap (λ m. x ∷ m) (leaving_there n ls l (omega (arith, h)) e)

-- The record of a number keeps other arguments.
pub keeping_there : (n : ℕ) (args : List Val) (ls : List Loop) (l : Loop) → n < length ls → l ≡ get_or ls n l →
    slice_set ls n (keeping args l) ≡ keeping_at n args ls
keeping_there n args [] l h e = absurd (omega (arith, h))
keeping_there zero args (x ∷ ls) l h e = ap (λ (m : Loop). keeping args m ∷ ls) e
keeping_there (suc n) args (x ∷ ls) l h e = ap (λ m. x ∷ m) (keeping_there n args ls l (omega (arith, h)) e)
