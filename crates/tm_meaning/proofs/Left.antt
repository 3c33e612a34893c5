-- A loop that was left answers as before.
use Rattle.std.proofs.Common.{◌≡◌, ℕ, zero, suc, ◌<◌, ◌≤◌, List, [], ◌∷◌, length, Option, Some, None, slice_get, ◌∙◌, refl, ap, arith}
use Rattle.std.proofs.Common.{get_or, ◌⊎◌, inl, inr, sym}
use Rattle.std.proofs.lemmas.Option.{slice_get_cases, slice_get_past}
use Rattle.tm_values.specs.Val.{Val, none}
use Rattle.tm_values.specs.Records.{LoopData}
use Rattle.tm_meaning.specs.World.{Loop, loop_data, left_loop, spread, or_is, place_of, previous_of, following_of}

pub length-spread : (n turns : ℕ) (a b : Val) → length (spread n turns a b) ≡ n
length-spread zero turns a b = refl
length-spread (suc n) zero a b = ap suc (length-spread n zero a b)
length-spread (suc n) (suc turns) a b = ap suc (length-spread n turns a b)

-- the item at an index: past the end, before that of the given number of turns, and from there on
pub spread-past : (n turns i : ℕ) (a b : Val) → n ≤ i → slice_get (spread n turns a b) i ≡ None
spread-past n turns i a b h =
    slice_get_past (spread n turns a b) i (omega (arith, length-spread n turns a b, h))

pub spread-before : (n turns i : ℕ) (a b : Val) → i < n → i < turns → slice_get (spread n turns a b) i ≡ Some a
spread-before zero turns i a b h k = absurd (omega (arith, h))
spread-before (suc n) zero i a b h k = absurd (omega (arith, k))
spread-before (suc n) (suc turns) zero a b h k = refl
spread-before (suc n) (suc turns) (suc i) a b h k = spread-before n turns i a b (omega (arith, h)) (omega (arith, k))

pub spread-from : (n turns i : ℕ) (a b : Val) → i < n → turns ≤ i → slice_get (spread n turns a b) i ≡ Some b
spread-from zero turns i a b h k = absurd (omega (arith, h))
spread-from (suc n) zero zero a b h k = refl
spread-from (suc n) zero (suc i) a b h k = spread-from n zero i a b (omega (arith, h)) (omega arith)
spread-from (suc n) (suc turns) zero a b h k = absurd (omega (arith, k))
spread-from (suc n) (suc turns) (suc i) a b h k = spread-from n turns i a b (omega (arith, h)) (omega (arith, k))

-- the item at such an index is that of the list if the given value is
same_before : (xs : List Val) (turns i : ℕ) (b : Val) → i < turns →
    slice_get (spread (length xs) turns (or_is (slice_get xs i) none) b) i ≡ slice_get xs i
same_before xs turns i b k = case (slice_get_cases xs i).1 where
  case : (((x : Val) × (i < length xs) × (slice_get xs i ≡ Some x) × (get_or xs i x ≡ x))
      ⊎ ((length xs ≤ i) × (slice_get xs i ≡ None))) →
      slice_get (spread (length xs) turns (or_is (slice_get xs i) none) b) i ≡ slice_get xs i
  case (inl t) = spread-before (length xs) turns i (or_is (slice_get xs i) none) b t.1 k
      ∙ ap (λ o. Some (or_is o none)) t.2 ∙ sym t.2
  case (inr t) = spread-past (length xs) turns i (or_is (slice_get xs i) none) b t.0 ∙ sym t.1

same_from : (xs : List Val) (turns i : ℕ) (a : Val) → turns ≤ i →
    slice_get (spread (length xs) turns a (or_is (slice_get xs i) none)) i ≡ slice_get xs i
same_from xs turns i a k = case (slice_get_cases xs i).1 where
  case : (((x : Val) × (i < length xs) × (slice_get xs i ≡ Some x) × (get_or xs i x ≡ x))
      ⊎ ((length xs ≤ i) × (slice_get xs i ≡ None))) →
      slice_get (spread (length xs) turns a (or_is (slice_get xs i) none)) i ≡ slice_get xs i
  case (inl t) = spread-from (length xs) turns i a (or_is (slice_get xs i) none) t.1 k
      ∙ ap (λ o. Some (or_is o none)) t.2 ∙ sym t.2
  case (inr t) = spread-past (length xs) turns i a (or_is (slice_get xs i) none) t.0 ∙ sym t.1

same_previous : (xs : List Val) (turns : ℕ) (b : Val) →
    previous_of (spread (length xs) turns (or_is (previous_of xs turns) none) b) turns ≡ previous_of xs turns
same_previous xs zero b = refl
same_previous xs (suc zero) b = refl
same_previous xs (suc (suc n)) b = same_before xs (suc (suc n)) n b (omega arith)

same_following : (xs : List Val) (turns : ℕ) (a : Val) →
    following_of (spread (length xs) turns a (or_is (following_of xs turns) none)) turns ≡ following_of xs turns
same_following xs zero a = refl
same_following xs (suc n) a = same_from xs (suc n) (suc n) a (omega arith)

abbrev data_of : Loop → ℕ → Option Val → Option Val → LoopData
data_of l n a x = record { place = place_of l.turns; count = n; depth = l.depth; previous = a; following = x }

pub left_answers : (l : Loop) → loop_data (left_loop l) ≡ loop_data l
left_answers l =
    let p = or_is (previous_of l.items l.turns) none in
    let f = or_is (following_of l.items l.turns) none in
    ap (λ n. data_of l n (loop_data (left_loop l)).previous (loop_data (left_loop l)).following)
    (length-spread (length l.items) l.turns p f)
    ∙ ap (λ o. data_of l (length l.items) o (loop_data (left_loop l)).following) (same_previous l.items l.turns f)
    ∙ ap (λ o. data_of l (length l.items) (previous_of l.items l.turns) o) (same_following l.items l.turns p)
