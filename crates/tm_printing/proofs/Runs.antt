-- A text that is spelled run by run: bytes wait from start on, until one comes that is spelled another way.
use Rattle.std.proofs.Common.{◌≡◌, ◌≤◌, ◌<◌, ◌+◌, ◌-◌, ◌++◌, ℕ, List, [], ◌∷◌, length, get_or, take, drop, flat_map, length-drop, zero, suc, subst}
use Rattle.std.proofs.Common.{append-nil, append_assoc, take_all, sym, ap, ◌∙◌, arith}
use Rattle.std.proofs.lemmas.List.{drop_all, drop_more, take_more, get_or-drop}
use Rattle.tm_printing.specs.Plain.{PlainBetween}

-- the bytes that wait
abbrev pub run : List ℕ → ℕ → ℕ → List ℕ
run bs start i = take (i - start) (drop start bs)

-- what is left to write: those, and what the bytes from i on give
abbrev pub left : (ℕ → List ℕ) → List ℕ → ℕ → ℕ → List ℕ
left spelled bs start i = run bs start i ++ flat_map spelled (drop i bs)

-- one byte more waits
waits : (bs : List ℕ) (start i : ℕ) → start ≤ i → i < length bs → run bs start (i + 1) ≡ run bs start i ++ get_or bs i 0 ∷ []
waits bs start i le h =
    let within : i - start < length (drop start bs) = omega (arith, length-drop start bs) in
    let place : start + (i - start) ≡ i = omega arith in
    let more : i + 1 - start ≡ i - start + 1 = omega arith in
    let byte : get_or (drop start bs) (i - start) 0 ≡ get_or bs i 0 = get_or-drop start bs (i - start) 0
    ∙ ap (λ (k : ℕ). get_or bs k 0) place in
    ap (λ (k : ℕ). take k (drop start bs)) more
    ∙ (take_more (drop start bs) (i - start) 0 within ∙ ap (λ (b : ℕ). run bs start i ++ b ∷ []) byte)

module _ (spelled : ℕ → List ℕ) (bs : List ℕ) where
  next : (i : ℕ) → i < length bs → flat_map spelled (drop i bs) ≡ spelled (get_or bs i 0) ++ flat_map spelled (drop (i + 1) bs)
  next i h = ap (flat_map spelled) (drop_more bs i 0 h)

  -- a byte that stands for itself waits too
  pub plain_step : (start i : ℕ) → start ≤ i → i < length bs → spelled (get_or bs i 0) ≡ get_or bs i 0 ∷ [] →
      left spelled bs start i ≡ left spelled bs start (i + 1)
  plain_step start i le h plain =
      let after = flat_map spelled (drop (i + 1) bs) in
      let same = next i h ∙ ap (λ (l : List ℕ). l ++ after) plain in
      ap (λ (l : List ℕ). run bs start i ++ l) same
      ∙ (sym (append_assoc (run bs start i) (get_or bs i 0 ∷ []) after)
      ∙ ap (λ (l : List ℕ). l ++ after) (sym (waits bs start i le h)))

  -- and so do many
  plain_more : (n start i : ℕ) → start ≤ i → i + n ≤ length bs → PlainBetween spelled bs i (i + n) →
      left spelled bs start i ≡ left spelled bs start (i + n)
  plain_more zero start i le room plain = ap (left spelled bs start) (omega arith)
  plain_more (suc n) start i le room plain =
      plain_step start i le (omega arith) (plain i (omega arith) (omega arith))
      ∙ (plain_more n start (i + 1) (omega arith) (omega arith) (λ k from to. plain k (omega arith) (omega arith))
      ∙ ap (left spelled bs start) (omega arith))

  pub plain_steps : (start i j : ℕ) → start ≤ i → i ≤ j → j ≤ length bs → PlainBetween spelled bs i j →
      left spelled bs start i ≡ left spelled bs start j
  plain_steps start i j le low high plain =
      let there : i + (j - i) ≡ j = omega arith in
      let up_to : PlainBetween spelled bs i (i + (j - i)) = subst (PlainBetween spelled bs i) (sym there) plain in
      plain_more (j - i) start i le (omega arith) up_to ∙ ap (left spelled bs start) there

  -- one that doesn't ends the run
  pub spelled_step : (start i : ℕ) → i < length bs →
      left spelled bs start i ≡ run bs start i ++ (spelled (get_or bs i 0) ++ left spelled bs (i + 1) (i + 1))
  spelled_step start i h =
      let none : i + 1 - (i + 1) ≡ 0 = omega arith in
      rw none (ap (λ (l : List ℕ). run bs start i ++ l) (next i h))

  -- at the end, the run is left
  pub left-at_end : (start i : ℕ) → length bs ≤ i → left spelled bs start i ≡ drop start bs
  left-at_end start i h =
      let whole : run bs start i ≡ drop start bs = take_all (i - start) (drop start bs) (omega (arith, length-drop start bs)) in
      rw (whole, drop_all i bs h) (append-nil (drop start bs))
