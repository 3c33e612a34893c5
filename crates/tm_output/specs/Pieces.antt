-- The content of a writer after two texts, and after a part of one.
use Rattle.std.proofs.Common.{◌≡◌, ◌<◌, ◌+◌, ◌-◌, min, ℕ, zero, suc, List, [], ◌++◌, length, take, drop, Option, Some, None, Result, Ok}
use Rattle.std.proofs.Common.{refl, sym, ◌∙◌, ap, subst, arith, append_assoc, length-drop}
use Rattle.std.proofs.Math.Seq.{take-add, take-length, take-append_seam, take-append-add}
use Rattle.std.proofs.lemmas.List.{append-nil, take-append-le, take_min}
use Rattle.std.specs.Io.KnownBytes.{Appends}
use Rattle.tm_output.specs.Counts.{AppendsBeginning, failure_count}

-- writing one text and then another writes the concatenated text
pub appends_then :
    (a b c : Option (List ℕ)) (x y : List ℕ)
    → Appends a b x → Appends b c y → Appends a c (x ++ y)
appends_then None b c x y first second = tt
appends_then (Some s) None c x y first second = absurd first
appends_then (Some s) (Some t) None x y first second = absurd second
appends_then (Some s) (Some t) (Some u) x y first second =
    second ∙ (ap (λ w. w ++ y) first ∙ append_assoc s x y)

-- the same, for an equal text
appends_as : (a b : Option (List ℕ)) (x y : List ℕ) → x ≡ y → Appends a b x → Appends a b y
appends_as a b x y same written = subst (λ w. Appends a b w) same written

-- the empty text changes nothing
pub appends_nothing : (a : Option (List ℕ)) → Appends a a []
appends_nothing None = tt
appends_nothing (Some s) = sym (append-nil s)

-- the empty text is a beginning of any text
pub beginning_nothing : (a : Option (List ℕ)) (x : List ℕ) → AppendsBeginning a a x
beginning_nothing a x = (0, appends_nothing a)

-- a text is a beginning of a longer one
pub appends_beginning :
    (a b : Option (List ℕ)) (x y : List ℕ) → Appends a b x → AppendsBeginning a b (x ++ y)
appends_beginning a b x y written =
    (length x, appends_as a b x (take (length x) (x ++ y)) (sym (take-append_seam x y)) written)

-- a beginning of a text is also one of a longer text
pub beginning_longer :
    (a b : Option (List ℕ)) (x y : List ℕ)
    → AppendsBeginning a b x → AppendsBeginning a b (x ++ y)
beginning_longer a b x y (n, written) = (
  min n (length x),
  appends_as a b (take n x) (take (min n (length x)) (x ++ y))
      (sym (take_min n x) ∙ sym (take-append-le (min n (length x)) x y (omega arith))) written,
)

-- a text and then a beginning of another are a beginning of the concatenated text
pub appends_then_beginning :
    (a b c : Option (List ℕ)) (x y : List ℕ)
    → Appends a b x → AppendsBeginning b c y → AppendsBeginning a c (x ++ y)
appends_then_beginning a b c x y first (n, second) = (
  length x + n,
  appends_as a c (x ++ take n y) (take (length x + n) (x ++ y)) (sym (take-append-add x y n))
      (appends_then a b c x (take n y) first second),
)

-- the same, with a text after both
pub appends_then_beginning_longer :
    (a b c : Option (List ℕ)) (x y z : List ℕ)
    → Appends a b x → AppendsBeginning b c y → AppendsBeginning a c (x ++ (y ++ z))
appends_then_beginning_longer a b c x y z first second =
    appends_then_beginning a b c x (y ++ z) first (beginning_longer b c y z second)

-- the rest of a text, as the code cuts it
abbrev pub rest_from : ℕ → List ℕ → List ℕ
rest_from k text = take (length text - k) (drop k text)

cut_rest : (k : ℕ) (text : List ℕ) → rest_from k text ≡ drop k text
cut_rest k text =
    subst (λ m. take m (drop k text) ≡ drop k text) (length-drop k text) (take-length (drop k text))

-- a beginning of a text, and then a piece of the rest
pub appends_piece :
    (a b c : Option (List ℕ)) (k n : ℕ) (text : List ℕ)
    → Appends a b (take k text) → Appends b c (take n (rest_from k text))
    → Appends a c (take (k + n) text)
appends_piece a b c k n text first second =
    let front = take k text in
    let piece = take n (drop k text) in
    let same = ap (take n) (cut_rest k text) in
    let third : Appends b c piece = appends_as b c (take n (rest_from k text)) piece same second in
    appends_as a c (front ++ piece) (take (k + n) text) (sym (take-add k n text))
    (appends_then a b c front piece first third)

-- a write that accepted some bytes doesn't count as a failure
pub taken_no_fault :
    {E : Type 0} (r : Result ℕ E) (n m : ℕ) → r ≡ Ok n → 0 < n → failure_count r m ≡ m
taken_no_fault r zero m is some = absurd (omega arith)
taken_no_fault r (suc k) m is some = rw is refl
