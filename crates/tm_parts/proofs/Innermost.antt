-- The innermost capture, which lies last in memory, takes a text.
use Rattle.std.proofs.Common.{◌≡◌, ◌≢◌, ◌-◌, ℕ, List, [], ◌∷◌, ◌++◌, Bool, true, false, length, reverse, take, slice_index_or, slice_set}
use Rattle.std.proofs.Common.{Option, None, Some, MatchOption, Result, Ok, Err, OnOk, OnErr, is_ok, if◌then◌else◌}
use Rattle.std.proofs.Common.{refl, sym, ◌∙◌, ap, subst, arith}
use Rattle.std.proofs.lemmas.List.{append-nil, length-append, length-reverse, reverse-append}
use Rattle.tm_values.specs.Answer.{OrStays}
use Rattle.tm_values.specs.Records.{RecordData}
use Rattle.tm_values.specs.Val.{Val}
use Rattle.tm_values.specs.declared.escape.AutoEscape.{AutoEscape}
use Rattle.tm_definitions.specs.Emitted.{emitted_text}
use Rattle.tm_meaning.specs.Machine.{Capture, put_in}
use Rattle.tm_output.specs.Targets.{StringGrows, StringGrowsInPart}
use Rattle.tm_output.specs.declared.target.TargetFailed.{TargetFailed}
use Rattle.tm_printing.specs.Emits.{Emits}
use Rattle.tm_parts.specs.Outgoing.{IsPut, IsPutInPart}

last_of : (x : Capture) (xs : List Capture) → (front : List Capture) × (y : Capture) × (x ∷ xs ≡ front ++ y ∷ [])
last_of x [] = ([], x, refl)
last_of x (z ∷ zs) = let l = last_of z zs in (x ∷ l.0, l.1, ap (λ (ls : List Capture). x ∷ ls) l.2)

set_last : (front : List Capture) (y x : Capture) → slice_set (front ++ y ∷ []) (length front) x ≡ front ++ x ∷ []
set_last [] y x = refl
set_last (z ∷ front) y x = ap (λ (ls : List Capture). z ∷ ls) (set_last front y x)

at_last : (front : List Capture) (y x : Capture) → slice_index_or (front ++ y ∷ []) (length front) x ≡ y
at_last [] y x = refl
at_last (z ∷ front) y x = at_last front y x

before_last : (front : List Capture) (y : Capture) → length (front ++ y ∷ []) - 1 ≡ length front
before_last front y = let long = length-append front (y ∷ []) in omega (arith, long)

turned : (front : List Capture) (y : Capture) → reverse (front ++ y ∷ []) ≡ y ∷ reverse front
turned front y = reverse-append front (y ∷ [])

-- what takes a text is the last of them, which another stands in place of
abbrev Grown : List Capture → ℕ → Bool → List ℕ → List ℕ → List ℕ → Type 0
Grown xs n heard before after t =
    record { heard = heard; text = before } ≡ slice_index_or xs (n - 1) (record { heard = heard; text = before }) → after ≡ before ++ t →
    reverse (slice_set xs (n - 1) (record { heard = heard; text = after })) ≡ put_in (reverse xs) t

grown_last : (front : List Capture) (y : Capture) (n : ℕ) (heard : Bool) (before after t : List ℕ) → n ≡ length front →
    record { heard = heard; text = before } ≡ slice_index_or (front ++ y ∷ []) n (record { heard = heard; text = before }) →
    after ≡ before ++ t →
    reverse (slice_set (front ++ y ∷ []) n (record { heard = heard; text = after })) ≡ put_in (reverse (front ++ y ∷ [])) t
grown_last front y n heard before after t long seen more =
    let k : Capture = record { heard = heard; text = before } in
    let j : Capture = record { heard = heard; text = after } in
    let same : k ≡ y = seen ∙ ap (λ m. slice_index_or (front ++ y ∷ []) m k) long ∙ at_last front y k in
    let longer : j ≡ record y { text = y.text ++ t } =
    ap (λ (text : List ℕ). record { heard = heard; text = text }) more ∙ ap (λ (l : Capture). record l { text = l.text ++ t }) same in
    ap (λ m. reverse (slice_set (front ++ y ∷ []) m j)) long ∙ ap reverse (set_last front y j) ∙ turned front j
    ∙ ap (λ (l : Capture). l ∷ reverse front) longer ∙ sym (ap (λ (ks : List Capture). put_in ks t) (turned front y))

pub grown : (xs : List Capture) (n : ℕ) (heard : Bool) (before after t : List ℕ) → n ≡ length xs → n ≢ 0 → Grown xs n heard before after t
grown [] n heard before after t long some = absurd (some long)
grown (x ∷ xs) n heard before after t long some =
    let l = last_of x xs in
    let within : n - 1 ≡ length l.0 = ap (λ m. m - 1) long ∙ ap (λ (ks : List Capture). length ks - 1) l.2 ∙ before_last l.0 l.1 in
    subst (λ (ks : List Capture). Grown ks n heard before after t) (sym l.2) (grown_last l.0 l.1 (n - 1) heard before after t within)

-- where one is open
pub some_open : (xs : List Capture) (n : ℕ) → n ≡ length xs → n ≢ 0 → reverse xs ≢ []
some_open xs n long some none = some (long ∙ sym (length-reverse xs) ∙ ap length none)

put_nothing : (ks : List Capture) → put_in ks [] ≡ ks
put_nothing [] = refl
put_nothing (k ∷ ks) = ap (λ (t : List ℕ). record k { text = t } ∷ ks) (append-nil k.text)

-- what an answer says of a text, by whether it is Ok
pub taken_or_not : {U E : Type 0} (r : Result U E) (before after t : List ℕ) → OnOk r (after ≡ before ++ t) → OnErr r (after ≡ before) →
    after ≡ (if is_ok r then before ++ t else before)
taken_or_not (Ok u) before after t ok err = ok
taken_or_not (Err e) before after t ok err = err

-- it took the text, or all stays
pub put_or_stays : (done : Bool) (xs : List Capture) (n : ℕ) (heard : Bool) (before after t : List ℕ) → n ≡ length xs → n ≢ 0 →
    record { heard = heard; text = before } ≡ slice_index_or xs (n - 1) (record { heard = heard; text = before }) →
    after ≡ (if done then before ++ t else before) →
    let new = reverse (slice_set xs (n - 1) (record { heard = heard; text = after })) in
    OrStays done (reverse xs) new ((reverse xs ≢ []) × (new ≡ put_in (reverse xs) t))
put_or_stays true xs n heard before after t long some seen more =
    (some_open xs n long some, grown xs n heard before after t long some seen more)
put_or_stays false xs n heard before after t long some seen more =
    grown xs n heard before after [] long some seen (more ∙ sym (append-nil before)) ∙ put_nothing (reverse xs)

-- it took what is emitted of a value, or a beginning of it
emitted_in : {S : Type 0} (xs : List Capture) (n : ℕ) (heard : Bool) (old new : S) (bytes : S → List ℕ) (answer : Result (Unit {0}) TargetFailed)
    (escape : AutoEscape) (r : RecordData) (v : Val) → n ≡ length xs → n ≢ 0 →
    record { heard = heard; text = bytes old } ≡ slice_index_or xs (n - 1) (record { heard = heard; text = bytes old }) →
    Emits (StringGrows bytes) (StringGrowsInPart bytes) answer escape r v old new →
    Emits IsPut IsPutInPart answer escape r v (reverse xs) (reverse (slice_set xs (n - 1) (record { heard = heard; text = bytes new })))
emitted_in xs n heard old new bytes (Ok u) escape r v long some seen e =
    (e.0, e.1, grown xs n heard (bytes old) (bytes new) (emitted_text escape r v) long some seen e.2)
emitted_in xs n heard old new bytes (Err u) escape r v long some seen e =
    (e.0, e.1, (e.2.0, grown xs n heard (bytes old) (bytes new) (take e.2.0 (emitted_text escape r v)) long some seen e.2.1))

-- or it was given nothing
pub emitted_or_stays : {S : Type 0} (result : Option (Result (Unit {0}) TargetFailed)) (xs : List Capture) (n : ℕ) (heard : Bool)
    (old new : S) (bytes : S → List ℕ) (escape : AutoEscape) (v : Val) → n ≡ length xs → n ≢ 0 →
    record { heard = heard; text = bytes old } ≡ slice_index_or xs (n - 1) (record { heard = heard; text = bytes old }) →
    MatchOption result (new ≡ old)
    (λ answer. (r : RecordData) → Emits (StringGrows bytes) (StringGrowsInPart bytes) answer escape r v old new) →
    let after = reverse (slice_set xs (n - 1) (record { heard = heard; text = bytes new })) in
    MatchOption result (after ≡ reverse xs)
    (λ answer. (reverse xs ≢ []) × ((r : RecordData) → Emits IsPut IsPutInPart answer escape r v (reverse xs) after))
emitted_or_stays None xs n heard old new bytes escape v long some seen same =
    put_or_stays false xs n heard (bytes old) (bytes new) [] long some seen (ap bytes same)
emitted_or_stays (Some answer) xs n heard old new bytes escape v long some seen did =
    (some_open xs n long some, λ r. emitted_in xs n heard old new bytes answer escape r v long some seen (did r))
