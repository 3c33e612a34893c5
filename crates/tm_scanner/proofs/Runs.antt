-- Names in bytes, by their characters.
use Rattle.std.proofs.Common.{◌≡◌, ◌⊎◌, inl, inr, ℕ, ◌-◌, ◌<◌, List, [], ◌∷◌, ◌++◌, true, false, Option, Some, None, length, length-append}
use Rattle.std.proofs.Common.{take, drop, refl, sym, ◌∙◌, ap, arith, append_assoc}
use Rattle.std.specs.Prelude.{not, if◌then◌else◌, encode_utf8_all, option_map}
use Rattle.std.specs.Str.{chars, IsUtf8}
use Rattle.std.proofs.lemmas.List.{append_cancel_right, take-append-drop}
use Rattle.std.proofs.lemmas.Str.{chars-append, encodes-chars}
use Rattle.std.proofs.Math.Seq.{drop-append_seam}
use Rattle.unicode_ident.specs.Ident.{is_xid_continue}
use Rattle.tm_delimiters.specs.Front.{until}
use Rattle.tm_scanner.specs.Names.{starts_name, leaves_name, name_in, name_at}
use Rattle.tm_delimiters.proofs.Places.{until_none, until_some}
use Rattle.tm_scanner.proofs.Steps.{append-nil}

-- Where a search for the end of a name stands: `gone` are the bytes after it, and `passed` their characters.
pub record Passed (text rest : List ℕ) : Type 0 where
  pub gone : List ℕ
  pub passed : List ℕ
  pub bytes : text ≡ gone ++ rest
  pub characters : chars text ≡ passed ++ chars rest
  pub front : (until leaves_name (chars text)).0 ≡ passed ++ (until leaves_name (chars rest)).0
  pub back : (until leaves_name (chars text)).1 ≡ (until leaves_name (chars rest)).1
  pub moved : (text ≡ rest) ⊎ (length rest < length text)

pub begins : (text : List ℕ) → Passed text text
begins text = record { gone = []; passed = []; bytes = refl; characters = refl; front = refl; back = refl; moved = inl refl }

one_more : (rest cs : List ℕ) (c : ℕ) → rest ≡ c ∷ cs → leaves_name rest ≡ false →
    until leaves_name rest ≡ (c ∷ (until leaves_name cs).0, (until leaves_name cs).1)
one_more rest cs c first goes = ap (until leaves_name) first ∙ until_some leaves_name c cs (ap leaves_name (sym first) ∙ goes)

pub goes_on : (text rest one next : List ℕ) (c : ℕ) → Passed text rest → rest ≡ one ++ next → length next < length rest →
    chars rest ≡ c ∷ chars next → is_xid_continue c ≡ true → Passed text next
goes_on text rest one next c here split less first goes =
    let more = one_more (chars rest) (chars next) c first (ap leaves_name first ∙ ap not goes) in
    record {
      gone = here.gone ++ one;
      passed = here.passed ++ (c ∷ []);
      bytes = here.bytes ∙ ap (λ b. here.gone ++ b) split ∙ sym (append_assoc here.gone one next);
      characters = here.characters ∙ ap (λ b. here.passed ++ b) first ∙ sym (append_assoc here.passed (c ∷ []) (chars next));
      front = here.front ∙ ap (λ (r : List ℕ × List ℕ). here.passed ++ r.0) more
          ∙ sym (append_assoc here.passed (c ∷ []) (until leaves_name (chars next)).0);
      back = here.back ∙ ap (λ (r : List ℕ × List ℕ). r.1) more;
      moved = inr (shorter here.moved);
    }
  where
    shorter : (text ≡ rest) ⊎ (length rest < length text) → length next < length text
    shorter (inl e) = omega (arith, less, ap length e)
    shorter (inr h) = omega (arith, less, h)

-- what a cut gives where the name ends
pub ends : (text rest front back : List ℕ) → Passed text rest → leaves_name (chars rest) ≡ true → IsUtf8 front → IsUtf8 rest →
    text ≡ front ++ back → back ≡ rest →
    (front ≡ encode_utf8_all (until leaves_name (chars text)).0) × (back ≡ encode_utf8_all (until leaves_name (chars text)).1)
ends text rest front back here over uf ur parts same =
    let stop = until_none leaves_name (chars rest) over in
    let whole : chars text ≡ chars front ++ chars rest = ap chars parts ∙ chars-append front back uf
    ∙ ap (λ b. chars front ++ chars b) same in
    let equal : chars front ≡ here.passed = append_cancel_right (chars front) here.passed (chars rest) (sym whole ∙ here.characters) in
    let name : (until leaves_name (chars text)).0 ≡ chars front = here.front ∙ ap (λ (r : List ℕ × List ℕ). here.passed ++ r.0) stop
    ∙ append-nil here.passed ∙ sym equal in
    let left : (until leaves_name (chars text)).1 ≡ chars rest = here.back ∙ ap (λ (r : List ℕ × List ℕ). r.1) stop in
    (sym (ap encode_utf8_all name ∙ encodes-chars front uf), same ∙ sym (ap encode_utf8_all left ∙ encodes-chars rest ur))

-- where a name goes on with the text, less is left
pub left_less : (text rest : List ℕ) → Passed text rest → leaves_name (chars rest) ≡ true → leaves_name (chars text) ≡ false →
    length rest < length text
left_less text rest here over goes = by_move here.moved
  where
    by_move : (text ≡ rest) ⊎ (length rest < length text) → length rest < length text
    by_move (inl e) = absurd (cc (sym goes ∙ ap (λ t. leaves_name (chars t)) e ∙ over))
    by_move (inr h) = h

-- the place of the seam, from the end
pub seam : (text rest gone : List ℕ) → text ≡ gone ++ rest → length text - length rest ≡ length gone
seam text rest gone h = omega (arith, ap length h, length-append {A = ℕ})

pub split_there : (text rest gone front back : List ℕ) → text ≡ gone ++ rest → front ≡ take (length text - length rest) text →
    back ≡ drop (length text - length rest) text → (text ≡ front ++ back) × (back ≡ rest)
split_there text rest gone front back h f b = (
  sym (take-append-drop (length text - length rest) text) ∙ (cc),
  b ∙ ap (λ n. drop n text) (seam text rest gone h) ∙ ap (drop (length gone)) h ∙ drop-append_seam gone rest,
)

-- A run of what a name goes on with is a name, where a name may begin with its first character.
pub named : (text front back cs : List ℕ) (c : ℕ) → chars text ≡ c ∷ cs → starts_name c ≡ true → is_xid_continue c ≡ true →
    front ≡ encode_utf8_all (until leaves_name (chars text)).0 → back ≡ encode_utf8_all (until leaves_name (chars text)).1 →
    ◌≡◌ {A = Option (List ℕ × List ℕ)} (Some (front, back)) (name_at text)
named text front back cs c first starts goes f b =
    let more = one_more (chars text) cs c first (ap leaves_name first ∙ ap not goes) in
    let name : name_in (chars text) ≡ Some (c ∷ (until leaves_name cs).0, (until leaves_name cs).1) =
    ap name_in first ∙ ap (λ t. if t then Some (c ∷ (until leaves_name cs).0, (until leaves_name cs).1) else None) starts in
    let whole : name_at text ≡ Some
    (encode_utf8_all (until leaves_name (chars text)).0, encode_utf8_all (until leaves_name (chars text)).1) =
    ap (λ r. option_map (λ (x : List ℕ × List ℕ). (encode_utf8_all x.0, encode_utf8_all x.1)) r) (name ∙ ap Some (sym more)) in
    rw (f, b) (sym whole)
