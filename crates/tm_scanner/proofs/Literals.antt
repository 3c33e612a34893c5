-- Texts in quotes, as far as they are read.
use Rattle.std.proofs.Common.{◌≡◌, ℕ, List, [], ◌∷◌, ◌++◌, Some, None, false, sym, ◌∙◌, ap, subst, append_assoc}
use Rattle.std.specs.Prelude.{encode_utf8}
use Rattle.tm_values.specs.Val.{Val, text}
use Rattle.tm_scanner.specs.declared.texts.Quote.{Quote}
use Rattle.tm_scanner.specs.declared.texts.Quote.TheVariants as quote
use Rattle.tm_delimiters.specs.Front.{◌>>=◌}
use Rattle.tm_scanner.specs.Steps.{Steps, joined}
use Rattle.tm_scanner.specs.Texts.{byte_of, past_quote, run, escape, part, IsPart, IsText, IsLiteral}
use Rattle.tm_delimiters.proofs.Places.{after-append, after-split}
use Rattle.tm_scanner.proofs.Steps.{OneStep, NoStep, append-nil, joined_last, same_result, steps_last, one_end}

-- After its opening quote the text begins with the content, up to where the rest is left.
pub record LiteralSoFar (q : Quote) (cs content rest : List ℕ) : Type 0 where
  pub parts : List (List ℕ)
  pub steps : Steps (IsPart q) (run q cs).1 parts rest
  pub bytes : content ≡ (run q cs).0 ++ joined parts

pub begins : (q : Quote) (cs front rest : List ℕ) → (front, rest) ≡ run q cs → LiteralSoFar q cs front rest
begins q cs front rest e = record {
  parts = [];
  steps = ap (λ (r : List ℕ × List ℕ). r.1) (sym e);
  bytes = ap (λ (r : List ℕ × List ℕ). r.0) e ∙ sym (append-nil (run q cs).0);
}

pub goes_on : (q : Quote) (cs content rest next more left new : List ℕ) (c : ℕ) → LiteralSoFar q cs content rest →
    escape rest ≡ Some (c, next) → (more, left) ≡ run q next → new ≡ (content ++ encode_utf8 c) ++ more → LiteralSoFar q cs new left
goes_on q cs content rest next more left new c here e split grown =
    let step : part q rest ≡ Some (encode_utf8 c ++ more, left) =
    ap (λ r. r >>= (λ (x : ℕ × List ℕ). Some (encode_utf8 x.0 ++ (run q x.1).0, (run q x.1).1))) e
    ∙ ap (λ (r : List ℕ × List ℕ). Some (encode_utf8 c ++ r.0, r.1)) (sym split) in
    record {
      parts = here.parts ++ (encode_utf8 c ++ more) ∷ [];
      steps = steps_last (IsPart q) (run q cs).1 here.parts rest (encode_utf8 c ++ more) left here.steps step;
      bytes = grown ∙ append_assoc content (encode_utf8 c) more ∙ ap (λ w. w ++ (encode_utf8 c ++ more)) here.bytes
          ∙ append_assoc (run q cs).0 (joined here.parts) (encode_utf8 c ++ more)
          ∙ ap (λ w. (run q cs).0 ++ w) (sym (joined_last here.parts (encode_utf8 c ++ more)));
    }

pub ends : (q : Quote) (cs content rest after : List ℕ) → LiteralSoFar q cs content rest → past_quote q rest ≡ Some after →
    IsText q cs content after
ends q cs content rest after here e = (
  here.parts,
  subst (λ (w : List ℕ). Steps (IsPart q) (run q cs).1 here.parts w)
      (after-split (byte_of q ∷ []) rest after e) here.steps,
  here.bytes,
)

one_part : (q : Quote) → OneStep (IsPart q)
one_part q = λ s x y t u h k. same_result x y t u (sym h ∙ k)

-- no escape begins with a quote
no_part : (q : Quote) (rest : List ℕ) → NoStep (IsPart q) (byte_of q ∷ rest)
no_part quote.Double rest = λ x t h. cc
no_part quote.Single rest = λ x t h. cc

stuck_part : (q : Quote) (rest : List ℕ) → escape rest ≡ None → NoStep (IsPart q) rest
stuck_part q rest e = λ x t h. cc (sym (ap (λ r. r >>= (λ (x : ℕ × List ℕ). Some (encode_utf8 x.0 ++ (run q x.1).0, (run q x.1).1))) e) ∙ h)

-- where neither an escape nor the closing quote stands, there is no text
pub no_text : (q : Quote) (cs content rest : List ℕ) → LiteralSoFar q cs content rest → escape rest ≡ None → past_quote q rest ≡ None →
    (v : Val) (left : List ℕ) → IsLiteral q cs v left → ⊥
no_text q cs content rest here e f v left h =
    let text = h.1 in
    let same = one_end (IsPart q) (run q cs).1 here.parts rest text.0 (byte_of q ∷ left) (one_part q) here.steps
    (stuck_part q rest e) text.1 (no_part q left) in
    cc (sym f ∙ ap (past_quote q) same.1 ∙ after-append (byte_of q ∷ []) left)

one_text : (q : Quote) (cs a b r s : List ℕ) → IsText q cs a r → IsText q cs b s → (a ≡ b) × (r ≡ s)
one_text q cs a b r s h k =
    let same = one_end (IsPart q) (run q cs).1 h.0 (byte_of q ∷ r) k.0 (byte_of q ∷ s) (one_part q) h.1 (no_part q r) k.1 (no_part q s) in
    (h.2 ∙ ap (λ ps. (run q cs).0 ++ joined ps) same.0 ∙ sym k.2, cc)

pub one_literal : (q : Quote) (cs : List ℕ) (v w : Val) (r s : List ℕ) → IsLiteral q cs v r → IsLiteral q cs w s → (v ≡ w) × (r ≡ s)
one_literal q cs v w r s h k =
    let same = one_text q cs h.0 k.0 r s h.1 k.1 in
    (h.2 ∙ ap (λ bytes. text bytes false) same.0 ∙ sym k.2, same.1)
