-- What is left after something is read is the end of what was there.
use Rattle.std.proofs.Common.{◌≡◌, ℕ, ◌+◌, ◌-◌, ◌*◌, List, [], ◌∷◌, ◌++◌, Bool, true, false, Option, Some, None, refl, sym, ◌∙◌, ap, subst, append_assoc, arith, length, length-append}
use Rattle.std.proofs.lemmas.Str.{encodes-chars, IsCharBoundary-at_seam, IsUtf8-append}
use Rattle.std.specs.Prelude.{if◌then◌else◌, option_map, nat_lt, nat_le, codes, pos, encode_utf8_all, encode_utf8, ◌==◌, ◌&&◌}
use Rattle.std.specs.Char.{digit_value}
use Rattle.std.specs.Option.{option_or, unwrap_or}
use Rattle.std.specs.Str.{chars, IsUtf8, IsCharBoundary}
use Rattle.tm_values.specs.Val as val
use Rattle.tm_syntax.specs.declared.token.Token.{Token}
use Rattle.tm_syntax.specs.declared.token.Token.TheVariants as tokens
use Rattle.tm_syntax.specs.declared.token.Sign.{Sign}
use Rattle.tm_scanner.specs.declared.texts.Quote.{Quote}
use Rattle.tm_scanner.specs.declared.texts.Quote.TheVariants as quote
use Rattle.tm_delimiters.specs.Front.{◌>>=◌, after, ascii, until, first_is, is_blank, past_blanks}
use Rattle.memchr.specs.Find.{is_byte2}
use Rattle.tm_delimiters.specs.Whitespace.{ends_here, past_blanks_to}
use Rattle.tm_delimiters.specs.Views.{IsRest}
use Rattle.tm_delimiters.proofs.Places.{after-split}
use Rattle.tm_delimiters.proofs.Ends.{until_parts}
use Rattle.tm_scanner.specs.Steps.{Steps}
use Rattle.tm_scanner.specs.Names.{leaves_name, name_in, name_at, reserved, starts_name}
use Rattle.tm_scanner.specs.Numbers.{digit, with_digit, digits, based, prefixed, base_of, number, starts_digits, starts_fraction, starts_number}
use Rattle.tm_scanner.specs.Texts.{byte_of, quote_at, run, hex_digit, hex, low_surrogate, character, unicode_by, unicode, letter, escape, part, IsPart, IsLiteral}
use Rattle.tm_scanner.specs.Tokens.{marks, mark_in, mark, word, name_or, plain}

pub rest_self : (cs : List ℕ) → IsRest cs cs
rest_self cs = ([], refl)

pub rest_byte : (c : ℕ) (cs : List ℕ) → IsRest cs (c ∷ cs)
rest_byte c cs = (c ∷ [], refl)

pub rest_through : (cs mid rest : List ℕ) → IsRest rest mid → IsRest mid cs → IsRest rest cs
rest_through cs mid rest h k = (k.0 ++ h.0, k.1 ∙ ap (λ w. k.0 ++ w) h.1 ∙ sym (append_assoc k.0 h.0 rest))

rest_after : (ws cs rest : List ℕ) → after ws cs ≡ Some rest → IsRest rest cs
rest_after ws cs rest e = (ws, after-split ws cs rest e)

-- what is left, where something is found
abbrev pub Leaves : {A : Type 0} → Option (A × List ℕ) → List ℕ → Type 0
Leaves None cs = Unit {0}
Leaves (Some x) cs = IsRest x.1 cs

left : {A : Type 0} (o : Option (A × List ℕ)) (cs : List ℕ) (x : A) (rest : List ℕ) → Leaves o cs → o ≡ Some (x, rest) → IsRest rest cs
left {A = A} o cs x rest h e = subst (λ (w : Option (A × List ℕ)). Leaves w cs) e h

by_test : {A : Type 0} (b : Bool) (x y : Option (A × List ℕ)) (cs : List ℕ) → Leaves x cs → Leaves y cs → Leaves (if b then x else y) cs
by_test true x y cs h k = h
by_test false x y cs h k = k

first_or : {A : Type 0} (x y : Option (A × List ℕ)) (cs : List ℕ) → Leaves x cs → Leaves y cs → Leaves (option_or x y) cs
first_or None y cs h k = k
first_or (Some x) y cs h k = h

mapped : {A B : Type 0} (f : A × List ℕ → B) (o : Option (A × List ℕ)) (cs : List ℕ) → Leaves o cs → Leaves (option_map (λ x. (f x, x.1)) o) cs
mapped f None cs h = tt
mapped f (Some x) cs h = h

onward : {A B : Type 0} (f : A × List ℕ → Option (B × List ℕ)) (o : Option (A × List ℕ)) (cs : List ℕ) → Leaves o cs →
    ((x : A × List ℕ) → Leaves (f x) x.1) → Leaves (o >>= f) cs
onward {B = B} f None cs h k = tt
onward {B = B} f (Some x) cs h k = by_next (f x) (k x)
  where
    by_next : (o : Option (B × List ℕ)) → Leaves o x.1 → Leaves o cs
    by_next None p = tt
    by_next (Some y) p = rest_through cs x.1 y.1 p h

then_by : {A B : Type 0} (f : A → Option (B × List ℕ)) (o : Option A) (cs : List ℕ) → ((x : A) → Leaves (f x) cs) → Leaves (o >>= f) cs
then_by f None cs k = tt
then_by f (Some x) cs k = k x

further : {A : Type 0} (o : Option (A × List ℕ)) (mid cs : List ℕ) → IsRest mid cs → Leaves o mid → Leaves o cs
further None mid cs h k = tt
further (Some x) mid cs h k = rest_through cs mid x.1 k h

after_word : {A : Type 0} (f : List ℕ → Option (A × List ℕ)) (ws cs : List ℕ) → ((rest : List ℕ) → Leaves (f rest) rest) →
    Leaves (after ws cs >>= f) cs
after_word {A = A} f ws cs k = by_rest (after ws cs) refl
  where
    by_rest : (o : Option (List ℕ)) → after ws cs ≡ o → Leaves (o >>= f) cs
    by_rest None e = tt
    by_rest (Some rest) e = further (f rest) rest cs (rest_after ws cs rest e) (k rest)

-- texts
hex_digit_leaves : (cs : List ℕ) → Leaves (hex_digit cs) cs
hex_digit_leaves [] = tt
hex_digit_leaves (c ∷ cs) = by_test (nat_lt (digit_value c) 16) (Some (digit_value c, cs)) None (c ∷ cs) (rest_byte c cs) tt

hex_leaves : (cs : List ℕ) → Leaves (hex cs) cs
hex_leaves cs =
    onward _ (hex_digit cs) cs (hex_digit_leaves cs) (λ a. onward _ (hex_digit a.1) a.1 (hex_digit_leaves a.1)
    (λ b. onward _ (hex_digit b.1) b.1 (hex_digit_leaves b.1) (λ c. onward _ (hex_digit c.1) c.1 (hex_digit_leaves c.1) (λ d. rest_self d.1))))

low_leaves : (cs : List ℕ) → Leaves (low_surrogate cs) cs
low_leaves cs = after_word _ (codes "\\u") cs (λ rest. onward _ (hex rest) rest (hex_leaves rest)
    (λ low. by_test (nat_le 0xDC00 low.0 && nat_lt low.0 0xE000) (Some (low.0 - 0xDC00, low.1)) None low.1 (rest_self low.1) tt))

unicode_by_leaves : (b : Bool) (code : ℕ × List ℕ) → Leaves (unicode_by b code) code.1
unicode_by_leaves false code = then_by (λ c. Some (c, code.1)) (character code.0) code.1 (λ c. rest_self code.1)
unicode_by_leaves true code =
    onward _ (low_surrogate code.1) code.1 (low_leaves code.1)
    (λ low. then_by (λ c. Some (c, low.1)) (character (0x10000 + 1024 * (code.0 - 0xD800) + low.0)) low.1 (λ c. rest_self low.1))

unicode_leaves : (cs : List ℕ) → Leaves (unicode cs) cs
unicode_leaves cs = onward _ (hex cs) cs (hex_leaves cs) (λ code. unicode_by_leaves _ code)

ascii_leaves : (cs : List ℕ) → Leaves (ascii cs) cs
ascii_leaves [] = tt
ascii_leaves (c ∷ cs) = by_test (nat_lt c 128) (Some (c, cs)) None (c ∷ cs) (rest_byte c cs) tt

escape_leaves : (cs : List ℕ) → Leaves (escape cs) cs
escape_leaves cs =
    after_word _ (92 ∷ []) cs (λ rest. onward _ (ascii rest) rest (ascii_leaves rest)
    (λ x. by_test (x.0 == 117) (unicode x.1) (letter x.0 >>= (λ c. Some (c, x.1))) x.1 (unicode_leaves x.1)
    (then_by (λ c. Some (c, x.1)) (letter x.0) x.1 (λ c. rest_self x.1))))

run_rest : (q : Quote) (cs : List ℕ) → IsRest (run q cs).1 cs
run_rest q cs = ((run q cs).0, until_parts (first_is (is_byte2 (byte_of q) 92)) cs)

part_leaves : (q : Quote) (cs : List ℕ) → Leaves (part q cs) cs
part_leaves q cs = onward _ (escape cs) cs (escape_leaves cs) (λ c. run_rest q c.1)

steps_rest : (q : Quote) (cs : List ℕ) (parts : List (List ℕ)) (rest : List ℕ) → Steps (IsPart q) cs parts rest → IsRest rest cs
steps_rest q cs [] rest h = subst (λ (w : List ℕ). IsRest w cs) h (rest_self cs)
steps_rest q cs (p ∷ parts) rest h =
    rest_through cs h.0 rest (steps_rest q h.0 parts rest h.2) (left (part q cs) cs p h.0 (part_leaves q cs) h.1)

pub literal_rest : (q : Quote) (cs : List ℕ) (v : val.Val) (rest : List ℕ) → IsLiteral q cs v rest → IsRest rest cs
literal_rest q cs v rest h =
    let text = h.1 in
    rest_through cs (byte_of q ∷ rest) rest (rest_byte (byte_of q) rest)
    (rest_through cs (run q cs).1 (byte_of q ∷ rest) (steps_rest q (run q cs).1 text.0 (byte_of q ∷ rest) text.1) (run_rest q cs))

pub quote_leaves : (cs : List ℕ) → Leaves (quote_at cs) cs
quote_leaves [] = tt
quote_leaves (c ∷ cs) =
    let single : Option (Quote × List ℕ) = if c == 39 then Some (quote.Single, cs) else None in
    by_test (c == 34) (Some (quote.Double, cs)) single (c ∷ cs) (rest_byte c cs)
    (by_test (c == 39) (Some (quote.Single, cs)) None (c ∷ cs) (rest_byte c cs) tt)

-- numbers
digit_leaves : (base : ℕ) (cs : List ℕ) → Leaves (digit base cs) cs
digit_leaves base [] = tt
digit_leaves base (c ∷ cs) = by_test (nat_lt (digit_value c) base) (Some (digit_value c, cs)) None (c ∷ cs) (rest_byte c cs) tt

digits_leaves : (base n : ℕ) (cs : List ℕ) → Leaves (digits base n cs) cs
digits_leaves base n [] = rest_self []
digits_leaves base n (c ∷ cs) =
    by_test (nat_lt (digit_value c) base) (with_digit base n (digit_value c) >>= (λ m. digits base m cs)) _ (c ∷ cs)
    (then_by (λ m. digits base m cs) (with_digit base n (digit_value c)) (c ∷ cs)
    (λ m. further (digits base m cs) cs (c ∷ cs) (rest_byte c cs) (digits_leaves base m cs)))
    (by_test ((c == 95) && starts_digits base cs) (digits base n cs) (Some (n, c ∷ cs)) (c ∷ cs)
    (further (digits base n cs) cs (c ∷ cs) (rest_byte c cs) (digits_leaves base n cs)) (rest_self (c ∷ cs)))

based_leaves : (prefix : List ℕ) (base : ℕ) (cs : List ℕ) → Leaves (based prefix base cs) cs
based_leaves prefix base cs = after_word _ prefix cs (λ rest. by_test (starts_digits base rest) (Some (base, rest)) None rest (rest_self rest) tt)

prefixed_leaves : (cs : List ℕ) → Leaves (prefixed cs) cs
prefixed_leaves cs =
    first_or (based (codes "0x") 16 cs) _ cs (based_leaves (codes "0x") 16 cs)
    (first_or (based (codes "0o") 8 cs) (based (codes "0b") 2 cs) cs (based_leaves (codes "0o") 8 cs) (based_leaves (codes "0b") 2 cs))

base_rest : (cs : List ℕ) → IsRest (base_of cs).1 cs
base_rest cs = by_prefix (prefixed cs) (prefixed_leaves cs)
  where
    by_prefix : (o : Option (ℕ × List ℕ)) → Leaves o cs → IsRest (unwrap_or o (10, cs)).1 cs
    by_prefix None h = rest_self cs
    by_prefix (Some x) h = h

number_leaves : (cs : List ℕ) → Leaves (number cs) cs
number_leaves cs =
    further (number cs) (base_of cs).1 cs (base_rest cs)
    (onward _ (digit (base_of cs).0 (base_of cs).1) (base_of cs).1 (digit_leaves (base_of cs).0 (base_of cs).1)
    (λ first. onward _ (digits (base_of cs).0 first.0 first.1) first.1 (digits_leaves (base_of cs).0 first.0 first.1)
    (λ x. by_test (((base_of cs).0 == 10) && starts_fraction x.1) None (Some x) x.1 tt (rest_self x.1))))

-- marks
mark_leaves : (ms : List (List ℕ × Sign)) (cs : List ℕ) → Leaves (mark_in ms cs) cs
mark_leaves [] cs = tt
mark_leaves (m ∷ ms) cs = first_or (option_map (λ rest. (m.1, rest)) (after m.0 cs)) (mark_in ms cs) cs (by_rest (after m.0 cs) refl) (mark_leaves ms cs)
  where
    by_rest : (o : Option (List ℕ)) → after m.0 cs ≡ o → Leaves (option_map {U = Sign × List ℕ} (λ rest. (m.1, rest)) o) cs
    by_rest None e = tt
    by_rest (Some rest) e = rest_after m.0 cs rest e

-- names
encoded_parts : (xs ys : List ℕ) → encode_utf8_all (xs ++ ys) ≡ encode_utf8_all xs ++ encode_utf8_all ys
encoded_parts [] ys = refl
encoded_parts (x ∷ xs) ys =
    ap (λ w. encode_utf8 x ++ w) (encoded_parts xs ys) ∙ sym (append_assoc (encode_utf8 x) (encode_utf8_all xs) (encode_utf8_all ys))

name_leaves : (cs : List ℕ) → IsUtf8 cs → Leaves (name_at cs) cs
name_leaves cs u = subst (Leaves (name_at cs)) (encodes-chars cs u) (by_chars (chars cs))
  where
    by_chars : (xs : List ℕ) →
        Leaves (option_map (λ (x : List ℕ × List ℕ). (encode_utf8_all x.0, encode_utf8_all x.1)) (name_in xs)) (encode_utf8_all xs)
    by_chars [] = tt
    by_chars (x ∷ xs) = by_name (starts_name x)
      where
        front : List ℕ
        front = (until leaves_name xs).0

        back : List ℕ
        back = (until leaves_name xs).1

        by_name : (b : Bool) →
            Leaves (option_map (λ (x : List ℕ × List ℕ). (encode_utf8_all x.0, encode_utf8_all x.1))
            (if b then Some (x ∷ front, back) else None)) (encode_utf8_all (x ∷ xs))
        by_name false = tt
        by_name true = (
          encode_utf8_all (x ∷ front),
          ap (λ ys. encode_utf8_all (x ∷ ys)) (until_parts leaves_name xs) ∙ encoded_parts (x ∷ front) back,
        )

pub name_rest : (cs name rest : List ℕ) → IsUtf8 cs → name_at cs ≡ Some (name, rest) → IsRest rest cs
name_rest cs name rest u e = left (name_at cs) cs name rest (name_leaves cs u) e

word_leaves : (cs : List ℕ) → IsUtf8 cs → Leaves (word cs) cs
word_leaves cs u = mapped (λ x. name_or x.0 (reserved x.0)) (name_at cs) cs (name_leaves cs u)

plain_leaves : (cs : List ℕ) → IsUtf8 cs → Leaves (plain cs) cs
plain_leaves cs u =
    by_test (starts_number cs) (option_map (λ x. (tokens.Literal (val.number (pos x.0)), x.1)) (number cs)) _ cs
    (mapped (λ x. tokens.Literal (val.number (pos x.0))) (number cs) cs (number_leaves cs))
    (first_or (option_map (λ x. (tokens.Sign x.0, x.1)) (mark cs)) (word cs) cs
    (mapped (λ x. tokens.Sign x.0) (mark cs) cs (mark_leaves marks cs)) (word_leaves cs u))

pub plain_rest : (cs rest : List ℕ) (t : Token) → IsUtf8 cs → plain cs ≡ Some (t, rest) → IsRest rest cs
plain_rest cs rest t u e = left (plain cs) cs t rest (plain_leaves cs u) e

pub rest_joined : (text front back rest : List ℕ) → text ≡ front ++ back → IsRest rest front → IsRest (rest ++ back) text
rest_joined text front back rest e h = (h.0, e ∙ ap (λ w. w ++ back) h.1 ∙ append_assoc h.0 rest back)

pub text_rest : (text after rest : List ℕ) (q : Quote) (v : val.Val) → Some (q, after) ≡ quote_at text → IsLiteral q after v rest →
    IsRest rest text
text_rest text after rest q v e h =
    rest_through text after rest (literal_rest q after v rest h) (left (quote_at text) text q after (quote_leaves text) (sym e))

pub blanks_rest : (cs : List ℕ) → IsRest (past_blanks cs) cs
blanks_rest [] = rest_self []
blanks_rest (c ∷ cs) = by_blank (is_blank c) (blanks_rest cs)
  where
    by_blank : (b : Bool) → IsRest (past_blanks cs) cs → IsRest (if b then past_blanks cs else c ∷ cs) (c ∷ cs)
    by_blank true h = rest_through (c ∷ cs) cs (past_blanks cs) h (rest_byte c cs)
    by_blank false h = rest_self (c ∷ cs)

pub blanks_to_rest : (end cs : List ℕ) → IsRest (past_blanks_to end cs) cs
blanks_to_rest end [] = rest_self []
blanks_to_rest end (c ∷ cs) = by_blank (is_blank c) (ends_here end (c ∷ cs)) (blanks_to_rest end cs)
  where
    by_blank : (b here : Bool) → IsRest (past_blanks_to end cs) cs →
        IsRest (if b then (if here then c ∷ cs else past_blanks_to end cs) else c ∷ cs) (c ∷ cs)
    by_blank true true h = rest_self (c ∷ cs)
    by_blank true false h = rest_through (c ∷ cs) cs (past_blanks_to end cs) h (rest_byte c cs)
    by_blank false here h = rest_self (c ∷ cs)

-- where a text may be cut before its last two parts
pub parts_boundary : (text left back : List ℕ) → IsRest (left ++ back) text → IsUtf8 left → IsUtf8 back →
    IsCharBoundary text (length text - (length left + length back))
parts_boundary text left back h u v =
    let seam : length text - (length left + length back) ≡ length h.0 =
    omega (arith, ap length h.1, length-append h.0 (left ++ back), length-append left back) in
    subst (IsCharBoundary text) (sym seam) (IsCharBoundary-at_seam text h.0 (left ++ back) h.1 (IsUtf8-append left back u v))
