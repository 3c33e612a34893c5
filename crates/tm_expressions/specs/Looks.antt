-- Combinations of looks, and a look at a token that isn't taken.
use Rattle.std.specs.Prelude.{◌≡◌, ◌<◌, Bool, true, false, List, [], ◌∷◌, length, Some, None, option_and_then, option_map, refl}
use Rattle.std.proofs.Common.{arith, ◌∙◌, ap}
use Rattle.tm_grammar.specs.Meanings.{Read, got, bind_reads}
use Rattle.tm_grammar.specs.Rule.{Rule, Look}
use Rattle.tm_grammar.specs.Laws.{not_got, same_got}

-- what was seen, or else the other
abbrev pub or_seen : {T A : Type 0} → Read T A → Read T A → Read T A
or_seen None other = other
or_seen (Some x) other = Some x

pub or_nearer : {T A : Type 0} (p q : Look T A) (ts : List T) (seen : Read T A) → p.sees ts ≡ seen → (a : A) (rest : List T) →
    or_seen seen (q.sees ts) ≡ got a rest → length rest < length ts
or_nearer p q ts None e a rest h = q.nearer ts a rest h
or_nearer p q ts (Some x) e a rest h = p.nearer ts a rest (e ∙ h)

pub after_nearer : {T A B : Type 0} (p : Look T A) (q : Look T B) (ts : List T) (seen : Read T A) → p.sees ts ≡ seen →
    (b : B) (rest : List T) →
    option_and_then (λ x. q.sees x.1) seen ≡ got b rest → length rest < length ts
after_nearer p q ts None e b rest h = absurd (not_got b rest h)
after_nearer p q ts (Some x) e b rest h = omega (arith, p.nearer ts x.0 x.1 e, q.nearer x.1 b rest h)

-- one look, or else another
abbrev pub or_else : {T A : Type 0} → Look T A → Look T A → Look T A
or_else p q = record { sees = λ ts. or_seen (p.sees ts) (q.sees ts); nearer = λ ts. or_nearer p q ts (p.sees ts) refl }

-- p and then q: what q sees
abbrev pub before : {T A B : Type 0} → Look T A → Look T B → Look T B
before p q = record { sees = bind_reads p.sees (λ _. q.sees); nearer = λ ts. after_nearer p q ts (p.sees ts) refl }

pub followed_nearer : {T A B : Type 0} (p : Look T A) (q : Look T B) (ts : List T) (seen : Read T A) → p.sees ts ≡ seen →
    (a : A) (rest : List T) →
    option_and_then (λ x. option_map (λ y. (x.0, y.1)) (q.sees x.1)) seen ≡ got a rest → length rest < length ts
followed_nearer p q ts None e a rest h = absurd (not_got a rest h)
followed_nearer p q ts (Some x) e a rest h = after (q.sees x.1) refl h
  where
    after : (seen : _) → q.sees x.1 ≡ seen → option_map (λ y. (x.0, y.1)) seen ≡ got a rest → length rest < length ts
    after None g k = absurd (not_got a rest k)
    after (Some y) g k = omega (arith, p.nearer ts x.0 x.1 e, q.nearer x.1 y.0 y.1 g, ap length (same_got x.0 a y.1 rest k).1)

-- p and then q: what p sees
abbrev pub followed : {T A B : Type 0} → Look T A → Look T B → Look T A
followed p q = record {
  sees = λ ts. option_and_then (λ x. option_map (λ y. (x.0, y.1)) (q.sees x.1)) (p.sees ts);
  nearer = λ ts. followed_nearer p q ts (p.sees ts) refl;
}

-- Whether p holds for the first token.
abbrev pub starts : {T : Type 0} → (T → Bool) → List T → Bool
starts p [] = false
starts p (t ∷ ts) = p t

abbrev pub either : {T A : Type 0} → Bool → Rule T A → Rule T A → Rule T A
either true r other = r
either false r other = other

-- One rule if p holds for the first token, which isn't taken, and another rule otherwise.
abbrev pub ahead : {T A : Type 0} → (T → Bool) → Rule T A → Rule T A → Rule T A
ahead p r other = record {
  spells = λ ts. (either (starts p ts) r other).spells ts;
  reads = λ ts. (either (starts p ts) r other).reads ts;
  sound = λ ts. (either (starts p ts) r other).sound ts;
  complete = λ ts. (either (starts p ts) r other).complete ts;
  shorter = λ ts. (either (starts p ts) r other).shorter ts;
}
