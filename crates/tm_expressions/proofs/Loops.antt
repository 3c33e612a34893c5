-- What a loop that reads one thing after another has still to read.
use Rattle.std.proofs.Common.{◌≡◌, ℕ, ◌<◌, List, length, None, inl, inr, sym, ◌∙◌, ap, arith}
use Rattle.tm_values.specs.declared.error.ErrorKind.{ErrorKind}
use Rattle.tm_syntax.specs.declared.token.Token.{Token}
use Rattle.tm_syntax.specs.declared.token.Sign.{Sign}
use Rattle.tm_syntax.specs.declared.token.Sign.TheVariants as sign
use Rattle.tm_grammar.specs.Meanings.{Read, got}
use Rattle.tm_grammar.specs.Rule.{Rule, Look}
use Rattle.tm_grammar.specs.Growth as growth
use Rattle.tm_grammar.specs.Combinators.{first, grow, one_more, many_from}
use Rattle.tm_values.specs.Answer.{Refused}
use Rattle.tm_expressions.specs.declared.primaries.Passed.{Passed}
use Rattle.tm_expressions.specs.Grammar.{more_parts, one_part}
use Rattle.tm_expressions.specs.Tokens.{is}
use Rattle.tm_expressions.specs.Grammar.{Inside, more_items, comma, one_passed, more_passed}

-- Another reason for the same refusal.
pub because : {P Q : Type 0} (chain : List ErrorKind) → (P → Q) → Refused chain P → Refused chain Q
because chain f (inl memory) = inl memory
because chain f (inr refused) = inr (refused.0, f refused.1)

-- what a value that grows has still to become
module _ {T A B : Type 0} (p : Look T A) (part : A → B → Rule T B) where
  abbrev becomes : B → List T → Read T B
  becomes x = (grow p part x).reads

  pub grows_on : (x : B) (ts : List T) (whole : Read T B) (a : A) (after : List T) (y : B) (rest : List T) →
      becomes x ts ≡ whole → p.sees ts ≡ got a after → (part a x).reads after ≡ got y rest → becomes y rest ≡ whole
  grows_on x ts whole a after y rest so seen read = sym (growth.grow_some p part x ts a after y rest seen read) ∙ so

  pub grows_nearer : (x : B) (ts : List T) (a : A) (after : List T) (y : B) (rest : List T) →
      p.sees ts ≡ got a after → (part a x).reads after ≡ got y rest → length rest < length ts
  grows_nearer x ts a after y rest seen read =
      omega (arith, p.nearer ts a after seen, (part a x).shorter after y rest ((part a x).sound after y rest read))

  pub grows_not : (x : B) (ts : List T) (whole : Read T B) (a : A) (after : List T) (chain : List ErrorKind) →
      becomes x ts ≡ whole → p.sees ts ≡ got a after → Refused chain ((part a x).reads after ≡ None) → Refused chain (whole ≡ None)
  grows_not x ts whole a after chain so seen refused = because chain (λ none. sym so ∙ growth.grow_fails p part x ts a after seen none)
      refused

  pub is_grown : (x : B) (ts : List T) (whole : Read T B) (rest : List T) → becomes x ts ≡ whole → (p.sees ts ≡ None) × (rest ≡ ts) →
      whole ≡ got x rest
  is_grown x ts whole rest so h = sym so ∙ growth.grow_none p part x ts h.0 ∙ ap (got x) (sym h.1)

-- the same of a list that grows by an item
module _ {T A B : Type 0} (p : Look T A) (item : A → Rule T B) where
  abbrev reads : List B → List T → Read T (List B)
  reads xs = (many_from p item xs).reads

  abbrev longer : A → List B → Rule T (List B)
  longer a xs = one_more (item a) xs

  pub goes_on : (xs : List B) (ts : List T) (whole : Read T (List B)) (a : A) (after : List T) (ys : List B) (rest : List T) →
      reads xs ts ≡ whole → p.sees ts ≡ got a after → (one_more (item a) xs).reads after ≡ got ys rest → reads ys rest ≡ whole
  goes_on = grows_on p longer

  pub comes_nearer : (xs : List B) (ts : List T) (a : A) (after : List T) (ys : List B) (rest : List T) →
      p.sees ts ≡ got a after → (one_more (item a) xs).reads after ≡ got ys rest → length rest < length ts
  comes_nearer = grows_nearer p longer

  pub refuses : (xs : List B) (ts : List T) (whole : Read T (List B)) (a : A) (after : List T) (chain : List ErrorKind) →
      reads xs ts ≡ whole → p.sees ts ≡ got a after → Refused chain ((one_more (item a) xs).reads after ≡ None) →
      Refused chain (whole ≡ None)
  refuses = grows_not p longer

  pub ends : (xs : List B) (ts : List T) (whole : Read T (List B)) (rest : List T) → reads xs ts ≡ whole →
      (p.sees ts ≡ None) × (rest ≡ ts) → whole ≡ got xs rest
  ends = is_grown p longer

-- the same of items between commas
module _ {A : Type 0} (close : Sign) (item : Rule Token A) where
  pub comma_goes_on : (xs ys : List A) (ts after rest : List Token) (whole : Read Token (List A)) →
      (more_items close item xs).reads ts ≡ whole →
      (comma close).sees ts ≡ got tt after → (one_more item xs).reads after ≡ got ys rest → (more_items close item ys).reads rest ≡ whole
  unfolding more_items
  comma_goes_on xs ys ts after rest whole = goes_on (comma close) (λ _. item) xs ts whole tt after ys rest

  pub comma_comes_nearer : (xs ys : List A) (ts after rest : List Token) → (comma close).sees ts ≡ got tt after →
      (one_more item xs).reads after ≡ got ys rest → length rest < length ts
  comma_comes_nearer xs ys ts after rest = comes_nearer (comma close) (λ _. item) xs ts tt after ys rest

  pub comma_refuses : (xs : List A) (ts after : List Token) (whole : Read Token (List A)) (chain : List ErrorKind) →
      (more_items close item xs).reads ts ≡ whole →
      (comma close).sees ts ≡ got tt after → Refused chain ((one_more item xs).reads after ≡ None) → Refused chain (whole ≡ None)
  unfolding more_items
  comma_refuses xs ts after whole chain = refuses (comma close) (λ _. item) xs ts whole tt after chain

  pub comma_ends : (xs : List A) (ts rest : List Token) (whole : Read Token (List A)) → (more_items close item xs).reads ts ≡ whole →
      ((comma close).sees ts ≡ None) × (rest ≡ ts) → whole ≡ got xs rest
  unfolding more_items
  comma_ends xs ts rest whole = ends (comma close) (λ _. item) xs ts whole rest

pub ruleset commas = (comma_goes_on, comma_comes_nearer, comma_refuses, comma_ends)

-- the same of arguments
module _ (i : Inside) where
  pub passed_goes_on : (x y : Passed) (ts after rest : List Token) (all : Read Token Passed) → (more_passed i x).reads ts ≡ all →
      (comma sign.CloseRound).sees ts ≡ got tt after → (one_passed i x).reads after ≡ got y rest → (more_passed i y).reads rest ≡ all
  unfolding more_passed
  passed_goes_on x y ts after rest all = grows_on (comma sign.CloseRound) (λ _ xs. one_passed i xs) x ts all tt after y rest

  pub passed_comes_nearer : (x y : Passed) (ts after rest : List Token) → (comma sign.CloseRound).sees ts ≡ got tt after →
      (one_passed i x).reads after ≡ got y rest → length rest < length ts
  passed_comes_nearer x y ts after rest = grows_nearer (comma sign.CloseRound) (λ _ xs. one_passed i xs) x ts tt after y rest

  pub passed_refuses : (x : Passed) (ts after : List Token) (all : Read Token Passed) (chain : List ErrorKind) →
      (more_passed i x).reads ts ≡ all →
      (comma sign.CloseRound).sees ts ≡ got tt after → Refused chain ((one_passed i x).reads after ≡ None) → Refused chain (all ≡ None)
  unfolding more_passed
  passed_refuses x ts after all chain = grows_not (comma sign.CloseRound) (λ _ xs. one_passed i xs) x ts all tt after chain

  pub passed_ends : (x : Passed) (ts rest : List Token) (all : Read Token Passed) → (more_passed i x).reads ts ≡ all →
      ((comma sign.CloseRound).sees ts ≡ None) × (rest ≡ ts) → all ≡ got x rest
  unfolding more_passed
  passed_ends x ts rest all = is_grown (comma sign.CloseRound) (λ _ xs. one_passed i xs) x ts all rest

pub ruleset arguments = (passed_goes_on, passed_comes_nearer, passed_refuses, passed_ends)

-- the same of the names of a dotted name
pub part_goes_on : (x y : List ℕ) (ts after rest : List Token) (all : Read Token (List ℕ)) → (more_parts x).reads ts ≡ all →
    (first (is sign.Dot)).sees ts ≡ got tt after → (one_part x).reads after ≡ got y rest → (more_parts y).reads rest ≡ all
unfolding more_parts
part_goes_on x y ts after rest all = grows_on (first (is sign.Dot)) (λ _ name. one_part name) x ts all tt after y rest

pub part_comes_nearer : (x y : List ℕ) (ts after rest : List Token) → (first (is sign.Dot)).sees ts ≡ got tt after →
    (one_part x).reads after ≡ got y rest → length rest < length ts
part_comes_nearer x y ts after rest = grows_nearer (first (is sign.Dot)) (λ _ name. one_part name) x ts tt after y rest

pub part_refuses : (x : List ℕ) (ts after : List Token) (all : Read Token (List ℕ)) (chain : List ErrorKind) →
    (more_parts x).reads ts ≡ all →
    (first (is sign.Dot)).sees ts ≡ got tt after → Refused chain ((one_part x).reads after ≡ None) → Refused chain (all ≡ None)
unfolding more_parts
part_refuses x ts after all chain = grows_not (first (is sign.Dot)) (λ _ name. one_part name) x ts all tt after chain

pub part_ends : (x : List ℕ) (ts rest : List Token) (all : Read Token (List ℕ)) → (more_parts x).reads ts ≡ all →
    ((first (is sign.Dot)).sees ts ≡ None) × (rest ≡ ts) → all ≡ got x rest
unfolding more_parts
part_ends x ts rest all = is_grown (first (is sign.Dot)) (λ _ name. one_part name) x ts all rest

pub ruleset parts = (part_goes_on, part_comes_nearer, part_refuses, part_ends)
