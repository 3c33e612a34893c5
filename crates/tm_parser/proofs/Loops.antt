-- What a loop over targets, over values between commas or over filters has still to read.
use Rattle.std.proofs.Common.{◌≡◌, ◌<◌, List, length, None}
use Rattle.tm_values.specs.declared.error.ErrorKind.{ErrorKind}
use Rattle.tm_syntax.specs.declared.token.Token.{Token}
use Rattle.tm_syntax.specs.declared.token.Sign.TheVariants as sign
use Rattle.tm_trees.specs.Trees.{Expr, Step, AssignmentTarget}
use Rattle.tm_grammar.specs.Meanings.{Read, got}
use Rattle.tm_grammar.specs.Combinators.{first, one_more}
use Rattle.tm_values.specs.Answer.{Refused}
use Rattle.tm_expressions.specs.Tokens.{is}
use Rattle.tm_expressions.specs.Grammar.{Inside, single, more_targets, target_comma, whole}
use Rattle.tm_expressions.proofs.Loops.{goes_on, comes_nearer, refuses, ends}
use Rattle.tm_parser.specs.Statements.{iterated_comma, more_filters, more_iterated}

-- targets
module _ (i : Inside) where
  pub target_goes_on : (xs ys : List AssignmentTarget) (ts after rest : List Token) (whole : Read Token (List AssignmentTarget)) →
      (more_targets i xs).reads ts ≡ whole →
      target_comma.sees ts ≡ got tt after → (one_more (single i) xs).reads after ≡ got ys rest → (more_targets i ys).reads rest ≡ whole
  unfolding more_targets
  target_goes_on xs ys ts after rest whole = goes_on target_comma (λ _. single i) xs ts whole tt after ys rest

  pub target_comes_nearer : (xs ys : List AssignmentTarget) (ts after rest : List Token) → target_comma.sees ts ≡ got tt after →
      (one_more (single i) xs).reads after ≡ got ys rest → length rest < length ts
  target_comes_nearer xs ys ts after rest = comes_nearer target_comma (λ _. single i) xs ts tt after ys rest

  pub target_refuses : (xs : List AssignmentTarget) (ts after : List Token) (whole : Read Token (List AssignmentTarget))
      (chain : List ErrorKind) →
      (more_targets i xs).reads ts ≡ whole →
      target_comma.sees ts ≡ got tt after → Refused chain ((one_more (single i) xs).reads after ≡ None) → Refused chain (whole ≡ None)
  unfolding more_targets
  target_refuses xs ts after whole chain = refuses target_comma (λ _. single i) xs ts whole tt after chain

  pub target_ends : (xs : List AssignmentTarget) (ts rest : List Token) (whole : Read Token (List AssignmentTarget)) →
      (more_targets i xs).reads ts ≡ whole →
      (target_comma.sees ts ≡ None) × (rest ≡ ts) → whole ≡ got xs rest
  unfolding more_targets
  target_ends xs ts rest whole = ends target_comma (λ _. single i) xs ts whole rest

pub ruleset target_commas = (target_goes_on, target_comes_nearer, target_refuses, target_ends)

-- the same of what a loop goes over
module _ (i : Inside) where
  pub iterated_goes_on : (xs ys : List Expr) (ts after rest : List Token) (all : Read Token (List Expr)) →
      (more_iterated i xs).reads ts ≡ all →
      iterated_comma.sees ts ≡ got tt after → (one_more (whole i) xs).reads after ≡ got ys rest → (more_iterated i ys).reads rest ≡ all
  unfolding more_iterated
  iterated_goes_on xs ys ts after rest all = goes_on iterated_comma (λ _. whole i) xs ts all tt after ys rest

  pub iterated_comes_nearer : (xs ys : List Expr) (ts after rest : List Token) → iterated_comma.sees ts ≡ got tt after →
      (one_more (whole i) xs).reads after ≡ got ys rest → length rest < length ts
  iterated_comes_nearer xs ys ts after rest = comes_nearer iterated_comma (λ _. whole i) xs ts tt after ys rest

  pub iterated_refuses : (xs : List Expr) (ts after : List Token) (all : Read Token (List Expr)) (chain : List ErrorKind) →
      (more_iterated i xs).reads ts ≡ all →
      iterated_comma.sees ts ≡ got tt after → Refused chain ((one_more (whole i) xs).reads after ≡ None) → Refused chain (all ≡ None)
  unfolding more_iterated
  iterated_refuses xs ts after all chain = refuses iterated_comma (λ _. whole i) xs ts all tt after chain

  pub iterated_ends : (xs : List Expr) (ts rest : List Token) (all : Read Token (List Expr)) → (more_iterated i xs).reads ts ≡ all →
      (iterated_comma.sees ts ≡ None) × (rest ≡ ts) → all ≡ got xs rest
  unfolding more_iterated
  iterated_ends xs ts rest all = ends iterated_comma (λ _. whole i) xs ts all rest

pub ruleset iterations = (iterated_goes_on, iterated_comes_nearer, iterated_refuses, iterated_ends)

-- the same of filters
module _ (i : Inside) where
  pub filter_goes_on : (xs ys : List Step) (ts after rest : List Token) (all : Read Token (List Step)) →
      (more_filters i xs).reads ts ≡ all →
      (first (is sign.Bar)).sees ts ≡ got tt after → (one_more i.filter xs).reads after ≡ got ys rest →
      (more_filters i ys).reads rest ≡ all
  unfolding more_filters
  filter_goes_on xs ys ts after rest all = goes_on (first (is sign.Bar)) (λ _. i.filter) xs ts all tt after ys rest

  pub filter_comes_nearer : (xs ys : List Step) (ts after rest : List Token) → (first (is sign.Bar)).sees ts ≡ got tt after →
      (one_more i.filter xs).reads after ≡ got ys rest → length rest < length ts
  filter_comes_nearer xs ys ts after rest = comes_nearer (first (is sign.Bar)) (λ _. i.filter) xs ts tt after ys rest

  pub filter_refuses : (xs : List Step) (ts after : List Token) (all : Read Token (List Step)) (chain : List ErrorKind) →
      (more_filters i xs).reads ts ≡ all →
      (first (is sign.Bar)).sees ts ≡ got tt after → Refused chain ((one_more i.filter xs).reads after ≡ None) →
      Refused chain (all ≡ None)
  unfolding more_filters
  filter_refuses xs ts after all chain = refuses (first (is sign.Bar)) (λ _. i.filter) xs ts all tt after chain

  pub filter_ends : (xs : List Step) (ts rest : List Token) (all : Read Token (List Step)) → (more_filters i xs).reads ts ≡ all →
      ((first (is sign.Bar)).sees ts ≡ None) × (rest ≡ ts) → all ≡ got xs rest
  unfolding more_filters
  filter_ends xs ts rest all = ends (first (is sign.Bar)) (λ _. i.filter) xs ts all rest

pub ruleset bars = (filter_goes_on, filter_comes_nearer, filter_refuses, filter_ends)
