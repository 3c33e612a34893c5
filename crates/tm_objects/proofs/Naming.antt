-- The functions of the language, named one after another.
use Rattle.std.proofs.Common.{◌≡◌, ℕ, zero, suc, ◌+◌, List, [], ◌∷◌, Some, drop, sym, ap, ◌∙◌}
use Rattle.std.proofs.Math.Numerals.{add-one}
use Rattle.std.specs.Prelude.{map as each, slice_get}
use Rattle.tm_meaning.specs.World.{Bindings}
use Rattle.tm_meaning.specs.declared.function.GlobalFunction.{GlobalFunction}
use Rattle.tm_syntax.specs.Named.{put}
use Rattle.tm_objects.specs.Language.{language, named_from}
use Rattle.tm_values.specs.Val.{function}

next_named : (own : List (List ℕ × GlobalFunction)) (n m : ℕ) (x : List ℕ) (names : Bindings) → slice_get (each (λ f. f.0) own) n ≡ Some x →
    named_from (suc m) (drop (suc n) own) (put x (function m) names) ≡ named_from m (drop n own) names
next_named [] n m x names h = cc
next_named (f ∷ own) zero m x names h = let same : f.0 ≡ x = cc in ap (λ y. named_from (suc m) own (put y (function m) names)) (sym same)
next_named (f ∷ own) (suc n) m x names h = next_named own n m x names h

-- the function of a number is named, and those from the next number on
pub named_next : (n : ℕ) (x : List ℕ) (names new : Bindings) → slice_get (each (λ f. f.0) language) n ≡ Some x →
    new ≡ put x (function n) names →
    named_from (n + 1) (drop (n + 1) language) new ≡ named_from n (drop n language) names
named_next n x names new h named =
    ap (λ m. named_from m (drop m language) new) (add-one n)
    ∙ ap (named_from (suc n) (drop (suc n) language)) named
    ∙ next_named language n n x names h
