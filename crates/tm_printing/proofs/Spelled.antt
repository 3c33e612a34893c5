-- A target that takes what stands for the bytes of a text keeps the laws of targets for that text.
use Rattle.std.proofs.Common.{◌≡◌, ℕ, List, [], ◌∷◌, ◌++◌, flat_map, refl, ap, sym, subst, ◌∙◌}
use Rattle.std.proofs.lemmas.Grind.{flat_map-append}
use Rattle.tm_output.specs.Targets.{Laws}

-- by what stands for the bytes
abbrev pub spelled : {T : Type 0} → (ℕ → List ℕ) → (T → List ℕ → T → Type 0) → T → List ℕ → T → Type 0
spelled f took a s b = took a (flat_map f s) b

pub spelled_laws : {T : Type 0} {took stopped : T → List ℕ → T → Type 0} (f : ℕ → List ℕ) → Laws took stopped →
    Laws (spelled f took) (spelled f stopped)
spelled_laws {T} {took} {stopped} f laws = record {
  nothing = laws.nothing;
  then_took = λ a b c s t first second. subst (λ (l : List ℕ). took a l c) (sym (flat_map-append f s t))
      (laws.then_took a b c (flat_map f s) (flat_map f t) first second);
  then_stopped = λ a b c s t first second. subst (λ (l : List ℕ). stopped a l c) (sym (flat_map-append f s t))
      (laws.then_stopped a b c (flat_map f s) (flat_map f t) first second);
  longer = λ a b s t part. subst (λ (l : List ℕ). stopped a l b) (sym (flat_map-append f s t))
      (laws.longer a b (flat_map f s) (flat_map f t) part);
}

-- to spell each byte in two steps is to spell the text in two steps
pub in_two_steps : (f g h : ℕ → List ℕ) → ((b : ℕ) → h b ≡ flat_map f (g b)) → (s : List ℕ) → flat_map h s ≡ flat_map f (flat_map g s)
in_two_steps f g h both [] = refl
in_two_steps f g h both (b ∷ s) = ap (λ (l : List ℕ). l ++ flat_map h s) (both b)
    ∙ (ap (λ (l : List ℕ). flat_map f (g b) ++ l) (in_two_steps f g h both s) ∙ sym (flat_map-append f (g b) (flat_map g s)))
