-- What a loop has still to add.
use Rattle.std.proofs.Common.{◌≡◌, ◌∙◌, List, [], ◌∷◌, ◌++◌, true, false, refl, sym, ap, subst, append_assoc}
use Rattle.std.proofs.lemmas.List.{append-nil}
use Rattle.std.specs.Prelude.{Ok, Err}
use Rattle.tm_definitions.specs.Ranges.{given}
use Rattle.tm_definitions.specs.Spread.{joined}
use Rattle.tm_operations.specs.Added.{AddsValues}
use Rattle.tm_values.specs.Answer.{Answer, is_memory_alone}
use Rattle.tm_values.specs.Val.{Val}
use Rattle.tm_values.specs.declared.error.ErrorKind.{ErrorKind}
use Rattle.tm_values.specs.declared.error.ErrorKind.TheVariants.{OutOfMemory}

-- what is still to be added after these
abbrev pub to_add : {A : Type 0} → (Val → Answer (List A)) → List A → List Val → Answer (List A)
to_add f all left = given (joined f left) (λ ys. Ok (all ++ ys))

moved : {A : Type 0} (all xs : List A) (answer : Answer (List A)) →
    given answer (λ ys. Ok ((all ++ xs) ++ ys)) ≡ given (given answer (λ ys. Ok (xs ++ ys))) (λ ys. Ok (all ++ ys))
moved all xs (Ok ys) = ap Ok (append_assoc all xs ys)
moved all xs (Err chain) = refl

module _ {A : Type 0} (f : Val → Answer (List A)) (v : Val) (left rest : List Val) (all all1 : List A) (goal : Answer (List A)) where
  pub more : left ≡ v ∷ rest → to_add f all left ≡ goal → (xs : List A) → f v ≡ Ok xs → all1 ≡ all ++ xs → to_add f all1 rest ≡ goal
  more first so xs given_by same =
      ap (λ zs. given (joined f rest) (λ ys. Ok (zs ++ ys))) same ∙ moved all xs (joined f rest)
      ∙ sym (ap (λ m. given (given m (λ xs. given (joined f rest) (λ ys. Ok (xs ++ ys)))) (λ ys. Ok (all ++ ys))) given_by)
      ∙ sym (ap (to_add f all) first) ∙ so

  pub none : (chain : List ErrorKind) → left ≡ v ∷ rest → to_add f all left ≡ goal → f v ≡ Err chain → goal ≡ Err chain
  none chain first so refused =
      sym so ∙ ap (to_add f all) first
      ∙ ap (λ m. given (given m (λ xs. given (joined f rest) (λ ys. Ok (xs ++ ys)))) (λ ys. Ok (all ++ ys))) refused

pub ended : {A : Type 0} (f : Val → Answer (List A)) (left : List Val) (all : List A) (goal : Answer (List A)) → left ≡ [] →
    to_add f all left ≡ goal → goal ≡ Ok all
ended f left all goal last so = sym so ∙ ap (to_add f all) last ∙ ap Ok (append-nil all)

pub for_memory : {A : Type 0} (chain : List ErrorKind) (stated : Answer A) → chain ≡ OutOfMemory ∷ [] →
    is_memory_alone chain ≡ false → stated ≡ Err chain
for_memory chain stated memory h =
    let e : true ≡ false = subst (λ kinds. is_memory_alone kinds ≡ false) memory h in absurd (cc e)
