-- A text of which a target took a beginning.
use Rattle.std.proofs.Common.{◌≡◌, ℕ, ◌+◌, List, [], ◌++◌, length, take, Result, Ok, Err, refl, sym, ap, subst, ◌∙◌}
use Rattle.std.proofs.Common.{append-nil, append_assoc}
use Rattle.std.proofs.Math.Seq.{take-append_seam, take-append-add}
use Rattle.tm_output.specs.Targets.{Laws}
use Rattle.tm_printing.specs.Left.{Writes}
use Rattle.tm_printing.specs.declared.rest.Unwritten.{Unwritten}
use Rattle.tm_printing.specs.declared.rest.Unwritten.TheVariants as unwritten

-- what the target took of the whole text from the start on, and what is left
pub record Begun {T : Type 0} (took : T → List ℕ → T → Type 0) (start : T) (whole : List ℕ) (now : T) (left : List ℕ) : Type 0 where
  pub done : List ℕ
  pub taken : took start done now
  pub is : whole ≡ done ++ left

module _ {T : Type 0} (took stopped : T → List ℕ → T → Type 0) (laws : Laws took stopped) where
  -- at the start all is left
  pub none_taken : (a : T) (whole : List ℕ) → Begun took a whole a whole
  none_taken a whole = record { done = []; taken = laws.nothing a; is = refl }

  -- the next piece is taken
  pub past : (a b c : T) (whole left piece after : List ℕ) → Begun took a whole b left → left ≡ piece ++ after → took b piece c
      → Begun took a whole c after
  past a b c whole left piece after begun parts taken = record {
    done = begun.done ++ piece;
    taken = laws.then_took a b c begun.done piece begun.taken taken;
    is = begun.is ∙ (ap (λ (l : List ℕ). begun.done ++ l) parts ∙ sym (append_assoc begun.done piece after));
  }

  -- the target stops within the next piece
  pub stops : (a b c : T) (whole left piece after : List ℕ) → Begun took a whole b left → left ≡ piece ++ after → stopped b piece c
      → stopped a whole c
  stops a b c whole left piece after begun parts part =
      let within : stopped a (begun.done ++ piece) c = laws.then_stopped a b c begun.done piece begun.taken part in
      let whole_is : whole ≡ (begun.done ++ piece) ++ after =
      begun.is ∙ (ap (λ (l : List ℕ). begun.done ++ l) parts ∙ sym (append_assoc begun.done piece after)) in
      subst (λ (l : List ℕ). stopped a l c) (sym whole_is) (laws.longer a c (begun.done ++ piece) after within)

  -- nothing is left
  pub ended : (a b : T) (whole left : List ℕ) → Begun took a whole b left → left ≡ [] → took a whole b
  ended a b whole left begun none =
      let whole_is : whole ≡ begun.done = begun.is ∙ (ap (λ (l : List ℕ). begun.done ++ l) none ∙ append-nil begun.done) in
      subst (λ (l : List ℕ). took a l b) (sym whole_is) begun.taken

  -- what was taken is a beginning
  pub beginning : (a b : T) (whole left : List ℕ) → Begun took a whole b left → (n : ℕ) × took a (take n whole) b
  beginning a b whole left begun =
      let part : take (length begun.done) whole ≡ begun.done =
      ap (λ (l : List ℕ). take (length begun.done) l) begun.is ∙ take-append_seam begun.done left in
      (length begun.done, subst (λ (l : List ℕ). took a l b) (sym part) begun.taken)

  -- a piece is taken, and then the rest is written
  pub after_it : {U : Type 0} (a b c : T) (text piece rest : List ℕ) (r : Result U Unwritten) → took a piece b → text ≡ piece ++ rest
      → Writes took stopped r b rest c → Writes took stopped r a text c
  after_it a b c text piece rest (Ok u) taken parts written =
      subst (λ (l : List ℕ). took a l c) (sym parts) (laws.then_took a b c piece rest taken written)
  after_it a b c text piece rest (Err unwritten.Target) taken parts written =
      subst (λ (l : List ℕ). stopped a l c) (sym parts) (laws.then_stopped a b c piece rest taken written)
  after_it a b c text piece rest (Err unwritten.Memory) taken parts written =
      let part : take (length piece + written.0) text ≡ piece ++ take written.0 rest =
      ap (λ (l : List ℕ). take (length piece + written.0) l) parts ∙ take-append-add piece rest written.0 in (
        length piece + written.0,
        subst (λ (l : List ℕ). took a l c) (sym part)
            (laws.then_took a b c piece (take written.0 rest) taken written.1),
      )
