-- What an evaluation answered is what its expression means.
use Rattle.std.proofs.Common.{◌≡◌, ◌∙◌, ℕ, List, [], ◌∷◌, Bool, true, false, Option, Result, Ok, Err, length, refl, sym, ap, subst}
use Rattle.tm_values.specs.Answer.{Answer, IsAnswer}
use Rattle.tm_values.specs.Val.{Val}
use Rattle.tm_values.specs.declared.error.ErrorKind.{ErrorKind}
use Rattle.tm_values.specs.declared.error.ErrorKind.TheVariants.{InvalidOperation}
use Rattle.tm_definitions.specs.Mapped.{with_maps}
use Rattle.tm_meaning.specs.Memory.{is_want_of_memory}
use Rattle.tm_meaning.specs.World.{World, Good, Bad, answered, records_of}
use Rattle.tm_meaning.specs.Meaning.{Ending, done, leave, next, fault, left_by, Outcome}
use Rattle.tm_meaning.specs.Runs.{left_of, value_left}
use Rattle.tm_meaning.specs.Machine.{Capture}
use Rattle.tm_output.specs.Counts.{untold}
use Rattle.tm_parts.specs.Halts.{error_of}
use Rattle.tm_parts.specs.declared.halt.Halt.{Halt}
use Rattle.tm_parts.specs.declared.halt.Halt.TheVariants as halt
use Rattle.template_machine.specs.Renders.{answer_by, answer_of, maps_in, Ran, run_as_meant, run_by_writer, run_by_memory}
use Rattle.template_machine.specs.Renders.{Evaluated, value_as_meant, value_by_memory}
use Rattle.template_machine.proofs.Texts.{not_alone}

-- ---------------------------------------------------------------- what a run leaves as a value
value_fault : (e : Ending) (w : World) (chain : List ErrorKind) → answer_by e w ≡ Err chain → value_left e w ≡ Bad chain w
value_fault (done vs) w chain is = absurd (cc is)
value_fault leave w chain is = absurd (cc is)
value_fault next w chain is = absurd (cc is)
value_fault (fault kinds) w chain is = let same : kinds ≡ chain = cc is in ap (λ c. Bad c w) same

value_one : (e : Ending) (w left : World) (us : List Val) (v : Val) → answer_by e w ≡ Ok left → us ≡ left_by e → us ≡ v ∷ [] →
    value_left e w ≡ Good v left
value_one (done vs) w left us v is us_is one =
    let world : w ≡ left = cc is in ap (λ xs. value_left (done xs) w) (sym us_is ∙ one) ∙ ap (λ x. Good v x) world
value_one leave w left us v is us_is one = absurd (cc (us_is, one))
value_one next w left us v is us_is one = absurd (cc (us_is, one))
value_one (fault chain) w left us v is us_is one = absurd (cc is)

value_none : (e : Ending) (w left : World) (us : List Val) → answer_by e w ≡ Ok left → us ≡ left_by e → (length us ≡ 1 → ⊥) →
    value_left e w ≡ Bad (InvalidOperation ∷ []) w
value_none (done []) w left us is us_is many = refl
value_none (done (v ∷ [])) w left us is us_is many = absurd (many (ap length us_is))
value_none (done (v ∷ u ∷ vs)) w left us is us_is many = refl
value_none leave w left us is us_is many = refl
value_none next w left us is us_is many = refl
value_none (fault chain) w left us is us_is many = absurd (cc is)

-- ---------------------------------------------------------------- answers
-- the answer of what makes maps
pub mapped : (stated : Answer Val) (left : World) (result : Result Val (List ErrorKind)) → IsAnswer result stated →
    Evaluated (answered stated left) result
mapped stated left (Ok v) is = value_as_meant (left, ap (λ x. answered x left) is)
mapped stated left (Err chain) is = by_kind (is_want_of_memory chain) refl
  where
    by_kind : (b : Bool) → is_want_of_memory chain ≡ b → Evaluated (answered stated left) (Err chain)
    by_kind true e = value_by_memory e
    by_kind false e = value_as_meant (left, ap (λ x. answered x left) (is (not_alone chain e)))

module _ (m : Outcome) (left : World) where
  abbrev Answers : Result Val (List ErrorKind) → Type 0
  Answers result = Evaluated (maps_in (value_left m.ending m.world)) result

  -- of a run that left one value
  pub evaluated_one : (us : List Val) (v : Val) (result : Result Val (List ErrorKind)) → answer_of m ≡ Ok left → us ≡ left_of m →
      us ≡ v ∷ [] → IsAnswer result (with_maps (records_of left) v) → Answers result
  evaluated_one us v result is us_is one answer =
      subst (λ r. Evaluated (maps_in r) result) (sym (value_one m.ending m.world left us v is us_is one))
      (mapped (with_maps (records_of left) v) left result answer)

  -- of one that left another number of them
  pub evaluated_none : (us : List Val) → answer_of m ≡ Ok left → us ≡ left_of m → (length us ≡ 1 → ⊥) →
      Answers (Err (InvalidOperation ∷ []))
  evaluated_none us is us_is many =
      value_as_meant (m.world, ap maps_in (value_none m.ending m.world left us is us_is many))

  -- of one that failed, with no writer that could
  pub evaluated_failed : (old : List Capture) (why : Halt) → Ran m (Err why) left old untold untold →
      Answers (Err (error_of why))
  evaluated_failed old halt.Writer (run_as_meant is appended counted) = absurd is
  evaluated_failed old halt.Writer (run_by_writer is part counted) = absurd (cc counted)
  evaluated_failed old halt.Writer (run_by_memory chain is memory part counted) = absurd (cc is)
  evaluated_failed old halt.Stuck (run_as_meant is appended counted) = absurd is
  evaluated_failed old halt.Stuck (run_by_writer is part counted) = absurd (cc is)
  evaluated_failed old halt.Stuck (run_by_memory chain is memory part counted) = absurd (cc is)
  evaluated_failed old (halt.Fault kinds) (run_as_meant is appended counted) =
      value_as_meant (m.world, ap maps_in (value_fault m.ending m.world kinds is.0))
  evaluated_failed old (halt.Fault kinds) (run_by_writer is part counted) = absurd (cc is)
  evaluated_failed old (halt.Fault kinds) (run_by_memory chain is memory part counted) =
      let kind : kinds ≡ chain = cc is in value_by_memory (ap is_want_of_memory kind ∙ memory)
