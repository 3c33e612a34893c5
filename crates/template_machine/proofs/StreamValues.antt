-- What the evaluation of a stream answered.
use Rattle.std.proofs.Common.{◌≡◌, ℕ, List, [], ◌∷◌, Option, Result, Err, length, refl, sym, ap, subst, ◌∙◌, inl, inr}
use Rattle.tm_values.specs.Answer.{IsAnswer}
use Rattle.tm_values.specs.Val.{Val}
use Rattle.tm_values.specs.declared.error.ErrorKind.{ErrorKind}
use Rattle.tm_values.specs.declared.error.ErrorKind.TheVariants.{InvalidOperation}
use Rattle.tm_definitions.specs.Mapped.{with_maps}
use Rattle.tm_meaning.specs.Memory.{is_want_of_memory}
use Rattle.tm_meaning.specs.Machine.{Capture, Finished, Failed}
use Rattle.tm_meaning.specs.World.{World, Bad, answered, records_of}
use Rattle.tm_output.specs.Counts.{untold}
use Rattle.tm_parts.specs.Halts.{error_of}
use Rattle.tm_parts.specs.declared.halt.Halt.{Halt}
use Rattle.tm_parts.specs.declared.halt.Halt.TheVariants as halt
use Rattle.tm_objects.specs.Stated.{StatedObjects}
use Rattle.template_machine.specs.Environment.{TemplateValue}
use Rattle.template_machine.specs.Renders.{Evaluated, IsValue, StreamEnds, StreamRan, maps_in, value_as_meant, value_at, value_by_memory}
use Rattle.template_machine.specs.Renders.{StreamValue, value_streamed, value_without_memory}
use Rattle.template_machine.specs.Renders.{stream_ran, stream_by_writer, stream_by_memory}
use Rattle.template_machine.proofs.Evaluations.{mapped}

module _ {O : Type 0} (stated : O → StatedObjects) (t : TemplateValue O) (w left : World) (old : List Capture) (none : old ≡ []) where
  abbrev Came : Result (List Capture) Halt → Type 0
  Came result = StreamRan stated t w result left old untold untold

  -- of a run that failed, with no writer that could
  pub value_failed : (why : Halt) → Came (Err why) → StreamValue stated t w (Err (error_of why))
  value_failed halt.Writer (stream_ran text ends appended counted) = absurd ends
  value_failed halt.Writer (stream_by_writer e part counted) = absurd (cc counted)
  value_failed halt.Writer (stream_by_memory chain e memory part counted) = absurd (cc e)
  value_failed halt.Stuck (stream_ran text ends appended counted) = absurd ends
  value_failed halt.Stuck (stream_by_writer e part counted) = absurd (cc e)
  value_failed halt.Stuck (stream_by_memory chain e memory part counted) = absurd (cc e)
  value_failed (halt.Fault kinds) (stream_ran text ends appended counted) =
      value_streamed text (inr (kinds, left, subst (λ ks. StreamEnds stated t ks w text (Failed kinds left)) none ends, refl))
  value_failed (halt.Fault kinds) (stream_by_writer e part counted) = absurd (cc e)
  value_failed (halt.Fault kinds) (stream_by_memory chain e memory part counted) =
      let kind : kinds ≡ chain = cc e in value_without_memory (ap is_want_of_memory kind ∙ memory)

  -- of one that left one value
  one_by : (us : List Val) (new : List Capture) (v : Val) (result : Result Val (List ErrorKind)) (text : List ℕ) → us ≡ v ∷ [] →
      StreamEnds stated t [] w text (Finished us new left) → Evaluated (answered (with_maps (records_of left) v) left) result →
      StreamValue stated t w result
  one_by us new v result text one ends (value_as_meant is) =
      value_streamed text (inl (us, new, left, ends, subst (λ vs. IsValue result (maps_in (value_at vs left))) (sym one) is))
  one_by us new v result text one ends (value_by_memory memory) = value_without_memory memory

  abbrev Ended : List Val → List Capture → Type 0
  Ended us new = (text : List ℕ) × StreamEnds stated t old w text (Finished us new left)

  over_none : (us : List Val) (new : List Capture) (text : List ℕ) → StreamEnds stated t old w text (Finished us new left) →
      StreamEnds stated t [] w text (Finished us new left)
  over_none us new text ends = subst (λ ks. StreamEnds stated t ks w text (Finished us new left)) none ends

  pub value_one : (us : List Val) (new : List Capture) (v : Val) (result : Result Val (List ErrorKind)) → us ≡ v ∷ [] →
      IsAnswer result (with_maps (records_of left) v) → Ended us new → StreamValue stated t w result
  value_one us new v result one is (text, ends) =
      one_by us new v result text one (over_none us new text ends) (mapped (with_maps (records_of left) v) left result is)

  -- of one that left another number of them
  none_at : (us : List Val) → (length us ≡ 1 → ⊥) → value_at us left ≡ Bad (InvalidOperation ∷ []) left
  none_at [] many = refl
  none_at (v ∷ []) many = absurd (many refl)
  none_at (v ∷ u ∷ vs) many = refl

  pub value_none : (us : List Val) (new : List Capture) → (length us ≡ 1 → ⊥) → Ended us new →
      StreamValue stated t w (Err (InvalidOperation ∷ []))
  value_none us new many (text, ends) =
      value_streamed text (inl (us, new, left, over_none us new text ends, (left, ap maps_in (none_at us many))))
