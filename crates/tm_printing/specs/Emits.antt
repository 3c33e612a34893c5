-- What is emitted whatever the records are.
use Rattle.std.specs.Prelude.{◌≡◌, ℕ, List, None, Result, Ok}
use Rattle.tm_values.specs.Val.{Val}
use Rattle.tm_values.specs.Defined.{refusal_of}
use Rattle.tm_values.specs.Records.{RecordData}
use Rattle.tm_values.specs.declared.undefined.UndefinedBehavior.{UndefinedBehavior}
use Rattle.tm_values.specs.declared.undefined.UndefinedUse.TheVariants.{Emission}
use Rattle.tm_values.specs.declared.escape.AutoEscape.{AutoEscape}
use Rattle.tm_output.specs.Targets.{Takes}
use Rattle.tm_output.specs.declared.target.TargetFailed.{TargetFailed}
use Rattle.tm_definitions.specs.Emitted.{emission_verdict, emitted_text, map_ok}
use Rattle.tm_values.specs.Answer.{Answer}

-- No behaviour and no escape refuses to emit the value, and the target took its text.
abbrev pub Emits : {T : Type 0} → (T → List ℕ → T → Type 0) → (T → List ℕ → T → Type 0) → Result (Unit {0}) TargetFailed → AutoEscape →
    RecordData → Val → T → T → Type 0
Emits took stopped answer escape r v old new =
    ((b : UndefinedBehavior) → refusal_of b Emission v ≡ None) × (emission_verdict escape r v ≡ Ok tt) × Takes took stopped answer old (emitted_text escape r v) new

-- the text that is emitted for a value, or the error
abbrev pub emission_answer : AutoEscape → RecordData → Val → Answer (List ℕ)
emission_answer escape r v = map_ok (λ _. emitted_text escape r v) (emission_verdict escape r v)
