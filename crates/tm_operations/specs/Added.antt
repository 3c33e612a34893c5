-- Appending to a list.
use Rattle.std.specs.Prelude.{◌≡◌, List, ◌++◌, Ok, Err, false}
use Rattle.tm_values.specs.Answer.{Answer, is_memory_alone}

-- The stated items are appended; or it is refused as stated, or with OutOfMemory.
abbrev pub AddsValues : {A : Type 0} → Answer (Unit {0}) → Answer (List A) → List A → List A → Type 0
AddsValues {A = A} (Ok _) stated old new = (xs : List A) × (stated ≡ Ok xs) × (new ≡ old ++ xs)
AddsValues (Err chain) stated old new = is_memory_alone chain ≡ false → stated ≡ Err chain
