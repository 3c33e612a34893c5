-- The text of what a call gives is what was meant.
use Rattle.std.proofs.Common.{◌≡◌, ◌∙◌, List, [], ◌∷◌, Result, Ok, Err, String, string_bytes, false, refl, ap}
use Rattle.std.specs.declared.alloc.Global.{Global}
use Rattle.tm_values.specs.Answer.{IsAnswer, is_memory_alone}
use Rattle.tm_values.specs.Val.{Val}
use Rattle.tm_values.specs.declared.error.ErrorKind.{ErrorKind}
use Rattle.tm_definitions.specs.Emitted.{map_ok, text_answer}
use Rattle.tm_meaning.specs.Memory.{is_want_of_memory}
use Rattle.tm_meaning.specs.World.{World, Res, Good, answered, records_of}
use Rattle.tm_state.specs.Answers.{IsEmitted}
use Rattle.template_machine.specs.Renders.{as_text}

-- OutOfMemory alone is out of memory
pub not_alone : (chain : List ErrorKind) → is_want_of_memory chain ≡ false → is_memory_alone chain ≡ false
not_alone [] m = refl
not_alone (k ∷ []) m = m
not_alone (k ∷ c ∷ cs) m = refl

pub printed : (r : Result (String Global) (List ErrorKind)) (meant : Res Val) (v : Val) (w k : World) → w ≡ k → meant ≡ Good v w →
    IsAnswer (map_ok string_bytes r) (text_answer (records_of k) v) → IsEmitted r (as_text meant) w
printed (Ok text) meant v w k same is h =
    ap {A = Res Val} as_text is ∙ ap (λ x. answered (text_answer (records_of x) v) w) same ∙ ap (λ a. answered a w) h
printed (Err chain) meant v w k same is h = λ m. ap {A = Res Val} as_text is
    ∙ ap (λ x. answered (text_answer (records_of x) v) w) same ∙ ap (λ a. answered a w) (h (not_alone chain m))
