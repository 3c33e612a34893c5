-- What is emitted where there is no formatter.
use Rattle.std.proofs.Common.{◌≡◌, ℕ, List, [], ◌∷◌, Option, None, Some, Result, Ok, Err, String, false, refl, ap}
use Rattle.std.specs.Prelude.{string_bytes}
use Rattle.std.specs.declared.alloc.Global.{Global}
use Rattle.tm_values.specs.Answer.{Answer, IsAnswer, is_memory_alone}
use Rattle.tm_values.specs.Defined.{refusal_of, unless}
use Rattle.tm_values.specs.Val.{Val}
use Rattle.tm_values.specs.declared.error.ErrorKind.{ErrorKind}
use Rattle.tm_values.specs.declared.undefined.UndefinedUse.TheVariants.{Emission}
use Rattle.tm_definitions.specs.Emitted.{map_ok}
use Rattle.tm_definitions.specs.Verdicts.{Verdict}
use Rattle.tm_printing.specs.Emits.{emission_answer}
use Rattle.tm_meaning.specs.Memory.{is_want_of_memory}
use Rattle.tm_meaning.specs.World.{World, HostValue, View, answered, emitted, formatted, records_of, where_fine}
use Rattle.tm_objects.specs.Stated.{IsFormatted}
use Rattle.tm_state.specs.Answers.{IsEmitted}

-- OutOfMemory alone is out of memory
not_alone : (chain : List ErrorKind) → is_want_of_memory chain ≡ false → is_memory_alone chain ≡ false
not_alone [] m = refl
not_alone (k ∷ []) m = m
not_alone (k ∷ c ∷ cs) m = refl

fine_is : (r : Result (String Global) (List ErrorKind)) (verdict : Verdict) (t : List ℕ) →
    IsAnswer (map_ok string_bytes r) (map_ok (λ _. t) verdict) → IsFormatted r (where_fine verdict t)
fine_is (Ok text) (Ok u) t h = h
fine_is (Ok text) (Err chain) t h = h
fine_is (Err why) (Ok u) t h = λ m. h (not_alone why m)
fine_is (Err why) (Err chain) t h = λ m. h (not_alone why m)

-- the text of its own that a value is emitted as under the escape that is seen
pub by_escape : (v : Val) (view : View) (r : Result (String Global) (List ErrorKind)) →
    IsAnswer (map_ok string_bytes r) (emission_answer view.escape view.records v) → IsFormatted r (formatted None v view)
by_escape v view r h = fine_is r _ _ h

in_world : (r : Result (String Global) (List ErrorKind)) (answer : Answer (List ℕ)) (w : World) → IsFormatted r answer →
    IsEmitted r (answered answer w) w
in_world (Ok text) answer w h = ap (λ a. answered a w) h
in_world (Err chain) answer w h = λ m. ap (λ a. answered a w) (h m)

-- and in a world under a host
pub by_default : (host : HostValue) (v : Val) (w : World) (r : Result (String Global) (List ErrorKind)) → host.formatter ≡ None →
    refusal_of host.undefined Emission v ≡ None → IsAnswer (map_ok string_bytes r) (emission_answer w.escape (records_of w) v) →
    IsEmitted r (emitted host v w) w
by_default host v w r none defined h = rw (none, defined) (in_world r _ w (fine_is r _ _ h))

-- what isn't refused
pub no_refusal : (found : Option ErrorKind) (u : Unit {0}) → Ok u ≡ unless {A = Unit {0}} found (Ok tt) → found ≡ None
no_refusal None u e = refl
no_refusal (Some kind) u e = absurd (cc e)
