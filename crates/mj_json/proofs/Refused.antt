-- What a part that is made or refused says of the whole.
use Rattle.std.proofs.Common.{◌≡◌, Option, Some, option_map, Result, Ok, Err, MatchResult, IsErrAnd, inl, inr, sym, ap, ◌∙◌}
use Rattle.mj_words.specs.declared.arguments.Refusal.{Refusal}
use Rattle.mj_words.specs.declared.arguments.Refusal.TheVariants.{OutOfMemory}
use Rattle.mj_json.specs.Json.{IsRefusal, IsConverted}

-- it is made, or there is no memory
pub made : {A : Type 0} (r : Result A Refusal) (x : A) → MatchResult r (λ v. v ≡ x) (λ e. e ≡ OutOfMemory) → IsConverted r (Some x)
made (Ok v) x h = ap Some (sym h)
made (Err e) x h = inl h

-- a part is refused, and so the whole
pub refused : {A B : Type 0} (r : Result B Refusal) (part : Option A) (f : A → B) (e : Refusal) → IsErrAnd r (λ x. x ≡ e) → IsRefusal e part
    → IsConverted r (option_map f part)
refused (Ok v) part f e is refusal = absurd is
refused (Err x) part f e is (inl memory) = inl (is ∙ memory)
refused (Err x) part f e is (inr (usage, none)) = inr (is ∙ usage, ap (option_map f) none)
