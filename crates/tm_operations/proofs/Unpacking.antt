-- What unpacks is what `for` goes over; answers read, after a test for being undefined.
use Rattle.std.proofs.Common.{◌≡◌, ℕ, Bool, true, false, cond, ◌==◌, List, length, Option, None, Some, Ok, Err, refl}
use Rattle.tm_definitions.specs.Iteration.{IsAnswerRead, exactly, namespace_keys, UnpacksAsIterated}
use Rattle.tm_values.specs.Defined.{unless}
use Rattle.tm_values.specs.Answer.{Answer}
use Rattle.tm_values.specs.Records.{namespace_at}
use Rattle.tm_values.specs.Val.{Val, undefined, text, list, map, keywords, exports, macro, loop, namespace}
use Rattle.tm_values.specs.declared.error.ErrorKind.{ErrorKind}

-- the test let it pass
pub passes_read : {A B : Type 0} (kind : Option ErrorKind) (stated : Answer B) (r : Answer A) (read : A →
    B) (t : Answer (Unit {0})) (u : Unit {0}) → t ≡ unless kind (Ok tt) → t ≡ Ok u → IsAnswerRead r read stated →
    IsAnswerRead r read (unless kind stated)
passes_read None stated r read t u e is h = h
passes_read (Some kind) stated r read t u e is h = absurd (cc)

-- a count leaves the items as they are
counted : (e : Bool) (vs ws : List Val) (refusal : Answer (List Val)) (chain : List ErrorKind) → refusal ≡ Err chain →
    cond e (Ok vs) refusal ≡ Ok ws → vs ≡ ws
counted true vs ws refusal chain r h = cc
counted false vs ws refusal chain r h = absurd (cc)

same_items : (n : ℕ) (given given' : Answer (List Val)) (vs ws : List Val) → given ≡ given' → given ≡ Ok vs → exactly n given' ≡ Ok ws →
    vs ≡ ws
same_items n (Ok xs) (Ok ys) vs ws e h k = cc (counted (length ys == n) ys ws _ _ refl k)
same_items n (Ok xs) (Err chain) vs ws e h k = absurd (cc)
same_items n (Err chain) given' vs ws e h k = absurd (cc)

pub unpacks_as_iterated : UnpacksAsIterated
unpacks_as_iterated b r n (undefined silent) vs ws h k = absurd (cc)
unpacks_as_iterated b r n (text s safe) vs ws h k = absurd (cc)
unpacks_as_iterated b r n (list us) vs ws h k = same_items n _ _ vs ws refl h k
unpacks_as_iterated b r n (map ps) vs ws h k = same_items n _ _ vs ws refl h k
unpacks_as_iterated b r n (keywords ps) vs ws h k = same_items n _ _ vs ws refl h k
unpacks_as_iterated b r n (exports ps s) vs ws h k = same_items n _ _ vs ws refl h k
unpacks_as_iterated b r n (macro m) vs ws h k = same_items n _ _ vs ws refl h k
unpacks_as_iterated b r n (loop state i) vs ws h k = same_items n _ _ vs ws refl h k
unpacks_as_iterated b r n (namespace state i) vs ws h k = same_items n (namespace_keys (namespace_at r state i))
    (namespace_keys (namespace_at r state i)) vs ws refl h k
unpacks_as_iterated b r n _ vs ws h k = absurd (cc)
