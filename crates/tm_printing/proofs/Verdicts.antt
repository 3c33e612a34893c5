-- Verdicts part by part, and the way through namespaces.
use Rattle.std.proofs.Common.{◌≡◌, ℕ, zero, suc, Bool, true, false, cond, List, ap, ◌∙◌}
use Rattle.std.proofs.Common.{subst, refl, sym, Option, Some, None, Ok, Err}
use Rattle.std.specs.Result.{IsErrAnd}
use Rattle.tm_values.specs.Answer.{Answer, IsAnswer, is_memory_alone, invalid}
use Rattle.tm_values.specs.Records.{RecordData, namespace_at}
use Rattle.tm_values.specs.Val.{Val, Pairs, pairs_of}
use Rattle.tm_values.specs.declared.error.ErrorKind.{ErrorKind}
use Rattle.tm_definitions.specs.Printed.{entered}
use Rattle.tm_definitions.specs.Verdicts.{Verdict, fine, and_then, Way, pairs_verdict, through, namespace_verdict}
use Rattle.tm_definitions.specs.declared.output_format.OutputFormat.{OutputFormat}

pub and_then-fine : (o : Verdict) → and_then o fine ≡ o
and_then-fine (Ok u) = refl
and_then-fine (Err chain) = refl

pub and_then-regroups : (a b c : Verdict) → and_then (and_then a b) c ≡ and_then a (and_then b c)
and_then-regroups (Ok u) b c = refl
and_then-regroups (Err chain) b c = refl

-- an error that a part of the walk answers is the answer of the whole
pub passed : {A : Type 0} (r : Answer A) (e : List ErrorKind) (stated : Answer A) → IsErrAnd r (λ x. x ≡ e) →
    (is_memory_alone e ≡ false → stated ≡ Err e) → IsAnswer r stated
passed (Ok u) e stated is h = absurd is
passed (Err x) e stated is h = subst (λ (y : List ErrorKind). is_memory_alone y ≡ false → stated ≡ Err y) (sym is) h

-- a namespace that is there and not on the way, with a level left
pub namespace-there : (form : OutputFormat) (r : RecordData) (levels below : ℕ) (way : Way) (s n : ℕ) (ps : List (Val × Val)) → levels ≡ suc below →
    namespace_at r s n ≡ Some ps → way n ≡ false →
    namespace_verdict form r levels way s n ≡ pairs_verdict form r (namespace_verdict form r below (through n way)) (pairs_of ps)
namespace-there form r levels below way s n ps more is fresh =
    let held : Pairs → Answer (Unit {0}) = pairs_verdict form r (namespace_verdict form r below (through n way)) in
    ap (λ (l : ℕ). namespace_verdict form r l way s n) more
    ∙ (ap (λ (o : Option (List (Val × Val))). entered o invalid (λ qs. cond (way n) invalid (held qs))) is
    ∙ ap (λ (b : Bool). cond b invalid (held (pairs_of ps))) fresh)

-- on the way it is refused, however many levels are left
pub namespace-on_way : (form : OutputFormat) (r : RecordData) (levels : ℕ) (way : Way) (s n : ℕ) → way n ≡ true →
    namespace_verdict form r levels way s n ≡ invalid
namespace-on_way form r zero way s n there = refl
namespace-on_way form r (suc below) way s n there = by_case (namespace_at r s n) where
  held : Pairs → Answer (Unit {0})
  held = pairs_verdict form r (namespace_verdict form r below (through n way))

  by_case : (o : Option (List (Val × Val))) → entered o invalid (λ qs. cond (way n) invalid (held qs)) ≡ invalid
  by_case None = refl
  by_case (Some ps) = ap (λ (b : Bool). cond b invalid (held (pairs_of ps))) there

-- so is one that isn't there
pub namespace-missing : (form : OutputFormat) (r : RecordData) (levels : ℕ) (way : Way) (s n : ℕ) → namespace_at r s n ≡ None →
    namespace_verdict form r levels way s n ≡ invalid
namespace-missing form r zero way s n is = refl
namespace-missing form r (suc below) way s n is =
    let held : Pairs → Answer (Unit {0}) = pairs_verdict form r (namespace_verdict form r below (through n way)) in
    ap (λ (o : Option (List (Val × Val))). entered o invalid (λ qs. cond (way n) invalid (held qs))) is
