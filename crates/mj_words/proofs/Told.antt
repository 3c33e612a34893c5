-- Texts that a writer got one after the other.
use Rattle.std.proofs.Common.{◌≡◌, ◌<◌, ◌-◌, ◌^◌, ℕ, List, [], ◌∷◌, ◌++◌, length, Option, None, Some, Result, Ok, Err, OnOk, OnErr}
use Rattle.std.proofs.Common.{MatchOption, true, arith, refl, sym, ap, subst, ◌∙◌, append_assoc}
use Rattle.std.specs.Prelude.{codes}
use Rattle.std.specs.Borrow.{Bor}
use Rattle.std.specs.Io.KnownBytes.{Appends}
use Rattle.std.proofs.Math.Seq.{take-length}
use Rattle.std.proofs.lemmas.List.{append-nil}
use Rattle.tm_values.specs.Chain.{causes_of}
use Rattle.tm_meaning.specs.Memory.{is_want_of_memory}
use Rattle.tm_values.specs.declared.error.ErrorKind.{ErrorKind}
use Rattle.tm_values.specs.declared.error.ErrorKind.TheVariants as kind
use Rattle.tm_output.specs.Counts.{Tally, saturating_increment, AppendsBeginning}
use Rattle.tm_output.specs.Pieces.{appends_then, beginning_longer, appends_then_beginning}
use Rattle.mj_words.specs.CommandLine.{Text}
use Rattle.mj_words.specs.Told.{line, causes, message, refusal_message, refusal_status, IsWritten, IsTold}
use Rattle.mj_words.specs.declared.arguments.Refusal.{Refusal}
use Rattle.mj_words.specs.declared.arguments.Refusal.TheVariants.{Usage, OutOfMemory}

-- the chain of a cause, where there is one
abbrev pub chain_in : Option (Bor (List ErrorKind)) → List ErrorKind
chain_in None = []
chain_in (Some cause) = cause.now

pub chain_of_cause : (cause : Option (Bor (List ErrorKind))) (chain : List ErrorKind) →
    MatchOption cause (causes_of chain ≡ []) (λ e. (e.now ≡ causes_of chain) × (length e.now < length chain)) →
    chain_in cause ≡ causes_of chain
chain_of_cause None chain h = sym h
chain_of_cause (Some e) chain h = h.0

risen : (n m : ℕ) → n < 2 ^ 64 - 1 → m ≡ saturating_increment n → m ≡ n → ⊥
risen n m below count same = omega arith

module _ {W : Type 0} (contents : W → Option Text) where
  -- what a text that was written is to the one that it begins
  pub written_first : {E : Type 0} (e : E) (old new : Tally W) (x y : Text) → IsWritten contents (Err e) old new x →
      IsWritten contents (Err e) old new (x ++ y)
  written_first e old new x y (begun, count) = (beginning_longer _ _ x y begun, count)

  pub written_then : {E : Type 0} (r : Result (Unit {0}) E) (old mid new : Tally W) (x y : Text) →
      Appends (contents old.writer) (contents mid.writer) x × (mid.failures ≡ old.failures) → IsWritten contents r mid new y →
      IsWritten contents r old new (x ++ y)
  written_then (Ok _) old mid new x y (first, same) (second, count) = (appends_then _ _ _ x y first second, count ∙ same)
  written_then (Err e) old mid new x y (first, same) (second, count) = (
    appends_then_beginning _ _ _ x y first second,
    count
        ∙ ap saturating_increment same,
  )

  -- what a write of a text answered
  pub text_written : {E : Type 0} (r answer : Result (Unit {0}) E) (old new : Tally W) (bytes x : Text) →
      OnOk r (Appends (contents old.writer) (contents new.writer) bytes) →
      OnOk r (new.failures ≡ old.failures) → AppendsBeginning (contents old.writer) (contents new.writer) bytes →
      OnErr r (new.failures ≡ saturating_increment old.failures) →
      r ≡ answer → bytes ≡ x → IsWritten contents answer old new x
  text_written r answer old new bytes x whole same begun count is spelled =
      subst (λ t. IsWritten contents answer old new t) spelled
      (subst (λ a. IsWritten contents a old new bytes) is (written r whole same begun count))
    where
      written : {E : Type 0} (r : Result (Unit {0}) E) → OnOk r (Appends (contents old.writer) (contents new.writer) bytes) →
          OnOk r (new.failures ≡ old.failures) →
          AppendsBeginning (contents old.writer) (contents new.writer) bytes → OnErr r (new.failures ≡ saturating_increment old.failures) →
          IsWritten contents r old new bytes
      written (Ok _) whole same begun count = (whole, same)
      written (Err e) whole same begun count = (begun, count)

  -- Where the count didn't rise, and could, nothing failed.
  pub is_told : {E : Type 0} (r : Result (Unit {0}) E) (old new : Tally W) (x : Text) → IsWritten contents r old new x →
      IsTold contents old new x
  is_told (Ok _) old new x (whole, same) =
      ((length x, subst (λ t. Appends (contents old.writer) (contents new.writer) t) (sym (take-length x)) whole), λ _ _. whole)
  is_told (Err e) old new x (begun, count) = (begun, λ below same. absurd (risen old.failures new.failures below count same))

  -- Some lines of an error are written, and its next cause and those after it are left.
  pub record Telling (old now : Tally W) (next : Option (Bor (List ErrorKind))) (text : Text) : Type 0 where
    pub told : Text
    pub appended : Appends (contents old.writer) (contents now.writer) told
    pub same : now.failures ≡ old.failures
    pub rest : told ++ causes (chain_in next) ≡ text

  -- the line of the next cause, and those after it, are what is left
  pub told_next : (old now : Tally W) (next : Option (Bor (List ErrorKind))) (text : Text) (t : Telling old now next text)
      (cause : Bor (List ErrorKind)) (kind : ErrorKind) →
      next ≡ Some cause → cause.now ≡ kind ∷ causes_of cause.now →
      t.told ++ (line (codes "cause: ") kind ++ causes (causes_of cause.now)) ≡ text
  told_next old now next text t cause kind some is =
      ap (λ chain. t.told ++ causes chain) (sym (ap chain_in some ∙ is)) ∙ t.rest

  pub told_all : (old now : Tally W) (next : Option (Bor (List ErrorKind))) (text : Text) → Telling old now next text → chain_in next ≡ [] →
      Appends (contents old.writer) (contents now.writer) text × (now.failures ≡ old.failures)
  told_all old now next text t none =
      let whole : t.told ≡ text = sym (append-nil t.told) ∙ (ap (λ chain. t.told ++ causes chain) (sym none) ∙ t.rest) in
      (subst (λ x. Appends (contents old.writer) (contents now.writer) x) whole t.appended, t.same)

  pub tell_next : (old now new : Tally W) (next after : Option (Bor (List ErrorKind))) (text : Text) → Telling old now next text →
      (cause : Bor (List ErrorKind)) (kind : ErrorKind) →
      next ≡ Some cause → cause.now ≡ kind ∷ causes_of cause.now →
      Appends (contents now.writer) (contents new.writer) (line (codes "cause: ") kind) × (new.failures ≡ now.failures) →
      chain_in after ≡ causes_of cause.now → Telling old new after text
  tell_next old now new next after text t cause kind some is (written, count) left = record {
    told = t.told ++ line (codes "cause: ") kind;
    appended = appends_then _ _ _ t.told (line (codes "cause: ") kind) t.appended written;
    same = count ∙ t.same;
    rest = append_assoc t.told (line (codes "cause: ") kind) (causes (chain_in after))
        ∙ (ap (λ chain. t.told ++ (line (codes "cause: ") kind ++ causes chain)) left ∙ told_next old now next text t cause kind some is);
  }

  pub tell_failed : {E : Type 0} (e : E) (old now new : Tally W) (next : Option (Bor (List ErrorKind))) (text : Text) →
      Telling old now next text → (cause : Bor (List ErrorKind)) (kind : ErrorKind) →
      next ≡ Some cause → cause.now ≡ kind ∷ causes_of cause.now → IsWritten contents (Err e) now new (line (codes "cause: ") kind) →
      IsWritten contents (Err e) old new text
  tell_failed e old now new next text t cause kind some is failed =
      let rest = causes (causes_of cause.now) in
      subst (λ x. IsWritten contents (Err e) old new x) (told_next old now next text t cause kind some is)
      (written_then (Err e) old now new t.told (line (codes "cause: ") kind ++ rest) (t.appended, t.same)
      (written_first e now new (line (codes "cause: ") kind) rest failed))

abbrev message_of : List ErrorKind → Text
message_of [] = []
message_of (kind ∷ kinds) = message kind kinds

-- one chain has one message
pub same_message : (chain : List ErrorKind) (kind k : ErrorKind) (kinds ks : List ErrorKind) → chain ≡ kind ∷ kinds → chain ≡ k ∷ ks →
    message kind kinds ≡ message k ks
same_message chain kind k kinds ks e f = ap message_of (sym e ∙ f)

-- what was written where there was nothing to run, at status 1
pub refused_memory : {W : Type 0} (contents : W → Option Text) (refusal : Refusal) (status : ℕ) (old new : Tally W) →
    status ≡ refusal_status refusal →
    IsTold contents old new (refusal_message refusal) → status ≡ 1 →
    (kind : ErrorKind) × (kinds : List ErrorKind) × IsTold contents old new (message kind kinds) × (is_want_of_memory (kind ∷ kinds) ≡ true)
refused_memory contents Usage status old new is told one = absurd (cc)
refused_memory contents OutOfMemory status old new is told one = (kind.OutOfMemory, [], told, refl)
