-- Namespaces that were met: what was found fine is so wherever a check meets it again.
use mathlib.Core.Path.{fun_ext}
use Rattle.std.proofs.Common.{◌≡◌, ◌⊎◌, inl, inr, ℕ, zero, suc, ◌+◌, ◌≤◌, Bool, true, false, cond, nat_eq, List, [], ◌∷◌, length}
use Rattle.std.proofs.Common.{Some, slice_get, refl, sym, ap, subst, ◌∙◌, arith}
use Rattle.std.proofs.lemmas.Bool.{eq-eqb, ne_eqb, cases_eq}
use Rattle.tm_values.specs.Records.{RecordData}
use Rattle.tm_values.specs.Val.{Val}
use Rattle.tm_definitions.specs.Verdicts.{Way, NamespaceVerdicts, fine, through, namespace_verdict}
use Rattle.tm_definitions.specs.declared.output_format.OutputFormat.{OutputFormat}
use Rattle.tm_printing.proofs.Verdicts.{namespace-there}
use Rattle.tm_printing.specs.Unchecked.{among, AllFine, Settled, AllNew, mark_of, if_unmet, unmet, one_each}
use Rattle.tm_printing.specs.declared.check.Mark.{Mark}
use Rattle.tm_printing.specs.declared.check.Mark.TheVariants as mark

-- ---- numbers

pub among_here : (n k : ℕ) (ns : List ℕ) → n ≡ k → among (n ∷ ns) k ≡ true
among_here n k ns same = ap (λ (b : Bool). cond b true (among ns k)) (eq-eqb n k same)

pub among_other : (n k : ℕ) (ns : List ℕ) → (n ≡ k → ⊥) → among (n ∷ ns) k ≡ among ns k
among_other n k ns other = ap (λ (b : Bool). cond b true (among ns k)) (ne_eqb n k other)

pub among_more : (n k : ℕ) (ns : List ℕ) → among ns k ≡ true → among (n ∷ ns) k ≡ true
among_more n k ns there = by_test (nat_eq n k) where
  by_test : (b : Bool) → cond b true (among ns k) ≡ true
  by_test true = refl
  by_test false = there

no_both : (b : Bool) → b ≡ true → b ≡ false → ⊥
no_both b h k = absurd (cc (h, k))

-- what isn't the first and not among the others
among_neither : (n k : ℕ) (ns : List ℕ) → among (n ∷ ns) k ≡ false → (n ≡ k → ⊥) × (among ns k ≡ false)
among_neither n k ns h =
    let other : n ≡ k → ⊥ = λ same. no_both (among (n ∷ ns) k) (among_here n k ns same) h in
    (other, sym (among_other n k ns other) ∙ h)

neither_among : (n k : ℕ) (ns : List ℕ) → (n ≡ k → ⊥) → among ns k ≡ false → among (n ∷ ns) k ≡ false
neither_among n k ns other h = among_other n k ns other ∙ h

-- ---- open ones and fine ones

pub new_apart : (fines around : List ℕ) → AllNew fines around → (k : ℕ) → among fines k ≡ true → among around k ≡ false
new_apart fines [] h k there = refl
new_apart fines (n ∷ around) h k there =
    neither_among n k around (λ same. no_both (among fines k) there (subst (λ (m : ℕ). among fines m ≡ false) same h.0))
    (new_apart fines around h.1.1 k there)

-- one that is found fine is no longer open
pub new_more : (n : ℕ) (fines around : List ℕ) → among around n ≡ false → AllNew fines around → AllNew (n ∷ fines) around
new_more n fines [] apart h = tt
new_more n fines (m ∷ around) apart h =
    let parts = among_neither m n around apart in
    (neither_among n m fines (λ same. parts.0 (sym same)) h.0, (h.1.0, new_more n fines around parts.1 h.1.1))

-- a way that goes on through one of them keeps apart from those found fine before it
goes_apart : (n : ℕ) (ns : List ℕ) (way : Way) → among ns n ≡ false → ((k : ℕ) → among (n ∷ ns) k ≡ true → way k ≡ false)
    → (k : ℕ) → among ns k ≡ true → through n way k ≡ false
goes_apart n ns way new free k there =
    let other : n ≡ k → ⊥ = λ same. no_both (among ns k) there (subst (λ (m : ℕ). among ns m ≡ false) same new) in
    ap (λ (b : Bool). cond b true (way k)) (ne_eqb n k other) ∙ free k (among_more n k ns there)

first_or_other : (r : RecordData) (n : ℕ) (ns : List ℕ) (inside : NamespaceVerdicts) → inside r.state n ≡ fine → AllFine r ns inside
    → AllFine r (n ∷ ns) inside
first_or_other r n ns inside here others k there = by_case (cases_eq n k) where
  by_case : (n ≡ k) ⊎ (n ≡ k → ⊥) → inside r.state k ≡ fine
  by_case (inl same) = subst (λ (m : ℕ). inside r.state m ≡ fine) same here
  by_case (inr other) = others k (sym (among_other n k ns other) ∙ there)

-- What was found fine is fine at each place to which no way leads through it, where as many levels
-- are left.
pub settled_fine : (form : OutputFormat) (r : RecordData) (ns : List ℕ) (levels : ℕ) (way : Way) → Settled form r ns → length ns ≤ levels
    → ((k : ℕ) → among ns k ≡ true → way k ≡ false) → AllFine r ns (namespace_verdict form r levels way)
settled_fine form r [] levels way settled enough free = λ k there. absurd (cc there)
settled_fine form r (n ∷ ns) zero way settled enough free = absurd (omega arith)
settled_fine form r (n ∷ ns) (suc below) way settled enough free =
    let inside = namespace_verdict form r below (through n way) in
    let apart = goes_apart n ns way settled.0 free in
    let here : namespace_verdict form r (suc below) way r.state n ≡ fine =
    namespace-there form r (suc below) below way r.state n settled.1.0.0 refl settled.1.0.1.0 (free n (among_here n n ns refl))
    ∙ settled.1.0.1.1 inside (settled_fine form r ns below (through n way) settled.1.1 (omega arith) apart) in
    first_or_other r n ns (namespace_verdict form r (suc below) way) here
    (settled_fine form r ns (suc below) way settled.1.1 (omega arith) (λ m h. free m (among_more n m ns h)))

-- ---- marks

pub unmet_free : (fines around : List ℕ) (n : ℕ) → mark_of fines around n ≡ mark.Unmet → (among fines n ≡ false) × (among around n ≡ false)
unmet_free fines around n h = by_tests (among fines n) (among around n) h where
  by_tests : (a b : Bool) → cond a mark.Fine (cond b mark.Open mark.Unmet) ≡ mark.Unmet → (a ≡ false) × (b ≡ false)
  by_tests true b h = absurd (cc h)
  by_tests false true h = absurd (cc h)
  by_tests false false h = (refl, refl)

pub open_among : (fines around : List ℕ) (n : ℕ) → mark_of fines around n ≡ mark.Open → among around n ≡ true
open_among fines around n h = by_tests (among fines n) (among around n) h where
  by_tests : (a b : Bool) → cond a mark.Fine (cond b mark.Open mark.Unmet) ≡ mark.Open → b ≡ true
  by_tests true b h = absurd (cc h)
  by_tests false true h = refl
  by_tests false false h = absurd (cc h)

pub fine_among : (fines around : List ℕ) (n : ℕ) → mark_of fines around n ≡ mark.Fine → among fines n ≡ true
fine_among fines around n h = by_tests (among fines n) (among around n) h where
  by_tests : (a b : Bool) → cond a mark.Fine (cond b mark.Open mark.Unmet) ≡ mark.Fine → a ≡ true
  by_tests true b h = refl
  by_tests false true h = absurd (cc h)
  by_tests false false h = absurd (cc h)

pub is_opened : (fines around : List ℕ) (n : ℕ) → among fines n ≡ false → mark_of fines (n ∷ around) n ≡ mark.Open
is_opened fines around n new =
    ap (λ (b : Bool). cond b mark.Fine (cond (among (n ∷ around) n) mark.Open mark.Unmet)) new
    ∙ ap (λ (b : Bool). cond b mark.Open mark.Unmet) (among_here n n around refl)

pub else_opened : (fines around : List ℕ) (n k : ℕ) → (n ≡ k → ⊥) → mark_of fines (n ∷ around) k ≡ mark_of fines around k
else_opened fines around n k other =
    ap (λ (b : Bool). cond (among fines k) mark.Fine (cond b mark.Open mark.Unmet)) (among_other n k around other)

pub is_closed : (fines around : List ℕ) (n : ℕ) → mark_of (n ∷ fines) around n ≡ mark.Fine
is_closed fines around n = ap (λ (b : Bool). cond b mark.Fine (cond (among around n) mark.Open mark.Unmet)) (among_here n n fines refl)

pub else_closed : (fines around : List ℕ) (n k : ℕ) → (n ≡ k → ⊥) → mark_of (n ∷ fines) around k ≡ mark_of fines (n ∷ around) k
else_closed fines around n k other =
    ap (λ (b : Bool). cond b mark.Fine (cond (among around k) mark.Open mark.Unmet)) (among_other n k fines other)
    ∙ sym (else_opened fines around n k other)

-- ---- how many weren't met

-- what one of them counts where it is marked so
abbrev held : (List (Val × Val) → ℕ) → List (List (Val × Val)) → ℕ → Mark → ℕ
held size [] n m = 0
held size (ps ∷ nss) zero m = if_unmet m (size ps)
held size (ps ∷ nss) (suc n) m = held size nss n m

pub met_one : (size : List (Val × Val) → ℕ) (nss : List (List (Val × Val))) (n : ℕ) (old new : ℕ → Mark)
    → ((k : ℕ) → if_unmet (new n) k ≡ 0) → ((k : ℕ) → (n ≡ k → ⊥) → new k ≡ old k)
    → unmet size nss old ≡ unmet size nss new + held size nss n (old n)
met_one size [] n old new met same = omega arith
met_one size (ps ∷ nss) zero old new met same =
    let none = met (size ps) in
    let others : unmet size nss (λ n. new (suc n)) ≡ unmet size nss (λ n. old (suc n)) =
    ap (unmet size nss) (fun_ext (λ (k : ℕ). same (suc k) (λ e. absurd (omega arith)))) in
    omega (arith, none, others)
met_one size (ps ∷ nss) (suc n) old new met same =
    let first : if_unmet (new 0) (size ps) ≡ if_unmet (old 0) (size ps) =
    ap (λ (m : Mark). if_unmet m (size ps)) (same 0 (λ e. absurd (omega arith))) in
    let others = met_one size nss n (λ k. old (suc k)) (λ k. new (suc k)) met (λ k other. same (suc k) (λ e. other (omega arith))) in
    omega (arith, first, others)

pub held_there : (size : List (Val × Val) → ℕ) (nss : List (List (Val × Val))) (n : ℕ) (ps : List (Val × Val))
    → slice_get nss n ≡ Some ps → held size nss n mark.Unmet ≡ size ps
held_there size [] n ps is = absurd (cc is)
held_there size (qs ∷ nss) zero ps is =
    let same : qs ≡ ps = cc is in
    ap size same
held_there size (qs ∷ nss) (suc n) ps is = held_there size nss n ps is

held_open : (size : List (Val × Val) → ℕ) (nss : List (List (Val × Val))) (n : ℕ) → held size nss n mark.Open ≡ 0
held_open size [] n = refl
held_open size (ps ∷ nss) zero = refl
held_open size (ps ∷ nss) (suc n) = held_open size nss n

-- one that wasn't met is opened
pub unmet_opened : (size : List (Val × Val) → ℕ) (nss : List (List (Val × Val))) (n : ℕ) (ps : List (Val × Val)) (old new : ℕ → Mark)
    → slice_get nss n ≡ Some ps → old n ≡ mark.Unmet → new n ≡ mark.Open → ((k : ℕ) → (n ≡ k → ⊥) → new k ≡ old k)
    → unmet size nss old ≡ unmet size nss new + size ps
unmet_opened size nss n ps old new is before now same =
    let off = met_one size nss n old new (λ k. ap (λ (m : Mark). if_unmet m k) now) same in
    let part : held size nss n (old n) ≡ size ps = ap (held size nss n) before ∙ held_there size nss n ps is in
    omega (arith, off, part)

-- one that was open is closed
pub unmet_closed : (size : List (Val × Val) → ℕ) (nss : List (List (Val × Val))) (n : ℕ) (old new : ℕ → Mark)
    → old n ≡ mark.Open → new n ≡ mark.Fine → ((k : ℕ) → (n ≡ k → ⊥) → new k ≡ old k) → unmet size nss old ≡ unmet size nss new
unmet_closed size nss n old new before now same =
    let off = met_one size nss n old new (λ k. ap (λ (m : Mark). if_unmet m k) now) same in
    let part : held size nss n (old n) ≡ 0 = ap (held size nss n) before ∙ held_open size nss n in
    omega (arith, off, part)

-- whatever is marked fine
pub unmet_fine : (size : List (Val × Val) → ℕ) (nss : List (List (Val × Val))) (n : ℕ) (old new : ℕ → Mark)
    → new n ≡ mark.Fine → ((k : ℕ) → (n ≡ k → ⊥) → new k ≡ old k) → unmet size nss new ≤ unmet size nss old
unmet_fine size nss n old new now same =
    let off = met_one size nss n old new (λ k. ap (λ (m : Mark). if_unmet m k) now) same in
    omega (arith, off)

pub none_met : (nss : List (List (Val × Val))) → unmet one_each nss (λ n. mark.Unmet) ≡ length nss
none_met [] = refl
none_met (ps ∷ nss) = omega (arith, none_met nss)
