-- Lists of blocks and of loaded names grow.
use Rattle.std.proofs.Common.{◌≡◌, ◌≢◌, ◌⊎◌, inl, inr, ℕ, List, [], ◌∷◌, ◌++◌, Some, sym, ap, ◌∙◌, append_assoc}
use Rattle.std.proofs.lemmas.List.{append-nil}
use Rattle.tm_syntax.specs.Named.{Named, find, put}
use Rattle.tm_syntax.proofs.Named.{find_put, find_put_other, same_or_not}
use Rattle.tm_meaning.specs.World.{Card}
use Rattle.tm_meaning.specs.declared.stream.TemplateId.{TemplateId}
use Rattle.tm_meaning.specs.Inheritance.{after_all, with_blocks}
use Rattle.tm_simulation.specs.Kept.{BlocksGrow, NamesGrow}

-- ---------------------------------------------------------------- lists of blocks
same_list : (l : List TemplateId) → Some l ≡ Some (l ++ [])
same_list l = ap (λ (ts : List TemplateId). Some ts) (sym (append-nil l))

pub blocks_same : (bs : Named (List TemplateId)) → BlocksGrow bs bs
blocks_same bs = λ x l found. ([], found ∙ same_list l)

pub blocks_then : (a b c : Named (List TemplateId)) → BlocksGrow a b → BlocksGrow b c → BlocksGrow a c
blocks_then a b c h k = λ x l found.
    let first = h x l found in
    let last = k x (l ++ first.0) first.1 in
    (first.0 ++ last.0, last.1 ∙ ap (λ (ts : List TemplateId). Some ts) (append_assoc l first.0 last.0))

-- a template's block after those of its name
after_by : (t : TemplateId) (x : List ℕ) (ls : Named (List TemplateId)) (y : List ℕ) (l : List TemplateId) → find y ls ≡ Some l →
    (y ≡ x) ⊎ (y ≢ x) →
    (more : List TemplateId) × (find y (put x (after_all t (find x ls)) ls) ≡ Some (l ++ more))
after_by t x ls y l found (inl same) =
    let there : find x ls ≡ Some l = ap (λ z. find z ls) (sym same) ∙ found in
    let all = put x (after_all t (find x ls)) ls in
    (t ∷ [], ap (λ z. find z all) same ∙ find_put x (after_all t (find x ls)) ls ∙ ap (λ o. Some (after_all t o)) there)
after_by t x ls y l found (inr apart) = ([], find_put_other y x apart (after_all t (find x ls)) ls ∙ found ∙ same_list l)

pub blocks_after : (t : TemplateId) (bs : Named Card) (ls : Named (List TemplateId)) → BlocksGrow ls (with_blocks t bs ls)
blocks_after t [] ls = blocks_same ls
blocks_after t (b ∷ bs) ls =
    let first = put b.0 (after_all t (find b.0 ls)) ls in
    blocks_then ls first (with_blocks t bs first) (λ y l found. after_by t b.0 ls y l found (same_or_not y b.0))
    (blocks_after t bs first)

-- ---------------------------------------------------------------- names that are left
pub names_same : (names : List (List ℕ)) → NamesGrow names names
names_same names = ([], sym (append-nil names))

pub names_then : (a b c : List (List ℕ)) → NamesGrow a b → NamesGrow b c → NamesGrow a c
names_then a b c h k = (h.0 ++ k.0, k.1 ∙ ap (λ names. names ++ k.0) h.1 ∙ append_assoc a h.0 k.0)
