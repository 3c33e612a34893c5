-- Code with its cache numbers has the chunks and targets of the code before it, and leads where that leads.
use Rattle.std.proofs.Common.{◌≡◌, ℕ, zero, suc, List, [], ◌∷◌, length, Option, Some, None, Bool, refl, sym, ap, ◌∙◌, subst}
use Rattle.std.specs.Prelude.{pos, slice_get}
use Rattle.tm_values.specs.Val.{number}
use Rattle.tm_trees.specs.Instructions.{Instruction}
use Rattle.tm_trees.specs.Instructions.instructions as i
use Rattle.tm_syntax.specs.Blocks.{StreamTree, fragment_of}
use Rattle.tm_syntax.specs.CacheNumbers.{number_in, joined, numbered_from, numbered}
use Rattle.tm_syntax.specs.Entries.{name_count}
use Rattle.tm_syntax.specs.Fragments.{name_list, whole_labels, assembled}
use Rattle.tm_shapes.specs.Accepts.{entry_seed, entry_seeds_from}
use Rattle.tm_shapes.specs.Flows.{Site, flow_of}
use Rattle.tm_shapes.specs.Shapes.{Shape}
use Rattle.tm_accepted.specs.Sites.{Piece, ordinary, closure_of_macro, names_of_macro, row_start, one_of_row, pieces}
use Rattle.tm_accepted.proofs.Chunks.{Chunk, alone, drops, joins, builds_one, flat}
use Rattle.tm_accepted.proofs.Chunks.{flat_pieces, AllGood, Chunked, chunked, chunked_none, chunked_one, chunked_both}
use Rattle.tm_accepted.proofs.Targets.{AllTargets, Free, whole_targets}
use Rattle.tm_accepted.proofs.Tidied.{tree_tidy}

-- ---------------------------------------------------------------- what numbers leave as it is
pub same_long : (fs ts : List (List ℕ)) (is : List Instruction) → length (numbered_from fs ts is) ≡ length is
same_long fs ts [] = refl
same_long fs ts (i.ApplyFilter x n k ∷ is) = ap suc (same_long (joined x fs) ts is)
same_long fs ts (i.PerformTest x n k ∷ is) = ap suc (same_long fs (joined x ts) is)
same_long fs ts (x ∷ is) = ap suc (same_long fs ts is)

pub same_flow : (fs ts : List (List ℕ)) (is : List Instruction) (n : ℕ) (x y : Instruction) (at : Site) (s : Shape) → slice_get is n ≡ Some x →
    slice_get (numbered_from fs ts is) n ≡ Some y → flow_of at x s ≡ flow_of at y s
same_flow fs ts [] n x y at s e h = absurd (cc e)
same_flow fs ts (i.ApplyFilter z m k ∷ is) zero x y at s e h =
    let one : i.ApplyFilter z m k ≡ x = cc e in
    let two : i.ApplyFilter z m (number_in z fs) ≡ y = cc h in
    sym (ap (λ u. flow_of at u s) one) ∙ ap (λ u. flow_of at u s) two
same_flow fs ts (i.ApplyFilter z m k ∷ is) (suc n) x y at s e h = same_flow (joined z fs) ts is n x y at s e h
same_flow fs ts (i.PerformTest z m k ∷ is) zero x y at s e h =
    let one : i.PerformTest z m k ≡ x = cc e in
    let two : i.PerformTest z m (number_in z ts) ≡ y = cc h in
    sym (ap (λ u. flow_of at u s) one) ∙ ap (λ u. flow_of at u s) two
same_flow fs ts (i.PerformTest z m k ∷ is) (suc n) x y at s e h = same_flow fs (joined z ts) is n x y at s e h
same_flow fs ts (z ∷ is) zero x y at s e h = let same : x ≡ y = cc (sym e ∙ h) in ap (λ u. flow_of at u s) same
same_flow fs ts (z ∷ is) (suc n) x y at s e h = same_flow fs ts is n x y at s e h

pub same_seeds : (fs ts : List (List ℕ)) (before : Option ℕ) (is : List Instruction) →
    entry_seeds_from before (numbered_from fs ts is) ≡ entry_seeds_from before is
same_seeds fs ts before [] = refl
same_seeds fs ts before (i.ApplyFilter x n k ∷ is) = same_seeds (joined x fs) ts None is
same_seeds fs ts before (i.PerformTest x n k ∷ is) = same_seeds fs (joined x ts) None is
same_seeds fs ts before (i.BuildMacro x place caller ∷ is) = ap (entry_seed before place) (same_seeds fs ts None is)
same_seeds fs ts before (i.LoadConst v ∷ is) = same_seeds fs ts (Some (name_count v)) is
same_seeds fs ts before (x ∷ is) = same_seeds fs ts None is

same_targets : (P : ℕ → Type 0) (fs ts : List (List ℕ)) (is : List Instruction) → AllTargets P is → AllTargets P (numbered_from fs ts is)
same_targets P fs ts [] h = tt
same_targets P fs ts (i.ApplyFilter x n k ∷ is) h = (tt, same_targets P (joined x fs) ts is h.1)
same_targets P fs ts (i.PerformTest x n k ∷ is) h = (tt, same_targets P fs (joined x ts) is h.1)
same_targets P fs ts (x ∷ is) h = (h.0, same_targets P fs ts is h.1)

drop_chunk : Chunked (i.Swap ∷ i.DiscardTop ∷ []) (ordinary ∷ ordinary ∷ [])
drop_chunk = record { chunks = drops ∷ []; good = (tt, tt); code = refl; parts = refl }

join_chunk : Chunked (i.Swap ∷ i.LoadConst (number (pos 1)) ∷ i.Add ∷ []) (row_start ∷ one_of_row ∷ ordinary ∷ [])
join_chunk = record { chunks = joins ∷ []; good = (tt, tt); code = refl; parts = refl }

build_chunk : (xs : List (List ℕ)) (x : List ℕ) (n : ℕ) (caller : Bool) →
    Chunked (i.GetClosure ∷ i.LoadConst (name_list xs) ∷ i.BuildMacro x n caller ∷ []) (closure_of_macro ∷ names_of_macro ∷ ordinary ∷ [])
build_chunk xs x n caller = record { chunks = builds_one xs x n caller ∷ []; good = (tt, tt); code = refl; parts = refl }

same_chunks : (fs ts : List (List ℕ)) (cs : List Chunk) → AllGood cs → Chunked (numbered_from fs ts (flat cs)) (flat_pieces cs)
same_chunks fs ts [] h = chunked_none
same_chunks fs ts (alone (i.ApplyFilter x n k) ∷ cs) h =
    chunked_one (i.ApplyFilter x n (number_in x fs)) (numbered_from (joined x fs) ts (flat cs)) (flat_pieces cs) refl
    (same_chunks (joined x fs) ts cs h.1)
same_chunks fs ts (alone (i.PerformTest x n k) ∷ cs) h =
    chunked_one (i.PerformTest x n (number_in x ts)) (numbered_from fs (joined x ts) (flat cs)) (flat_pieces cs) refl
    (same_chunks fs (joined x ts) cs h.1)
same_chunks fs ts (alone x ∷ cs) h = chunked_one x (numbered_from fs ts (flat cs)) (flat_pieces cs) h.0 (same_chunks fs ts cs h.1)
same_chunks fs ts (drops ∷ cs) h =
    chunked_both (i.Swap ∷ i.DiscardTop ∷ []) (numbered_from fs ts (flat cs)) (ordinary ∷ ordinary ∷ []) (flat_pieces cs) drop_chunk
    (same_chunks fs ts cs h.1)
same_chunks fs ts (joins ∷ cs) h =
    chunked_both (i.Swap ∷ i.LoadConst (number (pos 1)) ∷ i.Add ∷ []) (numbered_from fs ts (flat cs)) (row_start ∷ one_of_row ∷ ordinary ∷ [])
    (flat_pieces cs) join_chunk (same_chunks fs ts cs h.1)
same_chunks fs ts (builds_one xs x n caller ∷ cs) h =
    chunked_both (i.GetClosure ∷ i.LoadConst (name_list xs) ∷ i.BuildMacro x n caller ∷ []) (numbered_from fs ts (flat cs))
    (closure_of_macro ∷ names_of_macro ∷ ordinary ∷ []) (flat_pieces cs) (build_chunk xs x n caller) (same_chunks fs ts cs h.1)

numbered_chunks : (is : List Instruction) (ps : List Piece) → Chunked is ps → Chunked (numbered is) ps
numbered_chunks is ps h =
    let all = same_chunks [] [] h.chunks h.good in
    subst (λ qs. Chunked (numbered is) qs) (sym h.parts)
    (subst (λ js. Chunked (numbered js) (flat_pieces h.chunks)) (sym h.code) all)

-- ---------------------------------------------------------------- the code of trees
-- Code is of chunks, and its targets are within it and between none of the instructions that stand together.
pub record InChunks (code : List Instruction) (ps : List Piece) : Type 0 where
  pub chunked : Chunked code ps
  pub targets : AllTargets (Free (length code) ps) code

pub tree_made : (tree : StreamTree) → InChunks (numbered (assembled (fragment_of tree))) (pieces (fragment_of tree))
tree_made tree =
    let c = fragment_of tree in
    let code = assembled c in
    let tidy = tree_tidy tree in
    record {
      chunked = numbered_chunks code (pieces c) (chunked c tidy (whole_labels c) 0);
      targets = subst (λ n. AllTargets (Free n (pieces c)) (numbered code)) (sym (same_long [] [] code))
          (same_targets (Free (length code) (pieces c)) [] [] code (whole_targets c tidy));
    }
