-- Code as a row of chunks: instructions that stand together, and others alone.
use Rattle.std.proofs.Common.{◌≡◌, ℕ, ◌+◌, List, [], ◌∷◌, ◌++◌, None, Bool, true, false, refl, sym, ap, ◌∙◌, subst}
use Rattle.std.specs.Prelude.{pos, ◌&&◌}
use Rattle.tm_values.specs.Val.{number}
use Rattle.tm_trees.specs.Instructions.{Instruction}
use Rattle.tm_trees.specs.Instructions.instructions as i
use Rattle.tm_syntax.specs.declared.jump.JumpKind.{JumpKind}
use Rattle.tm_syntax.specs.declared.jump.JumpKind.TheVariants as kinds
use Rattle.tm_syntax.specs.Fragments.{Fragment, straight, ◌⨾◌, jump_out, bounded, fork, looped, break_loop, next_round, declares, MacroHead}
use Rattle.tm_syntax.specs.Fragments.{name_list, beyond, Labels, outward, inward, ending_at, jump, assemble, building}
use Rattle.tm_shapes.specs.Placed.{target}
use Rattle.tm_accepted.specs.Sites.{Piece, ordinary, closure_of_macro, names_of_macro, row_start, one_of_row, pieces_of, building_pieces, pieces}

-- An instruction alone; a value that is dropped below another; a value that goes into a group; and the three that build a macro with these names.
pub data Chunk : Type 0 where
  alone : Instruction → Chunk
  drops : Chunk
  joins : Chunk
  builds_one : List (List ℕ) → List ℕ → ℕ → Bool → Chunk

abbrev pub flat : List Chunk → List Instruction
flat [] = []
flat (alone x ∷ cs) = x ∷ flat cs
flat (drops ∷ cs) = i.Swap ∷ i.DiscardTop ∷ flat cs
flat (joins ∷ cs) = i.Swap ∷ i.LoadConst (number (pos 1)) ∷ i.Add ∷ flat cs
flat (builds_one xs x n caller ∷ cs) = i.GetClosure ∷ i.LoadConst (name_list xs) ∷ i.BuildMacro x n caller ∷ flat cs

abbrev pub flat_pieces : List Chunk → List Piece
flat_pieces [] = []
flat_pieces (alone x ∷ cs) = ordinary ∷ flat_pieces cs
flat_pieces (drops ∷ cs) = ordinary ∷ ordinary ∷ flat_pieces cs
flat_pieces (joins ∷ cs) = row_start ∷ one_of_row ∷ ordinary ∷ flat_pieces cs
flat_pieces (builds_one xs x n caller ∷ cs) = closure_of_macro ∷ names_of_macro ∷ ordinary ∷ flat_pieces cs

-- an instruction that asks for no others beside it
abbrev pub is_alone : Instruction → Bool
is_alone i.Swap = false
is_alone i.GetClosure = false
is_alone (i.BuildMacro x n caller) = false
is_alone x = true

-- and that leads nowhere else
abbrev pub is_plain : Instruction → Bool
is_plain i.Swap = false
is_plain i.GetClosure = false
is_plain (i.BuildMacro x n caller) = false
is_plain i.Return = false
is_plain (i.Jump n) = false
is_plain (i.JumpIfFalse n) = false
is_plain (i.JumpIfFalseOrPop n) = false
is_plain (i.JumpIfTrueOrPop n) = false
is_plain (i.Iterate n) = false
is_plain x = true

abbrev pub all_plain : List Instruction → Bool
all_plain [] = true
all_plain (x ∷ is) = is_plain x && all_plain is

-- one that neither builds a macro nor ends one
abbrev pub is_bare : Instruction → Bool
is_bare (i.BuildMacro x n caller) = false
is_bare i.Return = false
is_bare x = true

abbrev pub AllBare : List Instruction → Type 0
AllBare [] = Unit {0}
AllBare (x ∷ is) = (is_bare x ≡ true) × AllBare is

abbrev pub GoodChunk : Chunk → Type 0
GoodChunk (alone x) = is_alone x ≡ true
GoodChunk c = Unit {0}

abbrev pub AllGood : List Chunk → Type 0
AllGood [] = Unit {0}
AllGood (c ∷ cs) = GoodChunk c × AllGood cs

-- Instructions and what they are of are those of chunks.
pub record Chunked (is : List Instruction) (ps : List Piece) : Type 0 where
  pub chunks : List Chunk
  pub good : AllGood chunks
  pub code : is ≡ flat chunks
  pub parts : ps ≡ flat_pieces chunks

flat_both : (cs ds : List Chunk) → flat (cs ++ ds) ≡ flat cs ++ flat ds
flat_both [] ds = refl
flat_both (alone x ∷ cs) ds = ap (λ is. x ∷ is) (flat_both cs ds)
flat_both (drops ∷ cs) ds = ap (λ is. i.Swap ∷ i.DiscardTop ∷ is) (flat_both cs ds)
flat_both (joins ∷ cs) ds = ap (λ is. i.Swap ∷ i.LoadConst (number (pos 1)) ∷ i.Add ∷ is) (flat_both cs ds)
flat_both (builds_one xs x n caller ∷ cs) ds =
    ap (λ is. i.GetClosure ∷ i.LoadConst (name_list xs) ∷ i.BuildMacro x n caller ∷ is) (flat_both cs ds)

parts_both : (cs ds : List Chunk) → flat_pieces (cs ++ ds) ≡ flat_pieces cs ++ flat_pieces ds
parts_both [] ds = refl
parts_both (alone x ∷ cs) ds = ap (λ ps. ordinary ∷ ps) (parts_both cs ds)
parts_both (drops ∷ cs) ds = ap (λ ps. ordinary ∷ ordinary ∷ ps) (parts_both cs ds)
parts_both (joins ∷ cs) ds = ap (λ ps. row_start ∷ one_of_row ∷ ordinary ∷ ps) (parts_both cs ds)
parts_both (builds_one xs x n caller ∷ cs) ds = ap (λ ps. closure_of_macro ∷ names_of_macro ∷ ordinary ∷ ps) (parts_both cs ds)

good_both : (cs ds : List Chunk) → AllGood cs → AllGood ds → AllGood (cs ++ ds)
good_both [] ds h k = k
good_both (c ∷ cs) ds h k = (h.0, good_both cs ds h.1 k)

pub chunked_none : Chunked [] []
chunked_none = record { chunks = []; good = tt; code = refl; parts = refl }

pub chunked_one : (x : Instruction) (is : List Instruction) (ps : List Piece) → is_alone x ≡ true → Chunked is ps → Chunked (x ∷ is) (ordinary ∷ ps)
chunked_one x is ps h k = record {
  chunks = alone x ∷ k.chunks;
  good = (h, k.good);
  code = ap (λ js. x ∷ js) k.code;
  parts = ap (λ qs. ordinary ∷ qs) k.parts;
}

pub chunked_both : (is js : List Instruction) (ps qs : List Piece) → Chunked is ps → Chunked js qs → Chunked (is ++ js) (ps ++ qs)
chunked_both is js ps qs h k = record {
  chunks = h.chunks ++ k.chunks;
  good = good_both h.chunks k.chunks h.good k.good;
  code = ap (λ is. is ++ js) h.code ∙ ap (λ js. flat h.chunks ++ js) k.code ∙ sym (flat_both h.chunks k.chunks);
  parts = ap (λ ps. ps ++ qs) h.parts ∙ ap (λ qs. flat_pieces h.chunks ++ qs) k.parts ∙ sym (parts_both h.chunks k.chunks);
}

-- ---------------------------------------------------------------- code of fragments
-- none leads anywhere else
abbrev pub AllLeadOn : List Instruction → Type 0
AllLeadOn [] = Unit {0}
AllLeadOn (x ∷ is) = (target x ≡ None) × AllLeadOn is

-- Straight instructions are of chunks, lead nowhere else, and are of no macro; and macros are declared only where they may be.
abbrev pub TidyBy : Bool → Fragment → Type 0
TidyBy macros (straight is) = Chunked is (pieces_of is) × AllLeadOn is × AllBare is
TidyBy macros (c ⨾ d) = TidyBy macros c × TidyBy macros d
TidyBy macros (jump_out j) = Unit {0}
TidyBy macros (bounded c) = TidyBy macros c
TidyBy macros (fork c d) = TidyBy macros c × TidyBy macros d
TidyBy macros (looped g c d) = TidyBy macros c × TidyBy macros d
TidyBy macros break_loop = Unit {0}
TidyBy macros next_round = Unit {0}
TidyBy macros (declares m c) = (macros ≡ true) × TidyBy macros c

abbrev pub Tidy : Fragment → Type 0
Tidy c = TidyBy true c

chunked_jump : (j : JumpKind) (n : ℕ) → Chunked (jump j n ∷ []) (ordinary ∷ [])
chunked_jump kinds.IfFalse n = chunked_one (i.JumpIfFalse n) [] [] refl chunked_none
chunked_jump kinds.IfFalseOrPop n = chunked_one (i.JumpIfFalseOrPop n) [] [] refl chunked_none
chunked_jump kinds.IfTrueOrPop n = chunked_one (i.JumpIfTrueOrPop n) [] [] refl chunked_none

pub chunked_building : (free : List (List ℕ)) (m : MacroHead) (place : ℕ) → Chunked (building free m place) (building_pieces free)
chunked_building [] m place = record { chunks = builds_one m.parameters m.name place m.caller ∷ []; good = (tt, tt); code = refl; parts = refl }
chunked_building (x ∷ xs) m place = chunked_one (i.Enclose x) (building xs m place) (building_pieces xs) refl (chunked_building xs m place)

-- All code of a tidy fragment is of chunks.
pub chunked : (c : Fragment) → Tidy c → (l : Labels) (pc : ℕ) → Chunked (assemble l pc c) (pieces c)
chunked (straight is) h l pc = h.0
chunked (c ⨾ d) h l pc =
    chunked_both (assemble l pc c) (assemble l (beyond pc c) d) (pieces c) (pieces d) (chunked c h.0 l pc) (chunked d h.1 l (beyond pc c))
chunked (jump_out j) h l pc = chunked_jump j l.out
chunked (bounded c) h l pc = chunked c h (outward (beyond pc c) l) pc
chunked (fork c d) h l pc =
    let second = beyond pc c + 1 in
    chunked_both (assemble (outward second l) pc c) (i.Jump (beyond second d) ∷ assemble l second d) (pieces c) (ordinary ∷ pieces d)
    (chunked c h.0 (outward second l) pc)
    (chunked_one (i.Jump (beyond second d)) (assemble l second d) (pieces d) refl (chunked d h.1 l second))
chunked (looped g c d) h l pc =
    let again = pc + 1 in
    let after = beyond (again + 1) c + 1 in
    let first = assemble (inward again after l) (again + 1) c in
    let rest = i.Jump again ∷ assemble l after d in
    chunked_one (i.PushLoop g) (i.Iterate after ∷ (first ++ rest)) (ordinary ∷ (pieces c ++ ordinary ∷ pieces d)) refl
    (chunked_one (i.Iterate after) (first ++ rest) (pieces c ++ ordinary ∷ pieces d) refl
    (chunked_both first rest (pieces c) (ordinary ∷ pieces d) (chunked c h.0 (inward again after l) (again + 1))
    (chunked_one (i.Jump again) (assemble l after d) (pieces d) refl (chunked d h.1 l after))))
chunked break_loop h l pc = chunked_one (i.Jump l.after) [] [] refl chunked_none
chunked next_round h l pc = chunked_one (i.Jump l.again) [] [] refl chunked_none
chunked (declares m c) h l pc =
    let end = beyond (pc + 1) c in
    let body = assemble (ending_at end) (pc + 1) c in
    let built = building m.free m (pc + 1) in
    chunked_one (i.Jump (end + 1)) (body ++ i.Return ∷ built) (pieces c ++ ordinary ∷ building_pieces m.free) refl
    (chunked_both body (i.Return ∷ built) (pieces c) (ordinary ∷ building_pieces m.free) (chunked c h.1 (ending_at end) (pc + 1))
    (chunked_one i.Return built (building_pieces m.free) refl (chunked_building m.free m (pc + 1))))

-- ---------------------------------------------------------------- plain instructions
plain_alone : (x : Instruction) → is_plain x ≡ true → is_alone x ≡ true
plain_alone i.Swap h = absurd (cc h)
plain_alone i.GetClosure h = absurd (cc h)
plain_alone (i.BuildMacro x n caller) h = absurd (cc h)
plain_alone x h = refl

plain_on : (x : Instruction) → is_plain x ≡ true → target x ≡ None
plain_on (i.BuildMacro x n caller) h = absurd (cc h)
plain_on (i.Jump n) h = absurd (cc h)
plain_on (i.JumpIfFalse n) h = absurd (cc h)
plain_on (i.JumpIfFalseOrPop n) h = absurd (cc h)
plain_on (i.JumpIfTrueOrPop n) h = absurd (cc h)
plain_on (i.Iterate n) h = absurd (cc h)
plain_on x h = refl

plain_bare : (x : Instruction) → is_plain x ≡ true → is_bare x ≡ true
plain_bare (i.BuildMacro x n caller) h = absurd (cc h)
plain_bare i.Return h = absurd (cc h)
plain_bare x h = refl

plain_piece : (x : Instruction) (is : List Instruction) → is_plain x ≡ true → pieces_of (x ∷ is) ≡ ordinary ∷ pieces_of is
plain_piece i.Swap is h = absurd (cc h)
plain_piece x is h = refl

both_true : (a b : Bool) → (a && b) ≡ true → (a ≡ true) × (b ≡ true)
both_true true b h = (refl, h)
both_true false b h = absurd (cc h)

pub plain_chunks : (is : List Instruction) → all_plain is ≡ true → Tidy (straight is)
plain_chunks [] h = (chunked_none, tt, tt)
plain_chunks (x ∷ is) h =
    let both = both_true (is_plain x) (all_plain is) h in
    let more = plain_chunks is both.1 in (
      subst (λ ps. Chunked (x ∷ is) ps) (sym (plain_piece x is both.0))
          (chunked_one x is (pieces_of is) (plain_alone x both.0) more.0),
      (plain_on x both.0, more.1),
      (plain_bare x both.0, more.2),
    )

-- the two forms that aren't plain
pub drops_tidy : Tidy (straight (i.Swap ∷ i.DiscardTop ∷ []))
drops_tidy = (record { chunks = drops ∷ []; good = (tt, tt); code = refl; parts = refl }, (refl, (refl, tt)), (refl, (refl, tt)))

pub joins_tidy : Tidy (straight (i.Swap ∷ i.LoadConst (number (pos 1)) ∷ i.Add ∷ []))
joins_tidy = (
  record { chunks = joins ∷ []; good = (tt, tt); code = refl; parts = refl },
  (refl, (refl, (refl, tt))),
  (refl, (refl, (refl, tt))),
)
