-- The code of trees has shapes.
use Rattle.std.proofs.Common.{◌≡◌, ◌⊎◌, inl, inr, ℕ, zero, suc, ◌+◌, ◌≤◌, List, [], ◌∷◌, ◌++◌, length, Option, Some, None, true}
use Rattle.std.proofs.Common.{refl, sym, ap, ◌∙◌, subst, arith, append_assoc, length-append, map as each}
use Rattle.std.specs.Prelude.{slice_get, option_and_then}
use Rattle.tm_trees.specs.Instructions.{Instruction}
use Rattle.tm_syntax.specs.Blocks.{StreamTree, statements, expression, fragment_of}
use Rattle.tm_syntax.specs.Code.{expr_code, statements_code}
use Rattle.tm_syntax.specs.Fragments.{Fragment, beyond, whole_labels, assembled}
use Rattle.tm_shapes.specs.declared.kind.Form.{Form}
use Rattle.tm_shapes.specs.declared.kind.Form.TheVariants as forms
use Rattle.tm_shapes.specs.declared.kind.Kind.TheVariants.{Value as value}
use Rattle.tm_shapes.specs.declared.kind.Reading.{Reading}
use Rattle.tm_shapes.specs.declared.kind.Reading.TheVariants as readings
use Rattle.tm_shapes.specs.Shapes.{Shape, Shapes, shape_at, itself, first_shape}
use Rattle.tm_shapes.specs.Flows.{are, flow_of, with_operands}
use Rattle.tm_shapes.specs.Search.{Has}
use Rattle.tm_shapes.specs.Accepts.{Readings, all_seeds, ask_all, ends_with, left_by, no_shapes}
use Rattle.tm_accepted.specs.Sites.{Piece, row_start, pieces, site_by}
use Rattle.tm_accepted.specs.Laid.{Laid, form_of}
use Rattle.tm_accepted.proofs.Pieces.{as_many}
use Rattle.tm_accepted.proofs.Lays.{Around, Types, Allowed, Rowed, Spot, piece_of, Placed, Meeting, lay}
use Rattle.tm_accepted.proofs.Trees.{expr_types}
use Rattle.tm_accepted.proofs.Tags.{statements_types}
use Rattle.tm_accepted.proofs.Entered.{held_at, seeds_held}

there : (pre : List (Option Shape)) (o : Option Shape) (post : List (Option Shape)) → slice_get (pre ++ o ∷ post) (length pre) ≡ Some o
there [] o post = refl
there (x ∷ pre) o post = there pre o post

there_shape : (pre : List (Option Shape)) (s : Shape) (post : List (Option Shape)) (n : ℕ) → n ≡ length pre →
    shape_at (pre ++ Some s ∷ post) n ≡ Some s
there_shape pre s post n e =
    ap (λ k. shape_at (pre ++ Some s ∷ post) k) e ∙ ap (option_and_then itself) (there pre (Some s) post)

abbrev some : Spot → Option Shape
some s = Some s.shape

placed_all : (ss : List Spot) (pre post : List (Option Shape)) (n : ℕ) → n ≡ length pre → Placed (pre ++ (each some ss ++ post)) n ss
placed_all [] pre post n e = tt
placed_all (s ∷ ss) pre post n e =
    let rest = each some ss ++ post in
    let same : (pre ++ Some s.shape ∷ []) ++ rest ≡ pre ++ Some s.shape ∷ rest = append_assoc pre (Some s.shape ∷ []) rest in (
      there_shape pre s.shape rest n e,
      subst (λ sh. Placed sh (n + 1) ss) same
          (placed_all ss (pre ++ Some s.shape ∷ []) post (n + 1) (omega (arith, e, length-append pre (Some s.shape ∷ [])))),
    )

meeting_long : (r : Option ℕ) (sh : Shapes) (pc : ℕ) (is : List Instruction) (ss : List Spot) → Meeting r sh pc is ss → length is ≡ length ss
meeting_long r sh pc [] [] h = refl
meeting_long r sh pc [] (s ∷ ss) h = absurd h
meeting_long r sh pc (x ∷ is) [] h = absurd h
meeting_long r sh pc (x ∷ is) (s ∷ ss) h = ap suc (meeting_long r sh (pc + 1) is ss h.1)

-- as what each 0 is read
abbrev read_at : List Spot → ℕ → Reading
read_at [] n = readings.Value
read_at (s ∷ ss) zero = s.reading
read_at (s ∷ ss) (suc n) = read_at ss n

read_so : (q : Reading) (s : Shape) → Allowed q s → (q ≡ readings.Value) ⊎ (q ≡ readings.Group)
read_so readings.Value s h = inl refl
read_so readings.Group s h = inr refl
read_so readings.Open s h = absurd h

value_or_group : (ss : List Spot) (n : ℕ) → (read_at ss n ≡ readings.Value) ⊎ (read_at ss n ≡ readings.Group)
value_or_group [] n = inl refl
value_or_group (s ∷ ss) zero = read_so s.reading s.shape s.allowed
value_or_group (s ∷ ss) (suc n) = value_or_group ss n

at_bottom : (sh : Shapes) (pc n k : ℕ) (ss : List Spot) (s : Shape) → Placed sh pc ss → k ≡ pc + n → read_at ss n ≡ readings.Group →
    shape_at sh k ≡ Some s → s.part.operands ≡ []
at_bottom sh pc n k [] s p e q j = absurd (cc q)
at_bottom sh pc zero k (t ∷ ss) s p e q j =
    let here : k ≡ pc = omega (arith, e) in
    let two : t.shape ≡ s = let w : shape_at sh k ≡ Some t.shape = ap (shape_at sh) here ∙ p.0 in cc (sym w ∙ j) in
    subst (λ (u : Shape). u.part.operands ≡ []) two (subst (λ u. Allowed u t.shape) q t.allowed)
at_bottom sh pc (suc n) k (t ∷ ss) s p e q j = at_bottom sh (pc + 1) n k ss s p.1 (omega (arith, e)) q j

-- a row begins over a group
rowed_at : (sh : Shapes) (pc n k : ℕ) (ss : List Spot) (s : Shape) → Placed sh pc ss → k ≡ pc + n →
    slice_get (each piece_of ss) n ≡ Some row_start → shape_at sh k ≡ Some s → Rowed row_start s
rowed_at sh pc n k [] s p e f j = absurd (cc f)
rowed_at sh pc zero k (t ∷ ss) s p e f j =
    let here : k ≡ pc = omega (arith, e) in
    let piece : t.piece ≡ row_start = cc f in
    let two : t.shape ≡ s = let w : shape_at sh k ≡ Some t.shape = ap (shape_at sh) here ∙ p.0 in cc (sym w ∙ j) in
    subst (λ u. Rowed row_start u) two (subst (λ v. Rowed v t.shape) piece t.rowed)
rowed_at sh pc (suc n) k (t ∷ ss) s p e f j = rowed_at sh (pc + 1) n k ss s p.1 (omega (arith, e)) f j

meeting_at : (r : Option ℕ) (sh : Shapes) (pc n k : ℕ) (is : List Instruction) (ss : List Spot) (x : Instruction) (v : Piece) (s : Shape) →
    Meeting r sh pc is ss → Placed sh pc ss → k ≡ pc + n → slice_get is n ≡ Some x → slice_get (each piece_of ss) n ≡ Some v →
    shape_at sh k ≡ Some s → Has sh (flow_of (site_by v (read_at ss n) r k) x s)
meeting_at r sh pc n k [] ss x v s h p e i f j = absurd (cc i)
meeting_at r sh pc n k (y ∷ is) [] x v s h p e i f j = absurd h
meeting_at r sh pc zero k (y ∷ is) (t ∷ ss) x v s h p e i f j =
    let here : k ≡ pc = omega (arith, e) in
    let one : y ≡ x = cc i in
    let piece : t.piece ≡ v = cc f in
    let two : t.shape ≡ s = let q : shape_at sh k ≡ Some t.shape = ap (shape_at sh) here ∙ p.0 in cc (sym q ∙ j) in
    let a : Has sh (flow_of (site_by t.piece t.reading r k) y t.shape) =
    subst (λ n. Has sh (flow_of (site_by t.piece t.reading r n) y t.shape)) (sym here) h.0 in
    let b : Has sh (flow_of (site_by v t.reading r k) y t.shape) = subst (λ u. Has sh (flow_of (site_by u t.reading r k) y t.shape)) piece a in
    let c : Has sh (flow_of (site_by v t.reading r k) x t.shape) = subst (λ z. Has sh (flow_of (site_by v t.reading r k) z t.shape)) one b in
    subst (λ z. Has sh (flow_of (site_by v t.reading r k) x z)) two c
meeting_at r sh pc (suc n) k (y ∷ is) (t ∷ ss) x v s h p e i f j = meeting_at r sh (pc + 1) n k is ss x v s h.1 p.1 (omega (arith, e)) i f j

pub no_more : {A : Type 0} (xs : List A) (n : ℕ) → slice_get xs n ≡ None → length xs ≤ n
no_more [] n e = omega arith
no_more (x ∷ xs) zero e = absurd (cc e)
no_more (x ∷ xs) (suc n) e = omega (arith, no_more xs n e)

at_most : (sh : Shapes) (n : ℕ) (s : Shape) → shape_at sh n ≡ Some s → suc n ≤ length sh
at_most [] n s e = absurd (cc e)
at_most (o ∷ sh) zero s e = omega arith
at_most (o ∷ sh) (suc n) s e = omega (arith, at_most sh n s e)

each_long : (ss : List Spot) → length (each some ss) ≡ length ss
each_long [] = refl
each_long (s ∷ ss) = ap suc (each_long ss)

pub unknown_long : (is : List Instruction) → length (no_shapes is) ≡ suc (length is)
unknown_long [] = refl
unknown_long (x ∷ is) = ap suc (unknown_long is)

-- each place has a shape
placed_at : (sh : Shapes) (pc n k : ℕ) (ss : List Spot) → Placed sh pc ss → k ≡ pc + n → suc n ≤ length ss → (s : Shape) × (shape_at sh k ≡ Some s)
placed_at sh pc n k [] p e h = absurd (omega (arith, h))
placed_at sh pc zero k (s ∷ ss) p e h = let here : k ≡ pc = omega (arith, e) in (s.shape, ap (shape_at sh) here ∙ p.0)
placed_at sh pc (suc n) k (s ∷ ss) p e h = placed_at sh (pc + 1) n k ss p.1 (omega (arith, e)) (omega (arith, h))

-- and its instruction is of something
pub item_at : {A : Type 0} (xs : List A) (n : ℕ) → suc n ≤ length xs → (x : A) × (slice_get xs n ≡ Some x)
item_at [] n h = absurd (omega (arith, h))
item_at (x ∷ xs) zero h = (x, refl)
item_at (x ∷ xs) (suc n) h = item_at xs n (omega (arith, h))

pub within : {A : Type 0} (xs : List A) (n : ℕ) (x : A) → slice_get xs n ≡ Some x → suc n ≤ length xs
within [] n x e = absurd (cc e)
within (y ∷ xs) zero x e = omega arith
within (y ∷ xs) (suc n) x e = omega (arith, within xs n x e)

-- shapes fit the code, where each 0 that is a group lies at the bottom
abbrev pub HasShapes : Form → Fragment → Type 0
HasShapes form c =
    (read : Readings) × (shapes : Shapes) × ((n : ℕ) → (read n ≡ readings.Value) ⊎ (read n ≡ readings.Group))
    × ((n : ℕ) (s : Shape) → read n ≡ readings.Group → shape_at shapes n ≡ Some s → s.part.operands ≡ [])
    × Laid read form c (assembled c) shapes

-- What a `Return` leaves doesn't depend on the readings.
abbrev asked : Form → Option ℕ
asked form = (ask_all (λ n. readings.Value) form).returned

-- code that leads from the first shape to one in which all is closed
flows : (form : Form) (c : Fragment) (t : Shape) → Types 0 (record { out = t; again = t; after = t }) c first_shape t →
    ends_with (left_by form) t ≡ true → are (asked form) [] ≡ true →
    ((read : Readings) → (ask_all read form).returned ≡ asked form) → HasShapes form c
flows form c t h closed none same_asked =
    let e : Around = record { out = t; again = t; after = t } in
    let r = asked form in
    let code = assembled c in
    let l = lay r none e c first_shape t (whole_labels c) 0 h in
    let ss = l.spots in
    let read : Readings = read_at ss in
    let sh = each some ss ++ Some t ∷ [] in
    let size : beyond 0 c ≡ length (each some ss) = omega (arith, l.sized, each_long ss) in
    let p : Placed sh 0 ss = placed_all ss [] (Some t ∷ []) 0 refl in
    let end : shape_at sh (beyond 0 c) ≡ Some t = there_shape (each some ss) t [] (beyond 0 c) size in
    let m : Meeting r sh 0 code ss = l.meets sh p end (end, end, end) in
    let long : length code ≡ length ss = meeting_long r sh 0 code ss m in
    let start : shape_at sh 0 ≡ Some first_shape = l.start sh p end in
    let all = λ (n : ℕ) (x : Instruction) (i : slice_get code n ≡ Some x).
    placed_at sh 0 n n ss p (omega arith) (omega (arith, within code n x i, long)) in
    let by_piece : (n : ℕ) (x : Instruction) (v : Piece) (s : Shape) → slice_get code n ≡ Some x → slice_get (pieces c) n ≡ Some v →
    shape_at sh n ≡ Some s → Has sh (flow_of (site_by v (read n) r n) x s) = λ n x v s i f j.
    meeting_at r sh 0 n n code ss x v s m p (omega arith) i (ap (λ ps. slice_get ps n) l.made ∙ f) j in
    let steps : (n : ℕ) (x : Instruction) (s : Shape) → slice_get code n ≡ Some x → shape_at sh n ≡ Some s →
    (v : Piece) × (q : Reading) × Has sh (flow_of (site_by v q r n) x s) = λ n x s i j.
    let v = item_at (pieces c) n (omega (arith, within code n x i, as_many (whole_labels c) 0 c)) in
    (v.0, read n, by_piece n x v.0 s i v.1 j) in (
      read,
      sh,
      value_or_group ss,
      λ n s q j. at_bottom sh 0 n n ss s p (omega arith) q j,
      record {
        long = omega (arith, long, unknown_long code, length-append (each some ss) (Some t ∷ []), each_long ss);
        starts = λ k x i. held_at sh (all_seeds code) k x (start, seeds_held sh r code all steps) i;
        steps = λ n x v s i f j. subst (λ u. Has sh (flow_of (site_by v (read n) u n) x s)) (sym (same_asked read))
            (by_piece n x v s i f j);
        last = λ n s i j.
            let least = no_more code n i in
            let most = at_most sh n s j in
            let is : n ≡ length code = omega (arith, least, most, long, length-append (each some ss) (Some t ∷ []), each_long ss) in
            let here : n ≡ beyond 0 c = omega (arith, is, long, l.sized) in
            let same : t ≡ s = let q : shape_at sh n ≡ Some t = ap (shape_at sh) here ∙ end in cc (sym q ∙ j) in
            (is, subst (λ s. ends_with (left_by form) s ≡ true) same closed);
        rows = λ n s f j. rowed_at sh 0 n n ss s p (omega arith) (ap (λ ps. slice_get ps n) l.made ∙ f) j;
      },
    )

-- The code of a stream's tree has shapes.
pub tree_shapes : (tree : StreamTree) → HasShapes (form_of tree) (fragment_of tree)
tree_shapes (statements body) =
    flows forms.Template (statements_code [] body.row) first_shape
    (statements_types [] body.row (record { out = first_shape; again = first_shape; after = first_shape }) first_shape 0 (refl, refl) refl)
    refl refl (λ read. refl)
tree_shapes (expression x) =
    let t = with_operands (value ∷ []) first_shape in
    flows forms.Expression (expr_code x) t (expr_types x (record { out = t; again = t; after = t }) first_shape [] 0) refl refl (λ read. refl)
