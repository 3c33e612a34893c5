-- Code that has a shape at each of its places, by its form.
use Rattle.std.proofs.Common.{◌≡◌, ℕ, ◌+◌, List, [], ◌∷◌, ◌++◌, length, Option, Some, true, false}
use Rattle.std.proofs.Common.{refl, sym, ap, ◌∙◌, subst, arith, length-append, map as each}
use Rattle.tm_values.specs.Val.{text}
use Rattle.tm_values.proofs.Lists.{list_of-vals_of}
use Rattle.tm_trees.specs.Instructions.{Instruction}
use Rattle.tm_trees.specs.Instructions.instructions as i
use Rattle.tm_syntax.specs.declared.jump.JumpKind.{JumpKind}
use Rattle.tm_syntax.specs.declared.jump.JumpKind.TheVariants as kinds
use Rattle.tm_syntax.specs.Fragments.{Fragment, straight, ◌⨾◌, jump_out, bounded, fork, looped, break_loop, next_round, declares, MacroHead}
use Rattle.tm_syntax.specs.Fragments.{beyond_all, beyond, Labels, outward, inward, ending_at, jump, assemble, after_body, building, name_list}
use Rattle.tm_syntax.specs.Entries.{names_in, texts_in, and_text}
use Rattle.tm_syntax.specs.Choices.{choose}
use Rattle.tm_shapes.specs.declared.kind.Kind.{Kind}
use Rattle.tm_shapes.specs.declared.kind.Kind.TheVariants.{Value as value, Group as group, Closure as closure, Names as names}
use Rattle.tm_shapes.specs.declared.kind.Reading.{Reading}
use Rattle.tm_shapes.specs.declared.kind.Reading.TheVariants as readings
use Rattle.tm_shapes.specs.Shapes.{Shape, Shapes, shape_at, first_shape, entry_shape}
use Rattle.tm_shapes.specs.Flows.{Flow, refused, ends, leads, both, Site, are, flow_of, is_value, with_operands, loop_begun, on_loop, load_names}
use Rattle.tm_shapes.specs.Search.{Has}
use Rattle.tm_accepted.specs.Sites.{Piece, ordinary, closure_of_macro, names_of_macro, row_start, pieces_of, building_pieces, pieces, site_by}

to_then : (sh : Shapes) (n : ℕ) (s t : Shape) → s ≡ t → shape_at sh n ≡ Some t → shape_at sh n ≡ Some s
to_then sh n s t h r = r ∙ ap (λ (u : Shape). Some u) (sym h)

-- ---------------------------------------------------------------- forms
-- The shapes where jumps out go, where the innermost loop's next item is asked for, and what stands after its rounds.
pub record Around : Type 0 where
  pub out : Shape
  pub again : Shape
  pub after : Shape

-- A 0 is read as a group where it lies at the bottom alone.
abbrev pub Allowed : Reading → Shape → Type 0
Allowed readings.Value s = Unit {0}
Allowed readings.Group s = s.part.operands ≡ []
Allowed readings.Open s = ⊥

-- A row that puts a value into a group begins over one.
abbrev pub Rowed : Piece → Shape → Type 0
Rowed row_start s = (k : Kind) × (o : Option ℕ) × (ks : List Kind) × (s.part.operands ≡ k ∷ group o ∷ ks)
Rowed p s = Unit {0}

-- An instruction that is of this leads from its place to the next one alone, with this shape.
abbrev pub Steps : Piece → Instruction → ℕ → Shape → Shape → Type 0
Steps p x pc s u = (q : Reading) × Allowed q s × Rowed p s × ((r : Option ℕ) → flow_of (site_by p q r pc) x s ≡ leads (pc + 1) u)

abbrev pub StraightBy : List Piece → ℕ → List Instruction → Shape → Shape → Type 0
StraightBy [] pc [] s t = s ≡ t
StraightBy (p ∷ ps) pc (x ∷ is) s t = (u : Shape) × Steps p x pc s u × StraightBy ps (pc + 1) is u t
StraightBy [] pc (x ∷ is) s t = ⊥
StraightBy (p ∷ ps) pc [] s t = ⊥

abbrev pub Straight : ℕ → List Instruction → Shape → Shape → Type 0
Straight pc is s t = StraightBy (pieces_of is) pc is s t

-- what stays where a jump is made
abbrev pub kept : JumpKind → List Kind → List Kind
kept kinds.IfFalse ks = ks
kept kinds.IfFalseOrPop ks = value ∷ ks
kept kinds.IfTrueOrPop ks = value ∷ ks

-- of a macro's body, and of code on its own
abbrev pub ending : Around
ending = record { out = first_shape; again = first_shape; after = first_shape }

-- Code that stands at a place leads from a shape to another.
abbrev pub Types : ℕ → Around → Fragment → Shape → Shape → Type 0
Types pc e (straight is) s t = Straight pc is s t
Types pc e (c ⨾ d) s t = (u : Shape) × Types pc e c s u × Types (beyond pc c) e d u t
Types pc e (jump_out j) s t =
    (k : Kind) × (ks : List Kind) × (s.part.operands ≡ k ∷ ks) × (is_value k ≡ true) × (with_operands ks s ≡ t)
    × (with_operands (kept j ks) s ≡ e.out)
Types pc e (bounded c) s t = Types pc (record e { out = t }) c s t
Types pc e (fork c d) s t =
    (v : Shape) × (u : Shape) × Types pc (record e { out = v }) c s u × (u ≡ t) × Types (beyond pc c + 1) e d v t
Types pc e (looped g c d) s t =
    (k : Kind) × (ks : List Kind) × (b : Shape) × (u : Shape) × (s.part.operands ≡ k ∷ ks) × (is_value k ≡ true)
    × (loop_begun g.recursive (with_operands ks s) ≡ b) × ((F : Flow) → on_loop b.part.frames b.below F ≡ F)
    × Types (pc + 1 + 1) (record e { again = b; after = b }) c (with_operands (value ∷ b.part.operands) b) u × (u ≡ b)
    × Types (beyond (pc + 1 + 1) c + 1) e d b t
Types pc e break_loop s t = s ≡ e.after
Types pc e next_round s t = s ≡ e.again
Types pc e (declares m c) s t =
    Types (pc + 1) ending c (entry_shape (length m.parameters)) first_shape × (with_operands (value ∷ s.part.operands) s ≡ t)

-- ---------------------------------------------------------------- places
-- What is known of a place: its shape, as what 0 is read there, and what its instruction is of.
pub record Spot : Type 0 where
  pub shape : Shape
  pub reading : Reading
  pub allowed : Allowed reading shape
  pub piece : Piece
  pub rowed : Rowed piece shape

abbrev pub piece_of : Spot → Piece
piece_of s = s.piece

abbrev pub spot : (s : Shape) (p : Piece) → Rowed p s → Spot
spot s p h = record { shape = s; reading = readings.Value; allowed = tt; piece = p; rowed = h }

abbrev pub plain : Shape → Spot
plain s = spot s ordinary tt

abbrev pub Placed : Shapes → ℕ → List Spot → Type 0
Placed sh pc [] = Unit {0}
Placed sh pc (s ∷ ss) = (shape_at sh pc ≡ Some s.shape) × Placed sh (pc + 1) ss

abbrev pub Meeting : Option ℕ → Shapes → ℕ → List Instruction → List Spot → Type 0
Meeting r sh pc [] [] = Unit {0}
Meeting r sh pc (x ∷ is) (s ∷ ss) = Has sh (flow_of (site_by s.piece s.reading r pc) x s.shape) × Meeting r sh (pc + 1) is ss
Meeting r sh pc [] (s ∷ ss) = ⊥
Meeting r sh pc (x ∷ is) [] = ⊥

abbrev pub Labelled : Shapes → Labels → Around → Type 0
Labelled sh l e = (shape_at sh l.out ≡ Some e.out) × (shape_at sh l.again ≡ Some e.again) × (shape_at sh l.after ≡ Some e.after)

placed_front : (sh : Shapes) (pc : ℕ) (ss ts : List Spot) → Placed sh pc (ss ++ ts) → Placed sh pc ss
placed_front sh pc [] ts h = tt
placed_front sh pc (s ∷ ss) ts h = (h.0, placed_front sh (pc + 1) ss ts h.1)

placed_back : (sh : Shapes) (pc n : ℕ) (ss ts : List Spot) → n ≡ pc + length ss → Placed sh pc (ss ++ ts) → Placed sh n ts
placed_back sh pc n [] ts e h = subst (λ k. Placed sh k ts) (let x : pc ≡ n = omega (arith, e) in x) h
placed_back sh pc n (s ∷ ss) ts e h = placed_back sh (pc + 1) n ss ts (omega (arith, e)) h.1

meeting_after : (r : Option ℕ) (sh : Shapes) (pc n : ℕ) (is js : List Instruction) (ss ts : List Spot) → n ≡ pc + length ss →
    Meeting r sh pc is ss → Meeting r sh n js ts → Meeting r sh pc (is ++ js) (ss ++ ts)
meeting_after r sh pc n [] js [] ts e h k = subst (λ m. Meeting r sh m js ts) (let x : n ≡ pc = omega (arith, e) in x) k
meeting_after r sh pc n [] js (s ∷ ss) ts e h k = absurd h
meeting_after r sh pc n (x ∷ is) js [] ts e h k = absurd h
meeting_after r sh pc n (x ∷ is) js (s ∷ ss) ts e h k = (h.0, meeting_after r sh (pc + 1) n is js ss ts (omega (arith, e)) h.1 k)

-- what instructions in a row are of
pieces_after : (ss ts : List Spot) (ps qs : List Piece) → each piece_of ss ≡ ps → each piece_of ts ≡ qs → each piece_of (ss ++ ts) ≡ ps ++ qs
pieces_after [] ts ps qs h k = k ∙ ap (λ (x : List Piece). x ++ qs) h
pieces_after (s ∷ ss) ts ps qs h k =
    ap (λ x. s.piece ∷ x) (pieces_after ss ts (each piece_of ss) qs refl k) ∙ ap (λ (x : List Piece). x ++ qs) h

-- ---------------------------------------------------------------- code at a place
-- Shapes of the places of code, with which each of its instructions leads on; l are the labels, and a `Return` leaves r operands.
pub record Lays (r : Option ℕ) (e : Around) (c : Fragment) (s t : Shape) (l : Labels) (pc : ℕ) : Type 0 where
  pub spots : List Spot
  pub sized : beyond pc c ≡ pc + length spots
  pub made : each piece_of spots ≡ pieces c
  pub start : (sh : Shapes) → Placed sh pc spots → shape_at sh (beyond pc c) ≡ Some t → shape_at sh pc ≡ Some s
  pub meets : (sh : Shapes) → Placed sh pc spots → shape_at sh (beyond pc c) ≡ Some t → Labelled sh l e →
      Meeting r sh pc (assemble l pc c) spots

-- of straight instructions
pub record LaysAll (r : Option ℕ) (ps : List Piece) (is : List Instruction) (s t : Shape) (pc : ℕ) : Type 0 where
  pub spots : List Spot
  pub sized : beyond_all pc is ≡ pc + length spots
  pub made : each piece_of spots ≡ ps
  pub start : (sh : Shapes) → Placed sh pc spots → shape_at sh (beyond_all pc is) ≡ Some t → shape_at sh pc ≡ Some s
  pub meets : (sh : Shapes) → Placed sh pc spots → shape_at sh (beyond_all pc is) ≡ Some t → Meeting r sh pc is spots

lay_all : (r : Option ℕ) (ps : List Piece) (is : List Instruction) (s t : Shape) (pc : ℕ) → StraightBy ps pc is s t → LaysAll r ps is s t pc
lay_all r [] [] s t pc h =
    record { spots = []; sized = omega arith; made = refl; start = λ sh p w. to_then sh pc s t h w; meets = λ sh p w. tt }
lay_all r [] (x ∷ is) s t pc h = absurd h
lay_all r (q ∷ ps) [] s t pc h = absurd h
lay_all r (q ∷ ps) (x ∷ is) s t pc (u, step, h) =
    let more = lay_all r ps is u t (pc + 1) h in
    record {
      spots = record { shape = s; reading = step.0; allowed = step.1; piece = q; rowed = step.2 } ∷ more.spots;
      sized = omega (arith, more.sized);
      made = ap (λ x. q ∷ x) more.made;
      start = λ sh p w. p.0;
      meets = λ sh p w. (subst (Has sh) (sym (step.3 r)) (more.start sh p.1 w), more.meets sh p.1 w);
    }

jump_flow : (j : JumpKind) (at : Site) (n : ℕ) (s : Shape) (k : Kind) (ks : List Kind) (sh : Shapes) → s.part.operands ≡ k ∷ ks →
    is_value k ≡ true → shape_at sh (at.place + 1) ≡ Some (with_operands ks s) → shape_at sh n ≡ Some (with_operands (kept j ks) s) →
    Has sh (flow_of at (jump j n) s)
jump_flow kinds.IfFalse at n s k ks sh e v a b = rw (e, v) (a, b)
jump_flow kinds.IfFalseOrPop at n s k ks sh e v a b = rw (e, v) (a, b)
jump_flow kinds.IfTrueOrPop at n s k ks sh e v a b = rw (e, v) (a, b)

abbrev pub site : Option ℕ → ℕ → Site
site r pc = site_by ordinary readings.Value r pc

-- one instruction alone
lay_one : (r : Option ℕ) (e : Around) (c : Fragment) (s t : Shape) (l : Labels) (pc : ℕ) (x : Instruction) → beyond pc c ≡ pc + 1 →
    pieces c ≡ ordinary ∷ [] → assemble l pc c ≡ x ∷ [] →
    ((sh : Shapes) → shape_at sh (pc + 1) ≡ Some t → Labelled sh l e → Has sh (flow_of (site r pc) x s)) → Lays r e c s t l pc
lay_one r e c s t l pc x size made is h = record {
  spots = plain s ∷ [];
  sized = size;
  made = sym made;
  start = λ sh p w. p.0;
  meets = λ sh p w b. subst (λ is. Meeting r sh pc is (plain s ∷ [])) (sym is)
      (h sh (subst (λ n. shape_at sh n ≡ Some t) size w) b, tt);
}

-- ---------------------------------------------------------------- macros as values
texts_are : (xs : List (List ℕ)) → texts_in (each (λ x. text x false) xs) ≡ Some xs
texts_are [] = refl
texts_are (x ∷ xs) = ap (and_text (Some x)) (texts_are xs)

names_are : (xs : List (List ℕ)) → names_in (name_list xs) ≡ Some xs
names_are xs = ap texts_in (list_of-vals_of (each (λ x. text x false) xs)) ∙ texts_are xs

-- shapes of a macro that is built
record LaysBuilding (r : Option ℕ) (free : List (List ℕ)) (m : MacroHead) (place : ℕ) (s t : Shape) (pc : ℕ) : Type 0 where
  spots : List Spot
  sized : beyond_all pc (building free m place) ≡ pc + length spots
  made : each piece_of spots ≡ building_pieces free
  start : (sh : Shapes) → Placed sh pc spots → shape_at sh pc ≡ Some s
  meets : (sh : Shapes) → Placed sh pc spots → shape_at sh (beyond_all pc (building free m place)) ≡ Some t →
      shape_at sh place ≡ Some (entry_shape (length m.parameters)) → Meeting r sh pc (building free m place) spots

lay_building : (r : Option ℕ) (free : List (List ℕ)) (m : MacroHead) (place : ℕ) (s t : Shape) →
    with_operands (value ∷ s.part.operands) s ≡ t → (pc : ℕ) → LaysBuilding r free m place s t pc
lay_building r [] m place s t to pc =
    let ks = s.part.operands in
    let n = length m.parameters in
    let one = with_operands (closure ∷ ks) s in
    let two = with_operands (names n ∷ closure ∷ ks) s in
    let loads = site_by names_of_macro readings.Value r (pc + 1) in
    record {
      spots = spot s closure_of_macro tt ∷ spot one names_of_macro tt ∷ plain two ∷ [];
      sized = omega arith;
      made = refl;
      start = λ sh p. p.0;
      meets = λ sh p w enters. (
        p.1.0,
        (
          subst (λ o. Has sh (load_names o loads one)) (sym (names_are m.parameters)) p.1.1.0,
          ((to_then sh (pc + 1 + 1 + 1) (with_operands (value ∷ ks) s) t to w, enters), tt),
        ),
      );
    }
lay_building r (x ∷ xs) m place s t to pc =
    let more = lay_building r xs m place s t to (pc + 1) in
    record {
      spots = plain s ∷ more.spots;
      sized = omega (arith, more.sized);
      made = ap (λ ps. ordinary ∷ ps) more.made;
      start = λ sh p. p.0;
      meets = λ sh p w enters. (more.start sh p.1, more.meets sh p.1 w enters);
    }

-- where all is closed and nothing is left a `Return` ends the run
returned : (r : Option ℕ) (sh : Shapes) (pc : ℕ) → are r [] ≡ true → Has sh (flow_of (site r pc) i.Return first_shape)
returned r sh pc h = subst (λ b. Has sh (choose b (λ _. ends) (λ _. refused))) (sym h) tt

pub lay : (r : Option ℕ) → are r [] ≡ true → (e : Around) (c : Fragment) (s t : Shape) (l : Labels) (pc : ℕ) → Types pc e c s t →
    Lays r e c s t l pc
lay r z e (straight is) s t l pc h =
    let a = lay_all r (pieces_of is) is s t pc h in
    record { spots = a.spots; sized = a.sized; made = a.made; start = a.start; meets = λ sh p w b. a.meets sh p w }
lay r z e (c ⨾ d) s t l pc (u, h, k) =
    let a = lay r z e c s u l pc h in
    let b = lay r z e d u t l (beyond pc c) k in
    let on = λ (sh : Shapes) (p : Placed sh pc (a.spots ++ b.spots)) (w : shape_at sh (beyond pc (c ⨾ d)) ≡ Some t).
    b.start sh (placed_back sh pc (beyond pc c) a.spots b.spots a.sized p) w in
    record {
      spots = a.spots ++ b.spots;
      sized = omega (arith, a.sized, b.sized, length-append a.spots b.spots);
      made = pieces_after a.spots b.spots (pieces c) (pieces d) a.made b.made;
      start = λ sh p w. a.start sh (placed_front sh pc a.spots b.spots p) (on sh p w);
      meets = λ sh p w x. meeting_after r sh pc (beyond pc c) (assemble l pc c) (assemble l (beyond pc c) d) a.spots b.spots a.sized
          (a.meets sh (placed_front sh pc a.spots b.spots p) (on sh p w) x)
          (b.meets sh (placed_back sh pc (beyond pc c) a.spots b.spots a.sized p) w x);
    }
lay r z e (jump_out j) s t l pc (k, ks, is, good, to, out) =
    lay_one r e (jump_out j) s t l pc (jump j l.out) refl refl refl (λ sh w x.
    jump_flow j (site r pc) l.out s k ks sh is good (to_then sh (pc + 1) (with_operands ks s) t to w)
    (to_then sh l.out (with_operands (kept j ks) s) e.out out x.0))
lay r z e (bounded c) s t l pc h =
    let a = lay r z (record e { out = t }) c s t (outward (beyond pc c) l) pc h in
    record { spots = a.spots; sized = a.sized; made = a.made; start = a.start; meets = λ sh p w x. a.meets sh p w (w, x.1, x.2) }
lay r z e (fork c d) s t l pc (v, u, h, to, k) =
    let there = beyond pc c in
    let second = there + 1 in
    let a = lay r z (record e { out = v }) c s u (outward second l) pc h in
    let b = lay r z e d v t l second k in
    let rest = plain u ∷ b.spots in
    let here = λ (sh : Shapes) (p : Placed sh pc (a.spots ++ rest)). placed_back sh pc there a.spots rest a.sized p in
    record {
      spots = a.spots ++ rest;
      sized = omega (arith, a.sized, b.sized, length-append a.spots rest);
      made = pieces_after a.spots rest (pieces c) (ordinary ∷ pieces d) a.made (ap (λ ps. ordinary ∷ ps) b.made);
      start = λ sh p w. a.start sh (placed_front sh pc a.spots rest p) (here sh p).0;
      meets = λ sh p w x.
          let q = here sh p in
          let begins = b.start sh q.1 w in
          meeting_after r sh pc there (assemble (outward second l) pc c) (i.Jump (beyond second d) ∷ assemble l second d) a.spots rest
          a.sized (a.meets sh (placed_front sh pc a.spots rest p) q.0 (begins, x.1, x.2))
          (to_then sh (beyond second d) u t to w, b.meets sh q.1 w x);
    }
lay r z e (looped g c d) s t l pc (k, ks, b, u, is, good, begun, tops, h, back, more) =
    let again = pc + 1 in
    let body = again + 1 in
    let there = beyond body c in
    let after = there + 1 in
    let item = with_operands (value ∷ b.part.operands) b in
    let in_loop = record e { again = b; after = b } in
    let a = lay r z in_loop c item u (inward again after l) body h in
    let n = lay r z e d b t l after more in
    let end = plain u ∷ n.spots in
    let rest = a.spots ++ end in
    let here = λ (sh : Shapes) (p : Placed sh pc (plain s ∷ plain b ∷ rest)). placed_back sh body there a.spots end a.sized p.1.1 in
    record {
      spots = plain s ∷ plain b ∷ rest;
      sized = omega (arith, a.sized, n.sized, length-append a.spots end);
      made = ap (λ ps. ordinary ∷ ordinary ∷ ps)
          (pieces_after a.spots end (pieces c) (ordinary ∷ pieces d) a.made (ap (λ ps. ordinary ∷ ps) n.made));
      start = λ sh p w. p.0;
      meets = λ sh p w x.
          let q = here sh p in
          let front = placed_front sh body a.spots end p.1.1 in
          let stops = n.start sh q.1 w in
          let asks = p.1.0 in
          let first = a.start sh front q.0 in (
            rw (is, good) (to_then sh again (loop_begun g.recursive (with_operands ks s)) b begun asks),
            (
              subst (Has sh) (sym (tops (both (leads (again + 1) item) (leads after b)))) (first, stops),
              meeting_after r sh body there (assemble (inward again after l) body c) (i.Jump again ∷ assemble l after d) a.spots end
                  a.sized (a.meets sh front q.0 (x.0, asks, stops)) (to_then sh again u b back asks, n.meets sh q.1 w x),
            ),
          );
    }
lay r z e break_loop s t l pc h =
    lay_one r e break_loop s t l pc (i.Jump l.after) refl refl refl (λ sh w x. to_then sh l.after s e.after h x.2)
lay r z e next_round s t l pc h =
    lay_one r e next_round s t l pc (i.Jump l.again) refl refl refl (λ sh w x. to_then sh l.again s e.again h x.1)
lay r z e (declares m c) s t l pc (h, to) =
    let entry = pc + 1 in
    let end = beyond entry c in
    let a = lay r z ending c (entry_shape (length m.parameters)) first_shape (ending_at end) entry h in
    let b = lay_building r m.free m entry s t to (end + 1) in
    let rest = plain first_shape ∷ b.spots in
    let here = λ (sh : Shapes) (p : Placed sh pc (plain s ∷ (a.spots ++ rest))). placed_back sh entry end a.spots rest a.sized p.1 in
    record {
      spots = plain s ∷ (a.spots ++ rest);
      sized = omega (arith, a.sized, b.sized, length-append a.spots rest);
      made = ap (λ ps. ordinary ∷ ps)
          (pieces_after a.spots rest (pieces c) (ordinary ∷ building_pieces m.free) a.made (ap (λ ps. ordinary ∷ ps) b.made));
      start = λ sh p w. p.0;
      meets = λ sh p w x.
          let q = here sh p in
          let closed = q.0 in
          let enters = a.start sh (placed_front sh entry a.spots rest p.1) closed in (
            b.start sh q.1,
            meeting_after r sh entry end (assemble (ending_at end) entry c) (after_body m entry) a.spots rest a.sized
                (a.meets sh (placed_front sh entry a.spots rest p.1) closed (closed, closed, closed))
                (returned r sh end z, b.meets sh q.1 w enters),
          );
    }
