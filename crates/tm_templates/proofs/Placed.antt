-- Templates at the places of their names.
use Rattle.std.proofs.Common.{◌≡◌, ◌≢◌, ◌≤◌, ◌<◌, ◌+◌, ◌++◌, ◌∙◌, ◌⊎◌, inl, inr, ℕ, zero, suc, List, [], ◌∷◌, length, get_or, set, slice_get}
use Rattle.std.proofs.Common.{Option, None, Some, refl, sym, ap, subst, arith}
use Rattle.std.proofs.lemmas.Bool.{cases_eq}
use Rattle.std.proofs.lemmas.List.{get_or-set_other, get_or-set_same, get_or_append_left, get_or_push, get_or_read, length-append, length-map, length-set}
use Rattle.std.proofs.lemmas.List.Elements.{All-head, All-tail, All-weaker}
use Rattle.std.proofs.lemmas.Option.{get_or_from_slice_get, slice_get_within}
use Rattle.std.specs.List.Sorted.{IsStrictlySortedBy}
use Rattle.std.specs.Map.{keys_of}
use Rattle.std.specs.Option.{option_map}
use Rattle.tm_syntax.specs.Named.{Named, find, name_cmp, put, without}
use Rattle.tm_syntax.proofs.Named.{find_others, find_put, find_put_other, same_or_not}
use Rattle.tm_scopes.specs.Places.{AreOrdered}
use Rattle.tm_scopes.proofs.Places.{ordered-none, ordered-put}
use Rattle.tm_templates.specs.Templates.{AreFoundIn, ArePlacesOf, Compiled, EachPlaced, IsEntryAt, nothing, placed, template_at, with_place}
use Rattle.tm_templates.proofs.Gone.{gone}
use Rattle.tm_templates.proofs.Named.{find-turned}
use Rattle.tm_templates.proofs.Ordered.{each_found, find_instead, find_instead_other, is_put, is_without, ordered-instead, ordered-without}

-- what is read beyond the end
abbrev pub none : List ℕ × Compiled
none = ([], nothing)

find-placed : (x : List ℕ) (es : Named Compiled) (ps : Named ℕ) → find x (placed es ps) ≡ option_map (template_at es) (find x ps)
find-placed x es ps = find-turned (template_at es) x ps

pub not_placed : (x : List ℕ) (es : Named Compiled) (ps : Named ℕ) → find x ps ≡ None → find x (placed es ps) ≡ None
not_placed x es ps e = find-placed x es ps ∙ ap (option_map (template_at es)) e

is_placed : (x : List ℕ) (es : Named Compiled) (ps : Named ℕ) (i : ℕ) → find x ps ≡ Some i → find x (placed es ps) ≡ Some (template_at es i)
is_placed x es ps i e = find-placed x es ps ∙ ap (option_map (template_at es)) e

keys-placed : (es : Named Compiled) (ps : Named ℕ) → keys_of (placed es ps) ≡ keys_of ps
keys-placed es [] = refl
keys-placed es (p ∷ ps) = ap (λ l. p.0 ∷ l) (keys-placed es ps)

pub ordered-placed : (es : Named Compiled) (ps : Named ℕ) → AreOrdered ps → AreOrdered (placed es ps)
ordered-placed es ps o = subst (IsStrictlySortedBy name_cmp) (sym (keys-placed es ps)) o

pub length-placed : (es : Named Compiled) (ps : Named ℕ) → length (placed es ps) ≡ length ps
length-placed es ps = length-map ps (λ p. (p.0, template_at es p.1))

pub places_of_none : (es : Named Compiled) → es ≡ [] → ArePlacesOf [] es
places_of_none es none_there = record {
  ordered = ordered-none ℕ;
  of_names = λ x i e. absurd (cc e);
  of_entries = λ x i at. absurd (omega (arith, at.in_range, ap length none_there));
}

-- where two templates at a place are the same
same_at : (es ns : Named Compiled) (o : Option ℕ) → ((i : ℕ) → o ≡ Some i → template_at ns i ≡ template_at es i) →
    option_map (template_at ns) o ≡ option_map (template_at es) o
same_at es ns None same = refl
same_at es ns (Some i) same = ap Some (same i refl)

placed_same : (x : List ℕ) (es ns : Named Compiled) (ps qs : Named ℕ) → find x qs ≡ find x ps →
    ((i : ℕ) → find x ps ≡ Some i → template_at ns i ≡ template_at es i) → find x (placed ns qs) ≡ find x (placed es ps)
placed_same x es ns ps qs e same =
    find-placed x ns qs ∙ ap (option_map (template_at ns)) e ∙ same_at es ns (find x ps) same ∙ sym (find-placed x es ps)

module _ (es : Named Compiled) (ps : Named ℕ) (are : ArePlacesOf ps es) where
  -- ---------------------------------------------------------------- what is read
  -- what is read at a name's place
  pub read_at : (x : List ℕ) (i : ℕ) (e : List ℕ × Compiled) → find x ps ≡ Some i → e ≡ get_or es i e →
      (e.0 ≡ x) × (find x (placed es ps) ≡ Some e.1)
  read_at x i e there is =
      let at = are.of_names x i there in
      let as_is : e ≡ get_or es i none = get_or_read es i e at.in_range is none in (
        ap (λ (q : List ℕ × Compiled). q.0) as_is ∙ at.named,
        is_placed x es ps i there ∙ ap (λ (q : List ℕ × Compiled). Some q.1) (sym as_is),
      )

  -- what is read at any place
  pub read_anywhere : (i : ℕ) (e : List ℕ × Compiled) → slice_get es i ≡ Some e → find e.0 (placed es ps) ≡ Some e.1
  read_anywhere i e at =
      let is : get_or es i none ≡ e = get_or_from_slice_get es i e none at in
      let there = are.of_entries e.0 i (record {
        in_range = slice_get_within es i e at;
        named = ap (λ (q : List ℕ × Compiled). q.0) is;
      }) in
      is_placed e.0 es ps i there ∙ ap (λ (q : List ℕ × Compiled). Some q.1) is

  pub all_placed : EachPlaced es ps
  all_placed =
      All-weaker (λ (p : List ℕ × ℕ). find p.0 ps ≡ Some p.1) (λ (p : List ℕ × ℕ). IsEntryAt es p.0 p.1)
      (λ p there. are.of_names p.0 p.1 there) ps (each_found ps are.ordered)

  pub all_found : AreFoundIn (placed es ps) (placed es ps)
  all_found = each_found (placed es ps) (ordered-placed es ps are.ordered)

  -- names that aren't the same have other places
  apart_at : (x y : List ℕ) (i j : ℕ) → find x ps ≡ Some i → find y ps ≡ Some j → y ≢ x → j ≢ i
  apart_at x y i j e f apart same =
      apart (sym (are.of_names y j f).named ∙ ap (λ k. (get_or es k none).0) same ∙ (are.of_names x i e).named)

  one_place : (x y : List ℕ) (i j : ℕ) → find x ps ≡ Some i → find y ps ≡ Some j → j ≢ i → y ≢ x
  one_place x y i j e f apart same =
      let g : find x ps ≡ Some j = ap (λ z. find z ps) (sym same) ∙ f in
      apart (cc (e, g))

-- ---------------------------------------------------------------- another template at a place
named-set : (es : Named Compiled) (i j : ℕ) (p : List ℕ × Compiled) (t : Compiled) → p ≡ get_or es i p →
    (get_or (set es i (p.0, t)) j none).0 ≡ (get_or es j none).0
named-set [] zero j p t is = refl
named-set [] (suc i) j p t is = refl
named-set (e ∷ es) zero zero p t is = ap (λ (q : List ℕ × Compiled). q.0) is
named-set (e ∷ es) zero (suc j) p t is = refl
named-set (e ∷ es) (suc i) zero p t is = refl
named-set (e ∷ es) (suc i) (suc j) p t is = named-set es i j p t is

module _ (es : Named Compiled) (ps : Named ℕ) (are : ArePlacesOf ps es) (i : ℕ) (p : List ℕ × Compiled) (t : Compiled) (is : p ≡ get_or es i p) where
  abbrev written : Named Compiled
  written = set es i (p.0, t)

  pub places-written : ArePlacesOf ps (set es i (p.0, t))
  places-written = record {
    ordered = are.ordered;
    of_names = λ x j there. record {
      in_range = subst (λ n. j < n) (sym (length-set es i (p.0, t))) (are.of_names x j there).in_range;
      named = named-set es i j p t is ∙ (are.of_names x j there).named;
    };
    of_entries = λ x j at. are.of_entries x j (record {
      in_range = subst (λ n. j < n) (length-set es i (p.0, t)) at.in_range;
      named = sym (named-set es i j p t is) ∙ at.named;
    });
  }

  pub placed-written : (x : List ℕ) → find x ps ≡ Some i → placed (set es i (p.0, t)) ps ≡ put x t (placed es ps)
  placed-written x there =
      let within = (are.of_names x i there).in_range in
      is_put x t (placed es ps) (placed written ps) (ordered-placed es ps are.ordered) (ordered-placed written ps are.ordered)
      (is_placed x written ps i there ∙ ap (λ (q : List ℕ × Compiled). Some q.1) (get_or-set_same es i (p.0, t) none within))
      (λ y apart. placed_same y es written ps ps refl (λ j e.
      ap (λ (q : List ℕ × Compiled). q.1) (get_or-set_other es i j (p.0, t) none (apart_at es ps are x y i j there e apart))))

-- ---------------------------------------------------------------- one more template
module _ (es : Named Compiled) (ps : Named ℕ) (are : ArePlacesOf ps es) (x : List ℕ) (t : Compiled) (absent : find x ps ≡ None) where
  abbrev longer : Named Compiled
  longer = es ++ (x, t) ∷ []

  abbrev more : Named ℕ
  more = put x (length es) ps

  in_longer : (i : ℕ) → i < length es → i < length longer
  in_longer i within = omega (arith, length-append es ((x, t) ∷ []))

  at_end : get_or longer (length es) none ≡ (x, t)
  at_end = get_or_push es (x, t) none (length es) refl

  named_by : (y : List ℕ) (i : ℕ) → (y ≡ x) ⊎ (y ≢ x) → find y more ≡ Some i → IsEntryAt longer y i
  named_by y i (inl same) there =
      let here : find x more ≡ Some i = ap (λ z. find z more) (sym same) ∙ there in
      let put_there : find x more ≡ Some (length es) = find_put x (length es) ps in
      let at : i ≡ length es = cc (here, put_there) in record {
        in_range = omega (arith, at, length-append es ((x, t) ∷ []));
        named = ap (λ k. (get_or longer k none).0) at ∙ ap (λ (q : List ℕ × Compiled). q.0) at_end ∙ sym same;
      }
  named_by y i (inr apart) there =
      let at = are.of_names y i (sym (find_put_other y x apart (length es) ps) ∙ there) in record {
        in_range = in_longer i at.in_range;
        named = ap (λ (q : List ℕ × Compiled). q.0) (get_or_append_left es ((x, t) ∷ []) none i at.in_range) ∙ at.named;
      }

  not_x : (y : List ℕ) (i : ℕ) → find y ps ≡ Some i → y ≢ x
  not_x y i there same =
      let here : find x ps ≡ Some i = ap (λ z. find z ps) (sym same) ∙ there in
      absurd (cc (here, absent))

  entry_by : (y : List ℕ) (i : ℕ) → IsEntryAt longer y i → (i ≡ length es) ⊎ (i ≢ length es) → find y more ≡ Some i
  entry_by y i at (inl same) =
      let is : x ≡ y = sym (ap (λ (q : List ℕ × Compiled). q.0) at_end) ∙ ap (λ k. (get_or longer k none).0) (sym same) ∙ at.named in
      ap (λ z. find z more) (sym is) ∙ find_put x (length es) ps ∙ ap Some (sym same)
  entry_by y i at (inr other) =
      let within : i < length es = omega (arith, at.in_range, other, length-append es ((x, t) ∷ [])) in
      let there = are.of_entries y i (record {
        in_range = within;
        named = sym (ap (λ (q : List ℕ × Compiled). q.0) (get_or_append_left es ((x, t) ∷ []) none i within)) ∙ at.named;
      }) in
      find_put_other y x (not_x y i there) (length es) ps ∙ there

  pub places-added : ArePlacesOf (put x (length es) ps) (es ++ (x, t) ∷ [])
  places-added = record {
    ordered = ordered-put x (length es) ps are.ordered;
    of_names = λ y i there. named_by y i (same_or_not y x) there;
    of_entries = λ y i at. entry_by y i at (cases_eq i (length es));
  }

  pub placed-added : placed (es ++ (x, t) ∷ []) (put x (length es) ps) ≡ put x t (placed es ps)
  placed-added =
      is_put x t (placed es ps) (placed longer more) (ordered-placed es ps are.ordered)
      (ordered-placed longer more (ordered-put x (length es) ps are.ordered))
      (is_placed x longer more (length es) (find_put x (length es) ps) ∙ ap (λ (q : List ℕ × Compiled). Some q.1) at_end)
      (λ y apart. placed_same y es longer ps more (find_put_other y x apart (length es) ps) (λ i there.
      ap (λ (q : List ℕ × Compiled). q.1) (get_or_append_left es ((x, t) ∷ []) none i (are.of_names y i there).in_range)))

-- ---------------------------------------------------------------- one template less
-- the template at place i is gone, and the last one is there, if it is another
pub record IsWithout (es : Named Compiled) (i : ℕ) (ns : Named Compiled) : Type 0 where
  pub long : length ns + 1 ≡ length es
  pub moved : i + 1 < length es → get_or ns i none ≡ get_or es (length ns) none
  pub others : (j : ℕ) → j ≢ i → j + 1 < length es → get_or ns j none ≡ get_or es j none

module _ (es : Named Compiled) (ps : Named ℕ) (are : ArePlacesOf ps es) (x : List ℕ) (i : ℕ) (there : find x ps ≡ Some i) (ns : Named Compiled)
    (less : IsWithout es i ns) where
  within : i < length es
  within = (are.of_names x i there).in_range

  abbrev fewer : Named ℕ
  fewer = without x ps

  -- what is neither removed nor moved stays
  stays : (y : List ℕ) (j : ℕ) → find y ps ≡ Some j → j ≢ i → j ≢ length ns → get_or ns j none ≡ get_or es j none
  stays y j e other other_too =
      let low = (are.of_names y j e).in_range in
      less.others j other (omega (arith, low, other_too, less.long))

  stays_at : (y : List ℕ) (j : ℕ) → find y ps ≡ Some j → j ≢ i → j ≢ length ns → IsEntryAt ns y j
  stays_at y j e other other_too =
      let at = are.of_names y j e in record {
        in_range = omega (arith, at.in_range, other_too, less.long);
        named = ap (λ (q : List ℕ × Compiled). q.0) (stays y j e other other_too) ∙ at.named;
      }

  was_at : (y : List ℕ) (j : ℕ) → j ≢ i → IsEntryAt ns y j → find y ps ≡ Some j
  was_at y j other at =
      let low : j + 1 < length es = omega (arith, at.in_range, less.long) in
      are.of_entries y j (record {
        in_range = omega (arith, low);
        named = sym (ap (λ (q : List ℕ × Compiled). q.0) (less.others j other low)) ∙ at.named;
      })

  left_of : (y : List ℕ) (j : ℕ) → (y ≡ x) ⊎ (y ≢ x) → find y fewer ≡ Some j → (y ≢ x) × (find y ps ≡ Some j)
  left_of y j (inl same) e =
      let none_left : find x fewer ≡ None = gone x ps are.ordered in
      let here : find x fewer ≡ Some j = ap (λ z. find z fewer) (sym same) ∙ e in
      absurd (cc (none_left, here))
  left_of y j (inr apart) e = (apart, sym (find_others y x apart ps) ∙ e)

  -- ---------------------------------------------------------------- the last one was removed
  module _ (last : length ns ≤ i) where
    is_last : i ≡ length ns
    is_last = omega (arith, last, within, less.long)

    not_last : (j : ℕ) → j ≢ i → j ≢ length ns
    not_last j other same = other (same ∙ sym is_last)

    pub places-last : ArePlacesOf (without x ps) ns
    places-last = record {
      ordered = ordered-without x ps are.ordered;
      of_names = λ y j e.
          let was = left_of y j (same_or_not y x) e in
          let other = apart_at es ps are x y i j there was.1 was.0 in
          stays_at y j was.1 other (not_last j other);
      of_entries = λ y j at.
          let other : j ≢ i = λ same. absurd (omega (arith, at.in_range, same, is_last)) in
          let was = was_at y j other at in
          find_others y x (one_place es ps are x y i j there was other) ps ∙ was;
    }

    pub placed-last : placed ns (without x ps) ≡ without x (placed es ps)
    placed-last =
        is_without x (placed es ps) (placed ns fewer) (ordered-placed es ps are.ordered) (ordered-placed ns fewer (ordered-without x ps are.ordered))
        (not_placed x ns fewer (gone x ps are.ordered))
        (λ y apart. placed_same y es ns ps fewer (find_others y x apart ps) (λ j e.
        let other = apart_at es ps are x y i j there e apart in
        ap (λ (q : List ℕ × Compiled). q.1) (stays y j e other (not_last j other))))

  -- ---------------------------------------------------------------- the last one was moved
  module _ (before : i < length ns) where
    moved_here : get_or ns i none ≡ get_or es (length ns) none
    moved_here = less.moved (omega (arith, before, less.long))

    pub moved_place : find (get_or ns i none).0 ps ≡ Some (length ns)
    moved_place = are.of_entries (get_or ns i none).0 (length ns) (record {
      in_range = omega (arith, less.long);
      named = sym (ap (λ (q : List ℕ × Compiled). q.0) moved_here);
    })

    other_end : length ns ≢ i
    other_end same = absurd (omega (arith, before, same))

    pub moved_apart : (get_or ns i none).0 ≢ x
    moved_apart = one_place es ps are x (get_or ns i none).0 i (length ns) there moved_place other_end

    pub moved_left : find (get_or ns i none).0 (without x ps) ≡ Some (length ns)
    moved_left = find_others (get_or ns i none).0 x moved_apart ps ∙ moved_place

    module _ (qs : Named ℕ) (ordered : AreOrdered qs) (here : find (get_or ns i none).0 qs ≡ Some i)
        (others : (y : List ℕ) → y ≢ (get_or ns i none).0 → find y qs ≡ find y (without x ps)) where
      not_moved : (y : List ℕ) (j : ℕ) → y ≢ (get_or ns i none).0 → find y ps ≡ Some j → j ≢ length ns
      not_moved y j apart e = apart_at es ps are (get_or ns i none).0 y (length ns) j moved_place e apart

      named_by_new : (y : List ℕ) (j : ℕ) → (y ≡ (get_or ns i none).0) ⊎ (y ≢ (get_or ns i none).0) → find y qs ≡ Some j → IsEntryAt ns y j
      named_by_new y j (inl same) e =
          let at : find (get_or ns i none).0 qs ≡ Some j = ap (λ z. find z qs) (sym same) ∙ e in
          let is : j ≡ i = cc (at, here) in record {
            in_range = omega (arith, before, is);
            named = ap (λ k. (get_or ns k none).0) is ∙ sym same;
          }
      named_by_new y j (inr apart) e =
          let was = left_of y j (same_or_not y x) (sym (others y apart) ∙ e) in
          stays_at y j was.1 (apart_at es ps are x y i j there was.1 was.0) (not_moved y j apart was.1)

      entry_by_new : (y : List ℕ) (j : ℕ) → (j ≡ i) ⊎ (j ≢ i) → IsEntryAt ns y j → find y qs ≡ Some j
      entry_by_new y j (inl same) at =
          let is : (get_or ns i none).0 ≡ y = ap (λ k. (get_or ns k none).0) (sym same) ∙ at.named in
          ap (λ z. find z qs) (sym is) ∙ here ∙ ap Some (sym same)
      entry_by_new y j (inr other) at =
          let was = was_at y j other at in
          let not_end : j ≢ length ns = λ same. absurd (omega (arith, at.in_range, same)) in
          let apart = one_place es ps are (get_or ns i none).0 y (length ns) j moved_place was not_end in
          others y apart ∙ find_others y x (one_place es ps are x y i j there was other) ps ∙ was

      pub places-moved : ArePlacesOf qs ns
      places-moved = record {
        ordered = ordered;
        of_names = λ y j e. named_by_new y j (same_or_not y (get_or ns i none).0) e;
        of_entries = λ y j at. entry_by_new y j (cases_eq j i) at;
      }

      seen_by : (y : List ℕ) → y ≢ x → (y ≡ (get_or ns i none).0) ⊎ (y ≢ (get_or ns i none).0) → find y (placed ns qs) ≡ find y (placed es ps)
      seen_by y apart (inl same) =
          ap (λ z. find z (placed ns qs)) same ∙ is_placed (get_or ns i none).0 ns qs i here
          ∙ ap (λ (q : List ℕ × Compiled). Some q.1) moved_here
          ∙ sym (is_placed (get_or ns i none).0 es ps (length ns) moved_place) ∙ ap (λ z. find z (placed es ps)) (sym same)
      seen_by y apart (inr not_m) =
          placed_same y es ns ps qs (others y not_m ∙ find_others y x apart ps) (λ j e.
          ap (λ (q : List ℕ × Compiled). q.1) (stays y j e (apart_at es ps are x y i j there e apart) (not_moved y j not_m e)))

      pub placed-moved : placed ns qs ≡ without x (placed es ps)
      placed-moved =
          is_without x (placed es ps) (placed ns qs) (ordered-placed es ps are.ordered) (ordered-placed ns qs ordered)
          (not_placed x ns qs (others x (λ same. moved_apart (sym same)) ∙ gone x ps are.ordered))
          (λ y apart. seen_by y apart (same_or_not y (get_or ns i none).0))

    -- the last one's name has the place of the one that was removed
    abbrev corrected : Named ℕ
    corrected = with_place (get_or ns i none).0 i (without x ps)

    in_order : AreOrdered corrected
    in_order = ordered-instead (get_or ns i none).0 i (without x ps) (ordered-without x ps are.ordered)

    has_place : find (get_or ns i none).0 corrected ≡ Some i
    has_place = find_instead (get_or ns i none).0 i (length ns) (without x ps) moved_left

    others_keep : (y : List ℕ) → y ≢ (get_or ns i none).0 → find y corrected ≡ find y (without x ps)
    others_keep y apart = find_instead_other (get_or ns i none).0 y apart i (without x ps)

    pub places-corrected : ArePlacesOf (with_place (get_or ns i none).0 i (without x ps)) ns
    places-corrected = places-moved corrected in_order has_place others_keep

    pub placed-corrected : placed ns (with_place (get_or ns i none).0 i (without x ps)) ≡ without x (placed es ps)
    placed-corrected = placed-moved corrected in_order has_place others_keep

-- ---------------------------------------------------------------- the iterator
pub rest_placed : (es : Named Compiled) (ps qs : Named ℕ) (p : List ℕ × ℕ) → ps ≡ p ∷ qs → EachPlaced es ps → IsEntryAt es p.0 p.1 × EachPlaced es qs
rest_placed es ps qs p is all =
    let whole : EachPlaced es (p ∷ qs) = subst (EachPlaced es) is all in (
      All-head (λ (p : List ℕ × ℕ). IsEntryAt es p.0 p.1) p qs whole,
      All-tail (λ (p : List ℕ × ℕ). IsEntryAt es p.0 p.1) p qs whole,
    )

pub first_placed : (es : Named Compiled) (ps qs : Named ℕ) (seen : Named Compiled) (p : List ℕ × ℕ) (e : List ℕ × Compiled) → ps ≡ p ∷ qs →
    placed es ps ≡ seen → IsEntryAt es p.0 p.1 → e ≡ get_or es p.1 e → seen ≡ e ∷ placed es qs
first_placed es ps qs seen p e is seen_is at e_is =
    let as_is : e ≡ get_or es p.1 none = get_or_read es p.1 e at.in_range e_is none in
    let name : p.0 ≡ e.0 = sym at.named ∙ ap (λ (q : List ℕ × Compiled). q.0) (sym as_is) in
    let item : template_at es p.1 ≡ e.1 = ap (λ (q : List ℕ × Compiled). q.1) (sym as_is) in
    let first : (p.0, template_at es p.1) ≡ e = ap (λ (z : List ℕ). (z, template_at es p.1)) name ∙ ap (λ (t : Compiled). (e.0, t)) item in
    sym seen_is ∙ ap (placed es) is ∙ ap (λ (q : List ℕ × Compiled). q ∷ placed es qs) first
