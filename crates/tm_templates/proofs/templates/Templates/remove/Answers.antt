use Rattle.std.proofs.Common.{◌≡◌, ◌≢◌, ◌∙◌, ◌+◌, ◌<◌, ◌≤◌, ◌-◌, ℕ, List, Some, ap, arith, get_or, length, refl, slice_get, subst, sym}
use Rattle.std.proofs.lemmas.Option.{get_or_from_slice_get, slice_get_read, slice_get_within}
use Rattle.tm_syntax.specs.Named.{Named, find, named_of, without}
use Rattle.tm_syntax.proofs.Named.{find_named, find_others, without_absent, without_named}
use Rattle.tm_scopes.specs.Places.{AreOrdered}
use Rattle.tm_templates.specs.Templates.{ArePlacesOf, Compiled, EachAccepted, placed, with_place}
use Rattle.tm_templates.proofs.Accepted.{without_accepted}
use Rattle.tm_templates.proofs.Gone.{gone}
use Rattle.tm_templates.proofs.Placed.{IsWithout, none, not_placed, ordered-placed, placed-corrected, placed-last, places-corrected, places-last}
use Rattle.tm_templates.proofs.templates.Templates.remove.Goals as goal

-- what `swap_remove` leaves
less_by : (es ns : Named Compiled) (i m n : ℕ) → m ≡ length es → n ≡ length ns → n + 1 ≡ m →
    ((d : List ℕ × Compiled) → i + 1 < m → get_or ns i d ≡ get_or es (m - 1) d)
    × ((k : ℕ) (d : List ℕ × Compiled) → k ≢ i → k + 1 < m → get_or ns k d ≡ get_or es k d) → IsWithout es i ns
less_by es ns i m n m_is n_is long by =
    let last : m - 1 ≡ length ns = omega (arith, n_is, long) in record {
      long = omega (arith, m_is, n_is, long);
      moved = λ h. by.0 none (omega (arith, h, m_is)) ∙ ap (λ (k : ℕ). get_or es k none) last;
      others = λ j other h. by.1 j none other (omega (arith, h, m_is));
    }

-- what `get` finds
at_place : (ns lent : Named Compiled) (i : ℕ) (e : List ℕ × Compiled) → lent ≡ ns → i < length lent → e ≡ get_or lent i e → slice_get ns i ≡ Some e
at_place ns lent i e is within read =
    subst (λ (l : Named Compiled). slice_get l i ≡ Some e) is (slice_get_read lent (length lent) i e refl within read)

pub swap_remove-removed-requires : goal.swap_remove-removed-requires
swap_remove-removed-requires c =
    let there = sym (find_named c.self.inside.places.entries c.args.name.now) ∙ sym c.in-Some.ensures.value in
    omega (arith, (c.self.invariant.0.of_names c.args.name.now c.in-Some.place there).in_range, c.self.inside.entries.ok.0)

-- ---------------------------------------------------------------- the last entry took the place
pub invariant_of-self : goal.invariant_of-self
invariant_of-self c =
    let es = c.self.inside.entries.items in
    let ps = named_of c.self.inside.places.entries in
    let ns = c.swap_remove-removed.new.self.items in
    let x = c.args.name.now in
    let i = c.in-Some.place in
    let there = sym (find_named c.self.inside.places.entries x) ∙ sym c.in-Some.ensures.value in
    let less : IsWithout es i ns = less_by es ns i c.self.inside.entries.len c.swap_remove-removed.new.self.len c.self.inside.entries.ok.0
    c.swap_remove-removed.new.self.ok.0 c.swap_remove-removed.ensures.len c.swap_remove-removed.ensures.by_index in
    let e = c.in-Some-get.moved.now in
    let at = at_place ns c.deref.result.now i e c.deref.ensures.value c.in-Some-get.ensures.lookup.3.0 c.in-Some-get.ensures.lookup.1 in
    let before : i < length ns = slice_get_within ns i e at in
    let places_are : named_of c.set_place.new.places.entries ≡ with_place (get_or ns i none).0 i (without x ps) =
    c.set_place.ensures
    ∙ ap (λ (m : List ℕ). with_place m i (named_of c.remove.new.self.entries)) (c.as_str.ensures ∙ ap (λ (q : List ℕ × Compiled). q.0)
    (sym (get_or_from_slice_get ns i e none at)))
    ∙ ap (with_place (get_or ns i none).0 i) (ap named_of c.in-Some.ensures.entries ∙ without_named c.self.inside.places.entries x) in
    subst (λ (qs : Named ℕ). ArePlacesOf qs ns × EachAccepted (placed ns qs)) (sym places_are) (
      places-corrected es ps c.self.invariant.0 x i there ns less before,
      subst EachAccepted (sym (placed-corrected es ps c.self.invariant.0 x i there ns less before))
          (without_accepted x (placed es ps) c.self.invariant.1),
    )

pub returns-in-Some-get : goal.returns-in-Some-get
returns-in-Some-get c =
    let es = c.self.inside.entries.items in
    let ps = named_of c.self.inside.places.entries in
    let ns = c.swap_remove-removed.new.self.items in
    let x = c.args.name.now in
    let i = c.in-Some.place in
    let there = sym (find_named c.self.inside.places.entries x) ∙ sym c.in-Some.ensures.value in
    let less : IsWithout es i ns = less_by es ns i c.self.inside.entries.len c.swap_remove-removed.new.self.len c.self.inside.entries.ok.0
    c.swap_remove-removed.new.self.ok.0 c.swap_remove-removed.ensures.len c.swap_remove-removed.ensures.by_index in
    let e = c.in-Some-get.moved.now in
    let at = at_place ns c.deref.result.now i e c.deref.ensures.value c.in-Some-get.ensures.lookup.3.0 c.in-Some-get.ensures.lookup.1 in
    let before : i < length ns = slice_get_within ns i e at in
    let places_are : named_of c.set_place.new.places.entries ≡ with_place (get_or ns i none).0 i (without x ps) =
    c.set_place.ensures
    ∙ ap (λ (m : List ℕ). with_place m i (named_of c.remove.new.self.entries)) (c.as_str.ensures ∙ ap (λ (q : List ℕ × Compiled). q.0)
    (sym (get_or_from_slice_get ns i e none at)))
    ∙ ap (with_place (get_or ns i none).0 i) (ap named_of c.in-Some.ensures.entries ∙ without_named c.self.inside.places.entries x) in
    let rest = ap (placed ns) places_are ∙ placed-corrected es ps c.self.invariant.0 x i there ns less before ∙ ap (without x) c.self.view_is in
    let ordered = subst AreOrdered c.self.view_is (ordered-placed es ps c.self.invariant.0.ordered) in record {
      rest = rest;
      absent = λ h. rest ∙ without_absent x c.args.self.now h;
      gone = ap (find x) rest ∙ gone x c.args.self.now ordered;
      others = λ y apart. ap (find y) rest ∙ find_others y x apart c.args.self.now;
    }

-- ---------------------------------------------------------------- it was the last entry
pub invariant_of-self-in_default-get : goal.invariant_of-self-in_default-get
invariant_of-self-in_default-get c =
    let es = c.self.inside.entries.items in
    let ps = named_of c.self.inside.places.entries in
    let ns = c.swap_remove-removed.new.self.items in
    let x = c.args.name.now in
    let i = c.in-Some.place in
    let there = sym (find_named c.self.inside.places.entries x) ∙ sym c.in-Some.ensures.value in
    let less : IsWithout es i ns = less_by es ns i c.self.inside.entries.len c.swap_remove-removed.new.self.len c.self.inside.entries.ok.0
    c.swap_remove-removed.new.self.ok.0 c.swap_remove-removed.ensures.len c.swap_remove-removed.ensures.by_index in
    let last : length ns ≤ i = subst (λ (l : Named Compiled). length l ≤ i) c.deref.ensures.value c.in_default-get.ensures.lookup.3 in
    let places_are = ap named_of c.in-Some.ensures.entries ∙ without_named c.self.inside.places.entries x in
    subst (λ (qs : Named ℕ). ArePlacesOf qs ns × EachAccepted (placed ns qs)) (sym places_are) (
      places-last es ps c.self.invariant.0 x i there ns less last,
      subst EachAccepted (sym (placed-last es ps c.self.invariant.0 x i there ns less last))
          (without_accepted x (placed es ps) c.self.invariant.1),
    )

pub returns-in-Some : goal.returns-in-Some
returns-in-Some c =
    let es = c.self.inside.entries.items in
    let ps = named_of c.self.inside.places.entries in
    let ns = c.swap_remove-removed.new.self.items in
    let x = c.args.name.now in
    let i = c.in-Some.place in
    let there = sym (find_named c.self.inside.places.entries x) ∙ sym c.in-Some.ensures.value in
    let less : IsWithout es i ns = less_by es ns i c.self.inside.entries.len c.swap_remove-removed.new.self.len c.self.inside.entries.ok.0
    c.swap_remove-removed.new.self.ok.0 c.swap_remove-removed.ensures.len c.swap_remove-removed.ensures.by_index in
    let last : length ns ≤ i = subst (λ (l : Named Compiled). length l ≤ i) c.deref.ensures.value c.in_default-get.ensures.lookup.3 in
    let places_are = ap named_of c.in-Some.ensures.entries ∙ without_named c.self.inside.places.entries x in
    let rest = ap (placed ns) places_are ∙ placed-last es ps c.self.invariant.0 x i there ns less last ∙ ap (without x) c.self.view_is in
    let ordered = subst AreOrdered c.self.view_is (ordered-placed es ps c.self.invariant.0.ordered) in record {
      rest = rest;
      absent = λ h. rest ∙ without_absent x c.args.self.now h;
      gone = ap (find x) rest ∙ gone x c.args.self.now ordered;
      others = λ y apart. ap (find y) rest ∙ find_others y x apart c.args.self.now;
    }

-- ---------------------------------------------------------------- there was none
pub returns-clause-rest : goal.returns-clause-rest
returns-clause-rest c =
    let es = c.self.inside.entries.items in
    let ps = named_of c.self.inside.places.entries in
    let x = c.args.name.now in
    let absent = sym (find_named c.self.inside.places.entries x) ∙ sym c.in_default.ensures.value in
    let same = ap named_of c.in_default.ensures.entries ∙ without_named c.self.inside.places.entries x ∙ without_absent x ps absent in
    let not_seen = ap (find x) (sym c.self.view_is) ∙ not_placed x es ps absent in
    ap (placed es) same ∙ c.self.view_is ∙ sym (without_absent x c.args.self.now not_seen)

pub returns-clause-gone : goal.returns-clause-gone
returns-clause-gone c =
    let es = c.self.inside.entries.items in
    let ps = named_of c.self.inside.places.entries in
    let x = c.args.name.now in
    let absent = sym (find_named c.self.inside.places.entries x) ∙ sym c.in_default.ensures.value in
    let same = ap named_of c.in_default.ensures.entries ∙ without_named c.self.inside.places.entries x ∙ without_absent x ps absent in
    ap (λ (qs : Named ℕ). find x (placed es qs)) same ∙ not_placed x es ps absent
