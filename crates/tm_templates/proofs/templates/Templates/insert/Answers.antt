use Rattle.std.proofs.Common.{◌≡◌, ◌∙◌, ◌++◌, ◌∷◌, [], ℕ, List, ap, arith, length, subst, sym}
use Rattle.tm_syntax.specs.Named.{Named, find, named_of, put}
use Rattle.tm_syntax.proofs.Named.{find_named, put_named}
use Rattle.tm_templates.specs.Templates.{ArePlacesOf, Compiled, EachAccepted, placed}
use Rattle.tm_templates.proofs.Accepted.{put_accepted}
use Rattle.tm_templates.proofs.Placed.{placed-added, placed-written, places-added, places-written}
use Rattle.tm_templates.proofs.templates.Templates.insert.Goals as goal

pub index_mut-requires : goal.index_mut-requires
index_mut-requires c =
    let there = ap (λ (x : List ℕ). find x (named_of c.self.inside.places.entries)) (sym c.as_str.ensures)
    ∙ sym (find_named c.self.inside.places.entries c.as_str.result.now) ∙ sym c.in-Some.ensures.value in
    omega (arith, (c.self.invariant.0.of_names c.args.name c.in-Some.at.now there).in_range, c.self.inside.entries.ok.0)

pub invariant_of-self : goal.invariant_of-self
invariant_of-self c =
    let es = c.self.inside.entries.items in
    let ps = named_of c.self.inside.places.entries in
    let there = ap (λ (x : List ℕ). find x ps) (sym c.as_str.ensures) ∙ sym (find_named c.self.inside.places.entries c.as_str.result.now)
    ∙ sym c.in-Some.ensures.value in
    let p = c.index_mut.result.now in (
      places-written es ps c.self.invariant.0 c.in-Some.at.now p c.args.template c.index_mut.ensures.value,
      subst EachAccepted
          (sym (placed-written es ps c.self.invariant.0 c.in-Some.at.now p c.args.template c.index_mut.ensures.value c.args.name there))
          (put_accepted c.args.name c.args.template (placed es ps) c.accepted.ensures c.self.invariant.1),
    )

pub returns-in-Some-clause-ok : goal.returns-in-Some-clause-ok
returns-in-Some-clause-ok c =
    let es = c.self.inside.entries.items in
    let ps = named_of c.self.inside.places.entries in
    let there = ap (λ (x : List ℕ). find x ps) (sym c.as_str.ensures) ∙ sym (find_named c.self.inside.places.entries c.as_str.result.now)
    ∙ sym c.in-Some.ensures.value in
    placed-written es ps c.self.invariant.0 c.in-Some.at.now c.index_mut.result.now c.args.template c.index_mut.ensures.value c.args.name there
    ∙ ap (put c.args.name c.args.template) c.self.view_is

pub invariant_of-self-in-None : goal.invariant_of-self-in-None
invariant_of-self-in-None c =
    let es = c.self.inside.entries.items in
    let ps = named_of c.self.inside.places.entries in
    let absent = ap (λ (x : List ℕ). find x ps) (sym c.as_str.ensures) ∙ sym (find_named c.self.inside.places.entries c.as_str.result.now)
    ∙ sym c.in-None.ensures.value in
    let text = c.in_ok-text-in-None.text in
    let longer : c.push_reserved.new.self.items ≡ es ++ (c.args.name, c.args.template) ∷ [] =
    c.push_reserved.ensures.items ∙ ap (λ (l : Named Compiled). l ++ (c.args.name, c.args.template) ∷ []) c.reserve.ensures.items in
    let more : named_of c.insert.new.self.entries ≡ put c.args.name (length es) ps =
    ap named_of c.in_ok-insert-in-None.ensures.entries ∙ put_named c.self.inside.places.entries text c.len-place.result
    ∙ ap (λ (n : List ℕ). put n c.len-place.result ps) c.in_ok-text-in-None.ensures
    ∙ ap (λ (k : ℕ). put c.args.name k ps) (c.len-place.ensures ∙ c.self.inside.entries.ok.0) in
    subst (λ (l : Named Compiled). ArePlacesOf (named_of c.insert.new.self.entries) l × EachAccepted (placed l (named_of c.insert.new.self.entries)))
    (sym longer)
    (subst (λ (qs : Named ℕ). ArePlacesOf qs (es ++ (c.args.name, c.args.template) ∷ [])
    × EachAccepted (placed (es ++ (c.args.name, c.args.template) ∷ []) qs)) (sym more) (
      places-added es ps c.self.invariant.0 c.args.name c.args.template absent,
      subst EachAccepted (sym (placed-added es ps c.self.invariant.0 c.args.name c.args.template absent))
          (put_accepted c.args.name c.args.template (placed es ps) c.accepted.ensures c.self.invariant.1),
    ))

pub returns-in_ok-insert-in-None-clause-ok : goal.returns-in_ok-insert-in-None-clause-ok
returns-in_ok-insert-in-None-clause-ok c =
    let es = c.self.inside.entries.items in
    let ps = named_of c.self.inside.places.entries in
    let absent = ap (λ (x : List ℕ). find x ps) (sym c.as_str.ensures) ∙ sym (find_named c.self.inside.places.entries c.as_str.result.now)
    ∙ sym c.in-None.ensures.value in
    let text = c.in_ok-text-in-None.text in
    let longer : c.push_reserved.new.self.items ≡ es ++ (c.args.name, c.args.template) ∷ [] =
    c.push_reserved.ensures.items ∙ ap (λ (l : Named Compiled). l ++ (c.args.name, c.args.template) ∷ []) c.reserve.ensures.items in
    let more : named_of c.insert.new.self.entries ≡ put c.args.name (length es) ps =
    ap named_of c.in_ok-insert-in-None.ensures.entries ∙ put_named c.self.inside.places.entries text c.len-place.result
    ∙ ap (λ (n : List ℕ). put n c.len-place.result ps) c.in_ok-text-in-None.ensures
    ∙ ap (λ (k : ℕ). put c.args.name k ps) (c.len-place.ensures ∙ c.self.inside.entries.ok.0) in
    ap (λ (l : Named Compiled). placed l (named_of c.insert.new.self.entries)) longer
    ∙ ap (placed (es ++ (c.args.name, c.args.template) ∷ [])) more
    ∙ placed-added es ps c.self.invariant.0 c.args.name c.args.template absent
    ∙ ap (put c.args.name c.args.template) c.self.view_is
