use Rattle.std.proofs.Common.{◌≡◌, ◌∙◌, None, Some, ap, refl, sym, subst, arith, get_or, length}
use Rattle.std.specs.Prelude.{slice_get}
use Rattle.tm_shapes.specs.CacheNames.{names_of, told}
use Rattle.tm_shapes.proofs.CacheNames.{none_named, one_named, set_named, taken_so, told_by}
use Rattle.tm_shapes.proofs.Rests.{item_at}
use Rattle.tm_shapes.proofs.placed.CacheNames.take.Goals as goal

pub returns-in-None : goal.returns-in-None
returns-in-None c =
    let names = c.args.self.now.names.items in
    taken_so c.args.name.now c.args.number (names_of names) None None c.if-number-eq-NO_CACHE.false
    (none_named names c.args.number (omega (arith, c.in-None.ensures.lookup.3, ap length c.deref.ensures.value))) refl

pub returns-in-Some-known : goal.returns-in-Some-known
returns-in-Some-known c =
    let names = c.args.self.now.names.items in
    let read = c.deref.result.now in
    let at : slice_get read c.args.number ≡ Some (Some c.in-Some-known.known) =
    item_at read c.args.number c.in-Some.known.now c.in-Some.ensures.lookup.3.0 c.in-Some.ensures.lookup.1 ∙ ap Some c.in-Some-known.is in
    taken_so c.args.name.now c.args.number (names_of names) (Some (Some c.in-Some-known.known.now)) _ c.if-number-eq-NO_CACHE.false
    (one_named names c.args.number (Some c.in-Some-known.known) (ap (λ xs. slice_get xs c.args.number) (sym c.deref.ensures.value) ∙ at))
    (told_by _ _ ∙ ap (λ b. told b (names_of names)) (sym c.eq.ensures))

pub returns-in-None-known : goal.returns-in-None-known
returns-in-None-known c =
    let names = c.args.self.now.names.items in
    let read = c.deref.result.now in
    let at : slice_get read c.args.number ≡ Some None =
    item_at read c.args.number c.in-Some.known.now c.in-Some.ensures.lookup.3.0 c.in-Some.ensures.lookup.1 ∙ ap Some c.in-None-known.is in
    taken_so c.args.name.now c.args.number (names_of names) (Some None) _ c.if-number-eq-NO_CACHE.false
    (one_named names c.args.number None (ap (λ xs. slice_get xs c.args.number) (sym c.deref.ensures.value) ∙ at))
    (ap Some (sym (set_named names c.args.number (Some c.args.name))))
