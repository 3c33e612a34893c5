use Rattle.std.proofs.Common.{◌≡◌, ◌∙◌, Some, ℕ, List, ap, arith, length, refl, slice_get, subst, sym}
use Rattle.std.proofs.lemmas.Option.{slice_get_read}
use Rattle.std.specs.Cmp.Lexicographic.{bytes_decides}
use Rattle.tm_syntax.specs.Named.{Named, find, named_of}
use Rattle.tm_syntax.proofs.Named.{find_named}
use Rattle.tm_templates.specs.Templates.{Compiled}
use Rattle.tm_templates.proofs.Placed.{not_placed, read_anywhere, read_at}
use Rattle.tm_templates.proofs.templates.Templates.entry.Goals as goal

pub index-entry-requires : goal.index-entry-requires
index-entry-requires c =
    let there = sym (find_named c.self.inside.places.entries c.args.name.now) ∙ sym c.in-Some-get.ensures.value in
    omega (arith, (c.self.invariant.0.of_names c.args.name.now c.in-Some-get.at.now there).in_range, c.self.inside.entries.ok.0)

pub returns-in-Some : goal.returns-in-Some
returns-in-Some c =
    let es = c.self.inside.entries.items in
    let lent = c.deref.result.now in
    let e = c.in-Some.entry.now in
    let found = c.in-Some.ensures.lookup in
    let at = subst (λ (l : Named Compiled). slice_get l c.args.place ≡ Some e) c.deref.ensures.value
    (slice_get_read lent (length lent) c.args.place e refl found.3.0 found.1) in
    let named : e.0 ≡ c.args.name.now = (bytes_decides e.0 c.args.name.now).0 (sym c.if-is.ensures) in (
      named,
      ap (λ (x : List ℕ). find x c.args.self.now) (sym named) ∙ ap (find e.0) (sym c.self.view_is)
          ∙ read_anywhere es (named_of c.self.inside.places.entries) c.self.invariant.0 c.args.place e at,
    )

pub returns-in-Some-get : goal.returns-in-Some-get
returns-in-Some-get c =
    let x = c.args.name.now in
    let e = c.index-entry.result.now in
    let there = sym (find_named c.self.inside.places.entries x) ∙ sym c.in-Some-get.ensures.value in
    let read = read_at c.self.inside.entries.items (named_of c.self.inside.places.entries) c.self.invariant.0 x c.in-Some-get.at.now e there
    c.index-entry.ensures in
    (read.0, ap (find x) (sym c.self.view_is) ∙ read.1)

pub returns-in-None : goal.returns-in-None
returns-in-None c =
    let x = c.args.name.now in
    let absent = sym (find_named c.self.inside.places.entries x) ∙ sym c.in-None.ensures.value in
    ap (find x) (sym c.self.view_is) ∙ not_placed x c.self.inside.entries.items (named_of c.self.inside.places.entries) absent
