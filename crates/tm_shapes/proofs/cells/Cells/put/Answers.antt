use Rattle.std.proofs.Common.{rules, ◌≡◌, Some, length, sym, ap, subst, ◌∙◌}
use Rattle.tm_shapes.specs.Cells.{Grown, cell_at}
use Rattle.tm_shapes.specs.Numbers.{Fit}
use Rattle.tm_shapes.proofs.Numbered.{known, numbered, grown-one, fit-more}
use Rattle.tm_shapes.proofs.cells.Cells.put.Goals as goal

pub returns-in-Some-clause-found : goal.returns-in-Some-clause-found
returns-in-Some-clause-found c =
    subst (λ cells. cell_at cells c.in-Some.number.now ≡ Some c.args.cell) c.self.view_is
    (known c.self.inside.cells.items c.self.inside.numbers c.self.invariant c.args.cell c.in-Some.number.now c.in-Some.ensures.value)

pub invariant_of-self-in-Ok : goal.invariant_of-self-in-Ok
invariant_of-self-in-Ok c =
    subst (λ cells. Fit cells c.insert.new.self.entries) (sym c.in_ok-push.ensures.items)
    (fit-more c.self.inside.cells.items c.args.cell c.self.inside.numbers c.insert.new.self c.self.invariant c.insert.ensures.was_ordered
    c.insert.ensures.ordered c.in_default.ensures.value c.len-number.result (search rules ∙ ap length c.in_ok-push.ensures.items)
    c.in-Ok.ensures.updates)

pub returns-in-Ok-clause-found : goal.returns-in-Ok-clause-found
returns-in-Ok-clause-found c =
    subst (λ cells. cell_at cells c.len-number.result ≡ Some c.args.cell) (sym c.in_ok-push.ensures.items)
    (numbered c.self.inside.cells.items c.args.cell c.len-number.result (search rules ∙ ap length c.in_ok-push.ensures.items))

pub returns-in-Ok-clause-grown : goal.returns-in-Ok-clause-grown
returns-in-Ok-clause-grown c =
    subst (λ cells. Grown cells c.push.new.self.items) c.self.view_is
    (subst (λ cells. Grown c.self.inside.cells.items cells) (sym c.in_ok-push.ensures.items)
    (grown-one c.self.inside.cells.items c.args.cell))
