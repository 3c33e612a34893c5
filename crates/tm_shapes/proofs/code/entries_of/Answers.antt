use Rattle.std.proofs.Common.{◌++◌, sym, ap, subst, ◌∙◌}
use Rattle.std.proofs.lemmas.List.{append-nil}
use Rattle.std.specs.List.Sorted.{IsStrictlySortedBy}
use Rattle.std.specs.Map.{keys_of}
use Rattle.std.specs.Ordering.{nat_cmp}
use Rattle.tm_syntax.specs.Entries.{Entries}
use Rattle.tm_shapes.proofs.Entries.{rise}
use Rattle.tm_shapes.proofs.code.entries_of.Goals as goal

pub returns-clause-order : goal.returns-clause-order
returns-clause-order c =
    let items = c.loop-place.found.items in
    let same = sym (append-nil items) ∙ ap (λ left. items ++ left) (sym c.in-None.ensures.steps.0) ∙ c.loop-place.invariant
    ∙ (c.into_iter-place-iterator.ensures.into_iter_gives ∙ c.iter-place-items.ensures.rest) in
    rise items (subst (λ (es : Entries). IsStrictlySortedBy nat_cmp (keys_of es)) (sym same) c.iter-place-items.ensures.ordered)
