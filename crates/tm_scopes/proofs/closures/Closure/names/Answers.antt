use Rattle.std.proofs.Common.{◌≡◌, ◌∙◌, ◌++◌, sym, ap}
use Rattle.std.proofs.lemmas.List.{append-nil}
use Rattle.std.specs.Map.{keys_of}
use Rattle.tm_syntax.specs.Named.{texts_of}
use Rattle.tm_scopes.specs.Known.{is_among}
use Rattle.tm_scopes.proofs.Ordered.{names_in_order}
use Rattle.tm_scopes.proofs.closures.Closure.names.Goals as goal

pub returns : goal.returns
returns c =
    let entries = c.self.inside.names.entries in
    let read = texts_of c.loop-name.names.items in
    let whole : read ≡ keys_of entries =
    sym (append-nil read) ∙ ap (λ left. read ++ left) (sym c.in-None.ensures.steps.0) ∙ c.loop-name.invariant
    ∙ c.into_iter-name-iterator.ensures.into_iter_gives ∙ c.keys-name-items.ensures.rest in
    names_in_order (texts_of c.in_order.result.items) entries c.in_order.ensures.order
    (λ z. c.in_order.ensures.same z ∙ ap (is_among z) whole)
    ∙ ap keys_of c.self.view_is
