use Rattle.std.proofs.Common.{◌++◌, sym, ap, ◌∙◌}
use Rattle.std.proofs.lemmas.List.{append-nil}
use Rattle.tm_syntax.specs.Named.{named_of, pairs_of}
use Rattle.tm_syntax.proofs.name_map.NameMap.pairs.Goals as goal

pub returns : goal.returns
returns g c =
    let read = pairs_of c.loop-name.pairs.items in
    sym (append-nil read) ∙ ap (λ left. read ++ named_of left) (sym c.in-None.ensures.steps.0) ∙ c.loop-name.invariant
    ∙ ap named_of (c.into_iter-name-iterator.ensures.into_iter_gives ∙ c.iter-name-items.ensures.rest) ∙ c.self.view_is
