use Rattle.std.proofs.Common.{◌++◌, map, sym, ap, ◌∙◌}
use Rattle.std.proofs.lemmas.List.{append-nil}
use Rattle.std.specs.Map.{keys_of}
use Rattle.std.specs.Rc.{rc_str_bytes}
use Rattle.tm_syntax.specs.Named.{texts_of}
use Rattle.tm_syntax.proofs.Named.{keys_named}
use Rattle.tm_syntax.proofs.name_map.NameMap.names.Goals as goal

pub returns : goal.returns
returns g c =
    let read = texts_of c.loop-name.names.items in
    sym (append-nil read) ∙ ap (λ left. read ++ map rc_str_bytes left) (sym c.in-None.ensures.steps.0) ∙ c.loop-name.invariant
    ∙ ap (map rc_str_bytes) (c.into_iter-name-iterator.ensures.into_iter_gives ∙ c.keys-name-items.ensures.rest)
    ∙ keys_named c.self.inside.by_name.entries ∙ ap keys_of c.self.view_is
