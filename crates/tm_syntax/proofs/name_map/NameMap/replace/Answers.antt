use Rattle.std.proofs.Common.{◌∙◌, ap}
use Rattle.std.specs.Rc.{rc_str_bytes}
use Rattle.tm_syntax.specs.Named.{find, put, named_of}
use Rattle.tm_syntax.proofs.Named.{find_named, put_named}
use Rattle.tm_syntax.proofs.name_map.NameMap.replace.Goals as goal

pub returns-clause-before : goal.returns-clause-before
returns-clause-before t c =
    c.in_ok-before.ensures.old
    ∙ find_named c.self.inside.by_name.entries (rc_str_bytes c.into_text.result)
    ∙ ap (λ n. find n (named_of c.self.inside.by_name.entries)) c.into_text.ensures
    ∙ ap (find c.args.name) c.self.view_is

pub returns-clause-ok : goal.returns-clause-ok
returns-clause-ok t c =
    ap named_of c.in_ok-before.ensures.entries
    ∙ put_named c.self.inside.by_name.entries c.into_text.result c.args.item
    ∙ ap (λ n. put n c.args.item (named_of c.self.inside.by_name.entries)) c.into_text.ensures
    ∙ ap (put c.args.name c.args.item) c.self.view_is
