use Rattle.std.proofs.Common.{◌∙◌, ap}
use Rattle.tm_syntax.specs.Named.{put}
use Rattle.tm_scopes.specs.Pairs.{in_order}
use Rattle.tm_scopes.proofs.Ordered.{put_among}
use Rattle.tm_scopes.proofs.closures.Closure.insert.Goals as goal

pub returns-clause-ok : goal.returns-clause-ok
returns-clause-ok c =
    ap in_order c.in_ok-insert.ensures.entries ∙ put_among c.args.name c.args.value c.self.inside.names.entries
    ∙ ap (put c.args.name c.args.value) c.self.view_is
