use Rattle.std.proofs.Common.{rules, ap, ◌-◌, ◌∙◌}
use Rattle.tm_operations.specs.Begun.{outermost}
use Rattle.tm_operations.proofs.Making.{if_ok, namespace_within, namespace_lighter}
use Rattle.tm_operations.proofs.mapped.enter_namespace.Goals as goal

pub returns-clause-ok : goal.returns-clause-ok
returns-clause-ok g c =
    let r = g.R.Records.records c.args.records.now in
    if_ok c.all_pairs.result (λ n h. h r ∙ ap (outermost r c.args.begun.now.items)
    (namespace_within r c.args.levels (c.args.levels - 1) c.args.state c.args.index c.pairs.result.now (search rules) (search rules)))
    c.all_pairs.ensures.ok

pub returns-clause-less : goal.returns-clause-less
returns-clause-less g c =
    let r = g.R.Records.records c.args.records.now in
    if_ok c.all_pairs.result (λ n h. namespace_lighter r c.args.levels (c.args.levels - 1) c.args.state c.args.index c.pairs.result.now
    (search rules) (search rules) _ _ (h r)) c.all_pairs.ensures.no_more
