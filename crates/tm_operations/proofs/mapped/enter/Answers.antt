use Rattle.std.proofs.Common.{rules, ap, sym, ◌∙◌}
use Rattle.std.specs.Prelude.{Ok}
use Rattle.tm_definitions.specs.Mapped.{namespace_mapped}
use Rattle.tm_operations.specs.Begun.{outermost}
use Rattle.tm_operations.specs.declared.mapped.Kind.TheVariants as kind
use Rattle.tm_operations.proofs.Making.{if_ok, list_within, list_lighter, map_within, map_lighter, stays}
use Rattle.tm_operations.proofs.mapped.enter.Goals as goal

pub returns-then-writable-clause-ok : goal.returns-then-writable-clause-ok
returns-then-writable-clause-ok g c =
    let r = g.R.Records.records c.args.records.now in
    ap (outermost r c.args.begun.now.items)
    (ap Ok (search rules) ∙ sym (stays (namespace_mapped r c.args.levels) c.args.part.now (search rules)))

pub returns-in-List-clause-ok : goal.returns-in-List-clause-ok
returns-in-List-clause-ok g c =
    let r = g.R.Records.records c.args.records.now in
    if_ok c.next_item.result (λ n h. h r ∙ ap (outermost r c.args.begun.now.items)
    (list_within r c.args.levels c.args.part.now c.new.result.items c.as_slice.result.now c.new.ensures.items (search rules)))
    c.next_item.ensures.ok

pub returns-in-List-clause-less : goal.returns-in-List-clause-less
returns-in-List-clause-less g c =
    let r = g.R.Records.records c.args.records.now in
    if_ok c.next_item.result (λ n h. list_lighter r c.args.levels c.args.part.now c.as_slice.result.now _ _ (search rules) (h r))
    c.next_item.ensures.no_more

pub returns-in-Map-clause-ok : goal.returns-in-Map-clause-ok
returns-in-Map-clause-ok g c =
    let r = g.R.Records.records c.args.records.now in
    if_ok c.all_pairs.result (λ n h. h r ∙ ap (outermost r c.args.begun.now.items)
    (map_within r c.args.levels kind.Map c.args.part.now c.as_slice-in-Map.result.now (search rules)))
    c.all_pairs.ensures.ok

pub returns-in-Map-clause-less : goal.returns-in-Map-clause-less
returns-in-Map-clause-less g c =
    let r = g.R.Records.records c.args.records.now in
    if_ok c.all_pairs.result (λ n h. map_lighter r c.args.levels kind.Map c.args.part.now c.as_slice-in-Map.result.now _ _ (search rules) (h r))
    c.all_pairs.ensures.no_more

pub returns-in-Keywords-clause-ok : goal.returns-in-Keywords-clause-ok
returns-in-Keywords-clause-ok g c =
    let r = g.R.Records.records c.args.records.now in
    if_ok c.all_pairs-in-Keywords.result (λ n h. h r ∙ ap (outermost r c.args.begun.now.items)
    (map_within r c.args.levels kind.Keywords c.args.part.now c.as_slice-in-Keywords.result.now (search rules)))
    c.all_pairs-in-Keywords.ensures.ok

pub returns-in-Keywords-clause-less : goal.returns-in-Keywords-clause-less
returns-in-Keywords-clause-less g c =
    let r = g.R.Records.records c.args.records.now in
    if_ok c.all_pairs-in-Keywords.result (λ n h. map_lighter r c.args.levels kind.Keywords c.args.part.now c.as_slice-in-Keywords.result.now _ _ (search rules) (h r))
    c.all_pairs-in-Keywords.ensures.no_more

pub returns-in_ok-share-in-Exports-clause-ok : goal.returns-in_ok-share-in-Exports-clause-ok
returns-in_ok-share-in-Exports-clause-ok g c =
    let r = g.R.Records.records c.args.records.now in
    if_ok c.all_pairs-in-Exports.result (λ n h. h r ∙ ap (outermost r c.args.begun.now.items)
    (map_within r c.args.levels (kind.Module c.in_ok-share-in-Exports.field-0) c.args.part.now c.as_slice-in-Exports.result.now (search rules)))
    c.all_pairs-in-Exports.ensures.ok

pub returns-in_ok-share-in-Exports-clause-less : goal.returns-in_ok-share-in-Exports-clause-less
returns-in_ok-share-in-Exports-clause-less g c =
    let r = g.R.Records.records c.args.records.now in
    if_ok c.all_pairs-in-Exports.result (λ n h. map_lighter r c.args.levels (kind.Module c.in_ok-share-in-Exports.field-0) c.args.part.now c.as_slice-in-Exports.result.now _ _ (search rules) (h r))
    c.all_pairs-in-Exports.ensures.no_more
