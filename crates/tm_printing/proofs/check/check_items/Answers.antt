use Rattle.std.proofs.Common.{◌≡◌, ◌+◌, List, ap, refl, arith}
use Rattle.tm_values.specs.Val.{Val, val_size, vals_size, vals_of}
use Rattle.tm_definitions.specs.Verdicts.{items_verdict, verdict}
use Rattle.tm_printing.proofs.Checks.{no_items, instead, pushed, goes_from, weight-joined, less_after}
use Rattle.tm_printing.specs.Unchecked.{Part, nothing, to_check}
use Rattle.tm_printing.specs.declared.check.Unchecked.TheVariants as unchecked
use Rattle.tm_printing.proofs.check.check_items.Goals as goal

pub returns-in_default-clause-verdict : goal.returns-in_default-clause-verdict
returns-in_default-clause-verdict g c = λ v h.
    let form = c.args.form in
    let r = g.R.Records.records c.args.records.now in
    instead form r v (λ inside. items_verdict form r inside (vals_of c.args.items.now)) nothing c.args.left.now.items
    c.args.marks.now.items h
    (λ inside all. ap (λ (l : List Val). items_verdict form r inside (vals_of l)) (no_items c.args.items.now c.in_default.ensures.cases))

pub returns-clause-verdict : goal.returns-clause-verdict
returns-clause-verdict g c =
    let form = c.args.form in
    let r = g.R.Records.records c.args.records.now in
    let left = c.args.left.now.items in
    let marks = c.args.marks.now.items in
    let between = c.put.new.left.items in
    let all : Part = λ inside. items_verdict form r inside (vals_of c.args.items.now) in
    let first : Part = λ inside. verdict form r inside c.in-Some.item.now in
    goes_from form r c.enter.result all first left between c.enter.new.left.items marks marks c.enter.new.marks.items
    (λ v h. pushed form r v all first left between marks (unchecked.Items c.in-Some.after) c.in_ok-put.ensures.items refl
    (λ inside. ap (λ (l : List Val). items_verdict form r inside (vals_of l)) c.in-Some.ensures.cases.0) h)
    c.enter.ensures.verdict

pub returns-clause-weight : goal.returns-clause-weight
returns-clause-weight g c =
    let r = g.R.Records.records c.args.records.now in
    let left = c.args.left.now.items in
    let marks = c.args.marks.now.items in
    let between = c.put.new.left.items in
    let more = weight-joined left between (unchecked.Items c.in-Some.after) c.in_ok-put.ensures.items in
    let parts : vals_size (vals_of c.args.items.now) ≡ val_size c.in-Some.item.now + vals_size (vals_of c.in-Some.after.now) + 1 =
    ap (λ (l : List Val). vals_size (vals_of l)) c.in-Some.ensures.cases.0 in
    less_after c.enter.result _ (to_check r between marks + val_size c.in-Some.item.now) _ c.enter.ensures.weight
    (omega (arith, more, parts))
