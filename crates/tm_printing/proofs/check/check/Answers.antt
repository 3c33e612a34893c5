use Rattle.std.proofs.Common.{◌≡◌, List, length, subst, arith}
use Rattle.tm_definitions.specs.Verdicts.{nowhere, verdict_within}
use Rattle.tm_printing.proofs.Checks.{no_items, started, ended_empty, weight-joined}
use Rattle.tm_printing.proofs.Verdicts.{passed}
use Rattle.tm_printing.specs.Unchecked.{Stands, nothing}
use Rattle.tm_printing.specs.declared.check.Unchecked.{Unchecked}
use Rattle.tm_printing.proofs.check.check.Goals as goal

pub returns-in_err-enter : goal.returns-in_err-enter
returns-in_err-enter g c =
    let r = g.R.Records.records c.args.records.now in
    let begun = started c.args.form r c.args.value.now c.new-left.result.items c.new-marks.result.items c.new-left.ensures.items
    c.new-marks.ensures.items in
    passed c.from_residual.result c.in_err-enter.field-0.0 (verdict_within c.args.form r (length r.namespaces) nowhere c.args.value.now)
    c.from_residual.ensures.1 (λ m. c.in_err-enter.ensures.verdict m c.args.value.now begun)

pub loop-last-init : goal.loop-last-init
loop-last-init g c =
    let r = g.R.Records.records c.args.records.now in
    c.in_ok-enter.ensures.verdict c.args.value.now
    (started c.args.form r c.args.value.now c.new-left.result.items c.new-marks.result.items c.new-left.ensures.items
    c.new-marks.ensures.items)

pub loop-last-smaller : goal.loop-last-smaller
loop-last-smaller g c =
    let joined = weight-joined c.pop.new.self.items c.loop-last.left.items c.in-Some.last c.in-Some.ensures.items in
    let less = c.in_ok-check_one.ensures.weight in
    omega (arith, joined, less)

pub loop-last-preserved : goal.loop-last-preserved
loop-last-preserved g c =
    let r = g.R.Records.records c.args.records.now in
    c.in_ok-check_one.ensures.verdict c.args.value.now
    (subst (λ (l : List Unchecked). Stands c.args.form r c.args.value.now nothing l c.loop-last.marks.items) c.in-Some.ensures.items
    c.loop-last.invariant)

pub returns-in_err-check_one : goal.returns-in_err-check_one
returns-in_err-check_one g c =
    let r = g.R.Records.records c.args.records.now in
    passed c.from_residual-in_err-check_one.result c.in_err-check_one.field-0.0
    (verdict_within c.args.form r (length r.namespaces) nowhere c.args.value.now) c.from_residual-in_err-check_one.ensures.1
    (λ m. c.in_err-check_one.ensures.verdict m c.args.value.now
    (subst (λ (l : List Unchecked). Stands c.args.form r c.args.value.now nothing l c.loop-last.marks.items) c.in-Some.ensures.items
    c.loop-last.invariant))

pub returns : goal.returns
returns g c =
    let none : length c.loop-last.left.items ≡ 0 = omega (arith, c.in_default.ensures.cases, c.loop-last.left.ok) in
    ended_empty c.args.form (g.R.Records.records c.args.records.now) c.args.value.now c.loop-last.left.items c.loop-last.marks.items
    (no_items c.loop-last.left.items none) c.loop-last.invariant
