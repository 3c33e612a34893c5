use Rattle.std.proofs.Common.{◌≡◌, ◌+◌, List, ap, refl, ◌∙◌, arith}
use Rattle.tm_values.specs.Val.{Val, val_size, pairs_size, pairs_of}
use Rattle.tm_definitions.specs.Verdicts.{Verdict, and_then, verdict, pairs_verdict}
use Rattle.tm_printing.proofs.Checks.{no_items, goes_passed, instead, pushed, goes_from, goes_key, weight-joined, less_after}
use Rattle.tm_printing.specs.Unchecked.{Part, nothing, to_check}
use Rattle.tm_printing.specs.declared.check.Unchecked.TheVariants as unchecked
use Rattle.tm_printing.proofs.check.check_pairs.Goals as goal

pub returns-in_default-clause-verdict : goal.returns-in_default-clause-verdict
returns-in_default-clause-verdict g c = λ v h.
    let form = c.args.form in
    let r = g.R.Records.records c.args.records.now in
    instead form r v (λ inside. pairs_verdict form r inside (pairs_of c.args.pairs.now)) nothing c.args.left.now.items
    c.args.marks.now.items h
    (λ inside all. ap (λ (l : List (Val × Val)). pairs_verdict form r inside (pairs_of l))
    (no_items c.args.pairs.now c.in_default.ensures.cases))

pub returns-in_err-check_key-clause-verdict : goal.returns-in_err-check_key-clause-verdict
returns-in_err-check_key-clause-verdict g c =
    let form = c.args.form in
    let r = g.R.Records.records c.args.records.now in
    let left = c.args.left.now.items in
    let marks = c.args.marks.now.items in
    goes_passed form r c.from_residual.result c.in_err-check_key.field-0.0
    (λ inside. pairs_verdict form r inside (pairs_of c.args.pairs.now)) left left marks marks c.from_residual.ensures.1
    (λ m v h. goes_key form r c.in-Some.pair.now c.args.pairs.now c.in-Some.after.now left marks c.in_err-check_key.field-0.0 v
    c.in-Some.ensures.cases.0 (c.in_err-check_key.ensures m) h)

pub returns-clause-verdict : goal.returns-clause-verdict
returns-clause-verdict g c =
    let form = c.args.form in
    let r = g.R.Records.records c.args.records.now in
    let left = c.args.left.now.items in
    let marks = c.args.marks.now.items in
    let between = c.put.new.left.items in
    let pair = c.in-Some.pair.now in
    let all : Part = λ inside. pairs_verdict form r inside (pairs_of c.args.pairs.now) in
    let key : Part = λ inside. verdict form r inside pair.0 in
    let both : Part = λ inside. and_then (verdict form r inside pair.0) (verdict form r inside pair.1) in
    goes_from form r c.enter.result all key left c.put-2.new.left.items c.enter.new.left.items marks marks c.enter.new.marks.items
    (λ v h. pushed form r v both key between c.put-2.new.left.items marks (unchecked.Value (_)) c.in_ok-put-2.ensures.items refl
    (λ inside. refl)
    (pushed form r v all both left between marks (unchecked.Pairs c.in-Some.after) c.in_ok-put.ensures.items refl
    (λ inside.
    let after = pairs_verdict form r inside (pairs_of c.in-Some.after.now) in
    ap (λ (l : List (Val × Val)). pairs_verdict form r inside (pairs_of l)) c.in-Some.ensures.cases.0
    ∙ ap (λ (o : Verdict). and_then (and_then o (both inside)) after) c.in_ok-check_key.ensures) h))
    c.enter.ensures.verdict

pub returns-clause-weight : goal.returns-clause-weight
returns-clause-weight g c =
    let r = g.R.Records.records c.args.records.now in
    let left = c.args.left.now.items in
    let marks = c.args.marks.now.items in
    let between = c.put.new.left.items in
    let pair = c.in-Some.pair.now in
    let one = weight-joined left between (unchecked.Pairs c.in-Some.after) c.in_ok-put.ensures.items in
    let two = weight-joined between c.put-2.new.left.items (unchecked.Value (_)) c.in_ok-put-2.ensures.items in
    let parts : pairs_size (pairs_of c.args.pairs.now)
    ≡ val_size pair.0 + val_size pair.1 + pairs_size (pairs_of c.in-Some.after.now) + 2 =
    ap (λ (l : List (Val × Val)). pairs_size (pairs_of l)) c.in-Some.ensures.cases.0 in
    less_after c.enter.result _ (to_check r c.put-2.new.left.items marks + val_size pair.0) _ c.enter.ensures.weight
    (omega (arith, one, two, parts))
