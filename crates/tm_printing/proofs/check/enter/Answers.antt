use Rattle.std.proofs.Common.{sym, ◌∙◌, ◌+◌, arith}
use Rattle.tm_definitions.specs.Verdicts.{verdict}
use Rattle.tm_values.specs.Val.{val_size}
use Rattle.tm_printing.proofs.Checks.{instead, goes_put, goes_leaf, weight_put, unweighed, no_namespace}
use Rattle.tm_printing.proofs.Writable.{plain_fine}
use Rattle.tm_printing.specs.Unchecked.{nothing, to_check}
use Rattle.tm_printing.proofs.check.enter.Goals as goal

pub returns-then-is_plain-clause-verdict : goal.returns-then-is_plain-clause-verdict
returns-then-is_plain-clause-verdict g c = λ v h.
    let form = c.args.form in
    let r = g.R.Records.records c.args.records.now in
    instead form r v (λ inside. verdict form r inside c.args.value.now) nothing c.args.left.now.items c.args.marks.now.items h
    (λ inside all. plain_fine form r inside c.args.value.now (sym c.is_plain.ensures ∙ c.if-is_plain.true))

pub returns-in-Some : goal.returns-in-Some
returns-in-Some g c =
    let form = c.args.form in
    let r = g.R.Records.records c.args.records.now in
    let left = c.args.left.now.items in
    let marks = c.args.marks.now.items in
    let x = c.in-Some.parts in
    let facts = c.in-Some.ensures in
    record {
      verdict = goes_put form r c.put.result (λ inside. verdict form r inside c.args.value.now) x left c.put.new.left.items marks
          c.put.ensures.items c.put.ensures.memory facts.1.0 (facts.0 r);
      weight = weight_put r c.put.result left c.put.new.left.items marks x (to_check r left marks + val_size c.args.value.now)
          c.put.ensures.items (omega (arith, facts.1.1));
    }

pub returns-in-None : goal.returns-in-None
returns-in-None g c =
    let form = c.args.form in
    let r = g.R.Records.records c.args.records.now in
    let plain = no_namespace c.value.inside.node c.args.value.now c.value.view_is c.in_default.not-Namespace in
    record {
      verdict = goes_leaf form r c.check_leaf.result (λ inside. verdict form r inside c.args.value.now) _ c.args.left.now.items
          c.args.marks.now.items c.check_leaf.ensures (λ inside. c.in-None.ensures r inside plain);
      weight = unweighed c.check_leaf.result _ (val_size c.args.value.now);
    }
