use Rattle.std.proofs.Common.{◌≡◌, ap, sym, ◌∙◌, refl, Some, arith}
use Rattle.tm_values.specs.Val.{pairs_of}
use Rattle.tm_values.specs.Records.{namespace_at}
use Rattle.tm_definitions.specs.Verdicts.{pairs_verdict}
use Rattle.tm_printing.proofs.Checks.{opened, goes_from, goes_put, weight-joined, weight_put, weight_opened}
use Rattle.tm_printing.specs.Unchecked.{Part, to_check}
use Rattle.tm_printing.specs.declared.check.Unchecked.TheVariants as unchecked
use Rattle.tm_printing.proofs.check.open_namespace.Goals as goal

pub returns-clause-verdict : goal.returns-clause-verdict
returns-clause-verdict c = λ form r s unmet.
    let n = c.args.index in
    let left = c.args.left.now.items in
    let between = c.put.new.left.items in
    let marks = c.args.marks.now.items in
    let new_marks = c.set_mark.new.marks.items in
    let whole : Part = λ inside. inside s n in
    let held : Part = λ inside. pairs_verdict form r inside (pairs_of c.pairs.result.now) in
    let is : namespace_at r s n ≡ Some c.pairs.result.now = unmet.there ∙ ap Some (sym c.pairs.ensures.pairs) in
    goes_from form r c.put-2.result whole held left between c.put-2.new.left.items marks new_marks new_marks
    (λ v h. opened form r v s n c.pairs.result.now left between marks new_marks is unmet.mark c.in_ok-set_mark.ensures.marked
    c.in_ok-put.ensures.items h)
    (goes_put form r c.put-2.result held (unchecked.Pairs c.pairs.result) between c.put-2.new.left.items new_marks c.put-2.ensures.items
    c.put-2.ensures.memory refl (λ inside. refl))

pub returns-clause-weight : goal.returns-clause-weight
returns-clause-weight c = λ r s unmet.
    let n = c.args.index in
    let left = c.args.left.now.items in
    let between = c.put.new.left.items in
    let marks = c.args.marks.now.items in
    let new_marks = c.set_mark.new.marks.items in
    let is : namespace_at r s n ≡ Some c.pairs.result.now = unmet.there ∙ ap Some (sym c.pairs.ensures.pairs) in
    let less = weight_opened r s n c.pairs.result.now left marks new_marks is unmet.mark c.in_ok-set_mark.ensures.marked in
    let more = weight-joined left between (unchecked.End n) c.in_ok-put.ensures.items in
    weight_put r c.put-2.result between c.put-2.new.left.items new_marks (unchecked.Pairs c.pairs.result) (to_check r left marks)
    c.put-2.ensures.items (omega (arith, less, more))
