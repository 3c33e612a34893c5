use Rattle.std.proofs.Common.{◌++◌, [], ◌∷◌, ap, refl, arith}
use Rattle.tm_printing.proofs.Checks.{popped, goes_from, goes_closed, less_after, less_marked}
use Rattle.tm_printing.specs.Unchecked.{nothing, part_of, one_weight}
use Rattle.tm_printing.specs.declared.check.Unchecked.{Unchecked}
use Rattle.tm_printing.specs.declared.check.Unchecked.TheVariants as unchecked
use Rattle.tm_printing.proofs.check.check_one.Goals as goal

pub returns-in-Items-clause-verdict : goal.returns-in-Items-clause-verdict
returns-in-Items-clause-verdict g c =
    let form = c.args.form in
    let r = g.R.Records.records c.args.records.now in
    let left = c.args.left.now.items in
    let marks = c.args.marks.now.items in
    let x = unchecked.Items c.in-Items.items in
    let all = left ++ c.args.last ∷ [] in
    goes_from form r c.check_items.result nothing (part_of form r x) all left c.check_items.new.left.items marks marks
    c.check_items.new.marks.items
    (λ v h. popped form r v all left marks x (ap (λ (y : Unchecked). left ++ y ∷ []) c.in-Items.is) refl h) c.check_items.ensures.verdict

pub returns-in-Pairs-clause-verdict : goal.returns-in-Pairs-clause-verdict
returns-in-Pairs-clause-verdict g c =
    let form = c.args.form in
    let r = g.R.Records.records c.args.records.now in
    let left = c.args.left.now.items in
    let marks = c.args.marks.now.items in
    let x = unchecked.Pairs c.in-Pairs.pairs in
    let all = left ++ c.args.last ∷ [] in
    goes_from form r c.check_pairs.result nothing (part_of form r x) all left c.check_pairs.new.left.items marks marks
    c.check_pairs.new.marks.items
    (λ v h. popped form r v all left marks x (ap (λ (y : Unchecked). left ++ y ∷ []) c.in-Pairs.is) refl h) c.check_pairs.ensures.verdict

pub returns-in-Value-clause-verdict : goal.returns-in-Value-clause-verdict
returns-in-Value-clause-verdict g c =
    let form = c.args.form in
    let r = g.R.Records.records c.args.records.now in
    let left = c.args.left.now.items in
    let marks = c.args.marks.now.items in
    let x = unchecked.Value c.in-Value.value in
    let all = left ++ c.args.last ∷ [] in
    goes_from form r c.enter.result nothing (part_of form r x) all left c.enter.new.left.items marks marks c.enter.new.marks.items
    (λ v h. popped form r v all left marks x (ap (λ (y : Unchecked). left ++ y ∷ []) c.in-Value.is) refl h) c.enter.ensures.verdict

pub returns-in-Value-clause-weight : goal.returns-in-Value-clause-weight
returns-in-Value-clause-weight g c =
    let weighs = ap one_weight c.in-Value.is in
    less_after c.enter.result _ _ _ c.enter.ensures.weight (omega (arith, weighs))

pub returns-in-End-clause-verdict : goal.returns-in-End-clause-verdict
returns-in-End-clause-verdict g c =
    let left = c.args.left.now.items in
    goes_closed c.args.form (g.R.Records.records c.args.records.now) c.set_mark.result c.in-End.index (left ++ c.args.last ∷ []) left
    c.args.marks.now.items c.set_mark.new.marks.items (ap (λ (y : Unchecked). left ++ y ∷ []) c.in-End.is) c.set_mark.ensures.marked
    c.set_mark.ensures.memory

pub returns-in-End-clause-weight : goal.returns-in-End-clause-weight
returns-in-End-clause-weight g c =
    rw c.in-End.is (less_marked (g.R.Records.records c.args.records.now) c.set_mark.result c.in-End.index c.args.left.now.items
    c.args.marks.now.items c.set_mark.new.marks.items c.set_mark.ensures.marked)
