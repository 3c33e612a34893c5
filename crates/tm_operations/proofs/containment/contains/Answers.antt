use Rattle.tm_operations.proofs.Refused.{passed}
use Rattle.tm_values.proofs.Asked.{passes, passes_on, fails}
use Rattle.tm_definitions.specs.Containment.{found_in}
use Rattle.tm_values.specs.Defined.{refusal_of, unless}
use Rattle.tm_values.specs.declared.undefined.UndefinedUse.TheVariants as use_of
use Rattle.tm_operations.proofs.containment.contains.Goals as goal

-- both sides may be used so
pub returns : goal.returns
returns g c =
    let stated = found_in (g.R.Records.records c.args.records.now) c.args.container.now c.args.item.now in
    let left = refusal_of c.args.behavior use_of.Comparison c.args.item.now in
    let right = refusal_of c.args.behavior use_of.Containment c.args.container.now in
    passes right (unless left stated) c.find_in.result c.check_defined.result tt c.check_defined.ensures c.in_ok-check_defined.was
    (passes left stated c.find_in.result c.check_defined-2.result tt c.check_defined-2.ensures c.in_ok-check_defined-2.was
    c.find_in.ensures)

-- the right side may, and the left one not
pub returns-in_err-check_defined-2 : goal.returns-in_err-check_defined-2
returns-in_err-check_defined-2 g c =
    let stated = found_in (g.R.Records.records c.args.records.now) c.args.container.now c.args.item.now in
    let left = refusal_of c.args.behavior use_of.Comparison c.args.item.now in
    let right = refusal_of c.args.behavior use_of.Containment c.args.container.now in
    let chain = c.in_err-check_defined-2.field-0.0 in
    let refused = fails left stated c.check_defined-2.result chain c.check_defined-2.ensures c.in_err-check_defined-2.was in
    passed c.from_residual-in_err-check_defined-2.result chain (unless right (unless left stated))
    c.from_residual-in_err-check_defined-2.ensures.1
    (passes_on right (unless left stated) c.check_defined.result tt chain c.check_defined.ensures c.in_ok-check_defined.was refused)

pub returns-in_err-check_defined : goal.returns-in_err-check_defined
returns-in_err-check_defined g c =
    let stated = found_in (g.R.Records.records c.args.records.now) c.args.container.now c.args.item.now in
    let left = refusal_of c.args.behavior use_of.Comparison c.args.item.now in
    let right = refusal_of c.args.behavior use_of.Containment c.args.container.now in
    let chain = c.in_err-check_defined.field-0.0 in
    passed c.from_residual.result chain (unless right (unless left stated)) c.from_residual.ensures.1
    (fails right (unless left stated) c.check_defined.result chain c.check_defined.ensures c.in_err-check_defined.was)
