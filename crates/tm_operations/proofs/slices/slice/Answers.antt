use Rattle.tm_operations.proofs.Refused.{passed}
use Rattle.tm_values.proofs.Asked.{passes, fails}
use Rattle.tm_definitions.specs.Slices.{parts_in, cut_by}
use Rattle.tm_values.specs.Defined.{refusal_of, unless}
use Rattle.tm_values.specs.declared.undefined.UndefinedUse.TheVariants as use_of
use Rattle.tm_operations.proofs.slices.slice.Goals as goal

-- the value may be sliced
pub returns : goal.returns
returns c =
    let stated = cut_by c.args.value.now (parts_in c.args.start.now c.args.stop.now c.args.step.now) in
    passes (refusal_of c.args.behavior use_of.Slice c.args.value.now) stated c.cut_by.result c.check_defined.result tt
    c.check_defined.ensures c.in_ok-check_defined.was c.cut_by.ensures

pub returns-in_err-check_defined : goal.returns-in_err-check_defined
returns-in_err-check_defined c =
    let stated = cut_by c.args.value.now (parts_in c.args.start.now c.args.stop.now c.args.step.now) in
    let refusal = refusal_of c.args.behavior use_of.Slice c.args.value.now in
    let chain = c.in_err-check_defined.field-0.0 in
    passed c.from_residual.result chain (unless refusal stated) c.from_residual.ensures.1
    (fails refusal stated c.check_defined.result chain c.check_defined.ensures c.in_err-check_defined.was)
