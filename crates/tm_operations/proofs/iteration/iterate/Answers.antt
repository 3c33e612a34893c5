use Rattle.tm_operations.proofs.Refused.{passed_read}
use Rattle.tm_operations.proofs.Unpacking.{passes_read}
use Rattle.tm_values.proofs.Asked.{fails}
use Rattle.tm_definitions.specs.Iteration.{items_of}
use Rattle.tm_values.specs.Defined.{refusal_of, unless}
use Rattle.tm_values.specs.declared.undefined.UndefinedUse.TheVariants as use_of
use Rattle.tm_operations.proofs.iteration.iterate.Goals as goal

-- the value may be iterated
pub returns : goal.returns
returns g c =
    let stated = items_of (g.R.Records.records c.args.records.now) c.args.value.now in
    let refusal = refusal_of c.args.behavior use_of.Iteration c.args.value.now in
    passes_read refusal stated c.items.result _ c.check_defined.result tt c.check_defined.ensures c.in_ok-check_defined.was c.items.ensures

pub returns-in_err-check_defined : goal.returns-in_err-check_defined
returns-in_err-check_defined g c =
    let stated = items_of (g.R.Records.records c.args.records.now) c.args.value.now in
    let refusal = refusal_of c.args.behavior use_of.Iteration c.args.value.now in
    let chain = c.in_err-check_defined.field-0.0 in
    passed_read c.from_residual.result chain _ (unless refusal stated) c.from_residual.ensures.1
    (fails refusal stated c.check_defined.result chain c.check_defined.ensures c.in_err-check_defined.was)
