use Rattle.std.proofs.lemmas.Result.{err_from_is_err_and}
use Rattle.tm_values.proofs.Asked.{passes, passes_on, fails}
use Rattle.tm_definitions.specs.Concatenation.{joined}
use Rattle.tm_values.specs.Defined.{refusal_of, unless}
use Rattle.tm_values.specs.declared.undefined.UndefinedUse.TheVariants as use_of
use Rattle.tm_printing.proofs.concatenation.concatenate_to.Goals as goal

-- both sides may be used so
pub returns : goal.returns
returns g c =
    let stated = joined (g.R.Records.records c.args.records.now) c.args.left c.args.right.now in
    let left = refusal_of c.args.behavior use_of.Comparison c.args.left in
    let right = refusal_of c.args.behavior use_of.Comparison c.args.right.now in
    passes left (unless right stated) c.join.result c.check_defined.result tt c.check_defined.ensures c.in_ok-check_defined.was
    (passes right stated c.join.result c.check_defined-2.result tt c.check_defined-2.ensures c.in_ok-check_defined-2.was c.join.ensures)

-- the left side may, and the right one not
pub returns-in_err-check_defined-2 : goal.returns-in_err-check_defined-2
returns-in_err-check_defined-2 g c =
    let stated = joined (g.R.Records.records c.args.records.now) c.args.left c.args.right.now in
    let left = refusal_of c.args.behavior use_of.Comparison c.args.left in
    let right = refusal_of c.args.behavior use_of.Comparison c.args.right.now in
    let chain = c.in_err-check_defined-2.field-0.0 in
    let refused = fails right stated c.check_defined-2.result chain c.check_defined-2.ensures c.in_err-check_defined-2.was in
    let p = err_from_is_err_and c.from_residual-in_err-check_defined-2.result c.from_residual-in_err-check_defined-2.ensures.1 in
    rw (p.1, p.2) (λ _. passes_on left (unless right stated) c.check_defined.result tt chain c.check_defined.ensures
    c.in_ok-check_defined.was refused)

pub returns-in_err-check_defined : goal.returns-in_err-check_defined
returns-in_err-check_defined g c =
    let stated = joined (g.R.Records.records c.args.records.now) c.args.left c.args.right.now in
    let left = refusal_of c.args.behavior use_of.Comparison c.args.left in
    let right = refusal_of c.args.behavior use_of.Comparison c.args.right.now in
    let chain = c.in_err-check_defined.field-0.0 in
    let p = err_from_is_err_and c.from_residual.result c.from_residual.ensures.1 in
    rw (p.1, p.2) (λ _. fails left (unless right stated) c.check_defined.result chain c.check_defined.ensures c.in_err-check_defined.was)
