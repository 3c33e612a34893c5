use Rattle.std.proofs.Common.{arith}
use Rattle.tm_records.specs.Macros.{given_in}
use Rattle.tm_records.proofs.Binding.{too_many_for}
use Rattle.tm_records.proofs.bound.bind_each.Goals as goal

pub returns-then-plain-names : goal.returns-then-plain-names
returns-then-plain-names c = λ m. (
  c.from.ensures,
  too_many_for c.args.names.now c.args.plain.now (given_in c.args.keywords) (omega (arith, c.if-plain-names.true)),
)
