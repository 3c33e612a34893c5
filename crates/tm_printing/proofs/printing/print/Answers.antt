use Rattle.std.proofs.Common.{List, ℕ, subst, sym}
use Rattle.tm_printing.specs.Left.{Writes}
use Rattle.tm_definitions.specs.Printed.{printed}
use Rattle.tm_definitions.specs.Texts.{as_is_all}
use Rattle.tm_printing.proofs.printing.print.Goals as goal

pub returns : goal.returns
returns g c =
    subst (λ (text : List ℕ). Writes g.T.Target.took g.T.Target.stopped c.write_value.result c.args.target.now text
    c.write_value.new.target)
    (sym (as_is_all (printed (g.R.Records.records c.args.records.now) c.args.value.now))) c.write_value.ensures
