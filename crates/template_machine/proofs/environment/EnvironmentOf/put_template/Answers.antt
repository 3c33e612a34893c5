use Rattle.std.proofs.Common.{List, Result}
use Rattle.std.specs.Prelude.{IfErr}
use Rattle.tm_values.specs.declared.error.ErrorKind.{ErrorKind}
use Rattle.tm_templates.specs.Sources.{source_bytes}
use Rattle.tm_templates.specs.Templates.{IsRefused}
use Rattle.template_machine.proofs.Answered.{passed}
use Rattle.template_machine.proofs.environment.EnvironmentOf.put_template.Goals as goal

pub returns-in_err-compiled-clause-refused : goal.returns-in_err-compiled-clause-refused
returns-in_err-compiled-clause-refused g c =
    let why = c.in_err-compiled.field-0.0 in
    let Refused : Result (Unit {0}) (List ErrorKind) →
    Type 0 = λ r. IfErr r (IsRefused c.args.self.now.syntax (source_bytes c.args.source)) in
    passed c.from_residual.result Refused why c.from_residual.ensures.1 c.in_err-compiled.ensures.refused
