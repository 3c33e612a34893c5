use Rattle.std.proofs.Common.{List, Result}
use Rattle.std.specs.Prelude.{IfErr}
use Rattle.tm_values.specs.declared.error.ErrorKind.{ErrorKind}
use Rattle.tm_templates.specs.Templates.{IsRefused}
use Rattle.template_machine.specs.Environment.{TemplateValue}
use Rattle.template_machine.proofs.Answered.{passed}
use Rattle.template_machine.proofs.environment.EnvironmentOf.template_from_named_str.Goals as goal

pub returns-in_err-template-clause-refused : goal.returns-in_err-template-clause-refused
returns-in_err-template-clause-refused g c =
    let why = c.in_err-template.field-0.0 in
    let Refused : Result (TemplateValue g.row.O.Denot) (List ErrorKind) →
    Type 0 = λ r. IfErr r (IsRefused c.args.self.now.syntax c.args.source.now) in
    passed c.from_residual.result Refused why c.from_residual.ensures.1 c.in_err-template.ensures.refused
