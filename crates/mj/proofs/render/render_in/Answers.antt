use Rattle.std.specs.Prelude.{map}
use Rattle.std.proofs.Common.{ap}
use Rattle.template_machine.specs.Environment.{EnvironmentValue}
use Rattle.mj_words.specs.CommandLine.{asked_of}
use Rattle.mj.specs.Program.{input_of, named}
use Rattle.mj.proofs.Added.{is_found}
use Rattle.mj.proofs.Rendered.{started, is_meant_by, is_refused}
use Rattle.mj.proofs.Lists.{passed}
use Rattle.tm_objects.specs.contracts.callable.BoxDynCallableCallable.TheImpl as callables
use Rattle.tm_objects.specs.contracts.fallback.BoxDynMethodFallbackMethodFallback.TheImpl as fallbacks
use Rattle.tm_objects.specs.contracts.formatter.BoxDynFormatterFormatter.TheImpl as formatters
use Rattle.tm_objects.specs.contracts.escape_rule.BoxDynEscapeRuleEscapeRule.TheImpl as rules
use Rattle.tm_objects.specs.contracts.path_join.BoxDynPathJoinPathJoin.TheImpl as joins
use Rattle.mj.proofs.render.render_in.Goals as goal

pub returns : goal.returns
returns g c = λ members given.
    let input = input_of c.args.arguments.now members (map named c.args.sources.items) in
    let a = asked_of c.args.arguments.now in
    let put = c.in_ok-add_templates.ensures.ok in
    let start = started a c.limit.result _ _ _ c.requires.new c.set_fuel.ensures c.set_recursion_limit.ensures c.limit.ensures in
    c.render_template.ensures input (is_meant_by
    (callables.ghosts (g.dyn-1.0, g.dyn-1.1)).answers (fallbacks.ghosts (g.dyn-2.0, g.dyn-2.1)).answers
    (formatters.ghosts (g.dyn-3.0, g.dyn-3.1)).formats (rules.ghosts (g.dyn-4.0, g.dyn-4.1)).escapes
    (joins.ghosts (g.dyn-5.0, g.dyn-5.1)).joins
    input _ _ put.0 c.in_ok-template.template c.args.context start put.1 put.2 c.in_ok-template.ensures given)

-- a source was refused
pub returns-in_err-add_templates : goal.returns-in_err-add_templates
returns-in_err-add_templates g c = λ members given.
    let a = asked_of c.args.arguments.now in
    let start = started a c.limit.result _ _ _ c.requires.new c.set_fuel.ensures c.set_recursion_limit.ensures c.limit.ensures in
    let r = c.in_err-add_templates in
    passed c.from_residual.result _ _ r.field-0.0 c.from_residual.ensures.1
    (is_refused g.O.Write.contents (input_of c.args.arguments.now members (map named c.args.sources.items)) _ r.field-0.0 c.args.out.now
    (ap (λ (e : EnvironmentValue _). e.syntax) start) r.ensures.refused)

-- the first template is found, since it was put
pub returns-in_err-template : goal.returns-in_err-template
returns-in_err-template g c = λ members given.
    let put = c.in_ok-add_templates.ensures.ok in
    is_found _ _ c.args.arguments.now.file.now (map named c.args.sources.items) _ put.0 _ c.requires.first put.1
    (ap (λ (e : EnvironmentValue _). e.templates) put.2) c.in_err-template.ensures.1
