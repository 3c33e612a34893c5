use Rattle.std.proofs.Common.{sym, ap, ◌∙◌}
use Rattle.tm_parser.specs.Statements as spec
use Rattle.tm_parser.proofs.Calls.{called_with, is_called, not_spread, plain-form, spread-form}
use Rattle.tm_parser.proofs.emissions.emit_value.Goals as goal

pub unreachable-requires-in_default-pop : goal.unreachable-requires-in_default-pop
unreachable-requires-in_default-pop c =
    is_called _ _ _ _ (sym c.is_call_of_loop.ensures ∙ c.if-not-is_call_of_loop.false) (c.get.ensures ∙ sym c.into_inner.ensures
    ∙ c.in-Some.ensures) (c.in_default-pop.ensures.0)

pub unreachable-requires-in_default-argument : goal.unreachable-requires-in_default-argument
unreachable-requires-in_default-argument c =
    not_spread _ _ _ _ (sym c.is_call_of_loop.ensures ∙ c.if-not-is_call_of_loop.false) (c.get.ensures ∙ sym c.into_inner.ensures
    ∙ c.in-Some.ensures) c.pop.new.self c.in-Some-pop.argument _ c.in-Some-pop.ensures
    (c.in_default-argument.is ∙ spread-form c.in_default-argument.field-0)

pub returns : goal.returns
returns c =
    called_with _ _ _ _ (sym c.is_call_of_loop.ensures ∙ c.if-not-is_call_of_loop.false) (c.get.ensures ∙ sym c.into_inner.ensures
    ∙ c.in-Some.ensures) c.pop.new.self c.in-Some-pop.argument c.in-Plain.value c.in-Some-pop.ensures (c.in-Plain.is ∙ plain-form c.in-Plain.value)
    ∙ ap spec.emit_value c.get.ensures
