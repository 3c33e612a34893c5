use Rattle.std.proofs.Common.{◌≡◌, ◌∙◌, false, sym, ap, is_eq}
use Rattle.std.proofs.lemmas.Map.Text.{is_eq-slice_cmp}
use Rattle.tm_values.proofs.Maps.{unlike}
use Rattle.tm_values.specs.Order.{val_cmp}
use Rattle.tm_values.specs.Val.{Val, text}
use Rattle.tm_values.proofs.value.Value.is_text.Goals as goal

pub returns-then-own-content : goal.returns-then-own-content
returns-then-own-content c =
    let own = c.as_str-own.result.now in
    let is : text own c.in-Text.field-1 ≡ c.args.self.now = cc (c.self.view_is, c.in-Text.is, c.as_str-own.ensures) in
    c.eq.ensures ∙ sym (is_eq-slice_cmp own c.args.content.now)
    ∙ ap (λ (v : Val). is_eq (val_cmp v (text c.args.content.now false))) is

pub returns-else-own-content : goal.returns-else-own-content
returns-else-own-content c =
    let own = c.as_str-own.result.now in
    let is : text own c.in-Text.field-1 ≡ c.args.self.now = cc (c.self.view_is, c.in-Text.is, c.as_str-own.ensures) in
    unlike own c.args.content.now c.if-own-content.false ∙ sym (is_eq-slice_cmp own c.args.content.now)
    ∙ ap (λ (v : Val). is_eq (val_cmp v (text c.args.content.now false))) is
