use Rattle.std.proofs.Common.{[], refl, sym, ap, subst, ◌∙◌}
use Rattle.tm_values.specs.declared.error.ErrorKind.TheVariants as kind
use Rattle.mj_words.specs.Told.{IsTold, refusal_message}
use Rattle.mj_words.proofs.Told.{text_written, is_told, same_message}
use Rattle.mj_words.proofs.tell.tell_refusal.Goals as goal

pub returns-in-Usage-clause-told : goal.returns-in-Usage-clause-told
returns-in-Usage-clause-told g c =
    let contents = g.E.Write.contents in
    let new = c.write_text.new.sink in
    let w = c.write_text.ensures in
    is_told contents c.write_text.result c.args.err.now new (refusal_message c.args.refusal)
    (text_written contents c.write_text.result c.write_text.result c.args.err.now new c.as_bytes.result.now (refusal_message c.args.refusal)
    w.written w.no_fault w.beginning w.fault refl (c.as_bytes.ensures.value ∙ sym (ap refusal_message c.in-Usage.is)))

pub returns-in-OutOfMemory-clause-told : goal.returns-in-OutOfMemory-clause-told
returns-in-OutOfMemory-clause-told g c =
    let t = c.tell_error.ensures.told in
    subst (λ x. IsTold g.E.Write.contents c.args.err.now c.tell_error.new.err x)
    (same_message c.from.result t.0 kind.OutOfMemory t.1 [] t.2 c.from.ensures ∙ sym (ap refusal_message c.in-OutOfMemory.is)) t.3
