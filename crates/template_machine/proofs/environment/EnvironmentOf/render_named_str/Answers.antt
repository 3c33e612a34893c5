use Rattle.std.proofs.Common.{◌≡◌, Err, inl, refl}
use Rattle.template_machine.specs.Renders.{IsUnnumbered, source_refused}
use Rattle.template_machine.proofs.Answered.{passed}
use Rattle.template_machine.proofs.Runs.{source_done, source_full}
use Rattle.template_machine.proofs.environment.EnvironmentOf.render_named_str.Goals as goal

pub returns-in_err-template : goal.returns-in_err-template
returns-in_err-template g c =
    let why = c.in_err-template.field-0.0 in
    let refused = c.in_err-template.ensures.refused in
    let r = c.from_residual.result in
    record {
      full = λ h. (
        passed r (IsUnnumbered g.O.Parties.stated c.args.self.now c.args.name.now c.args.source.now) why c.from_residual.ensures.1 (inl refused),
        refl,
      );
      rendered = λ h. source_refused why (passed r (λ x. x ≡ Err why) why c.from_residual.ensures.1 refl) refused refl;
    }

pub returns : goal.returns
returns g c = record {
  full = λ h.
      let left = c.render.ensures.full h in (
        source_full g.O.Parties.stated c.args.self.now c.in_ok-template.template c.args.name.now c.args.source.now c.render.result
            c.in_ok-template.ensures.compiled left.0,
        left.1,
      );
  rendered = λ h.
      source_done g.O.Parties.stated c.args.self.now c.in_ok-template.template c.args.name.now c.args.source.now c.args.ids.now
      c.render.new.ids c.args.context c.render.result
      c.in_ok-template.ensures.compiled (c.render.ensures.rendered h) (c.render.ensures.next h);
}
