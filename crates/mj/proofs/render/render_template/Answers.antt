use Rattle.mj.proofs.Rendered.{is_done, is_fault, at_first}
use Rattle.mj.proofs.Lists.{passed}
use Rattle.mj.proofs.render.render_template.Goals as goal

pub returns : goal.returns
returns g c = λ input means.
    let t = c.args.template.now in
    let r = c.in_ok-render_captured_to in
    is_done g.O.Write.contents t input _ c.args.out.now c.render_captured_to.new.writer means.1 r.field-0
    (at_first g.P.Parties.stated t c.args.context c.new.result _ _ _ c.new.ensures (λ h. r.ensures.rendered h means.0))

-- the render failed
pub returns-in_err-render_captured_to : goal.returns-in_err-render_captured_to
returns-in_err-render_captured_to g c = λ input means.
    let t = c.args.template.now in
    let r = c.in_err-render_captured_to in
    passed c.from_residual.result _ _ r.field-0.0 c.from_residual.ensures.1
    (is_fault g.O.Write.contents t input _ c.args.out.now c.render_captured_to.new.writer means.1 r.field-0.0
    (at_first g.P.Parties.stated t c.args.context c.new.result _ _ _ c.new.ensures (λ h. r.ensures.rendered h means.0)))
