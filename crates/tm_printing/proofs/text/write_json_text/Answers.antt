use Rattle.std.proofs.Common.{[], ◌∷◌, ◌++◌}
use Rattle.json.specs.Print.{escape}
use Rattle.tm_output.proofs.Written.{at_opening, within, closed}
use Rattle.tm_printing.proofs.text.write_json_text.Goals as goal

pub returns-in_err-take_text : goal.returns-in_err-take_text
returns-in_err-take_text g c = at_opening _ (34 ∷ [])
    (escape c.args.text.now ++ 34 ∷ []) g.met.T.Target.laws c.from_residual.ensures.0 c.in_err-take_text.ensures

pub returns-in_err-write_spelled : goal.returns-in_err-write_spelled
returns-in_err-write_spelled g c = within _ (34 ∷ []) _
    (34 ∷ []) g.met.T.Target.laws c.from_residual-in_err-write_spelled.ensures.0 c.in_ok-take_text.ensures c.in_err-write_spelled.ensures

pub returns : goal.returns
returns g c = closed _ _ (34 ∷ []) _
    (34 ∷ []) g.met.T.Target.laws c.in_ok-take_text.ensures c.in_ok-write_spelled.ensures c.take_text-2.ensures
