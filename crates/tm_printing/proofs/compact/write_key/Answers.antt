use Rattle.std.proofs.Common.{[], ◌∷◌, ◌++◌}
use Rattle.tm_output.proofs.Written.{at_opening, within, closed}
use Rattle.tm_definitions.specs.Json.{key_text}
use Rattle.tm_printing.proofs.compact.write_key.Goals as goal

pub returns-in_err-take_text : goal.returns-in_err-take_text
returns-in_err-take_text g c =
    at_opening _ c.args.before.now (key_text c.args.key.now ++ 58 ∷ []) g.met.T.Target.laws c.from_residual.ensures.0
    c.in_err-take_text.ensures

pub returns-in_err-write_key_text : goal.returns-in_err-write_key_text
returns-in_err-write_key_text g c =
    within _ c.args.before.now (key_text c.args.key.now) (58 ∷ []) g.met.T.Target.laws c.from_residual-in_err-write_key_text.ensures.0
    c.in_ok-take_text.ensures c.in_err-write_key_text.ensures

pub returns : goal.returns
returns g c =
    closed _ _ c.args.before.now (key_text c.args.key.now) (58 ∷ []) g.met.T.Target.laws c.in_ok-take_text.ensures
    c.in_ok-write_key_text.ensures
    c.take_text-2.ensures
