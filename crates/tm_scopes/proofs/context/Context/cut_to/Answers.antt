use Rattle.std.proofs.Common.{◌∙◌, ap, arith}
use Rattle.tm_meaning.specs.World.{Scopes}
use Rattle.tm_meaning.specs.Calls.{outermost}
use Rattle.tm_scopes.proofs.Framed.{outermost-inner}
use Rattle.tm_scopes.proofs.context.Context.cut_to.Goals as goal

pub loop-self-preserved : goal.loop-self-preserved
loop-self-preserved c =
    ap (λ (scopes : Scopes). outermost c.args.count scopes.frames) c.pop_frame.ensures
    ∙ outermost-inner c.args.count c.loop-self.self.frames (omega (arith, c.height.ensures, c.loop-self-test.true)) ∙ c.loop-self.invariant
