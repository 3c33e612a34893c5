use Rattle.std.proofs.Common.{rules, ◌∙◌}
use Rattle.std.proofs.lemmas.Result.{on_err_weaker}
use Rattle.tm_state.proofs.Blocks.{super_left}
use Rattle.tm_state.proofs.state.StateData.super_run.Goals as goal

pub returns-clause-unchanged : goal.returns-clause-unchanged
returns-clause-unchanged g c =
    on_err_weaker c.boxed.result (λ back. back ∙ super_left c.args.self.now c.push_scope.new.self c.run_super-saved.new.self c.run_super-saved.result
    c.in_ok-running.running c.in_ok-places.places (search rules) (search rules) (search rules)) c.boxed.ensures.back
