use Rattle.std.proofs.Common.{◌++◌, codes}
use Rattle.tm_output.proofs.Written.{at_opening, within, closed}
use Rattle.tm_definitions.specs.Loops.{progress_text}
use Rattle.tm_printing.proofs.Spelled.{spelled_laws}
use Rattle.tm_printing.proofs.printing.write_position.Goals as goal

pub returns-in_err-write_spelled : goal.returns-in_err-write_spelled
returns-in_err-write_spelled g c =
    at_opening _ (codes "<loop ") (progress_text c.args.position ++ codes ">")
    (spelled_laws g.E.Spelling.spelled g.met.T.Target.laws) c.from_residual.ensures.0 c.in_err-write_spelled.ensures

pub returns-in_err-write_progress : goal.returns-in_err-write_progress
returns-in_err-write_progress g c =
    within _ (codes "<loop ") (progress_text c.args.position) (codes ">")
    (spelled_laws g.E.Spelling.spelled g.met.T.Target.laws) c.from_residual-in_err-write_progress.ensures.0 c.in_ok-write_spelled.ensures
    c.in_err-write_progress.ensures

pub returns : goal.returns
returns g c =
    closed _ _ (codes "<loop ") (progress_text c.args.position) (codes ">")
    (spelled_laws g.E.Spelling.spelled g.met.T.Target.laws) c.in_ok-write_spelled.ensures c.in_ok-write_progress.ensures
    c.write_spelled-2.ensures
