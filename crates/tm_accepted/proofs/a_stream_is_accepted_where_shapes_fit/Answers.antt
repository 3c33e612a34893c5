use Rattle.tm_accepted.proofs.Accepted.{accepted, shaped}
use Rattle.tm_accepted.proofs.a_stream_is_accepted_where_shapes_fit.Goals as goal

pub returns-clause-shaped : goal.returns-clause-shaped
returns-clause-shaped c = shaped

pub returns-clause-accepted : goal.returns-clause-accepted
returns-clause-accepted c = accepted
