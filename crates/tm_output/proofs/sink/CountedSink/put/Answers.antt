use Rattle.tm_output.specs.Pieces.{appends_piece}
use Rattle.tm_output.proofs.sink.CountedSink.put.Goals as goal

-- what the first call took, and a beginning of the rest
pub returns-else-taken-bytes-clause-beginning : goal.returns-else-taken-bytes-clause-beginning
returns-else-taken-bytes-clause-beginning g c =
    let rest = c.put_rest.ensures.beginning in
    rw (← c.self.view_is) (_, appends_piece _ _ _ _ _ _ c.in-Ok.ensures.bytes rest.1)
