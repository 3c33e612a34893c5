use Rattle.mj_words.specs.Told.{message}
use Rattle.mj_words.proofs.Told.{is_told}
use Rattle.mj_words.proofs.tell.tell_error.Goals as goal

pub returns-clause-told : goal.returns-clause-told
returns-clause-told g c =
    let w = c.write_error.ensures in
    (w.0, w.1, w.2, is_told g.E.Write.contents c.write_error.result c.args.err.now c.write_error.new.err (message w.0 w.1) w.3)
