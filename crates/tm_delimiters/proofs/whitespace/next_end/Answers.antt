use Rattle.std.proofs.Common.{arith, sym}
use Rattle.tm_delimiters.proofs.Ends.{cuts_by, known_boundary}
use Rattle.tm_delimiters.proofs.whitespace.next_end.Goals as goal

pub split_at-requires : goal.split_at-requires
split_at-requires c =
    known_boundary c.args.end.now c.args.text.now c.args.known.now
    (cuts_by c.args.end.now c.args.text.now c.args.known.now c.requires (omega arith)) c.utf8.known

pub returns : goal.returns
returns c =
    let cut = cuts_by c.args.end.now c.args.text.now c.args.known.now c.requires (omega arith) in
    rw (c.split_at.ensures.front, c.split_at.ensures.back) (sym cut.value)
