use Rattle.std.proofs.Common.{[], Ok, Err, refl, ap}
use Rattle.std.specs.Prelude.{codes}
use Rattle.std.proofs.lemmas.Result.{err_from_is_err_and}
use Rattle.tm_values.specs.Chain.{causes_of}
use Rattle.tm_output.specs.Pieces.{appends_nothing}
use Rattle.mj_words.specs.Told.{line, causes}
use Rattle.mj_words.proofs.Told.{chain_in, chain_of_cause, written_first, written_then, told_all, tell_next, tell_failed}
use Rattle.mj_words.proofs.tell.write_error.Goals as goal

pub returns-in_err-write_line : goal.returns-in_err-write_line
returns-in_err-write_line g c =
    let p = err_from_is_err_and c.from_residual.result c.from_residual.ensures.1 in
    let kinds = causes_of c.args.error.now in (
      c.kind.result,
      kinds,
      c.kind.ensures,
      rw p.1 (written_first g.E.Write.contents c.in_err-write_line.field-0.0 c.args.err.now c.write_line.new.err
          (line (codes "error: ") c.kind.result) (causes kinds) c.in_err-write_line.ensures),
    )

pub loop-next-init : goal.loop-next-init
loop-next-init g c = record {
  told = [];
  appended = appends_nothing (g.E.Write.contents c.write_line.new.err.writer);
  same = refl;
  rest = ap causes (chain_of_cause c.cause-next.result c.args.error.now c.cause-next.ensures);
}

pub returns-in_err-write_line-2 : goal.returns-in_err-write_line-2
returns-in_err-write_line-2 g c =
    let p = err_from_is_err_and c.from_residual-in_err-write_line-2.result c.from_residual-in_err-write_line-2.ensures.1 in
    let contents = g.E.Write.contents in
    let kinds = causes_of c.args.error.now in
    let fault = c.in_err-write_line-2.field-0.0 in
    let new = c.write_line-in-Some.new.err in (
      c.kind.result,
      kinds,
      c.kind.ensures,
      rw p.1 (written_then contents (Err fault) c.args.err.now c.write_line.new.err new (line (codes "error: ") c.kind.result)
          (causes kinds) c.in_ok-write_line.ensures
          (tell_failed contents fault c.write_line.new.err c.loop-next.err new c.loop-next.next
          (causes kinds) c.loop-next.invariant c.in-Some.cause c.kind-in-Some.result c.in-Some.is c.kind-in-Some.ensures
          c.in_err-write_line-2.ensures)),
    )

pub loop-next-preserved : goal.loop-next-preserved
loop-next-preserved g c =
    tell_next g.E.Write.contents c.write_line.new.err c.loop-next.err c.write_line-in-Some.new.err c.loop-next.next
    c.cause-next-in-Some.result (causes (causes_of c.args.error.now)) c.loop-next.invariant
    c.in-Some.cause c.kind-in-Some.result c.in-Some.is c.kind-in-Some.ensures c.in_ok-write_line-2.ensures
    (chain_of_cause c.cause-next-in-Some.result c.in-Some.cause.now c.cause-next-in-Some.ensures)

pub returns : goal.returns
returns g c =
    let contents = g.E.Write.contents in
    let kinds = causes_of c.args.error.now in
    let last = c.loop-next.err in (
      c.kind.result,
      kinds,
      c.kind.ensures,
      written_then contents {E = Unit {0}} (Ok tt) c.args.err.now c.write_line.new.err last (line (codes "error: ") c.kind.result)
          (causes kinds) c.in_ok-write_line.ensures
          (told_all contents c.write_line.new.err last c.loop-next.next (causes kinds) c.loop-next.invariant
          (ap chain_in c.in_default.is)),
    )
