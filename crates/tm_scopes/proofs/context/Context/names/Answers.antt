use Rattle.std.proofs.Common.{◌∙◌, ◌-◌, arith}
use Rattle.tm_scopes.proofs.Framed.{fails-framed, names-step, rest-marked, rest-within}
use Rattle.tm_scopes.proofs.Known.{passed}
use Rattle.tm_scopes.proofs.context.Context.names.Goals as goal

pub returns-in_err-add_names-clause-err : goal.returns-in_err-add_names-clause-err
returns-in_err-add_names-clause-err g c =
    passed c.from_residual-in_err-add_names.result _ _ c.from_residual-in_err-add_names.ensures.1
    (fails-framed (g.R.Records.records c.args.records.now) c.self.inside.marks.items c.self.inside.pairs.items c.args.self.now
    c.self.inside.outer (c.loop-i.i - 1) c.index-mark.result.now _ (omega (arith, c.loop-i-test.true, c.loop-i.invariant.0))
    c.index-mark.ensures c.self.view_is c.in_err-add_names.ensures.err)

pub loop-i-preserved : goal.loop-i-preserved
loop-i-preserved g c = (
  omega (arith, c.loop-i.invariant.0),
  rest-within c.self.inside.marks.items c.loop-i.i c.index-mark.result.now c.self.inside.pairs.items c.loop-i.end
      c.loop-i-test.true c.loop-i.invariant.0 c.index-mark.ensures c.loop-i.invariant.2,
  rest-marked c.self.inside.marks.items c.loop-i.i c.index-mark.result.now c.self.inside.pairs.items c.loop-i.end
      c.loop-i-test.true c.loop-i.invariant.0 c.index-mark.ensures c.loop-i.invariant.2,
  λ view same enclosed x.
      c.loop-i.invariant.3 view same enclosed x
      ∙ names-step c.self.inside.marks.items c.loop-i.i c.index-mark.result.now c.self.inside.pairs.items c.loop-i.end
      c.loop-i-test.true c.loop-i.invariant.0 c.index-mark.ensures c.loop-i.invariant.2 c.deref.result.now c.deref.ensures.value
      (g.R.Records.records c.args.records.now) c.args.closures.now c.loop-i.names.items c.in_ok-own.own.items c.append.new.self.items
      c.add_names.new.names.items c.in_ok-own.ensures c.in_ok-append.ensures.items c.in_ok-add_names.ensures.ok view same enclosed x,
)
