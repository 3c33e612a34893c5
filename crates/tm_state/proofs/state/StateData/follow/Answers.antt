use Rattle.std.proofs.Common.{rules}
use Rattle.tm_state.proofs.Answered.{went_on, run_there, ended_there, handed_on}
use Rattle.tm_state.proofs.state.StateData.follow.Goals as goal

pub returns-in_err-answer-clause-called : goal.returns-in_err-answer-clause-called
returns-in_err-answer-clause-called g c =
    handed_on c.from_residual-in_err-answer.result c.in_err-answer.field-0.0 _ c.further.new.self c.from_residual-in_err-answer.ensures
    (ended_there (g.H.Host.program c.args.host.now).host c.args.test c.loop-result.printed _ c.depths_left-left.result c.loop-result.made
    c.loop-result.answer.reply c.in-Further.call _ c.keep.new.self c.loop-result.invariant.2 (search rules) (search rules)
    c.loop-result.invariant.1 c.if-made-left.false c.in_err-answer.field-0.0 c.further.new.self c.in_err-answer.ensures.comes)

pub returns-in-Run-clause-called : goal.returns-in-Run-clause-called
returns-in-Run-clause-called g c =
    run_there (g.H.Host.program c.args.host.now).host c.args.test c.loop-result.printed _ c.depths_left-left.result c.loop-result.made
    c.loop-result.answer.reply c.in-Further.call _ c.keep.new.self c.loop-result.invariant.2 (search rules) (search rules)
    c.loop-result.invariant.1 c.if-made-left.false c.in-Run.run' c.further.new.self
    (λ make. let comes = c.in_ok-answer.ensures.comes make in rw c.in-Run.is at comes)

pub loop-result-preserved : goal.loop-result-preserved
loop-result-preserved g c = (
  search rules,
  search rules,
  λ m. rw c.is_macro-printed.ensures (went_on (g.H.Host.program c.args.host.now).host c.args.test c.loop-result.printed _ c.depths_left-left.result c.loop-result.made
      c.loop-result.answer.reply c.in-Further.call _ c.keep.new.self c.loop-result.invariant.2 (search rules) (search rules)
      c.loop-result.invariant.1 c.if-made-left.false c.in-Answered.answer c.further.new.self (λ make. search rules) m),
)
