use Rattle.std.proofs.Common.{List, Result}
use Rattle.tm_values.specs.declared.error.ErrorKind.{ErrorKind}
use Rattle.tm_parts.specs.Halts.{error_of}
use Rattle.template_machine.specs.Renders.{BlockWritten, block_meaning, BlockStreamed}
use Rattle.template_machine.proofs.Answered.{passed, written_done, written_failed}
use Rattle.template_machine.proofs.StreamCalls.{block_done, block_failed}
use Rattle.template_machine.proofs.state.StateOf.render_block_to_write.Goals as goal

pub returns-in_err-_captures-clause-rendered : goal.returns-in_err-_captures-clause-rendered
returns-in_err-_captures-clause-rendered g c = λ of.
    let s = c.args.self.now in
    let m = block_meaning g.O.Parties.stated s.template c.args.name.now s.world in
    let left = c.run_block.new.self.world in
    let why = c.in_err-_captures.field-0.0 in
    let told = g.W.Sink.told c.args.writer.now in
    let now = g.W.Sink.told c.run_block.new.writer in
    let Came : Result (Unit {0}) (List ErrorKind) → Type 0 = λ r. BlockWritten m r left told now in
    passed c.from_residual.result Came (error_of why) c.from_residual.ensures.1
    (written_failed m left c.within-captures.result c.within-captures.ensures told now why (c.in_err-_captures.ensures.ran of))

pub returns-clause-rendered : goal.returns-clause-rendered
returns-clause-rendered g c = λ of.
    let s = c.args.self.now in
    written_done (block_meaning g.O.Parties.stated s.template c.args.name.now s.world) c.run_block.new.self.world c.within-captures.result
    c.within-captures.ensures (g.W.Sink.told c.args.writer.now) (g.W.Sink.told c.run_block.new.writer) c.in_ok-_captures._captures (c.in_ok-_captures.ensures.ran of)

pub returns-in_err-_captures-clause-streams : goal.returns-in_err-_captures-clause-streams
returns-in_err-_captures-clause-streams g c =
    let s = c.args.self.now in
    let new = c.run_block.new.self.world in
    let why = c.in_err-_captures.field-0.0 in
    let told = g.W.Sink.told c.args.writer.now in
    let now = g.W.Sink.told c.run_block.new.writer in
    passed c.from_residual.result (λ r. BlockStreamed g.O.Parties.stated s c.args.name.now r new told now) (error_of why)
    c.from_residual.ensures.1
    (block_failed g.O.Parties.stated s c.args.name.now new c.within-captures.result c.within-captures.ensures told now why
    c.in_err-_captures.ensures.streams)

pub returns-clause-streams : goal.returns-clause-streams
returns-clause-streams g c =
    block_done g.O.Parties.stated c.args.self.now c.args.name.now c.run_block.new.self.world c.within-captures.result c.within-captures.ensures
    (g.W.Sink.told c.args.writer.now) (g.W.Sink.told c.run_block.new.writer) c.in_ok-_captures._captures tt c.in_ok-_captures.ensures.streams
