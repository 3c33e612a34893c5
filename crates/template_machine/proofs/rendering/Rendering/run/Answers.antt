use Rattle.std.proofs.Common.{◌≡◌, ◌∙◌, Err, ap, length, refl, subst, sym}
use Rattle.tm_meaning.specs.Machine.{Config, run_from, running}
use Rattle.tm_meaning.specs.Memory.{is_want_of_memory}
use Rattle.tm_output.specs.Pieces.{beginning_nothing}
use Rattle.template_machine.specs.Renders.{forgetting, is_cut, meaning_from, Ran, StreamRan, run_by_memory, stream_by_memory}
use Rattle.template_machine.proofs.Runs.{over_closed, over_done, over_halted}
use Rattle.template_machine.proofs.Sound.{left_as}
use Rattle.template_machine.proofs.StreamRuns.{sound_done, sound_halted, streams_done, streams_halted}
use Rattle.template_machine.proofs.rendering.Rendering.run.Goals as goal

-- no memory for the stream's name
pub returns-in-Err-clause-ran : goal.returns-in-Err-clause-ran
returns-in-Err-clause-ran g c = λ of. run_by_memory c.from.result refl (ap is_want_of_memory c.from.ensures) (beginning_nothing _ _) refl

pub returns-in-Ok-result-clause-ran : goal.returns-in-Ok-result-clause-ran
returns-in-Ok-result-clause-ran g c = λ of.
    let old = c.args.state.now in
    let ks = c.args.captures in
    let begins : c.new-machine.result ≡ running (run_from old.stream (length ks)) ks old =
    c.new-machine.ensures ∙ ap (λ s. running (run_from s (length ks)) ks c.take.result) (c.in-Ok.ensures ∙ c.stream.ensures)
    ∙ ap (λ w. running (run_from old.stream (length ks)) ks w) c.take.ensures.taken in
    let left : Config = c.run-result.new.self in
    over_done g.O.Parties.stated c.args.self.now ks left.captures old left.world (g.W.Sink.told c.args.writer.now) (g.W.Sink.told c.run-result.new.writer)
    c.new-machine.result begins c.requires of left.run.operands c.into_parts-captures.result.0 c.into_parts-captures.result.1
    (sym c.into_parts-captures.ensures.captures) (sym c.into_parts-captures.ensures.state) c.in-Ok-result.ensures.ended
    c.in-Ok-result.ensures.failures

pub returns-in-Err-result-clause-ran : goal.returns-in-Err-result-clause-ran
returns-in-Err-result-clause-ran g c = λ of.
    let old = c.args.state.now in
    let ks = c.args.captures in
    let begins : c.new-machine.result ≡ running (run_from old.stream (length ks)) ks old =
    c.new-machine.ensures ∙ ap (λ s. running (run_from s (length ks)) ks c.take.result) (c.in-Ok.ensures ∙ c.stream.ensures)
    ∙ ap (λ w. running (run_from old.stream (length ks)) ks w) c.take.ensures.taken in
    let left : Config = c.run-result.new.self in
    let why = c.in-Err-result.halt in
    let put = c.halted.new.state in
    let is : put ≡ forgetting (is_cut why) left.world =
    c.halted.ensures.state ∙ ap (forgetting (is_cut why)) c.into_parts-captures.ensures.state in
    subst (λ x. Ran (meaning_from g.O.Parties.stated c.args.self.now old) (Err x) put ks (g.W.Sink.told c.args.writer.now) (g.W.Sink.told c.run-result.new.writer))
    (sym c.halted.ensures.same)
    (over_halted g.O.Parties.stated c.args.self.now ks left.captures old left.world (g.W.Sink.told c.args.writer.now) (g.W.Sink.told c.run-result.new.writer)
    c.new-machine.result begins c.requires of why put (left_as (is_cut why) left.world put is)
    c.in-Err-result.ensures.ended c.in-Err-result.ensures.beginning c.in-Err-result.ensures.failures)

pub returns-in-Ok-result-clause-closed : goal.returns-in-Ok-result-clause-closed
returns-in-Ok-result-clause-closed g c =
    let old = c.args.state.now in
    let ks = c.args.captures in
    let begins : c.new-machine.result ≡ running (run_from old.stream (length ks)) ks old =
    c.new-machine.ensures ∙ ap (λ s. running (run_from s (length ks)) ks c.take.result) (c.in-Ok.ensures ∙ c.stream.ensures)
    ∙ ap (λ w. running (run_from old.stream (length ks)) ks w) c.take.ensures.taken in
    let left : Config = c.run-result.new.self in
    ap length c.into_parts-captures.ensures.captures
    ∙ over_closed g.O.Parties.stated c.args.self.now ks left.captures old left.world (g.W.Sink.told c.args.writer.now) (g.W.Sink.told c.run-result.new.writer)
    c.new-machine.result begins c.requires left.run.operands c.in-Ok-result.ensures.ended

-- ---------------------------------------------------------------- of streams
pub returns-in-Err-clause-streams : goal.returns-in-Err-clause-streams
returns-in-Err-clause-streams g c = λ sound.
    stream_by_memory c.from.result refl (ap is_want_of_memory c.from.ensures) (λ o leads. beginning_nothing _ _) refl

pub returns-in-Ok-result-clause-streams : goal.returns-in-Ok-result-clause-streams
returns-in-Ok-result-clause-streams g c = λ sound.
    let old = c.args.state.now in
    let ks = c.args.captures in
    let begins : c.new-machine.result ≡ running (run_from old.stream (length ks)) ks old =
    c.new-machine.ensures ∙ ap (λ s. running (run_from s (length ks)) ks c.take.result) (c.in-Ok.ensures ∙ c.stream.ensures)
    ∙ ap (λ w. running (run_from old.stream (length ks)) ks w) c.take.ensures.taken in
    let left : Config = c.run-result.new.self in
    streams_done g.O.Parties.stated c.args.self.now c.accepted.ensures ks old left.world sound (g.W.Sink.told c.args.writer.now) (g.W.Sink.told c.run-result.new.writer)
    c.new-machine.result begins left.run.operands left.captures c.into_parts-captures.result.0 c.into_parts-captures.result.1
    (sym c.into_parts-captures.ensures.captures) (sym c.into_parts-captures.ensures.state) c.in-Ok-result.ensures.ended
    c.in-Ok-result.ensures.failures

pub returns-in-Err-result-clause-streams : goal.returns-in-Err-result-clause-streams
returns-in-Err-result-clause-streams g c = λ sound.
    let old = c.args.state.now in
    let ks = c.args.captures in
    let begins : c.new-machine.result ≡ running (run_from old.stream (length ks)) ks old =
    c.new-machine.ensures ∙ ap (λ s. running (run_from s (length ks)) ks c.take.result) (c.in-Ok.ensures ∙ c.stream.ensures)
    ∙ ap (λ w. running (run_from old.stream (length ks)) ks w) c.take.ensures.taken in
    let left : Config = c.run-result.new.self in
    let why = c.in-Err-result.halt in
    let put = c.halted.new.state in
    let is : put ≡ forgetting (is_cut why) left.world =
    c.halted.ensures.state ∙ ap (forgetting (is_cut why)) c.into_parts-captures.ensures.state in
    subst (λ x. StreamRan g.O.Parties.stated c.args.self.now old (Err x) put ks (g.W.Sink.told c.args.writer.now) (g.W.Sink.told c.run-result.new.writer))
    (sym c.halted.ensures.same)
    (streams_halted g.O.Parties.stated c.args.self.now c.accepted.ensures ks old left.world sound (g.W.Sink.told c.args.writer.now) (g.W.Sink.told c.run-result.new.writer)
    c.new-machine.result begins put why (left_as (is_cut why) left.world put is)
    c.in-Err-result.ensures.ended c.in-Err-result.ensures.beginning c.in-Err-result.ensures.failures)

-- ---------------------------------------------------------------- of what it leaves
pub returns-in-Ok-result-clause-sound : goal.returns-in-Ok-result-clause-sound
returns-in-Ok-result-clause-sound g c = λ sound.
    let old = c.args.state.now in
    let ks = c.args.captures in
    let begins : c.new-machine.result ≡ running (run_from old.stream (length ks)) ks old =
    c.new-machine.ensures ∙ ap (λ s. running (run_from s (length ks)) ks c.take.result) (c.in-Ok.ensures ∙ c.stream.ensures)
    ∙ ap (λ w. running (run_from old.stream (length ks)) ks w) c.take.ensures.taken in
    let left : Config = c.run-result.new.self in
    sound_done g.O.Parties.stated c.args.self.now c.accepted.ensures ks old left.world sound (g.W.Sink.told c.args.writer.now) (g.W.Sink.told c.run-result.new.writer)
    c.new-machine.result begins left.run.operands left.captures c.into_parts-captures.result.1 (sym c.into_parts-captures.ensures.state)
    c.in-Ok-result.ensures.ended

pub returns-in-Err-result-clause-sound : goal.returns-in-Err-result-clause-sound
returns-in-Err-result-clause-sound g c = λ sound.
    let old = c.args.state.now in
    let ks = c.args.captures in
    let begins : c.new-machine.result ≡ running (run_from old.stream (length ks)) ks old =
    c.new-machine.ensures ∙ ap (λ s. running (run_from s (length ks)) ks c.take.result) (c.in-Ok.ensures ∙ c.stream.ensures)
    ∙ ap (λ w. running (run_from old.stream (length ks)) ks w) c.take.ensures.taken in
    let left : Config = c.run-result.new.self in
    let why = c.in-Err-result.halt in
    sound_halted g.O.Parties.stated c.args.self.now c.accepted.ensures ks old left.world sound (g.W.Sink.told c.args.writer.now) (g.W.Sink.told c.run-result.new.writer)
    c.new-machine.result begins why c.halted.new.state
    (c.halted.ensures.state ∙ ap (forgetting (is_cut why)) c.into_parts-captures.ensures.state) c.in-Err-result.ensures.ended
