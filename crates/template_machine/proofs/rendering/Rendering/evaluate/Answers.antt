use Rattle.std.proofs.Common.{◌≡◌, ◌∙◌, [], ◌∷◌, Ok, Err, MatchOption, inl, ap, length, refl, rules, subst, sym}
use Rattle.tm_meaning.specs.Machine.{Config, Finished, run_from, running}
use Rattle.tm_output.specs.Counts.{untold}
use Rattle.tm_parts.specs.Halts.{error_of}
use Rattle.template_machine.specs.Renders.{meaning_from, value_meant, Evaluated, StreamEnds, StreamValue}
use Rattle.template_machine.proofs.Answered.{passed}
use Rattle.template_machine.proofs.Evaluations.{evaluated_failed, evaluated_none, evaluated_one}
use Rattle.template_machine.proofs.Runs.{over_answers, over_halted, over_leaves}
use Rattle.template_machine.proofs.StreamRuns.{streams_end, streams_halted}
use Rattle.template_machine.proofs.StreamValues.{value_failed, value_none, value_one}
use Rattle.template_machine.proofs.rendering.Rendering.evaluate.Goals as goal

pub returns-in_err-result-clause-evaluated : goal.returns-in_err-result-clause-evaluated
returns-in_err-result-clause-evaluated g c = λ of.
    let stated = g.O.Parties.stated in
    let t = c.args.self.now in
    let old = c.args.state.now in
    let ks = c.within-captures.result in
    let left : Config = c.run-result.new.self in
    let why = c.in_err-result.field-0.0 in
    let stream_is : c.in_ok-stream.stream ≡ old.stream = search rules in
    let world_is : c.take.result ≡ old = search rules in
    let begins : c.new-machine.result ≡ running (run_from old.stream (length ks)) ks old =
    c.new-machine.ensures ∙ ap (λ s. running (run_from s (length ks)) ks c.take.result) stream_is
    ∙ ap (λ w. running (run_from old.stream (length ks)) ks w) world_is in
    passed c.from_residual-in_err-result.result (Evaluated (value_meant stated t old)) (error_of why) c.from_residual-in_err-result.ensures.1
    (evaluated_failed (meaning_from stated t old) left.world ks why
    (over_halted stated t ks left.captures old left.world untold untold c.new-machine.result begins (inl c.within-captures.ensures) of why left.world (λ own. refl)
    c.in_err-result.ensures.ended c.in_err-result.ensures.beginning c.in_err-result.ensures.failures))

pub returns-in-Some-clause-evaluated : goal.returns-in-Some-clause-evaluated
returns-in-Some-clause-evaluated g c = λ of.
    let stated = g.O.Parties.stated in
    let t = c.args.self.now in
    let old = c.args.state.now in
    let ks = c.within-captures.result in
    let left : Config = c.run-result.new.self in
    let us = left.run.operands in
    let v = c.in-Some.value in
    let put = c.into_value-value.result.1 in
    let stream_is : c.in_ok-stream.stream ≡ old.stream = search rules in
    let world_is : c.take.result ≡ old = search rules in
    let begins : c.new-machine.result ≡ running (run_from old.stream (length ks)) ks old =
    c.new-machine.ensures ∙ ap (λ s. running (run_from s (length ks)) ks c.take.result) stream_is
    ∙ ap (λ w. running (run_from old.stream (length ks)) ks w) world_is in
    let one : us ≡ v ∷ [] =
    subst (λ o. MatchOption o (length us ≡ 1 → ⊥) (λ x. us ≡ x ∷ [])) c.in-Some.is c.into_value-value.ensures.value in
    let ended = c.in_ok-result.ensures.ended in
    let m = meaning_from stated t old in
    evaluated_one m put us v c.with_maps.result
    (over_answers stated t ks left.captures old left.world untold untold c.new-machine.result begins (inl c.within-captures.ensures) of us ended
    ∙ ap (λ w. Ok w) (sym c.into_value-value.ensures.state))
    (over_leaves stated t ks left.captures old left.world untold untold c.new-machine.result begins (inl c.within-captures.ensures) of us ended)
    one c.with_maps.ensures.answer

pub returns-in-None-clause-evaluated : goal.returns-in-None-clause-evaluated
returns-in-None-clause-evaluated g c = λ of.
    let stated = g.O.Parties.stated in
    let t = c.args.self.now in
    let old = c.args.state.now in
    let ks = c.within-captures.result in
    let left : Config = c.run-result.new.self in
    let us = left.run.operands in
    let stream_is : c.in_ok-stream.stream ≡ old.stream = search rules in
    let world_is : c.take.result ≡ old = search rules in
    let begins : c.new-machine.result ≡ running (run_from old.stream (length ks)) ks old =
    c.new-machine.ensures ∙ ap (λ s. running (run_from s (length ks)) ks c.take.result) stream_is
    ∙ ap (λ w. running (run_from old.stream (length ks)) ks w) world_is in
    let many : length us ≡ 1 → ⊥ =
    subst (λ o. MatchOption o (length us ≡ 1 → ⊥) (λ x. us ≡ x ∷ [])) c.in-None.is c.into_value-value.ensures.value in
    let ended = c.in_ok-result.ensures.ended in
    subst (λ chain. Evaluated (value_meant stated t old) (Err chain)) (sym c.from.ensures)
    (evaluated_none (meaning_from stated t old) left.world us
    (over_answers stated t ks left.captures old left.world untold untold c.new-machine.result begins (inl c.within-captures.ensures) of us ended)
    (over_leaves stated t ks left.captures old left.world untold untold c.new-machine.result begins (inl c.within-captures.ensures) of us ended) many)

-- ---------------------------------------------------------------- of streams
pub returns-in_err-result-clause-streams : goal.returns-in_err-result-clause-streams
returns-in_err-result-clause-streams g c = λ sound.
    let stated = g.O.Parties.stated in
    let t = c.args.self.now in
    let old = c.args.state.now in
    let ks = c.within-captures.result in
    let left : Config = c.run-result.new.self in
    let why = c.in_err-result.field-0.0 in
    let stream_is : c.in_ok-stream.stream ≡ old.stream = search rules in
    let world_is : c.take.result ≡ old = search rules in
    let begins : c.new-machine.result ≡ running (run_from old.stream (length ks)) ks old =
    c.new-machine.ensures ∙ ap (λ s. running (run_from s (length ks)) ks c.take.result) stream_is
    ∙ ap (λ w. running (run_from old.stream (length ks)) ks w) world_is in
    passed c.from_residual-in_err-result.result (StreamValue stated t old) (error_of why) c.from_residual-in_err-result.ensures.1
    (value_failed stated t old left.world ks c.within-captures.ensures why
    (streams_halted stated t c.accepted.ensures ks old left.world sound untold untold c.new-machine.result begins left.world why (λ own. refl)
    c.in_err-result.ensures.ended c.in_err-result.ensures.beginning c.in_err-result.ensures.failures))

pub returns-in-Some-clause-streams : goal.returns-in-Some-clause-streams
returns-in-Some-clause-streams g c = λ sound.
    let stated = g.O.Parties.stated in
    let t = c.args.self.now in
    let old = c.args.state.now in
    let ks = c.within-captures.result in
    let left : Config = c.run-result.new.self in
    let us = left.run.operands in
    let v = c.in-Some.value in
    let put = c.into_value-value.result.1 in
    let stream_is : c.in_ok-stream.stream ≡ old.stream = search rules in
    let world_is : c.take.result ≡ old = search rules in
    let begins : c.new-machine.result ≡ running (run_from old.stream (length ks)) ks old =
    c.new-machine.ensures ∙ ap (λ s. running (run_from s (length ks)) ks c.take.result) stream_is
    ∙ ap (λ w. running (run_from old.stream (length ks)) ks w) world_is in
    let one : us ≡ v ∷ [] =
    subst (λ o. MatchOption o (length us ≡ 1 → ⊥) (λ x. us ≡ x ∷ [])) c.in-Some.is c.into_value-value.ensures.value in
    let end = streams_end stated t c.accepted.ensures ks old left.world sound untold untold c.new-machine.result begins us left.captures
    c.in_ok-result.ensures.ended in
    value_one stated t old put ks c.within-captures.ensures us left.captures v c.with_maps.result one c.with_maps.ensures.answer
    (end.0, subst (λ x. StreamEnds stated t ks old end.0 (Finished us left.captures x)) (sym c.into_value-value.ensures.state) end.1)

pub returns-in-None-clause-streams : goal.returns-in-None-clause-streams
returns-in-None-clause-streams g c = λ sound.
    let stated = g.O.Parties.stated in
    let t = c.args.self.now in
    let old = c.args.state.now in
    let ks = c.within-captures.result in
    let left : Config = c.run-result.new.self in
    let us = left.run.operands in
    let stream_is : c.in_ok-stream.stream ≡ old.stream = search rules in
    let world_is : c.take.result ≡ old = search rules in
    let begins : c.new-machine.result ≡ running (run_from old.stream (length ks)) ks old =
    c.new-machine.ensures ∙ ap (λ s. running (run_from s (length ks)) ks c.take.result) stream_is
    ∙ ap (λ w. running (run_from old.stream (length ks)) ks w) world_is in
    let many : length us ≡ 1 → ⊥ =
    subst (λ o. MatchOption o (length us ≡ 1 → ⊥) (λ x. us ≡ x ∷ [])) c.in-None.is c.into_value-value.ensures.value in
    subst (λ chain. StreamValue stated t old (Err chain)) (sym c.from.ensures)
    (value_none stated t old left.world ks c.within-captures.ensures us left.captures many
    (streams_end stated t c.accepted.ensures ks old left.world sound untold untold c.new-machine.result begins us left.captures
    c.in_ok-result.ensures.ended))
