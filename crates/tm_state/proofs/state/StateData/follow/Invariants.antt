use Rattle.std.proofs.Common.{◌≡◌, ◌≤◌, ◌-◌, false}
use Rattle.tm_syntax.specs.Named.{put_each}
use Rattle.tm_meaning.specs.Calls.{replied, by_depths, further_calls}
use Rattle.tm_objects.specs.Stated.{is_for_memory}
use Rattle.tm_state.specs.Answers.{shown}
use Rattle.tm_state.proofs.state.StateData.follow.Given as goal

-- What was asked at first is what the last answer comes to, where so many further calls were made.
abbrev pub invariant-loop-result : goal.invariant-loop-result
invariant-loop-result g l =
    let host = (g.H.Host.program l.fn.host).host in
    (l.self ≡ record l.fn.self { temps = l.self.temps; namespaces = l.self.namespaces }) × (l.made ≤ l.left) ×
    (is_for_memory l.answer.reply ≡ false →
    replied (by_depths host l.fn.self) l.fn.answer.reply (record l.fn.self { temps = put_each l.fn.answer.temps l.fn.self.temps }) ≡
    shown l.printed (replied (further_calls (l.left - l.made) l.made host) l.answer.reply
    (record l.self { temps = put_each l.answer.temps l.self.temps })))

abbrev pub decreases-loop-result : goal.decreases-loop-result
decreases-loop-result g l = l.left - l.made
