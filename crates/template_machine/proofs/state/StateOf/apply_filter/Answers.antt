use Rattle.std.proofs.Common.{◌≡◌, ℕ, List, Ok, ap, subst, Err, refl, sym}
use Rattle.tm_meaning.specs.Calls.{Asked, apply_filter}
use Rattle.tm_state.specs.Answers.{Becomes}
use Rattle.template_machine.specs.Environment.{host_of}
use Rattle.template_machine.specs.Renders.{StateValue, IsMacroCall, StreamCalled, filter_asked}
use Rattle.template_machine.proofs.CallLists.{filter_keeps}
use Rattle.tm_meaning.specs.Memory.{is_want_of_memory}
use Rattle.tm_safety.proofs.Comes.{filter_comes}
use Rattle.template_machine.proofs.Sound.{call_ids, call_started, fault_ids, sound_as, sound_left}
use Rattle.template_machine.proofs.StreamCalls.{refused_streamed}
use Rattle.template_machine.proofs.state.StateOf.apply_filter.Goals as goal

pub returns-clause-lists : goal.returns-clause-lists
returns-clause-lists g c = λ none.
    let of_state : StateValue g.row.O.Denot → Asked =
    λ s. apply_filter (host_of g.O.Parties.stated s.template) c.args.name.now c.args.args.now s.world in
    let becomes : Becomes (Ok c.in-Ok.called) (of_state c.args.self.now) c.apply_filter.new.self =
    subst (λ q. Becomes (Ok c.in-Ok.called) q c.apply_filter.new.self) (ap of_state c.self.view_is) c.in-Ok.ensures.called in
    c.value_of.ensures.lists c.args.self.now.world
    (filter_keeps c.in-Ok.called c.args.self.now.world c.apply_filter.new.self
    (host_of g.O.Parties.stated c.args.self.now.template) c.args.name.now c.args.args.now none becomes)

-- ---------------------------------------------------------------- of streams
pub invariant_of-self : goal.invariant_of-self
invariant_of-self g c =
    let kept = c.self.inside.kept in
    let new = c.apply_filter.new.self in
    let host = host_of g.O.Parties.stated c.self.inside.rendering in
    sound_as c.self.inside.rendering kept new
    (call_ids kept new (apply_filter host c.args.name.now c.args.args.now kept) (filter_comes host c.args.name.now c.args.args.now kept)
    c.in-Ok.called c.in-Ok.ensures.called) c.self.invariant

pub invariant_of-self-in-Err : goal.invariant_of-self-in-Err
invariant_of-self-in-Err g c =
    let kept = c.self.inside.kept in
    let new = c.apply_filter.new.self in
    let host = host_of g.O.Parties.stated c.self.inside.rendering in
    sound_left c.self.inside.rendering (is_want_of_memory c.in-Err.error) new c.faulted.new.state c.faulted.ensures.state (λ own.
    sound_as c.self.inside.rendering kept new
    (fault_ids kept new (apply_filter host c.args.name.now c.args.args.now kept) (filter_comes host c.args.name.now c.args.args.now kept)
    c.in-Err.error c.in-Err.ensures.called own) c.self.invariant)

pub value_of-requires : goal.value_of-requires
value_of-requires g c =
    let kept = c.self.inside.kept in
    let host = host_of g.O.Parties.stated c.self.inside.rendering in
    call_started kept c.apply_filter.new.self (apply_filter host c.args.name.now c.args.args.now kept)
    (filter_comes host c.args.name.now c.args.args.now kept) c.in-Ok.called c.in-Ok.ensures.called

pub returns-in-Err-clause-streams : goal.returns-in-Err-clause-streams
returns-in-Err-clause-streams g c =
    let stated = g.O.Parties.stated in
    let error = c.in-Err.error in
    let put = c.faulted.new.state in
    subst (λ (s : StateValue g.row.O.Denot). StreamCalled stated s.template (filter_asked stated s c.args.name.now c.args.args.now)
    (Err c.faulted.result) (λ m. IsMacroCall (Err c.faulted.result) m put)) c.self.view_is
    (subst (λ e. StreamCalled stated c.self.inside.rendering
    (apply_filter (host_of stated c.self.inside.rendering) c.args.name.now c.args.args.now c.self.inside.kept) (Err e)
    (λ m. IsMacroCall (Err e) m put)) (sym c.faulted.ensures.same)
    (refused_streamed stated c.self.inside.rendering
    (apply_filter (host_of stated c.self.inside.rendering) c.args.name.now c.args.args.now c.self.inside.kept) c.apply_filter.new.self put error
    (λ m. IsMacroCall (Err error) m put) c.in-Err.ensures.called c.faulted.ensures.state (λ own. refl)))

pub returns-clause-streams : goal.returns-clause-streams
returns-clause-streams g c =
    let stated = g.O.Parties.stated in
    let result = c.value_of.result in
    let new = c.value_of.new.self.world in
    subst (λ (s : StateValue g.row.O.Denot). StreamCalled stated s.template (filter_asked stated s c.args.name.now c.args.args.now) result
    (λ m. IsMacroCall result m new)) c.self.view_is
    (c.value_of.ensures.streams
    (apply_filter (host_of stated c.self.inside.rendering) c.args.name.now c.args.args.now c.self.inside.kept) c.in-Ok.ensures.called)
