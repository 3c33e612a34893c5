use Rattle.std.proofs.Common.{◌≡◌, ℕ, List, Ok, ap, subst, Bool, Err, refl, sym}
use Rattle.tm_meaning.specs.Calls.{Asked, perform_test, by_depths, found_call}
use Rattle.tm_state.specs.Answers.{Becomes}
use Rattle.template_machine.specs.Environment.{host_of}
use Rattle.template_machine.specs.Renders.{StateValue, IsMacroCall, IsTested, StreamCalled, test_asked}
use Rattle.template_machine.proofs.CallLists.{test_keeps}
use Rattle.tm_values.specs.declared.error.ErrorKind.TheVariants.{UnknownTest}
use Rattle.tm_syntax.specs.Named.{find}
use Rattle.tm_meaning.specs.Memory.{is_want_of_memory}
use Rattle.tm_safety.proofs.Comes.{test_comes}
use Rattle.template_machine.proofs.Answered.{passed}
use Rattle.template_machine.proofs.Sound.{call_ids, call_started, fault_ids, sound_as, sound_left}
use Rattle.template_machine.proofs.StreamCalls.{refused_streamed, streamed_as, tested_streamed}
use Rattle.template_machine.proofs.state.StateOf.perform_test.Goals as goal

pub returns-clause-lists : goal.returns-clause-lists
returns-clause-lists g c = λ none.
    let of_state : StateValue g.row.O.Denot → Asked =
    λ s. perform_test (host_of g.O.Parties.stated s.template) c.args.name.now c.args.args.now s.world in
    let becomes : Becomes (Ok c.in-Ok.called) (of_state c.args.self.now) c.perform_test.new.self =
    subst (λ q. Becomes (Ok c.in-Ok.called) q c.perform_test.new.self) (ap of_state c.self.view_is) c.in-Ok.ensures.called in
    c.in_ok-value.ensures.lists c.args.self.now.world
    (test_keeps c.in-Ok.called c.args.self.now.world c.perform_test.new.self
    (host_of g.O.Parties.stated c.args.self.now.template) c.args.name.now c.args.args.now none becomes)

pub returns-in_err-value-clause-lists : goal.returns-in_err-value-clause-lists
returns-in_err-value-clause-lists g c = λ none.
    let of_state : StateValue g.row.O.Denot → Asked =
    λ s. perform_test (host_of g.O.Parties.stated s.template) c.args.name.now c.args.args.now s.world in
    let becomes : Becomes (Ok c.in-Ok.called) (of_state c.args.self.now) c.perform_test.new.self =
    subst (λ q. Becomes (Ok c.in-Ok.called) q c.perform_test.new.self) (ap of_state c.self.view_is) c.in-Ok.ensures.called in
    c.value_of.ensures.lists c.args.self.now.world
    (test_keeps c.in-Ok.called c.args.self.now.world c.perform_test.new.self
    (host_of g.O.Parties.stated c.args.self.now.template) c.args.name.now c.args.args.now none becomes)

-- ---------------------------------------------------------------- of streams
pub invariant_of-self : goal.invariant_of-self
invariant_of-self g c =
    let kept = c.self.inside.kept in
    let new = c.perform_test.new.self in
    let host = host_of g.O.Parties.stated c.self.inside.rendering in
    sound_as c.self.inside.rendering kept new
    (call_ids kept new (perform_test host c.args.name.now c.args.args.now kept) (test_comes host c.args.name.now c.args.args.now kept)
    c.in-Ok.called c.in-Ok.ensures.called) c.self.invariant

pub invariant_of-self-in-Err : goal.invariant_of-self-in-Err
invariant_of-self-in-Err g c =
    let kept = c.self.inside.kept in
    let new = c.perform_test.new.self in
    let host = host_of g.O.Parties.stated c.self.inside.rendering in
    sound_left c.self.inside.rendering (is_want_of_memory c.in-Err.error) new c.faulted.new.state c.faulted.ensures.state (λ own.
    sound_as c.self.inside.rendering kept new
    (fault_ids kept new (perform_test host c.args.name.now c.args.args.now kept) (test_comes host c.args.name.now c.args.args.now kept)
    c.in-Err.error c.in-Err.ensures.called own) c.self.invariant)

pub value_of-requires : goal.value_of-requires
value_of-requires g c =
    let kept = c.self.inside.kept in
    let host = host_of g.O.Parties.stated c.self.inside.rendering in
    call_started kept c.perform_test.new.self (perform_test host c.args.name.now c.args.args.now kept)
    (test_comes host c.args.name.now c.args.args.now kept) c.in-Ok.called c.in-Ok.ensures.called

pub returns-in-Err-clause-streams : goal.returns-in-Err-clause-streams
returns-in-Err-clause-streams g c =
    let stated = g.O.Parties.stated in
    let error = c.in-Err.error in
    let put = c.faulted.new.state in
    subst (λ (s : StateValue g.row.O.Denot). StreamCalled {A = Bool} stated s.template (test_asked stated s c.args.name.now c.args.args.now)
    (Err c.faulted.result) (λ m. IsTested (Err c.faulted.result) m put)) c.self.view_is
    (subst (λ e. StreamCalled {A = Bool} stated c.self.inside.rendering
    (perform_test (host_of stated c.self.inside.rendering) c.args.name.now c.args.args.now c.self.inside.kept) (Err e)
    (λ m. IsTested (Err e) m put)) (sym c.faulted.ensures.same)
    (refused_streamed stated c.self.inside.rendering
    (perform_test (host_of stated c.self.inside.rendering) c.args.name.now c.args.args.now c.self.inside.kept) c.perform_test.new.self put error
    (λ m. IsTested (Err error) m put) c.in-Err.ensures.called c.faulted.ensures.state (λ own. refl)))

pub returns-in_err-value-clause-streams : goal.returns-in_err-value-clause-streams
returns-in_err-value-clause-streams g c =
    let stated = g.O.Parties.stated in
    let why = c.in_err-value.field-0.0 in
    let new = c.value_of.new.self.world in
    let asked = perform_test (host_of stated c.self.inside.rendering) c.args.name.now c.args.args.now c.self.inside.kept in
    let failed : StreamCalled {A = Bool} stated c.self.inside.rendering asked (Err why) (λ m. IsTested (Err why) m new) =
    streamed_as stated c.self.inside.rendering asked (Err why) (Err why) (λ m. IsMacroCall (Err why) m new) (λ m. IsTested (Err why) m new)
    (λ none. none) (λ m comes said. said) (c.in_err-value.ensures.streams asked c.in-Ok.ensures.called) in
    passed c.from_residual.result (λ r. StreamCalled stated c.args.self.now.template
    (test_asked stated c.args.self.now c.args.name.now c.args.args.now) r (λ m. IsTested r m new)) why c.from_residual.ensures.1
    (subst (λ (s : StateValue g.row.O.Denot). StreamCalled {A = Bool} stated s.template
    (test_asked stated s c.args.name.now c.args.args.now) (Err why) (λ m. IsTested (Err why) m new)) c.self.view_is failed)

pub returns-clause-streams : goal.returns-clause-streams
returns-clause-streams g c =
    let stated = g.O.Parties.stated in
    let host = host_of stated c.self.inside.rendering in
    let kept = c.self.inside.kept in
    let v = c.in_ok-value.value in
    let b = c.is_true.result in
    let new = c.value_of.new.self.world in
    let asked = perform_test host c.args.name.now c.args.args.now kept in
    subst (λ (s : StateValue g.row.O.Denot). StreamCalled stated s.template (test_asked stated s c.args.name.now c.args.args.now) (Ok b)
    (λ m. IsTested (Ok b) m new)) c.self.view_is
    (tested_streamed stated c.self.inside.rendering
    (found_call (by_depths host kept) host (find c.args.name.now host.tests) UnknownTest c.args.args.now kept) v b new c.is_true.ensures
    (c.in_ok-value.ensures.streams asked c.in-Ok.ensures.called))
