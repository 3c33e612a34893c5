use Rattle.std.proofs.Common.{◌≡◌, ◌∙◌, ℕ, List, Ok, ap, subst, sym, String, Err, refl}
use Rattle.tm_meaning.specs.Calls.{Asked, by_depths}
use Rattle.tm_state.specs.Answers.{Becomes, IsEmitted}
use Rattle.template_machine.specs.Environment.{IsOfTrees, host_of}
use Rattle.template_machine.specs.Renders.{StateValue, call_by_name, called_value, IsMacroCall, StreamCalled, as_text, name_asked}
use Rattle.template_machine.proofs.Texts.{printed}
use Rattle.template_machine.proofs.CallLists.{macro_runs_none, name_keeps}
use Rattle.std.specs.declared.alloc.Global.{Global}
use Rattle.tm_values.specs.Val.{Val}
use Rattle.tm_values.specs.declared.error.ErrorKind.{ErrorKind}
use Rattle.tm_meaning.specs.World.{Res}
use Rattle.tm_meaning.specs.Memory.{is_want_of_memory}
use Rattle.tm_safety.proofs.Comes.{function_named_comes}
use Rattle.template_machine.proofs.Answered.{passed}
use Rattle.template_machine.proofs.Sound.{call_ids, call_started, fault_ids, sound_as, sound_left}
use Rattle.template_machine.proofs.StreamCalls.{refused_streamed, streamed_as}
use Rattle.template_machine.proofs.state.StateOf.call_macro.Goals as goal

pub returns-clause-called : goal.returns-clause-called
returns-clause-called g c = λ of.
    let of_state : StateValue g.row.O.Denot → List ℕ → Asked =
    λ s x. call_by_name (host_of g.O.Parties.stated s.template) x c.args.args.now s.world in
    let asked = of_state c.args.self.now c.args.name.now in
    let becomes : Becomes (Ok c.in-Ok.called) asked c.call_named.new.self =
    subst (λ q. Becomes (Ok c.in-Ok.called) q c.call_named.new.self)
    (ap (λ s. of_state s c.in_ok-hashed.hashed) c.self.view_is ∙ ap (λ x. of_state c.args.self.now x) c.in_ok-hashed.ensures)
    c.in-Ok.ensures.called in
    let same : c.value_of.new.self.world ≡ c.self-2.inside.kept = sym (ap (λ s. s.world) c.self-2.view_is) in
    printed c.to_text.result (called_value g.O.Parties.stated c.args.self.now.template asked) c.in_ok-value.value
    c.value_of.new.self.world c.self-2.inside.kept same
    (sym (ap {A = StateValue g.row.O.Denot} (λ s. called_value g.O.Parties.stated s.template asked) c.self.view_is)
    ∙ c.in_ok-value.ensures.called (subst (λ (s : StateValue g.row.O.Denot). IsOfTrees s.template) (sym c.self.view_is) of) asked becomes)
    c.to_text.ensures

pub returns-clause-lists : goal.returns-clause-lists
returns-clause-lists g c = λ none.
    let of_state : StateValue g.row.O.Denot → List ℕ → Asked =
    λ s x. call_by_name (host_of g.O.Parties.stated s.template) x c.args.args.now s.world in
    let asked = of_state c.args.self.now c.args.name.now in
    let becomes : Becomes (Ok c.in-Ok.called) asked c.call_named.new.self =
    subst (λ q. Becomes (Ok c.in-Ok.called) q c.call_named.new.self)
    (ap (λ s. of_state s c.in_ok-hashed.hashed) c.self.view_is ∙ ap (λ x. of_state c.args.self.now x) c.in_ok-hashed.ensures)
    c.in-Ok.ensures.called in
    c.in_ok-value.ensures.lists c.args.self.now.world
    (name_keeps c.in-Ok.called c.args.self.now.world c.call_named.new.self (host_of g.O.Parties.stated c.args.self.now.template)
    c.args.name.now c.args.args.now none becomes)

pub returns-clause-of_macro : goal.returns-clause-of_macro
returns-clause-of_macro g c = λ m found.
    let host = host_of g.O.Parties.stated c.args.self.now.template in
    let w = c.args.self.now.world in
    returns-clause-lists g c (macro_runs_none (by_depths host w) host c.args.name.now m c.args.args.now w found)

pub returns-in_err-value-clause-lists : goal.returns-in_err-value-clause-lists
returns-in_err-value-clause-lists g c = λ none.
    let of_state : StateValue g.row.O.Denot → List ℕ → Asked =
    λ s x. call_by_name (host_of g.O.Parties.stated s.template) x c.args.args.now s.world in
    let asked = of_state c.args.self.now c.args.name.now in
    let becomes : Becomes (Ok c.in-Ok.called) asked c.call_named.new.self =
    subst (λ q. Becomes (Ok c.in-Ok.called) q c.call_named.new.self)
    (ap (λ s. of_state s c.in_ok-hashed.hashed) c.self.view_is ∙ ap (λ x. of_state c.args.self.now x) c.in_ok-hashed.ensures)
    c.in-Ok.ensures.called in
    c.value_of.ensures.lists c.args.self.now.world
    (name_keeps c.in-Ok.called c.args.self.now.world c.call_named.new.self (host_of g.O.Parties.stated c.args.self.now.template)
    c.args.name.now c.args.args.now none becomes)

pub returns-in_err-value-clause-of_macro : goal.returns-in_err-value-clause-of_macro
returns-in_err-value-clause-of_macro g c = λ m found.
    let host = host_of g.O.Parties.stated c.args.self.now.template in
    let w = c.args.self.now.world in
    returns-in_err-value-clause-lists g c (macro_runs_none (by_depths host w) host c.args.name.now m c.args.args.now w found)

-- ---------------------------------------------------------------- of streams
pub invariant_of-self : goal.invariant_of-self
invariant_of-self g c =
    let kept = c.self.inside.kept in
    let new = c.call_named.new.self in
    let host = host_of g.O.Parties.stated c.self.inside.rendering in
    let x = c.in_ok-hashed.hashed in
    sound_as c.self.inside.rendering kept new
    (call_ids kept new (call_by_name host x c.args.args.now kept) (function_named_comes host x c.args.args.now kept)
    c.in-Ok.called c.in-Ok.ensures.called) c.self.invariant

pub invariant_of-self-in-Err : goal.invariant_of-self-in-Err
invariant_of-self-in-Err g c =
    let kept = c.self.inside.kept in
    let new = c.call_named.new.self in
    let host = host_of g.O.Parties.stated c.self.inside.rendering in
    let x = c.in_ok-hashed.hashed in
    sound_left c.self.inside.rendering (is_want_of_memory c.in-Err.error) new c.faulted.new.state c.faulted.ensures.state (λ own.
    sound_as c.self.inside.rendering kept new
    (fault_ids kept new (call_by_name host x c.args.args.now kept) (function_named_comes host x c.args.args.now kept)
    c.in-Err.error c.in-Err.ensures.called own) c.self.invariant)

pub value_of-requires : goal.value_of-requires
value_of-requires g c =
    let kept = c.self.inside.kept in
    let host = host_of g.O.Parties.stated c.self.inside.rendering in
    let x = c.in_ok-hashed.hashed in
    call_started kept c.call_named.new.self (call_by_name host x c.args.args.now kept) (function_named_comes host x c.args.args.now kept)
    c.in-Ok.called c.in-Ok.ensures.called

pub returns-in-Err-clause-streams : goal.returns-in-Err-clause-streams
returns-in-Err-clause-streams g c =
    let stated = g.O.Parties.stated in
    let error = c.in-Err.error in
    let put = c.faulted.new.state in
    let asked : StateValue g.row.O.Denot → List ℕ → Asked = λ s x. name_asked stated s x c.args.args.now in
    let inside : StateValue g.row.O.Denot = record { template = c.self.inside.rendering; world = c.self.inside.kept } in
    let Failed : StateValue g.row.O.Denot → List ℕ → List ErrorKind → Type 0 =
    λ s x e. StreamCalled {A = String Global} stated s.template (asked s x) (Err e) (λ m. IsEmitted (Err e) (as_text m) put) in
    subst (λ s. Failed s c.args.name.now c.faulted.result) c.self.view_is
    (subst (λ x. Failed inside x c.faulted.result) c.in_ok-hashed.ensures
    (subst (Failed inside c.in_ok-hashed.hashed) (sym c.faulted.ensures.same)
    (refused_streamed stated inside.template (asked inside c.in_ok-hashed.hashed) c.call_named.new.self put error
    (λ m. IsEmitted (Err error) (as_text m) put) c.in-Err.ensures.called c.faulted.ensures.state (λ own. refl))))

pub returns-in_err-value-clause-streams : goal.returns-in_err-value-clause-streams
returns-in_err-value-clause-streams g c =
    let stated = g.O.Parties.stated in
    let why = c.in_err-value.field-0.0 in
    let new = c.value_of.new.self.world in
    let asked : StateValue g.row.O.Denot → List ℕ → Asked = λ s x. name_asked stated s x c.args.args.now in
    let inside : StateValue g.row.O.Denot = record { template = c.self.inside.rendering; world = c.self.inside.kept } in
    let Failed : StateValue g.row.O.Denot → List ℕ → Type 0 =
    λ s x. StreamCalled {A = String Global} stated s.template (asked s x) (Err why) (λ m. IsEmitted (Err why) (as_text m) new) in
    let failed : Failed inside c.in_ok-hashed.hashed =
    streamed_as stated inside.template (asked inside c.in_ok-hashed.hashed) (Err why) (Err why) (λ m. IsMacroCall (Err why) m new)
    (λ m. IsEmitted (Err why) (as_text m) new) (λ none. none) (λ m comes said own. ap {A = Res Val} as_text (said own))
    (c.in_err-value.ensures.streams (asked inside c.in_ok-hashed.hashed) c.in-Ok.ensures.called) in
    passed c.from_residual-in_err-value.result (λ r. StreamCalled stated c.args.self.now.template
    (asked c.args.self.now c.args.name.now) r (λ m. IsEmitted r (as_text m) new)) why c.from_residual-in_err-value.ensures.1
    (subst (λ s. Failed s c.args.name.now) c.self.view_is (subst (Failed inside) c.in_ok-hashed.ensures failed))

pub returns-clause-streams : goal.returns-clause-streams
returns-clause-streams g c =
    let stated = g.O.Parties.stated in
    let v = c.in_ok-value.value in
    let r = c.to_text.result in
    let new = c.value_of.new.self.world in
    let same : new ≡ c.self-2.inside.kept = sym (ap (λ s. s.world) c.self-2.view_is) in
    let asked : StateValue g.row.O.Denot → List ℕ → Asked = λ s x. name_asked stated s x c.args.args.now in
    let inside : StateValue g.row.O.Denot = record { template = c.self.inside.rendering; world = c.self.inside.kept } in
    let Called : StateValue g.row.O.Denot → List ℕ → Type 0 =
    λ s x. StreamCalled stated s.template (asked s x) r (λ m. IsEmitted r (as_text m) new) in
    let called : Called inside c.in_ok-hashed.hashed =
    streamed_as stated inside.template (asked inside c.in_ok-hashed.hashed) (Ok v) r (λ m. IsMacroCall (Ok v) m new)
    (λ m. IsEmitted r (as_text m) new) (λ none. absurd none)
    (λ m comes said. printed r m v new c.self-2.inside.kept same said c.to_text.ensures)
    (c.in_ok-value.ensures.streams (asked inside c.in_ok-hashed.hashed) c.in-Ok.ensures.called) in
    subst (λ s. Called s c.args.name.now) c.self.view_is (subst (Called inside) c.in_ok-hashed.ensures called)
