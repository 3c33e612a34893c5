use Rattle.std.proofs.Common.{◌≡◌, ◌∙◌, rules, Err, None, ap, length, refl, subst, sym}
use Rattle.tm_meaning.specs.World.{World}
use Rattle.tm_safety.specs.Fits.{ids_of}
use Rattle.tm_state.specs.State.{callee_of}
use Rattle.template_machine.specs.Environment.{TemplateValue}
use Rattle.template_machine.specs.Renders.{CalleeRan, RanApart, SoundRecords, StateValue, callee_run, forgetting, is_cut}
use Rattle.template_machine.proofs.Sound.{left_as, sound_as}
use Rattle.template_machine.proofs.StateCalls.{over_closed, over_done, over_halted, over_none}
use Rattle.template_machine.proofs.StreamCalls.{callee_done, callee_halted, callee_none, sound_done, sound_halted}
use Rattle.template_machine.proofs.state.StateOf.run_over.Goals as goal

-- there is no such run
pub returns-in-Err-clause-ran : goal.returns-in-Err-clause-ran
returns-in-Err-clause-ran g c = λ of.
    rw c.from.ensures
    (over_none g.O.Parties.stated c.args.self.now.template c.self.inside.rendering (search rules) (callee_of c.args.run) c.args.self.now.world
    c.put.new.self.world c.args.captures of c.requires.fresh c.in-Err.ensures.0 (search rules))

pub returns-in-Ok-result-clause-ran : goal.returns-in-Ok-result-clause-ran
returns-in-Ok-result-clause-ran g c = λ of.
    let left = c.run-result.new.self in
    over_done g.O.Parties.stated c.args.self.now.template c.self.inside.rendering (search rules) (callee_of c.args.run) c.args.self.now.world
    left.world c.args.captures c.requires.fresh None None of c.in-Ok.machine (search rules) c.in-Ok.ensures.0 left.run.operands left.captures
    c.into_parts-captures.result.0 c.put-in-Ok-result.new.self.world (search rules) (search rules) c.in-Ok-result.ensures.ended

pub returns-in-Err-result-clause-ran : goal.returns-in-Err-result-clause-ran
returns-in-Err-result-clause-ran g c = λ of.
    let left = c.run-result.new.self in
    let why = c.in-Err-result.halt in
    let put = c.put-in-Err-result.new.self.world in
    let k = callee_of c.args.run in
    let kept : put ≡ c.halted-halt.new.state = search rules in
    let is : put ≡ forgetting (is_cut why) left.world =
    kept ∙ c.halted-halt.ensures.state ∙ ap (forgetting (is_cut why)) c.into_parts-captures.ensures.state in
    subst (λ x. RanApart (Err x) (callee_run g.O.Parties.stated c.args.self.now.template k c.args.self.now.world) put)
    (sym c.halted-halt.ensures.same)
    (over_halted g.O.Parties.stated c.args.self.now.template c.self.inside.rendering (search rules) k c.args.self.now.world
    left.world c.args.captures c.requires.fresh None None of c.in-Ok.machine (search rules) c.in-Ok.ensures.0
    why put (left_as (is_cut why) left.world put is) c.in-Err-result.ensures.failures c.in-Err-result.ensures.ended)

pub returns-in-Ok-result-clause-closed : goal.returns-in-Ok-result-clause-closed
returns-in-Ok-result-clause-closed g c =
    let left = c.run-result.new.self in
    let same : left.captures ≡ c.into_parts-captures.result.0 = search rules in
    ap length (sym same)
    ∙ over_closed g.O.Parties.stated c.args.self.now.template c.self.inside.rendering (search rules) (callee_of c.args.run) c.args.self.now.world
    left.world c.args.captures c.requires.fresh None None c.in-Ok.machine (search rules) c.in-Ok.ensures.0 left.run.operands left.captures
    c.in-Ok-result.ensures.ended

-- ---------------------------------------------------------------- of streams
pub returns-in-Err-clause-streams : goal.returns-in-Err-clause-streams
returns-in-Err-clause-streams g c =
    rw c.from.ensures
    (callee_none g.O.Parties.stated c.args.self.now.template c.self.inside.rendering (search rules) (callee_of c.args.run) c.args.self.now.world
    c.put.new.self.world c.args.captures c.requires.fresh c.in-Err.ensures.0 (search rules))

pub returns-in-Ok-result-clause-streams : goal.returns-in-Ok-result-clause-streams
returns-in-Ok-result-clause-streams g c =
    let left = c.run-result.new.self in
    let sound = subst (λ (s : StateValue g.row.O.Denot). SoundRecords s.template s.world) c.self.view_is c.self.invariant in
    callee_done g.O.Parties.stated c.args.self.now.template c.self.inside.rendering (search rules) (callee_of c.args.run) c.args.self.now.world
    left.world c.requires.named sound c.args.captures c.requires.fresh c.in-Ok.machine (search rules) c.in-Ok.ensures.0 left.run.operands
    left.captures c.into_parts-captures.result.0 c.put-in-Ok-result.new.self.world (search rules) (search rules) c.in-Ok-result.ensures.ended

pub returns-in-Err-result-clause-streams : goal.returns-in-Err-result-clause-streams
returns-in-Err-result-clause-streams g c =
    let left = c.run-result.new.self in
    let sound = subst (λ (s : StateValue g.row.O.Denot). SoundRecords s.template s.world) c.self.view_is c.self.invariant in
    let why = c.in-Err-result.halt in
    let put = c.put-in-Err-result.new.self.world in
    let k = callee_of c.args.run in
    let kept : put ≡ c.halted-halt.new.state = search rules in
    let is : put ≡ forgetting (is_cut why) left.world =
    kept ∙ c.halted-halt.ensures.state ∙ ap (forgetting (is_cut why)) c.into_parts-captures.ensures.state in
    subst (λ x. CalleeRan g.O.Parties.stated c.args.self.now.template k c.args.self.now.world (Err x) put) (sym c.halted-halt.ensures.same)
    (callee_halted g.O.Parties.stated c.args.self.now.template c.self.inside.rendering (search rules) k c.args.self.now.world
    left.world c.requires.named sound c.args.captures c.requires.fresh c.in-Ok.machine (search rules) c.in-Ok.ensures.0 c.accepted.ensures
    why put (left_as (is_cut why) left.world put is) c.in-Err-result.ensures.failures c.in-Err-result.ensures.ended)

-- ---------------------------------------------------------------- of records
pub put-requires : goal.put-requires
put-requires g c =
    let r = c.self.inside.rendering in
    sound_as r c.self.inside.kept c.in-Err.state (ap (λ (w : World). ids_of w.loops) (c.in-Err.ensures.1 ∙ c.take-state.ensures.taken))
    c.self.invariant

pub put-requires-in-Ok-result : goal.put-requires-in-Ok-result
put-requires-in-Ok-result g c =
    let r = c.self.inside.rendering in
    let left = c.run-result.new.self in
    let sound = subst (λ (s : StateValue g.row.O.Denot). SoundRecords r s.world) c.self.view_is c.self.invariant in
    sound_done g.O.Parties.stated r r refl (callee_of c.args.run) c.args.self.now.world left.world c.requires.named sound c.args.captures
    c.requires.fresh c.in-Ok.machine (search rules) c.in-Ok.ensures.0 left.run.operands left.captures c.into_parts-captures.result.1
    (sym c.into_parts-captures.ensures.state) c.in-Ok-result.ensures.ended

pub put-requires-in-Err-result : goal.put-requires-in-Err-result
put-requires-in-Err-result g c =
    let r = c.self.inside.rendering in
    let left = c.run-result.new.self in
    let why = c.in-Err-result.halt in
    let sound = subst (λ (s : StateValue g.row.O.Denot). SoundRecords r s.world) c.self.view_is c.self.invariant in
    sound_halted g.O.Parties.stated r r refl (callee_of c.args.run) c.args.self.now.world left.world c.requires.named sound c.args.captures
    c.requires.fresh c.in-Ok.machine (search rules) c.in-Ok.ensures.0 why c.halted-halt.new.state
    (c.halted-halt.ensures.state ∙ ap (forgetting (is_cut why)) c.into_parts-captures.ensures.state) c.in-Err-result.ensures.ended
