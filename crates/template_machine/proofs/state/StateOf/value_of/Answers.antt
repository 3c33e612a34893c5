use Rattle.std.proofs.Common.{Ok, subst, sym, ◌≡◌, [], ◌∷◌, ap, refl}
use Rattle.tm_records.specs.declared.nested.NestedRun.{NestedRun}
use Rattle.tm_state.specs.Answers.{Becomes, CallDeeper, CallLies, NeedsRun}
use Rattle.tm_values.specs.Val.{Val}
use Rattle.tm_values.specs.declared.error.ErrorKind.TheVariants.{InvalidOperation}
use Rattle.tm_meaning.specs.Calls.{has, recurs}
use Rattle.tm_meaning.specs.World.{Res, Good, Bad}
use Rattle.template_machine.specs.Renders.{CallComes, call_streamed}
use Rattle.template_machine.proofs.state.StateOf.value_of.Goals as goal

pub returns-in-Run-clause-called : goal.returns-in-Run-clause-called
returns-in-Run-clause-called g c = λ of asked becomes.
    let w = c.args.self.now.world in
    c.value_of_run.ensures.called of asked
    (subst (λ (e : NestedRun). NeedsRun e asked w) (sym c.into_inner.ensures)
    (subst (λ called. Becomes (Ok called) asked w) c.in-Run.is becomes))

pub returns-in-Run-clause-stays : goal.returns-in-Run-clause-stays
returns-in-Run-clause-stays g c = λ limit before lies.
    let w = c.args.self.now.world in
    c.value_of_run.ensures.stays limit before
    (subst (λ (e : NestedRun). CallDeeper limit e.saved before w) (sym c.into_inner.ensures)
    (subst (λ called. CallLies limit (Ok called) before w) c.in-Run.is lies))

-- ---------------------------------------------------------------- of streams
pub returns-in-Value-clause-streams : goal.returns-in-Value-clause-streams
returns-in-Value-clause-streams g c = λ asked becomes.
    let w = c.args.self.now.world in
    let v = c.in-Value.value in
    let t = c.args.self.now.template in
    let is : asked ≡ has v w = subst (λ called. Becomes (Ok called) asked w) c.in-Value.is becomes in
    call_streamed (Good v w) (subst (λ q. CallComes g.O.Parties.stated t q (Good v w)) (sym is) refl) refl

pub returns-in-Recursion-clause-streams : goal.returns-in-Recursion-clause-streams
returns-in-Recursion-clause-streams g c = λ asked becomes.
    let w = c.args.self.now.world in
    let t = c.args.self.now.template in
    let r = c.in-Recursion._recursion in
    let bad : Res Val = Bad (InvalidOperation ∷ []) w in
    let is : asked ≡ recurs r.number r.items.value.items w = subst (λ called. Becomes (Ok called) asked w) c.in-Recursion.is becomes in
    call_streamed bad (subst (λ q. CallComes g.O.Parties.stated t q bad) (sym is) refl) (λ own. ap (λ ks. Bad ks w) (sym c.from.ensures))

pub returns-in-Run-clause-streams : goal.returns-in-Run-clause-streams
returns-in-Run-clause-streams g c = λ asked becomes.
    let w = c.args.self.now.world in
    c.value_of_run.ensures.streams asked
    (subst (λ (e : NestedRun). NeedsRun e asked w) (sym c.into_inner.ensures)
    (subst (λ called. Becomes (Ok called) asked w) c.in-Run.is becomes))
