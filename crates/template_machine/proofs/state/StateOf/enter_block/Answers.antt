use Rattle.std.proofs.Common.{ℕ, List, subst}
use Rattle.tm_meaning.specs.Calls.{enter_block}
use Rattle.template_machine.specs.Environment.{host_of}
use Rattle.template_machine.specs.Renders.{StateValue, IsEntered}
use Rattle.template_machine.proofs.state.StateOf.enter_block.Goals as goal

pub returns-clause-ok : goal.returns-clause-ok
returns-clause-ok g c =
    let saved = c.in_ok-_stream.saved in
    let new = c.enter_block.new.self in
    let Entered : StateValue g.row.O.Denot → List ℕ → Type 0 =
    λ s x. IsEntered (enter_block (host_of g.O.Parties.stated s.template) x s.world) saved s.world new in
    let ok = c.in_ok-_stream.ensures.ok in
    let inside : StateValue g.row.O.Denot = record { template = c.self.inside.rendering; world = c.self.inside.kept } in
    let base : Entered inside c.in_ok-name.name = (ok.0, (c.in_ok-_stream._stream, ok.1), c.in_ok-_stream.ensures.more, c.enter_block.ensures.places) in
    subst (λ s. Entered s c.args.name.now) c.self.view_is (subst (Entered inside) c.in_ok-name.ensures base)
