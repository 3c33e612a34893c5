use Rattle.std.proofs.Common.{sym, ap}
use Rattle.std.proofs.lemmas.Result.{IfOk-weaker}
use Rattle.tm_syntax.specs.Named.{texts_of}
use Rattle.tm_meaning.specs.World.{World, view_of}
use Rattle.tm_scopes.proofs.Known.{known-in}
use Rattle.tm_state.proofs.state.StateData.known_variables.Goals as goal

pub returns-clause-found : goal.returns-clause-found
returns-clause-found g c =
    let frames = sym (ap (λ (w : World). w.scopes.frames) c.self.view_is) in
    let closures = sym (ap (λ (w : World). w.closures) c.self.view_is) in
    IfOk-weaker c.known_names.result _ _
    (λ names known. known-in (view_of (g.H.Host.program c.args.host.now).host c.args.self.now) _ _ _ (texts_of names.items) closures frames
    (sym c.globals.ensures) known) c.known_names.ensures.known
