use Rattle.tm_meaning.specs.World.{View, in_frames}
use Rattle.tm_scopes.proofs.Known.{known-after}
use Rattle.tm_scopes.proofs.context.Context.known_names.Goals as goal

pub returns-clause-known : goal.returns-clause-known
returns-clause-known g c = λ view same enclosed x.
    let whole : View = record view { frames = c.args.self.now.frames; globals = c.args.globals.now } in
    known-after (in_frames whole x c.args.self.now.frames) x c.args.globals.now c.in_ok-names.names.items c.in_ok-global.global.items
    c.append.new.self.items c.in_order.result.items
    (c.in_ok-names.ensures.found whole same enclosed x) c.in_ok-global.ensures c.in_ok-append.ensures.items (c.in_order.ensures.same x)
