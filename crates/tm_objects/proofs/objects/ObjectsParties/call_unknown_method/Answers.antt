use Rattle.std.proofs.Common.{sym, refl}
use Rattle.tm_objects.proofs.objects.ObjectsParties.call_unknown_method.Goals as goal

pub returns-in-Some : goal.returns-in-Some
returns-in-Some g c =
    rw (sym c.self.view_is, c.in-Some.is) (g.M.MethodFallback.answers c.in-Some.fallback c.args.value.now c.args.name.now, refl, c.call.ensures)
