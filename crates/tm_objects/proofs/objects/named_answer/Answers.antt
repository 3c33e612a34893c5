use Rattle.std.proofs.Common.{Some}
use Rattle.tm_objects.proofs.NamedObjects.{stated}
use Rattle.tm_objects.proofs.objects.named_answer.Goals as goal

pub returns-in-Some : goal.returns-in-Some
returns-in-Some g c = (
  g.C.Callable.answers c.in-Some.object.now,
  stated g.C.Callable.answers c.args.name.now c.args.objects.now (Some c.in-Some.object.now) c.in-Some.ensures,
  c.call.ensures,
)
