use Rattle.std.proofs.Common.{rules}
use Rattle.tm_objects.proofs.callable.CallableAnswer.keep.Goals as goal

pub returns-in-Err-push : goal.returns-in-Err-push
returns-in-Err-push c = search rules fits 100
