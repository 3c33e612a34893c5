use Rattle.std.proofs.Common.{arith, sym}
use Rattle.tm_runs.proofs.Used.{used_again}
use Rattle.tm_runs.proofs.caches.Caches.use_name.Goals as goal

pub returns-in-Some : goal.returns-in-Some
returns-in-Some t c =
    used_again c.args.cache c.args.name.now c.in-Some.held.now c.args.self.now (omega (arith, c.if-cache-ge-CACHES.false)) c.in-Some.ensures
    (sym c.if-is.ensures)
