use Rattle.std.proofs.Common.{rules}
use Rattle.tm_vm.proofs.Ground.{no_fewer_opened}
use Rattle.tm_vm.proofs.machine.Machine.recurse.Goals as goal

pub returns-then-not-found : goal.returns-then-not-found
returns-then-not-found g c = search rules fits 100

pub returns : goal.returns
returns g c = record {
  did = search rules fits 100;
  kept = search rules fits 100;
  no_fewer = no_fewer_opened c.args.called.items.value.items c.in-Some.found.flags c.args.called.number c.args.self.now.world
      c.open_loop.new.self (search rules fits 100);
  same_stream = search rules fits 100;
}
