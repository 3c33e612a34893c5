use Rattle.std.proofs.Common.{rules}
use Rattle.tm_vm.proofs.Ground.{stays_popped}
use Rattle.tm_vm.proofs.machine.Machine.do_pop_frame.Goals as goal

pub returns : goal.returns
returns c = record {
  did = search rules fits 100;
  kept = search rules fits 100;
  stays = stays_popped c.args.base.now c.args.self.now.world c.pop_scope.new.self (search rules fits 100) (search rules fits 100);
  same_stream = search rules fits 100;
}
