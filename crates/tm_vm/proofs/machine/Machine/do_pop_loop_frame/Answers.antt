use Rattle.std.proofs.Common.{◌≡◌, rules}
use Rattle.tm_meaning.specs.World.{leave_loop}
use Rattle.tm_vm.proofs.Ground.{base_then, left_keeps, stays_left}
use Rattle.tm_vm.proofs.Loop.{kept_then}
use Rattle.tm_vm.proofs.machine.Machine.do_pop_loop_frame.Goals as goal

pub returns-in-None : goal.returns-in-None
returns-in-None g c =
    let is : c.leave_loop.new.self ≡ leave_loop c.args.self.now.world = search rules fits 100 in
    record {
      did = search rules fits 100;
      kept = left_keeps c.args.self.now.world c.leave_loop.new.self is;
      stays = stays_left c.args.base.now c.args.self.now.world c.leave_loop.new.self (search rules fits 100) is;
      same_stream = search rules fits 100;
    }

pub returns-in-Some-pending : goal.returns-in-Some-pending
returns-in-Some-pending g c =
    let is : c.leave_loop.new.self ≡ leave_loop c.args.self.now.world = search rules fits 100 in
    record {
      did = search rules fits 100;
      kept = kept_then (left_keeps c.args.self.now.world c.leave_loop.new.self is) c.return_to.ensures.kept;
      stays = base_then c.args.base.now c.args.self.now.world c.leave_loop.new.self c.return_to.new.self.world
          (stays_left c.args.base.now c.args.self.now.world c.leave_loop.new.self (search rules fits 100) is)
          c.return_to.ensures.same_standing;
      same_stream = search rules fits 100;
    }
