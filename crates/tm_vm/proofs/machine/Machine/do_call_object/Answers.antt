use Rattle.tm_meaning.specs.Calls.{call_callee}
use Rattle.tm_meaning.specs.Machine.{Config}
use Rattle.tm_vm.proofs.Counted.{counted_needs}
use Rattle.tm_vm.proofs.machine.Machine.do_call_object.Goals as goal

pub returns-in-Some : goal.returns-in-Some
returns-in-Some g c =
    let host = (g.H.Host.program c.args.host.now).host in
    let inside : Config = record { run = c.self.inside.run; captures = c.self.inside.captures; world = c.self.inside.state } in
    counted_needs (g.H.Host.program c.args.host.now) (λ w vs. call_callee host vs w) c.args.count c.in-Some.count inside
    c.take_count.new.self c.in-Some.ensures.rest c.in-Some.ensures.counted c.args.self.now c.call_object.new.self c.call_object.result
    c.self.view_is c.call_object.ensures
