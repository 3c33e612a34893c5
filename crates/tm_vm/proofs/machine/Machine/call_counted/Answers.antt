use Rattle.tm_meaning.specs.Calls.{call_named}
use Rattle.tm_meaning.specs.Machine.{Config}
use Rattle.tm_vm.proofs.Counted.{counted_needs}
use Rattle.tm_vm.proofs.machine.Machine.call_counted.Goals as goal

pub returns-in-Some : goal.returns-in-Some
returns-in-Some g c =
    let host = (g.H.Host.program c.args.host.now).host in
    let inside : Config = record { run = c.self.inside.run; captures = c.self.inside.captures; world = c.self.inside.state } in
    counted_needs (g.H.Host.program c.args.host.now) (λ w vs. call_named host c.args.name.now vs w) c.args.count c.in-Some.count inside
    c.take_count.new.self c.in-Some.ensures.rest c.in-Some.ensures.counted c.args.self.now c.call_function.new.self c.call_function.result
    c.self.view_is c.call_function.ensures
