use Rattle.tm_meaning.specs.Calls.{call_callee}
use Rattle.tm_meaning.specs.Machine.{Config}
use Rattle.tm_vm.proofs.Called.{went_on_plainly, ended}
use Rattle.tm_vm.proofs.machine.Machine.call_object.Goals as goal

pub returns : goal.returns
returns g c =
    let host = (g.H.Host.program c.args.host.now).host in
    let old : Config = record { run = c.self.inside.run; captures = c.self.inside.captures; world = c.self.inside.state } in
    went_on_plainly (g.H.Host.program c.args.host.now) (λ w vs. call_callee host vs w) c.args.count old c.args.self.now c.self.view_is
    c.in-Some.values.now c.call_callee.new.self c.in-Some.ensures c.in_ok-called.called c.go_on_with.new.self c.go_on_with.result
    c.in_ok-called.ensures.called c.in_ok-called.ensures.leaves c.go_on_with.ensures

pub returns-in_err-called : goal.returns-in_err-called
returns-in_err-called g c =
    let host = (g.H.Host.program c.args.host.now).host in
    let old : Config = record { run = c.self.inside.run; captures = c.self.inside.captures; world = c.self.inside.state } in
    ended (g.H.Host.program c.args.host.now) (λ w vs. call_callee host vs w) c.args.count old c.args.self.now c.self.view_is
    c.in-Some.values.now c.call_callee.new.self c.in-Some.ensures c.from_residual.result c.in_err-called.field-0.0 c.from_residual.ensures
    c.in_err-called.ensures.called c.in_err-called.ensures.leaves
