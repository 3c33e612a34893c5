use Rattle.std.proofs.Common.{◌≡◌, ◌+◌, ◌-◌, ◌*◌, ◌≤◌, length}
use Rattle.tm_meaning.specs.World.{depth}
use Rattle.tm_meaning.specs.Inheritance.{names_left}
use Rattle.tm_meaning.specs.Machine.{base_of}
use Rattle.tm_state.specs.Answers.{KeepsFixed}
use Rattle.tm_vm.specs.Answers.{NoFewer, parents_left, weight}
use Rattle.tm_vm.proofs.Loop.{RunsUpTo}
use Rattle.tm_vm.proofs.machine.Machine.+machine.Given as goal

abbrev pub decreases-run_nested : goal.decreases-run_nested
decreases-run_nested g l = ((g.H.Host.program l.host.now).host.limit + 1 - depth l.self.now.world.scopes) * 2 + 1

abbrev pub decreases-run : goal.decreases-run
decreases-run g l = ((g.H.Host.program l.host.now).host.limit + 1 - depth l.self.now.world.scopes) * 2

abbrev pub invariant-run-streams : goal.invariant-run-streams
invariant-run-streams g l = record {
  failures : (g.W.Sink.told l.writer).failures ≡ (g.W.Sink.told l.initial.writer).failures;
  kept : KeepsFixed l.initial.self.world l.self.world;
  names : names_left (g.H.Host.program l.host).host l.self.world ≤ names_left (g.H.Host.program l.host).host l.initial.self.world;
  no_fewer : NoFewer l.initial.self.world l.self.world;
  stands : RunsUpTo (g.H.Host.program l.host)
      (base_of l.heard l.initial.self.captures l.initial.self.world) l.initial.self (g.W.Sink.told l.initial.writer).bytes
      (g.W.Sink.told l.writer).bytes l.self;
}

abbrev pub decreases-run-streams : goal.decreases-run-streams
decreases-run-streams g l = parents_left (g.H.Host.program l.host).host l.self

abbrev pub invariant-run-steps : goal.invariant-run-steps
invariant-run-steps g l = record {
  failures : (g.W.Sink.told l.writer).failures ≡ (g.W.Sink.told l.fn.writer).failures;
  kept : KeepsFixed l.fn.self.world l.self.world;
  names : names_left (g.H.Host.program l.host).host l.self.world ≤ names_left (g.H.Host.program l.host).host l.fn.self.world;
  no_fewer : NoFewer l.fn.self.world l.self.world;
  same_stream : l.self.run.stream ≡ l.initial.self.run.stream;
  parents : parents_left (g.H.Host.program l.host).host l.self ≤ parents_left (g.H.Host.program l.host).host l.initial.self;
  stands : RunsUpTo (g.H.Host.program l.host)
      (base_of l.heard l.fn.self.captures l.fn.self.world) l.fn.self (g.W.Sink.told l.fn.writer).bytes
      (g.W.Sink.told l.writer).bytes l.self;
}

abbrev pub decreases-run-steps : goal.decreases-run-steps
decreases-run-steps g l = weight (length l.code) l.self
