use Rattle.std.proofs.Common.{◌≡◌, length, Ok, Err, refl, sym, ap, ◌∙◌, arith, subst}
use Rattle.tm_meaning.specs.declared.base.Base.{Base}
use Rattle.tm_meaning.specs.Inheritance.{names_left}
use Rattle.tm_meaning.specs.Machine.{Config, base_of}
use Rattle.tm_state.specs.State.{put_back}
use Rattle.tm_parts.specs.Halts.{failures_after}
use Rattle.tm_vm.specs.Answers.{HaltsAs}
use Rattle.tm_vm.specs.declared.flow.Flow.TheVariants as flow
use Rattle.tm_vm.proofs.Loop.{at_base, fixed_same, fixed_then, stands_first, stands_next, stands_again, stands_after, stands_called, stands_ahead, beginning_at, beginning_in}
use Rattle.tm_parts.specs.declared.halt.Halt.TheVariants as halt
use Rattle.tm_records.specs.declared.nested.NestedRun.{NestedRun}
use Rattle.tm_vm.specs.Nested.{EndsNested, IsWrapped, RanNested, Went, WroteBeginning, base_in, begins_in}
use Rattle.tm_records.specs.declared.nested.RunOf.{RunOf}
use Rattle.tm_vm.proofs.Ground.{no_fewer_same, over_same}
use Rattle.tm_vm.proofs.Loop.{as_value, began, ended_at, in_place, refused_ends, stands_deeper, was_back, wrapped_ends}
use Rattle.tm_vm.proofs.Loop.{ended_in, done_at, whole_at, scopes_after, was_there, above_base}
use Rattle.tm_vm.proofs.Weight.{less_after, parents_after}
use Rattle.tm_vm.proofs.machine.Machine.+machine.Goals as goal

pub run-streams-init : goal.run-streams-init
run-streams-init g t c =
    let p = g.H.Host.program c.args.host.now in
    let a = c.args.self.now in
    record {
      failures = refl;
      kept = fixed_same a.world;
      names = omega arith;
      no_fewer = no_fewer_same a.world;
      stands = stands_first p (base_of c.args.heard a.captures a.world) a (g.W.Sink.told c.args.writer.now).bytes;
    }

pub run-steps-init : goal.run-steps-init
run-steps-init g t c = record {
  failures = c.streams.invariant.failures;
  kept = c.streams.invariant.kept;
  names = c.streams.invariant.names;
  no_fewer = c.streams.invariant.no_fewer;
  same_stream = refl;
  parents = omega arith;
  stands = c.streams.invariant.stands;
}

pub run-step-requires : goal.run-step-requires
run-step-requires g t c = c.code-code.ensures ∙ ap (λ s. (g.H.Host.program c.args.host.now).code s) (sym c.steps.invariant.same_stream)

pub run-steps-preserved-in-Ok-GoOn : goal.run-steps-preserved-in-Ok-GoOn
run-steps-preserved-in-Ok-GoOn g t c =
    let p = g.H.Host.program c.args.host.now in
    let a = c.args.self.now in
    let now = (g.W.Sink.told c.steps.writer).bytes in
    let new = (g.W.Sink.told c.step.new.writer).bytes in
    let step = rw c.in-Ok-GoOn.field-0-is at c.in-Ok-GoOn.ensures.performs in
    let paid = rw c.in-Ok-GoOn.field-0-is at c.in-Ok-GoOn.ensures.paid in
    let did = at_base p c.steps.self c.step.new.self now new (Ok flow.GoOn) c.base-base.result
    (base_of c.args.heard a.captures a.world) c.base-base.ensures step.did in
    let names = step.names in
    let parents = paid.1 in
    record {
      failures = step.counted ∙ c.steps.invariant.failures;
      kept = fixed_then c.steps.invariant.kept step.kept;
      names = omega (arith, names, c.steps.invariant.names);
      no_fewer = above_base c.args.heard a.captures a.world c.base-base.result c.steps.self.world c.step.new.self.world
          c.base-base.ensures c.steps.invariant.no_fewer step.depths;
      same_stream = step.same_stream ∙ c.steps.invariant.same_stream;
      parents = omega (arith, parents, c.steps.invariant.parents);
      stands = stands_next c.step.new.self new c.steps.invariant.stands did;
    }

pub run-steps-preserved-in-Ok-Ahead : goal.run-steps-preserved-in-Ok-Ahead
run-steps-preserved-in-Ok-Ahead g t c =
    let p = g.H.Host.program c.args.host.now in
    let a = c.args.self.now in
    let now = (g.W.Sink.told c.steps.writer).bytes in
    let new = (g.W.Sink.told c.step.new.writer).bytes in
    let step = rw c.in-Ok-Ahead.field-0-is at c.in-Ok-Ahead.ensures.performs in
    let paid = rw c.in-Ok-Ahead.field-0-is at c.in-Ok-Ahead.ensures.paid in
    let did = at_base p c.steps.self c.step.new.self now new (Ok flow.Ahead) c.base-base.result
    (base_of c.args.heard a.captures a.world) c.base-base.ensures step.did in
    let names = step.names.0 in
    let parents = paid.1 in
    record {
      failures = step.counted ∙ c.steps.invariant.failures;
      kept = fixed_then c.steps.invariant.kept step.kept;
      names = omega (arith, names, c.steps.invariant.names);
      no_fewer = above_base c.args.heard a.captures a.world c.base-base.result c.steps.self.world c.step.new.self.world
          c.base-base.ensures c.steps.invariant.no_fewer step.depths;
      same_stream = step.same_stream.0 ∙ c.steps.invariant.same_stream;
      parents = omega (arith, parents, c.steps.invariant.parents);
      stands = stands_ahead c.step.new.self new c.steps.invariant.stands did;
    }

pub run-steps-preserved-in-Ok-Called : goal.run-steps-preserved-in-Ok-Called
run-steps-preserved-in-Ok-Called g t c =
    let p = g.H.Host.program c.args.host.now in
    let a = c.args.self.now in
    let now = (g.W.Sink.told c.steps.writer).bytes in
    let new = (g.W.Sink.told c.step.new.writer).bytes in
    let step = rw c.in-Ok-Called.field-0-is at c.in-Ok-Called.ensures.performs in
    let paid = rw c.in-Ok-Called.field-0-is at c.in-Ok-Called.ensures.paid in
    let did = at_base p c.steps.self c.step.new.self now new (Ok flow.Called) c.base-base.result
    (base_of c.args.heard a.captures a.world) c.base-base.ensures step.did in
    let names = step.names in
    let parents = paid.1 in
    record {
      failures = step.counted ∙ c.steps.invariant.failures;
      kept = fixed_then c.steps.invariant.kept step.kept;
      names = omega (arith, names, c.steps.invariant.names);
      no_fewer = above_base c.args.heard a.captures a.world c.base-base.result c.steps.self.world c.step.new.self.world
          c.base-base.ensures c.steps.invariant.no_fewer step.depths;
      same_stream = step.same_stream ∙ c.steps.invariant.same_stream;
      parents = omega (arith, parents, c.steps.invariant.parents);
      stands = stands_called c.step.new.self new c.steps.invariant.stands did;
    }

pub run-run_nested-requires : goal.run-run_nested-requires
run-run_nested-requires g t c κs within =
    let limit = (g.H.Host.program c.args.host.now).host.limit in
    let e = c.in-Ok-Enter.entry.value in
    let step = rw c.in-Ok-Enter.field-0-is at c.in-Ok-Enter.ensures.performs in
    let deep = step.depths in
    let stands = stands_deeper limit e c.steps.self.world c.step.new.self.world deep step.names in
    let more = stands.1 in
    let fits = deep.2 in
    let above = c.steps.invariant.no_fewer.0 in
    let outer = c.steps.invariant.no_fewer.1.1 in
    (omega (arith, c.decreases, more, fits, above, outer), (within.0, (within.1.0, (within.1.1, stands.0))))

pub run-returns-in-Err-run_nested-clause-ended : goal.run-returns-in-Err-run_nested-clause-ended
run-returns-in-Err-run_nested-clause-ended g t c =
    let p = g.H.Host.program c.args.host.now in
    let a = c.args.self.now in
    let now = (g.W.Sink.told c.steps.writer).bytes in
    let at = (g.W.Sink.told c.step.new.writer).bytes in
    let new = (g.W.Sink.told c.run_nested.new.writer).bytes in
    let e = c.in-Ok-Enter.entry.value in
    let step = rw c.in-Ok-Enter.field-0-is at c.in-Ok-Enter.ensures.performs in
    let did = at_base p c.steps.self c.step.new.self now at (Ok (flow.Enter c.in-Ok-Enter.entry)) c.base-base.result
    (base_of c.args.heard a.captures a.world) c.base-base.ensures step.did in
    let enters = did in
    ended_in e c.step.new.self at new c.in-Err-run_nested.halt c.run_nested.new.self.world c.steps.invariant.stands enters
    c.in-Err-run_nested.ensures.ran

pub run-returns-in-Err-run_nested-clause-beginning : goal.run-returns-in-Err-run_nested-clause-beginning
run-returns-in-Err-run_nested-clause-beginning g t c =
    let p = g.H.Host.program c.args.host.now in
    let a = c.args.self.now in
    let now = (g.W.Sink.told c.steps.writer).bytes in
    let at = (g.W.Sink.told c.step.new.writer).bytes in
    let new = (g.W.Sink.told c.run_nested.new.writer).bytes in
    let e = c.in-Ok-Enter.entry.value in
    let step = rw c.in-Ok-Enter.field-0-is at c.in-Ok-Enter.ensures.performs in
    let did = at_base p c.steps.self c.step.new.self now at (Ok (flow.Enter c.in-Ok-Enter.entry)) c.base-base.result
    (base_of c.args.heard a.captures a.world) c.base-base.ensures step.did in
    let enters = did in
    beginning_in e c.step.new.self at new c.steps.invariant.stands enters c.in-Err-run_nested.ensures.beginning

pub run-returns-in-Err-run_nested-clause-failures : goal.run-returns-in-Err-run_nested-clause-failures
run-returns-in-Err-run_nested-clause-failures g t c =
    let step = rw c.in-Ok-Enter.field-0-is at c.in-Ok-Enter.ensures.performs in
    c.in-Err-run_nested.ensures.failures ∙ ap (λ n. failures_after {A = Unit {0}} (Err c.in-Err-run_nested.halt) n) (step.counted ∙ c.steps.invariant.failures)

pub run-returns-in-Err-run_nested-clause-kept : goal.run-returns-in-Err-run_nested-clause-kept
run-returns-in-Err-run_nested-clause-kept g t c =
    let step = rw c.in-Ok-Enter.field-0-is at c.in-Ok-Enter.ensures.performs in
    fixed_then c.steps.invariant.kept (fixed_then step.kept c.in-Err-run_nested.ensures.kept)

pub run-returns-in-Err-run_nested-clause-names : goal.run-returns-in-Err-run_nested-clause-names
run-returns-in-Err-run_nested-clause-names g t c =
    let host = (g.H.Host.program c.args.host.now).host in
    let step = rw c.in-Ok-Enter.field-0-is at c.in-Ok-Enter.ensures.performs in
    let same : names_left host c.step.new.self.world ≡ names_left host c.steps.self.world =
    ap (λ ns. names_left host (record c.steps.self.world { loaded = ns })) step.names in
    omega (arith, same, c.steps.invariant.names, c.in-Err-run_nested.ensures.names)

pub run-returns-in-Err-run_nested-clause-no_fewer : goal.run-returns-in-Err-run_nested-clause-no_fewer
run-returns-in-Err-run_nested-clause-no_fewer g t c =
    let limit = (g.H.Host.program c.args.host.now).host.limit in
    let e = c.in-Ok-Enter.entry.value in
    let step = rw c.in-Ok-Enter.field-0-is at c.in-Ok-Enter.ensures.performs in
    let deep = step.depths in
    let same = scopes_after limit e c.steps.self.world c.step.new.self.world c.run_nested.new.self.world deep c.in-Err-run_nested.ensures.back in
    over_same c.args.self.now.world c.steps.self.world c.run_nested.new.self.world c.steps.invariant.no_fewer same

pub run-steps-smaller : goal.run-steps-smaller
run-steps-smaller g t c =
    let p = g.H.Host.program c.args.host.now in
    let mid = c.step.new.self in
    let paid = rw c.in-Ok-Enter.field-0-is at c.in-Ok-Enter.ensures.paid in
    let there = was_there c.in_default.ensures.ran in
    let first = there.1 in
    less_after (length c.code-code.result.now) c.steps.self mid c.run_nested.new.self (paid there.0 first).0
    c.in_default.ensures.kept.no_more_fuel c.in_default.ensures.same_run.1

pub run-steps-preserved : goal.run-steps-preserved
run-steps-preserved g t c =
    let p = g.H.Host.program c.args.host.now in
    let host = p.host in
    let a = c.args.self.now in
    let limit = host.limit in
    let now = (g.W.Sink.told c.steps.writer).bytes in
    let at = (g.W.Sink.told c.step.new.writer).bytes in
    let new = (g.W.Sink.told c.run_nested.new.writer).bytes in
    let e = c.in-Ok-Enter.entry.value in
    let mid = c.step.new.self in
    let step = rw c.in-Ok-Enter.field-0-is at c.in-Ok-Enter.ensures.performs in
    let paid = rw c.in-Ok-Enter.field-0-is at c.in-Ok-Enter.ensures.paid in
    let did = at_base p c.steps.self c.step.new.self now at (Ok (flow.Enter c.in-Ok-Enter.entry)) c.base-base.result
    (base_of c.args.heard a.captures a.world) c.base-base.ensures step.did in
    let enters = did in
    let went = c.in_default.ensures.ran in
    let there = was_there went in
    let first = there.1 in
    let deep = step.depths in
    let after = c.run_nested.new.self.world in
    let same = scopes_after limit e c.steps.self.world c.step.new.self.world after deep c.in_default.ensures.back in
    let left : names_left host mid.world ≡ names_left host c.steps.self.world =
    ap (λ ns. names_left host (record c.steps.self.world { loaded = ns })) step.names in
    let fewer = c.in_default.ensures.names in
    let parents = parents_after host c.steps.self mid c.run_nested.new.self (paid there.0 first).1 step.names fewer
    c.in_default.ensures.same_run in
    record {
      failures = c.in_default.ensures.failures ∙ step.counted ∙ c.steps.invariant.failures;
      kept = fixed_then c.steps.invariant.kept (fixed_then step.kept c.in_default.ensures.kept);
      names = omega (arith, left, fewer, c.steps.invariant.names);
      no_fewer = over_same c.args.self.now.world c.steps.self.world c.run_nested.new.self.world c.steps.invariant.no_fewer same;
      same_stream = c.in_default.ensures.same_run.0 ∙ step.same_stream ∙ c.steps.invariant.same_stream;
      parents = omega (arith, parents, c.steps.invariant.parents);
      stands = stands_after e c.step.new.self c.run_nested.new.self at new c.steps.invariant.stands enters went;
    }

pub run-streams-smaller : goal.run-streams-smaller
run-streams-smaller g t c =
    let paid = rw c.in-Ok-Restart.field-0-is at c.in-Ok-Restart.ensures.paid in
    omega (arith, paid, c.steps.invariant.parents)

pub run-streams-preserved : goal.run-streams-preserved
run-streams-preserved g t c =
    let p = g.H.Host.program c.args.host.now in
    let a = c.args.self.now in
    let now = (g.W.Sink.told c.steps.writer).bytes in
    let new = (g.W.Sink.told c.step.new.writer).bytes in
    let step = rw c.in-Ok-Restart.field-0-is at c.in-Ok-Restart.ensures.performs in
    let did = at_base p c.steps.self c.step.new.self now new (Ok flow.Restart) c.base-base.result
    (base_of c.args.heard a.captures a.world) c.base-base.ensures step.did in
    let names = step.names in
    record {
      failures = step.counted ∙ c.steps.invariant.failures;
      kept = fixed_then c.steps.invariant.kept step.kept;
      names = omega (arith, names, c.steps.invariant.names);
      no_fewer = above_base c.args.heard a.captures a.world c.base-base.result c.steps.self.world c.step.new.self.world
          c.base-base.ensures c.steps.invariant.no_fewer step.depths;
      stands = stands_again c.step.new.self new c.steps.invariant.stands did;
    }

pub run-returns-in-Ok-Done-clause-ended : goal.run-returns-in-Ok-Done-clause-ended
run-returns-in-Ok-Done-clause-ended g t c =
    let p = g.H.Host.program c.args.host.now in
    let a = c.args.self.now in
    let now = (g.W.Sink.told c.steps.writer).bytes in
    let new = (g.W.Sink.told c.step.new.writer).bytes in
    let step = rw c.in-Ok-Done.field-0-is at c.in-Ok-Done.ensures.performs in
    let did = at_base p c.steps.self c.step.new.self now new (Ok flow.Done) c.base-base.result
    (base_of c.args.heard a.captures a.world) c.base-base.ensures step.did in
    done_at c.step.new.self new c.steps.invariant.stands did

pub run-returns-in-Ok-Done-clause-beginning : goal.run-returns-in-Ok-Done-clause-beginning
run-returns-in-Ok-Done-clause-beginning g t c =
    let step = rw c.in-Ok-Done.field-0-is at c.in-Ok-Done.ensures.performs in
    whole_at (g.W.Sink.told c.step.new.writer).bytes c.steps.invariant.stands step.did.1

pub run-returns-in-Ok-Done-clause-failures : goal.run-returns-in-Ok-Done-clause-failures
run-returns-in-Ok-Done-clause-failures g t c =
    let step = rw c.in-Ok-Done.field-0-is at c.in-Ok-Done.ensures.performs in step.counted ∙ c.steps.invariant.failures

pub run-returns-in-Ok-Done-clause-kept : goal.run-returns-in-Ok-Done-clause-kept
run-returns-in-Ok-Done-clause-kept g t c =
    let step = rw c.in-Ok-Done.field-0-is at c.in-Ok-Done.ensures.performs in fixed_then c.steps.invariant.kept step.kept

pub run-returns-in-Ok-Done-clause-names : goal.run-returns-in-Ok-Done-clause-names
run-returns-in-Ok-Done-clause-names g t c =
    let step = rw c.in-Ok-Done.field-0-is at c.in-Ok-Done.ensures.performs in
    let names = step.names in
    omega (arith, names, c.steps.invariant.names)

pub run-returns-in-Ok-Done-clause-no_fewer : goal.run-returns-in-Ok-Done-clause-no_fewer
run-returns-in-Ok-Done-clause-no_fewer g t c =
    let a = c.args.self.now in
    let step = rw c.in-Ok-Done.field-0-is at c.in-Ok-Done.ensures.performs in
    above_base c.args.heard a.captures a.world c.base-base.result c.steps.self.world c.step.new.self.world
    c.base-base.ensures c.steps.invariant.no_fewer step.depths.0

pub run-returns-in-Ok-Done-clause-closed : goal.run-returns-in-Ok-Done-clause-closed
run-returns-in-Ok-Done-clause-closed g t c =
    let a = c.args.self.now in
    let step = rw c.in-Ok-Done.field-0-is at c.in-Ok-Done.ensures.performs in
    let base = ap (λ (b : Base). b.scopes) c.base-base.ensures in
    let more = above_base c.args.heard a.captures a.world c.base-base.result c.steps.self.world c.step.new.self.world
    c.base-base.ensures c.steps.invariant.no_fewer step.depths.0 in
    (sym step.depths.1 ∙ base, more.1)

pub run-returns-in-Err-clause-ended : goal.run-returns-in-Err-clause-ended
run-returns-in-Err-clause-ended g t c =
    let p = g.H.Host.program c.args.host.now in
    let a = c.args.self.now in
    let now = (g.W.Sink.told c.steps.writer).bytes in
    let new = (g.W.Sink.told c.step.new.writer).bytes in
    let did = at_base p c.steps.self c.step.new.self now new (Err c.in-Err.halt) c.base-base.result
    (base_of c.args.heard a.captures a.world) c.base-base.ensures c.in-Err.ensures.performs.did in
    ended_at new c.in-Err.halt c.step.new.self.world c.steps.invariant.stands did.0 did.1

pub run-returns-in-Err-clause-beginning : goal.run-returns-in-Err-clause-beginning
run-returns-in-Err-clause-beginning g t c =
    let p = g.H.Host.program c.args.host.now in
    let a = c.args.self.now in
    let now = (g.W.Sink.told c.steps.writer).bytes in
    let new = (g.W.Sink.told c.step.new.writer).bytes in
    let did = at_base p c.steps.self c.step.new.self now new (Err c.in-Err.halt) c.base-base.result
    (base_of c.args.heard a.captures a.world) c.base-base.ensures c.in-Err.ensures.performs.did in
    beginning_at new c.steps.invariant.stands did.1

pub run-returns-in-Err-clause-failures : goal.run-returns-in-Err-clause-failures
run-returns-in-Err-clause-failures g t c =
    c.in-Err.ensures.performs.counted ∙ ap (λ n. failures_after {A = Unit {0}} (Err c.in-Err.halt) n) c.steps.invariant.failures

pub run-returns-in-Err-clause-kept : goal.run-returns-in-Err-clause-kept
run-returns-in-Err-clause-kept g t c = fixed_then c.steps.invariant.kept c.in-Err.ensures.performs.kept

pub run-returns-in-Err-clause-names : goal.run-returns-in-Err-clause-names
run-returns-in-Err-clause-names g t c =
    let names = c.in-Err.ensures.performs.names in omega (arith, names, c.steps.invariant.names)

pub run-returns-in-Err-clause-no_fewer : goal.run-returns-in-Err-clause-no_fewer
run-returns-in-Err-clause-no_fewer g t c =
    let a = c.args.self.now in
    above_base c.args.heard a.captures a.world c.base-base.result c.steps.self.world c.step.new.self.world
    c.base-base.ensures c.steps.invariant.no_fewer c.in-Err.ensures.performs.depths

-- What ran is what was entered.
retaken : (left lent e : NestedRun) (run : RunOf) → run ≡ lent.run → left ≡ record lent { run = left.run } → lent ≡ e →
    record left { run = run } ≡ e
retaken left lent e run taken rest value =
    ap (λ (x : NestedRun). record x { run = run }) rest ∙ ap (λ r. record lent { run = r }) taken ∙ value

pub run_nested-returns-in_default-clause-ran : goal.run_nested-returns-in_default-clause-ran
run_nested-returns-in_default-clause-ran g t c =
    let p = g.H.Host.program c.args.host.now in
    let e : NestedRun = record c.take_run-run.new.self { run = c.take_run-run.result } in
    let whole = retaken c.take_run-run.new.self c.deref_mut-nested.result.now c.args.entry.value c.take_run-run.result
    c.take_run-run.ensures.run c.take_run-run.ensures.rest c.deref_mut-nested.ensures.value in
    let now = (g.W.Sink.told c.args.writer.now).bytes in
    let same = ap (λ (x : Config). x.world) c.put_back.ensures ∙ ap (λ (x : Config). put_back e.saved x.world) c.in_default.ensures.1 in
    let is = subst (λ k. IsWrapped e.wrap (halt.Fault k) c.wrapped.result) c.from.ensures c.wrapped.ensures in
    subst (λ (x : NestedRun). HaltsAs c.wrapped.result c.put_back.new.self.world (EndsNested p x c.args.self.now now now)) whole
    (refused_ends p e c.args.self.now c.put_back.new.self now c.wrapped.result c.in_default.ensures.0 same is)

pub run_nested-returns-in-Err-clause-ran : goal.run_nested-returns-in-Err-clause-ran
run_nested-returns-in-Err-clause-ran g t c =
    let p = g.H.Host.program c.args.host.now in
    let e : NestedRun = record c.take_run-run.new.self { run = c.take_run-run.result } in
    let whole = retaken c.take_run-run.new.self c.deref_mut-nested.result.now c.args.entry.value c.take_run-run.result
    c.take_run-run.ensures.run c.take_run-run.ensures.rest c.deref_mut-nested.ensures.value in
    let now = (g.W.Sink.told c.args.writer.now).bytes in
    let new = (g.W.Sink.told c.run-result.new.writer).bytes in
    let same = ap (λ (x : Config). x.world) c.put_back_of.ensures ∙ ap (λ (x : Config). put_back e.saved x.world) c.resume.ensures in
    subst (λ (x : NestedRun). HaltsAs c.wrapped-in-Err.result c.put_back_of.new.self.world (EndsNested p x c.args.self.now now new)) whole
    (wrapped_ends p e c.in-Some.waiting c.args.self.now c.begin.new.self c.run-result.new.self now new c.in-Some.ensures
    c.put_back_of.new.self c.in-Err.halt c.wrapped-in-Err.result same c.wrapped-in-Err.ensures c.in-Err.ensures.ended)

pub run_nested-returns-in-Err-clause-back : goal.run_nested-returns-in-Err-clause-back
run_nested-returns-in-Err-clause-back g t c =
    let e : NestedRun = record c.take_run-run.new.self { run = c.take_run-run.result } in
    let whole = retaken c.take_run-run.new.self c.deref_mut-nested.result.now c.args.entry.value c.take_run-run.result
    c.take_run-run.ensures.run c.take_run-run.ensures.rest c.deref_mut-nested.ensures.value in
    let same = ap (λ (x : Config). x.world) c.put_back_of.ensures ∙ ap (λ (x : Config). put_back e.saved x.world) c.resume.ensures
    ∙ ap (λ (x : NestedRun). put_back x.saved c.run-result.new.self.world) whole in
    was_back c.args.entry.value.saved c.args.self.now.world c.begin.new.self.world c.run-result.new.self.world c.put_back_of.new.self.world
    c.in-Some.ensures.3 c.requires c.in-Err.ensures.no_fewer same

pub run_nested-returns-then-value-clause-ran : goal.run_nested-returns-then-value-clause-ran
run_nested-returns-then-value-clause-ran g t c =
    let p = g.H.Host.program c.args.host.now in
    let e : NestedRun = record c.take_run-run.new.self { run = c.take_run-run.result } in
    let whole = retaken c.take_run-run.new.self c.deref_mut-nested.result.now c.args.entry.value c.take_run-run.result
    c.take_run-run.ensures.run c.take_run-run.ensures.rest c.deref_mut-nested.ensures.value in
    let now = (g.W.Sink.told c.args.writer.now).bytes in
    let new = (g.W.Sink.told c.run-result.new.writer).bytes in
    let at = c.put_back_of.ensures ∙ ap (λ (x : Config). record x { world = put_back e.saved x.world }) c.resume.ensures in
    subst (λ (x : NestedRun). RanNested p x c.args.self.now c.push_captured.new.self now new c.push_captured.result) whole
    (as_value p e c.in-Some.waiting c.args.self.now c.begin.new.self c.run-result.new.self now new c.in-Some.ensures
    c.put_back_of.new.self c.push_captured.new.self c.push_captured.result
    c.push_captured.ensures.captured at c.if-value.true c.push_captured.ensures.same_world c.in_default-result.ensures.ended)

pub run_nested-returns-then-value-clause-back : goal.run_nested-returns-then-value-clause-back
run_nested-returns-then-value-clause-back g t c =
    let e : NestedRun = record c.take_run-run.new.self { run = c.take_run-run.result } in
    let whole = retaken c.take_run-run.new.self c.deref_mut-nested.result.now c.args.entry.value c.take_run-run.result
    c.take_run-run.ensures.run c.take_run-run.ensures.rest c.deref_mut-nested.ensures.value in
    let same = c.push_captured.ensures.same_world ∙ ap (λ (x : Config). x.world) c.put_back_of.ensures
    ∙ ap (λ (x : Config). put_back e.saved x.world) c.resume.ensures
    ∙ ap (λ (x : NestedRun). put_back x.saved c.run-result.new.self.world) whole in
    was_back c.args.entry.value.saved c.args.self.now.world c.begin.new.self.world c.run-result.new.self.world
    c.push_captured.new.self.world c.in-Some.ensures.3 c.requires c.in_default-result.ensures.no_fewer same

pub run_nested-returns-clause-ran : goal.run_nested-returns-clause-ran
run_nested-returns-clause-ran g t c =
    let p = g.H.Host.program c.args.host.now in
    let e : NestedRun = record c.take_run-run.new.self { run = c.take_run-run.result } in
    let whole = retaken c.take_run-run.new.self c.deref_mut-nested.result.now c.args.entry.value c.take_run-run.result
    c.take_run-run.ensures.run c.take_run-run.ensures.rest c.deref_mut-nested.ensures.value in
    let now = (g.W.Sink.told c.args.writer.now).bytes in
    let new = (g.W.Sink.told c.run-result.new.writer).bytes in
    let at = c.put_back_of.ensures ∙ ap (λ (x : Config). record x { world = put_back e.saved x.world }) c.resume.ensures in
    subst (λ (x : NestedRun). Went p x c.args.self.now c.put_back_of.new.self now new) whole
    (in_place p e c.in-Some.waiting c.args.self.now c.begin.new.self c.run-result.new.self now new c.in-Some.ensures
    c.put_back_of.new.self at c.if-value.false c.in_default-result.ensures.ended)

pub run_nested-returns-clause-back : goal.run_nested-returns-clause-back
run_nested-returns-clause-back g t c =
    let e : NestedRun = record c.take_run-run.new.self { run = c.take_run-run.result } in
    let whole = retaken c.take_run-run.new.self c.deref_mut-nested.result.now c.args.entry.value c.take_run-run.result
    c.take_run-run.ensures.run c.take_run-run.ensures.rest c.deref_mut-nested.ensures.value in
    let same = ap (λ (x : Config). x.world) c.put_back_of.ensures ∙ ap (λ (x : Config). put_back e.saved x.world) c.resume.ensures
    ∙ ap (λ (x : NestedRun). put_back x.saved c.run-result.new.self.world) whole in
    was_back c.args.entry.value.saved c.args.self.now.world c.begin.new.self.world c.run-result.new.self.world c.put_back_of.new.self.world
    c.in-Some.ensures.3 c.requires c.in_default-result.ensures.no_fewer same

pub run_nested-returns-in_default-clause-back : goal.run_nested-returns-in_default-clause-back
run_nested-returns-in_default-clause-back g t c =
    let e : NestedRun = record c.take_run-run.new.self { run = c.take_run-run.result } in
    let whole = retaken c.take_run-run.new.self c.deref_mut-nested.result.now c.args.entry.value c.take_run-run.result
    c.take_run-run.ensures.run c.take_run-run.ensures.rest c.deref_mut-nested.ensures.value in
    let old = c.args.self.now.world in
    let same = ap (λ (x : Config). x.world) c.put_back.ensures ∙ ap (λ (x : Config). put_back e.saved x.world) c.in_default.ensures.1
    ∙ ap (λ (x : NestedRun). put_back x.saved old) whole in
    was_back c.args.entry.value.saved old old old c.put_back.new.self.world refl c.requires (no_fewer_same old) same

pub run_nested-returns-in-Err-clause-beginning : goal.run_nested-returns-in-Err-clause-beginning
run_nested-returns-in-Err-clause-beginning g t c =
    let p = g.H.Host.program c.args.host.now in
    let e : NestedRun = record c.take_run-run.new.self { run = c.take_run-run.result } in
    let whole = retaken c.take_run-run.new.self c.deref_mut-nested.result.now c.args.entry.value c.take_run-run.result
    c.take_run-run.ensures.run c.take_run-run.ensures.rest c.deref_mut-nested.ensures.value in
    let now = (g.W.Sink.told c.args.writer.now).bytes in
    let new = (g.W.Sink.told c.run-result.new.writer).bytes in
    subst (λ (x : NestedRun). WroteBeginning p (base_in x c.args.self.now) (begins_in p x c.args.self.now) now new) whole
    (began p e c.in-Some.waiting c.args.self.now c.begin.new.self c.run-result.new.self now new c.in-Some.ensures
    c.in-Err.ensures.beginning)
