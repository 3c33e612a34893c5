use Rattle.std.proofs.Common.{None, false, rules, sym, ◌∙◌}
use Rattle.tm_meaning.specs.Instructions.{call_block_of}
use Rattle.tm_meaning.specs.Machine.{Config}
use Rattle.tm_meaning.specs.declared.run_text.RunText.TheVariants as texts
use Rattle.tm_records.specs.declared.nested.NestedRun.{NestedRun}
use Rattle.tm_records.specs.declared.nested.RunOf.TheVariants as run_of
use Rattle.tm_records.specs.declared.saved.Saved.TheVariants as saved
use Rattle.tm_vm.proofs.Performed.{boxed, block_entered}
use Rattle.tm_vm.proofs.machine.Machine.do_call_block.Goals as goal

pub returns-in-Err : goal.returns-in-Err
returns-in-Err g c = search rules fits 100

pub returns : goal.returns
returns g c =
    let p = g.H.Host.program c.args.host.now in
    let new : Config = record { run = c.advance-2.new.self; captures = c.self.inside.captures; world = c.enter_block.new.self } in
    let e : NestedRun = record {
      run = run_of.Stream c.in-Ok.entered.0;
      heard = c.is_audible-heard.result;
      value = false;
      text = texts.Captured;
      wrap = None;
      saved = saved.Block c.in-Ok.entered.1;
    } in
    let enters = block_entered p c.args.base.now c.args.self.now c.args.name.now c.in-Ok.entered.0 e new c.enter_block.new.self
    (search rules fits 100) (sym c.is_audible-heard.ensures ∙ (search rules fits 100)) (search rules fits 100) (search rules fits 100)
    (search rules fits 100) in
    boxed {p = p} {n = call_block_of p c.args.base.now c.args.name.now c.args.self.now} {old = c.args.self.now} {new = new}
    e c.in_ok-entry.entry c.in_ok-entry.ensures.ok enters (search rules fits 100) (search rules fits 100) (search rules fits 100)
