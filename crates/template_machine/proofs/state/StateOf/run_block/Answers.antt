use Rattle.std.proofs.Common.{List, Result, ap, subst, sym, refl}
use Rattle.tm_meaning.specs.Machine.{Capture}
use Rattle.tm_parts.specs.declared.halt.Halt.{Halt}
use Rattle.tm_parts.specs.declared.halt.Halt.TheVariants as halt
use Rattle.template_machine.specs.Environment.{IsOfTrees, TemplateValue}
use Rattle.template_machine.specs.Renders.{StateValue, block_meaning, meaning_from, Ran, BlockRan, StreamRan, block_refused as refused_block}
use Rattle.template_machine.proofs.Answered.{passed}
use Rattle.template_machine.proofs.BlockCalls.{block_ran, block_refused}
use Rattle.template_machine.proofs.StreamCalls.{block_streamed}
use Rattle.template_machine.proofs.state.StateOf.run_block.Goals as goal

pub returns-in_err-saved-clause-ran : goal.returns-in_err-saved-clause-ran
returns-in_err-saved-clause-ran g c = λ of.
    let s = c.args.self.now in
    let told = g.W.Sink.told c.args.writer.now in
    let why = c.in_err-saved.field-0.0 in
    let Came : Result (List Capture) Halt → Type 0 = λ r. Ran (block_meaning g.O.Parties.stated s.template c.args.name.now s.world) r
    c.enter_block.new.self.world c.args.captures told told in
    passed c.from_residual.result Came (halt.Fault why) c.from_residual.ensures.1
    (block_refused g.O.Parties.stated s.template c.args.name.now s.world c.enter_block.new.self.world c.args.captures told why
    (ap {A = StateValue g.row.O.Denot} (λ x. x.world) c.in_err-saved.ensures.unchanged) c.in_err-saved.ensures.err)

pub returns-clause-ran : goal.returns-clause-ran
returns-clause-ran g c = λ of.
    let s = c.args.self.now in
    let mid = c.enter_block.new.self in
    let left = c.run-result.new.state in
    let told = g.W.Sink.told c.args.writer.now in
    let now = g.W.Sink.told c.run-result.new.writer in
    let of_mid = subst (λ (t : TemplateValue g.row.O.Denot). IsOfTrees t) (sym c.in_ok-saved.ensures.template) of in
    let ran = subst (λ (x : StateValue g.row.O.Denot). Ran (meaning_from g.O.Parties.stated x.template x.world) c.run-result.result left
    c.args.captures told now) c.self.view_is
    (c.run-result.ensures.ran (subst (λ (x : StateValue g.row.O.Denot). IsOfTrees x.template) (sym c.self.view_is) of_mid)) in
    block_ran g.O.Parties.stated s.template c.args.name.now s.world left c.args.captures told now c.in_ok-saved.saved mid.world
    c.run-result.result c.put_back.new.self c.in_ok-saved.ensures.ok
    (subst (λ (t : TemplateValue g.row.O.Denot). Ran (meaning_from g.O.Parties.stated t mid.world) c.run-result.result left c.args.captures told
    now) c.in_ok-saved.ensures.template ran) c.put_back.ensures

-- ---------------------------------------------------------------- of streams
pub returns-in_err-saved-clause-streams : goal.returns-in_err-saved-clause-streams
returns-in_err-saved-clause-streams g c =
    let s = c.args.self.now in
    let told = g.W.Sink.told c.args.writer.now in
    let why = c.in_err-saved.field-0.0 in
    let Came : Result (List Capture) Halt → Type 0 = λ r. BlockRan g.O.Parties.stated s c.args.name.now r c.enter_block.new.self.world
    c.args.captures told told in
    passed c.from_residual.result Came (halt.Fault why) c.from_residual.ensures.1
    (refused_block why (refl, refl) c.in_err-saved.ensures.err
    (ap {A = StateValue g.row.O.Denot} (λ x. x.world) c.in_err-saved.ensures.unchanged))

pub returns-clause-streams : goal.returns-clause-streams
returns-clause-streams g c =
    let s = c.args.self.now in
    let mid = c.enter_block.new.self in
    let left = c.run-result.new.state in
    let told = g.W.Sink.told c.args.writer.now in
    let now = g.W.Sink.told c.run-result.new.writer in
    let ran = subst (λ (x : StateValue g.row.O.Denot). StreamRan g.O.Parties.stated x.template x.world c.run-result.result left
    c.args.captures told now) c.self.view_is (c.run-result.ensures.streams c.self.invariant) in
    block_streamed g.O.Parties.stated s c.args.name.now c.put_back.new.self left c.args.captures told now c.in_ok-saved.saved
    mid.world c.run-result.result c.in_ok-saved.ensures.ok
    (subst (λ (t : TemplateValue g.row.O.Denot). StreamRan g.O.Parties.stated t mid.world c.run-result.result left c.args.captures told
    now) c.in_ok-saved.ensures.template ran) c.put_back.ensures
