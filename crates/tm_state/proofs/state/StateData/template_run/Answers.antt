use Rattle.std.proofs.Common.{rules, ◌≡◌, ◌∙◌, ◌+◌, ◌≤◌, Bool, Some, false, arith}
use Rattle.std.proofs.lemmas.Result.{on_err_weaker}
use Rattle.tm_meaning.specs.Calls.{include_cost, include_depth, include_found, include_frames}
use Rattle.tm_meaning.specs.World.{depth}
use Rattle.tm_meaning.specs.declared.stream.TemplateId.TheVariants.{Entry}
use Rattle.tm_state.specs.Answers.{NeedsSuper, OneDeeper}
use Rattle.tm_state.proofs.Answered.{handed}
use Rattle.tm_state.proofs.Included.{Begun, escape_there, included_left, includes, includes_deeper, saved_over, stands_begun, within_cost, within_limit}
use Rattle.tm_state.specs.State.{saved_include}
use Rattle.tm_state.proofs.state.StateData.template_run.Given as given
use Rattle.tm_state.proofs.state.StateData.template_run.Goals as goal

begins : (g : given.Over) (c : goal.After-boxed g) →
    c.run_template-saved.new.self
    ≡ Begun (g.H.Host.program c.args.host.now).host c.args.entry.name.now c.args.self.now c.args.entry.blocks c.requires.2 c.args.apart
begins g c =
    let host = (g.H.Host.program c.args.host.now).host in
    let e = c.args.entry in
    stands_begun host e.name.now c.args.self.now e.blocks c.requires.2 c.args.apart c.open_template.new.self
    c.in_ok-open_template.ensures.ok c.run_template-saved.new.self
    c.root-running.result e.escape c.in_ok-lists.lists (search rules) (escape_there host e c.requires) (search rules) (search rules)

saves : (g : given.Over) (c : goal.After-boxed g) → c.run_template-saved.result ≡ saved_include c.args.self.now
saves g c =
    saved_over (g.H.Host.program c.args.host.now).host c.args.entry.name.now c.args.self.now c.args.entry.blocks c.requires.2 c.args.apart
    c.open_template.new.self c.run_template-saved.result c.height-scopes.result c.own_closure-closure.result c.in_ok-open_template.ensures.ok
    (search rules) (search rules) c.run_template-saved.ensures.saved

pub returns-clause-ok : goal.returns-clause-ok
returns-clause-ok g c =
    let host = (g.H.Host.program c.args.host.now).host in
    let x = c.args.entry.name.now in
    let w = c.args.self.now in
    let within = within_limit c.args.apart host.limit (depth w.scopes) c.depths_left.result c.depths_left.ensures
    (omega (arith, c.include_cost.ensures, c.if-depths_left-include_cost.false)) in
    handed c.boxed.result _ c.run_template-saved.new.self c.boxed.new.self
    (λ e v. (missing : Bool) → NeedsSuper c.args.heard false e (include_found host c.args.apart missing (Some (Entry x)) w) w v)
    c.boxed.ensures.ok c.boxed.ensures.stays
    (includes host x w c.args.entry.blocks c.requires.2 c.args.apart c.run_template-saved.result c.run_template-saved.new.self
    (saves g c) (begins g c) c.args.heard c.root.result (search rules) within)

pub returns-clause-deeper : goal.returns-clause-deeper
returns-clause-deeper g c =
    let host = (g.H.Host.program c.args.host.now).host in
    let w = c.args.self.now in
    let within = within_cost c.args.apart host.limit (depth w.scopes) c.depths_left.result c.depths_left.ensures
    (omega (arith, c.include_cost.ensures, c.if-depths_left-include_cost.false)) in
    handed c.boxed.result _ c.run_template-saved.new.self c.boxed.new.self (λ e v. OneDeeper host.limit e.saved w v)
    c.boxed.ensures.ok c.boxed.ensures.stays
    (includes_deeper host c.args.entry.name.now w c.args.entry.blocks c.requires.2 c.args.apart c.run_template-saved.result c.run_template-saved.new.self
    (saves g c) (begins g c) host.limit within)

pub returns-clause-unchanged : goal.returns-clause-unchanged
returns-clause-unchanged g c =
    on_err_weaker c.boxed.result (λ back. back
    ∙ included_left (g.H.Host.program c.args.host.now).host c.args.entry.name.now c.args.self.now c.args.entry.blocks c.requires.2 c.args.apart
    c.run_template-saved.result c.run_template-saved.new.self (saves g c) (begins g c)) c.boxed.ensures.back
