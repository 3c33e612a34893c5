use Rattle.std.specs.Prelude.{map}
use Rattle.mj.specs.Program.{input_of, named}
use Rattle.mj.proofs.Rendered.{fault_flushed, rendered_flushed, unflushed}
use Rattle.mj.proofs.Lists.{passed}
use Rattle.mj.proofs.render.render.Goals as goal

pub returns-in_err-rendered : goal.returns-in_err-rendered
returns-in_err-rendered g c =
    let r = c.in_err-rendered in
    passed c.from_residual.result _ _ r.field-0.0 c.from_residual.ensures.1
    (fault_flushed g.O.Write.contents
    (input_of c.args.arguments.now c.args.members.items (map named c.args.sources.items)) c.args.out.now c.render_unflushed-rendered.new.out
    c.flush-flushed.new.self r.field-0.0
    r.ensures c.flush-flushed.ensures.bytes c.flush-flushed.ensures.count)

pub returns-in-Ok : goal.returns-in-Ok
returns-in-Ok g c =
    rendered_flushed g.O.Write.contents
    (input_of c.args.arguments.now c.args.members.items (map named c.args.sources.items)) c.args.out.now c.render_unflushed-rendered.new.out
    c.flush-flushed.new.self
    c.in_ok-rendered.ensures c.flush-flushed.ensures.bytes c.flush-flushed.ensures.count

pub returns-in-Err : goal.returns-in-Err
returns-in-Err g c =
    unflushed g.O.Write.contents (input_of c.args.arguments.now c.args.members.items (map named c.args.sources.items)) c.args.out.now
    c.render_unflushed-rendered.new.out c.flush-flushed.new.self c.from.result
    c.from.ensures c.in_ok-rendered.ensures c.flush-flushed.ensures.bytes c.flush-flushed.ensures.count
