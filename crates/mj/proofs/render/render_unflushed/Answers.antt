use Rattle.std.specs.Prelude.{map}
use Rattle.mj.specs.Program.{input_of, named}
use Rattle.mj.proofs.Rendered.{is_memory}
use Rattle.mj.proofs.Lists.{passed}
use Rattle.mj.proofs.render.render_unflushed.Goals as goal

-- no memory for the names and texts
pub returns-in_err-context : goal.returns-in_err-context
returns-in_err-context g c =
    let r = c.in_err-context in
    passed c.from_residual.result _ _ r.field-0.0 c.from_residual.ensures.1
    (is_memory g.O.Write.contents (input_of c.args.arguments.now c.args.members.items (map named c.args.sources.items)) r.field-0.0
    c.args.out.now r.ensures)
