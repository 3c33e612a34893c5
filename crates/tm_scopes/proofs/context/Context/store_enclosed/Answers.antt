use Rattle.std.proofs.Common.{◌≡◌, ◌∙◌, ap, sym, Some, None}
use Rattle.tm_meaning.specs.World.{put_at, read_closure}
use Rattle.tm_scopes.specs.Closures.{others_at}
use Rattle.tm_scopes.proofs.Enclosed.{always, forgotten_at, lent_none}
use Rattle.tm_scopes.proofs.context.Context.store_enclosed.Goals as goal

pub returns-then-is_err-clause-unchanged : goal.returns-then-is_err-clause-unchanged
returns-then-is_err-clause-unchanged c =
    let n = c.args.number in
    let x = c.args.name.now in
    let none : read_closure c.args.closures.now (Some n) x ≡ None =
    lent_none c.get.result _ c.get.ensures (sym c.is_some.ensures ∙ c.if-is_some.false) in
    always _ (c.remove.ensures ∙ ap (others_at n x) (c.in_ok-put.ensures.ok ∙ ap (λ y. put_at n y c.in_ok-second.second c.args.closures.now) c.in_ok-kept.ensures)
    ∙ forgotten_at n x c.in_ok-second.second c.args.closures.now none)
