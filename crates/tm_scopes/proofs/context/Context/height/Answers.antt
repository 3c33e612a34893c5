use Rattle.std.proofs.Common.{arith, ap, length}
use Rattle.tm_meaning.specs.World.{Scopes}
use Rattle.tm_scopes.proofs.Framed.{height-framed}
use Rattle.tm_scopes.proofs.context.Context.height.Goals as goal

pub returns : goal.returns
returns c =
    omega (
      arith,
      c.len.ensures,
      height-framed c.self.inside.marks.items c.self.inside.pairs.items,
      ap (λ (scopes : Scopes). length scopes.frames) c.self.view_is,
    )
