use Rattle.std.proofs.Common.{arith, sym, subst, reverse}
use Rattle.tm_scopes.specs.Marks.{AreScopes}
use Rattle.tm_scopes.proofs.Framed.{cleared-few}
use Rattle.tm_scopes.proofs.Marks.{drop-length}
use Rattle.tm_scopes.proofs.context.Context.clear_locals.Goals as goal

pub invariant_of-self : goal.invariant_of-self
invariant_of-self c =
    let rs = reverse c.self.inside.marks.items in
    let all = c.self.inside.pairs.items in
    let top = c.self.inside.top in
    subst (λ ps. AreScopes rs ps top) (sym c.cut.ensures)
    (cleared-few rs all top c.self.invariant (omega (arith, drop-length top all, c.len.ensures, c.if-len-self-gt-SCANNED.false))).0
