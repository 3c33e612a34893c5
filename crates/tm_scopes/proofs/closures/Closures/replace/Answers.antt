use Rattle.std.proofs.Common.{◌<◌, arith, ap, length, slice_set, subst}
use Rattle.tm_scopes.specs.Closures.{IsReplacedAt}
use Rattle.tm_scopes.proofs.Enclosed.{replaced_past, replaced_there}
use Rattle.tm_scopes.proofs.closures.Closures.replace.Goals as goal

pub returns-then-number-len : goal.returns-then-number-len
returns-then-number-len c =
    replaced_past c.args.number c.args.name c.args.value c.args.self.now
    (omega (arith, c.if-number-len.true, c.len.ensures, ap length c.self.view_is))

pub returns : goal.returns
returns c =
    let all = c.self.inside.all.items in
    let n = c.args.number in
    let old = c.index_mut.result.now in
    let new = c.replace.new.self in
    let within : n < length all = omega (arith, c.if-number-len.false, c.len.ensures) in
    subst (λ cs. IsReplacedAt c.replace.result n c.args.name c.args.value cs (slice_set all n new)) c.self.view_is
    (replaced_there c.replace.result n c.args.name c.args.value all old new within c.index_mut.ensures.value c.replace.ensures)
