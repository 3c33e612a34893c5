use Rattle.std.proofs.Common.{◌∙◌, ap, arith, length, sym, take}
use Rattle.tm_meaning.specs.World.{Bindings, Scopes}
use Rattle.tm_scopes.specs.Scopes.{exported_among, exported_of}
use Rattle.tm_scopes.proofs.Framed.{only-exported, outer-exported, outer-within}
use Rattle.tm_scopes.proofs.Marks.{take-length}
use Rattle.tm_scopes.proofs.context.Context.outermost_pairs.Goals as goal

pub slice_bounds-result-end : goal.slice_bounds-result-end
slice_bounds-result-end c =
    let within = outer-within c.self.inside.marks.items c.self.inside.pairs.items c.index.result.now
    (omega (arith, c.len.ensures, c.if-len-gt1.true)) c.index.ensures c.self.invariant.marked in
    sym (take-length c.index.result.now.first c.deref.result.now
    (omega (arith, within, ap (λ (ps : Bindings). length ps) c.deref.ensures.value)))

pub returns-then-len-gt1 : goal.returns-then-len-gt1
returns-then-len-gt1 c =
    ap (λ (scopes : Scopes). exported_of scopes.frames) (sym c.self.view_is)
    ∙ outer-exported c.self.inside.marks.items c.self.inside.pairs.items c.index.result.now
    (omega (arith, c.len.ensures, c.if-len-gt1.true)) c.index.ensures c.self.invariant.marked
    ∙ ap (λ ps. exported_among (take c.index.result.now.first ps)) (sym c.deref.ensures.value)

pub returns-else-len-gt1 : goal.returns-else-len-gt1
returns-else-len-gt1 c =
    ap (λ (scopes : Scopes). exported_of scopes.frames) (sym c.self.view_is)
    ∙ only-exported c.self.inside.marks.items c.self.inside.pairs.items
    (omega (arith, c.len.ensures, c.if-len-gt1.false)) c.self.invariant.marked
    ∙ ap exported_among (sym c.deref-else-len-gt1.ensures.value)
