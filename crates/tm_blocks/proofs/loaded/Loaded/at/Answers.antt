use Rattle.std.proofs.Common.{◌≡◌, ◌∙◌, ◌+◌, Some, None, arith, drop, length, nat_eq, subst, ap}
use Rattle.std.proofs.lemmas.Bool.{ne_eqb}
use Rattle.std.specs.List.{list_any}
use Rattle.tm_blocks.specs.Layers.{IsLayerOf, has_block, having}
use Rattle.tm_blocks.proofs.Chain.{alone_listed, first_alone, none_listed, not_alone}
use Rattle.tm_blocks.proofs.loaded.Loaded.at.Goals as goal
use Rattle.tm_blocks.proofs.loaded.Loaded.at.Goals.{then-place-eq0, else-place-eq0}

pub returns-in-None : goal.returns-in-None
returns-in-None c =
    none_listed c.args.name.now c.args.place c.self.inside.layers.items c.args.self.now.blocks c.self.invariant
    (ap (λ v. v.blocks) c.self.view_is)
    (subst (IsLayerOf None c.args.name.now c.args.place) c.deref.ensures.value c.in-None.ensures)

pub returns-after-place-eq0 : goal.returns-after-place-eq0
returns-after-place-eq0 c =
    let x = c.args.name.now in
    let n = c.args.place in
    let at = c.in-Some.at in
    let layers = c.self.inside.layers.items in
    let layer = c.index.result.now in
    let stands : IsLayerOf (Some at) x n layers = subst (IsLayerOf (Some at) x n) c.deref.ensures.value c.in-Some.ensures in
    let alone : c.if-place-eq0.alone ≡ nat_eq (length (having x layers)) 1 = elim c.if-place-eq0.branch [
      | then-place-eq0 w ↦ w.alone-is
          ∙ first_alone x n at layers layer w.has_from.result stands c.index.ensures w.if-place-eq0.true
          (w.has_from.ensures ∙ ap (λ ls. list_any (has_block x) (drop (at + 1) ls)) w.deref-then-place-eq0.ensures.value)
      | else-place-eq0 w ↦ w.alone-is ∙ ne_eqb n 0 (λ e. omega (arith, e, w.if-place-eq0.false))
          ∙ not_alone x n at layers layer stands c.index.ensures (omega (arith, w.if-place-eq0.false))
    ] in
    alone_listed x n at layers c.args.self.now.blocks layer c.template.result.now c.if-place-eq0.alone c.self.invariant
    (ap (λ v. v.blocks) c.self.view_is) stands c.index.ensures c.template.ensures alone
