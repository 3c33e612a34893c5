use Rattle.std.proofs.Common.{◌+◌, ◌≤◌, Some, None, arith, length, refl, subst, ap}
use Rattle.tm_blocks.specs.Layers.{IsLayerOf}
use Rattle.tm_blocks.proofs.Chain.{none_after, none_listed, one_listed}
use Rattle.tm_blocks.proofs.loaded.Loaded.after.Goals as goal

pub returns-in-None : goal.returns-in-None
returns-in-None c =
    none_listed c.args.name.now (c.args.place + 1) c.self.inside.layers.items c.args.self.now.blocks c.self.invariant
    (ap (λ v. v.blocks) c.self.view_is)
    (subst (IsLayerOf None c.args.name.now (c.args.place + 1)) c.deref.ensures.value c.in-None.ensures)

pub returns-then-place-len : goal.returns-then-place-len
returns-then-place-len c =
    let layers = c.self.inside.layers.items in
    let few : length layers ≤ c.args.place = grind (arith, c.len.ensures, c.if-place-len.true) in
    none_listed c.args.name.now (c.args.place + 1) layers c.args.self.now.blocks c.self.invariant
    (ap (λ v. v.blocks) c.self.view_is) (none_after c.args.name.now c.args.place layers few)

pub returns-in-Some : goal.returns-in-Some
returns-in-Some c =
    let n = c.args.place + 1 in
    let stands : IsLayerOf (Some c.in-Some.at) c.args.name.now n c.self.inside.layers.items =
    subst (IsLayerOf (Some c.in-Some.at) c.args.name.now n) c.deref.ensures.value c.in-Some.ensures in (
      refl,
      one_listed c.args.name.now n c.in-Some.at c.self.inside.layers.items c.args.self.now.blocks c.index.result.now
          c.template.result.now c.self.invariant (ap (λ v. v.blocks) c.self.view_is) stands c.index.ensures c.template.ensures,
    )
