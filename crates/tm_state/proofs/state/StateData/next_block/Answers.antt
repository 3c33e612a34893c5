use Rattle.std.proofs.Common.{◌∙◌, ap, rules, sym}
use Rattle.tm_syntax.specs.Named.{find}
use Rattle.tm_meaning.specs.World.{World}
use Rattle.tm_state.proofs.Blocks.{next_there}
use Rattle.tm_state.proofs.state.StateData.next_block.Goals as goal

pub returns-clause-ok : goal.returns-clause-ok
returns-clause-ok c =
    let w = c.args.self.now in
    let after = c.in-Some-after.ensures in
    next_there w c.in_ok-share-3.field-0 after.1.0 c.place-place.result c.in-Some-after.next c.in-Some-after.template.now
    c.block-stream.result (search rules)
    (ap (λ y. find y w.blocks) c.in_ok-share-3.ensures ∙ ap (λ (v : World). find c.in-Some.name v.blocks) (sym c.self.view_is) ∙ after.1.1)
    (search rules) after.0 after.1.2 (search rules)
