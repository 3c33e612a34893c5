use Rattle.std.proofs.Common.{sym, subst}
use Rattle.tm_blocks.specs.Layers.{AreAscending, LayerValue}
use Rattle.tm_blocks.specs.Lists.{names_in}
use Rattle.tm_blocks.proofs.Chain.{one_loaded}
use Rattle.tm_blocks.proofs.loaded.Loaded.append.Goals as goal

pub returns-clause-ok : goal.returns-clause-ok
returns-clause-ok c =
    let l : LayerValue = record { template = c.in_ok-share.field-0; names = c.in_ok-clone.field-0.value } in
    one_loaded c.self.inside.layers.items c.push.new.self.items (names_in c.self.inside.names) c.args.self.now c.args.template.now
    c.args.names.now.value l c.in_ok-push.ensures.items c.in_ok-share.ensures c.in_ok-clone.ensures.cases c.self.view_is

pub invariant_of-self : goal.invariant_of-self
invariant_of-self c = subst AreAscending (sym c.in_err-push.ensures.items) c.self.invariant
