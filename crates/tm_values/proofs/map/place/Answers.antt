use Rattle.std.proofs.Common.{rules}
use Rattle.std.proofs.lemmas.Fn.{always_returns_same}
use Rattle.tm_values.proofs.Maps.{searched}
use Rattle.tm_values.specs.Order.{val_cmp}
use Rattle.tm_values.specs.Val.{Val}
use Rattle.tm_values.proofs.map.place.Goals as goal

-- the closure compares a pair's key with this one
pub returns : goal.returns
returns c =
    let facts = c.binary_search_by.ensures in
    let by_key = facts.position (λ (p : Val × Val). val_cmp p.0 c.args.key.now)
    (always_returns_same _ _ _ (λ a r f called. search rules)) in
    searched c.args.key.now c.args.pairs.now c.requires c.binary_search_by.result facts.bound by_key
