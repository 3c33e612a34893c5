use Rattle.std.proofs.Common.{rules, false}
use Rattle.std.proofs.lemmas.Fn.{always_returns_same}
use Rattle.tm_values.proofs.Maps.{searched}
use Rattle.tm_values.specs.Order.{val_cmp}
use Rattle.tm_values.specs.Val.{Val, text}
use Rattle.tm_values.proofs.map.place_of_text.Goals as goal

-- the closure compares a pair's key with this one
pub returns : goal.returns
returns c =
    let facts = c.binary_search_by.ensures in
    let by_key = facts.position (λ (p : Val × Val). val_cmp p.0 (text c.args.name.now false))
    (always_returns_same _ _ _ (λ a r f called. search rules)) in
    searched (text c.args.name.now false) c.args.pairs.now c.requires c.binary_search_by.result facts.bound by_key
