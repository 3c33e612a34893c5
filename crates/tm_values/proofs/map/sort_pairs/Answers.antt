use Rattle.std.proofs.Common.{rules}
use Rattle.std.proofs.lemmas.Fn.{always_returns_same}
use Rattle.std.proofs.lemmas.List.MinMax.{ranks_by}
use Rattle.tm_values.proofs.Entries.{lower_key, put_all-stable}
use Rattle.tm_values.specs.Total.{val_cmp_total}
use Rattle.tm_values.specs.Val.{Val}
use Rattle.tm_values.proofs.map.sort_pairs.Goals as goal

-- the closure compares the keys
pub returns : goal.returns
returns c =
    let stable = c.sort_by.ensures.stable lower_key (ranks_by val_cmp_total (λ (p : Val × Val). p.0))
    (always_returns_same _ _ _ (λ a r f called. search rules)) in
    record { same_map = put_all-stable c.args.pairs.now.items c.sort_by.new.self.items stable; fails = tt }
