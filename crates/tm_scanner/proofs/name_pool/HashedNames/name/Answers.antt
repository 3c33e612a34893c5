use Rattle.std.proofs.Common.{◌≡◌, nat_eq, ◌++◌, sym, ◌∙◌, ap}
use Rattle.std.specs.Prelude.{◌||◌}
use Rattle.std.specs.Cmp.Lexicographic.{bytes_decides, pointwise}
use Rattle.std.specs.Map.{values_of}
use Rattle.tm_scanner.specs.NamePool.{holds}
use Rattle.tm_scanner.proofs.Pools.{on_ok, with_other, with_same}
use Rattle.tm_scanner.proofs.name_pool.HashedNames.name.Goals as goal

pub returns-then-is-clause-kept : goal.returns-then-is-clause-kept
returns-then-is-clause-kept c =
    let text = c.args.text.now in
    let others = c.self.inside.others in
    let same : c.in_ok-name.name ≡ text = (bytes_decides c.in_ok-name.name text).0 (sym c.is.ensures ∙ c.if-is.true) in
    λ q. ap (λ es. holds (values_of es ++ others) q) c.in_ok-name.ensures.kept
    ∙ with_same c.hash_of.result text c.self.inside.by_hash.entries others (sym c.in_ok-name.ensures.found ∙ same) q
    ∙ ap (λ texts. holds texts q || pointwise nat_eq q text) c.self.view_is

pub returns-clause-kept : goal.returns-clause-kept
returns-clause-kept c =
    let text = c.args.text.now in
    let more = c.name-2.new.self in
    let apart = ap (λ name. pointwise nat_eq name text) (sym c.in_ok-name.ensures.found) ∙ sym c.is.ensures ∙ c.if-is.false in
    on_ok c.name-2.result
    (λ added q. ap (λ es. holds (values_of es ++ more) q) c.in_ok-name.ensures.kept
    ∙ with_other c.hash_of.result text c.self.inside.by_hash.entries c.self.inside.others more apart added q
    ∙ ap (λ texts. holds texts q || pointwise nat_eq q text) c.self.view_is)
    c.name-2.ensures.kept
