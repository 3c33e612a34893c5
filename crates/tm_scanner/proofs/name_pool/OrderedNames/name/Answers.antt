use Rattle.std.proofs.Common.{nat_eq, sym, ◌∙◌, ap}
use Rattle.std.proofs.lemmas.Map.Lookups.{exact_bytes}
use Rattle.std.specs.Prelude.{◌||◌}
use Rattle.std.specs.Cmp.Lexicographic.{pointwise}
use Rattle.std.specs.Rc.{rc_str_bytes}
use Rattle.tm_scanner.specs.NamePool.{holds, texts_of}
use Rattle.tm_scanner.proofs.Pools.{holds-keys, with_held, with_key}
use Rattle.tm_scanner.proofs.name_pool.OrderedNames.name.Goals as goal

pub returns-in-Some-clause-found : goal.returns-in-Some-clause-found
returns-in-Some-clause-found c =
    let same = exact_bytes c.args.text.now (rc_str_bytes c.in-Some.known.now) c.in-Some.ensures.same_key in
    c.from_text.ensures ∙ c.in_ok-clone.ensures.cases ∙ sym same

pub returns-in-Some-clause-kept : goal.returns-in-Some-clause-kept
returns-in-Some-clause-kept c =
    let text = c.args.text.now in
    with_held text c.args.self.now
    (ap (λ texts. holds texts text) (sym c.self.view_is) ∙ sym (holds-keys text c.self.inside.texts.keys) ∙ sym c.in-Some.ensures.variant)

pub returns-clause-kept : goal.returns-clause-kept
returns-clause-kept c =
    let key = c.in_ok-clone-2.field-0 in
    let same = c.in_ok-clone-2.ensures.cases ∙ c.in_ok-name.ensures.ok in
    λ q. ap (λ keys. holds (texts_of keys) q) c.in_ok-insert.ensures.keys
    ∙ with_key key c.self.inside.texts.keys q
    ∙ ap (λ texts. holds texts q || pointwise nat_eq q (rc_str_bytes key)) c.self.view_is
    ∙ ap (λ text. holds c.args.self.now q || pointwise nat_eq q text) same
