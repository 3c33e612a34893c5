use Rattle.std.proofs.lemmas.Fn.{always_returns_same}
use Rattle.std.proofs.Common.{rules}
use Rattle.tm_syntax.specs.Named.{name_cmp}
use Rattle.tm_scopes.proofs.Places.{searched_in}
use Rattle.tm_scopes.proofs.name_table.NameTable.search.Goals as goal

-- the closure compares an entry's name with this one
pub returns : goal.returns
returns t c =
    let x = c.args.name.now in
    let facts = c.binary_search_by.ensures in
    let by_name = facts.position (λ p. name_cmp p.0 x) (always_returns_same _ _ _ (λ a r f called. search rules)) in
    searched_in x c.self.inside.entries.items c.deref.result.now c.args.self.now c.deref.ensures.value c.self.view_is c.self.invariant
    c.binary_search_by.result facts.bound by_name
