use Rattle.std.proofs.Common.{ℕ, List, rules}
use Rattle.std.proofs.lemmas.Fn.{always_returns_same}
use Rattle.tm_syntax.specs.Named.{name_cmp}
use Rattle.tm_templates.proofs.Globals.{searched_names}
use Rattle.tm_templates.proofs.global_map.GlobalMap.place.Goals as goal

-- the closure compares another name with this one
pub returns : goal.returns
returns c =
    let x = c.args.name.now in
    let facts = c.binary_search_by.ensures in
    let by_name = facts.position (λ (y : List ℕ). name_cmp y x) (always_returns_same _ _ _ (λ a r f called. search rules)) in
    searched_names x c.self.inside.names.items c.deref.result.now c.self.inside.values c.args.self.now c.self.invariant
    c.deref.ensures.value c.self.view_is c.binary_search_by.result facts.bound by_name
