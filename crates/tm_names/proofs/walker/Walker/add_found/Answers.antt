use Rattle.std.proofs.Common.{◌∙◌, ap, map, reverse, List, ℕ}
use Rattle.std.specs.BTreeSet.{insert_key}
use Rattle.std.specs.String.{string_bytes}
use Rattle.tm_syntax.specs.Named.{name_cmp}
use Rattle.tm_syntax.specs.Names.{Walk}
use Rattle.tm_names.proofs.Found.{insert_found}
use Rattle.tm_names.proofs.walker.Walker.add_found.Goals as goal

pub returns : goal.returns
returns c =
    let found : List (List ℕ) = map string_bytes c.self.inside.found.keys in
    ap {B = Walk} (λ (names : List (List ℕ)). record { assigned = reverse c.self.inside.scopes; found = names })
    (ap (map string_bytes) c.in_ok-insert.ensures.keys ∙ insert_found c.self.inside.found.keys c.in_ok-text.text
    ∙ ap (insert_key name_cmp found) c.in_ok-text.ensures.ok)
    ∙ ap {B = Walk} (λ (w : Walk). record w { found = insert_key name_cmp w.found c.args.text.now }) c.self.view_is
