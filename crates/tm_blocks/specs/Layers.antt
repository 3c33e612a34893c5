-- The templates of a chain, with the names of their blocks.
use Rattle.std.specs.List.{AllByRecursion}
use Rattle.std.specs.List.Sorted.{IsStrictlySortedBy}
use Rattle.std.specs.Prelude.{◌≡◌, ◌<◌, ℕ, List, [], ◌∷◌, length, take, Bool, true, cond, Option, Some, None, option_map, slice_get}
use Rattle.tm_syntax.specs.Named.{name_cmp}
use Rattle.tm_meaning.specs.declared.stream.TemplateId.{TemplateId}
use Rattle.tm_scopes.specs.Known.{is_among}

pub record LayerValue : Type 0 where
  pub template : TemplateId
  pub names : List (List ℕ)

-- Each template's block names ascend.
abbrev pub AreAscending : List LayerValue → Type 0
AreAscending layers = AllByRecursion (λ (l : LayerValue). IsStrictlySortedBy name_cmp l.names) layers

-- whether a template has a block of the name, and the templates that have it
abbrev pub has_block : List ℕ → LayerValue → Bool
has_block x l = is_among x l.names

abbrev pub having : List ℕ → List LayerValue → List TemplateId
having x [] = []
having x (l ∷ more) = cond (has_block x l) (l.template ∷ having x more) (having x more)

-- The index of the layer that is n-th among those that have a block of the name.
abbrev pub IsLayerOf : Option ℕ → List ℕ → ℕ → List LayerValue → Type 0
IsLayerOf None x n layers = slice_get (having x layers) n ≡ None
IsLayerOf (Some i) x n layers =
    (i < length layers) × (option_map (has_block x) (slice_get layers i) ≡ Some true) × (length (having x (take i layers)) ≡ n)
