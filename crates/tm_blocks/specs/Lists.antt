-- The lists of blocks of a state, its places in them, and the names of the loaded templates.
use Rattle.std.specs.Borrow.{Bor}
use Rattle.std.specs.Map.{keys_of}
use Rattle.std.specs.Prelude.{◌≡◌, ℕ, List, [], ◌∷◌, length, Bool, nat_eq, Option, Some, None, is_some}
use Rattle.std.specs.Prelude.{option_and_then, option_map, slice_get, map as each}
use Rattle.std.specs.declared.alloc.Global.{Global}
use Rattle.std.specs.declared.rc.Rc.{Rc}
use Rattle.tm_syntax.specs.Named.{Named, find, put}
use Rattle.tm_syntax.specs.Names.{is_among}
use Rattle.tm_meaning.specs.World.{Template}
use Rattle.tm_meaning.specs.declared.stream.TemplateId.{TemplateId}
use Rattle.tm_meaning.specs.Inheritance.{after_all}
use Rattle.tm_blocks.specs.Layers.{LayerValue}
use Rattle.tm_blocks.specs.declared.template_entry.TemplateEntry.{TemplateEntry}

-- for each block name the templates that have the block, and the names of the loaded templates
pub record LoadedValue : Type 0 where
  pub blocks : Named (List TemplateId)
  pub names : List (List ℕ)

abbrev pub nothing_loaded : LoadedValue
nothing_loaded = record { blocks = []; names = [] }

-- the shared names, if there are any
abbrev pub names_in : Option (Rc (List (List ℕ)) Global) → List (List ℕ)
names_in None = []
names_in (Some shared) = shared.value

-- the shared part, if anything was loaded
abbrev pub loaded_in : Option (Rc LoadedValue Global) → LoadedValue
loaded_in None = nothing_loaded
loaded_in (Some shared) = shared.value

-- the same of a state, with the places in its lists
pub record ListsValue : Type 0 where
  pub blocks : Named (List TemplateId)
  pub places : Named ℕ
  pub loaded : List (List ℕ)

abbrev pub no_lists : ListsValue
no_lists = record { blocks = []; places = []; loaded = [] }

abbrev pub loaded_part : ListsValue → LoadedValue
loaded_part l = record { blocks = l.blocks; names = l.loaded }

-- the templates that have a block of one name, from child to root, and a place in them
pub record Layers : Type 0 where
  pub templates : List TemplateId
  pub place : ℕ

-- the template appended to the list of one block
abbrev pub with_block : TemplateId → List ℕ → Named (List TemplateId) → Named (List TemplateId)
with_block t x ls = put x (after_all t (find x ls)) ls

-- the template appended to the list of each of these blocks
abbrev pub with_each : TemplateId → List (List ℕ) → Named (List TemplateId) → Named (List TemplateId)
with_each t [] ls = ls
with_each t (x ∷ xs) ls = with_each t xs (with_block t x ls)

-- a list for each name that has only this template
abbrev pub alone_in : TemplateId → List (List ℕ) → Named (List TemplateId)
alone_in t xs = each (λ (x : List ℕ). (x, t ∷ [])) xs

-- the templates of a chain appended, one after the other
abbrev pub with_layers : List LayerValue → Named (List TemplateId) → Named (List TemplateId)
with_layers [] ls = ls
with_layers (l ∷ more) ls = with_layers more (with_each l.template l.names ls)

-- the template at a place in the list of a name
abbrev pub listed_at : List ℕ → ℕ → Named (List TemplateId) → Option TemplateId
listed_at x n blocks = option_and_then (λ (l : List TemplateId). slice_get l n) (find x blocks)

-- The list of the name has this template at the place, and `alone` tells whether the list has no
-- other.
abbrev pub IsListed : TemplateId → Bool → List ℕ → ℕ → Named (List TemplateId) → Type 0
IsListed t alone x n blocks =
    (l : List TemplateId) × (find x blocks ≡ Some l) × (slice_get l n ≡ Some t) × (alone ≡ nat_eq (length l) 1)

-- These are the names of the blocks of the template that was found.
abbrev pub AreBlocksOf : Bor (Rc (List (List ℕ)) Global) → Option Template → Type 0
AreBlocksOf names found = (t : Template) × (found ≡ Some t) × (keys_of t.blocks ≡ names.now.value)

-- This is the template that was found by the name, with its escape, or none was found.
abbrev pub IsEntry : Option TemplateEntry → List ℕ → Option Template → Type 0
IsEntry (Some e) x found = (e.name.now ≡ x) × (option_map (λ (t : Template). t.escape) found ≡ Some e.escape) × AreBlocksOf e.blocks found
IsEntry None x found = found ≡ None

-- The table has exactly these names.
abbrev pub HasNames : Named (Unit {0}) → List (List ℕ) → Type 0
HasNames table names = (x : List ℕ) → is_some (find x table) ≡ is_among x names
