-- What runs preserve of their world.
use Rattle.std.specs.Prelude.{◌≡◌, ◌≤◌, ◌⊎◌, List, [], ◌∷◌, ◌++◌, length, None, Some, ℕ}
use Rattle.tm_meaning.specs.World.{World, HostValue, Loop, Scope, Named, find, root_of, own_closure, without_locals, depth, Res, Good, Bad}
use Rattle.tm_meaning.specs.declared.stream.StreamId.{StreamId}
use Rattle.tm_meaning.specs.declared.stream.TemplateId.{TemplateId}
use Rattle.tm_meaning.specs.Meaning.{Ending, fault, Outcome}

-- what holds if the ending isn't a fault
abbrev pub UnlessFault : Ending → Type 0 → Type 0
UnlessFault (fault chain) A = Unit {0}
UnlessFault e A = A

-- a loop's record without its kept arguments, which any expression may change
abbrev pub shape : Loop → Loop
shape l = record l { kept = None }

abbrev pub shapes : List Loop → List Loop
shapes [] = []
shapes (l ∷ ls) = shape l ∷ shapes ls

-- the old records remain, except for their kept arguments, and there may be new ones after them
abbrev pub GoesOn : List Loop → List Loop → Type 0
GoesOn old new = (more : List Loop) × (shapes new ≡ shapes old ++ more)

-- scopes without the names and the closure of the innermost one
abbrev pub bare : List Scope → List Scope
bare [] = []
bare (s ∷ ss) = record s { locals = []; own_closure = None } ∷ ss

-- What may differ in the innermost scope: its names, or its names and its closure.
pub data Differs : Type 0 where
  in_names in_closure_too : Differs

-- scopes without what may differ in the innermost one
abbrev pub but : Differs → List Scope → List Scope
but in_names ss = without_locals ss
but in_closure_too ss = bare ss

-- The old scopes remain, except for what may differ in the innermost one, and there may be new ones
-- on top.
abbrev pub LieOver : Differs → List Scope → List Scope → Type 0
LieOver differs old new = (more : List Scope) × (there : List Scope) × (new ≡ more ++ there) × (but differs there ≡ but differs old)

-- The list of each old block still has its templates, and there may be new ones after them.
abbrev pub BlocksGrow : Named (List TemplateId) → Named (List TemplateId) → Type 0
BlocksGrow old new =
    (x : List ℕ) (l : List TemplateId) → find x old ≡ Some l → (more : List TemplateId) × (find x new ≡ Some (l ++ more))

-- The loaded names remain, and there may be new ones after them.
abbrev pub NamesGrow : List (List ℕ) → List (List ℕ) → Type 0
NamesGrow old new = (more : List (List ℕ)) × (new ≡ old ++ more)

-- However the run ends, the state has the same id and the same fuel setting, its fuel never
-- increases, and the old scopes remain. If the run doesn't fail, there are no new scopes; only the
-- names and the closure of the innermost one may differ.
pub record Stays (old : World) (o : Outcome) : Type 0 where
  pub same_id : o.world.id ≡ old.id
  pub same_fuel_set : o.world.fuel_set ≡ old.fuel_set
  pub no_more_fuel : o.world.fuel ≤ old.fuel
  pub same_outer : o.world.scopes.outer ≡ old.scopes.outer
  pub lie_over : LieOver in_closure_too old.scopes.frames o.world.scopes.frames
  pub same_scopes : UnlessFault o.ending (bare o.world.scopes.frames ≡ bare old.scopes.frames)

-- However the run ends, the state keeps its records, kept values, loaded names and the templates in
-- lists of blocks, and the places in these lists and the block are as before. So is the escape, if
-- the run doesn't fail.
pub record OnlyAdds (old : World) (o : Outcome) : Type 0 where
  pub loops : GoesOn old.loops o.world.loops
  pub namespaces : length old.namespaces ≤ length o.world.namespaces
  pub closures : length old.closures ≤ length o.world.closures
  pub streams : length old.streams ≤ length o.world.streams
  pub temps : length old.temps ≤ length o.world.temps
  pub loaded : NamesGrow old.loaded o.world.loaded
  pub blocks : BlocksGrow old.blocks o.world.blocks
  pub same_places : o.world.places ≡ old.places
  pub same_block : o.world.block ≡ old.block
  pub same_escape : UnlessFault o.ending (o.world.escape ≡ old.escape)

-- A run ends in this stream, or in the root of a template.
abbrev pub EndsThere : StreamId → Outcome → Type 0
EndsThere stream o = (o.world.stream ≡ stream) ⊎ ((t : TemplateId) × (o.world.stream ≡ root_of t))

-- What an include replaced is restored: the stream, the block, the escape, the lists of blocks,
-- their places, the loaded names, and the scopes, except for the names of the innermost one.
pub record GivesBack (old new : World) : Type 0 where
  pub same_scopes : bare new.scopes.frames ≡ bare old.scopes.frames
  pub same_closure : own_closure new.scopes.frames ≡ own_closure old.scopes.frames
  pub same_outer : new.scopes.outer ≡ old.scopes.outer
  pub same_stream : new.stream ≡ old.stream
  pub same_block : new.block ≡ old.block
  pub same_escape : new.escape ≡ old.escape
  pub same_blocks : new.blocks ≡ old.blocks
  pub same_places : new.places ≡ old.places
  pub same_loaded : new.loaded ≡ old.loaded

-- The scopes are the old ones, except for the names of the innermost one, whose closure is the
-- same. After a fault there may be more on top.
abbrev pub LeavesScopes : {A : Type 0} → World → Res A → Type 0
LeavesScopes old (Good a new) =
    (but in_names new.scopes.frames ≡ but in_names old.scopes.frames) × (new.scopes.outer ≡ old.scopes.outer)
LeavesScopes old (Bad chain new) = LieOver in_names old.scopes.frames new.scopes.frames × (new.scopes.outer ≡ old.scopes.outer)

-- The scopes are no deeper than the limit, or than before if that was deeper.
abbrev pub Within : HostValue → World → World → Type 0
Within host old new = (d : ℕ) → host.limit ≤ d → depth old.scopes ≤ d → depth new.scopes ≤ d

-- What a call replaced is restored: the scopes, the stream, the block, the escape, and the places
-- in lists of blocks. The lists only grow.
pub record PutsBack (old new : World) : Type 0 where
  pub same_scopes : new.scopes ≡ old.scopes
  pub same_stream : new.stream ≡ old.stream
  pub same_block : new.block ≡ old.block
  pub same_escape : new.escape ≡ old.escape
  pub same_places : new.places ≡ old.places
  pub blocks : BlocksGrow old.blocks new.blocks
