-- What a state's fields mean, and what is restored after a run.
use Rattle.std.specs.Prelude.{◌≡◌, ℕ, ◌+◌, List, [], ◌∷◌, ◌++◌, length, Option, Some, None, Bool, true, false, nat_eq, slice_get}
use Rattle.std.specs.Prelude.{option_and_then}
use Rattle.tm_syntax.specs.Named.{find}
use Rattle.tm_values.specs.Val.{MacroData, Val, undefined}
use Rattle.tm_values.specs.declared.escape.AutoEscape.{AutoEscape}
use Rattle.tm_values.specs.declared.escape.AutoEscape.TheVariants as auto_escape
use Rattle.tm_meaning.specs.World.{World, loop_scope, new_loop, root_of, block_of, plain_scope, with_frames}
use Rattle.tm_meaning.specs.World.{depth, own_closure, owning}
use Rattle.tm_meaning.specs.Calls.{Asked, runs, cut_to, block_call, macro_call, Undo, of_block, of_super, of_macro, of_include, Callee, whole}
use Rattle.tm_meaning.specs.Calls.{macro_depth, macro_of, outermost, root_context}
use Rattle.tm_meaning.specs.Inheritance.{place_in}
use Rattle.tm_meaning.specs.Runs.{first_fuel}
use Rattle.tm_meaning.specs.declared.stream.TemplateId.{TemplateId}
use Rattle.tm_meaning.specs.declared.stream.TemplateId.TheVariants as template_id
use Rattle.tm_meaning.specs.declared.stream.StreamId.{StreamId}
use Rattle.tm_trees.specs.Instructions.{LoopFlags}
use Rattle.tm_tables.specs.Fuel.{Fuel}
use Rattle.tm_blocks.specs.Lists.{ListsValue, with_each}
use Rattle.tm_scopes.specs.Scopes.{exported_of}
use Rattle.tm_records.specs.declared.saved.Saved.{Saved}
use Rattle.tm_records.specs.declared.saved.Saved.TheVariants as saved
use Rattle.tm_records.specs.declared.saved.SavedBlock.{SavedBlock}
use Rattle.tm_records.specs.declared.saved.SavedSuper.{SavedSuper}
use Rattle.tm_records.specs.declared.saved.SavedMacro.{SavedMacro}
use Rattle.tm_records.specs.declared.saved.SavedInclude.{SavedInclude}
use Rattle.tm_records.specs.declared.nested.RunOf.{RunOf}
use Rattle.tm_records.specs.declared.nested.RunOf.TheVariants as run_of

-- the fuel that was set, if any
abbrev pub fuel_set_of : Bool → Fuel → Option ℕ
fuel_set_of true fuel = Some fuel.set
fuel_set_of false fuel = None

-- a world's lists of blocks, its places in them and its loaded names
abbrev pub lists_of : World → ListsValue
lists_of w = record { blocks = w.blocks; places = w.places; loaded = w.loaded }

-- The world at the start of a render of a template with blocks of these names.
abbrev pub started : ℕ → TemplateId → List (List ℕ) → AutoEscape → Option ℕ → Val → World
started id t names escape fuel context = record {
  id = id;
  scopes = record { frames = plain_scope context ∷ []; outer = 0 };
  namespaces = [];
  loops = [];
  closures = [];
  streams = [];
  temps = [];
  blocks = with_each t names [];
  places = [];
  loaded = [];
  block = None;
  escape = escape;
  stream = root_of t;
  fuel_set = fuel;
  fuel = first_fuel fuel;
}

-- What is left after a state was taken out: no scopes and no fuel.
abbrev pub nothing_left : World
nothing_left = record {
  id = 0;
  scopes = record { frames = []; outer = 0 };
  namespaces = [];
  loops = [];
  closures = [];
  streams = [];
  temps = [];
  blocks = [];
  places = [];
  loaded = [];
  block = None;
  escape = auto_escape.None;
  stream = root_of template_id.Own;
  fuel_set = None;
  fuel = 0;
}

-- what is restored after a block, from the world before it
abbrev pub saved_of : World → SavedBlock
saved_of w = record { stream = w.stream; block = w.block; escape = w.escape; scopes = length w.scopes.frames; outer = w.scopes.outer }

-- what is restored after a macro
abbrev pub saved_scopes : World → SavedMacro
saved_scopes w = record { context = w.scopes; stream = w.stream; block = w.block; escape = w.escape; lists = lists_of w }

-- what is restored after a `super()`: as after a block, and the places in the lists of blocks
abbrev pub saved_super : World → SavedSuper
saved_super w = record { replaced = saved_of w; places = w.places }

-- what is restored after an include: as after a block, and the innermost scope's own closure, the
-- lists of blocks, the places in them and the loaded names
abbrev pub saved_include : World → SavedInclude
saved_include w = record { replaced = saved_of w; closure = own_closure w.scopes.frames; lists = lists_of w }

-- What is restored is from this world,
abbrev pub IsSaved : Saved → World → Type 0
IsSaved (saved.Block s) w = s ≡ saved_of w
IsSaved (saved.Super s) w = s ≡ saved_super w
IsSaved (saved.Macro s) w = s ≡ saved_scopes w
IsSaved (saved.Include s) w = s ≡ saved_include w

-- and this is how the run is undone.
abbrev pub undo_of : Saved → World → Undo
undo_of (saved.Block s) w = of_block w
undo_of (saved.Super s) w = of_super w
undo_of (saved.Macro s) w = of_macro w
undo_of (saved.Include s) w = of_include w

-- the world after a block, however it ended; after a `super()`; after a macro; and after an include
abbrev pub after_block : SavedBlock → World → World
after_block s w = record (cut_to s.scopes s.outer w) { stream = s.stream; block = s.block; escape = s.escape }

abbrev pub after_super : SavedSuper → World → World
after_super s w = record (after_block s.replaced w) { places = s.places }

abbrev pub after_macro : SavedMacro → World → World
after_macro s w = record w {
  scopes = s.context;
  stream = s.stream;
  block = s.block;
  escape = s.escape;
  blocks = s.lists.blocks;
  places = s.lists.places;
  loaded = s.lists.loaded;
}

abbrev pub after_include : SavedInclude → World → World
after_include s w = record w {
  scopes = record { frames = owning s.closure (outermost s.replaced.scopes w.scopes.frames); outer = s.replaced.outer };
  stream = s.replaced.stream;
  block = s.replaced.block;
  escape = s.replaced.escape;
  blocks = s.lists.blocks;
  places = s.lists.places;
  loaded = s.lists.loaded;
}

-- the world after a run
abbrev pub put_back : Saved → World → World
put_back (saved.Block s) w = after_block s w
put_back (saved.Super s) w = after_super s w
put_back (saved.Macro s) w = after_macro s w
put_back (saved.Include s) w = after_include s w

-- what runs
abbrev pub callee_of : RunOf → Callee
callee_of (run_of.Stream s) = whole s
callee_of (run_of.Macro s n given) = macro_of s n given.items

-- the run of a block's stream, from world w; b is the world before it
abbrev pub runs_block : StreamId → World → World → Asked
runs_block s b w = runs (block_call s b) w

-- the run of a macro of a stream with its arguments, from world w; b is the world before it
abbrev pub runs_macro : StreamId → MacroData → List Val → World → World → Asked
runs_macro s m given b w = runs (macro_call s m given b) w

-- a world in which a macro of a stream runs without `caller`
abbrev pub in_macro : StreamId → MacroData → World → World
in_macro s m w = record w {
  scopes = record {
    frames = record (plain_scope (undefined false)) { reads = m.closure } ∷ plain_scope (root_context w.scopes.frames) ∷ [];
    outer = 0 + depth w.scopes + macro_depth;
  };
  stream = s;
  block = None;
}

-- The stream is the current block of this name, and `alone` tells whether no other template has
-- such a block.
abbrev pub IsBlockOf : StreamId → Bool → List ℕ → World → Type 0
IsBlockOf s alone x w =
    (l : List TemplateId) × (find x w.blocks ≡ Some l) × (slice_get l (place_in x w.places) ≡ Some s.template)
    × (s ≡ block_of s.template x) × (alone ≡ nat_eq (length l) 1)

-- the template with the current block of this name
abbrev pub template_of_block : List ℕ → World → Option TemplateId
template_of_block x w = option_and_then (λ (l : List TemplateId). slice_get l (place_in x w.places)) (find x w.blocks)

-- The stream is the next block of the running block's name x, and n its place in the list of that
-- name.
abbrev pub IsNextOf : StreamId → List ℕ → ℕ → World → Type 0
IsNextOf s x n w =
    (w.block ≡ Some x) × ((l : List TemplateId) × (find x w.blocks ≡ Some l) × (n ≡ place_in x w.places + 1)
    × (slice_get l (place_in x w.places + 1) ≡ Some s.template) × (s ≡ block_of s.template x))

-- the template with the next block of the running block's name
abbrev pub template_after : World → Option TemplateId
template_after w =
    option_and_then (λ x. option_and_then (λ (l : List TemplateId). slice_get l (place_in x w.places + 1)) (find x w.blocks)) w.block

-- one more scope, over no context
abbrev pub scoped : World → World
scoped w = with_frames (plain_scope (undefined false) ∷ w.scopes.frames) w

-- one more loop with this number, in a scope of its own
abbrev pub with_open_loop : List Val → LoopFlags → ℕ → World → World
with_open_loop items flags number w =
    record (with_frames (loop_scope (record { number = length w.loops; variable = flags.variable }) ∷ w.scopes.frames) w) {
      loops = w.loops ++ new_loop items flags number w ∷ [];
    }

-- The names that a state exports: its outermost scope's own, ordered by name, without those that
-- begin with `_`.
abbrev pub exported : World → List (List ℕ)
exported w = exported_of w.scopes.frames
