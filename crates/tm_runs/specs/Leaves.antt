-- A macro's run that needs nothing from the state, and the machine's run that it replaces.
use Rattle.std.specs.Prelude.{◌≡◌, ◌<◌, ◌+◌, ◌-◌, ◌^◌, ℕ, suc, List, [], ◌∷◌, ◌++◌, length, Option, None, Some, Ok, Bool, true, false}
use Rattle.std.specs.Prelude.{slice_get, if◌then◌else◌}
use Rattle.tm_values.specs.Val.{Val, boolean, undefined}
use Rattle.tm_values.specs.Defined.{refusal_of}
use Rattle.tm_values.specs.Records.{RecordData}
use Rattle.tm_values.specs.declared.undefined.UndefinedBehavior.{UndefinedBehavior}
use Rattle.tm_values.specs.declared.undefined.UndefinedUse.TheVariants.{Emission}
use Rattle.tm_definitions.specs.Emitted.{emission_verdict, emitted_text}
use Rattle.tm_syntax.specs.Named.{find, put}
use Rattle.tm_values.specs.declared.escape.AutoEscape.{AutoEscape}
use Rattle.tm_trees.specs.Instructions.{Instruction}
use Rattle.tm_trees.specs.Instructions.instructions as instruction
use Rattle.tm_values.specs.Truth.{is_undefined}
use Rattle.tm_meaning.specs.World.{Bindings, CanPay, World, plain_scope}
use Rattle.tm_meaning.specs.declared.base.Base.{Base}
use Rattle.tm_meaning.specs.declared.stream.StreamId.{StreamId}
use Rattle.tm_meaning.specs.Machine.{Capture, Config, End, More, Program, after, onto, run_from, with_world}
use Rattle.tm_meaning.specs.Steps.{Leads, effect, final, pay, step}
use Rattle.tm_runs.specs.Runs.{finished_at}
use Rattle.tm_runs.specs.declared.leaf.LeafFlow.{LeafFlow}
use Rattle.tm_runs.specs.declared.leaf.LeafFlow.TheVariants as leaf_flow

-- A leaf's run: its place, its operands, the top first, the names of its scope, its text, and the
-- fuel left.
pub record LeafRun : Type 0 where
  pub place : ℕ
  pub operands : List Val
  pub names : Bindings
  pub text : List ℕ
  pub fuel : ℕ

-- What is fixed in it: its stream, the captures below its own, the world in which its macro was
-- entered, the closure that its scope reads, and the context value of the scope around that.
pub record LeafGround : Type 0 where
  pub stream : StreamId
  pub captures : List Capture
  pub world : World
  pub reads : Option ℕ
  pub root : Val

-- the machine's configuration that corresponds to the leaf
abbrev pub stands_at : LeafGround → LeafRun → Config
stands_at g l = record {
  run = record (run_from g.stream (suc (length g.captures))) { place = l.place; operands = l.operands };
  captures = record { heard = true; text = l.text } ∷ g.captures;
  world = record g.world {
    scopes = record {
      frames = record (plain_scope (undefined false)) { locals = l.names; reads = g.reads } ∷ plain_scope g.root ∷ [];
      outer = g.world.scopes.outer;
    };
    fuel = l.fuel;
  };
}

-- and the base of its run
abbrev pub base_on : LeafGround → Base
base_on g = record { captures = suc (length g.captures); scopes = 2; heard = true; first = g.world.escape }

-- The stream has this code, there is no formatter, and the escape is this one.
abbrev pub Suits : List Instruction → AutoEscape → Program → LeafGround → Type 0
Suits code escape p g = (p.code g.stream ≡ code) × (p.host.formatter ≡ None) × (g.world.escape ≡ escape)

-- ---------------------------------------------------------------- what a leaf does
-- charged, and at the next place
abbrev pub advanced : LeafRun → LeafRun
advanced l = record l { place = l.place + 1; fuel = l.fuel - 1 }

-- A charge of 1 can be paid, and there is a next place.
abbrev pub CanAdvance : LeafRun → Type 0
CanAdvance l = CanPay 1 l.fuel × (l.place < 2 ^ 64 - 1)

-- The operands change in this way.
abbrev pub Changes : (List Val → List Val → Type 0) → LeafRun → LeafRun → Type 0
Changes Holds old new = Holds old.operands new.operands × (new ≡ record (advanced old) { operands = new.operands })

-- The same without a charge.
abbrev pub ChangesFree : (List Val → List Val → Type 0) → LeafRun → LeafRun → Type 0
ChangesFree Holds old new = Holds old.operands new.operands × (new ≡ record old { place = old.place + 1; operands = new.operands })

-- The top is dropped.
abbrev pub Drops : List Val → List Val → Type 0
Drops old new = (v : Val) × (old ≡ v ∷ new)

-- The value of a name in the scope is pushed.
abbrev pub LooksUp : List ℕ → LeafRun → LeafRun → Type 0
LooksUp x old new = (v : Val) × (find x old.names ≡ Some v) × (new ≡ record (advanced old) { operands = v ∷ old.operands })

-- The top is popped and bound to a name in the scope.
abbrev pub Stores : List ℕ → LeafRun → LeafRun → Type 0
Stores x old new = (v : Val) × (old.operands ≡ v ∷ new.operands) ×
    (new ≡ record (advanced old) { operands = new.operands; names = put x v old.names })

-- The top is popped and its emitted text appended; nothing refuses it.
abbrev pub EmitsTop : AutoEscape → LeafRun → LeafRun → Type 0
EmitsTop escape old new = (v : Val) × (old.operands ≡ v ∷ new.operands) × ((b : UndefinedBehavior) → refusal_of b Emission v ≡ None) ×
    ((r : RecordData) → (emission_verdict escape r v ≡ Ok tt) ×
    (new ≡ record (advanced old) { operands = new.operands; text = old.text ++ emitted_text escape r v }))

-- The top is a boolean, and if it is false the run continues at `place`.
abbrev pub JumpsIfFalse : ℕ → LeafRun → LeafRun → Type 0
JumpsIfFalse place old new = (truth : Bool) × (old.operands ≡ boolean truth ∷ new.operands) ×
    (new ≡ record (advanced old) { place = if truth then old.place + 1 else place; operands = new.operands })

-- The run tests whether the top is undefined and continues after the test.
abbrev pub SkipsTest : List Instruction → LeafRun → LeafRun → Type 0
SkipsTest code old new = (v : Val) × (rest : List Val) × (n : ℕ) × (old.operands ≡ v ∷ rest)
    × (slice_get code (old.place + 1) ≡ Some instruction.IsUndefined) × (slice_get code (old.place + 2) ≡ Some (instruction.JumpIfFalse n))
    × (new ≡ record old { place = if is_undefined v then old.place + 3 else n; fuel = old.fuel - 2 })

-- the text, if there is one
abbrev pub text_of : Option (List ℕ) → List ℕ
text_of None = []
text_of (Some t) = t

-- a run that begins at a place with these arguments
abbrev pub begun : ℕ → List Val → ℕ → LeafRun
begun place given fuel = record { place = place; operands = onto given []; names = []; text = []; fuel = fuel }

-- ---------------------------------------------------------------- what the machine would do
-- The machine charges the instruction and performs it, in any corresponding configuration.
abbrev pub Does : AutoEscape → Instruction → LeafRun → LeafRun → Type 0
Does escape x old new = (p : Program) (g : LeafGround) → (p.host.formatter ≡ None) → (g.world.escape ≡ escape) →
    after (pay x (stands_at g old).world) (λ _ w. effect p (base_on g) x (with_world w (stands_at g old))) ≡ More [] (stands_at g new)

-- Whatever the machine leads to from the leaf's present place, it leads to from the old one.
abbrev pub RunsOn : List Instruction → AutoEscape → LeafRun → LeafRun → Type 0
RunsOn code escape old now = (p : Program) (g : LeafGround) → Suits code escape p g → (e : End) →
    Leads p (base_on g) [] (step p (base_on g) (stands_at g now)) (final [] e) →
    Leads p (base_on g) [] (step p (base_on g) (stands_at g old)) (final [] e)

-- The run ends at the leaf's new place.
abbrev pub RunsOut : List Instruction → AutoEscape → LeafRun → LeafRun → Type 0
RunsOut code escape old new = (p : Program) (g : LeafGround) → Suits code escape p g →
    Leads p (base_on g) [] (step p (base_on g) (stands_at g old)) (final [] (finished_at (stands_at g new)))

-- The run continues or ends as the leaf says; nothing is known about a leaf that was left.
abbrev pub Strides : LeafFlow → List Instruction → AutoEscape → LeafRun → LeafRun → Type 0
Strides leaf_flow.GoOn code escape old new = RunsOn code escape old new
Strides leaf_flow.Over code escape old new = RunsOut code escape old new
Strides leaf_flow.Left code escape old new = Unit {0}

abbrev pub leaf_flow_of : Bool → LeafFlow
leaf_flow_of true = leaf_flow.GoOn
leaf_flow_of false = leaf_flow.Left
