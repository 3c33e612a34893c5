-- The machine: its configurations, its steps, and how runs end.
use Rattle.std.specs.Prelude.{ℕ, zero, suc, ◌+◌, List, [], ◌∷◌, ◌++◌, length, Option, Some, None, Bool, true, false, ◌&&◌, nat_lt}
use Rattle.std.specs.Prelude.{slice_get, nat_eq, option_and_then}
use Rattle.tm_values.specs.Val.{Val, undefined}
use Rattle.tm_values.specs.declared.error.ErrorKind.{ErrorKind}
use Rattle.tm_values.specs.declared.error.ErrorKind.TheVariants.{InvalidOperation}
use Rattle.tm_values.specs.declared.escape.AutoEscape.{AutoEscape}
use Rattle.tm_trees.specs.Instructions.{Instruction, LoopPlace}
pub use Rattle.tm_meaning.specs.declared.base.Base.{Base}
use Rattle.tm_meaning.specs.World.{choose, TemplateId, StreamId, root_of, World, HostValue, Res, Good, Bad, open_loop, captured_text}
use Rattle.tm_meaning.specs.Calls.{Callee, whole, macro_of, NestedCall, Asked, has, refused, runs, recurs, undone, wrapped, run_value}
use Rattle.tm_meaning.specs.declared.run_text.RunText.{RunText}
use Rattle.tm_syntax.specs.Loops.{loop_places}
use Rattle.tm_syntax.specs.Entries.{entries}
use Rattle.tm_meaning.specs.Meaning.{none_waits}

-- The text of an open capture, and whether the capture receives what is written.
pub record Capture : Type 0 where
  pub heard : Bool
  pub text : List ℕ

-- Where a called loop returns to: the run as it was, and whether the text becomes a value; then the
-- parent is restored too.
pub record Return : Type 0 where
  pub place : ℕ
  pub operands : List Val
  pub escapes : List AutoEscape
  pub floor : ℕ
  pub parent : Option TemplateId
  pub value : Bool

-- The names in the caches, by cache number; the caches after them are empty.
abbrev pub Caches : Type 0
Caches = List (Option (List ℕ))

-- The state of one run: its stream and its place in it; its operands, the topmost first; the
-- escapes that its open `autoescape`s replaced; its open loops, each with its return if it was
-- called; the number of captures when this run or the innermost called loop began; the parent that
-- waits; and the caches of filters and tests.
pub record Activation : Type 0 where
  pub stream : StreamId
  pub place : ℕ
  pub operands : List Val
  pub escapes : List AutoEscape
  pub loops : List (Option Return)
  pub floor : ℕ
  pub parent : Option TemplateId
  pub filters : Caches
  pub tests : Caches

-- The configuration of the machine: the run, the open captures of all runs, innermost first, and
-- the world.
pub record Config : Type 0 where
  pub run : Activation
  pub captures : List Capture
  pub world : World

-- How a run ends: finished, with the operands and captures that are left; failed by a fault; or
-- stuck, which is impossible for a stream that the compiler wrote.
pub data End : Type 0 where
  Finished : List Val → List Capture → World → End
  Failed : List ErrorKind → World → End
  Stuck : World → End

-- Where a nested run returns to: the waiting run, whose place is advanced already, the call, and
-- whether the text becomes a value.
pub record Back : Type 0 where
  pub run : Activation
  pub call : NestedCall
  pub value : Bool

-- A step writes a text and continues, or ends the run, or restarts it in another stream, or needs a
-- nested run first.
pub data Next : Type 0 where
  More : List ℕ → Config → Next
  Over : End → Next
  Restart : Config → Next
  Nest : Base → Config → Back → Next

-- What all runs share: the environment, and the code of each stream.
pub record Program : Type 0 where
  pub host : HostValue
  pub code : StreamId → List Instruction

-- ---------------------------------------------------------------- small parts
-- a stream that can't continue
abbrev pub stuck : World → Next
stuck w = Over (Stuck w)

abbrev pub after : {A : Type 0} → Res A → (A → World → Next) → Next
after (Good a w) f = f a w
after (Bad chain w) f = Over (Failed chain w)

-- the topmost operand and those below it
abbrev pub on_top : List Val → World → (Val → List Val → Next) → Next
on_top [] w f = stuck w
on_top (v ∷ vs) w f = f v vs

-- the n topmost operands, the lowest first, and those below them
abbrev pub taken : ℕ → List Val → List Val → Option (List Val × List Val)
taken zero acc vs = Some (acc, vs)
taken (suc n) acc [] = None
taken (suc n) acc (v ∷ vs) = taken n (v ∷ acc) vs

abbrev pub on_taken : Option (List Val × List Val) → World → (List Val → List Val → Next) → Next
on_taken None w f = stuck w
on_taken (Some r) w f = f r.0 r.1

abbrev pub take_n : ℕ → List Val → World → (List Val → List Val → Next) → Next
take_n n vs w f = on_taken (taken n [] vs) w f

-- pushes values, the last on top
abbrev pub onto : List Val → List Val → List Val
onto [] stack = stack
onto (v ∷ vs) stack = onto vs (v ∷ stack)

abbrev pub at_place : ℕ → List Val → Config → Config
at_place n vs c = record c { run = record c.run { place = n; operands = vs } }

abbrev pub with_world : World → Config → Config
with_world w c = record c { world = w }

-- advances to the next place, with these operands
abbrev pub on : List Val → Config → Config
on vs c = at_place (c.run.place + 1) vs c

abbrev pub goes : List Val → World → Config → Next
goes vs w c = More [] (on vs (with_world w c))

-- jumps to a place
abbrev pub jumps : ℕ → List Val → World → Config → Next
jumps n vs w c = More [] (at_place n vs (with_world w c))

-- ---------------------------------------------------------------- written text
abbrev pub first_heard : List Capture → Bool
first_heard [] = true
first_heard (k ∷ ks) = k.heard

-- whether written text is heard: as the innermost capture of this run says, or else as the run is,
-- if no parent waits
abbrev pub audible : Base → Config → Bool
audible f c = choose (nat_lt f.captures (length c.captures)) (λ _. first_heard c.captures) (λ _. f.heard && none_waits c.run.parent)

-- appends a text to the innermost capture; without one, the writer gets it
abbrev pub put_in : List Capture → List ℕ → List Capture
put_in [] t = []
put_in (k ∷ ks) t = record k { text = k.text ++ t } ∷ ks

abbrev pub put_out : List Capture → List ℕ → List ℕ
put_out [] t = t
put_out (k ∷ ks) t = []

abbrev pub writes : Base → List ℕ → Config → Next
writes f t c = choose (audible f c) (λ _. More (put_out c.captures t) (record c { captures = put_in c.captures t })) (λ _. More [] c)

-- ---------------------------------------------------------------- runs
abbrev pub run_from : StreamId → ℕ → Activation
run_from s floor = record {
  stream = s;
  place = 0;
  operands = [];
  escapes = [];
  loops = [];
  floor = floor;
  parent = None;
  filters = [];
  tests = [];
}

-- Continues the run with the root of a parent, in the scopes that are left. No parent waits then.
abbrev pub restarted : TemplateId → Config → Config
restarted t c = record c { run = run_from (root_of t) c.run.floor; world = record c.world { stream = root_of t } }

-- a run of a macro from its entry, with its arguments as operands, the last one on top
abbrev pub run_of_macro : StreamId → List Val → ℕ → ℕ × ℕ → Option Activation
run_of_macro s given floor e =
    choose (nat_eq e.1 (length given)) (λ _. Some (record (run_from s floor) { place = e.0; operands = onto given [] })) (λ _. None)

-- The run of a callee from its first place, with `floor` open captures. None if the stream lacks
-- the macro, or the macro takes another number of arguments.
abbrev pub first_run : Program → Callee → ℕ → Option Activation
first_run p (whole s) floor = Some (run_from s floor)
first_run p (macro_of s n given) floor = option_and_then (run_of_macro s given floor) (slice_get (entries (p.code s)) n)

-- a configuration of a run, captures and a world
abbrev pub running : Activation → List Capture → World → Config
running a ks w = record { run = a; captures = ks; world = w }

abbrev pub base_of : Bool → List Capture → World → Base
base_of heard ks w = record { captures = length ks; scopes = length w.scopes.frames; heard = heard; first = w.escape }

abbrev pub new_capture : Bool → Capture
new_capture heard = record { heard = heard; text = [] }

-- the value of a capture at its end: its text, or undefined if it received nothing
abbrev pub captured_value : Capture → World → Val
captured_value k w = choose k.heard (λ _. captured_text k.text w) (λ _. undefined false)

-- the waiting run, which continues after the call with these operands
abbrev pub waiting : List Val → Config → Activation
waiting vs c = record c.run { place = c.run.place + 1; operands = vs }

-- a run that is needed first; the call is refused if the callee has no run
abbrev pub nested : Option Activation → Bool → List Capture → World → Back → Next
nested None heard ks w back = Over (Failed (wrapped back.call.wrap (InvalidOperation ∷ [])) (undone back.call.undo w))
nested (Some a) heard ks w back = Nest (base_of heard ks w) (running a ks w) back

-- a nested run whose text is heard if that of the call is
abbrev pub nested_in_place : Program → Base → List Val → Config → NestedCall → World → Next
nested_in_place p f vs c k w =
    nested (first_run p k.callee (length c.captures)) (audible f c) c.captures w (record { run = waiting vs c; call = k; value = false })

-- a nested run whose text is captured
abbrev pub nested_as_value : Program → List Val → Config → NestedCall → World → Next
nested_as_value p vs c k w =
    let ks = new_capture true ∷ c.captures in
    nested (first_run p k.callee (length ks)) true ks w (record { run = waiting vs c; call = k; value = true })

abbrev pub pushed : Val → Activation → Activation
pushed v r = record r { operands = v ∷ r.operands }

-- continues after a nested run, once everything is restored; the nested run's operands are dropped
abbrev pub back_with : Bool → RunText → Activation → List Capture → World → Next
back_with false t r ks w = More [] (record { run = r; captures = ks; world = w })
back_with true t r [] w = stuck w
back_with true t r (k ∷ ks) w = More [] (record { run = pushed (run_value t k.text w) r; captures = ks; world = w })

abbrev pub back_to : Back → End → Next
back_to back (Finished vs ks w) = back_with back.value back.call.text back.run ks (undone back.call.undo w)
back_to back (Failed chain w) = Over (Failed (wrapped back.call.wrap chain) (undone back.call.undo w))
back_to back (Stuck w) = stuck (undone back.call.undo w)

-- Calls a loop with items. It starts at its place without operands, and returns here. A loop that
-- isn't recursive can't be called.
abbrev pub recursion : Program → Config → Bool → List Val → List Capture → ℕ → Option LoopPlace → List Val → World → Next
recursion p c value vs ks n None items w = Over (Failed (InvalidOperation ∷ []) w)
recursion p c value vs ks n (Some l) items w =
    choose l.flags.recursive
    (λ _. after (open_loop p.host items l.flags n w) (λ _ world1.
    More [] (record {
      run = record c.run {
        place = l.place + 1;
        operands = [];
        escapes = [];
        floor = length ks;
        loops = Some (record {
          place = c.run.place + 1;
          operands = vs;
          escapes = c.run.escapes;
          floor = c.run.floor;
          parent = c.run.parent;
          value = value;
        }) ∷ c.run.loops;
      };
      captures = ks;
      world = world1;
    })))
    (λ _. Over (Failed (InvalidOperation ∷ []) w))

-- the place of the running stream's loop with this number
abbrev pub place_of_loop : Program → Config → ℕ → Option LoopPlace
place_of_loop p c n = slice_get (loop_places 0 (p.code c.run.stream)) n

-- continues with the result of a call, whose value is pushed on vs
abbrev pub asked : Program → Config → List Val → Asked → Next
asked p c vs (has v w) = goes (v ∷ vs) w c
asked p c vs (refused chain w) = Over (Failed chain w)
asked p c vs (runs k w) = nested_as_value p vs c k w
asked p c vs (recurs n items w) = recursion p c true vs (new_capture true ∷ c.captures) n (place_of_loop p c n) items w

-- the same in place
abbrev pub asked_in_place : Program → Base → Config → List Val → Asked → Next
asked_in_place p f c vs (has v w) = goes vs w c
asked_in_place p f c vs (refused chain w) = Over (Failed chain w)
asked_in_place p f c vs (runs k w) = nested_in_place p f vs c k w
asked_in_place p f c vs (recurs n items w) = recursion p c false vs c.captures n (place_of_loop p c n) items w
