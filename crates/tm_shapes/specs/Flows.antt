-- Where each instruction leads from a shape, and in which shapes: the table of instructions.
use Rattle.std.specs.Prelude.{length, ℕ, zero, suc, ◌+◌, pos, List, [], ◌∷◌, ◌++◌, Option, Some, None, Bool, true, false, nat_eq, not, ◌&&◌}
use Rattle.tm_values.specs.Val.{Val, number}
use Rattle.tm_syntax.specs.Choices.{choose}
use Rattle.tm_syntax.specs.Entries.{names_in}
use Rattle.tm_syntax.specs.Choices.{is_empty}
use Rattle.tm_trees.specs.Instructions.{LoopFlags, Instruction, CaptureMode}
use Rattle.tm_trees.specs.Instructions.instructions as i
use Rattle.tm_shapes.specs.declared.kind.Kind.{Kind}
use Rattle.tm_shapes.specs.declared.kind.Kind.TheVariants.{Value as value, Zero as nothing, Group as group, Closure as closure, Names as names}
use Rattle.tm_shapes.specs.declared.kind.Kind.TheVariants.{Opened as opened, One as one}
use Rattle.tm_shapes.specs.declared.kind.Frame.{Frame}
use Rattle.tm_shapes.specs.declared.kind.Frame.TheVariants.{Scope as scope, Loop as loop}
use Rattle.tm_shapes.specs.declared.kind.Reading.{Reading}
use Rattle.tm_shapes.specs.declared.kind.Reading.TheVariants as readings
use Rattle.tm_shapes.specs.Shapes.{Part, no_part, Shape, entry_shape, pushed}

-- An operand is missing, or what it closes isn't open; or it ends the run; or it leads to a place
-- in a shape, or to either of two. It may take the 0 that was pushed at a place as a group.
pub data Flow : Type 0 where
  refused : Flow
  ends : Flow
  leads : ℕ → Shape → Flow
  both : Flow → Flow → Flow
  takes : ℕ → Flow → Flow

-- The surroundings of an instruction: its place; the instructions after it; whether a jump leads
-- between the next two; whether it is the 1 between `Swap` and `Add`; how a 0 is read; how many
-- operands a `Return` leaves, if that is required; and whether the entry of a macro is followed
-- when the macro is built.
pub record Site : Type 0 where
  pub place : ℕ
  pub rest : List Instruction
  pub entered : Bool
  pub between : Bool
  pub reading : Reading
  pub returned : Option ℕ
  pub enters : Bool

-- ---------------------------------------------------------------- operands
-- whether an operand can be taken as a value
abbrev pub is_value : Kind → Bool
is_value value = true
is_value (nothing p) = true
is_value one = true
is_value k = false

abbrev pub pop : List Kind → (List Kind → Flow) → Flow
pop [] f = refused
pop (k ∷ ks) f = choose (is_value k) (λ _. f ks) (λ _. refused)

abbrev pub pops : ℕ → List Kind → (List Kind → Flow) → Flow
pops zero ks f = f ks
pops (suc n) ks f = pop ks (λ ks1. pops n ks1 f)

abbrev pub pop_group : List Kind → (List Kind → Flow) → Flow
pop_group (group o ∷ ks) f = f ks
pop_group (nothing p ∷ ks) f = takes p (f ks)
pop_group ks f = refused

-- n values, or a group
abbrev pub pop_counted : Option ℕ → List Kind → (List Kind → Flow) → Flow
pop_counted (Some n) ks f = pops n ks f
pop_counted None ks f = pop_group ks f

abbrev pub with_operands : List Kind → Shape → Shape
with_operands ks s = record s { part = record s.part { operands = ks } }

abbrev pub next : Site → List Kind → Shape → Flow
next at ks s = leads (at.place + 1) (with_operands ks s)

-- ---------------------------------------------------------------- adjacent instructions
abbrev pub is_one : Val → Bool
is_one (number (pos n)) = nat_eq n 1
is_one v = false

abbrev pub is_zero : Val → Bool
is_zero (number (pos n)) = nat_eq n 0
is_zero v = false

-- `LoadConst 1` and then `Add` come next
abbrev pub adds_one : List Instruction → Bool
adds_one (i.LoadConst v ∷ i.Add ∷ more) = is_one v
adds_one more = false

abbrev pub builds : List Instruction → Bool
builds (i.BuildMacro x place caller ∷ more) = true
builds more = false

abbrev pub builds_after : List Instruction → Bool
builds_after (i.LoadConst v ∷ more) = builds more
builds_after more = false

-- ---------------------------------------------------------------- instructions
-- replaces n values by m values
abbrev pub replaces : Site → ℕ → ℕ → Shape → Flow
replaces at n m s = pops n s.part.operands (λ ks. next at (pushed m ks) s)

abbrev pub replaces_counted : Site → Option ℕ → Shape → Flow
replaces_counted at n s = pop_counted n s.part.operands (λ ks. next at (value ∷ ks) s)

-- As long as the reading of a 0 is open, only one at the bottom of a part can be a group: the count
-- of a loop with a condition is there.
abbrev pub zero_of : Reading → ℕ → List Kind → Kind
zero_of readings.Value place ks = value
zero_of readings.Group place ks = group (Some place)
zero_of readings.Open place [] = nothing place
zero_of readings.Open place (k ∷ ks) = value

abbrev pub load_zero : Site → Shape → Flow
load_zero at s = next at (zero_of at.reading at.place s.part.operands ∷ s.part.operands) s

abbrev pub load_value : Site → Val → Shape → Flow
load_value at v s = choose (is_zero v) (λ _. load_zero at s) (λ _. next at (value ∷ s.part.operands) s)

abbrev pub load_on : Site → Val → Shape → Flow
load_on at v s = choose (at.between && is_one v) (λ _. next at (one ∷ s.part.operands) s) (λ _. load_value at v s)

abbrev pub load_names : Option (List (List ℕ)) → Site → Shape → Flow
load_names (Some xs) at s = next at (names (length xs) ∷ s.part.operands) s
load_names None at s = refused

abbrev pub load : Site → Val → Shape → Flow
load at v s = choose (builds at.rest) (λ _. load_names (names_in v) at s) (λ _. load_on at v s)

abbrev pub get_closure : Site → Shape → Flow
get_closure at s =
    choose (builds_after at.rest) (λ _. next at (closure ∷ s.part.operands) s) (λ _. next at (value ∷ s.part.operands) s)

-- follows the entry of a macro with n arguments, if entries are followed
abbrev pub entering : Site → ℕ → ℕ → Flow → Flow
entering at place n f = choose at.enters (λ _. both f (leads place (entry_shape n))) (λ _. f)

abbrev pub build_macro : Site → ℕ → Shape → List Kind → Flow
build_macro at place s (names n ∷ closure ∷ ks) = entering at place n (next at (value ∷ ks) s)
build_macro at place s ks = refused

-- `Swap`, `LoadConst 1` and `Add` are in a row, and nothing jumps between them
abbrev pub in_row : Site → Bool
in_row at = adds_one at.rest && not at.entered

-- A value above a group goes into it only by such a row.
abbrev pub swap_group : Site → Shape → Option ℕ → List Kind → Flow
swap_group at s o ks = choose (in_row at) (λ _. next at (opened o ∷ ks) s) (λ _. refused)

abbrev pub swap_zero : Site → Shape → ℕ → List Kind → Flow
swap_zero at s p ks =
    choose (in_row at) (λ _. takes p (next at (opened (Some p) ∷ ks) s)) (λ _. next at (value ∷ value ∷ ks) s)

abbrev pub swap_over : Site → Shape → List Kind → Flow
swap_over at s (group o ∷ ks) = swap_group at s o ks
swap_over at s (nothing p ∷ ks) = swap_zero at s p ks
swap_over at s ks = pop ks (λ ks1. next at (value ∷ value ∷ ks1) s)

abbrev pub add : Site → Shape → List Kind → Flow
add at s (one ∷ opened o ∷ ks) = next at (group o ∷ ks) s
add at s ks = pops 2 ks (λ ks1. next at (value ∷ ks1) s)

abbrev pub jump_if : Site → ℕ → Shape → Flow
jump_if at n s = pop s.part.operands (λ ks. both (next at ks s) (leads n (with_operands ks s)))

abbrev pub jump_or_pop : Site → ℕ → Shape → Flow
jump_or_pop at n s = pop s.part.operands (λ ks. both (next at ks s) (leads n (with_operands (value ∷ ks) s)))

-- ---------------------------------------------------------------- scopes, loops, captures and escapes
abbrev pub with_frames : List Frame → Shape → Shape
with_frames fs s = record s { part = record s.part { frames = fs } }

abbrev pub with_captures : List CaptureMode → Shape → Shape
with_captures ms s = record s { part = record s.part { captures = ms } }

abbrev pub with_escapes : ℕ → Shape → Shape
with_escapes n s = record s { part = record s.part { escapes = n } }

abbrev pub on : Site → Shape → Flow
on at s = leads (at.place + 1) s

abbrev pub push_with : Site → Shape → Flow
push_with at s = on at (with_frames (scope ∷ s.part.frames) s)

abbrev pub pop_frame : Site → Shape → List Frame → Flow
pop_frame at s (scope ∷ fs) = on at (with_frames fs s)
pop_frame at s fs = refused

-- a loop that can be called begins a part
abbrev pub loop_begun : Bool → Shape → Shape
loop_begun true s = record { part = no_part; below = s.part ∷ s.below }
loop_begun false s =
    with_frames (loop (length s.part.operands) (length s.part.captures) s.part.escapes ∷ s.part.frames) s

abbrev pub push_loop : Site → LoopFlags → Shape → Flow
push_loop at flags s = pop s.part.operands (λ ks. on at (loop_begun flags.recursive (with_operands ks s)))

abbrev pub in_part : List Part → Flow → Flow
in_part [] f = refused
in_part (q ∷ qs) f = f

-- continues if the innermost scope is that of a loop
abbrev pub on_loop : List Frame → List Part → Flow → Flow
on_loop [] below f = in_part below f
on_loop (scope ∷ fs) below f = refused
on_loop (loop m c e ∷ fs) below f = f

abbrev pub iterate : Site → ℕ → Shape → Flow
iterate at n s = on_loop s.part.frames s.below (both (next at (value ∷ s.part.operands) s) (leads n s))

abbrev pub did_not_iterate : Site → Shape → Flow
did_not_iterate at s = on_loop s.part.frames s.below (next at (value ∷ s.part.operands) s)

-- when a part ends, its operands stay on top of those below
abbrev pub over_part : List Kind → Part → List Part → Shape
over_part ks q qs = record { part = record q { operands = ks ++ q.operands }; below = qs }

abbrev pub pop_part : Site → Shape → List Part → Flow
pop_part at s [] = refused
pop_part at s (q ∷ qs) =
    choose (is_empty s.part.captures && nat_eq s.part.escapes 0) (λ _. on at (over_part s.part.operands q qs)) (λ _. refused)

abbrev pub pop_loop : Site → Shape → List Frame → Flow
pop_loop at s [] = pop_part at s s.below
pop_loop at s (scope ∷ fs) = refused
pop_loop at s (loop m c e ∷ fs) =
    choose (nat_eq (length s.part.captures) c && nat_eq s.part.escapes e) (λ _. on at (with_frames fs s)) (λ _. refused)

abbrev pub end_capture : Site → Shape → List CaptureMode → Flow
end_capture at s [] = refused
end_capture at s (m ∷ ms) = next at (value ∷ s.part.operands) (with_captures ms s)

abbrev pub push_escape : Site → Shape → Flow
push_escape at s = pop s.part.operands (λ ks. next at ks (with_escapes (suc s.part.escapes) s))

abbrev pub pop_escape : Site → Shape → ℕ → Flow
pop_escape at s zero = refused
pop_escape at s (suc n) = on at (with_escapes n s)

-- everything that was opened is closed
abbrev pub is_closed : Shape → Bool
is_closed s = is_empty s.part.frames && is_empty s.part.captures && nat_eq s.part.escapes 0 && is_empty s.below

abbrev pub are : Option ℕ → List Kind → Bool
are None ks = true
are (Some n) ks = nat_eq (length ks) n

abbrev pub returns : Site → Shape → Flow
returns at s = choose (is_closed s && are at.returned s.part.operands) (λ _. ends) (λ _. refused)

abbrev pub unpack_lists : Site → ℕ → Shape → Flow
unpack_lists at n s = pops n s.part.operands (λ ks. next at (group None ∷ ks) s)

-- All other instructions are binary operators.
abbrev pub flow_of : Site → Instruction → Shape → Flow
flow_of at (i.EmitRaw t) s = replaces at 0 0 s
flow_of at i.Emit s = replaces at 1 0 s
flow_of at (i.Lookup x) s = replaces at 0 1 s
flow_of at (i.LoadConst v) s = load at v s
flow_of at (i.GetAttr x) s = replaces at 1 1 s
flow_of at i.GetItem s = replaces at 2 1 s
flow_of at i.Slice s = replaces at 4 1 s
flow_of at (i.BuildList n) s = replaces_counted at n s
flow_of at (i.BuildTuple n) s = replaces at n 1 s
flow_of at (i.BuildMap n) s = replaces at (n + n) 1 s
flow_of at (i.BuildKwargs n) s = replaces at (n + n) 1 s
flow_of at (i.MergeKwargs n) s = replaces at n 1 s
flow_of at (i.UnpackLists n) s = unpack_lists at n s
flow_of at (i.CompareAndPreserve op) s = replaces at 2 2 s
flow_of at i.Add s = add at s s.part.operands
flow_of at i.Neg s = replaces at 1 1 s
flow_of at i.Not s = replaces at 1 1 s
flow_of at i.IsUndefined s = replaces at 1 1 s
flow_of at i.Swap s = pop s.part.operands (swap_over at s)
flow_of at i.DupTop s = replaces at 1 2 s
flow_of at i.DiscardTop s = replaces at 1 0 s
flow_of at (i.Jump n) s = leads n s
flow_of at (i.JumpIfFalse n) s = jump_if at n s
flow_of at (i.JumpIfFalseOrPop n) s = jump_or_pop at n s
flow_of at (i.JumpIfTrueOrPop n) s = jump_or_pop at n s
flow_of at (i.CallFunction x n) s = replaces_counted at n s
flow_of at (i.CallMethod x n) s = replaces_counted at n s
flow_of at (i.CallObject n) s = replaces_counted at n s
flow_of at (i.ApplyFilter x n cache) s = replaces_counted at n s
flow_of at (i.PerformTest x n cache) s = replaces_counted at n s
flow_of at i.FastRecurse s = replaces at 1 0 s
flow_of at (i.CallBlock b) s = replaces at 0 0 s
flow_of at i.FastSuper s = replaces at 0 0 s
flow_of at i.LoadBlocks s = replaces at 1 0 s
flow_of at (i.Include missing) s = replaces at 1 0 s
flow_of at i.IncludeModule s = replaces at 1 0 s
flow_of at i.ExportLocals s = replaces at 1 1 s
flow_of at (i.StoreLocal x) s = replaces at 1 0 s
flow_of at (i.Enclose x) s = replaces at 0 0 s
flow_of at i.GetClosure s = get_closure at s
flow_of at (i.BuildMacro x place caller) s = build_macro at place s s.part.operands
flow_of at i.Return s = returns at s
flow_of at (i.UnpackList n) s = replaces at 1 n s
flow_of at (i.SetAttr x) s = replaces at 2 0 s
flow_of at i.PushWith s = push_with at s
flow_of at i.PopFrame s = pop_frame at s s.part.frames
flow_of at (i.PushLoop flags) s = push_loop at flags s
flow_of at (i.Iterate n) s = iterate at n s
flow_of at i.PushDidNotIterate s = did_not_iterate at s
flow_of at i.PopLoopFrame s = pop_loop at s s.part.frames
flow_of at (i.BeginCapture mode) s = on at (with_captures (mode ∷ s.part.captures) s)
flow_of at i.EndCapture s = end_capture at s s.part.captures
flow_of at i.PushAutoEscape s = push_escape at s
flow_of at i.PopAutoEscape s = pop_escape at s s.part.escapes
flow_of at _ s = replaces at 2 1 s
