-- A step of the machine, and whole runs.
use Rattle.std.specs.Prelude.{◌≡◌, ℕ, zero, suc, List, [], ◌∷◌, ◌++◌, length, Option, Some, None, Bool, true, false, ◌&&◌}
use Rattle.std.specs.Prelude.{nat_eq, slice_get}
pub use Rattle.tm_syntax.specs.Choices.{is_empty}
use Rattle.tm_trees.specs.Instructions.{Instruction}
use Rattle.tm_trees.specs.Instructions.instructions as i
use Rattle.tm_trees.specs.Trees.applications
use Rattle.tm_trees.specs.Trees.unaries
use Rattle.tm_trees.specs.Trees.binaries
use Rattle.tm_meaning.specs.World.{choose, TemplateId, World, Res, pays}
use Rattle.tm_values.specs.declared.error.ErrorKind.TheVariants.{InvalidOperation}
use Rattle.tm_meaning.specs.Calls.{Callee}
use Rattle.tm_meaning.specs.Machine.{Activation, Capture, Config, Base, End, Finished, Failed, Back, back_to, Next, More, Over, Restart, Nest, Program}
use Rattle.tm_meaning.specs.Machine.{after, stuck, with_world, first_run, running, restarted}
use Rattle.tm_meaning.specs.Instructions.{emit_raw_of, emit_of, lookup_of, load_const_of, get_attr_of, unary_of, binary_of}
use Rattle.tm_meaning.specs.Instructions.{compare_and_preserve_of, swap_of, dup_top_of, discard_top_of, get_item_of, slice_instruction_of}
use Rattle.tm_meaning.specs.Instructions.{build_list_of, build_map_of, build_kwargs_of, jump_of, jump_if_false_of, jump_if_false_or_pop_of}
use Rattle.tm_meaning.specs.Instructions.{merge_kwargs_of, unpack_lists_of, call_object_of}
use Rattle.tm_meaning.specs.Instructions.{jump_if_true_or_pop_of, call_function_of, apply_of, fast_recurse_of, call_block_of}
use Rattle.tm_meaning.specs.Instructions.{apply_filter_of, perform_test_of, fast_super_of, load_blocks_of, include_of, export_locals_of}
use Rattle.tm_meaning.specs.Instructions.{store_local_of, unpack_list_of, set_attr_of, push_with_of, pop_frame_of, push_loop_of, iterate_of}
use Rattle.tm_meaning.specs.Instructions.{push_did_not_iterate_of, pop_loop_frame_of, begin_capture_of, end_capture_of, push_auto_escape_of}
use Rattle.tm_meaning.specs.Instructions.{pop_auto_escape_of, is_undefined_of, enclose_of, get_closure_of, build_macro_of}

-- the charge of an instruction; 0 if it is free
abbrev pub charge_of : Instruction → ℕ
charge_of i.DupTop = 0
charge_of i.DiscardTop = 0
charge_of i.PushWith = 0
charge_of i.PopFrame = 0
charge_of (i.PushLoop flags) = 0
charge_of i.PushDidNotIterate = 0
charge_of i.PopLoopFrame = 0
charge_of (i.BeginCapture mode) = 0
charge_of i.PushAutoEscape = 0
charge_of i.PopAutoEscape = 0
charge_of (i.BuildMacro _ _ _) = 0
charge_of i.Return = 0
charge_of i.LoadBlocks = 0
charge_of i.ExportLocals = 0
charge_of _ = 1

-- an instruction is paid for before its effect
abbrev pub pay : Instruction → World → Res (Unit {0})
pay x w = pays (charge_of x) w

-- everything that the run opened is closed
abbrev pub closed : Base → Config → Bool
closed f c =
    nat_eq f.captures (length c.captures) && nat_eq f.scopes
    (length c.world.scopes.frames) && is_empty c.run.escapes && is_empty c.run.loops

-- The run of a stream is over if no parent waits; otherwise it restarts in the parent.
abbrev pub parent_next : Option TemplateId → Config → Next
parent_next None c = Over (Finished c.run.operands c.captures c.world)
parent_next (Some t) c = Restart (restarted t c)

-- The run of a macro is over once everything that it opened is closed. A parent that waits there
-- never runs.
abbrev pub return_of : Base → Config → Next
return_of f c = choose (closed f c) (λ _. Over (Finished c.run.operands c.captures c.world)) (λ _. stuck c.world)

abbrev pub effect : Program → Base → Instruction → Config → Next
effect p f (i.EmitRaw t) c = emit_raw_of f t c
effect p f i.Emit c = emit_of p.host f c
effect p f (i.Lookup x) c = lookup_of p.host x c
effect p f (i.LoadConst v) c = load_const_of v c
effect p f (i.GetAttr x) c = get_attr_of p.host x c
effect p f i.GetItem c = get_item_of p.host c
effect p f i.Slice c = slice_instruction_of p.host c
effect p f (i.BuildList n) c = build_list_of n c
effect p f (i.BuildTuple n) c = build_list_of (Some n) c
effect p f (i.BuildMap n) c = build_map_of n c
effect p f (i.BuildKwargs n) c = build_kwargs_of n c
effect p f (i.MergeKwargs n) c = merge_kwargs_of p.host n c
effect p f (i.UnpackLists n) c = unpack_lists_of p.host n c
effect p f i.Eq c = binary_of p.host binaries.Equal c
effect p f i.Ne c = binary_of p.host binaries.NotEqual c
effect p f i.Lt c = binary_of p.host binaries.Less c
effect p f i.Lte c = binary_of p.host binaries.LessOrEqual c
effect p f i.Gt c = binary_of p.host binaries.Greater c
effect p f i.Gte c = binary_of p.host binaries.GreaterOrEqual c
effect p f i.In c = binary_of p.host binaries.In c
effect p f (i.CompareAndPreserve op) c = compare_and_preserve_of p.host op c
effect p f i.Add c = binary_of p.host binaries.Add c
effect p f i.Sub c = binary_of p.host binaries.Subtract c
effect p f i.StringConcat c = binary_of p.host binaries.Concatenate c
effect p f i.Mul c = binary_of p.host binaries.Multiply c
effect p f i.Div c = binary_of p.host binaries.Divide c
effect p f i.IntDiv c = binary_of p.host binaries.FloorDivide c
effect p f i.Rem c = binary_of p.host binaries.Remainder c
effect p f i.Pow c = binary_of p.host binaries.Power c
effect p f i.Neg c = unary_of p.host unaries.Negate c
effect p f i.Not c = unary_of p.host unaries.Not c
effect p f i.IsUndefined c = is_undefined_of c
effect p f i.Swap c = swap_of c
effect p f i.DupTop c = dup_top_of c
effect p f i.DiscardTop c = discard_top_of c
effect p f (i.Jump n) c = jump_of n c
effect p f (i.JumpIfFalse n) c = jump_if_false_of p.host n c
effect p f (i.JumpIfFalseOrPop n) c = jump_if_false_or_pop_of p.host n c
effect p f (i.JumpIfTrueOrPop n) c = jump_if_true_or_pop_of p.host n c
effect p f (i.CallFunction x n) c = call_function_of p x n c
effect p f (i.CallMethod x n) c = apply_of p applications.Method x n c
effect p f (i.CallObject n) c = call_object_of p n c
effect p f (i.ApplyFilter x n cache) c = apply_filter_of p x n cache c
effect p f (i.PerformTest x n cache) c = perform_test_of p x n cache c
effect p f i.FastRecurse c = fast_recurse_of p f c
effect p f (i.CallBlock b) c = call_block_of p f b c
effect p f i.FastSuper c = fast_super_of p f c
effect p f i.LoadBlocks c = load_blocks_of p.host f c
effect p f (i.Include missing) c = include_of p f true missing c
effect p f i.IncludeModule c = include_of p f false false c
effect p f i.ExportLocals c = export_locals_of c
effect p f (i.StoreLocal x) c = store_local_of x c
effect p f (i.Enclose x) c = enclose_of p.host x c
effect p f i.GetClosure c = get_closure_of c
effect p f (i.BuildMacro x place caller) c = build_macro_of p x place caller c
effect p f i.Return c = return_of f c
effect p f (i.UnpackList n) c = unpack_list_of n c
effect p f (i.SetAttr x) c = set_attr_of x c
effect p f i.PushWith c = push_with_of p.host c
effect p f i.PopFrame c = pop_frame_of f c
effect p f (i.PushLoop flags) c = push_loop_of p flags c
effect p f (i.Iterate n) c = iterate_of n c
effect p f i.PushDidNotIterate c = push_did_not_iterate_of c
effect p f i.PopLoopFrame c = pop_loop_frame_of f c
effect p f (i.BeginCapture mode) c = begin_capture_of mode c
effect p f i.EndCapture c = end_capture_of c
effect p f i.PushAutoEscape c = push_auto_escape_of f c
effect p f i.PopAutoEscape c = pop_auto_escape_of c

-- After the last instruction, with everything closed that the run opened, the run is over, or
-- restarts in the waiting parent.
abbrev pub finish : ℕ → Base → Config → Next
finish size f c = choose (nat_eq c.run.place size && closed f c) (λ _. parent_next c.run.parent c) (λ _. stuck c.world)

abbrev pub act : Program → Base → Option Instruction → Config → Next
act p f None c = finish (length (p.code c.run.stream)) f c
act p f (Some x) c = after (pay x c.world) (λ _ w. effect p f x (with_world w c))

-- one step: pays for the instruction at the place and performs it
abbrev pub step : Program → Base → Config → Next
step p f c = act p f (slice_get (p.code c.run.stream) c.run.place) c

-- ---------------------------------------------------------------- whole runs
-- The end of a run, and the text that the writer has received by then.
pub record Final : Type 0 where
  pub text : List ℕ
  pub end : End

abbrev pub final : List ℕ → End → Final
final t e = record { text = t; end = e }

-- The result of a step leads to an end, once the writer has received the text t.
pub data Leads (p : Program) : Base → List ℕ → Next → Final → Type 0 where
  over : {f : Base} {t : List ℕ} {n : Next} {e : End} {o : Final} → n ≡ Over e → o ≡ final t e → Leads p f t n o
  more : {f : Base} {t d : List ℕ} {n : Next} {c : Config} {o : Final} → n ≡ More d c → Leads p f (t ++ d) (step p f c) o → Leads p f t n o
  restart : {f : Base} {t : List ℕ} {n : Next} {c : Config} {o : Final} → n ≡ Restart c → Leads p f t (step p f c) o → Leads p f t n o
  nest : {f g : Base} {t : List ℕ} {n : Next} {c : Config} {back : Back} {e o : Final} →
      n ≡ Nest g c back → Leads p g t (step p g c) e → Leads p f e.text (back_to back e.end) o → Leads p f t n o

-- The start of a callee's run: its first step, or a refusal if it has no run.
abbrev pub begun : Program → Base → Option Activation → List Capture → World → Next
begun p f None ks w = Over (Failed (InvalidOperation ∷ []) w)
begun p f (Some a) ks w = step p f (running a ks w)

abbrev pub begins : Program → Base → Callee → List Capture → World → Next
begins p f k ks w = begun p f (first_run p k (length ks)) ks w

-- From a configuration, once the writer has received the text t, the machine reaches an end.
abbrev pub Reaches : Program → Base → List ℕ → Config → Final → Type 0
Reaches p f t c o = Leads p f t (step p f c) o

-- The same as a function, with a bound on the number of nested steps.
abbrev pub and_on : Option Final → (Final → Option Final) → Option Final
and_on None g = None
and_on (Some o) g = g o

abbrev pub run_for : ℕ → Program → Base → List ℕ → Next → Option Final
run_for zero p f t n = None
run_for (suc k) p f t (More d c) = run_for k p f (t ++ d) (step p f c)
run_for (suc k) p f t (Over e) = Some (final t e)
run_for (suc k) p f t (Restart c) = run_for k p f t (step p f c)
run_for (suc k) p f t (Nest g c back) = and_on (run_for k p g t (step p g c)) (λ o. run_for k p f o.text (back_to back o.end))
