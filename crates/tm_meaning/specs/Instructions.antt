-- The effect of each instruction, once it is paid for.
use Rattle.std.specs.Prelude.{ℕ, zero, suc, ◌+◌, pos, List, [], ◌∷◌, ◌++◌, length, nat_lt, nat_eq, Option, Some, None, Bool, true, false}
use Rattle.std.specs.Prelude.{◌&&◌, slice_get, if◌then◌else◌}
use Rattle.tm_values.specs.Val.{Val, undefined, none, boolean, number}
use Rattle.tm_values.specs.declared.escape.AutoEscape.{AutoEscape}
use Rattle.tm_trees.specs.Instructions.{CaptureMode, LoopFlags}
use Rattle.tm_trees.specs.Instructions.modes
use Rattle.tm_trees.specs.Trees.{UnaryOperator, BinaryOperator, Application}
use Rattle.tm_meaning.specs.declared.mark.LoopMark.{LoopMark}
use Rattle.tm_meaning.specs.World.{choose, TemplateId, World, HostValue, Loop, top_mark, top_loop, open_loop, next_turn, leave_loop, cleared}
use Rattle.tm_meaning.specs.World.{items_over, Res, answered, looked_up, emitted, escape_for, with_escape, store, unpacked_items}
use Rattle.tm_meaning.specs.World.{set_member, push, pop, plain_scope, captured_text, module_with, enclose, own_closure, make_macro}
use Rattle.tm_syntax.specs.Loops.{loops_before}
use Rattle.tm_syntax.specs.Entries.{entry_number}
pub use Rattle.tm_syntax.specs.Entries.{and_text, texts_in, names_in}
use Rattle.tm_syntax.specs.CacheNumbers.{no_cache, cache_count}
use Rattle.tm_syntax.specs.Named.{same_name}
use Rattle.tm_trees.specs.Trees.applications
use Rattle.tm_meaning.specs.Inheritance.{load}
use Rattle.tm_meaning.specs.Calls.{enter_block, enter_super, enter_include, call_named, call_callee, applied, call_innermost}
use Rattle.tm_meaning.specs.Meaning.{none_waits}
use Rattle.tm_meaning.specs.Operators.{truth, applied_unary, operated, attribute, item_at, slice_of, list_of_values, map_of_pairs}
use Rattle.tm_meaning.specs.Operators.{keyword_map, merged_values, items_of_lists}
use Rattle.tm_values.specs.Truth.{is_undefined}
use Rattle.tm_meaning.specs.Machine.{Capture, Caches, Return, Config, Base, Next, More, after, on_top, take_n, onto, on, goes, pushed}
use Rattle.tm_meaning.specs.Machine.{Program, jumps, stuck, with_world, audible, writes, new_capture, captured_value, asked, asked_in_place}

-- ---------------------------------------------------------------- output
abbrev pub emit_raw_of : Base → List ℕ → Config → Next
emit_raw_of f t c = writes f t (on c.run.operands c)

abbrev pub emit_of : HostValue → Base → Config → Next
emit_of host f c = on_top c.run.operands c.world (λ v vs. after (emitted host v c.world) (λ t w. writes f t (on vs (with_world w c))))

-- ---------------------------------------------------------------- operands
abbrev pub lookup_of : HostValue → List ℕ → Config → Next
lookup_of host x c = after (looked_up host x c.world) (λ v w. goes (v ∷ c.run.operands) w c)

abbrev pub load_const_of : Val → Config → Next
load_const_of v c = goes (v ∷ c.run.operands) c.world c

-- replaces one operand
abbrev pub replaces_one : (Val → World → Res Val) → Config → Next
replaces_one g c = on_top c.run.operands c.world (λ v vs. after (g v c.world) (λ x w. goes (x ∷ vs) w c))

-- replaces two operands; g gets the topmost one last
abbrev pub replaces_two : (Val → Val → World → Res Val) → Config → Next
replaces_two g c =
    on_top c.run.operands c.world (λ b vs. on_top vs c.world (λ a rest. after (g a b c.world) (λ x w. goes (x ∷ rest) w c)))

abbrev pub get_attr_of : HostValue → List ℕ → Config → Next
get_attr_of host x c = replaces_one (λ v w. attribute host v x w) c

abbrev pub unary_of : HostValue → UnaryOperator → Config → Next
unary_of host op c = replaces_one (applied_unary host op) c

abbrev pub binary_of : HostValue → BinaryOperator → Config → Next
binary_of host op c = replaces_two (operated host op) c

-- replaces two operands by the topmost one and, above it, the result
abbrev pub compare_and_preserve_of : HostValue → BinaryOperator → Config → Next
compare_and_preserve_of host op c =
    on_top c.run.operands c.world (λ b vs. on_top vs c.world
    (λ a rest. after (operated host op a b c.world) (λ x w. goes (x ∷ b ∷ rest) w c)))

abbrev pub swap_of : Config → Next
swap_of c = on_top c.run.operands c.world (λ b vs. on_top vs c.world (λ a rest. goes (a ∷ b ∷ rest) c.world c))

abbrev pub dup_top_of : Config → Next
dup_top_of c = on_top c.run.operands c.world (λ v vs. goes (v ∷ v ∷ vs) c.world c)

abbrev pub discard_top_of : Config → Next
discard_top_of c = on_top c.run.operands c.world (λ v vs. goes vs c.world c)

abbrev pub get_item_of : HostValue → Config → Next
get_item_of host c = replaces_two (item_at host) c

-- replaces four operands: a value, and above it the start, stop and step
abbrev pub slice_instruction_of : HostValue → Config → Next
slice_instruction_of host c =
    on_top c.run.operands c.world (λ by vs. on_top vs c.world (λ stop us. on_top us c.world (λ start ts. on_top ts c.world (λ v rest.
    after (slice_of host v start stop by c.world) (λ x w. goes (x ∷ rest) w c)))))

-- ---------------------------------------------------------------- lists and maps
-- a number as a count
abbrev pub count_in : Val → Option ℕ
count_in (number (pos n)) = Some n
count_in v = None

abbrev pub on_count : Option ℕ → World → (ℕ → Next) → Next
on_count None w f = stuck w
on_count (Some n) w f = f n

-- n values, the lowest first; without n, the topmost operand is the count
abbrev pub take_counted : Option ℕ → List Val → World → (List Val → List Val → Next) → Next
take_counted (Some n) vs w f = take_n n vs w f
take_counted None vs w f = on_top vs w (λ v us. on_count (count_in v) w (λ n. take_n n us w f))

abbrev pub build_list_of : Option ℕ → Config → Next
build_list_of n c = take_counted n c.run.operands c.world (λ vs rest. goes (list_of_values vs ∷ rest) c.world c)

-- keys, each followed by its value
abbrev pub paired : List Val → List (Val × Val)
paired (k ∷ v ∷ vs) = (k, v) ∷ paired vs
paired _ = []

abbrev pub build_map_of : ℕ → Config → Next
build_map_of n c = take_n (n + n) c.run.operands c.world (λ vs rest. goes (map_of_pairs (paired vs) ∷ rest) c.world c)

-- names, each followed by its value
abbrev pub build_kwargs_of : ℕ → Config → Next
build_kwargs_of n c = take_n (n + n) c.run.operands c.world (λ vs rest. goes (keyword_map (paired vs) ∷ rest) c.world c)

-- ---------------------------------------------------------------- spread arguments
abbrev pub merge_kwargs_of : HostValue → ℕ → Config → Next
merge_kwargs_of host n c =
    take_n n c.run.operands c.world (λ vs rest. after (merged_values host vs c.world) (λ v w. goes (v ∷ rest) w c))

-- pushes values, and then their number
abbrev pub group_on : List Val → List Val → List Val
group_on vs rest = number (pos (length vs)) ∷ onto vs rest

abbrev pub unpack_lists_of : HostValue → ℕ → Config → Next
unpack_lists_of host n c =
    take_n n c.run.operands c.world (λ vs rest. after (items_of_lists host vs c.world) (λ us w. goes (group_on us rest) w c))

-- ---------------------------------------------------------------- jumps
abbrev pub jump_of : ℕ → Config → Next
jump_of n c = jumps n c.run.operands c.world c

-- the truth of the topmost operand
abbrev pub on_truth : HostValue → Config → (Bool → Val → List Val → World → Next) → Next
on_truth host c f = on_top c.run.operands c.world (λ v vs. after (truth host v c.world) (λ b w. f b v vs w))

abbrev pub jump_if_false_of : HostValue → ℕ → Config → Next
jump_if_false_of host n c = on_truth host c (λ b v vs w. choose b (λ _. goes vs w c) (λ _. jumps n vs w c))

abbrev pub jump_if_false_or_pop_of : HostValue → ℕ → Config → Next
jump_if_false_or_pop_of host n c = on_truth host c (λ b v vs w. choose b (λ _. goes vs w c) (λ _. jumps n (v ∷ vs) w c))

abbrev pub jump_if_true_or_pop_of : HostValue → ℕ → Config → Next
jump_if_true_or_pop_of host n c = on_truth host c (λ b v vs w. choose b (λ _. jumps n (v ∷ vs) w c) (λ _. goes vs w c))

-- ---------------------------------------------------------------- scopes and targets
abbrev pub store_local_of : List ℕ → Config → Next
store_local_of x c = on_top c.run.operands c.world (λ v vs. goes vs (store x v c.world) c)

-- ---------------------------------------------------------------- macros
abbrev pub is_undefined_of : Config → Next
is_undefined_of c = on_top c.run.operands c.world (λ v vs. goes (boolean (is_undefined v) ∷ vs) c.world c)

abbrev pub enclose_of : HostValue → List ℕ → Config → Next
enclose_of host x c = after (enclose host x c.world) (λ _ w. goes c.run.operands w c)

-- a closure as an operand: its number, or `none`
abbrev pub closure_value : Option ℕ → Val
closure_value None = none
closure_value (Some n) = number (pos n)

abbrev pub get_closure_of : Config → Next
get_closure_of c = goes (closure_value (own_closure c.world.scopes.frames) ∷ c.run.operands) c.world c

-- the closure that an operand represents
abbrev pub closure_in : Val → Option (Option ℕ)
closure_in none = Some None
closure_in (number (pos n)) = Some (Some n)
closure_in v = None

abbrev pub on_parts : Option (Option ℕ) → Option (List (List ℕ)) → World → (Option ℕ → List (List ℕ) → Next) → Next
on_parts (Some closure) (Some names) w f = f closure names
on_parts closure names w f = stuck w

-- Replaces a closure and, above it, the names of the arguments by a macro. Stuck if the operands
-- aren't these.
abbrev pub build_macro_of : Program → List ℕ → ℕ → Bool → Config → Next
build_macro_of p x place caller c =
    on_top c.run.operands c.world (λ names vs. on_top vs c.world (λ closure rest.
    on_parts (closure_in closure) (names_in names) c.world (λ own arguments.
    after (make_macro (entry_number place (p.code c.run.stream)) own x arguments caller c.world) (λ v w. goes (v ∷ rest) w c))))

-- the first item ends up on top
abbrev pub unpack_list_of : ℕ → Config → Next
unpack_list_of n c = on_top c.run.operands c.world (λ v vs. after (unpacked_items n v c.world) (λ xs w. goes (xs ++ vs) w c))

-- a namespace is above the value
abbrev pub set_attr_of : List ℕ → Config → Next
set_attr_of x c =
    on_top c.run.operands c.world (λ o vs. on_top vs c.world (λ v rest. after (set_member x v o c.world) (λ _ w. goes rest w c)))

abbrev pub push_with_of : HostValue → Config → Next
push_with_of host c = after (push host (plain_scope (undefined false)) c.world) (λ _ w. goes c.run.operands w c)

abbrev pub is_no_loop : Option LoopMark → Bool
is_no_loop None = true
is_no_loop (Some m) = false

-- Neither a scope from before the run nor the scope of a loop can be closed.
abbrev pub pop_frame_of : Base → Config → Next
pop_frame_of f c =
    choose (nat_lt f.scopes (length c.world.scopes.frames) && is_no_loop (top_mark c.world.scopes.frames))
    (λ _. goes c.run.operands (pop c.world) c) (λ _. stuck c.world)

-- ---------------------------------------------------------------- loops
-- the open loops of the run, each with its return if it was called
abbrev pub looping : List (Option Return) → Config → Config
looping rs c = record c { run = record c.run { loops = rs } }

abbrev pub push_loop_of : Program → LoopFlags → Config → Next
push_loop_of p flags c =
    on_top c.run.operands c.world (λ v vs. after (items_over p.host v c.world) (λ items w.
    after (open_loop p.host items flags (loops_before c.run.place (p.code c.run.stream)) w) (λ _ world1.
    goes vs world1 (looping (None ∷ c.run.loops) c))))

-- uses the record of the innermost loop, if the run opened it and its scope is on top
abbrev pub on_loop : List (Option Return) → Option Loop → World → (Loop → Next) → Next
on_loop [] l w f = stuck w
on_loop (r ∷ rs) None w f = stuck w
on_loop (r ∷ rs) (Some l) w f = f l

abbrev pub iterate_with : Option Val → ℕ → Config → Next
iterate_with None n c = jumps n c.run.operands (next_turn c.world) c
iterate_with (Some v) n c = goes (v ∷ c.run.operands) (cleared (next_turn c.world)) c

abbrev pub iterate_of : ℕ → Config → Next
iterate_of n c = on_loop c.run.loops (top_loop c.world) c.world (λ l. iterate_with (slice_get l.items l.turns) n c)

abbrev pub push_did_not_iterate_of : Config → Next
push_did_not_iterate_of c =
    on_loop c.run.loops (top_loop c.world) c.world (λ l. goes (boolean (nat_eq (length l.items) 0) ∷ c.run.operands) c.world c)

-- the run as it was when the ending loop was called
abbrev pub returned : Return → List (Option Return) → Config → Config
returned r rs c =
    record c {
      run = record c.run { place = r.place; operands = r.operands; escapes = r.escapes; floor = r.floor; loops = rs };
      world = leave_loop c.world;
    }

-- pushes the text of the innermost capture and restores the parent
abbrev pub with_text : Option TemplateId → List Capture → Config → Next
with_text parent [] c = stuck c.world
with_text parent (k ∷ ks) c = More []
    (record c { run = record (pushed (captured_text k.text c.world) c.run) { parent = parent }; captures = ks })

abbrev pub returns : Return → Bool → Config → Next
returns r false c = More [] c
returns r true c = with_text r.parent c.captures c

-- Ends a loop. A loop that was called returns, and its captures and escapes are closed.
abbrev pub pop_loop_with : List (Option Return) → Config → Next
pop_loop_with [] c = stuck c.world
pop_loop_with (None ∷ rs) c = goes c.run.operands (leave_loop c.world) (looping rs c)
pop_loop_with (Some r ∷ rs) c = returns r r.value (returned r rs c)

-- A loop from before the run can't be ended.
abbrev pub pop_loop_frame_of : Base → Config → Next
pop_loop_frame_of f c =
    choose (nat_lt f.scopes (length c.world.scopes.frames))
    (λ _. on_loop c.run.loops (top_loop c.world) c.world (λ l. pop_loop_with c.run.loops c)) (λ _. stuck c.world)

-- ---------------------------------------------------------------- captures and escapes
abbrev pub is_heard : CaptureMode → Bool
is_heard modes.Capture = true
is_heard modes.Discard = false

abbrev pub begin_capture_of : CaptureMode → Config → Next
begin_capture_of mode c = goes c.run.operands c.world (record c { captures = new_capture (is_heard mode) ∷ c.captures })

abbrev pub end_capture_with : List Capture → Config → Next
end_capture_with [] c = stuck c.world
end_capture_with (k ∷ ks) c = goes (captured_value k c.world ∷ c.run.operands) c.world (record c { captures = ks })

-- A capture from before the run, or from before the innermost called loop, can't be ended.
abbrev pub end_capture_of : Config → Next
end_capture_of c = choose (nat_lt c.run.floor (length c.captures)) (λ _. end_capture_with c.captures c) (λ _. stuck c.world)

-- the escapes that the open `autoescape`s of a run replaced
abbrev pub replacing : List AutoEscape → Config → Config
replacing es c = record c { run = record c.run { escapes = es } }

abbrev pub push_auto_escape_of : Base → Config → Next
push_auto_escape_of f c =
    on_top c.run.operands c.world (λ v vs. after (answered (escape_for f.first v) c.world) (λ e w.
    goes vs (with_escape e w) (replacing (w.escape ∷ c.run.escapes) c)))

abbrev pub pop_auto_escape_with : List AutoEscape → Config → Next
pop_auto_escape_with [] c = stuck c.world
pop_auto_escape_with (e ∷ es) c = goes c.run.operands (with_escape e c.world) (replacing es c)

abbrev pub pop_auto_escape_of : Config → Next
pop_auto_escape_of c = pop_auto_escape_with c.run.escapes c

-- ---------------------------------------------------------------- calls
abbrev pub call_function_of : Program → List ℕ → Option ℕ → Config → Next
call_function_of p x n c =
    take_counted n c.run.operands c.world (λ vs rest. asked p c rest (call_named p.host x vs c.world))

-- applies a name to values: a method of the first one, a filter or a test
abbrev pub apply_of : Program → Application → List ℕ → Option ℕ → Config → Next
apply_of p k x n c = take_counted n c.run.operands c.world (λ vs rest. asked p c rest (applied p.host k x vs c.world))

-- calls the first value with the others
abbrev pub call_object_of : Program → Option ℕ → Config → Next
call_object_of p n c = take_counted n c.run.operands c.world (λ vs rest. asked p c rest (call_callee p.host vs c.world))

-- whether a cache entry can hold a name: it is empty, or has the name already
abbrev pub may_hold : Option (Option (List ℕ)) → List ℕ → Bool
may_hold None x = true
may_hold (Some None) x = true
may_hold (Some (Some y)) x = same_name x y

-- stores a name in the cache with this number
abbrev pub holding : ℕ → List ℕ → Caches → Caches
holding zero x [] = Some x ∷ []
holding zero x (held ∷ more) = Some x ∷ more
holding (suc n) x [] = None ∷ holding n x []
holding (suc n) x (held ∷ more) = held ∷ holding n x more

-- The caches after a name is used with a cache number. None if there is no such cache, or it holds
-- another name.
abbrev pub used : ℕ → List ℕ → Caches → Option Caches
used cache x held =
    if nat_eq cache no_cache then Some held
    else if nat_lt cache cache_count && may_hold (slice_get held cache) x then Some (holding cache x held)
    else None

abbrev pub on_used : Option Caches → World → (Caches → Next) → Next
on_used None w f = stuck w
on_used (Some held) w f = f held

abbrev pub with_filters : Caches → Config → Config
with_filters held c = record c { run = record c.run { filters = held } }

abbrev pub with_tests : Caches → Config → Config
with_tests held c = record c { run = record c.run { tests = held } }

-- the same for a filter or a test with a cache number
abbrev pub apply_filter_of : Program → List ℕ → Option ℕ → ℕ → Config → Next
apply_filter_of p x n cache c =
    on_used (used cache x c.run.filters) c.world (λ held. apply_of p applications.Filter x n (with_filters held c))

abbrev pub perform_test_of : Program → List ℕ → Option ℕ → ℕ → Config → Next
perform_test_of p x n cache c =
    on_used (used cache x c.run.tests) c.world (λ held. apply_of p applications.Test x n (with_tests held c))

abbrev pub call_block_of : Program → Base → List ℕ → Config → Next
call_block_of p f b c =
    choose (none_waits c.run.parent && audible f c)
    (λ _. asked_in_place p f c c.run.operands (enter_block p.host b c.world))
    (λ _. goes c.run.operands c.world c)

-- runs the next block after the running one, in place
abbrev pub fast_super_of : Program → Base → Config → Next
fast_super_of p f c = asked_in_place p f c c.run.operands (enter_super p.host c.world)

-- sets the parent that waits
abbrev pub awaiting : TemplateId → Config → Config
awaiting t c = record c { run = record c.run { parent = Some t } }

abbrev pub load_blocks_of : HostValue → Base → Config → Next
load_blocks_of host f c =
    on_top c.run.operands c.world (λ v vs.
    after (load host v c.run.parent (nat_lt f.captures (length c.captures)) c.world) (λ t w. goes vs w (awaiting t c)))

-- runs the template that the value names in place, with a new scope if `apart`
abbrev pub include_of : Program → Base → Bool → Bool → Config → Next
include_of p f apart missing c =
    on_top c.run.operands c.world (λ v vs. asked_in_place p f c vs (enter_include p.host apart v missing c.world))

-- replaces a value by the module of the innermost scope's names and the value's printed text
abbrev pub export_locals_of : Config → Next
export_locals_of c = on_top c.run.operands c.world (λ v vs. after (module_with v c.world) (λ m w. goes (m ∷ vs) w c))

-- calls the innermost loop in place
abbrev pub fast_recurse_of : Program → Base → Config → Next
fast_recurse_of p f c = on_top c.run.operands c.world (λ v vs. asked_in_place p f c vs (call_innermost p.host v c.world))
