-- What a builder does for code. Only here do jumps lack their targets at first.
use Rattle.std.specs.Prelude.{ℕ, ◌+◌, List, [], ◌∷◌, ◌++◌, length, slice_set}
use Rattle.tm_trees.specs.Instructions.{LoopFlags, Instruction}
use Rattle.tm_trees.specs.Instructions.instructions as i
use Rattle.tm_syntax.specs.declared.jump.JumpKind.{JumpKind}
use Rattle.tm_syntax.specs.declared.jump.JumpKind.TheVariants.{IfFalse}
use Rattle.tm_trees.specs.Trees.{Condition, Parameter, Row_of-Stmt}
use Rattle.tm_names.specs.declared.macros.MacroNames.{MacroNames}
use Rattle.tm_syntax.specs.Code.{expr_code, macro_head, parameters_code, statements_code}
use Rattle.tm_syntax.specs.Names.{parameter_names}
use Rattle.tm_syntax.specs.Fragments.{Fragment, straight, ◌⨾◌, jump_out, bounded, fork, looped, break_loop, next_round, declares, jump}
use Rattle.tm_syntax.specs.Fragments.{MacroHead, building}
use Rattle.tm_syntax.specs.Blocks.{FoundBlock}
use Rattle.tm_syntax.specs.Named.{Named, put_each}
use Rattle.tm_shapes.specs.BlockCodes.{compiled_blocks}
use Rattle.tm_generator.specs.declared.builder.Out.{Out}
use Rattle.tm_generator.specs.declared.builder.Exit.{Exit}
use Rattle.tm_generator.specs.declared.builder.Exit.TheVariants.{Leave, Next}
use Rattle.tm_generator.specs.declared.builder.Outer.{Outer}
use Rattle.tm_generator.specs.declared.builder.Around.{Around}
use Rattle.tm_syntax.specs.declared.opened.Opened.{Opened}
pub use Rattle.tm_generator.specs.declared.builder.Builder.{Builder}
pub use Rattle.tm_generator.specs.declared.statements.StreamBuilder.{StreamBuilder}

-- appends an instruction
unfoldable pub with_one : Instruction → Builder → Builder
with_one x b = record b { code = b.code ++ x ∷ [] }

abbrev pub with_all : List Instruction → Builder → Builder
with_all [] b = b
with_all (x ∷ is) b = with_all is (with_one x b)

-- appends a jump out, whose target isn't set yet
unfoldable pub jumped : JumpKind → Builder → Builder
jumped j b = record b { code = b.code ++ jump j 0 ∷ []; outs = b.outs ++ (record { kind = j; place = length b.code }) ∷ [] }

-- appends a jump to the end of the innermost loop, or to its next round
unfoldable pub left : Builder → Builder
left b = record b { code = b.code ++ i.Jump 0 ∷ []; exits = b.exits ++ Leave (length b.code) ∷ [] }

unfoldable pub continued : Builder → Builder
continued b = record b { code = b.code ++ i.Jump 0 ∷ []; exits = b.exits ++ Next (length b.code) ∷ [] }

-- ---------------------------------------------------------------- setting jumps
-- replaces the instruction at the place of each element
abbrev pub patched : {E : Type 0} → (E → ℕ) → (E → Instruction) → List Instruction → List E → List Instruction
patched place made code [] = code
patched place made code (e ∷ es) = patched place made (slice_set code (place e) (made e)) es

-- sets the target of jumps out
abbrev pub out_place : Out → ℕ
out_place out = out.place

abbrev pub out_jump : ℕ → Out → Instruction
out_jump to out = jump out.kind to

abbrev pub settled : List Instruction → List Out → ℕ → List Instruction
settled code outs to = patched out_place (out_jump to) code outs

-- sets the targets of a loop's exits: `again` for the next item, and `after` to leave the loop
abbrev pub exit_place : Exit → ℕ
exit_place (Leave place) = place
exit_place (Next place) = place

abbrev pub exit_jump : ℕ → ℕ → Exit → Instruction
exit_jump again after (Leave place) = i.Jump after
exit_jump again after (Next place) = i.Jump again

abbrev pub led : List Instruction → List Exit → ℕ → ℕ → List Instruction
led code exits again after = patched exit_place (exit_jump again after) code exits

-- ---------------------------------------------------------------- parts
-- begins a part that has its own jumps out, and ends it: they go to its end
unfoldable pub begun : Builder → Builder
begun b = record b { outs = [] }

unfoldable pub bound : List Out → Builder → Builder
bound outer b = record b { code = settled b.code b.outs (length b.code); outs = outer }

-- sets the jump at a place to the end of the code so far
unfoldable pub joined : ℕ → Builder → Builder
joined place b = record b { code = slice_set b.code place (i.Jump (length b.code)) }

-- the end of the code so far
unfoldable pub place_of : Builder → ℕ
place_of b = length b.code

unfoldable pub outs_of : Builder → List Out
outs_of b = b.outs

-- Begins a loop, and ends its rounds.
unfoldable pub loop_begun : LoopFlags → Builder → Builder
loop_begun g b = record b { code = b.code ++ i.PushLoop g ∷ i.Iterate 0 ∷ []; exits = [] }

unfoldable pub outer_of : Builder → Outer
outer_of b = record { exits = b.exits; again = length b.code + 1 }

unfoldable pub rounds_ended : Outer → Builder → Builder
rounds_ended outer b =
    let code = b.code ++ i.Jump outer.again ∷ [] in
    let after = length code in
    record b { code = led (slice_set code outer.again (i.Iterate after)) b.exits outer.again after; exits = outer.exits }

-- Ends code on its own: all jumps out of it go to its end.
abbrev pub finished : Builder → List Instruction
finished b = let end = length b.code in led (settled b.code b.outs end) b.exits end end

-- Begins and ends the body of a macro, likewise. The code around it jumps over it, and it returns
-- at its end.
unfoldable pub body_begun : Builder → Builder
body_begun b = record b { code = b.code ++ i.Jump 0 ∷ []; outs = []; exits = [] }

unfoldable pub around_of : Builder → Around
around_of b = record { outs = b.outs; exits = b.exits; place = length b.code; entry = length b.code + 1 }

unfoldable pub body_ended : Around → Builder → Builder
body_ended around b =
    let code = finished b ++ i.Return ∷ [] in
    record b { code = slice_set code around.place (i.Jump (length code)); outs = around.outs; exits = around.exits }

-- ---------------------------------------------------------------- code
abbrev pub put : Fragment → Builder → Builder
put (straight is) b = with_all is b
put (c ⨾ d) b = put d (put c b)
put (jump_out j) b = jumped j b
put (bounded c) b = bound (outs_of b) (put c (begun b))
put (fork c d) b = let first = put c (begun b) in joined (place_of first) (put d (bound (outs_of b) (with_one (i.Jump 0) first)))
put (looped g c d) b = put d (rounds_ended (outer_of b) (put c (loop_begun g b)))
put break_loop b = left b
put next_round b = continued b
put (declares m c) b = let around = around_of b in with_all (building m.free m around.entry) (body_ended around (put c (body_begun b)))

-- the head of a macro that reads these names, and the code after its body
abbrev pub head_with : List ℕ → List Parameter → MacroNames → MacroHead
head_with x ps names = record { name = x; parameters = parameter_names ps; free = names.free; caller = names.takes_caller }

abbrev pub put_building : List ℕ → List Parameter → MacroNames → ℕ → Builder → Builder
put_building x ps names place b = with_all (building names.free (head_with x ps names) place) b

-- a macro as a value
abbrev pub macro_code : {n : _} → List ℕ → List Parameter → Row_of-Stmt n → Fragment
macro_code x ps body = declares (macro_head x ps body) (parameters_code ps ⨾ statements_code [] body)

-- a loop's rounds
abbrev pub rounds : LoopFlags → Fragment → Builder → Builder
rounds g c b = rounds_ended (outer_of b) (put c (loop_begun g b))

-- ---------------------------------------------------------------- streams
-- Adds code to a stream, and the blocks that were found in that code.
abbrev pub put_in : Fragment → Named FoundBlock → StreamBuilder → StreamBuilder
put_in c found s = record s { code = put c s.code; blocks = put_each (compiled_blocks found) s.blocks }

-- all but the innermost
abbrev pub rest_of : List Opened → List Opened
rest_of [] = []
rest_of (o ∷ os) = os

-- ---------------------------------------------------------------- conditions
-- The tests of conditions, from the last to the first, each with a jump out of what follows it.
abbrev pub asked : List Condition → Builder → Builder
asked [] b = b
asked (c ∷ cs) b = jumped IfFalse (begun (put (expr_code c.test) (asked cs b)))

-- the jumps out of the part around each test, the innermost first
abbrev pub kept : List Condition → Builder → List (List Out)
kept [] b = []
kept (c ∷ cs) b = outs_of (put (expr_code c.test) (asked cs b)) ∷ kept cs b

-- The alternative of each condition, from the first to the last.
abbrev pub answered : List (List Out) → List Condition → Builder → Builder
answered outers [] b = b
answered [] (c ∷ cs) b = b
answered (outer ∷ outers) (c ∷ cs) b = answered outers cs
    (joined (place_of b) (put (expr_code c.otherwise) (bound outer (with_one (i.Jump 0) b))))
