-- What is put for statements and their blocks, in the program's representation.
use Rattle.std.proofs.Common.{◌≡◌, ℕ, Bool, List, [], ◌∷◌, ◌++◌, refl, sym, ap, ◌∙◌}
use Rattle.std.specs.Prelude.{Some, codes, false}
use denote.Hole.Carrier.{hidden}
use Rattle.tm_trees.specs.Trees.{Expr, ForLoop, Stmt, CallBlock, Parameter}
use Rattle.tm_trees.specs.Trees.{hidden_expr, statements, statements_shape}
use Rattle.tm_trees.specs.Trees.statement_forms as st
use Rattle.tm_syntax.specs.declared.opened.Opened.{Opened}
use Rattle.tm_syntax.specs.Blocks.{FoundBlock, body_of, blocks_of, blocks_in, found_block}
use Rattle.tm_shapes.specs.BlockCodes.{block_code, compiled, compiled_blocks}
use Rattle.tm_shapes.specs.declared.code.BlockCode.{BlockCode}
use Rattle.tm_values.specs.Val.{text}
use Rattle.tm_trees.specs.Instructions.instructions as i
use Rattle.tm_syntax.specs.declared.jump.JumpKind.TheVariants.{IfFalse}
use Rattle.tm_syntax.specs.Fragments.{Fragment, straight, ◌⨾◌}
use Rattle.tm_syntax.specs.Code.{expr_code, statement_code, statements_code, unnumbered_code, RowEnd, row_end, caller_end, call_code}
use Rattle.tm_generator.specs.Opened.{OpenCall, with_name, ending, ending_count, call_open, call_of, call_end}
use Rattle.tm_generator.proofs.Opened.{caller-end, caller-count, call-parts}
use Rattle.tm_syntax.specs.Named.{Named, put, put_each}
use Rattle.tm_generator.specs.declared.builder.Out.{Out}
use Rattle.tm_generator.specs.Building.{Builder, StreamBuilder, put_in, finished, macro_code, with_one}
use Rattle.tm_generator.specs.Building.{begun, bound, joined, jumped, outs_of, place_of}
use Rattle.tm_generator.specs.Building.{put as put_code}
use Rattle.tm_generator.proofs.Assembled.{made_whole}

-- ---------------------------------------------------------------- blocks
abbrev Blocks : Type 0
Blocks = Named BlockCode

abbrev pub with_blocks : Named FoundBlock → Blocks → Blocks
with_blocks bs m = put_each (compiled_blocks bs) m

compiled_more : (bs cs : Named FoundBlock) → compiled_blocks (bs ++ cs) ≡ compiled_blocks bs ++ compiled_blocks cs
compiled_more [] cs = refl
compiled_more (b ∷ bs) cs = ap (λ l. compiled b ∷ l) (compiled_more bs cs)

put_more : (bs cs : Blocks) (m : Blocks) → put_each (bs ++ cs) m ≡ put_each cs (put_each bs m)
put_more [] cs m = refl
put_more (b ∷ bs) cs m = put_more bs cs (put b.0 b.1 m)

both : (bs cs : Named FoundBlock) (m : Blocks) → with_blocks (bs ++ cs) m ≡ with_blocks cs (with_blocks bs m)
both bs cs m = ap (λ l. put_each l m) (compiled_more bs cs) ∙ put_more (compiled_blocks bs) (compiled_blocks cs) m

blocks-else : (c : Expr) (body other : List Stmt) →
    blocks_of (st.If c body (Some other)) ≡ blocks_in (statements body) ++ blocks_in (statements other)
unfolding hidden statements
blocks-else c body other = refl

blocks-for-else : (l : ForLoop) (other : List Stmt) →
    blocks_of (st.For (record l { other = Some other })) ≡ blocks_in (statements l.body) ++ blocks_in (statements other)
unfolding hidden statements
blocks-for-else l other = refl

blocks-block : (x : List ℕ) (required : Bool) (body : List Stmt) →
    blocks_of (st.Block x required body) ≡ blocks_in (statements body) ++ (x, found_block required (body_of (statements body))) ∷ []
unfolding hidden statements
blocks-block x required body = refl

blocks-nil : blocks_in (statements []) ≡ []
unfolding hidden statements statements_shape
blocks-nil = refl

blocks-cons : (x : Stmt) (xs : List Stmt) → blocks_in (statements (x ∷ xs)) ≡ blocks_of x ++ blocks_in (statements xs)
unfolding hidden statements statements_shape
blocks-cons x xs = refl

else-blocks : (c : Expr) (body other : List Stmt) (m : Blocks) →
    with_blocks (blocks_of (st.If c body (Some other))) m
    ≡ with_blocks (blocks_in (statements other)) (with_blocks (blocks_in (statements body)) m)
else-blocks c body other m = ap (λ l. with_blocks l m) (blocks-else c body other) ∙ both (blocks_in (statements body)) (blocks_in (statements other)) m

pub for-else-blocks : (l : ForLoop) (other : List Stmt) (m : Blocks) → l.other ≡ Some other →
    with_blocks (blocks_of (st.For l)) m
    ≡ with_blocks (blocks_in (statements other)) (with_blocks (blocks_in (statements l.body)) m)
for-else-blocks l other m some =
    ap (λ bs. with_blocks bs m) (ap (λ o. blocks_of (st.For (record l { other = o }))) some ∙ blocks-for-else l other)
    ∙ both (blocks_in (statements l.body)) (blocks_in (statements other)) m

pub block-blocks : (x : List ℕ) (required : Bool) (body : List Stmt) (m : Blocks) →
    with_blocks (blocks_of (st.Block x required body)) m
    ≡ put x (block_code (found_block required (body_of (statements body)))) (with_blocks (blocks_in (statements body)) m)
block-blocks x required body m =
    ap (λ l. with_blocks l m) (blocks-block x required body)
    ∙ both (blocks_in (statements body)) ((x, found_block required (body_of (statements body))) ∷ []) m

-- ---------------------------------------------------------------- code
put-statements-nil : (os : List Opened) (b : StreamBuilder) →
    put_in (statements_code os (statements [])) (blocks_in (statements [])) b ≡ b
unfolding hidden statements statements_shape
put-statements-nil os b = refl

-- the code of one more statement, with any blocks
code-cons : (os : List Opened) (b : StreamBuilder) (x : Stmt) (xs : List Stmt) (m : Blocks) →
    ◌≡◌ {A = StreamBuilder} (record b { code = put_code (statements_code os (statements (x ∷ xs))) b.code; blocks = m })
    (record b { code = put_code (statements_code os (statements xs)) (put_code (statement_code os x) b.code); blocks = m })
unfolding hidden statements statements_shape
code-cons os b x xs m = refl

put-statements-cons : (os : List Opened) (b : StreamBuilder) (x : Stmt) (xs : List Stmt) →
    put_in (statements_code os (statements (x ∷ xs))) (blocks_in (statements (x ∷ xs))) b
    ≡ put_in (statements_code os (statements xs)) (blocks_in (statements xs)) (put_in (statement_code os x) (blocks_of x) b)
put-statements-cons os b x xs =
    code-cons os b x xs _ ∙ ap {A = Blocks} {B = StreamBuilder} (λ m. record b {
      code = put_code (statements_code os (statements xs)) (put_code (statement_code os x) b.code);
      blocks = m;
    }) (ap (λ l. with_blocks l b.blocks) (blocks-cons x xs) ∙ both (blocks_of x) (blocks_in (statements xs)) b.blocks)

pub more-statements : (os os1 : List Opened) (all rest : List Stmt) (x : Stmt) (m m1 goal : StreamBuilder) → all ≡ x ∷ rest → os1 ≡ os →
    m1 ≡ put_in (statement_code os1 x) (blocks_of x) m →
    put_in (statements_code os (statements all)) (blocks_in (statements all)) m ≡ goal →
    put_in (statements_code os (statements rest)) (blocks_in (statements rest)) m1 ≡ goal
more-statements os os1 all rest x m m1 goal left same p g =
    ap {B = StreamBuilder} (λ b. put_in (statements_code os (statements rest)) (blocks_in (statements rest)) b) (p
    ∙ ap {B = StreamBuilder} (λ o. put_in (statement_code o x) (blocks_of x) m) same)
    ∙ sym (put-statements-cons os m x rest)
    ∙ ap {B = StreamBuilder} (λ l. put_in (statements_code os (statements l)) (blocks_in (statements l)) m) (sym left) ∙ g

pub no_more-statements : (os : List Opened) (rest : List Stmt) (m goal : StreamBuilder) → rest ≡ [] →
    put_in (statements_code os (statements rest)) (blocks_in (statements rest)) m ≡ goal → m ≡ goal
no_more-statements os rest m goal none g = sym (put-statements-nil os m)
    ∙ ap {B = StreamBuilder} (λ l. put_in (statements_code os (statements l)) (blocks_in (statements l)) m) (sym none) ∙ g

-- a stream whose builder was empty
pub made-stream : (b : Builder) (m m1 : StreamBuilder) (ss : List Stmt) → m.code ≡ b → b.code ≡ [] → b.outs ≡ [] → b.exits ≡ [] →
    m.enclosing ≡ [] → m1 ≡ put_in (statements_code m.enclosing (statements ss)) (blocks_in (statements ss)) m →
    finished m1.code ≡ unnumbered_code (statements ss)
made-stream b m m1 ss at x y z o p =
    ap (λ (s : StreamBuilder). finished s.code) (p
    ∙ ap {B = StreamBuilder} (λ os. put_in (statements_code os (statements ss)) (blocks_in (statements ss)) m) o)
    ∙ made_whole (statements_code [] (statements ss)) m.code (ap (λ (k : Builder). k.code) at ∙ x) (ap (λ (k : Builder). k.outs) at
    ∙ y) (ap (λ (k : Builder). k.exits) at ∙ z)

-- streams with equal parts are equal
same_stream : (s t : StreamBuilder) → s.code ≡ t.code → s.enclosing ≡ t.enclosing → s.blocks ≡ t.blocks → s ≡ t
same_stream s t p q r =
    ap {A = Builder} {B = StreamBuilder} (λ m. record s { code = m }) p
    ∙ ap {B = StreamBuilder} (λ os. record s { code = t.code; enclosing = os }) q
    ∙ ap {A = Blocks} {B = StreamBuilder} (λ bs. record t { blocks = bs }) r

-- ---------------------------------------------------------------- conditions
module _ (c : Expr) (body other : List Stmt) (os : List Opened) where
  -- the code of a body, with a jump over it if the condition is false
  abbrev first : Builder → Builder
  first m = put_code (statements_code os (statements body)) (jumped IfFalse (begun m))

  -- then the code of the other body
  abbrev second : Builder → Builder
  second m = joined (place_of (first m)) (put_code (statements_code os (statements other)) (bound (outs_of m) (with_one (i.Jump 0) (first m))))

  put-if : (m : Builder) → put_code (statement_code os (st.If c body (Some other))) m ≡ second (put_code (expr_code c) m)
  unfolding hidden hidden_expr statements
  put-if m = refl

module _ (s s1 s2 : StreamBuilder) (c : Expr) (body other : List Stmt) (m1 m2 m3 m4 m5 : Builder) (outer : List Out) (over : ℕ) where
  pub made-if : m1 ≡ put_code (expr_code c) s.code → outer ≡ outs_of m1 → m2 ≡ begun m1 → m3 ≡ jumped IfFalse m2 →
      s1 ≡ put_in (statements_code s.enclosing (statements body)) (blocks_in (statements body)) (record s { code = m3 }) →
      over ≡ place_of s1.code → m4 ≡ bound outer (with_one (i.Jump 0) s1.code) →
      s2 ≡ put_in (statements_code s1.enclosing (statements other)) (blocks_in (statements other)) (record s1 { code = m4 }) →
      m5 ≡ joined over s2.code → ◌≡◌ {A = StreamBuilder} (record s2 { code = m5 })
      (put_in (statement_code s.enclosing (st.If c body (Some other))) (blocks_of (st.If c body (Some other))) s)
  made-if p o b j d1 n x d2 y =
      let enclosing1 : s1.enclosing ≡ s.enclosing = ap (λ (t : StreamBuilder). t.enclosing) d1 in
      let code1 : s1.code ≡ first c body other s.enclosing m1 =
      ap (λ (t : StreamBuilder). t.code) d1
      ∙ ap {B = Builder} (λ m. put_code (statements_code s.enclosing (statements body)) m) (j ∙ ap {B = Builder} (λ m. jumped IfFalse m) b) in
      let between : m4 ≡ bound (outs_of m1) (with_one (i.Jump 0) (first c body other s.enclosing m1)) =
      x ∙ ap {B = Builder} (λ outs. bound outs (with_one (i.Jump 0) s1.code)) o
      ∙ ap {B = Builder} (λ m. bound (outs_of m1) (with_one (i.Jump 0) m)) code1 in
      let code2 : s2.code ≡ put_code (statements_code s.enclosing (statements other)) (bound (outs_of m1)
      (with_one (i.Jump 0) (first c body other s.enclosing m1))) =
      ap (λ (t : StreamBuilder). t.code) d2
      ∙ ap {B = Builder} (λ os. put_code (statements_code os (statements other)) m4) enclosing1
      ∙ ap {B = Builder} (λ m. put_code (statements_code s.enclosing (statements other)) m) between in
      let code : m5 ≡ put_code (statement_code s.enclosing (st.If c body (Some other))) s.code =
      y ∙ ap {B = Builder} (λ k. joined k s2.code) (n ∙ ap (λ m. place_of m) code1)
      ∙ ap {B = Builder} (λ m. joined (place_of (first c body other s.enclosing m1)) m) code2
      ∙ ap {B = Builder} (λ m. second c body other s.enclosing m) p ∙ sym (put-if c body other s.enclosing s.code) in
      let blocks : s2.blocks ≡ with_blocks (blocks_of (st.If c body (Some other))) s.blocks =
      ap (λ (t : StreamBuilder). t.blocks) d2
      ∙ ap {A = Blocks} (λ m. with_blocks (blocks_in (statements other)) m) (ap (λ (t : StreamBuilder). t.blocks) d1)
      ∙ sym (else-blocks c body other s.blocks) in
      same_stream _ _ code (ap (λ (t : StreamBuilder). t.enclosing) d2 ∙ enclosing1) blocks

-- ---------------------------------------------------------------- call tags
put-call_block : (s : StreamBuilder) (tag : CallBlock) →
    put_in (statement_code s.enclosing (st.CallBlock tag)) (blocks_of (st.CallBlock tag)) s
    ≡ put_in (call_code (caller_end (macro_code (codes "caller") tag.parameters (statements tag.body))) tag.call ⨾ straight (i.Emit ∷ []))
    (blocks_in (statements tag.body)) s
unfolding hidden hidden_expr
put-call_block s tag = refl

pub declared-is : (name : List ℕ) (ps : List Parameter) (body : List Stmt) (tag : CallBlock) (s : StreamBuilder) → ps ≡ tag.parameters →
    body ≡ tag.body →
    put_in (macro_code name ps (statements body)) (blocks_in (statements body)) s
    ≡ put_in (macro_code name tag.parameters (statements tag.body)) (blocks_in (statements tag.body)) s
declared-is name ps body tag s p q =
    ap {B = StreamBuilder} (λ l. put_in (macro_code name l (statements body)) (blocks_in (statements body)) s) p
    ∙ ap {B = StreamBuilder} (λ l. put_in (macro_code name tag.parameters (statements l)) (blocks_in (statements l)) s) q

module _ (s s1 : StreamBuilder) (tag : CallBlock) (call call1 : OpenCall) (name : List ℕ) (m1 m2 m3 m4 : Builder) where
  abbrev declared : List ℕ → Fragment
  declared x = macro_code x tag.parameters (statements tag.body)

  abbrev end : RowEnd
  end = caller_end (declared (codes "caller"))

  -- the ends of the last rows, and the call
  abbrev ended : RowEnd → OpenCall → Builder → Builder
  ended e c b = put_code (ending e c ⨾ straight (call_end tag.call (ending_count e c))) b

  with_caller : (c : OpenCall) (b : Builder) → ended row_end (with_name c)
      (put_code (declared (codes "caller")) (with_one (i.LoadConst (text (codes "caller") false)) b)) ≡ ended end c b
  with_caller c b =
      sym (ap {B = Builder} (λ m. put_code (straight (call_end tag.call (ending_count end c))) m) (caller-end (declared (codes "caller")) c b)
      ∙ ap {B = Builder} (λ n. put_code (straight (call_end tag.call n)) (put_code (ending row_end (with_name c))
      (put_code (declared (codes "caller")) (with_one (i.LoadConst (text (codes "caller") false)) b)))) (caller-count (declared (codes "caller")) c))

  pub made-call_block : m1 ≡ put_code (call_open tag.call) s.code → call ≡ call_of tag.call →
      m2 ≡ with_one (i.LoadConst (text (codes "caller") false)) m1 → name ≡ codes "caller" →
      s1 ≡ put_in (declared name) (blocks_in (statements tag.body)) (record s { code = m2 }) → call1 ≡ with_name call → m3 ≡ ended row_end call1 s1.code →
      m4 ≡ with_one i.Emit m3 → ◌≡◌ {A = StreamBuilder} (record s1 { code = m4 })
      (put_in (statement_code s.enclosing (st.CallBlock tag)) (blocks_of (st.CallBlock tag)) s)
  made-call_block p k q x d k1 r z =
      let body : s1.code ≡ put_code (declared (codes "caller")) m2 =
      ap (λ (t : StreamBuilder). t.code) d ∙ ap {B = Builder} (λ y. put_code (declared y) m2) x in
      let all : m3 ≡ put_code (call_code end tag.call) s.code =
      r ∙ ap {A = OpenCall} {B = Builder} (λ c. ended row_end c s1.code) (k1 ∙ ap {A = OpenCall} {B = OpenCall} with_name k)
      ∙ ap {B = Builder} (λ m. ended row_end (with_name (call_of tag.call)) m) (body
      ∙ ap {B = Builder} (λ m. put_code (declared (codes "caller")) m) (q
      ∙ ap {B = Builder} (λ m. with_one (i.LoadConst (text (codes "caller") false)) m) p))
      ∙ with_caller (call_of tag.call) (put_code (call_open tag.call) s.code) ∙ sym (call-parts end tag.call s.code) in
      let code : m4 ≡ put_code (call_code end tag.call ⨾ straight (i.Emit ∷ [])) s.code = z ∙ ap {B = Builder} (λ m. with_one i.Emit m) all in
      same_stream (record s1 { code = m4 }) (put_in (call_code end tag.call ⨾ straight (i.Emit ∷ [])) (blocks_in (statements tag.body)) s)
      code (ap (λ (t : StreamBuilder). t.enclosing) d) (ap (λ (t : StreamBuilder). t.blocks) d) ∙ sym (put-call_block s tag)
