-- What an answer of an object comes to.
use Rattle.std.specs.Global.{Box}
use Rattle.std.proofs.Common.{◌≡◌, ◌≤◌, ◌<◌, ℕ, suc, ◌+◌, ◌-◌, ◌||◌, List, Option, Some, Result, Ok, Err, Bool, true, false}
use Rattle.std.proofs.Common.{refl, sym, ap, ◌∙◌, arith, subst, IfOk, OnOk}
use Rattle.std.specs.Result.{IsErr, IsErrAnd}
use Rattle.tm_values.specs.Answer.{Answer}
use Rattle.tm_meaning.specs.Memory.{is_want_of_memory}
use Rattle.tm_values.specs.Val.{Val, text}
use Rattle.tm_values.specs.declared.error.ErrorKind.{ErrorKind}
use Rattle.tm_meaning.specs.World.{World, HostValue, Object, Stated, view_of, answered, records_of}
use Rattle.tm_syntax.specs.Named.{put_each}
use Rattle.tm_definitions.specs.Emitted.{text_answer}
use Rattle.tm_meaning.specs.declared.run_text.RunText.TheVariants as texts
use Rattle.tm_meaning.specs.declared.reply.Reply.{Reply}
use Rattle.tm_meaning.specs.declared.reply.Reply.TheVariants.{Value as gives, Fault as faults, Further as asks_for}
use Rattle.tm_meaning.specs.Calls.{Asked, has, refused, runs, recurs, ask, NestedCall, MakesFurther, replied, as_truth, as_printed}
use Rattle.tm_meaning.specs.Calls.{further_call, further_calls}
use Rattle.tm_meaning.specs.declared.reply.Call.{Call}
use Rattle.tm_objects.specs.Stated.{is_for_memory, IsNamedAnswer}
use Rattle.tm_records.specs.declared.results.CallResult.{CallResult}
use Rattle.tm_records.specs.declared.results.CallResult.TheVariants as outcome
use Rattle.tm_records.specs.declared.results.Further.TheVariants as further
use Rattle.tm_records.specs.declared.nested.NestedRun.{NestedRun}
use Rattle.tm_state.specs.Answers.{Becomes, FoundAnswers, FurtherComes, NeedsMacro, NeedsPlain, NeedsRun, call_of, shown, tested}
use Rattle.tm_records.specs.Results.{is_macro, text_for}

-- ---------------------------------------------------------------- an answer that is followed
-- What was refused is nothing else.
never : {A : Type 0} (chain : List ErrorKind) (x w : World) (e : NestedRun) → NeedsRun e (refused chain x) w → A
never chain x w e needs = let same = needs.3.2 in absurd (cc same)

refused_comes : (r : Result CallResult (List ErrorKind)) (chain : List ErrorKind) (x w : World) (asked : Asked) →
    (is_want_of_memory chain ≡ false → asked ≡ refused chain x) → Becomes r (refused chain x) w → Becomes r asked w
refused_comes (Ok (outcome.Value v)) chain x w asked c d = absurd (cc d)
refused_comes (Ok (outcome.Recursion l)) chain x w asked c d = absurd (cc d)
refused_comes (Ok (outcome.Run e)) chain x w asked c d = never chain x w e.value d
refused_comes (Err why) chain x w asked c d = λ m.
    let same : chain ≡ why = cc (d m) in
    c (ap is_want_of_memory same ∙ m) ∙ d m

same_becomes : (r : Result CallResult (List ErrorKind)) (asked q : Asked) (w : World) → asked ≡ q → Becomes r q w → Becomes r asked w
same_becomes r asked q w same d = subst (λ z. Becomes r z w) (sym same) d

pub followed : (test : Bool) (r : Result CallResult (List ErrorKind)) (make : MakesFurther) (reply : Reply) (asked : Asked) (x w : World) →
    (is_for_memory reply ≡ false → asked ≡ replied make reply x) → Becomes r (tested test (replied make reply x)) w →
    Becomes r (tested test asked) w
followed test r make (gives u) asked x w c d = same_becomes r _ _ w (ap (tested test) (c refl)) d
followed test r make (asks_for call) asked x w c d = same_becomes r _ _ w (ap (tested test) (c refl)) d
followed false r make (faults chain) asked x w c d = refused_comes r chain x w asked c d
followed true r make (faults chain) asked x w c d = refused_comes r chain x w (as_truth asked) (λ m. ap as_truth (c m)) d

-- an object of a name answered
pub named : (host : HostValue) (found : Option Object) (answer : Stated) (kind : ErrorKind) (args : List Val) (w : World) →
    IsNamedAnswer (Some answer) found args (view_of host w) → FoundAnswers (Ok answer) host found kind args w
named host found answer kind args w (f, there, stated) make = λ m.
    rw (there, stated m) refl

-- ---------------------------------------------------------------- further calls
-- A text is printed as it is, so printing again changes nothing.
printed_by : (answer : Answer (List ℕ)) (w : World) →
    as_printed (ask (answered answer w) (λ t world1. has (text t false) world1)) ≡ ask (answered answer w) (λ t world1. has (text t false) world1)
printed_by (Ok t) w = refl
printed_by (Err chain) w = refl

printed_twice : (asked : Asked) → as_printed (as_printed asked) ≡ as_printed asked
printed_twice (has v w) = printed_by (text_answer (records_of w) v) w
printed_twice (refused chain w) = refl
printed_twice (runs c w) = refl
printed_twice (recurs n items w) = refl

shown_then : (printed macro : Bool) (asked : Asked) → shown printed (shown macro asked) ≡ shown (printed || macro) asked
shown_then false macro asked = refl
shown_then true false asked = refl
shown_then true true asked = printed_twice asked

shown_refused : (printed : Bool) (chain : List ErrorKind) (w : World) → shown printed (refused chain w) ≡ refused chain w
shown_refused false chain w = refl
shown_refused true chain w = refl

tested_refused : (test : Bool) (chain : List ErrorKind) (w : World) → tested test (refused chain w) ≡ refused chain w
tested_refused false chain w = refl
tested_refused true chain w = refl

-- Of a run whose text is plain the text is what was asked for, whatever was called on the way.
shown_run : (printed test : Bool) (c : NestedCall) (w : World) →
    tested test (shown printed (runs (record c { text = texts.Plain }) w)) ≡ runs (record c { text = text_for test }) w
shown_run false false c w = refl
shown_run false true c w = refl
shown_run true false c w = refl
shown_run true true c w = refl

pub run_needed : (printed test : Bool) (e : NestedRun) (asked : Asked) (w : World) → NeedsPlain test e asked w →
    NeedsRun e (tested test (shown printed asked)) w
run_needed printed test e asked w needs =
    let b = needs.4.0 in
    let is = needs.4.2 in
    let same = ap (λ q. tested test (shown printed q)) is ∙ shown_run printed test (call_of e b) w
    ∙ ap (λ t. runs (record (call_of e b) { text = t }) w) (sym needs.3) in
    (needs.0, needs.1, needs.2, (b, needs.4.1, same))

-- One further call is made, of those that are left.
one_made : (left k made : ℕ) (host : HostValue) (call : Call) (w : World) → left ≡ suc k →
    further_calls left made host call w ≡ further_call (further_calls k (suc made) host) (suc made) host call w
one_made left k made host call w e = rw e refl

more_left : (left made : ℕ) → made ≤ left → (made ≡ left → ⊥) → left - made ≡ suc (left - (made + 1))
more_left left made within more = let apart : made < left = omega (arith, within, more) in omega (arith, apart)

module _ (host : HostValue) (test printed : Bool) (first : Asked) (left made : ℕ) (reply : Reply) (call : Call) (x w : World)
    (asked : is_for_memory reply ≡ false → first ≡ shown printed (replied (further_calls (left - made) made host) reply x))
    (is : reply ≡ asks_for call) (same : x ≡ w) (within : made ≤ left) (more : made ≡ left → ⊥) where
  abbrev after : MakesFurther
  after = further_calls (left - (made + 1)) (made + 1) host

  abbrev once : Asked
  once = further_call after (made + 1) host call w

  suc_of : suc made ≡ made + 1
  suc_of = omega arith

  made_once : first ≡ shown printed once
  made_once =
      asked (ap is_for_memory is) ∙ ap (λ r. shown printed (replied (further_calls (left - made) made host) r x)) is
      ∙ ap (λ z. shown printed (further_calls (left - made) made host call z)) same
      ∙ ap (shown printed) (one_made (left - made) (left - (made + 1)) made host call w (more_left left made within more))
      ∙ ap (λ n. shown printed (further_call (further_calls (left - (made + 1)) n host) n host call w)) suc_of

  -- What answered it is what was asked at first, after one call less that is left;
  pub went_on : (answer : Stated) (y : World) → ((make : MakesFurther) → FurtherComes make test call (Ok (further.Answered answer))
      (further_call make (made + 1) host call w) y) → is_for_memory answer.reply ≡ false →
      first ≡ shown (printed || is_macro call) (replied after answer.reply (record y { temps = put_each answer.temps y.temps }))
  went_on answer y comes m = made_once ∙ ap (shown printed) (comes after m) ∙ shown_then printed (is_macro call) _

  -- or it needs a run,
  pub run_there : (e : Box NestedRun) (y : World) → ((make : MakesFurther) → FurtherComes make test call (Ok (further.Run e))
      (further_call make (made + 1) host call w) y) → NeedsRun e.value (tested test first) y
  run_there e y comes =
      subst (λ q. NeedsRun e.value (tested test q) y) (sym made_once) (run_needed printed test e.value once y (comes after))

  -- or it was refused.
  pub ended_there : (chain : List ErrorKind) (y : World) → ((make : MakesFurther) → FurtherComes make test call (Err chain)
      (further_call make (made + 1) host call w) y) → Becomes (Err chain) (tested test first) y
  ended_there chain y comes = λ m.
      ap (tested test) (made_once ∙ ap (shown printed) (comes after m) ∙ shown_refused printed chain y) ∙ tested_refused test chain y

-- a fault that is handed on
pub handed_on : (r : Result CallResult (List ErrorKind)) (chain : List ErrorKind) (asked : Asked) (w : World) →
    IsErr r × IsErrAnd r (λ e. e ≡ chain) → Becomes (Err chain) asked w → Becomes r asked w
handed_on (Ok v) chain asked w same d = absurd (cc same.0)
handed_on (Err e) chain asked w same d = subst (λ z. Becomes (Err z) asked w) (sym same.1) d

-- ---------------------------------------------------------------- macros
-- a macro is called
pub macro_needed : (e : NestedRun) (asked : Asked) (b w : World) → NeedsMacro texts.Captured e asked b w → NeedsRun e asked w
macro_needed e asked b w needs = (
  needs.0,
  needs.1,
  needs.2,
  (b, needs.4, needs.5 ∙ ap (λ t. runs (record (call_of e b) { text = t }) w) (sym needs.3)),
)

-- and by a further call
pub macro_plain : (test : Bool) (e : NestedRun) (asked : Asked) (b w : World) → NeedsMacro (text_for test) e asked b w →
    NeedsPlain test e (as_printed asked) w
macro_plain test e asked b w needs = (needs.0, needs.1, needs.2, needs.3, (b, needs.4, ap as_printed needs.5))

-- what a run that is boxed is, once it is
pub handed : {E : Type 0} (r : Result (Box NestedRun) E) (run : NestedRun) (old new : World) (P : NestedRun → World → Type 0) →
    IfOk r (λ boxed. boxed.value ≡ run) → OnOk r (new ≡ old) → P run old → IfOk r (λ boxed. P boxed.value new)
handed (Ok boxed) run old new P is stays p = subst (λ e. P e new) (sym is) (subst (P run) (sym stays) p)
handed (Err e) run old new P is stays p = tt
