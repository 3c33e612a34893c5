-- What all chains have that arise.
use Rattle.std.proofs.lemmas.Bool.{and_parts, and_from}
use Rattle.std.proofs.Common.{inl, inr, ap, ◌≡◌, ℕ, zero, suc, List, [], ◌∷◌, Some, Bool, true, false, ◌++◌, refl, subst}
use Rattle.std.specs.List.{All}
use Rattle.std.proofs.lemmas.List.Elements.{All-head, All-tail, All-cons, All-nil}
use Rattle.std.specs.Prelude.{slice_get}
use Rattle.tm_values.specs.Val.{Val}
use Rattle.tm_values.specs.declared.error.ErrorKind.{ErrorKind}
use Rattle.tm_meaning.specs.Tree.{Trees}
use Rattle.tm_meaning.specs.World.{World, HostValue, Function, Object, Fallback, callers, Named, find}
use Rattle.tm_meaning.specs.Calls.{method_object}
use Rattle.tm_syntax.specs.Named.{name_cmp}
use Rattle.std.specs.BTreeMap.{is_at}
use Rattle.std.specs.Prelude.{cond, Option, None}
use Rattle.tm_meaning.specs.Runs.{rendered, chain_of}
use Rattle.tm_simulation.specs.Chains.{wrapped, is_raised, Arises, raised, by_object, AnswersOnly, by_formatter, by_join, RepliesOnly, IfAny}
use Rattle.tm_simulation.specs.Chains.{IsObject, is_function, is_filter, is_test, is_method, ObjectStates, NamedStates}
use Rattle.tm_simulation.specs.Chains.{HasRaised, FunctionStates, FallbackStates, FormatterStates, StatesOnly, ends_in_memory}
use Rattle.tm_simulation.specs.Chains.{StatesNoMemory, MayWrap}
use Rattle.tm_simulation.specs.Chains.{is_foreign}
use Rattle.tm_simulation.specs.Chains.{HasNoForeign}
use Rattle.tm_simulation.proofs.Keeps.{render_arises}
use Rattle.tm_meaning.specs.Memory.{is_wrapping, is_want_of_memory}
use Rattle.tm_values.specs.Chain.{is_memory}
use Rattle.tm_values.specs.declared.error.ErrorKind.TheVariants as kinds

-- what a function that is there states
states_at : (Has : List ErrorKind → Type 0) (fs : List Function) → All (FunctionStates Has) fs → (n : ℕ) (f : Object) →
    slice_get fs n ≡ Some (callers f) → FunctionStates Has (callers f)
states_at Has [] h n f e = absurd (cc e)
states_at Has (g ∷ fs) h zero f e =
    let same : g ≡ callers f = cc e in
    subst (FunctionStates Has) same (All-head (FunctionStates Has) g fs h)
states_at Has (g ∷ fs) h (suc n) f e = states_at Has fs (All-tail (FunctionStates Has) g fs h) n f e

-- what the object of a name states
named_by : (Has : List ErrorKind → Type 0) (b : Bool) (g f : Object) (rest : Option Object) → cond b (Some g) rest ≡ Some f →
    ObjectStates Has g → (rest ≡ Some f → ObjectStates Has f) → ObjectStates Has f
named_by Has true g f rest e h k = let same : g ≡ f = cc e in subst (ObjectStates Has) same h
named_by Has false g f rest e h k = k e

named_states : (Has : List ErrorKind → Type 0) (fs : Named Object) → All (NamedStates Has) fs → (x : List ℕ) (f : Object) →
    find x fs ≡ Some f → ObjectStates Has f
named_states Has [] h x f e = absurd (cc e)
named_states Has (p ∷ ps) h x f e =
    named_by Has (is_at (name_cmp x) p.0) p.1 f (find x ps) e (All-head (NamedStates Has) p ps h)
    (named_states Has ps (All-tail (NamedStates Has) p ps h) x f)

-- what the method object states
method_states : (Has : List ErrorKind → Type 0) (found : Option Fallback) → FallbackStates Has found → (v : Val) (x : List ℕ) (f : Object) →
    method_object found v x ≡ Some f → ObjectStates Has f
method_states Has None h v x f e = absurd (cc e)
method_states Has (Some g) h v x f e = let same : g v x ≡ f = cc e in subst (ObjectStates Has) same (h v x)

module _ (Has : List ErrorKind → Type 0) (host : HostValue) (has : HasRaised Has) (states : StatesOnly Has host) where
  object_states : (f : Object) → IsObject host f → ObjectStates Has f
  object_states f (is_function n e) = states_at Has host.functions states.functions n f e
  object_states f (is_filter x e) = named_states Has host.filters states.filters x f e
  object_states f (is_test x e) = named_states Has host.tests states.tests x f e
  object_states f (is_method v x e) = method_states Has host.unknown_method states.unknown_method v x f e

  -- What arises has the property.
  arisen_has : {chain : List ErrorKind} → Arises host chain → Has chain
  arisen_has (raised {kind = k} e) = has.raised k e
  arisen_has (wrapped {kind = k} {chain = c} e h) = has.wrapped k c e (arisen_has h)
  arisen_has (by_object f args view e s) = subst (RepliesOnly Has) s (object_states f e args view)
  arisen_has (by_formatter f v view e s) =
      subst (AnswersOnly Has) s (subst (FormatterStates Has) e states.formatter v view)
  arisen_has (by_join name parent s) = subst (AnswersOnly Has) s (states.join name parent)

  any_has : (chain : List ErrorKind) → IfAny (Arises host) chain → IfAny Has chain
  any_has [] h = tt
  any_has (k ∷ ks) h = arisen_has h

  pub render_has : (trees : Trees) (w : World) → IfAny Has (chain_of (rendered host trees w))
  render_has trees w = any_has (chain_of (rendered host trees w)) (render_arises host trees w)

-- ---------------------------------------------------------------- properties of bits
pub render_is : (has : List ErrorKind → Bool) (host : HostValue) (trees : Trees) (w : World) → HasRaised (λ chain. has chain ≡ true) →
    StatesOnly (λ chain. has chain ≡ true) host → IfAny (λ chain. has chain ≡ true) (chain_of (rendered host trees w))
render_is has host trees w raises states = render_has (λ chain. has chain ≡ true) host raises states trees w

-- ---------------------------------------------------------------- out of memory
raised_no_memory : (kind : ErrorKind) → is_raised kind ≡ true → is_memory kind ≡ false
raised_no_memory kinds.OutOfMemory e = absurd (cc e)
raised_no_memory _ e = refl

wrapping_no_memory : (kind : ErrorKind) → is_wrapping kind ≡ true → is_memory kind ≡ false
wrapping_no_memory kinds.OutOfMemory e = absurd (cc e)
wrapping_no_memory _ e = refl

-- a kind before a chain leaves its end
kind_before : (kind : ErrorKind) → is_memory kind ≡ false → (chain : List ErrorKind) → ends_in_memory chain ≡ false →
    ends_in_memory (kind ∷ chain) ≡ false
kind_before kind e [] h = e
kind_before kind e (k ∷ ks) h = h

no_memory_raised : HasRaised (λ chain. ends_in_memory chain ≡ false)
no_memory_raised = record {
  raised = raised_no_memory;
  wrapped = λ kind chain e h. kind_before kind (wrapping_no_memory kind e) chain h;
}

of_any_memory : (chain : List ErrorKind) → IfAny (λ c. ends_in_memory c ≡ false) chain → ends_in_memory chain ≡ false
of_any_memory [] h = refl
of_any_memory (k ∷ ks) h = h

pub render_no_memory : (host : HostValue) (trees : Trees) (w : World) → StatesNoMemory host →
    ends_in_memory (chain_of (rendered host trees w)) ≡ false
render_no_memory host trees w states = of_any_memory _ (render_has _ host no_memory_raised states trees w)

-- The last kind is what counts.
pub memory_ends : (ks : List ErrorKind) → ends_in_memory (ks ++ kinds.OutOfMemory ∷ []) ≡ true
memory_ends [] = refl
memory_ends (k ∷ []) = refl
memory_ends (k ∷ l ∷ ks) = memory_ends (l ∷ ks)

other_kind : (kind : ErrorKind) → (kind ≡ kinds.OutOfMemory → ⊥) → is_memory kind ≡ false
other_kind kinds.OutOfMemory h = absurd (h refl)
other_kind _ h = refl

pub other_ends : (ks : List ErrorKind) (kind : ErrorKind) → (kind ≡ kinds.OutOfMemory → ⊥) → ends_in_memory (ks ++ kind ∷ []) ≡ false
other_ends [] kind h = other_kind kind h
other_ends (k ∷ []) kind h = other_kind kind h
other_ends (k ∷ l ∷ ks) kind h = other_ends (l ∷ ks) kind h

wrapping_may : (kind : ErrorKind) → is_wrapping kind ≡ true → MayWrap kind
wrapping_may kinds.EvalBlock e = inl refl
wrapping_may kinds.BadInclude e = inr (inl refl)
wrapping_may kinds.InvalidOperation e = inr (inr refl)
wrapping_may _ e = absurd (cc e)

may_wrap : (kind : ErrorKind) → MayWrap kind → is_wrapping kind ≡ true
may_wrap kind (inl e) = ap is_wrapping e
may_wrap kind (inr (inl e)) = ap is_wrapping e
may_wrap kind (inr (inr e)) = ap is_wrapping e

-- Running out of memory is OutOfMemory after the kinds that wrap, and no other chain is.
pub want_wrapped : (ks : List ErrorKind) → All MayWrap ks → is_want_of_memory (ks ++ kinds.OutOfMemory ∷ []) ≡ true
want_wrapped [] h = refl
want_wrapped (k ∷ []) h = and_from (is_wrapping k) _ (may_wrap k (All-head MayWrap k [] h)) refl
want_wrapped (k ∷ l ∷ ks) h =
    and_from (is_wrapping k) _ (may_wrap k (All-head MayWrap k (l ∷ ks) h)) (want_wrapped (l ∷ ks) (All-tail MayWrap k (l ∷ ks) h))

pub want_only : (ks : List ErrorKind) → is_want_of_memory (ks ++ kinds.OutOfMemory ∷ []) ≡ true → All MayWrap ks
want_only [] e = All-nil MayWrap
want_only (k ∷ []) e = All-cons MayWrap k [] (wrapping_may k ((and_parts (is_wrapping k) _ e).0)) (All-nil MayWrap)
want_only (k ∷ l ∷ ks) e =
    All-cons MayWrap k (l ∷ ks) (wrapping_may k ((and_parts (is_wrapping k) _ e).0))
    (want_only (l ∷ ks) ((and_parts (is_wrapping k) _ e).1))

pub want_ends : (chain : List ErrorKind) → is_want_of_memory chain ≡ true → ends_in_memory chain ≡ true
want_ends [] e = absurd (cc e)
want_ends (k ∷ []) e = e
want_ends (k ∷ l ∷ ks) e = want_ends (l ∷ ks) ((and_parts (is_wrapping k) _ e).1)

-- ---------------------------------------------------------------- kinds of other things
raised_not_foreign : (kind : ErrorKind) → is_raised kind ≡ true → is_foreign kind ≡ false
raised_not_foreign kinds.SyntaxError e = absurd (cc e)
raised_not_foreign kinds.InvalidDelimiter e = absurd (cc e)
raised_not_foreign kinds.WriteFailure e = absurd (cc e)
raised_not_foreign kinds.BadStream e = absurd (cc e)
raised_not_foreign _ e = refl

wrapping_not_foreign : (kind : ErrorKind) → is_wrapping kind ≡ true → is_foreign kind ≡ false
wrapping_not_foreign kinds.SyntaxError e = absurd (cc e)
wrapping_not_foreign kinds.InvalidDelimiter e = absurd (cc e)
wrapping_not_foreign kinds.WriteFailure e = absurd (cc e)
wrapping_not_foreign kinds.BadStream e = absurd (cc e)
wrapping_not_foreign _ e = refl

no_foreign_raised : HasRaised HasNoForeign
no_foreign_raised = record {
  raised = λ kind e. All-cons (λ k. is_foreign k ≡ false) kind [] (raised_not_foreign kind e) (All-nil (λ k. is_foreign k ≡ false));
  wrapped = λ kind chain e h. All-cons (λ k. is_foreign k ≡ false) kind chain (wrapping_not_foreign kind e) h;
}

of_any_foreign : (chain : List ErrorKind) → IfAny HasNoForeign chain → HasNoForeign chain
of_any_foreign [] h = All-nil (λ k. is_foreign k ≡ false)
of_any_foreign (k ∷ ks) h = h

pub render_no_foreign : (host : HostValue) (trees : Trees) (w : World) → StatesOnly HasNoForeign host →
    HasNoForeign (chain_of (rendered host trees w))
render_no_foreign host trees w states = of_any_foreign _ (render_has HasNoForeign host no_foreign_raised states trees w)
