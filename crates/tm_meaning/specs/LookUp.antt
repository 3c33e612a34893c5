-- The value of a name, by the order of the look-up.
use Rattle.std.specs.Prelude.{◌≡◌, ℕ, List, [], ◌∷◌, Some, None, Ok, Err, true, false, codes, slice_get, Option}
use Rattle.tm_values.specs.Answer.{Answer}
use Rattle.tm_values.specs.Val.{Val, loop}
use Rattle.tm_values.specs.declared.error.ErrorKind.{ErrorKind}
use Rattle.tm_meaning.specs.declared.mark.LoopMark.{LoopMark}
use Rattle.tm_meaning.specs.World.{Bindings, View, Scope, find, same_name, context_member}

-- The name is `loop`, and the scope is that of the loop with this number, which binds `loop`.
abbrev pub IsItsLoop : List ℕ → Scope → ℕ → Type 0
IsItsLoop x s n = (s.mark ≡ Some (record { number = n; variable = true })) × (same_name x (codes "loop") ≡ true)

abbrev pub IsNoLoop : List ℕ → Scope → Type 0
IsNoLoop x s = (m : LoopMark) → s.mark ≡ Some m → m.variable ≡ true → same_name x (codes "loop") ≡ false

-- The name is bound in the closure that the scope reads.
abbrev pub IsEnclosed : View → List ℕ → Scope → Val → Type 0
IsEnclosed view x s v = (n : ℕ) × (c : Bindings) × (s.reads ≡ Some n) × (slice_get view.closures n ≡ Some c) × (find x c ≡ Some v)

abbrev pub IsNotEnclosed : View → List ℕ → Scope → Type 0
IsNotEnclosed view x s = (n : ℕ) (c : Bindings) → s.reads ≡ Some n → slice_get view.closures n ≡ Some c → find x c ≡ None

-- the scope itself doesn't bind the name
pub record HasNone (view : View) (x : List ℕ) (s : Scope) : Type 0 where
  pub locals : find x s.locals ≡ None
  pub no_loop : IsNoLoop x s
  pub not_enclosed : IsNotEnclosed view x s

-- Scopes are searched from the innermost outward. In each, the locals come first, then the loop,
-- the closure and the context value; a refusal by the context value is the result. The globals come
-- last.
pub data Finds (view : View) (x : List ℕ) : List Scope → Answer (Option Val) → Type 0 where
  in_locals : {s : Scope} {ss : List Scope} {v : Val} → find x s.locals ≡ Some v → Finds view x (s ∷ ss) (Ok (Some v))
  as_loop : {s : Scope} {ss : List Scope} {n : ℕ} → find x s.locals ≡ None → IsItsLoop x s n →
      Finds view x (s ∷ ss) (Ok (Some (loop view.records.state n)))
  in_closure : {s : Scope} {ss : List Scope} {v : Val} → find x s.locals ≡ None → IsNoLoop x s → IsEnclosed view x s v →
      Finds view x (s ∷ ss) (Ok (Some v))
  in_context : {s : Scope} {ss : List Scope} {v : Val} → HasNone view x s → context_member view.records x s.context ≡ Ok (Some v) →
      Finds view x (s ∷ ss) (Ok (Some v))
  refused : {s : Scope} {ss : List Scope} {chain : List ErrorKind} → HasNone view x s →
      context_member view.records x s.context ≡ Err chain → Finds view x (s ∷ ss) (Err chain)
  outward : {s : Scope} {ss : List Scope} {a : Answer (Option Val)} → HasNone view x s → context_member view.records x s.context ≡ Ok None →
      Finds view x ss a → Finds view x (s ∷ ss) a
  in_globals : Finds view x [] (Ok (find x view.globals))
