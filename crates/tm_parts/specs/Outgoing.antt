-- A writer and the captures on top of it.
use Rattle.std.specs.Prelude.{◌≡◌, ℕ, List, [], ◌∷◌, take, false}
use Rattle.tm_values.specs.Val.{Val, undefined, text}
use Rattle.tm_values.specs.declared.escape.AutoEscape.{AutoEscape}
use Rattle.tm_meaning.specs.World.{choose, is_escaping}
use Rattle.tm_meaning.specs.Machine.{Capture, put_in}

-- A writer, and the captures open on top of it, innermost first.
pub record Outgoing (W : Type 0) : Type 0 where
  pub writer : W
  pub captures : List Capture

-- The value of the innermost capture at its end: its text, marked safe if there is an escape;
-- undefined if it received nothing, or no capture is open.
abbrev pub ended_value : AutoEscape → List Capture → Val
ended_value escape [] = undefined false
ended_value escape (k ∷ ks) = choose k.heard (λ _. text k.text (is_escaping escape)) (λ _. undefined false)

-- The text was appended to the innermost capture.
abbrev pub IsPut : List Capture → List ℕ → List Capture → Type 0
IsPut old t new = new ≡ put_in old t

-- A beginning of the text was appended to it.
abbrev pub IsPutInPart : List Capture → List ℕ → List Capture → Type 0
IsPutInPart old t new = (n : ℕ) × (new ≡ put_in old (take n t))
