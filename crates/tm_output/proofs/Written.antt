-- A text that a target takes piece by piece.
use Rattle.std.proofs.Common.{◌≡◌, ℕ, List, [], ◌++◌, Result, Ok, Err, IsErr, subst}
use Rattle.tm_output.specs.Targets.{Laws, Takes}

-- what is left to write: where the target took it now, it took the whole text from the start on, and where it stopped within it,
-- within the whole text
pub record Ahead {T : Type 0} (took stopped : T → List ℕ → T → Type 0) (start : T) (whole : List ℕ) (now : T) (rest : List ℕ) : Type 0 where
  pub taken : (end : T) → took now rest end → took start whole end
  pub failed : (end : T) → stopped now rest end → stopped start whole end

module _ {T : Type 0} {took stopped : T → List ℕ → T → Type 0} where
  -- at the start all is left
  pub all_ahead : {a : T} {whole : List ℕ} → Ahead took stopped a whole a whole
  all_ahead = record { taken = λ end h. h; failed = λ end h. h }

  -- the same rest in another form
  pub rest_is : {a b : T} {whole rest left : List ℕ} → rest ≡ left → Ahead took stopped a whole b rest → Ahead took stopped a whole b left
  rest_is {a} {b} {whole} same ahead = subst (λ (l : List ℕ). Ahead took stopped a whole b l) same ahead

  -- the next piece is taken
  pub past : {a b c : T} {whole piece rest : List ℕ} → Laws took stopped → Ahead took stopped a whole b (piece ++ rest) → took b piece c →
      Ahead took stopped a whole c rest
  past {a} {b} {c} {whole} {piece} {rest} laws ahead taken = record {
    taken = λ end h. ahead.taken end (laws.then_took b c end piece rest taken h);
    failed = λ end h. ahead.failed end (laws.then_stopped b c end piece rest taken h);
  }

  -- the target stops within the next piece
  pub stops : {a b c : T} {whole piece : List ℕ} (rest : List ℕ) → Laws took stopped → Ahead took stopped a whole b (piece ++ rest) →
      stopped b piece c → stopped a whole c
  stops {a} {b} {c} {whole} {piece} rest laws ahead part = ahead.failed c (laws.longer b c piece rest part)

  -- nothing is left
  pub ended : {a b : T} {whole : List ℕ} → Laws took stopped → Ahead took stopped a whole b [] → took a whole b
  ended {a} {b} {whole} laws ahead = ahead.taken b (laws.nothing b)

  -- an exit where a piece failed
  pub failed : {U E : Type 0} {a b c : T} {whole piece : List ℕ} (r : Result U E) (rest : List ℕ) → Laws took stopped → IsErr r →
      Ahead took stopped a whole b (piece ++ rest) → stopped b piece c → Takes took stopped r a whole c
  failed (Ok u) rest laws is ahead part = absurd (cc is)
  failed (Err e) rest laws is ahead part = stops rest laws ahead part

  -- the call that takes all that is left answers for the whole
  pub last : {U E : Type 0} {a b : T} {whole rest : List ℕ} (r : Result U E) (c : T) → Ahead took stopped a whole b rest →
      Takes took stopped r b rest c → Takes took stopped r a whole c
  last (Ok u) c ahead taken = ahead.taken c taken
  last (Err e) c ahead part = ahead.failed c part

  -- a text between an opening and a closing one: an exit at the opening, one within, and the answer at the closing
  pub at_opening : {U E : Type 0} {a b : T} (r : Result U E) (opening rest : List ℕ) → Laws took stopped → IsErr r → stopped a opening b →
      Takes took stopped r a (opening ++ rest) b
  at_opening r opening rest laws is part = failed r rest laws is all_ahead part

  pub within : {U E : Type 0} {a b c : T} (r : Result U E) (opening body closing : List ℕ) → Laws took stopped → IsErr r →
      took a opening b → stopped b body c → Takes took stopped r a (opening ++ (body ++ closing)) c
  within {a = a} {b = b} r opening body closing laws is opened part =
      let ahead : Ahead took stopped a (opening ++ (body ++ closing)) b (body ++ closing) = past laws all_ahead opened in
      failed r closing laws is ahead part

  pub closed : {U E : Type 0} {a b c : T} (r : Result U E) (d : T) (opening body closing : List ℕ) → Laws took stopped → took a opening b →
      took b body c → Takes took stopped r c closing d → Takes took stopped r a (opening ++ (body ++ closing)) d
  closed {a = a} {b = b} {c = c} r d opening body closing laws opened written answer =
      let ahead : Ahead took stopped a (opening ++ (body ++ closing)) b (body ++ closing) = past laws all_ahead opened in
      last r d (past laws ahead written) answer

  -- two pieces are taken, and the rest is left
  pub past_two : {a b c : T} {first second : List ℕ} (rest : List ℕ) → Laws took stopped → took a first b → took b second c →
      Ahead took stopped a (first ++ (second ++ rest)) c rest
  past_two {a} {b} {c} {first} {second} rest laws taken then =
      let ahead : Ahead took stopped a (first ++ (second ++ rest)) b (second ++ rest) = past laws all_ahead taken in
      past laws ahead then
