-- What a name is stored in.
use Rattle.std.proofs.Common.{◌≡◌, ◌<◌, ℕ, List, [], ◌∷◌, ◌++◌, length, Some, None, Bool, true, false, refl}
use Rattle.std.proofs.Common.{sym, ap, ◌∙◌, arith}
use Rattle.tm_values.specs.Answer.{OrStays}
use Rattle.tm_values.specs.Val.{Val}
use Rattle.tm_meaning.specs.World.{Bindings, Scope, Scopes, World, closing_over, own_closure, put_at, put_enclosed, put_in, store, stored_in}
use Rattle.tm_meaning.specs.World.{with_frames, with_own}

own_stored : (x : List ℕ) (v : Val) (ss : List Scope) → own_closure (stored_in x v ss) ≡ own_closure ss
own_stored x v [] = refl
own_stored x v (s ∷ ss) = refl

-- a scope with no closure of its own alone has the name
pub plainly : (x : List ℕ) (v : Val) (w : World) → None ≡ own_closure w.scopes.frames →
    record w { scopes = record w.scopes { frames = stored_in x v w.scopes.frames } } ≡ store x v w
plainly x v w none =
    ap (λ o. record (with_frames (stored_in x v w.scopes.frames) w) { closures = put_in o x v w.closures })
    (none ∙ sym (own_stored x v w.scopes.frames))

-- and else its closure has it too
pub enclosed : (x : List ℕ) (v : Val) (n : ℕ) (w : World) → Some n ≡ own_closure w.scopes.frames →
    record w { scopes = record w.scopes { frames = stored_in x v w.scopes.frames }; closures = put_at n x v w.closures } ≡ store x v w
enclosed x v n w some =
    ap (λ o. record (with_frames (stored_in x v w.scopes.frames) w) { closures = put_in o x v w.closures })
    (some ∙ sym (own_stored x v w.scopes.frames))

pub at_once : (done : Bool) (x : List ℕ) (v : Val) (w : World) (scopes : Scopes) → None ≡ own_closure w.scopes.frames →
    OrStays done w.scopes scopes (scopes ≡ record w.scopes { frames = stored_in x v w.scopes.frames }) →
    OrStays done w (record w { scopes = scopes }) (record w { scopes = scopes } ≡ store x v w)
at_once true x v w scopes none is = ap (λ (all : Scopes). record w { scopes = all }) is ∙ plainly x v w none
at_once false x v w scopes none is = ap (λ (all : Scopes). record w { scopes = all }) is

-- ---------------------------------------------------------------- a closure that is made
put_last : (x : List ℕ) (v : Val) (cs : List Bindings) → put_at (length cs) x v (cs ++ [] ∷ []) ≡ cs ++ ((x, v) ∷ []) ∷ []
put_last x v [] = refl
put_last x v (c ∷ cs) = ap (λ l. c ∷ l) (put_last x v cs)

first_of : (x : List ℕ) (v : Val) (w : World) (ss : List Scope) → 0 < length ss →
    put_enclosed x v (closing_over None (with_frames ss w))
    ≡ record w { scopes = record w.scopes { frames = with_own (length w.closures) ss }; closures = w.closures ++ ((x, v) ∷ []) ∷ [] }
first_of x v w [] h = absurd (omega (arith, h))
first_of x v w (s ∷ ss) h =
    ap (λ cs. record w { scopes = record w.scopes { frames = with_own (length w.closures) (s ∷ ss) }; closures = cs }) (put_last x v w.closures)

-- the innermost scope's first name in a closure
pub made : (x : List ℕ) (v : Val) (w : World) → 0 < length w.scopes.frames →
    record w {
      scopes = record w.scopes { frames = with_own (length w.closures) w.scopes.frames };
      closures = w.closures ++ ((x, v) ∷ []) ∷ [];
    } ≡ put_enclosed x v (closing_over None w)
made x v w h = sym (first_of x v w w.scopes.frames h)

none_made : (x : List ℕ) (v : Val) (w : World) (ss : List Scope) → length ss ≡ 0 →
    put_enclosed x v (closing_over None (with_frames ss w)) ≡ with_frames ss w
none_made x v w [] h = refl
none_made x v w (s ∷ ss) h = absurd (omega (arith, h))

-- without a scope there is none
pub not_made : (x : List ℕ) (v : Val) (w : World) → 0 ≡ length w.scopes.frames → w ≡ put_enclosed x v (closing_over None w)
not_made x v w h = sym (none_made x v w w.scopes.frames (sym h))

-- a name that a closure of the scope's own gets
pub put_more : (x : List ℕ) (v : Val) (n : ℕ) (w : World) → Some n ≡ own_closure w.scopes.frames →
    record w { closures = put_at n x v w.closures } ≡ put_enclosed x v (closing_over (Some n) w)
put_more x v n w some = ap (λ o. record w { closures = put_in o x v w.closures }) some
