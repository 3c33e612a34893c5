-- The tokens of a content, as far as they are read.
use Rattle.std.proofs.Common.{◌≡◌, ℕ, List, [], ◌∷◌, ◌++◌, Option, Some, None, sym, ◌∙◌, ap, subst, append_assoc}
use Rattle.tm_values.specs.Val.{Val}
use Rattle.tm_syntax.specs.declared.token.Token.{Token}
use Rattle.tm_syntax.specs.declared.token.Token.TheVariants as tokens
use Rattle.tm_scanner.specs.declared.texts.Quote.{Quote}
use Rattle.tm_delimiters.specs.declared.whitespace.Whitespace.{Whitespace}
use Rattle.tm_delimiters.specs.Whitespace.{past_blanks_to}
use Rattle.tm_scanner.specs.Steps.{Steps}
use Rattle.tm_scanner.specs.Texts.{quote_at, IsLiteral}
use Rattle.tm_scanner.specs.Tokens.{IsToken, IsTokenAfter, depth_after, ContentPlace, past_end, split_at_end, past_blanks_at, Passes, Content}
use Rattle.tm_scanner.proofs.Steps.{OneStep, NoStep, append-nil, same_some, same_result, steps_last, one_end}
use Rattle.tm_scanner.proofs.Literals.{one_literal}

-- a tag's end: the mark there, and what is left after it
abbrev pub End : Type 0
End = Whitespace × List ℕ

-- what a token may be read of, and what is left after that
abbrev pub Parts : Type 0
Parts = List ℕ × List ℕ

-- where a quote stands and no text, there is no token
pub no_literal : (x : Parts) (cs after : List ℕ) (q : Quote) → cs ≡ x.0 ++ x.1 → Some (q, after) ≡ quote_at cs →
    ((v : Val) (rest : List ℕ) → IsLiteral q after v rest → ⊥) → (t : Token) (rest : List ℕ) → IsToken x t rest → ⊥
no_literal x cs after q parts e none t rest h =
    let text : IsTokenAfter (Some (q, after)) x t rest =
    subst (λ (o : Option (Quote × List ℕ)). IsTokenAfter o x t rest) (sym (e ∙ ap quote_at parts)) h in
    none text.0 rest text.1

one_token_after : (q : Option (Quote × List ℕ)) (x : Parts) (t u : Token) (r s : List ℕ) → IsTokenAfter q x t r →
    IsTokenAfter q x u s → (t ≡ u) × (r ≡ s)
one_token_after None x t u r s h k =
    let same = same_result t u h.0 k.0 (sym h.1 ∙ k.1) in
    (same.0, h.2 ∙ ap (λ w. w ++ x.1) same.1 ∙ sym k.2)
one_token_after (Some q) x t u r s h k =
    let same = one_literal q.0 q.1 h.0 k.0 r s h.1 k.1 in
    (h.2 ∙ ap (λ v. tokens.Literal v) same.0 ∙ sym k.2, same.1)

pub one_token : (x : Parts) (t u : Token) (r s : List ℕ) → IsToken x t r → IsToken x u s → (t ≡ u) × (r ≡ s)
one_token x t u r s h k = one_token_after (quote_at (x.0 ++ x.1)) x t u r s h k

same_place : (u v : ContentPlace) → u.rest ≡ v.rest → u.depth ≡ v.depth → u ≡ v
same_place u v e f = ap (λ (r : List ℕ). record { rest = r; depth = u.depth }) e ∙ ap (λ (d : ℕ). record { rest = v.rest; depth = d }) f

one_pass : (end : List ℕ) → OneStep (Passes end)
one_pass end = λ s t w u v h k.
    let same = one_token (split_at_end end s.depth s.rest) t w h.next k.next h.token k.token in
    let depth : u.depth ≡ v.depth = same_some u.depth v.depth (sym h.depth ∙ ap (λ x. depth_after x s.depth) same.0 ∙ k.depth) in
    (same.0, same_place u v (h.rest ∙ ap (past_blanks_at end u.depth) same.1 ∙ ap (λ d. past_blanks_at end d k.next) depth ∙ sym k.rest) depth)

no_pass : (end : List ℕ) (s : ContentPlace) (x : End) → past_end end s.rest s.depth ≡ Some x → NoStep (Passes end) s
no_pass end s x e = λ t u h. cc (sym e ∙ h.goes_on)

-- The tokens that were added lead from the start of the content to this place.
pub record ContentSoFar (end cs : List ℕ) (old new : List Token) (rest : List ℕ) (depth : ℕ) : Type 0 where
  pub added : List Token
  pub steps : Steps (Passes end) (record { rest = past_blanks_to end cs; depth = 0 }) added (record { rest = rest; depth = depth })
  pub items : new ≡ old ++ added

pub begins : (end cs : List ℕ) (old : List Token) (rest : List ℕ) → rest ≡ past_blanks_to end cs → ContentSoFar end cs old old rest 0
begins end cs old rest e = record {
  added = [];
  steps = ap (λ (r : List ℕ). record { rest = r; depth = 0 }) (sym e);
  items = sym (append-nil old);
}

pub goes_on : (end cs : List ℕ) (old new more : List Token) (rest next blank : List ℕ) (depth deeper : ℕ) (t : Token) →
    ContentSoFar end cs old new rest depth → past_end end rest depth ≡ None → IsToken (split_at_end end depth rest) t next →
    depth_after t depth ≡ Some deeper → blank ≡ past_blanks_at end deeper next → more ≡ new ++ t ∷ [] → ContentSoFar end cs old more blank deeper
goes_on end cs old new more rest next blank depth deeper t here unended token deep blanks grown = record {
  added = here.added ++ t ∷ [];
  steps = steps_last (Passes end) (record { rest = past_blanks_to end cs; depth = 0 }) here.added (record { rest = rest; depth = depth }) t
      (record { rest = blank; depth = deeper }) here.steps
      (record { goes_on = unended; next = next; token = token; depth = deep; rest = blanks });
  items = grown ∙ ap (λ w. w ++ t ∷ []) here.items ∙ append_assoc old here.added (t ∷ []);
}

pub ends : (end cs : List ℕ) (old new : List Token) (rest : List ℕ) (depth : ℕ) (x : End) → ContentSoFar end cs old new rest depth →
    past_end end rest depth ≡ Some x → (ts : List Token) × Content end cs ts x × (new ≡ old ++ ts)
ends end cs old new rest depth x here e = (here.added, (record { rest = rest; depth = depth }, here.steps, e), here.items)

-- where the content neither ends nor goes on, there is none
pub no_content : (end cs : List ℕ) (old new : List Token) (rest : List ℕ) (depth : ℕ) → ContentSoFar end cs old new rest depth →
    past_end end rest depth ≡ None → NoStep (Passes end) (record { rest = rest; depth = depth }) → (ts : List Token) (x : End) →
    Content end cs ts x → ⊥
no_content end cs old new rest depth here unended stuck ts x h =
    let start : ContentPlace = record { rest = past_blanks_to end cs; depth = 0 } in
    let same = one_end (Passes end) start here.added (record { rest = rest; depth = depth }) ts h.0 (one_pass end) here.steps stuck h.1
    (no_pass end h.0 x h.2) in
    cc (sym unended ∙ ap (λ (p : ContentPlace). past_end end p.rest p.depth) same.1 ∙ h.2)

pub no_token : (x : Parts) (end rest : List ℕ) (depth : ℕ) → x ≡ split_at_end end depth rest →
    ((t : Token) (next : List ℕ) → IsToken x t next → ⊥) → NoStep (Passes end) (record { rest = rest; depth = depth })
no_token x end rest depth e none = λ t u h. none t h.next (subst (λ (y : Parts). IsToken y t h.next) (sym e) h.token)

-- the same token of what the parts are
pub token_of : (x y : Parts) (t : Token) (next : List ℕ) → x ≡ y → IsToken x t next → IsToken y t next
token_of x y t next e h = subst (λ (z : Parts). IsToken z t next) e h

pub too_deep : (end rest next : List ℕ) (depth : ℕ) (t : Token) → IsToken (split_at_end end depth rest) t next → depth_after t depth ≡ None →
    NoStep (Passes end) (record { rest = rest; depth = depth })
too_deep end rest next depth t token deep = λ w u h.
    let same = one_token (split_at_end end depth rest) t w next h.next token h.token in
    cc (sym deep ∙ ap (λ x. depth_after x depth) same.0 ∙ h.depth)

pub one_content : (end cs : List ℕ) (ts us : List Token) (r s : End) → Content end cs ts r → Content end cs us s → (ts ≡ us) × (r ≡ s)
one_content end cs ts us r s h k =
    let start : ContentPlace = record { rest = past_blanks_to end cs; depth = 0 } in
    let same = one_end (Passes end) start ts h.0 us k.0 (one_pass end) h.1 (no_pass end h.0 r h.2) k.1 (no_pass end k.0 s k.2) in
    (same.0, same_some r s (sym h.2 ∙ ap (λ (p : ContentPlace). past_end end p.rest p.depth) same.1 ∙ k.2))
