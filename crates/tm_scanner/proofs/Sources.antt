-- The pieces of a source, as far as they are read.
use Rattle.std.proofs.Common.{◌≡◌, ℕ, List, [], ◌∷◌, ◌++◌, Option, Some, None, refl, sym, ◌∙◌, ap, subst, append_assoc}
use Rattle.std.specs.Prelude.{codes}
use Rattle.tm_syntax.specs.declared.token.Token.{Token}
use Rattle.tm_syntax.specs.declared.token.Token.TheVariants as tokens
use Rattle.tm_syntax.specs.declared.token.Sign.TheVariants as sign
use Rattle.tm_syntax.specs.declared.token.Tag.{Tag}
use Rattle.tm_delimiters.specs.declared.syntax.Kind.{Kind}
use Rattle.tm_delimiters.specs.declared.syntax.Kind.TheVariants as kind
use Rattle.tm_delimiters.specs.declared.trimming.Side.{Side}
use Rattle.tm_delimiters.specs.Front.{first_of}
use Rattle.tm_scanner.specs.Steps.{Steps, joined}
use Rattle.tm_delimiters.specs.Syntax.{Syntax}
use Rattle.tm_scanner.specs.Tokens.{Content}
use Rattle.tm_delimiters.specs.Trimming.{trimmed}
use Rattle.tm_delimiters.specs.Starts.{tag_start}
use Rattle.tm_delimiters.specs.Whitespace.{to_end}
use Rattle.tm_scanner.specs.Pieces.{raw, past_word, tag_word, IsBlockTag, IsBlockAfter, IsBlock, IsEmission, IsTag, SourcePlace, IsPiece}
use Rattle.tm_scanner.specs.Spells.{read_of, SpellsTokens}
use Rattle.tm_scanner.proofs.Steps.{OneStep, NoStep, joined_last, same_some, same_result, steps_last, one_end}
use Rattle.tm_scanner.proofs.Contents.{End, one_content}

-- where no content stands after the word, there is no block tag
pub no_block : (by cs left rest : List ℕ) (t : Tag) → Some (t, left) ≡ tag_word (to_end by cs).0 → rest ≡ left ++ (to_end by cs).1 →
    ((ts : List Token) (e : End) → Content by rest ts e → ⊥) → (ts : List Token) (e : End) → IsBlockTag by cs ts e → ⊥
no_block by cs left rest t e same none ts end h =
    let word : h.0 ≡ (t, left) = same_some h.0 (t, left) (sym (e ∙ h.1)) in
    none h.2 end (subst (λ (w : List ℕ). Content by w h.2 end)
    (ap (λ (w : Tag × List ℕ). w.1 ++ (to_end by cs).1) word ∙ sym same) h.3)

pub a_block : (by cs left rest : List ℕ) (t : Tag) (inside old some more all : List Token) (e : End) →
    Some (t, left) ≡ tag_word (to_end by cs).0 → rest ≡ left ++ (to_end by cs).1 → Content by rest inside e →
    some ≡ old ++ tokens.Tag t ∷ [] → more ≡ some ++ inside → all ≡ more ++ tokens.Sign sign.BlockEnd ∷ [] →
    (ts : List Token) × IsBlockTag by cs ts e × (all ≡ old ++ ts)
a_block by cs left rest t inside old some more all e word same content begun added ended =
    let last : List Token = tokens.Sign sign.BlockEnd ∷ [] in (
      tokens.Tag t ∷ (inside ++ last),
      ((t, left), sym word, inside, subst (λ (w : List ℕ). Content by w inside e) same content, refl),
      ended ∙ ap (λ w. w ++ last) (added ∙ ap (λ w. w ++ inside) begun) ∙ append_assoc (old ++ tokens.Tag t ∷ []) inside last
          ∙ append_assoc old (tokens.Tag t ∷ []) (inside ++ last),
    )

-- where no block stands after what the word `raw` leaves, there is none
pub no_block_after : (s : Syntax) (cs : List ℕ) (o : Option (List ℕ)) → o ≡ past_word s.block_end (codes "raw") cs →
    ((ts : List Token) (e : End) → IsBlockAfter s o cs ts e → ⊥) → (ts : List Token) (e : End) → IsBlock s cs ts e → ⊥
no_block_after s cs o same none ts e h = none ts e (subst (λ (w : Option (List ℕ)). IsBlockAfter s w cs ts e) (sym same) h)

one_emission : (by cs : List ℕ) (ts us : List Token) (r t : End) → IsEmission by cs ts r → IsEmission by cs us t → (ts ≡ us) × (r ≡ t)
one_emission by cs ts us r t h k =
    let same = one_content by cs h.0 k.0 r t h.1 k.1 in
    (h.2 ∙ ap (λ (w : List Token). tokens.Sign sign.VariableStart ∷ (w ++ tokens.Sign sign.VariableEnd ∷ [])) same.0 ∙ sym k.2, same.1)

one_block_tag : (by cs : List ℕ) (ts us : List Token) (r t : End) → IsBlockTag by cs ts r → IsBlockTag by cs us t → (ts ≡ us) × (r ≡ t)
one_block_tag by cs ts us r t h k =
    let word : k.0 ≡ h.0 = same_some k.0 h.0 (sym k.1 ∙ h.1) in
    let same = one_content by (h.0.1 ++ (to_end by cs).1) h.2 k.2 r t h.3
    (subst (λ (w : Tag × List ℕ). Content by (w.1 ++ (to_end by cs).1) k.2 t) word k.3) in (
      h.4 ∙ ap (λ (w : List Token). tokens.Tag h.0.0 ∷ (w ++ tokens.Sign sign.BlockEnd ∷ [])) same.0
          ∙ ap (λ (w : Tag × List ℕ). tokens.Tag w.0 ∷ (k.2 ++ tokens.Sign sign.BlockEnd ∷ [])) (sym word) ∙ sym k.4,
      same.1,
    )

one_block_after : (s : Syntax) (o : Option (List ℕ)) (cs : List ℕ) (ts us : List Token) (r t : End) → IsBlockAfter s o cs ts r →
    IsBlockAfter s o cs us t → (ts ≡ us) × (r ≡ t)
one_block_after s None cs ts us r t h k = one_block_tag s.block_end cs ts us r t h k
one_block_after s (Some rest) cs ts us r t h k =
    let same = same_result h.0 k.0 r t (sym h.1 ∙ k.1) in
    (h.2 ∙ ap raw same.0 ∙ sym k.2, same.1)

one_tag : (s : Syntax) (x : Kind) (cs : List ℕ) (ts us : List Token) (r t : End) → IsTag s x cs ts r → IsTag s x cs us t →
    (ts ≡ us) × (r ≡ t)
one_tag s kind.Block cs ts us r t h k = one_block_after s (past_word s.block_end (codes "raw") cs) cs ts us r t h k
one_tag s kind.Variable cs ts us r t h k = one_emission s.variable_end cs ts us r t h k
one_tag s kind.Comment cs ts us r t h k = (h.0 ∙ sym k.0, same_some r t (sym h.1 ∙ k.1))

-- what stands at the next tag: the text before it, its start, and what is left after that
abbrev pub TagAhead : Type 0
TagAhead = List ℕ × (Side × List ℕ)

-- the place after a tag
abbrev pub after_tag : Side → End → SourcePlace
after_tag start e = record { before = Some (record { kind = start.kind; whitespace = e.0 }); rest = e.1 }

one_piece : (s : Syntax) → OneStep (IsPiece s)
one_piece s = λ p ts us q r h k.
    let x : TagAhead = (h.text, (h.start, h.after)) in
    let y : TagAhead = (k.text, (k.start, k.after)) in
    let next : y ≡ x = same_some y x (sym k.next ∙ h.next) in
    let same = one_tag s h.start.kind h.after h.inside k.inside h.end k.end h.tag
    (subst (λ (w : TagAhead). IsTag s w.1.0.kind w.1.1 k.inside k.end) next k.tag) in (
      h.tokens ∙ ap (λ (w : List Token). raw (trimmed s p.before (Some h.start) h.text) ++ w) same.0
          ∙ ap (λ (w : TagAhead). raw (trimmed s p.before (Some w.1.0) w.0) ++ k.inside) (sym next) ∙ sym k.tokens,
      h.place ∙ ap (λ (w : End). after_tag h.start w) same.1 ∙ ap (λ (w : TagAhead). after_tag w.1.0 k.end) (sym next) ∙ sym k.place,
    )

no_next : (s : Syntax) (p : SourcePlace) → first_of (tag_start s) p.rest ≡ None → NoStep (IsPiece s) p
no_next s p e = λ ts q h. cc (sym e ∙ h.next)

-- where a tag starts that is none, there is no piece
no_tag : (s : Syntax) (p : SourcePlace) (x : TagAhead) → first_of (tag_start s) p.rest ≡ Some x →
    ((ts : List Token) (e : End) → IsTag s x.1.0.kind x.1.1 ts e → ⊥) → NoStep (IsPiece s) p
no_tag s p x e none = λ ts q h.
    let y : TagAhead = (h.text, (h.start, h.after)) in
    let next : y ≡ x = same_some y x (sym h.next ∙ e) in
    none h.inside h.end (subst (λ (w : TagAhead). IsTag s w.1.0.kind w.1.1 h.inside h.end) next h.tag)

abbrev start_of : List ℕ → SourcePlace
start_of cs = record { before = None; rest = cs }

-- The tokens are those of the pieces from the start of the source to this place.
pub record SourceSoFar (s : Syntax) (cs : List ℕ) (found : List Token) (before : Option Side) (rest : List ℕ) : Type 0 where
  pub pieces : List (List Token)
  pub steps : Steps (IsPiece s) (record { before = None; rest = cs }) pieces (record { before = before; rest = rest })
  pub items : found ≡ joined pieces

pub begins : (s : Syntax) (cs : List ℕ) (found : List Token) (rest : List ℕ) → found ≡ [] → rest ≡ cs → SourceSoFar s cs found None rest
begins s cs found rest e f = record { pieces = []; steps = ap start_of (sym f); items = e }

pub goes_on : (s : Syntax) (cs : List ℕ) (old mid new : List Token) (before : Option Side) (rest : List ℕ) (x : TagAhead) (inside : List Token)
    (e : End) → SourceSoFar s cs old before rest → first_of (tag_start s) rest ≡ Some x →
    mid ≡ old ++ raw (trimmed s before (Some x.1.0) x.0) → IsTag s x.1.0.kind x.1.1 inside e → new ≡ mid ++ inside →
    SourceSoFar s cs new (Some (record { kind = x.1.0.kind; whitespace = e.0 })) e.1
goes_on s cs old mid new before rest x inside e here next texts tag grown =
    let text = raw (trimmed s before (Some x.1.0) x.0) in
    record {
      pieces = here.pieces ++ (text ++ inside) ∷ [];
      steps = steps_last (IsPiece s) (start_of cs) here.pieces (record { before = before; rest = rest }) (text ++ inside)
          (after_tag x.1.0 e) here.steps
          (record {
            text = x.0;
            start = x.1.0;
            after = x.1.1;
            next = next;
            inside = inside;
            end = e;
            tag = tag;
            tokens = refl;
            place = refl;
          });
      items = grown ∙ ap (λ w. w ++ inside) (texts ∙ ap (λ w. w ++ text) here.items) ∙ append_assoc (joined here.pieces) text inside
          ∙ sym (joined_last here.pieces (text ++ inside));
    }

pub ends : (s : Syntax) (source : List ℕ) (old new : List Token) (before : Option Side) (rest : List ℕ) →
    SourceSoFar s (read_of s source) old before rest → first_of (tag_start s) rest ≡ None → new ≡ old ++ raw (trimmed s before None rest) →
    SpellsTokens s source new
ends s source old new before rest here none grown = (
  here.pieces,
  record { before = before; rest = rest },
  here.steps,
  none,
  grown
      ∙ ap (λ w. w ++ raw (trimmed s before None rest)) here.items,
)

-- where a tag starts that is none, the source spells nothing
pub no_tokens : (s : Syntax) (source : List ℕ) (found : List Token) (before : Option Side) (rest : List ℕ) (x : TagAhead) →
    SourceSoFar s (read_of s source) found before rest → first_of (tag_start s) rest ≡ Some x →
    ((ts : List Token) (e : End) → IsTag s x.1.0.kind x.1.1 ts e → ⊥) → (ts : List Token) → SpellsTokens s source ts → ⊥
no_tokens s source found before rest x here next none ts h =
    let p : SourcePlace = record { before = before; rest = rest } in
    let same = one_end (IsPiece s) (start_of (read_of s source)) here.pieces p h.0 h.1 (one_piece s) here.steps (no_tag s p x next none) h.2
    (no_next s h.1 h.3) in
    cc (sym next ∙ ap (λ (q : SourcePlace). first_of (tag_start s) q.rest) same.1 ∙ h.3)

pub one_list_of : (s : Syntax) (source : List ℕ) (ts us : List Token) → SpellsTokens s source ts → SpellsTokens s source us → ts ≡ us
one_list_of s source ts us h k =
    let same = one_end (IsPiece s) (start_of (read_of s source)) h.0 h.1 k.0 k.1 (one_piece s) h.2 (no_next s h.1 h.3) k.2
    (no_next s k.1 k.3) in
    h.4 ∙ ap (λ w. joined w ++ raw (trimmed s h.1.before None h.1.rest)) same.0
    ∙ ap (λ (q : SourcePlace). joined k.0 ++ raw (trimmed s q.before None q.rest)) same.1 ∙ sym k.4
