-- A template that is included.
use Rattle.std.proofs.Common.{◌≡◌, ◌+◌, ◌-◌, ◌≤◌, ◌∙◌, ◌||◌, ℕ, List, [], ◌∷◌, length, drop, Option, Some, None, Bool, true, false, nat_lt, not, suc}
use Rattle.std.proofs.Common.{Result, Ok, Err, refl, sym, ap, subst, arith}
use Rattle.std.proofs.lemmas.Bool.Decides.{nat_tests}
use Rattle.std.specs.Borrow.{Bor}
use Rattle.std.specs.Result.{IfErr, IsErr, IsErrAnd}
use Rattle.std.specs.declared.alloc.Global.{Global}
use Rattle.std.specs.declared.rc.Rc.{Rc}
use Rattle.std.specs.Map.{keys_of}
use Rattle.std.specs.Option.{option_map}
use Rattle.tm_syntax.specs.Named.{Named, find}
use Rattle.tm_values.specs.Val.{Val, undefined, none, boolean, number, text, list, map, keywords, exports}
use Rattle.tm_values.specs.Val.{function, macro, loop, namespace, text_in}
use Rattle.tm_values.specs.declared.error.ErrorKind.{ErrorKind}
use Rattle.tm_meaning.specs.Memory.{is_want_of_memory}
use Rattle.tm_values.specs.declared.error.ErrorKind.TheVariants.{InvalidOperation}
use Rattle.tm_values.specs.declared.escape.AutoEscape.{AutoEscape}
use Rattle.tm_meaning.specs.World.{World, HostValue, Card, Scope, Template, Good, check, records_of, depth, or_is}
use Rattle.tm_meaning.specs.World.{own_closure, owning, plain_scope, root_of, template_at}
use Rattle.tm_meaning.specs.Calls.{Asked, ask, choices_in, enter_include, first_found, in_template, include_call, include_cost, include_depth, include_found, include_frames, outermost, own_blocks, no_values, refused, runs, whole}
use Rattle.tm_meaning.specs.declared.run_text.RunText.TheVariants as texts
use Rattle.tm_meaning.specs.declared.stream.StreamId.{StreamId}
use Rattle.tm_meaning.specs.declared.stream.TemplateId.{TemplateId}
use Rattle.tm_meaning.specs.declared.stream.TemplateId.TheVariants.{Entry}
use Rattle.tm_meaning.specs.declared.wrapping.Wrapping.TheVariants.{BadInclude}
use Rattle.tm_blocks.specs.Lists.{AreBlocksOf, IsEntry, ListsValue, alone_in}
use Rattle.tm_blocks.specs.declared.template_entry.TemplateEntry.{TemplateEntry}
use Rattle.tm_meaning.specs.Inheritance.{joined}
use Rattle.tm_values.specs.Records.{RecordData}
use Rattle.tm_state.specs.Answers.{IsChosen, IsFirstEntry, IsNamed, IsEntryThere, NeedsSuper, OneDeeper}
use Rattle.tm_state.specs.State.{lists_of, put_back, saved_include, saved_of}
use Rattle.tm_records.specs.declared.nested.RunOf.TheVariants as run_of
use Rattle.tm_records.specs.declared.saved.Saved.TheVariants as saved
use Rattle.tm_records.specs.declared.saved.SavedInclude.{SavedInclude}

-- ---------------------------------------------------------------- its blocks and scopes
own_named : (t : TemplateId) (bs : Named Card) → own_blocks t bs ≡ alone_in t (keys_of bs)
own_named t [] = refl
own_named t (b ∷ bs) = ap (λ ls. (b.0, t ∷ []) ∷ ls) (own_named t bs)

length-owning : (c : Option ℕ) (frames : List Scope) → length (owning c frames) ≡ length frames
length-owning c [] = refl
length-owning c (s ∷ ss) = refl

-- the innermost scope's own closure is put back
owned_again : (c : Option ℕ) (frames : List Scope) → owning (own_closure frames) (outermost (length frames) (owning c frames)) ≡ frames
owned_again c [] = refl
owned_again c (s ∷ ss) =
    let none : length (owning c (s ∷ ss)) - length (s ∷ ss) ≡ 0 = omega arith in
    ap (λ n. owning s.own_closure (drop n (owning c (s ∷ ss)))) none

owned_same : (frames : List Scope) → owning (own_closure frames) frames ≡ frames
owned_same [] = refl
owned_same (s ∷ ss) = refl

-- the scopes are left in which it ran
left_again : (apart : Bool) (frames : List Scope) →
    owning (own_closure frames) (outermost (length frames) (include_frames apart frames)) ≡ frames
left_again false frames = owned_again None frames
left_again true frames =
    let one : suc (length frames) - length frames ≡ 1 = omega arith in
    ap (λ n. owning (own_closure frames) (drop n (plain_scope (undefined false) ∷ frames))) one ∙ owned_same frames

-- how deep they lie
begun_deep : (apart : Bool) (frames : List Scope) (outer : ℕ) →
    length (include_frames apart frames) + (include_depth + outer) ≡ include_cost apart + (length frames + outer)
begun_deep true frames outer = omega arith
begun_deep false frames outer = omega (arith, length-owning None frames)

-- ---------------------------------------------------------------- its run
module _ (host : HostValue) (x : List ℕ) (w : World) (lent : Bor (Rc (List (List ℕ)) Global))
    (there : AreBlocksOf lent (find x host.templates)) (apart : Bool) where
  abbrev pub Begun : World
  Begun = record w {
    scopes = record { frames = include_frames apart w.scopes.frames; outer = include_depth + w.scopes.outer };
    stream = root_of (Entry x);
    escape = (template_at host (Entry x)).escape;
    blocks = alone_in (Entry x) (lent.now.value);
    places = [];
  }

  begun : in_template host apart (Entry x) w ≡ Begun
  begun =
      ap (λ ls. record w {
        scopes = record { frames = include_frames apart w.scopes.frames; outer = include_depth + w.scopes.outer };
        stream = root_of (Entry x);
        escape = (template_at host (Entry x)).escape;
        blocks = ls;
        places = [];
      }) (ap (λ o. own_blocks (Entry x) (or_is o host.own).blocks) there.1 ∙ own_named (Entry x) there.0.blocks
      ∙ ap (alone_in (Entry x)) there.2)

  -- the scopes that were opened for it
  abbrev pub Opened : World
  Opened = record w { scopes = record w.scopes { frames = include_frames apart w.scopes.frames } }

  -- what is put back after it
  pub saved_over : (mid : World) (kept : SavedInclude) (scopes : ℕ) (closure : Option ℕ) → mid ≡ Opened → scopes ≡ length w.scopes.frames →
      closure ≡ own_closure w.scopes.frames →
      kept ≡ record { replaced = record (saved_of mid) { scopes = scopes }; closure = closure; lists = lists_of mid } →
      kept ≡ saved_include w
  saved_over mid kept scopes closure opened many owned is =
      is ∙ ap (λ (m : World). record { replaced = record (saved_of m) { scopes = scopes }; closure = closure; lists = lists_of m }) opened
      ∙ ap (λ n. record (saved_include w) { replaced = record (saved_of w) { scopes = n }; closure = closure }) many
      ∙ ap (λ k. record (saved_include w) { closure = k }) owned

  -- it stands there
  pub stands_begun : (mid : World) → mid ≡ Opened → (v : World) (s : StreamId) (e : AutoEscape) (ls : ListsValue) → s ≡ root_of (Entry x) →
      e ≡ (template_at host (Entry x)).escape →
      ls ≡ record { blocks = alone_in (Entry x) (lent.now.value); places = []; loaded = w.loaded } →
      v ≡ record mid {
        scopes = record { frames = mid.scopes.frames; outer = include_depth + mid.scopes.outer };
        stream = s;
        escape = e;
        blocks = ls.blocks;
        places = ls.places;
        loaded = ls.loaded;
      } → v ≡ Begun
  stands_begun mid opened v s e ls named escaped own at =
      at ∙ ap (λ (m : World). record m {
        scopes = record { frames = m.scopes.frames; outer = include_depth + m.scopes.outer };
        stream = s;
        escape = e;
        blocks = ls.blocks;
        places = ls.places;
        loaded = ls.loaded;
      }) opened ∙ ap (λ (l : ListsValue). record w {
        scopes = record { frames = include_frames apart w.scopes.frames; outer = include_depth + w.scopes.outer };
        stream = s;
        escape = e;
        blocks = l.blocks;
        places = l.places;
        loaded = l.loaded;
      }) own ∙ ap (λ q. record Begun { stream = q; escape = e }) named ∙ ap (λ f. record Begun { escape = f }) escaped

  module _ (kept : SavedInclude) (v : World) (is : kept ≡ saved_include w) (at : v ≡ Begun) where
    -- within the limit,
    pub includes : (heard : Bool) (s : StreamId) → s ≡ root_of (Entry x) → nat_lt host.limit (include_cost apart + depth w.scopes) ≡ false →
        (missing : Bool) → NeedsSuper heard false (record {
          run = run_of.Stream s;
          heard = heard;
          value = false;
          text = texts.Captured;
          wrap = Some BadInclude;
          saved = saved.Include kept;
        }) (include_found host apart missing (Some (Entry x)) w) w v
    includes heard s named within missing = (
      refl,
      refl,
      is,
      ap (λ b. ask (check (not b) InvalidOperation w) (λ _ world1. runs (include_call (Entry x) w) (in_template host apart (Entry x) world1))) within
          ∙ ap (runs (include_call (Entry x) w)) (begun ∙ sym at)
          ∙ ap (λ q. runs (record (include_call (Entry x) w) { callee = whole q }) v) (sym named),
    )

    pub includes_deeper : (limit : ℕ) → include_cost apart + depth w.scopes ≤ limit → OneDeeper limit (saved.Include kept) w v
    includes_deeper limit within =
        let long = begun_deep apart w.scopes.frames w.scopes.outer in
        subst (OneDeeper limit (saved.Include kept) w) (sym at) (is, (apart, refl, refl), omega (arith, long, within))

    -- and is undone.
    pub included_left : put_back (saved.Include kept) v ≡ w
    included_left =
        ap (λ q. put_back (saved.Include q) v) is ∙ ap (put_back (saved.Include (saved_include w))) at
        ∙ ap (λ ss. record w { scopes = record w.scopes { frames = ss } }) (left_again apart w.scopes.frames)

-- its escape is that of the template that is there
pub escape_there : (host : HostValue) (e : TemplateEntry) → IsEntryThere e host → e.escape ≡ (template_at host (Entry e.name.now)).escape
escape_there host e there =
    let found = there.2.1 in
    let same : Some there.2.0.escape ≡ Some e.escape = ap (option_map (λ (t : Template). t.escape)) (sym found) ∙ there.1 in
    let is : there.2.0.escape ≡ e.escape = cc same in
    sym is ∙ sym (ap (λ o. (or_is o host.own).escape) found)

-- what the depths that are left say
pub within_limit : (apart : Bool) (limit deep left : ℕ) → left ≡ limit - deep → include_cost apart ≤ left →
    nat_lt limit (include_cost apart + deep) ≡ false
within_limit true limit deep left is enough = grind (arith, nat_tests, is, enough)
within_limit false limit deep left is enough = grind (arith, nat_tests, is, enough)

pub within_cost : (apart : Bool) (limit deep left : ℕ) → left ≡ limit - deep → include_cost apart ≤ left → include_cost apart + deep ≤ limit
within_cost true limit deep left is enough = omega (arith, is, enough)
within_cost false limit deep left is enough = omega (arith, is, enough)

-- ---------------------------------------------------------------- its choice
-- a text is the one choice
text_alone : (r : RecordData) (v : Val) (x : List ℕ) → text_in v ≡ Some x → choices_in r v ≡ Ok (v ∷ [])
text_alone r (text s safe) x is = refl
text_alone r (undefined silent) x is = absurd (cc is)
text_alone r none x is = absurd (cc is)
text_alone r (boolean b) x is = absurd (cc is)
text_alone r (number n) x is = absurd (cc is)
text_alone r (list vs) x is = absurd (cc is)
text_alone r (map ps) x is = absurd (cc is)
text_alone r (keywords ps) x is = absurd (cc is)
text_alone r (exports ps s) x is = absurd (cc is)
text_alone r (function n) x is = absurd (cc is)
text_alone r (macro m) x is = absurd (cc is)
text_alone r (loop s n) x is = absurd (cc is)
text_alone r (namespace s n) x is = absurd (cc is)

-- the first choice is there, or those after it are tried
module _ (host : HostValue) (v : Val) (vs : List Val) (w : World) (name : List ℕ) (is : text_in v ≡ Some name) where
  first_there : (e : TemplateEntry) → IsNamed (Some e) host name w → IsFirstEntry (Some e) host (v ∷ vs) w
  first_there e named =
      let at = named.2 in (
        rw (is, named.1, at.2.1) (ap (λ y. Good (Some (Entry y)) w) (sym at.0)),
        subst (λ y. IsEntry (Some e) y (find y host.templates)) (sym at.0) at,
      )

  first_missing : IsNamed None host name w → first_found host (v ∷ vs) w ≡ first_found host vs w
  first_missing named = rw (is, named.1, named.2) refl

-- so it is with a text
pub only_one : (host : HostValue) (v : Val) (w : World) (name : List ℕ) (found : Option TemplateEntry) → text_in v ≡ Some name →
    IsNamed found host name w → IsChosen found false host v w
only_one host v w name (Some e) is named = (v ∷ [], text_alone (records_of w) v name is, refl, first_there host v [] w name is e named)
only_one host v w name None is named = (v ∷ [], text_alone (records_of w) v name is, refl, first_missing host v [] w name is named)

-- what was chosen is included
pub chosen : (host : HostValue) (apart : Bool) (v : Val) (missing : Bool) (w : World) (e : TemplateEntry) (names_none : Bool) →
    IsChosen (Some e) names_none host v w →
    enter_include host apart v missing w ≡ include_found host apart (missing || names_none) (Some (Entry e.name.now)) w
chosen host apart v missing w e names_none is =
    rw (is.1, is.3.0) (ap (λ b. include_found host apart (missing || b) (Some (Entry e.name.now)) w) (sym is.2))

-- and so its fault is that of the include
pub refused_on : {A : Type 0} (r : Result A (List ErrorKind)) (chain : List ErrorKind) (asked : Asked) (w : World) →
    IsErr r × IsErrAnd r (λ e. e ≡ chain) → (is_want_of_memory chain ≡ false → asked ≡ refused chain w) →
    IfErr r (λ e. is_want_of_memory e ≡ false → asked ≡ refused e w)
refused_on (Ok a) chain asked w same h = absurd (cc same.0)
refused_on (Err e) chain asked w same h = subst (λ z. is_want_of_memory z ≡ false → asked ≡ refused z w) (sym same.1) h
