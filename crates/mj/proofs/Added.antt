-- Sources that are put at their names one after the other.
use Rattle.std.proofs.Common.{◌≡◌, ◌≢◌, ◌⊎◌, inl, inr, List, [], ◌∷◌, None, Some, refl, sym, ap, subst, ◌∙◌}
use Rattle.tm_values.specs.Answer.{Refused}
use Rattle.tm_values.specs.declared.error.ErrorKind.{ErrorKind}
use Rattle.tm_values.specs.declared.escape.AutoEscape.{AutoEscape}
use Rattle.tm_delimiters.specs.Syntax.{Syntax}
use Rattle.tm_syntax.specs.Named.{Named, find, put}
use Rattle.tm_syntax.proofs.Named.{find_put, find_put_other, same_or_not}
use Rattle.tm_compiler.specs.Spells.{SpellsNone}
use Rattle.tm_templates.specs.Templates.{Compiled, IsOfTree, IsTemplate, IsRefused}
use Rattle.tm_templates.proofs.Accepted.{put_all}
use Rattle.tm_templates.proofs.Streams.{of_source}
use Rattle.tm_tables.specs.Stated.{StatedObjects}
use Rattle.template_machine.specs.Environment.{AreOfTrees, EnvironmentValue, IsTemplateOf}
use Rattle.mj_words.specs.CommandLine.{Text}
use Rattle.mj.specs.Program.{AreAdded, BeginWith, SpellNone}
use Rattle.mj.proofs.Lists.{any_first, any_later}

put_keeps : (x y : Text) (t u : Compiled) (ts : Named Compiled) → find x ts ≡ Some u → (x ≡ y) ⊎ (x ≢ y) →
    (v : Compiled) × (find x (put y t ts) ≡ Some v)
put_keeps x y t u ts there (inl same) = (t, ap (λ z. find z (put y t ts)) same ∙ find_put y t ts)
put_keeps x y t u ts there (inr apart) = (u, find_put_other x y apart t ts ∙ there)

module _ (syntax : Syntax) (escapes : Text → AutoEscape) where
  stays_there : (x : Text) (sources : List (Text × Text)) (before after : Named Compiled) (u : Compiled) →
      AreAdded syntax escapes sources before after → find x before ≡ Some u → (v : Compiled) × (find x after ≡ Some v)
  stays_there x [] before after u added there = (u, subst (λ ts. find x ts ≡ Some u) added there)
  stays_there x (s ∷ more) before after u (t, is, added) there =
      let kept = put_keeps x s.0 t u before there (same_or_not x s.0) in
      stays_there x more (put s.0 t before) after kept.0 added kept.1

  first_there : (x : Text) (sources : List (Text × Text)) (before after : Named Compiled) → BeginWith x sources →
      AreAdded syntax escapes sources before after → (v : Compiled) × (find x after ≡ Some v)
  first_there x [] before after first added = absurd first
  first_there x (s ∷ more) before after first (t, is, added) =
      stays_there x more (put s.0 t before) after t added (ap (λ z. find z (put s.0 t before)) (sym first) ∙ find_put s.0 t before)

  -- All that was added is of trees.
  pub added_of_trees : (sources : List (Text × Text)) (before after : Named Compiled) → AreAdded syntax escapes sources before after →
      AreOfTrees before → AreOfTrees after
  added_of_trees [] before after added all = subst AreOfTrees added all
  added_of_trees (s ∷ more) before after (t, is, added) all =
      added_of_trees more (put s.0 t before) after added
      (put_all IsOfTree s.0 t before (of_source syntax (escapes s.0) s.0 s.1 t is) all)

  -- The first of the sources is found, as it was put.
  pub is_found : {X : Type 0} (x : Text) (sources : List (Text × Text)) (before after found : Named Compiled) → BeginWith x sources →
      AreAdded syntax escapes sources before after → found ≡ after → find x found ≡ None → X
  is_found x sources before after found first added same none =
      let there = first_there x sources before after first added in
      let is : find x found ≡ Some there.0 = ap (λ ts. find x ts) same ∙ there.1 in
      absurd (cc)

  -- Some sources were put, and these are left.
  pub record Adding (sources left : List (Text × Text)) (before now : Named Compiled) : Type 0 where
    pub rest : (after : Named Compiled) → AreAdded syntax escapes left now after → AreAdded syntax escapes sources before after
    pub refused : SpellNone syntax left → SpellNone syntax sources

  pub begin_adding : (sources : List (Text × Text)) (before : Named Compiled) → Adding sources sources before before
  begin_adding sources before = record { rest = λ after added. added; refused = λ none. none }

  pub add_next : (sources left : List (Text × Text)) (s : Text × Text) (before now : Named Compiled) (t : Compiled) →
      Adding sources (s ∷ left) before now →
      IsTemplate syntax (escapes s.0) s.0 s.1 t → Adding sources left before (put s.0 t now)
  add_next sources left s before now t a is = record {
    rest = λ after added. a.rest after (t, is, added);
    refused = λ none. a.refused (any_later (λ (s : Text × Text). SpellsNone syntax s.1) s left none);
  }

  pub add_all : (sources : List (Text × Text)) (before now : Named Compiled) → Adding sources [] before now →
      AreAdded syntax escapes sources before now
  add_all sources before now a = a.rest now refl

  pub add_refused : (chain : List ErrorKind) (sources left : List (Text × Text)) (s : Text × Text) (before now : Named Compiled) →
      Adding sources (s ∷ left) before now → IsRefused syntax s.1 chain → Refused chain (SpellNone syntax sources)
  add_refused chain sources left s before now a (inl memory) = inl memory
  add_refused chain sources left s before now a (inr (kind, none)) =
      inr (kind, a.refused (any_first (λ (s : Text × Text). SpellsNone syntax s.1) s left none))

-- One more source was put, and nothing but the templates has changed.
module _ {O : Type 0} (stated : O → StatedObjects) (first now : EnvironmentValue O) (same : now ≡ record first { templates = now.templates })
    (sources left : List (Text × Text)) (s : Text × Text) where
  abbrev IsLeft : EnvironmentValue O → List (Text × Text) → Type 0
  IsLeft e left = Adding first.syntax (stated first.objects).escapes sources left first.templates e.templates

  pub put_next : (before : List (Text × Text)) → before ≡ s ∷ left → IsLeft now before → (t : Compiled) → IsTemplateOf stated now s.0 s.1 t →
      (new : EnvironmentValue O) →
      new ≡ record now { templates = put s.0 t now.templates } → (new ≡ record first { templates = new.templates }) × IsLeft new left
  put_next before next adding t is new put_there =
      let all : Named Compiled = put s.0 t now.templates in
      let whole : new ≡ record first { templates = all } =
      put_there ∙ ap (λ (e : EnvironmentValue O). record e { templates = all }) same in
      let templates : new.templates ≡ all = ap (λ (e : EnvironmentValue O). e.templates) whole in
      let template : IsTemplate first.syntax ((stated first.objects).escapes s.0) s.0 s.1 t =
      subst (λ (e : EnvironmentValue O). IsTemplateOf stated e s.0 s.1 t) same is in (
        whole ∙ ap (λ (ts : Named Compiled). let e : EnvironmentValue O = record first { templates = ts } in e) (sym templates),
        subst (λ ts. Adding first.syntax (stated first.objects).escapes sources left first.templates ts) (sym templates)
            (add_next first.syntax (stated first.objects).escapes sources left s first.templates now.templates t
            (subst (λ all. IsLeft now all) next adding) template),
      )

  pub next_refused : (before : List (Text × Text)) → before ≡ s ∷ left → IsLeft now before → (chain : List ErrorKind) →
      IsRefused now.syntax s.1 chain → Refused chain (SpellNone first.syntax sources)
  next_refused before next adding chain refused =
      add_refused first.syntax (stated first.objects).escapes chain sources left s first.templates now.templates
      (subst (λ all. IsLeft now all) next adding) (subst (λ (e : EnvironmentValue O). IsRefused e.syntax s.1 chain) same refused)
