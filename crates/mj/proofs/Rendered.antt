-- What the program renders is what the words and the sources mean.
use Rattle.std.proofs.Common.{◌≡◌, ℕ, inl, inr, List, [], ◌∷◌, Option, None, Some, Result, Ok, Err, min, ◌<◌}
use Rattle.std.proofs.Common.{arith, refl, ap, subst, sym, ◌∙◌}
use Rattle.std.specs.Io.KnownBytes.{Keeps, Appends}
use Rattle.tm_values.specs.Val.{Val}
use Rattle.tm_meaning.specs.Memory.{is_want_of_memory}
use Rattle.tm_values.specs.declared.error.ErrorKind.{ErrorKind}
use Rattle.tm_values.specs.declared.escape.AutoEscape.{AutoEscape}
use Rattle.tm_values.specs.declared.error.ErrorKind.TheVariants.{WriteFailure, OutOfMemory}
use Rattle.tm_delimiters.specs.Syntax.{Syntax, default_syntax}
use Rattle.tm_syntax.specs.Named.{Named, find}
use Rattle.tm_values.specs.Answer.{Refused}
use Rattle.tm_meaning.specs.World.{Object, Fallback, Format, World}
use Rattle.tm_meaning.specs.Meaning.{Ending, done, leave, next, fault, Outcome}
use Rattle.tm_meaning.specs.Runs.{chain_in}
use Rattle.tm_output.specs.Counts.{Tally, Told, told_of}
use Rattle.tm_templates.specs.Defaults.{escape_by_name, escape_of}
use Rattle.tm_templates.specs.declared.defaults.EscapeSetting.{EscapeSetting}
use Rattle.tm_templates.specs.declared.defaults.EscapeSetting.TheVariants as setting
use Rattle.tm_tables.specs.Stated.{Join, Table, StatedObjects, language_functions, stated_of}
use Rattle.tm_templates.specs.Templates.{Compiled, IsOfTree}
use Rattle.tm_templates.proofs.Accepted.{find_all}
use Rattle.tm_meaning.specs.declared.stream.TemplateId.{TemplateId}
use Rattle.tm_meaning.specs.declared.stream.TemplateId.TheVariants.{Entry}
use Rattle.template_machine.specs.Environment.{EnvironmentValue, TemplateValue, IsEntryOf, expected_environment}
use Rattle.template_machine.specs.Environment.{AreOfTrees, new_environment, greatest_limit}
use Rattle.mj.proofs.Added.{added_of_trees}
use Rattle.template_machine.specs.Renders.{CapturedValue, StateValue, answer_by, greatest, meaning, Rendered, as_meant, by_writer}
use Rattle.template_machine.specs.Renders.{by_memory}
use Rattle.mj_words.specs.CommandLine.{Text, ArgumentsValue}
use Rattle.mj.specs.Program.{Input, context_of, limit_of, meaning_of, Means, IsMeant, IsRendered, IsBegun, IsFault, no_memory, AreAdded, SpellNone}
use Rattle.mj.specs.Program.{own_objects, write_failed, flush_failed, no_tree, meant}

-- Objects of which nothing but this is stated: a template means what it means where there are none.
abbrev template_over : {O : Type 0} → O → Text → Named Compiled → Option ℕ → ℕ → Compiled → TemplateValue O
template_over objects name templates fuel limit t = record {
  environment = record (expected_environment objects) { templates = templates; fuel = fuel; limit = limit };
  id = Entry name;
  template = t;
}

means_same : {O P : Type 0} (fs gs : StatedObjects) (o : O) (p : P) (name : Text) (templates : Named Compiled) (fuel : Option ℕ) (limit : ℕ)
    (t : Compiled) (id : ℕ) (context : Val) → fs ≡ gs →
    meaning (λ _. fs) (template_over o name templates fuel limit t) id context
    ≡ meaning (λ _. gs) (template_over p name templates fuel limit t) id context
means_same fs gs o p name templates fuel limit t id context same =
    ap (λ (hs : StatedObjects). meaning (λ x. x) (template_over hs name templates fuel limit t) id context) same

-- without objects there are the functions of the language
abbrev first_objects : {C M F R J : Type 0} → Table C M F (EscapeSetting R) J
first_objects = language_functions setting.ByName

pub none_of : {C M F R J : Type 0} (answers : C → Object) (falls : M → Fallback) (formats : F → Format) (rules : R → List ℕ → AutoEscape)
    (joins : J → Join) (objects : Table C M F (EscapeSetting R) J) → objects ≡ first_objects →
    stated_of answers falls formats (escape_of rules) joins objects ≡ own_objects
none_of answers falls formats rules joins objects none = ap (stated_of answers falls formats (escape_of rules) joins) none

abbrev Parts : Type 0 → Type 0 → Type 0 → Type 0 → Type 0 → Type 0
Parts C M F R J = Table C M F (EscapeSetting R) J

module _ {C M F R J : Type 0} where
  abbrev empty : EnvironmentValue (Parts C M F R J)
  empty = new_environment

  abbrev settled : ArgumentsValue → EnvironmentValue (Parts C M F R J)
  settled a = record empty { fuel = a.fuel; limit = limit_of a.limit }

  -- what an environment is after its settings
  pub started : (a : ArgumentsValue) (limit : ℕ) (first fuelled set : EnvironmentValue (Parts C M F R J)) → first ≡ empty →
      fuelled ≡ record first { fuel = a.fuel } →
      set ≡ record fuelled { limit = min limit greatest_limit } → min limit greatest_limit ≡ limit_of a.limit → set ≡ settled a
  started a limit first fuelled set start fuel limited same =
      limited ∙ (ap (λ (e : EnvironmentValue (Parts C M F R J)). record e { limit = min limit greatest_limit }) (fuel
      ∙ ap (λ (e : EnvironmentValue (Parts C M F R J)). record e { fuel = a.fuel }) start)
      ∙ ap (λ n. record empty { fuel = a.fuel; limit = n }) same)

  -- a template of the environment with these templates
  abbrev among : ArgumentsValue → Named Compiled → Compiled → TemplateValue (Parts C M F R J)
  among a templates t = template_over first_objects a.file templates a.fuel (limit_of a.limit) t

  -- The template that is found means what the input means.
  is_meant : (fs gs : StatedObjects) (i : Input) (set added : EnvironmentValue (Parts C M F R J)) (templates : Named Compiled)
      (found : TemplateValue (Parts C M F R J)) (context : Val) →
      (found.environment.objects ≡ first_objects → fs ≡ own_objects) → (set.objects ≡ first_objects → gs ≡ own_objects) →
      set ≡ settled i.asked → AreAdded set.syntax gs.escapes i.sources set.templates templates →
      added ≡ record set { templates = templates } →
      IsEntryOf added i.asked.file found → context ≡ context_of i.members i.asked.texts →
      IsMeant (λ _. fs) found context i
  is_meant fs gs i set added templates found context none none_set start all put_there (same, id, there) given =
      let a = i.asked in
      let whole : added ≡ record (settled a) { templates = templates } =
      put_there ∙ ap (λ (e : EnvironmentValue (Parts C M F R J)). record e { templates = templates }) start in
      let alone : found ≡ among a templates found.template =
      ap (λ (e : EnvironmentValue (Parts C M F R J)). let v : TemplateValue
      (Parts C M F R J) = record { environment = e; id = found.id; template = found.template } in v) (same ∙ whole)
      ∙ ap (λ (x : TemplateId). let v : TemplateValue
      (Parts C M F R J) = record { environment = record (settled a) { templates = templates }; id = x; template = found.template } in v)
      id in
      let objects : found.environment.objects ≡ first_objects =
      ap (λ (e : EnvironmentValue (Parts C M F R J)). e.objects) (same ∙ whole) in
      let escaped : gs.escapes ≡ escape_by_name =
      ap (λ (hs : StatedObjects). hs.escapes) (none_set (ap (λ (e : EnvironmentValue (Parts C M F R J)). e.objects) start)) in
      let added_all : AreAdded default_syntax escape_by_name i.sources [] templates =
      subst (λ (e : EnvironmentValue (Parts C M F R J)). AreAdded e.syntax escape_by_name i.sources e.templates templates) start
      (subst (λ (escapes : Text → AutoEscape). AreAdded set.syntax escapes i.sources set.templates templates) escaped all) in
      let found_there : find a.file templates ≡ Some found.template =
      subst (λ (e : EnvironmentValue (Parts C M F R J)). find a.file e.templates ≡ Some found.template) whole there in
      let of_trees : AreOfTrees templates = added_of_trees default_syntax escape_by_name i.sources [] templates added_all tt in
      let templates_are : found.environment.templates ≡ templates =
      ap (λ (e : EnvironmentValue (Parts C M F R J)). e.templates) (same ∙ whole) in
      let means : meaning (λ _. fs) found 0 context ≡ meaning_of i templates found.template =
      ap (λ (v : TemplateValue (Parts C M F R J)). meaning (λ _. fs) v 0 context) alone
      ∙ (ap (λ v. meaning (λ _. fs) (among a templates found.template) 0 v) given
      ∙ means_same {O = Parts C M F R J} {P = StatedObjects} fs own_objects first_objects own_objects a.file
      templates a.fuel (limit_of a.limit) found.template 0 (context_of i.members a.texts) (none objects)) in (
        record {
          own = find_all IsOfTree a.file templates found.template of_trees found_there;
          others = subst AreOfTrees (sym templates_are) of_trees;
        },
        (templates, found.template, added_all, found_there, means),
      )

  -- The same of what the objects of the environment state.
  pub is_meant_by : (answers : C → Object) (falls : M → Fallback) (formats : F → Format) (rules : R → List ℕ → AutoEscape)
      (joins : J → Join) (i : Input) (set added : EnvironmentValue (Parts C M F R J)) (templates : Named Compiled) (found : TemplateValue (Parts C M F R J))
      (context : Val) → set ≡ settled i.asked →
      AreAdded set.syntax (stated_of answers falls formats (escape_of rules) joins set.objects).escapes i.sources set.templates templates →
      added ≡ record set { templates = templates } →
      IsEntryOf added i.asked.file found → context ≡ context_of i.members i.asked.texts →
      IsMeant (stated_of answers falls formats (escape_of rules) joins) found context i
  is_meant_by answers falls formats rules joins i set added templates found context start all put_there entry given =
      let stated = stated_of answers falls formats (escape_of rules) joins in
      is_meant (stated found.environment.objects) (stated set.objects) i set added templates found context
      (λ e. none_of answers falls formats rules joins found.environment.objects e) (λ e. none_of answers falls formats rules joins set.objects e)
      start all put_there entry given

-- a render as the first state of a counter
pub at_first : {P : Type 0} (stated : P → StatedObjects) (t : TemplateValue P) (context : Val) (id : ℕ) (r : Result (CapturedValue (StateValue P)) (List ErrorKind))
    (told now : Told) → id ≡ 0 →
    (id < greatest → Rendered t (meaning stated t id context) r told now) →
    Rendered t (meaning stated t 0 context) r told now
at_first stated t context id r told now e rendered =
    subst (λ n. Rendered t (meaning stated t n context) r told now) e (rendered (omega (arith, e)))

pub keeps_same : (told : Option Text) → Keeps told told
keeps_same None = tt
keeps_same (Some text) = refl

-- an end without a fault has no chain
done_chain : (e : Ending) (w left : World) → answer_by e w ≡ Ok left → chain_in e ≡ []
done_chain (done vs) w left is = refl
done_chain leave w left is = refl
done_chain next w left is = refl
done_chain (fault chain) w left is = absurd (cc)

fault_chain : (e : Ending) (w : World) (answer : List ErrorKind) → answer_by e w ≡ Err answer → chain_in e ≡ answer
fault_chain (done vs) w answer is = absurd (cc)
fault_chain leave w answer is = absurd (cc)
fault_chain next w answer is = absurd (cc)
fault_chain (fault chain) w answer is = cc

module _ {W : Type 0} (contents : W → Option Text) where
  -- out of memory, before anything was written
  pub is_memory : (i : Input) (chain : List ErrorKind) (old : Tally W) → chain ≡ OutOfMemory ∷ [] → IsFault contents i chain old old
  is_memory i chain old e = no_memory (ap is_want_of_memory e) refl (inl (keeps_same (contents old.writer)))

  -- a source that was refused
  pub is_refused : (i : Input) (syntax : Syntax) (chain : List ErrorKind) (old : Tally W) → syntax ≡ default_syntax →
      Refused chain (SpellNone syntax i.sources) →
      IsFault contents i chain old old
  is_refused i syntax chain old e (inl memory) = is_memory i chain old memory
  is_refused i syntax chain old e (inr (kind, none)) =
      no_tree kind refl (keeps_same (contents old.writer)) (subst (λ s. SpellNone s i.sources) e none)

  -- What was answered of a template is what was answered of the input.
  module _ {O : Type 0} (t : TemplateValue O) (i : Input) (m : Outcome) (old new : Tally W) (means : Means i m) where
    abbrev Ended : Result (CapturedValue (StateValue O)) (List ErrorKind) → Type 0
    Ended r = Rendered t m r (told_of contents old) (told_of contents new)

    pub is_done : (c : CapturedValue (StateValue O)) → Ended (Ok c) → IsRendered contents i old new
    is_done c (as_meant is appended same) = (m, means, done_chain m.ending m.world c.state.world is.2, appended, same)
    is_done c (by_writer e begun more) = absurd (cc)
    is_done c (by_memory memory begun same) = absurd memory

    pub is_fault : (chain : List ErrorKind) → Ended (Err chain) → IsFault contents i chain old new
    is_fault chain (as_meant is appended same) = meant m means (fault_chain m.ending m.world chain is) same appended
    is_fault chain (by_writer e begun more) = write_failed (let same : chain ≡ WriteFailure ∷ [] = cc in same) more (m, means, begun)
    is_fault chain (by_memory memory begun same) = no_memory memory same (inr (m, means, begun))

flushed : (old mid new : Option Text) (text : Text) → Appends old mid text → Keeps mid new → Appends old new text
flushed None mid new text a k = tt
flushed (Some xs) None new text a k = absurd a
flushed (Some xs) (Some ys) None text a k = absurd k
flushed (Some xs) (Some ys) (Some zs) text a k = k ∙ a

keeps_then : (old mid new : Option Text) → Keeps old mid → Keeps mid new → Keeps old new
keeps_then None mid new h k = tt
keeps_then (Some xs) None new h k = absurd h
keeps_then (Some xs) (Some ys) None h k = absurd k
keeps_then (Some xs) (Some ys) (Some zs) h k = k ∙ h

begun_flushed : (i : Input) (old mid new : Option Text) → IsBegun i old mid → Keeps mid new → IsBegun i old new
begun_flushed i old mid new (outcome, means, (n, appended)) k = (outcome, means, (n, flushed old mid new _ appended k))

-- a flush adds nothing, and is no write that failed
module _ {W : Type 0} (contents : W → Option Text) (i : Input) (old mid new : Tally W) where
  pub rendered_flushed : IsRendered contents i old mid → Keeps (contents mid.writer) (contents new.writer) → new.failures ≡ mid.failures →
      IsRendered contents i old new
  rendered_flushed (outcome, means, none, appended, same) k count = (outcome, means, none, flushed _ _ _ _ appended k, count ∙ same)

  pub fault_flushed : (chain : List ErrorKind) → IsFault contents i chain old mid → Keeps (contents mid.writer) (contents new.writer) →
      new.failures ≡ mid.failures →
      IsFault contents i chain old new
  fault_flushed chain (no_memory e same (inl kept)) k count = no_memory e (count ∙ same) (inl (keeps_then _ _ _ kept k))
  fault_flushed chain (no_memory e same (inr begun)) k count = no_memory e (count ∙ same) (inr (begun_flushed i _ _ _ begun k))
  fault_flushed chain (write_failed e rose begun) k count = write_failed e (count ∙ rose) (begun_flushed i _ _ _ begun k)
  fault_flushed chain (flush_failed e rendered) k count = flush_failed e (rendered_flushed rendered k count)
  fault_flushed chain (no_tree e same kept none) k count = no_tree e (count ∙ same) (keeps_then _ _ _ kept k) none
  fault_flushed chain (meant outcome means e same appended) k count = meant outcome means e (count ∙ same) (flushed _ _ _ _ appended k)

  -- the flush failed, and the render had not
  pub unflushed : (chain : List ErrorKind) → chain ≡ WriteFailure ∷ [] → IsRendered contents i old mid →
      Keeps (contents mid.writer) (contents new.writer) → new.failures ≡ mid.failures →
      IsFault contents i chain old new
  unflushed chain e rendered k count = flush_failed e (rendered_flushed rendered k count)
