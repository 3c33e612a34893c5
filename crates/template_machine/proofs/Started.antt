-- The state that a render starts from.
use Rattle.std.proofs.Common.{◌≡◌, ℕ, List, [], Option, Result, Ok, Err, map, refl, ap, ◌∙◌, sym, subst}
use Rattle.std.specs.List.Sorted.{IsStrictlySortedBy}
use Rattle.std.specs.Map.{keys_of}
use Rattle.tm_values.specs.Answer.{OkOrOutOfMemory}
use Rattle.tm_values.specs.Val.{Val}
use Rattle.tm_values.specs.declared.error.ErrorKind.{ErrorKind}
use Rattle.tm_values.specs.declared.escape.AutoEscape.{AutoEscape}
use Rattle.tm_syntax.specs.Named.{name_cmp}
use Rattle.tm_meaning.specs.World.{Template, World, template_at}
use Rattle.tm_objects.specs.Stated.{StatedObjects}
use Rattle.tm_meaning.specs.Calls.{own_blocks}
use Rattle.tm_meaning.specs.declared.stream.TemplateId.{TemplateId}
use Rattle.tm_templates.specs.Templates.{Compiled, carded, told_of}
use Rattle.tm_state.specs.State.{started}
use Rattle.tm_blocks.specs.Lists.{with_each}
use Rattle.template_machine.specs.Environment.{EnvironmentValue, TemplateValue, host_of, meant}
use Rattle.template_machine.specs.TemplateRef.{held_id, held_template, IsHeldOf}
use Rattle.template_machine.specs.declared.template.TemplateRef.{TemplateRef}
use Rattle.template_machine.specs.declared.template.TemplateRef.TheVariants.{Lent, Owned}
use Rattle.template_machine.proofs.Alone.{each_alone}
use Rattle.template_machine.proofs.Meant.{template_meant}
use Rattle.template_machine.specs.Renders.{first}

-- A template that is held is what its environment means by it.
pub held_meant : {O : Type 0} (e : EnvironmentValue O) (h : TemplateRef) → IsHeldOf e.templates h →
    meant (record { environment = e; id = held_id h; template = held_template h }) (held_id h) ≡ held_template h
held_meant e (Lent x t) is = rw is refl
held_meant e (Owned t) is = refl

abbrev Ascend : Compiled → Type 0
Ascend t = IsStrictlySortedBy name_cmp (keys_of t.blocks)

pub first_is : {O : Type 0} (stated : O → StatedObjects) (t : TemplateValue O) (id : ℕ) (context : Val) → meant t t.id ≡ t.template →
    Ascend t.template →
    started id t.id (keys_of t.template.blocks) t.template.escape t.environment.fuel context ≡ first stated t id context
first_is stated t id context is order =
    let same : with_each t.id (keys_of t.template.blocks) [] ≡ own_blocks t.id (map carded t.template.blocks) =
    each_alone t.id t.template.blocks order in
    let there : told_of t.template ≡ template_at (host_of stated t) t.id = sym (template_meant stated t t.id ∙ ap told_of is) in
    ap (λ ls. record (first stated t id context) { blocks = ls; escape = t.template.escape }) same
    ∙ ap (λ (x : Template). record (first stated t id context) { blocks = own_blocks t.id x.blocks; escape = x.escape }) there

-- the same of what was made
pub first_at : {O : Type 0} (stated : O → StatedObjects) (t : TemplateValue O) (root : TemplateId) (own : Compiled)
    (names : List (List ℕ)) (escape : AutoEscape)
    (fuel : Option ℕ) (id number : ℕ) (context : Val)
    (made : Result World (List ErrorKind)) → meant t t.id ≡ t.template → root ≡ t.id → own ≡ t.template → names ≡ keys_of own.blocks →
    Ascend own → escape ≡ own.escape → fuel ≡ t.environment.fuel → id ≡ number →
    OkOrOutOfMemory made (λ s. s ≡ started id root names escape fuel context) → OkOrOutOfMemory made (λ s. s ≡ first stated t number context)
first_at stated t root own names escape fuel id number context (Err e) is root_is own_is names_are order escape_is fuel_is id_is made_is = made_is
first_at stated t root own names escape fuel id number context (Ok s) is root_is own_is names_are order escape_is fuel_is id_is made_is =
    made_is
    ∙ ap (λ n. started n root names escape fuel context) id_is
    ∙ ap (λ r. started number r names escape fuel context) root_is
    ∙ ap (λ f. started number t.id names escape f context) fuel_is
    ∙ ap (λ e. started number t.id names e t.environment.fuel context) (escape_is ∙ ap (λ (o : Compiled). o.escape) own_is)
    ∙ ap (λ ks. started number t.id ks t.template.escape t.environment.fuel context) (names_are
    ∙ ap (λ (o : Compiled). keys_of o.blocks) own_is)
    ∙ first_is stated t number context is (subst Ascend own_is order)
