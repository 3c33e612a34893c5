-- A template, borrowed or owned.
use Rattle.std.specs.Prelude.{◌≡◌, ℕ, List, Option, None, Some}
use Rattle.std.specs.Borrow.{Bor}
use Rattle.tm_syntax.specs.Named.{Named, find}
use Rattle.tm_meaning.specs.declared.stream.TemplateId.{TemplateId}
use Rattle.tm_meaning.specs.declared.stream.TemplateId.TheVariants.{Own, Entry}
use Rattle.tm_templates.specs.Templates.{Compiled}
use Rattle.template_machine.specs.declared.rendering.OwnTemplate.{OwnTemplate}
use Rattle.template_machine.specs.declared.rendering.OwnTemplate.TheVariants as own
use Rattle.template_machine.specs.declared.template.TemplateRef.{TemplateRef}
use Rattle.template_machine.specs.declared.template.TemplateRef.TheVariants.{Lent, Owned}

abbrev pub held_template : TemplateRef → Compiled
held_template (Lent x t) = t.now
held_template (Owned t) = t.value

abbrev pub own_template : OwnTemplate → Compiled
own_template (own.Lent t) = t.now
own_template (own.Owned t) = t.value

-- An entry of the environment is identified by its name.
abbrev pub entry_id : Option (Bor (List ℕ)) → TemplateId
entry_id None = Own
entry_id (Some x) = Entry x.now

abbrev pub held_id : TemplateRef → TemplateId
held_id (Lent x t) = Entry x.now
held_id (Owned t) = Own

-- A borrowed template is the environment's entry of this name.
abbrev pub IsHeldOf : Named Compiled → TemplateRef → Type 0
IsHeldOf ts (Lent x t) = find x.now ts ≡ Some t.now
IsHeldOf ts (Owned t) = Unit {0}
