-- What an environment gives of a template that is meant.
use Rattle.std.proofs.Common.{◌≡◌, ℕ, List, refl, sym, ap, ◌∙◌, Option, Some, None}
use Rattle.std.specs.Map.{keys_of}
use Rattle.std.specs.Option.{option_map}
use Rattle.tm_values.specs.declared.escape.AutoEscape.{AutoEscape}
use Rattle.tm_syntax.specs.Blocks.{code_of}
use Rattle.tm_syntax.specs.Named.{find}
use Rattle.tm_meaning.specs.declared.stream.StreamId.{StreamId}
use Rattle.tm_meaning.specs.declared.stream.TemplateId.{TemplateId}
use Rattle.tm_meaning.specs.declared.stream.TemplateId.TheVariants.{Own, Entry}
use Rattle.tm_objects.specs.Stated.{StatedObjects}
use Rattle.tm_meaning.specs.World.{Template, template_at, card_at, card_in, or_is}
use Rattle.tm_meaning.specs.Calls.{is_required}
use Rattle.tm_meaning.specs.Tree.{TemplateTree, part_of, tree_at}
use Rattle.tm_templates.specs.Templates.{Compiled, IsOfTree, told_of, tree_of}
use Rattle.tm_templates.proofs.Accepted.{find_all}
use Rattle.tm_templates.proofs.Named.{find-turned}
use Rattle.tm_templates.proofs.Streams.{tree_code}
use Rattle.template_machine.specs.Environment.{IsOfTrees, TemplateValue, code, host_of, meant, trees, trees_in}
use Rattle.template_machine.proofs.Alone.{keys-carded}

or_is-map : {A B : Type 0} (f : A → B) (o : Option A) (a : A) → or_is (option_map f o) (f a) ≡ f (or_is o a)
or_is-map f None a = refl
or_is-map f (Some b) a = refl

module _ {O : Type 0} (stated : O → StatedObjects) (t : TemplateValue O) where
  pub template_meant : (id : TemplateId) → template_at (host_of stated t) id ≡ told_of (meant t id)
  template_meant Own = refl
  template_meant (Entry x) =
      ap (λ o. or_is o (told_of t.template)) (find-turned told_of x t.environment.templates)
      ∙ or_is-map told_of (find x t.environment.templates) t.template

  pub required_meant : (s : StreamId) →
      is_required (card_in (told_of (meant t s.template)) s.block) ≡ is_required (card_at (host_of stated t) s)
  required_meant s = sym (ap (λ (x : Template). is_required (card_in x s.block)) (template_meant s.template))

  -- the names of the blocks of the template of a name
  pub blocks_found : (x : List ℕ) (c : Compiled) (names : List (List ℕ)) → find x t.environment.templates ≡ Some c →
      names ≡ keys_of c.blocks →
      (found : Template) × (find x (host_of stated t).templates ≡ Some found) × (keys_of found.blocks ≡ names)
  blocks_found x c names found are = (
    told_of c,
    find-turned told_of x t.environment.templates ∙ ap (option_map told_of) found,
    keys-carded c.blocks ∙ sym are,
  )

  -- and its escape
  pub escape_found : (x : List ℕ) (c : Compiled) (e : AutoEscape) → find x t.environment.templates ≡ Some c → e ≡ c.escape →
      option_map (λ (t : Template). t.escape) (find x (host_of stated t).templates) ≡ Some e
  escape_found x c e found is =
      ap (option_map (λ (t : Template). t.escape)) (find-turned told_of x t.environment.templates ∙ ap (option_map told_of) found)
      ∙ ap (λ f. Some f) (sym is)

  pub blocks_missing : (x : List ℕ) → find x t.environment.templates ≡ None → find x (host_of stated t).templates ≡ None
  blocks_missing x none = find-turned told_of x t.environment.templates ∙ ap (option_map told_of) none

-- ---------------------------------------------------------------- trees
module _ {O : Type 0} (t : TemplateValue O) (of : IsOfTrees t) where
  or_own : (o : Option Compiled) → ((c : Compiled) → o ≡ Some c → IsOfTree c) → IsOfTree (or_is o t.template)
  or_own None all = of.own
  or_own (Some c) all = all c refl

  meant_of_tree : (id : TemplateId) → IsOfTree (meant t id)
  meant_of_tree Own = of.own
  meant_of_tree (Entry x) =
      or_own (find x t.environment.templates) (λ c found. find_all IsOfTree x t.environment.templates c of.others found)

  at_tree : (id : TemplateId) → tree_at (tree_of t.template) (trees_in t.environment.templates) id ≡ tree_of (meant t id)
  at_tree Own = refl
  at_tree (Entry x) =
      ap (λ o. or_is o (tree_of t.template)) (find-turned tree_of x t.environment.templates)
      ∙ or_is-map tree_of (find x t.environment.templates) t.template

  -- Each stream is the code of its tree.
  pub trees_code : (s : StreamId) → code t s ≡ code_of (trees t s)
  trees_code s =
      tree_code (meant t s.template) (meant_of_tree s.template) s.block
      ∙ ap (λ (x : TemplateTree). code_of (part_of x s.block)) (sym (at_tree s.template))
