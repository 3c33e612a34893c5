-- Where a called loop ends whose text is a value.
use Rattle.std.proofs.Common.{◌≡◌, List, [], ◌∷◌, Option, refl, ap, ◌∙◌, true}
use Rattle.tm_meaning.specs.declared.run_text.RunText.TheVariants as texts
use Rattle.tm_meaning.specs.declared.stream.TemplateId.{TemplateId}
use Rattle.tm_meaning.specs.Machine.{Return, Capture, Config, back_with}
use Rattle.tm_meaning.specs.Instructions.{with_text, returns}

text_on : (parent : Option TemplateId) (ks : List Capture) (c : Config) →
    with_text parent ks c ≡ back_with true texts.Captured (record c.run { parent = parent }) ks c.world
text_on parent [] c = refl
text_on parent (k ∷ ks) c = refl

-- its text is put on top, and the parent waits that waited at the call
pub with_its_text : (r : Return) (c : Config) → r.value ≡ true →
    returns r r.value c ≡ back_with true texts.Captured (record c.run { parent = r.parent }) c.captures c.world
with_its_text r c value = ap (λ v. returns r v c) value ∙ text_on r.parent c.captures c
