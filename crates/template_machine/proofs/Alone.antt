-- The blocks of one template, which stand by their names, are each alone.
use Rattle.std.proofs.Common.{◌≡◌, ◌∙◌, List, [], ◌∷◌, map, refl, ap}
use Rattle.std.specs.List.Sorted.{IsStrictlySortedBy}
use Rattle.std.specs.Map.{keys_of}
use Rattle.tm_shapes.specs.declared.code.BlockCode.{BlockCode}
use Rattle.tm_syntax.specs.Named.{Named, name_cmp}
use Rattle.tm_meaning.specs.Calls.{own_blocks}
use Rattle.tm_meaning.specs.declared.stream.TemplateId.{TemplateId}
use Rattle.tm_blocks.proofs.Alone as blocks
use Rattle.tm_blocks.specs.Lists.{alone_in, with_each}
use Rattle.tm_templates.specs.Templates.{carded}
use Rattle.tm_templates.proofs.Named.{turned}

-- names that were turned into something else are the same names
pub keys-turned : {A B : Type 0} (f : A → B) (ps : Named A) → keys_of (turned f ps) ≡ keys_of ps
keys-turned f [] = refl
keys-turned f (p ∷ ps) = ap (λ ks. p.0 ∷ ks) (keys-turned f ps)

pub keys-carded : (bs : Named BlockCode) → keys_of (map carded bs) ≡ keys_of bs
keys-carded [] = refl
keys-carded (b ∷ bs) = ap (λ ks. b.0 ∷ ks) (keys-carded bs)

own-carded : (t : TemplateId) (bs : Named BlockCode) → alone_in t (keys_of bs) ≡ own_blocks t (map carded bs)
own-carded t [] = refl
own-carded t (b ∷ bs) = ap (λ ls. (b.0, t ∷ []) ∷ ls) (own-carded t bs)

pub each_alone : (t : TemplateId) (bs : Named BlockCode) → IsStrictlySortedBy name_cmp (keys_of bs) →
    with_each t (keys_of bs) [] ≡ own_blocks t (map carded bs)
each_alone t bs order = blocks.each_alone t (keys_of bs) order ∙ own-carded t bs
