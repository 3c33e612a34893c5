-- The text of a namespace that is there.
use Rattle.std.proofs.Common.{◌≡◌, ℕ, List, ap, ◌∙◌, suc, [], Option, Some}
use Rattle.tm_values.specs.Records.{RecordData, namespace_at}
use Rattle.tm_values.specs.Val.{Val, pairs_of}
use Rattle.tm_definitions.specs.Printed.{entered, map_text, namespace_text}

-- a namespace that is there, with a level left
pub namespace-there : (r : RecordData) (levels below s n : ℕ) (ps : List (Val × Val)) → levels ≡ suc below → namespace_at r s n ≡ Some ps →
    namespace_text r levels s n ≡ map_text r (namespace_text r below) (pairs_of ps)
namespace-there r levels below s n ps more is =
    ap (λ (l : ℕ). namespace_text r l s n) more
    ∙ ap (λ (o : Option (List (Val × Val))). entered o [] (map_text r (namespace_text r below))) is
