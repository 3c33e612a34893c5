-- The JSON of members, one at a time, and of namespaces.
use Rattle.std.proofs.Common.{◌≡◌, ◌++◌, ℕ, suc, Bool, true, List, [], ◌∷◌, ap, sym, ◌∙◌, append_assoc, Option, Some}
use Rattle.serde_json.specs.Data as json
use Rattle.serde_json.specs.Written.{compact_text, comma_if, members_text}
use Rattle.tm_values.specs.Records.{RecordData, namespace_at}
use Rattle.tm_values.specs.Val.{Val, pairs_of}
use Rattle.tm_definitions.specs.Printed.{entered}
use Rattle.tm_definitions.specs.Json.{NamespaceData, data_of, members_of, key_text, namespace_data}

pub member_first : (inside : NamespaceData) (later : Bool) (left ps : List (Val × Val)) (p : Val × Val) → left ≡ p ∷ ps →
    members_text later (members_of inside (pairs_of left))
    ≡ (comma_if later ++ (key_text p.0 ++ 58 ∷ [])) ++ (compact_text (data_of inside p.1) ++ members_text true (members_of inside
    (pairs_of ps)))
member_first inside later left ps p is =
    let after = compact_text (data_of inside p.1) ++ members_text true (members_of inside (pairs_of ps)) in
    ap (λ (l : List (Val × Val)). members_text later (members_of inside (pairs_of l))) is
    ∙ (ap (λ (l : List ℕ). comma_if later ++ l) (sym (append_assoc (key_text p.0) (58 ∷ []) after))
    ∙ sym (append_assoc (comma_if later) (key_text p.0 ++ 58 ∷ []) after))

-- a namespace that is there, with a level left
pub namespace-there : (r : RecordData) (levels below s n : ℕ) (ps : List (Val × Val)) → levels ≡ suc below → namespace_at r s n ≡ Some ps →
    namespace_data r levels s n ≡ json.object (members_of (namespace_data r below) (pairs_of ps))
namespace-there r levels below s n ps more is =
    ap (λ (l : ℕ). namespace_data r l s n) more
    ∙ ap (λ (o : Option (List (Val × Val))). entered o json.null (λ qs. json.object (members_of (namespace_data r below) qs))) is
