-- `dict` and `namespace`: a map, with keyword arguments added.
use Rattle.std.specs.Prelude.{◌≡◌, Bool, List, [], ◌∷◌, ◌++◌, Option, None, Some, Ok, slice_get, is_some}
use Rattle.std.specs.List.{filter}
use Rattle.tm_definitions.specs.Ranges.{given, at_most_arguments}
use Rattle.tm_values.specs.Answer.{Answer, invalid}
use Rattle.tm_values.specs.Map.{IsMap, put_all, put_each}
use Rattle.tm_values.specs.Records.{RecordData, namespace_at}
use Rattle.tm_values.specs.Val.{Val, undefined, none, map, keywords, exports, namespace, entries_of, text_in}

-- the pairs of a keyword map; empty for other values
abbrev pub keyword_pairs : Val → List (Val × Val)
keyword_pairs (keywords ps) = entries_of ps
keyword_pairs _ = []

-- the value, unless it is a keyword map
abbrev pub plain_alone : Val → List Val
plain_alone (keywords ps) = []
plain_alone v = v ∷ []

-- the keyword arguments of a call: the pairs of a keyword map at the end
abbrev pub keywords_of : List Val → List (Val × Val)
keywords_of [] = []
keywords_of (v ∷ []) = keyword_pairs v
keywords_of (v ∷ w ∷ vs) = keywords_of (w ∷ vs)

-- the other arguments
abbrev pub plain_of : List Val → List Val
plain_of [] = []
plain_of (v ∷ []) = plain_alone v
plain_of (v ∷ w ∷ vs) = v ∷ plain_of (w ∷ vs)

abbrev pub namespace_pairs : Option (List (Val × Val)) → Answer (List (Val × Val))
namespace_pairs None = invalid
namespace_pairs (Some ps) = Ok ps

-- the pairs of a map, a module or a namespace; empty without an argument
abbrev pub base_of : RecordData → Option Val → Answer (List (Val × Val))
base_of r None = Ok []
base_of r (Some (undefined silent)) = Ok []
base_of r (Some none) = Ok []
base_of r (Some (map ps)) = Ok (entries_of ps)
base_of r (Some (exports ps s)) = Ok (entries_of ps)
base_of r (Some (namespace state i)) = namespace_pairs (namespace_at r state i)
base_of r (Some _) = invalid

-- the pairs of the plain argument and then the keyword arguments, inserted one after the other
abbrev pub dict_of : RecordData → List Val → Answer (List (Val × Val))
dict_of r vs =
    given (base_of r (slice_get (plain_of vs) 0)) (λ ps.
    at_most_arguments 1 (plain_of vs) (Ok (put_all (ps ++ keywords_of vs))))

-- whether the key is a text
abbrev pub has_text_key : Val × Val → Bool
has_text_key p = is_some (text_in p.0)

abbrev pub text_pairs : List (Val × Val) → List (Val × Val)
text_pairs ps = filter has_text_key ps

-- the initial pairs of a new namespace
abbrev pub namespace_of : RecordData → List Val → Answer (List (Val × Val))
namespace_of r vs = given (dict_of r vs) (λ ps. Ok (text_pairs ps))

-- ---- the law

-- the map stays as it is, and the keyword arguments are added
abbrev pub IsMapWithKeywords : Type 0
IsMapWithKeywords =
    (m ks : List (Val × Val)) → IsMap m → put_all (m ++ ks) ≡ put_each m ks
