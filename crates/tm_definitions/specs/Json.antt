-- Values as JSON: `serde_json`'s data, whose compact text is written.
use Rattle.std.specs.Prelude.{ℕ, zero, suc, ℤ, pos, negsuc, Bool, List, [], ◌∷◌, ◌++◌, length, unwrap_or}
use Rattle.serde_json.specs.Data as json
use Rattle.serde_json.specs.Written.{compact_text, comma_if}
use Rattle.json.specs.Print.{quoted}
use Rattle.tm_values.specs.Records.{RecordData, namespace_at}
use Rattle.tm_values.specs.Val.{Val, undefined, none, boolean, number, text, list, map, keywords, exports, function, macro, loop, namespace}
use Rattle.tm_values.specs.Val.{text_in, Vals, no_vals, val, Pairs, no_pairs, pair}
use Rattle.tm_definitions.specs.Printed.{entered}

abbrev pub number_data : ℤ → json.Num
number_data (pos n) = json.unsigned n
number_data (negsuc n) = json.negative (negsuc n)

-- a key that isn't a text is refused; here it has no bytes
abbrev pub key_bytes : Val → List ℕ
key_bytes k = unwrap_or (text_in k) []

-- the data of namespaces, by state and number
abbrev pub NamespaceData : Type 0
NamespaceData = ℕ → ℕ → json.Data

abbrev mutual
  -- macros, functions and loops are refused; here they are null
  pub data_of : NamespaceData → Val → json.Data
  data_of inside (undefined silent) = json.null
  data_of inside none = json.null
  data_of inside (boolean truth) = json.boolean truth
  data_of inside (number z) = json.number (number_data z)
  data_of inside (text s safe) = json.string s
  data_of inside (list vs) = json.array (items_of inside vs)
  data_of inside (map ps) = json.object (members_of inside ps)
  data_of inside (keywords ps) = json.object (members_of inside ps)
  data_of inside (exports ps s) = json.object (members_of inside ps)
  data_of inside (function n) = json.null
  data_of inside (macro m) = json.null
  data_of inside (loop s n) = json.null
  data_of inside (namespace s n) = inside s n

  pub items_of : NamespaceData → Vals → json.Items
  items_of inside no_vals = json.no_items
  items_of inside (val v vs) = json.item (data_of inside v) (items_of inside vs)

  pub members_of : NamespaceData → Pairs → json.Members
  members_of inside no_pairs = json.no_members
  members_of inside (pair k v ps) =
      json.member (key_bytes k) (data_of inside v) (members_of inside ps)

abbrev pub object_data : NamespaceData → Pairs → json.Data
object_data inside ps = json.object (members_of inside ps)

-- a namespace is the object of its content
abbrev pub namespace_data : RecordData → ℕ → NamespaceData
namespace_data r zero s n = json.null
namespace_data r (suc levels) s n =
    entered (namespace_at r s n) json.null (object_data (namespace_data r levels))

-- the text of a key
abbrev pub key_text : Val → List ℕ
key_text k = quoted (key_bytes k)

abbrev pub json_within : RecordData → ℕ → Val → List ℕ
json_within r levels v = compact_text (data_of (namespace_data r levels) v)

abbrev pub json_text : RecordData → Val → List ℕ
json_text r v = json_within r (length r.namespaces) v
