-- Worked examples: calls of `range`, `dict` and `namespace`, and values with their namespaces
-- replaced by maps.
use Rattle.std.specs.Prelude.{◌≡◌, ℕ, ℤ, pos, false, List, [], map as each, Option, Ok, codes}
use Rattle.std.specs.declared.cmp.Ordering.TheVariants.{Less}
use Rattle.tm_definitions.specs.Mapped.{with_maps}
use Rattle.tm_definitions.specs.Maps.{dict_of, namespace_of}
use Rattle.tm_definitions.specs.Ranges.{number_list, range_of}
use Rattle.tm_values.specs.Answer.{invalid, refused}
use Rattle.tm_values.specs.Records.{RecordData, no_records}
use Rattle.tm_values.specs.Order.{val_cmp}
use Rattle.tm_values.specs.Val.{Val, MacroData, number, text, map, keywords, macro, pairs_of}
use Rattle.tm_values.specs.declared.error.ErrorKind.{ErrorKind}

abbrev pub RangeIs : List Val → List ℤ → Type 0
RangeIs arguments zs = range_of arguments ≡ Ok (number_list zs)

abbrev pub RangeFails : List Val → ErrorKind → Type 0
RangeFails arguments kind = range_of arguments ≡ refused kind

abbrev pub DictIs : List Val → List (Val × Val) → Type 0
DictIs arguments ps = dict_of no_records arguments ≡ Ok ps

abbrev pub DictFails : List Val → ErrorKind → Type 0
DictFails arguments kind = dict_of no_records arguments ≡ refused kind

abbrev pub NamespaceIs : List Val → List (Val × Val) → Type 0
NamespaceIs arguments ps = namespace_of no_records arguments ≡ Ok ps

abbrev pub numbers : List ℕ → List Val
numbers ns = each (λ n. number (pos n)) ns

-- the text "a"
abbrev pub letter : Val
letter = text (codes "a") false

-- the pair of the text "a", or "b", and the number
abbrev pub a_is : ℕ → Val × Val
a_is n = (letter, number (pos n))

abbrev pub b_is : ℕ → Val × Val
b_is n = (text (codes "b") false, number (pos n))

abbrev pub map_of : List (Val × Val) → Val
map_of ps = map (pairs_of ps)

abbrev pub keywords_given : List (Val × Val) → Val
keywords_given ps = keywords (pairs_of ps)

-- the macro with this entry, closure and name
abbrev pub macro_at : ℕ → Option ℕ → List ℕ → Val
macro_at entry closure name = macro (record {
  state = 0;
  stream = 0;
  entry = entry;
  closure = closure;
  name = name;
  arguments = [];
  caller = false;
})

-- the first is below the second in the order of values
abbrev pub IsBelow : Val → Val → Type 0
IsBelow v w = val_cmp v w ≡ Less

-- the records of the state 0, with these namespaces
abbrev pub records_with : List (List (Val × Val)) → RecordData
records_with namespaces = record { state = 0; namespaces = namespaces; loops = [] }

abbrev pub MapsAre : List (List (Val × Val)) → Val → Val → Type 0
MapsAre namespaces v w = with_maps (records_with namespaces) v ≡ Ok w

abbrev pub MapsFail : List (List (Val × Val)) → Val → Type 0
MapsFail namespaces v = with_maps (records_with namespaces) v ≡ invalid
