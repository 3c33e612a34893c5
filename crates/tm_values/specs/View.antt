-- The plain data of a node, and its invariants.
use Rattle.std.specs.Prelude.{◌≡◌, ◌+◌}
use Rattle.tm_values.specs.Map.{IsMap}
use Rattle.tm_values.specs.Parts.{parts_of_vals, parts_of_pairs}
use Rattle.tm_values.specs.Val.{Val, undefined, none, boolean, number, text, list, map, keywords, exports, function, macro, loop, namespace}
use Rattle.tm_values.specs.Val.{vals_of, pairs_of, pairs_size, text_size}
use Rattle.tm_values.specs.declared.value.Node.{Node}
use Rattle.tm_values.specs.declared.value.Node.TheVariants as node

abbrev pub node_view : Node → Val
node_view (node.Undefined silent) = undefined silent
node_view node.None = none
node_view (node.Boolean b) = boolean b
node_view (node.Number z) = number z
node_view (node.Text content safe) = text content safe
node_view (node.List items parts) = list (vals_of items.value.items)
node_view (node.Map pairs parts) = map (pairs_of pairs.value.items)
node_view (node.Keywords pairs parts) = keywords (pairs_of pairs.value.items)
node_view (node.Exports pairs content size) = exports (pairs_of pairs.value.items) content
node_view (node.Function n) = function n
node_view (node.Macro m) = macro m.value
node_view (node.Loop state n) = loop state n
node_view (node.Namespace state n) = namespace state n

-- the keys of a map, a keyword map and a module are ascending, and what is stored about their parts
-- is true
abbrev pub IsWellMade : Node → Type 0
IsWellMade (node.List items parts) = parts ≡ parts_of_vals (vals_of items.value.items)
IsWellMade (node.Map pairs parts) =
    IsMap pairs.value.items × (parts ≡ parts_of_pairs (pairs_of pairs.value.items))
IsWellMade (node.Keywords pairs parts) =
    IsMap pairs.value.items × (parts ≡ parts_of_pairs (pairs_of pairs.value.items))
IsWellMade (node.Exports pairs content size) =
    IsMap pairs.value.items
    × (size ≡ text_size content + (pairs_size (pairs_of pairs.value.items) + 1))
IsWellMade _ = Unit {0}
