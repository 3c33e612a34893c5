-- A value is larger than each value in it.
use Rattle.std.specs.Prelude.{◌+◌, ◌≤◌, max, List, [], ◌∷◌}
use Rattle.std.proofs.Common.{arith}
use denote.Param.Weighed.{most}
use Rattle.tm_values.specs.Val.{Val, vals_of, pairs_of, val_size, vals_size, pairs_size}
use Rattle.tm_values.specs.View.{node_view}
use Rattle.tm_values.specs.declared.value.Node.{Node}
use Rattle.tm_values.specs.declared.value.Node.TheVariants as node
use Rattle.tm_values.specs.declared.value.Value.TheDeep.{deep-Node}
use Rattle.tm_values.specs.declared.value.Value.TheShapes.{weighed-Node-Map-0-at-2}

most_vals : (vs : List Val) → most (λ v. val_size v + 1) vs ≤ vals_size (vals_of vs) + 1
most_vals [] = omega arith
most_vals (v ∷ vs) = omega (arith, most_vals vs)

most_pairs : (ps : List (Val × Val))
    → most (weighed-Node-Map-0-at-2.weight Val (λ v. val_size v + 1)) ps
    ≤ pairs_size (pairs_of ps) + 1
most_pairs [] = omega arith
most_pairs (p ∷ ps) = omega (arith, most_pairs ps)

pub deep-le-size : (n : Node) → max (deep-Node n) 0 ≤ val_size (node_view n)
deep-le-size (node.Undefined silent) = omega arith
deep-le-size node.None = omega arith
deep-le-size (node.Boolean b) = omega arith
deep-le-size (node.Number z) = omega arith
deep-le-size (node.Text content safe) = omega arith
deep-le-size (node.List items parts) = omega (arith, most_vals items.value.items)
deep-le-size (node.Map pairs parts) = omega (arith, most_pairs pairs.value.items)
deep-le-size (node.Keywords pairs parts) = omega (arith, most_pairs pairs.value.items)
deep-le-size (node.Exports pairs content size) = omega (arith, most_pairs pairs.value.items)
deep-le-size (node.Function n) = omega arith
deep-le-size (node.Macro m) = omega arith
deep-le-size (node.Loop state n) = omega arith
deep-le-size (node.Namespace state n) = omega arith
