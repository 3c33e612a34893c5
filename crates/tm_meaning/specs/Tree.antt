-- Templates as trees, and the trees of their streams.
use Rattle.std.specs.Prelude.{ℕ, List, map as each, Option, Some, None, false}
use Rattle.tm_values.specs.declared.escape.AutoEscape.{AutoEscape}
pub use Rattle.tm_syntax.specs.Blocks.{Body, body_of, empty, FoundBlock, StreamTree, statements, expression, stream_blocks}
use Rattle.tm_syntax.specs.Named.{by_name}
use Rattle.tm_meaning.specs.World.{Named, find, TemplateId, own, entry, StreamId, Card, Template, or_is}

-- A template as a tree: its name, its escape, and its root, which is statements or an expression.
pub record TemplateTree : Type 0 where
  pub name : List ℕ
  pub escape : AutoEscape
  pub root : StreamTree

abbrev pub card : Card
card = record { required = false }

abbrev pub carded : List ℕ × FoundBlock → List ℕ × Card
carded b = (b.0, record { required = b.1.required })

abbrev pub template_of : TemplateTree → Template
template_of t = record { name = t.name; escape = t.escape; root = card; blocks = each carded (by_name (stream_blocks t.root)) }

-- the trees of the streams
abbrev pub Trees : Type 0
Trees = StreamId → StreamTree

abbrev pub or_empty : Option FoundBlock → Body
or_empty None = empty
or_empty (Some b) = b.body

abbrev pub part_of : TemplateTree → Option (List ℕ) → StreamTree
part_of t None = t.root
part_of t (Some b) = statements (or_empty (find b (by_name (stream_blocks t.root))))

abbrev pub tree_at : TemplateTree → Named TemplateTree → TemplateId → TemplateTree
tree_at t ts own = t
tree_at t ts (entry x) = or_is (find x ts) t

-- the streams of the rendered template and of the environment's
abbrev pub trees_of : TemplateTree → Named TemplateTree → Trees
trees_of t ts s = part_of (tree_at t ts s.template) s.block
