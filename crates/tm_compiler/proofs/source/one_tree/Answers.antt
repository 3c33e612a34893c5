use Rattle.tm_compiler.proofs.Sources.{of_tokens}
use Rattle.tm_compiler.proofs.source.one_tree.Goals as goal

pub returns : goal.returns
returns c = λ s source a b h k. c.one_tree.ensures h.tokens a b h.parsed (of_tokens s source h.tokens b h.scanned k)
