use Rattle.std.proofs.Common.{◌≡◌, ◌∙◌, sym, length}
use Rattle.tm_parts.proofs.Operands.{left_below}
use Rattle.tm_parts.proofs.stack.Stack.remove.Goals as goal

pub returns : goal.returns
returns c =
    let all : c.len.result ≡ length c.self.inside.values.items = c.len.ensures ∙ c.self.inside.values.ok.0 in
    rw (c.truncate.ensures.items, c.saturating_sub.ensures, sym c.self.view_is)
    (left_below c.self.inside.values.items c.len.result c.args.count all)
