use Rattle.std.proofs.Common.{◌≡◌, ◌∙◌, sym, length}
use Rattle.tm_parts.proofs.Operands.{taken_split, taken_past}
use Rattle.tm_parts.proofs.stack.Stack.take.Goals as goal

pub returns-then-held-count-clause-taken : goal.returns-then-held-count-clause-taken
returns-then-held-count-clause-taken c =
    let all : c.len-held.result ≡ length c.self.inside.values.items = c.len-held.ensures ∙ c.self.inside.values.ok.0 in
    rw (sym c.self.view_is) (taken_past c.self.inside.values.items c.len-held.result c.args.count all c.if-held-count.true)

pub returns-clause-taken : goal.returns-clause-taken
returns-clause-taken c =
    let all : c.len-held.result ≡ length c.self.inside.values.items = c.len-held.ensures ∙ c.self.inside.values.ok.0 in
    rw (sym c.self.view_is, c.in_ok-split_off.ensures.tail, c.in_ok-split_off.ensures.items)
    (taken_split c.self.inside.values.items c.len-held.result c.args.count all c.if-held-count.false)
