use Rattle.std.proofs.Common.{◌∙◌}
use Rattle.std.proofs.lemmas.Result.{on_ok_weaker}
use Rattle.tm_names.proofs.Forms.{nested-chain, plain-chain}
use Rattle.tm_names.proofs.walker.Walker.read_chain.Goals as goal

pub returns-then-nested : goal.returns-then-nested
returns-then-nested c =
    on_ok_weaker c.read_as.result
    (nested-chain c.args.nested c.args.name.now c.as_str-then-nested.result.now c.args.after.now c.args.self.now c.read_as.new.self
    c.if-nested.true (c.as_str-then-nested.ensures.value
    ∙ c.in_ok-text.ensures)) (rw (← c.as_str.ensures) c.read_as.ensures)

pub returns : goal.returns
returns c =
    on_ok_weaker c.read.result
    (plain-chain c.args.nested c.args.name.now c.args.after.now c.args.self.now c.read.new.self c.if-nested.false) (rw (← c.as_str-2.ensures) c.read.ensures)
