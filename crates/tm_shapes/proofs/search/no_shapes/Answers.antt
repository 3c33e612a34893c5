use Rattle.std.proofs.Common.{◌≡◌, ◌++◌, [], drop, ap, sym, ◌∙◌, arith}
use Rattle.std.proofs.lemmas.List.{append-nil}
use Rattle.tm_shapes.proofs.Searching.{nones, unshaped_is}
use Rattle.tm_shapes.proofs.Rests.{none_left}
use Rattle.tm_shapes.proofs.search.no_shapes.Goals as goal

pub returns : goal.returns
returns c =
    let items = c.loop-instruction.shapes.items in
    let over : drop c.loop-instruction._instruction-index c.args.code.now ≡ [] =
    none_left c.args.code.now c.loop-instruction._instruction-index (omega (arith, c.loop-instruction-test.false)) in
    sym (append-nil items) ∙ ap (λ xs. items ++ nones xs) (sym over) ∙ c.loop-instruction.invariant ∙ sym (unshaped_is c.args.code.now)
